-- What messages say in words, and messages that were written.
use Rattle.std.specs.Prelude.{ℕ, cond, List, [], ◌∷◌, ◌++◌, get_or, take, drop, eqb}
use Rattle.wire.specs.Refusals.{Said}
use Rattle.wire.specs.Readers.{BodyShown, OrderShown}
use Rattle.wire.specs.Writers.{Written}
use Rattle.wire.specs.declared.kinds.Note.{Note}
use Rattle.text.specs.Ascii.{ascii}
use Rattle.text.specs.Pages.{decimal, hexadecimal}
use Rattle.refusals.specs.Refusals.{answer_text, value}

-- what was written
unfoldable pub written_text : Written → List ℕ
written_text w = answer_text w.answer (hexadecimal (take (value w.answer 0) w.out))

-- sender, kind, recipient, amount, sequence
unfoldable pub payment_text : List ℕ → List ℕ
payment_text vs =
    ascii "account "
    ++ decimal (get_or vs 0 0)
    ++ cond (eqb (get_or vs 1 0) 0) (ascii " pays account ") (ascii " pays ledger account ")
    ++ decimal (get_or vs 2 0)
    ++ ascii ", amount "
    ++ decimal (get_or vs 3 0)
    ++ ascii ", sequence "
    ++ decimal (get_or vs 4 0)

-- a note
unfoldable pub note_text : Note → List ℕ
note_text note = cond (eqb note.length 0) (ascii ", no note") (ascii ", note " ++ hexadecimal (take note.length note.bytes))

-- a body that was read
unfoldable pub body_text : BodyShown → List ℕ
body_text shown = answer_text shown.answer (ascii "body: " ++ payment_text shown.answer.values ++ note_text shown.note)

-- an order that was read
unfoldable pub order_read_text : OrderShown → List ℕ
order_read_text shown =
    answer_text shown.answer
    (ascii "order: "
    ++ payment_text shown.answer.values
    ++ note_text shown.note
    ++ ascii ", signature "
    ++ hexadecimal shown.signature)

-- machines, one after another
unfoldable pub machines_named : List ℕ → List ℕ
machines_named [] = []
machines_named (k ∷ ks) = ascii " " ++ decimal k ++ machines_named ks

-- a payment with its note, and the machines that voted for it
unfoldable pub certified_text : List ℕ → Note → List ℕ → List ℕ
certified_text vs note machines =
    ascii "certificate: "
    ++ payment_text vs
    ++ note_text note
    ++ ascii ", votes by"
    ++ machines_named machines

-- a certificate that was read: the number of machines comes before the payment's values
unfoldable pub certificate_read_text : Said → Note → List ℕ → List ℕ
certificate_read_text said note machines = answer_text said (certified_text (drop 1 said.values) note machines)

-- a funding order that was read
unfoldable pub funding_read_text : Said → List ℕ
funding_read_text said =
    answer_text said
    (ascii "funding order "
    ++ decimal (value said 0)
    ++ ascii ": account "
    ++ decimal (value said 1)
    ++ ascii ", amount "
    ++ decimal (value said 2))
