-- The answers of a machine and of the ledger in words.
use Rattle.std.specs.Prelude.{ℕ, cond, List, ◌++◌, length, eqb}
use Rattle.wire.specs.Refusals.{Said}
use Rattle.records.specs.Answers.{AccountShown}
use Rattle.text.specs.Ascii.{ascii}
use Rattle.text.specs.Pages.{decimal, signed, hexadecimal}
use Rattle.refusals.specs.Refusals.{answer_text, value}

-- how many machines
abbrev pub machines_text : ℕ → List ℕ
machines_text n = decimal n ++ cond (eqb n 1) (ascii " machine") (ascii " machines")

-- the answer on an order
unfoldable pub order_text : Said → List ℕ
order_text said = answer_text said (cond (eqb (value said 0) 0) (ascii "vote, new") (ascii "vote, repeated"))

-- the answer on a certificate
unfoldable pub certificate_text : Said → List ℕ
certificate_text said =
    answer_text said
    (cond (eqb (value said 0) 0) (ascii "confirmed by ") (ascii "already: this sequence was confirmed before; votes of ") ++ machines_text (value said 1))

-- the answer on a funding order
unfoldable pub funding_text : Said → List ℕ
funding_text said = answer_text said (ascii "funding taken")

-- the answer on reading an account
unfoldable pub account_text : ℕ → AccountShown → List ℕ
account_text account shown =
    answer_text shown.answer
    (ascii "account "
    ++ decimal account
    ++ cond (eqb (value shown.answer 0) 1) (ascii ": in use, next ") (ascii ": not in use, next ")
    ++ decimal (value shown.answer 1)
    ++ ascii ", balance "
    ++ signed shown.balance
    ++ ascii ", free to spend "
    ++ decimal (value shown.answer 2))

-- the standing body
unfoldable pub standing_text : List ℕ → List ℕ
standing_text body = cond (eqb (length body) 0) (ascii "no standing body") (ascii "standing body " ++ hexadecimal body)

-- the answer on funding: the funding order for the machines
unfoldable pub fund_text : Said → List ℕ → List ℕ
fund_text said order = answer_text said (ascii "funding order " ++ decimal (value said 0) ++ ascii ": " ++ hexadecimal order)

-- the answer on a certificate to redeem
unfoldable pub redeem_text : Said → List ℕ
redeem_text said = answer_text said (ascii "paid " ++ decimal (value said 1) ++ ascii " to ledger account " ++ decimal (value said 0))

-- the answer on reading the pot
unfoldable pub pot_text : Said → List ℕ
pot_text said = answer_text said (ascii "pot " ++ decimal (value said 1) ++ ascii ", last funding index " ++ decimal (value said 0))

-- the answer on reading the log
unfoldable pub log_text : ℕ → ℕ → Said → List ℕ
log_text account sequence said =
    answer_text said
    (ascii "account "
    ++ decimal account
    ++ ascii ", sequence "
    ++ decimal sequence
    ++ cond (eqb (value said 0) 1) (ascii ": redeemed") (ascii ": not redeemed"))
