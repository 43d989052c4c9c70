-- Document 01, How tight the promises are: two outcomes that a contract of wire, messages or writing allows are equal. Each theorem has the name of its
-- function and takes two results that meet the function's contract. Assumes nothing.
use Rattle.std.specs.Prelude.{ℕ, zero, suc, ◌+◌, ◌≡◌, refl, Bool, List, [], ◌∷◌, length, get_or, drop, Option, Some, None, Result, Ok, Err}
use Rattle.std.specs.Borrow.{Bor}
use Rattle.std.proofs.Common.{sym, ap, ◌∙◌, arith}
use Rattle.octets.specs.Tests.{need}
use Rattle.wire.specs.Fields.{Want, size, past, past_all, laid, reader_at, reached}
use Rattle.wire.specs.Messages.{body_fields, order_fields, certificate_fields, funding_fields, payment, inside}
use Rattle.wire.specs.Refusals.{Said, refusal_number, said, body_said, funding_said, certificate_said, write_said}
use Rattle.wire.specs.Readers as readers
use Rattle.wire.specs.Writers.{Written, written, write_body, write_order, write_funding, write_certificate}
use Rattle.wire.specs.declared.fields.Reader.{Reader}
use Rattle.wire.specs.declared.kinds.Payment.{Payment}
use Rattle.wire.specs.declared.kinds.Funding.{Funding}
use Rattle.wire.specs.declared.answers.Refusal.{Refusal}
use Rattle.wire.specs.declared.answers.Body.{Body}
use Rattle.wire.specs.declared.answers.Order.{Order}
use Rattle.wire.specs.declared.answers.Certified.{Certified}
use Rattle.wire.specs.declared.answers.Stretch.{Stretch}
use Rattle.votes.specs.Tally.{votes_said}
use Rattle.messages.proofs.Told.{payment_of, funding_of}

-- a function with a way back is injective
pub back_injective : {A B : Type 0} (f : A → B) (g : B → A) (law : (a : A) → g (f a) ≡ a) (a b : A) → f a ≡ f b → a ≡ b
back_injective f g law a b e = sym (law a) ∙ ap g e ∙ law b

-- the refusals in the order of their numbers from 1
abbrev pub refusals : List Refusal
refusals =
    Refusal.Malformed ∷ Refusal.OutOfRange ∷ Refusal.VerdictCount ∷ Refusal.BadVerdict ∷ Refusal.UnknownMachine ∷ Refusal.VotesNotRising
    ∷ Refusal.TooFewVotes ∷ Refusal.SenderNotInUse ∷ Refusal.AnotherPending ∷ Refusal.NotNextSequence ∷ Refusal.BalanceTooLow ∷ Refusal.NotNextIndex
    ∷ Refusal.NotToLedger ∷ Refusal.AlreadyRedeemed ∷ Refusal.PotTooLow ∷ Refusal.BadState ∷ Refusal.IndexExhausted ∷ Refusal.BufferTooSmall ∷ []

-- an answer with its number and what it is at number 0
abbrev pub answered : {A : Type 0} (refused : Refusal → A) → ℕ → A → A
answered refused zero a = a
answered refused (suc n) a = refused (get_or refusals n Refusal.Malformed)

-- a refusal's number leads back to the refusal
pub answered_refusal : {A : Type 0} (refused : Refusal → A) (a : A) (r : Refusal) → answered refused (refusal_number r) a ≡ refused r
answered_refusal refused a r = grind arith

-- refusals with the same number are the same
pub refusal_number_injective : (a b : Refusal) → refusal_number a ≡ refusal_number b → a ≡ b
refusal_number_injective = back_injective refusal_number (λ n. answered (λ r. r) n Refusal.Malformed) (answered_refusal (λ r. r) Refusal.Malformed)

-- results are told apart by what is shown of them, where a number and a way back are in it
pub shown_injective : {A S : Type 0} (shown : Result A Refusal → S) (number : S → ℕ) (given : S → A)
    → ((a : A) → answered Err (number (shown (Ok a))) (Ok (given (shown (Ok a)))) ≡ Ok a)
    → ((r : Refusal) → number (shown (Err r)) ≡ refusal_number r) → (a b : Result A Refusal) → shown a ≡ shown b → a ≡ b
shown_injective shown number given ok err = back_injective shown (λ s. answered Err (number s) (Ok (given s)))
    (λ a. elim a as (λ k. answered Err (number (shown k)) (Ok (given (shown k))) ≡ k)
    [ Ok a ↦ ok a | Err r ↦ ap (λ n. answered Err n (Ok (given (shown (Err r))))) (err r) ∙ answered_refusal Err _ r ])

-- an answer that its number and values lead back to is told apart by them
pub said_injective : {A : Type 0} (told : A → Said) (refused : Refusal → A) (given : List ℕ → A) (law : (a : A) → answered refused (told a).number (given (told a).values) ≡ a) (a b : A)
    → told a ≡ told b → a ≡ b
said_injective told refused given law = back_injective told (λ s. answered refused s.number (given s.values)) law

-- what is said of a result leads back to it where the values lead back to what they are of
pub leads_back : {A : Type 0} {values : A → List ℕ} (given : List ℕ → A) (law : (a : A) → given (values a) ≡ a) (r : Result A Refusal)
    → answered Err (said values r).number (Ok (given (said values r).values)) ≡ r
leads_back given law (Ok a) = ap Ok (law a)
leads_back given law (Err r) = answered_refusal Err _ r

-- and tells results apart
pub values_injective : {A : Type 0} {values : A → List ℕ} (given : List ℕ → A) (law : (a : A) → given (values a) ≡ a) (a b : Result A Refusal)
    → said values a ≡ said values b → a ≡ b
values_injective {values = values} given law = said_injective (said values) Err (λ vs. Ok (given vs)) (leads_back given law)

-- answers of the reader of a body or an order
pub body_said_injective : (a b : Result Payment Refusal) → body_said a ≡ body_said b → a ≡ b
body_said_injective = values_injective payment_of (λ p. refl)

-- answers of the reader of a funding order
pub funding_said_injective : (a b : Result Funding Refusal) → funding_said a ≡ funding_said b → a ≡ b
funding_said_injective = values_injective funding_of (λ o. refl)

-- answers of the reader of a certificate
pub certificate_said_injective : (a b : Result Certified Refusal) → certificate_said a ≡ certificate_said b → a ≡ b
certificate_said_injective = values_injective (λ vs. record { payment = payment_of (drop 1 vs); machines = get_or vs 0 0 }) (λ c. refl)

-- answers of the judge of a certificate without the payment
pub votes_said_injective : (a b : Result ℕ Refusal) → votes_said a ≡ votes_said b → a ≡ b
votes_said_injective = values_injective (λ vs. get_or vs 0 0) (λ n. refl)

-- answers of a writer
pub write_said_injective : (a b : Result ℕ Refusal) → write_said a ≡ write_said b → a ≡ b
write_said_injective = votes_said_injective

-- what the reader of a body gives, the note too
pub body_shown_injective : (a b : Result Body Refusal) → readers.body_shown a ≡ readers.body_shown b → a ≡ b
body_shown_injective =
    shown_injective readers.body_shown (λ s. s.answer.number) (λ s. record { payment = payment_of s.answer.values; note = s.note }) (λ b. refl) (λ r. refl)

-- what the reader of an order gives, the note and the signature too
pub order_shown_injective : (a b : Result Order Refusal) → readers.order_shown a ≡ readers.order_shown b → a ≡ b
order_shown_injective =
    shown_injective readers.order_shown (λ s. s.answer.number)
    (λ s. record { payment = payment_of s.answer.values; note = s.note; signature = s.signature }) (λ o. refl) (λ r. refl)

-- two outcomes that are shown as the same are equal, where what is shown tells outcomes apart
determined : {A B : Type 0} {shown : A → B} → ((a b : A) → shown a ≡ shown b → a ≡ b) → {x : B} (r s : A) → shown r ≡ x → shown s ≡ x → r ≡ s
determined injective r s p q = injective r s (p ∙ sym q)

-- the same where the outcome itself is given
equal : {A : Type 0} {x : A} (r s : A) → r ≡ x → s ≡ x → r ≡ s
equal r s p q = p ∙ sym q

pub new : (message : Bor (List ℕ)) (r s : Reader) → r ≡ reader_at message 0 → s ≡ reader_at message 0 → r ≡ s
new message = equal

pub field : (from : Reader) (tag least most : ℕ) (r s : Option Reader) → r ≡ reached from.message (past from.message.now from.at tag least most)
    → s ≡ reached from.message (past from.message.now from.at tag least most) → r ≡ s
field from tag least most = equal

pub fields : (from : Reader) (tag size : ℕ) (r s : Option Reader)
    → r ≡ reached from.message (past_all (length from.message.now) from.message.now from.at tag size size)
    → s ≡ reached from.message (past_all (length from.message.now) from.message.now from.at tag size size) → r ≡ s
fields from tag size = equal

pub payment_lem : (message : List ℕ) (r s : Payment) → r ≡ payment (inside message) → s ≡ payment (inside message) → r ≡ s
payment_lem message = equal

pub body_laid : (body : List ℕ) (r s : Bool) → r ≡ laid body body_fields → s ≡ laid body body_fields → r ≡ s
body_laid body = equal

pub funding_laid : (message : List ℕ) (r s : Bool) → r ≡ laid message funding_fields → s ≡ laid message funding_fields → r ≡ s
funding_laid message = equal

-- the end of the first field, where a message has these fields
abbrev first_end : List Want → List ℕ → Option ℕ
first_end fields message = need (laid message fields) None (Some (3 + size message 0))

pub order_end : (message : List ℕ) (r s : Option ℕ) → r ≡ first_end order_fields message → s ≡ first_end order_fields message → r ≡ s
order_end message = equal

pub certificate_end : (message : List ℕ) (r s : Option ℕ) → r ≡ first_end certificate_fields message → s ≡ first_end certificate_fields message → r ≡ s
certificate_end message = equal

pub read_payment_lem : (body : List ℕ) (r s : Result Payment Refusal) → body_said r ≡ readers.read_payment body → body_said s ≡ readers.read_payment body → r ≡ s
read_payment_lem body = determined body_said_injective

pub read_body_lem : (message : List ℕ) (r s : Result Body Refusal) → readers.body_shown r ≡ readers.read_body message → readers.body_shown s ≡ readers.read_body message → r ≡ s
read_body_lem message = determined body_shown_injective

pub order_payment : (message : List ℕ) (r s : Result Payment Refusal) → body_said r ≡ readers.read_order_payment message
    → body_said s ≡ readers.read_order_payment message → r ≡ s
order_payment message = determined body_said_injective

pub read_order_lem : (message : List ℕ) (r s : Result Order Refusal) → readers.order_shown r ≡ readers.read_order message
    → readers.order_shown s ≡ readers.read_order message → r ≡ s
read_order_lem message = determined order_shown_injective

pub read_funding_lem : (message : List ℕ) (r s : Result Funding Refusal) → funding_said r ≡ readers.read_funding message → funding_said s ≡ readers.read_funding message → r ≡ s
read_funding_lem message = determined funding_said_injective

pub read_certificate_lem : (f : ℕ) (message : List ℕ) (r s : Result Certified Refusal) → certificate_said r ≡ readers.read_certificate f message
    → certificate_said s ≡ readers.read_certificate f message → r ≡ s
read_certificate_lem f message = determined certificate_said_injective

pub judge_certificate : (f : ℕ) (message verdicts : List ℕ) (r s : Result Certified Refusal) → certificate_said r ≡ readers.judged f message verdicts
    → certificate_said s ≡ readers.judged f message verdicts → r ≡ s
judge_certificate f message verdicts = determined certificate_said_injective

pub judge : (f : ℕ) (message verdicts : List ℕ) (r s : Result ℕ Refusal) → votes_said r ≡ readers.count_of (readers.judged f message verdicts)
    → votes_said s ≡ readers.count_of (readers.judged f message verdicts) → r ≡ s
judge f message verdicts = determined votes_said_injective

-- the two parts of the message are equal as lists of bytes
pub covered : (message r s : List ℕ) → r ≡ readers.covered message → s ≡ readers.covered message → r ≡ s
covered message = equal

pub covered_at_lem : (message : List ℕ) (r s : Stretch) → r ≡ readers.covered_at message → s ≡ readers.covered_at message → r ≡ s
covered_at_lem message = equal

-- two answers of a writer with the outputs after them
writer : {w : Written} (r s : Result ℕ Refusal) (o p : List ℕ) → written r o ≡ w → written s p ≡ w → (r ≡ s) × (o ≡ p)
writer r s o p g h =
    let e : written r o ≡ written s p = g ∙ sym h in
    (write_said_injective r s (ap (λ w. w.answer) e), ap (λ w. w.out) e)

pub write_body_lem : (out : List ℕ) (payment : Payment) (note : List ℕ) (r s : Result ℕ Refusal) (o p : List ℕ) → written r o ≡ write_body out payment note
    → written s p ≡ write_body out payment note → (r ≡ s) × (o ≡ p)
write_body_lem out payment note = writer

pub write_order_lem : (out : List ℕ) (payment : Payment) (note signature : List ℕ) (r s : Result ℕ Refusal) (o p : List ℕ)
    → written r o ≡ write_order out payment note signature → written s p ≡ write_order out payment note signature → (r ≡ s) × (o ≡ p)
write_order_lem out payment note signature = writer

pub write_funding_lem : (out : List ℕ) (funding : Funding) (r s : Result ℕ Refusal) (o p : List ℕ) → written r o ≡ write_funding out funding
    → written s p ≡ write_funding out funding → (r ≡ s) × (o ≡ p)
write_funding_lem out funding = writer

pub write_certificate_lem : (f : ℕ) (out body run : List ℕ) (r s : Result ℕ Refusal) (o p : List ℕ) → written r o ≡ write_certificate f out body run
    → written s p ≡ write_certificate f out body run → (r ≡ s) × (o ≡ p)
write_certificate_lem f out body run = writer
