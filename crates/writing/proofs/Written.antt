-- Laws of what writers put: stretches one after another, the lengths of messages, and what their values keep to. Assumes nothing.
use Prim.Native.Nat.{ℕ, zero, suc, ◌+◌, ◌-◌, ◌*◌, ◌/◌, ◌%◌, ◌^◌, ◌<◌, ◌≤◌}
use mathlib.Core.Path.{◌≡◌, refl, sym, subst, ◌∙◌}
use mathlib.Core.Bool.{Bool, true, false, not, false≢true, and-eq-true_iff}
use mathlib.Core.List.{List, [], ◌∷◌, ◌++◌, append_assoc}
use native.Mathlib.Omega.{arith}
use lib.ListN.{length, take, drop, length-append, length-take, length-drop, drop_of_length-le}
use lib.Pow.{pow_mono, shl_exact}
use native.Mathlib.Nat.{one-mul}
use lib.Seq.{take-append_seam, drop-append_seam}
use borrow.Author.Tests.{not-true, not-false, leb-true, le-leb, lt-leb}
use Rattle.octets.specs.Octets.{one, two, bytes, put}
use Rattle.octets.proofs.Laws.{put_append, length_bytes}
use Rattle.wire.specs.Numbers.{is_recipient}
use Rattle.wire.specs.Fields.{field}
use Rattle.wire.specs.Messages.{is_payment, body_bytes, order_bytes, is_funding, funding_bytes}
use Rattle.wire.specs.Votes.{vote_fields, certificate_bytes}
use Rattle.wire.specs.Refusals.{gives}
use Rattle.wire.specs.Writers.{Written, writes, unwritten}
use Rattle.wire.specs.declared.kinds.Payment.{Payment}
use Rattle.wire.specs.declared.kinds.Funding.{Funding}

-- by these the length of bytes in a row is worked out
pub ruleset lengths = (length-append, length_bytes)

-- the answer of a test that code has turned round
pub holds : {r t : Bool} → r ≡ t → not r ≡ false → t ≡ true
holds {r = r} e h = sym e ∙ not-false r h

pub fails : {r t : Bool} → r ≡ t → not r ≡ true → t ≡ false
fails {r = r} e h = sym e ∙ not-true r h

-- what is put right behind a stretch makes one stretch with it
pub put_behind : {t u : List ℕ} {next : ℕ} (s : List ℕ) (at : ℕ) (a b : List ℕ) → t ≡ put s at a → u ≡ put t next b → next ≡ at + length a → u ≡ put s at (a ++ b)
put_behind s at a b p q e = q ∙ rw (p, e) (sym (put_append s at a b))

-- a value put behind a field's tag and length makes the field with them
pub put_value : {t u : List ℕ} {n : ℕ} (s : List ℕ) (at tag : ℕ) (value : List ℕ) → t ≡ put s at (bytes one tag ++ bytes two n) → u ≡ put t (at + 3) value → length value ≡ n → u ≡ put s at (field tag value)
put_value {n = n} s at tag value p q e =
    rw (e, ← append_assoc) (put_behind s at (bytes one tag ++ bytes two n) value p q (simp lengths))

-- how many bytes a width has, as code counts them
pub width_size : (k : ℕ) → k ≤ 3 → (1 * 2 ^ k) % 18446744073709551616 ≡ 2 ^ k
width_size k h = shl_exact {a = 1} 1 k 64 (omega arith) (omega arith) ∙ one-mul (2 ^ k)

pub width_most : (k : ℕ) → k ≤ 3 → 2 ^ k ≤ 8
width_most k h = pow_mono h

-- how long each message is
pub length_body : (p : Payment) (note : List ℕ) → length (body_bytes p note) ≡ 25 + length note
unfolding body_bytes
length_body p note = simp lengths (omega arith)

pub length_order : (p : Payment) (note signature : List ℕ) → length signature ≡ 64 → length (order_bytes p note signature) ≡ 25 + length note + 70
unfolding order_bytes
length_order p note signature e = simp (lengths, length_body) (omega arith)

pub length_funding : (o : Funding) → length (funding_bytes o) ≡ 16
unfolding funding_bytes
length_funding o = simp lengths

-- a run's votes, each in its field
abbrev pub all_votes : List ℕ → List ℕ
all_votes run = vote_fields (length run / 65) run

-- the first vote of a run goes into the first field
votes_first : (vote rest : List ℕ) → length vote ≡ 65 → all_votes (vote ++ rest) ≡ field 0x21 vote ++ all_votes rest
unfolding vote_fields
votes_first vote rest h =
    let e : length (vote ++ rest) / 65 ≡ suc (length rest / 65) = simp length-append (omega arith) in
    let front : take 65 (vote ++ rest) ≡ vote = subst (λ n. take n (vote ++ rest) ≡ vote) h (take-append_seam vote rest) in
    let behind : drop 65 (vote ++ rest) ≡ rest = subst (λ n. drop n (vote ++ rest) ≡ rest) h (drop-append_seam vote rest) in
    rw (e, front, behind)

-- a vote is put, then those behind it
pub put_vote : {t : List ℕ} (s : List ℕ) (place : ℕ) (vote rest : List ℕ) → length vote ≡ 65 → t ≡ put s place (field 0x21 vote) → put t (place + 68) (all_votes rest) ≡ put s place (all_votes (vote ++ rest))
put_vote s place vote rest h p = rw (votes_first vote rest h) (put_behind s place (field 0x21 vote) (all_votes rest) p refl (simp (lengths, h)))

-- no vote is left where the rest is shorter than one
pub put_no_vote : (s : List ℕ) (place : ℕ) (rest : List ℕ) → length rest < 65 → put s place (all_votes rest) ≡ s
unfolding vote_fields put
put_no_vote s place rest h = let none : length rest / 65 ≡ 0 = omega arith in rw none

-- a field takes three bytes more than its vote
pub length_votes : (n : ℕ) (run : List ℕ) → 65 * n ≤ length run → length (vote_fields n run) ≡ 68 * n
unfolding vote_fields
length_votes zero run h = refl
length_votes (suc n) run h =
    let m : length (drop 65 run) ≡ length run - 65 = length-drop 65 run in
    simp (lengths, length-take, length_votes n (drop 65 run) (omega arith)) (omega arith)

pub length_certificate : (body run : List ℕ) → length (certificate_bytes body run) ≡ length body + 3 + 68 * (length run / 65)
unfolding certificate_bytes
length_certificate body run = simp (lengths, length_votes (length run / 65) run (omega arith)) (omega arith)

-- an output that is too small stays as it is
pub writes_small : {n : ℕ} (out bs : List ℕ) → length bs ≡ n → length out < n → unwritten 18 out ≡ writes out bs
unfolding writes
writes_small {n} out bs e h = simp (e, lt-leb n (length out) h)

-- bytes for which there is room stand at the start of the output
pub writes_room : {n : ℕ} {u : List ℕ} (out bs : List ℕ) → length bs ≡ n → n ≤ length out → u ≡ put out 0 bs → ◌≡◌ {A = Written} (record { answer = gives (n ∷ []); out = u }) (writes out bs)
unfolding writes
writes_room {n} out bs e h p = simp (e, le-leb n (length out) h, p)

-- what the values of a payment in range keep to
pub record PaymentFits (p : Payment) : Type 0 where
  pub sender : p.sender.0 < 256
  pub kind : p.kind < 256
  pub recipient : p.recipient < 65536
  pub amount : p.amount < 4294967296
  pub sequence : p.sequence.0 < 65536

-- a recipient in range is of kind 0 or 1
recipient_fits : (kind n : ℕ) → is_recipient kind n ≡ true → (kind < 256) × (n < 65536)
recipient_fits zero n h = omega (arith, leb-true)
recipient_fits (suc zero) n h = omega (arith, leb-true)
recipient_fits (suc (suc kind)) n h = absurd (false≢true h)

pub payment_fits : (p : Payment) → is_payment p ≡ true → PaymentFits p
unfolding is_payment
payment_fits p h =
    let tests = simp and-eq-true_iff at h in
    let r = recipient_fits p.kind p.recipient tests.1.0 in
    omega (arith, leb-true)

-- what the values of a funding order in range keep to
pub record FundingFits (o : Funding) : Type 0 where
  pub index : o.index.0 < 65536
  pub account : o.account.0 < 256
  pub amount : o.amount < 4294967296

pub funding_fits : (o : Funding) → is_funding o ≡ true → FundingFits o
unfolding is_funding
funding_fits o h =
    let tests = simp and-eq-true_iff at h in
    omega (arith, leb-true)
