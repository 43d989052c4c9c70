-- What the tests of a ledger's state say, a log bit in its byte, and the funding order that is written. Assumes nothing.
use Prim.Native.Nat.{ℕ, ◌+◌, ◌*◌, ◌%◌, ◌^◌, ◌≤◌, ◌<◌}
use mathlib.Core.Path.{◌≡◌, refl, ap, ◌∙◌}
use mathlib.Core.Bool.{Bool, true, false, cond, and-eq-true_iff}
use mathlib.Core.List.{List}
use native.Mathlib.Nat.{one-mul}
use native.Mathlib.Omega.{arith}
use lib.Bits.{bit_or, or_lt}
use lib.Dec.{eqb}
use lib.ListN.{length}
use lib.Pow.{pow-lt, shl_exact}
use borrow.Author.Tests.{leb-true, le-leb, eqb-true}
use Rattle.octets.specs.Octets.{put}
use Rattle.wire.specs.Numbers.{is_faults, is_account, is_amount}
use Rattle.wire.specs.Messages.{is_funding, funding_bytes}
use Rattle.wire.specs.Refusals.{Said}
use Rattle.wire.specs.Writers.{written, writes, write_funding}
use Rattle.wire.specs.declared.kinds.Funding.{Funding}
use Rattle.std.specs.Prelude.{◌≢◌, Option, None, Some, MatchOption, Result, Ok}
use Rattle.std.specs.Array.{IsWholeChunk}
use Rattle.wire.specs.declared.answers.Refusal.{Refusal}
use Rattle.octets.proofs.TestLaws.{both}
use Rattle.writing.proofs.Written.{length_funding}
use Rattle.states.specs.Headers.{faults_in}
use Rattle.ledger.specs.States.{Rules, base, state_length, is_state, is_base_header, pot, is_pot, value}
use Rattle.ledger.specs.Answers.{fund_outcome, log_said, redeemed, unredeemed}

pub state_length_lem : (rules : Rules) (s : List ℕ) → is_state rules s ≡ true → length s ≡ state_length rules
unfolding is_state
state_length_lem rules s e = eqb-true _ _ (both (eqb (length s) (state_length rules)) (rules.is_header s) e).0

-- bytes that are a state have its length, so that they are an array of it
pub opened : {X : Type 0} (now : X → List ℕ) (o : Option X) (s : List ℕ) → is_state base s ≡ true → MatchOption o (length s ≢ 32_784) (λ x. IsWholeChunk s (now x) 32_784)
    → MatchOption o (is_state base s ≡ false) (λ x. (now x ≡ s) × (is_state base (now x) ≡ true))
opened now None s t h = absurd (h (state_length_lem base s t))
opened now (Some x) s t h = (h.same, rw h.same t)

pub state_header : (rules : Rules) (s : List ℕ) → is_state rules s ≡ true → rules.is_header s ≡ true
unfolding is_state
state_header rules s e = (both (eqb (length s) (state_length rules)) (rules.is_header s) e).1

pub header_pot : (s : List ℕ) → is_base_header s ≡ true → is_pot (pot s) ≡ true
unfolding is_base_header
header_pot s e = let tests = simp and-eq-true_iff at e in tests.1.1.0

pub state_faults : (s : List ℕ) → is_state base s ≡ true → is_faults (faults_in s) ≡ true
unfolding is_base_header
state_faults s e = (both (is_faults (faults_in s)) _ (state_header base s e)).0

pub state_pot : (s : List ℕ) → is_state base s ≡ true → pot s ≤ 1_000_000_000_000_000
state_pot s e = leb-true _ _ (header_pot s (state_header base s e))

-- a bit shifted to its place in a byte has its value, and with it the byte is still one
pub bit_value : (sequence : ℕ) → (1 * value sequence) % 2 ^ 64 ≡ value sequence
bit_value sequence = shl_exact {a = 1} 1 (sequence % 8) 64 (omega arith) (omega arith) ∙ one-mul (value sequence)

pub bit_fits : (byte sequence : ℕ) → byte < 256 → bit_or byte (value sequence) < 256
bit_fits byte sequence h = or_lt 8 byte (value sequence) h (pow-lt {i = sequence % 8} {j = 8} (omega arith))

-- the funding order after the last is in range
pub next_in_range : (last account amount : ℕ) → last < 65_535 → is_account account ≡ true → is_amount amount ≡ true
    → is_funding record { index = record { 0 = last + 1 }; account = record { 0 = account }; amount = amount } ≡ true
unfolding is_funding
next_in_range last account amount h a v = rw (le-leb 1 (last + 1) (omega arith), le-leb (last + 1) 65_535 (omega arith), a, v)

-- a writer of a funding order that is in range, with room for it, leaves its bytes
pub funding_left : (out left : List ℕ) (o : Funding) (answer : Result ℕ Refusal) → is_funding o ≡ true → 16 ≤ length out → written answer left ≡ write_funding out o → left ≡ put out 0 (funding_bytes o)
unfolding write_funding writes
funding_left out left o answer h room e = ap (λ w. w.out) (rw (h, length_funding o, le-leb _ _ room) at e)

-- equal bytes in state and output under one answer
pub outcome_same : {said : Said} {s t out over : List ℕ} → s ≡ t → out ≡ over → fund_outcome said s out ≡ fund_outcome said t over
outcome_same {said = said} e o = λ i. fund_outcome said (e i) (o i)

-- what is said of the log
pub log_told : (b : Bool) → log_said (Ok b) ≡ cond b redeemed unredeemed
log_told true = refl
log_told false = refl
