-- What is said of a refusal. Assumes nothing.
use Prim.Native.Nat.{ℕ, ◌≤◌}
use mathlib.Core.Path.{◌≡◌, ap, ◌∙◌}
use mathlib.Core.Bool.{true}
use mathlib.Core.List.{List, []}
use native.Mathlib.Omega.{arith}
use lib.ListN.{get_or}
use borrow.Author.Tests.{eqb-false}
use Rattle.wire.specs.Refusals.{refuses, refusal_number}
use Rattle.wire.specs.declared.answers.Refusal.{Refusal}
use Rattle.states.proofs.Unless.{numbered}
use Rattle.text.specs.Pages.{Page, said}
use Rattle.text.specs.Words.{line_at}
use Rattle.text.proofs.LineLaws.{joined, are_lines, line_joined}
use Rattle.refusals.specs.Refusals.{refusal, refused_text, answer_text, fault_number}
use Rattle.refusals.specs.declared.Fault.{Fault}

-- the text of an answer that refuses is that of its refusal
pub said_refused : {q : Page} (p : Page) (r : Refusal) (given : List ℕ) → q ≡ said p (refused_text (refusal_number r)) → q ≡ said p (answer_text (refuses (refusal_number r)) given)
said_refused p r given spoken = rw (numbered r) spoken

-- and on a page that is written on in place
pub says_refused : {A : Type 0} {i j : A} {q : Page} (p : Page) (r : Refusal) (given : List ℕ) → (j ≡ i) × (q ≡ said p (refused_text (refusal_number r))) → (j ≡ i) × (q ≡ said p (answer_text (refuses (refusal_number r)) given))
says_refused p r given says = (says.0, said_refused p r given says.1)

-- the numbers of refusals begin with 1, those of faults with 101
pub refusal_least : {n : ℕ} (r : Refusal) → n ≡ refusal_number r → 1 ≤ n
refusal_least r e = let some = eqb-false (refusal_number r) 0 (numbered r) in omega (arith, e, some)

pub fault_least : {n : ℕ} (f : Fault) → n ≡ fault_number f → 101 ≤ n
fault_least Fault.Empty e = omega (arith, e)
fault_least Fault.TooLong e = omega (arith, e)
fault_least Fault.NoCall e = omega (arith, e)
fault_least Fault.WordCount e = omega (arith, e)
fault_least Fault.NotHexadecimal e = omega (arith, e)
fault_least Fault.NoEnd e = omega (arith, e)

-- a line of a text that is joined from reasons is a reason
pub said_line : {q : Page} {line text : List ℕ} (p : Page) (reasons : List (List ℕ)) (k : ℕ) → q ≡ said p line → line ≡ line_at k text → text ≡ joined reasons → are_lines reasons ≡ true → q ≡ said p (get_or reasons k [])
said_line p reasons k spoken e all lines = spoken ∙ ap (said p) (e ∙ ap (line_at k) all ∙ line_joined reasons k lines)

-- and so behind the number of a refusal, on a page that is written on in place
pub told : {A : Type 0} {i j : A} {q : Page} {text : List ℕ} (p : Page) (reasons : List (List ℕ)) (n k : ℕ) → (j ≡ i) × (q ≡ said p (refusal n (line_at k text))) → text ≡ joined reasons → are_lines reasons ≡ true → (j ≡ i) × (q ≡ said p (refusal n (get_or reasons k [])))
told p reasons n k says all lines = (says.0, says.1 ∙ ap (λ (why : List ℕ). said p (refusal n why)) (ap (line_at k) all ∙ line_joined reasons k lines))
