-- What a function does with the answer of the one below it: a refusal is passed on, and with values it goes on. Assumes nothing.
use Prim.Native.Nat.{ℕ, ◌+◌, ◌*◌, ◌≤◌}
use mathlib.Core.Path.{◌≡◌, refl, sym, ap, ◌∙◌}
use mathlib.Core.Bool.{Bool, true, false, ◌&&◌, and-true}
use mathlib.Core.List.{List, [], ◌∷◌, ◌++◌}
use lib.ListN.{length, take, drop}
use lib.Dec.{leb}
use Rattle.std.specs.Prelude.{Result, Ok, Err}
use Rattle.std.specs.Result.{is_ok}
use Rattle.octets.specs.Tests.{need}
use Rattle.wire.specs.Fields.{laid}
use Rattle.wire.specs.Messages.{body_fields, payment, is_payment, order_fields, inside}
use Rattle.wire.specs.Votes.{known, rising}
use Rattle.wire.specs.Refusals.{Said, gives, refuses, payment_values, body_said}
use Rattle.wire.specs.Readers.{read_payment, read_order_payment, is_body, is_order, count_of}
use Rattle.wire.specs.declared.kinds.Payment.{Payment}
use Rattle.wire.specs.declared.answers.Refusal.{Refusal}
use Rattle.wire.proofs.Laid.{body_laid}
use Rattle.votes.specs.Tally.{votes_given}

-- tests in their order, each with the number that it refuses with
abbrev pub Tests : Type 0
Tests = List (Bool × ℕ)

-- what the first test that fails makes of its number; where all hold, what follows them
abbrev pub cascade : {A : Type 0} → Tests → (ℕ → A) → A → A
cascade [] refused rest = rest
cascade (t ∷ ts) refused rest = need t.0 (refused t.1) (cascade ts refused rest)

abbrev pub AllHold : Tests → Type 0
AllHold [] = Unit {0}
AllHold (t ∷ ts) = (t.0 ≡ true) × AllHold ts

-- the tests together
abbrev pub all : Tests → Bool
all [] = true
all (t ∷ ts) = t.0 && all ts

-- what is made of the answer of tests is made of each way that they leave
pub made_cascade : {A B : Type 0} (made : A → B) (tests : Tests) (refused : ℕ → A) (rest : A) → made (cascade tests refused rest) ≡ cascade tests (λ n. made (refused n)) (made rest)
made_cascade made [] refused rest = refl
made_cascade made ((true, n) ∷ ts) refused rest = made_cascade made ts refused rest
made_cascade made ((false, n) ∷ ts) refused rest = refl

-- no answer both refuses and gives
not_both : (n v : ℕ) (vs : List ℕ) → gives (v ∷ vs) ≡ refuses n → ⊥
not_both n v vs e = cc (ap (λ (s : Said). s.values) e)

-- where values are given, all tests held, and what follows them gives the values
pub given : (tests : Tests) {v : ℕ} {vs : List ℕ} (rest : Said) → gives (v ∷ vs) ≡ cascade tests refuses rest → AllHold tests × (gives (v ∷ vs) ≡ rest)
given [] rest e = (tt, e)
given ((true, n) ∷ ts) rest e = let d = given ts rest e in ((refl, d.0), d.1)
given ((false, n) ∷ ts) rest e = absurd (not_both _ _ _ e)

-- where the answer is a refusal, some test failed
refused_all : (tests : Tests) (n v : ℕ) (vs : List ℕ) → refuses n ≡ cascade tests refuses (gives (v ∷ vs)) → all tests ≡ false
refused_all [] n v vs e = absurd (not_both _ _ _ (sym e))
refused_all ((true, k) ∷ ts) n v vs e = refused_all ts n v vs e
refused_all ((false, k) ∷ ts) n v vs e = refl

-- what follows values, or what follows none
abbrev pub on_values : {A : Type 0} → List ℕ → A → A → A
on_values [] none some = none
on_values (v ∷ vs) none some = some

module _ {A : Type 0} (refused : ℕ → A) (rest : A) where
  -- what follows an answer with values, or its refusal
  abbrev pub onward : Said → A
  onward said = on_values said.values (refused said.number) rest

  -- an answer of tests is passed on by the same tests of the caller
  pub passed_on : (tests : Tests) (v : ℕ) (vs : List ℕ) {said : Said} → said ≡ cascade tests refuses (gives (v ∷ vs)) → onward said ≡ cascade tests refused rest
  passed_on tests v vs e = ap onward e ∙ made_cascade onward tests refuses (gives (v ∷ vs))

-- the tests of a body, and of the body in an order
abbrev pub payment_tests : List ℕ → Tests
payment_tests b = (laid b body_fields, 1) ∷ (is_payment (payment b), 2) ∷ []

abbrev pub order_tests : List ℕ → Tests
order_tests m = (laid m order_fields, 1) ∷ payment_tests (inside m)

-- the tests of votes
abbrev pub votes_tests : ℕ → List ℕ → Bool → Tests
votes_tests f machines ok = (known (3 * f) machines, 5) ∷ (rising machines, 6) ∷ (ok, 4) ∷ (leb (2 * f + 1) (length machines), 7) ∷ []

-- what a caller makes of the answer on a body, and on votes
module _ {A : Type 0} (refused : ℕ → A) (rest : A) where
  pub payment_onward : {said : Said} (body : List ℕ) → said ≡ read_payment body → onward refused rest said ≡ cascade (payment_tests body) refused rest
  unfolding read_payment
  payment_onward body e = passed_on refused rest (payment_tests body) _ _ e

  pub votes_onward : {said : Said} (f : ℕ) (machines : List ℕ) (ok : Bool) → said ≡ votes_given f machines ok → onward refused rest said ≡ cascade (votes_tests f machines ok) refused rest
  unfolding votes_given
  votes_onward f machines ok e = passed_on refused rest (votes_tests f machines ok) _ _ e

-- the number that is given is how many machines there are
pub votes_number : {n : ℕ} (f : ℕ) (machines : List ℕ) (ok : Bool) → gives (n ∷ []) ≡ votes_given f machines ok → n ≡ length machines
unfolding votes_given
votes_number f machines ok e = cc (ap (λ (s : Said). s.values) (given (votes_tests f machines ok) _ e).1)

-- the answer on votes is that of a judged certificate without its payment
pub votes_counted : {said : Said} (f : ℕ) (machines : List ℕ) (ok : Bool) (vs : List ℕ) → said ≡ votes_given f machines ok → said ≡ count_of (cascade (votes_tests f machines ok) refuses (gives (length machines ∷ vs)))
unfolding votes_given
votes_counted f machines ok vs e = e ∙ sym (made_cascade count_of (votes_tests f machines ok) refuses (gives (length machines ∷ vs)))

-- one test with values behind it held
pub gives_held : {v : ℕ} {vs : List ℕ} (test : Bool) (n : ℕ) (said : Said) → gives (v ∷ vs) ≡ need test (refuses n) said → (test ≡ true) × (gives (v ∷ vs) ≡ said)
gives_held test n said e = let d = given ((test, n) ∷ []) said e in (d.0.0, d.1)

-- a payment that was read is that of a body as laid down, with values in range
pub payment_read : {v : ℕ} {vs : List ℕ} (b : List ℕ) → gives (v ∷ vs) ≡ read_payment b → (laid b body_fields ≡ true) × (is_payment (payment b) ≡ true) × (v ∷ vs ≡ payment_values (payment b))
unfolding read_payment
payment_read b e = let d = given (payment_tests b) _ e in (d.0.0, d.0.1.0, ap (λ (s : Said). s.values) d.1)

-- a body whose payment was read has at most 57 bytes
pub payment_most : {v : ℕ} {vs : List ℕ} (b : List ℕ) → gives (v ∷ vs) ≡ read_payment b → length b ≤ 57
payment_most b e = (body_laid b (payment_read b e).0).most

-- an order whose payment was read is as laid down, and so is the body inside it
pub order_read : {v : ℕ} {vs : List ℕ} (m : List ℕ) → gives (v ∷ vs) ≡ read_order_payment m → (laid m order_fields ≡ true) × (gives (v ∷ vs) ≡ read_payment (inside m))
order_read m e = gives_held (laid m order_fields) 1 _ e

-- a refused payment is that of no body, nor of an order
pub payment_refused : (b : List ℕ) (n : ℕ) → refuses n ≡ read_payment b → is_body b ≡ false
unfolding read_payment
payment_refused b n e = simp and-true at (refused_all (payment_tests b) n _ _ e)

pub order_refused : (m : List ℕ) (n : ℕ) → refuses n ≡ read_order_payment m → is_order m ≡ false
unfolding read_payment
order_refused m n e = simp and-true at (refused_all (order_tests m) n _ _ e)

-- an answer tells by its kind whether the message is a body
pub payment_tells : (r : Result Payment Refusal) (b : List ℕ) → body_said r ≡ read_payment b → is_ok r ≡ is_body b
payment_tells (Ok p) b e = let d = payment_read b e in simp (d.0, d.1)
payment_tells (Err r) b e = sym (payment_refused b _ e)

-- no values but the first: what was refused or given is told by the number and that one
pub count_refused : (n : ℕ) (said : Said) → refuses n ≡ count_of said → refuses n ≡ said
count_refused n said e = λ i. record { number = ap (λ (s : Said). s.number) e i; values = none said.values (ap (λ (s : Said). s.values) e) i }
  where
    none : (vs : List ℕ) → [] ≡ take 1 vs → [] ≡ vs
    none [] z = refl
    none (v ∷ vs) z = cc z

pub count_given : (n : ℕ) (said : Said) → gives (n ∷ []) ≡ count_of said → gives (n ∷ drop 1 said.values) ≡ said
count_given n said e = λ i. record { number = ap (λ (s : Said). s.number) e i; values = more said.values (ap (λ (s : Said). s.values) e) i }
  where
    more : (vs : List ℕ) → n ∷ [] ≡ take 1 vs → n ∷ drop 1 vs ≡ vs
    more [] z = cc z
    more (v ∷ vs) z = ap (λ (l : List ℕ). l ++ vs) z
