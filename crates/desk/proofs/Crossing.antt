-- How an answer and what it leaves become a number and what that leaves. Assumes nothing.
use Prim.Native.Nat.{ℕ}
use mathlib.Core.Path.{◌≡◌, refl, sym, ap, ◌∙◌}
use mir.Val.{bool_byte}
use Rattle.records.specs.Records.{bit}
use mathlib.Core.Bool.{Bool, true, false}
use mathlib.Core.List.{List, [], ◌∷◌, ◌++◌}
use native.Mathlib.Omega.{arith}
use Rattle.std.specs.Prelude.{Result, Ok, Err}
use lib.ListN.{length}
use lib.IntN.{ℤ}
use Rattle.octets.specs.Octets.{put}
use Rattle.octets.proofs.Laws.{put_all}
use Rattle.wire.specs.Refusals.{Said, gives, refuses, refusal_number, said, payment_values}
use Rattle.wire.specs.declared.answers.Refusal.{Refusal}
use Rattle.wire.specs.declared.answers.Body.{Body}
use Rattle.wire.specs.declared.answers.Order.{Order}
use Rattle.wire.specs.Readers.{body_shown, order_shown}
use Rattle.states.proofs.Unless.{numbered}
use Rattle.records.specs.Answers.{AccountShown, unshown}
use Rattle.desk.specs.Layout.{packed, Fit, left, showing, noted, account_left, reading}
use Rattle.desk.specs.Theorems.{Says, says_fit}

-- the values of an answer fit if those of its equal do
pub fits : {said told : Said} (widths : List ℕ) → said ≡ told → Says widths told → Fit widths said.values
fits widths e h = rw e (says_fit h)

-- a refusal is its number alone
pub refusal_packed : (widths : List ℕ) (n : ℕ) → n ≡ packed widths (refuses n)
refusal_packed [] n = omega arith
refusal_packed (w ∷ ws) n = omega arith

-- values in place of those in the lent array, and a refusal that leaves them
pub shown : {said : Said} {us : List ℕ} (vs : List ℕ) → length us ≡ length vs → gives us ≡ said → left 0 us ≡ showing said vs
shown {us = us} vs l e = ap (left 0) (sym (put_all vs us l)) ∙ ap (λ (said : Said). showing said vs) e

pub refusal_shown : {said : Said} {n r : ℕ} (vs : List ℕ) → r ≡ n → refuses n ≡ said → left r vs ≡ showing said vs
unfolding put
refusal_shown vs f e = ap (λ (n : ℕ). left n vs) f ∙ ap (λ (said : Said). showing said vs) e

-- no refusal has the number 0, and so none has a note or a balance
pub body_noted : (r : Result Body Refusal) → said (λ (b : Body). payment_values b.payment ++ (b.note.length ∷ [])) r ≡ noted (body_shown r).answer (body_shown r).note.length
body_noted (Ok b) = refl
body_noted (Err r) = rw (numbered r) refl

pub order_noted : (r : Result Order Refusal) → said (λ (o : Order). payment_values o.payment ++ (o.note.length ∷ [])) r ≡ noted (order_shown r).answer (order_shown r).note.length
order_noted (Ok o) = refl
order_noted (Err r) = rw (numbered r) refl

-- whether an account is in use, as a number
pub bit_byte : (b : Bool) → bool_byte b ≡ bit b
bit_byte true = refl
bit_byte false = refl

-- an account
pub account_crossed : {shown : AccountShown} {us : List ℕ} {z : ℤ} (vs : List ℕ) (balance : ℤ) → length us ≡ length vs → ◌≡◌ {A = AccountShown} (record { answer = gives us; balance = z }) shown
    → account_left 0 us z ≡ reading shown vs balance
account_crossed {us = us} {z = z} vs balance l e = ap (λ (us : List ℕ). account_left 0 us z) (sym (put_all vs us l)) ∙ ap (λ (s : AccountShown). reading s vs balance) e

pub refusal_read : {shown : AccountShown} {n : ℕ} (r : Refusal) (vs : List ℕ) (balance : ℤ) → n ≡ refusal_number r → unshown (refusal_number r) ≡ shown → account_left n vs balance ≡ reading shown vs balance
unfolding put
refusal_read r vs balance f e = rw (f, ← e, numbered r)
