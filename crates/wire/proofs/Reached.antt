-- What a reader's answer says of the place that it has reached. Assumes nothing.
use Prim.Native.Nat.{ℕ, ◌+◌, ◌<◌, ◌≤◌, ◌-◌}
use native.Mathlib.Omega.{arith}
use mathlib.Core.Path.{◌≡◌, refl, sym, ap, subst, ◌∙◌}
use mathlib.Core.Bool.{Bool, true, false, cond}
use mathlib.Core.List.{List, [], ◌∷◌}
use lib.ListN.{length}
use lib.Dec.{eqb}
use borrow.Author.Tests.{eqb-true, eqb-false, eq-eqb, ne_eqb}
use Rattle.std.specs.Prelude.{Some, None}
use Rattle.std.specs.Borrow.{Bor}
use Rattle.octets.specs.Octets.{one, number}
use Rattle.wire.specs.Fields.{Want, size, lost, past, ends, after, reader_at, reached}
use Rattle.wire.specs.declared.fields.Reader.{Reader}
use Rattle.wire.proofs.FieldLaws.{Passed, passed, Left, passes, not_passed, goes_on, stops, all_end, ends_lost}

-- none reaches the lost place
pub unreached : (m : Bor (List ℕ)) (at : ℕ) → at ≡ lost → None ≡ reached m at
unfolding reached
unreached m at e = rw (eq-eqb at lost e) refl

-- any other place is reached
pub reaches : (m : Bor (List ℕ)) (at n : ℕ) → at ≡ n → (n ≡ lost → ⊥) → Some (reader_at m n) ≡ reached m at
unfolding reached
reaches m at n e h = rw (e, ne_eqb n lost h) refl

-- where no reader is, the place is lost
pub none_lost : (m : Bor (List ℕ)) (at : ℕ) → None ≡ reached m at → at ≡ lost
unfolding reached
none_lost m at h = go (eqb at lost) refl h
  where
    go : (t : Bool) → eqb at lost ≡ t → None ≡ cond t None (Some (reader_at m at)) → at ≡ lost
    go true e q = eqb-true at lost e
    go false e q = absurd cc

-- a reader that is there is at its place
pub some_at : (m : Bor (List ℕ)) (at : ℕ) (r : Reader) → Some r ≡ reached m at → (r ≡ reader_at m at) × (at ≡ lost → ⊥)
unfolding reached
some_at m at r h = go (eqb at lost) refl h
  where
    go : (t : Bool) → eqb at lost ≡ t → Some r ≡ cond t None (Some (reader_at m at)) → (r ≡ reader_at m at) × (at ≡ lost → ⊥)
    go true e q = absurd cc
    go false e q = (cc, eqb-false at lost e)

-- where a field is not as laid down no reader is past it
pub no_field : (m : Bor (List ℕ)) (at tag least most : ℕ) → (Passed m.now at tag least most → ⊥) → None ≡ reached m (past m.now at tag least most)
no_field m at tag least most h = unreached m (past m.now at tag least most) (not_passed m.now at tag least most h)

-- and where it is, one is
pub a_field : (m : Bor (List ℕ)) (at tag least most n : ℕ) → length m.now < lost → number one m.now at ≡ tag → least ≤ size m.now at → size m.now at ≤ most → at + 3 + size m.now at ≡ n → n ≤ length m.now → Some (reader_at m n) ≡ reached m (past m.now at tag least most)
a_field m at tag least most n short t l s e w =
    reaches m (past m.now at tag least most) n (passes m.now at tag least most t l s (omega arith) ∙ e) (λ z. omega arith)

-- a reader of m on its way through the fields, of which ws are left
pub record Toward (m : Bor (List ℕ)) (fields : List Want) (r : Reader) (ws : List Want) : Type 0 where
  pub message : r.message ≡ m
  pub left : ends m.now 0 fields ≡ ends m.now r.at ws

-- where it begins
pub begins : (m : Bor (List ℕ)) (fields : List Want) {r : Reader} → r ≡ reader_at m 0 → Toward m fields r fields
begins m fields e = record { message = ap (λ (q : Reader). q.message) e; left = sym (ap (λ (q : Reader). ends m.now q.at fields) e) }

module _ {m : Bor (List ℕ)} {fields : List Want} {r : Reader} {w : Want} {ws : List Want} (k : Toward m fields r (w ∷ ws)) where
  found : reached r.message (after r.message.now r.at w) ≡ reached m (after m.now r.at w)
  found = ap (λ (s : Bor (List ℕ)). reached s (after s.now r.at w)) k.message

  -- past the next of them
  pub onward : {r' : Reader} → Some r' ≡ reached r.message (after r.message.now r.at w) → Toward m fields r' ws
  unfolding ends
  onward {r'} e =
      let q : r' ≡ reader_at m (after m.now r.at w) = (some_at m (after m.now r.at w) r' (e ∙ found)).0 in
      record { message = ap (λ (x : Reader). x.message) q; left = k.left ∙ sym (ap (λ (x : Reader). ends m.now x.at ws) q) }

  -- where the next of them is not there, no reader is past them all
  pub halts : length m.now < lost → None ≡ reached r.message (after r.message.now r.at w) → None ≡ reached m (ends m.now 0 fields)
  unfolding ends
  halts short e =
      let l : after m.now r.at w ≡ lost = none_lost m (after m.now r.at w) (e ∙ found) in
      unreached m (ends m.now 0 fields) (k.left ∙ ap (λ (n : ℕ). ends m.now n ws) l ∙ ends_lost m.now ws short)

-- the last of them
pub arrives : {m : Bor (List ℕ)} {fields : List Want} {r : Reader} {w : Want} → Toward m fields r (w ∷ []) → reached r.message (after r.message.now r.at w) ≡ reached m (ends m.now 0 fields)
unfolding ends
arrives {m} k = found k ∙ sym (ap (λ (n : ℕ). reached m n) k.left)

-- the reader past them all
pub arrived : {m : Bor (List ℕ)} {fields : List Want} {r : Reader} → Some r ≡ reached m (ends m.now 0 fields) → Toward m fields r []
unfolding ends
arrived {m} {fields} {r} e =
    let q : r ≡ reader_at m (ends m.now 0 fields) = (some_at m (ends m.now 0 fields) r e).0 in
    record { message = ap (λ (x : Reader). x.message) q; left = sym (ap (λ (x : Reader). x.at) q) }

-- a reader of m from whose place on the fields end at x
pub record Reads (m : Bor (List ℕ)) (x tag size : ℕ) (r : Reader) : Type 0 where
  pub message : r.message ≡ m
  pub left : Left x m.now r.at tag size

module _ {m : Bor (List ℕ)} {x tag size : ℕ} {r : Reader} (k : Reads m x tag size r) where
  -- the reader at the end has read them all
  pub read_all : r.at ≡ length m.now → length m.now < lost → Some r ≡ reached m x
  read_all e short =
      let q : x ≡ r.at = k.left.2 ∙ all_end k.left.0 m.now r.at tag size size e in
      ap (λ (s : Bor (List ℕ)). Some (reader_at s r.at)) k.message ∙ reaches m x r.at q (λ z. omega arith)

  step : reached r.message (past r.message.now r.at tag size size) ≡ reached m (past m.now r.at tag size size)
  step = ap (λ (s : Bor (List ℕ)). reached s (past s.now r.at tag size size)) k.message

  module _ (h : r.at ≡ length m.now → ⊥) where
    -- where no field stands before the end there is no reader of them all
    pub read_none : length m.now < lost → None ≡ reached r.message (past r.message.now r.at tag size size) → None ≡ reached m x
    read_none short e = unreached m x (stops x m.now r.at tag size h short (none_lost m (past m.now r.at tag size size) (e ∙ step)) k.left)

    module _ {r' : Reader} (e : Some r' ≡ reached r.message (past r.message.now r.at tag size size)) where
      next : (r' ≡ reader_at m (past m.now r.at tag size size)) × (past m.now r.at tag size size ≡ lost → ⊥)
      next = some_at m (past m.now r.at tag size size) r' (e ∙ step)

      -- past a field the reader has the others before it, and less of the message
      pub read_more : Reads m x tag size r'
      read_more = record {
        message = ap (λ (q : Reader). q.message) next.0;
        left = subst (λ (n : ℕ). Left x m.now n tag size) (sym (ap (λ (q : Reader). q.at) next.0)) (goes_on x m.now r.at tag size h next.1 k.left);
      }

      pub read_less : length r'.message.now - r'.at < length r.message.now - r.at
      read_less =
          let p : Passed m.now r.at tag size size = passed m.now r.at tag size size next.1 in
          let l : length r.message.now ≡ length m.now = ap (λ (s : Bor (List ℕ)). length s.now) k.message in
          let n : length r'.message.now ≡ length m.now = ap (λ (q : Reader). length q.message.now) next.0 in
          let a : r'.at ≡ past m.now r.at tag size size = ap (λ (q : Reader). q.at) next.0 in
          omega arith
