-- Laws of fields: a field that was written is passed, and a field that was passed is, byte for byte, a field written. Assumes nothing.
use Prim.Native.Nat.{ℕ, zero, suc, ◌+◌, ◌^◌, ◌<◌, ◌≤◌}
use mathlib.Core.Path.{◌≡◌, refl, sym, ap, ◌∙◌}
use mathlib.Core.Bool.{Bool, true, false, cond}
use mathlib.Core.List.{List, [], ◌∷◌, ◌++◌, append-nil, append_assoc}
use native.Mathlib.Omega.{arith}
use lib.ListN.{length, get_or, take, drop, length-append, take-append-drop, length-take, length-drop}
use lib.Dec.{leb, eqb, lit<}
use lib.Seq.{take-add, drop-drop, take_at, drop_at, get_or-drop, get_or-append-add}
use borrow.Author.Tests.{leb-true, eqb-true, eqb-false, le-leb, lt-leb, eq-eqb, ne_eqb}
use Rattle.octets.specs.Octets.{one, two, span, number, bytes, cut}
use Rattle.octets.proofs.TestLaws.{both}
use Rattle.octets.proofs.Laws.{length_bytes, number_bytes, put_number, cut_put}
use Rattle.wire.specs.Numbers.{is_message}
use Rattle.octets.specs.Tests.{need}
use Rattle.wire.specs.Fields.{field, Want, want, lost, size, past, past_all, after, ends, laid}

-- every element is a byte
abbrev pub Bytes : List ℕ → Type 0
Bytes m = (i : ℕ) → get_or m i 0 < 256

-- a number behind a first part is read in what follows that part
pub number_append : (k : ℕ) (pre s : List ℕ) (i : ℕ) → number k (pre ++ s) (length pre + i) ≡ number k s i
unfolding number
number_append zero pre s i = get_or-append-add pre s i 0
number_append (suc k) pre s i =
    let e : length pre + i + 2 ^ k ≡ length pre + (i + 2 ^ k) = omega arith in
    rw (number_append k pre s i, e, number_append k pre s (i + 2 ^ k))

-- a number that was written behind a first part is read back
pub number_written : (k : ℕ) (pre : List ℕ) (v : ℕ) (rest : List ℕ) → v < span k → number k (pre ++ (bytes k v ++ rest)) (length pre) ≡ v
number_written k pre v rest h =
    ap (λ (n : ℕ). number k (pre ++ (bytes k v ++ rest)) n) (omega arith) ∙ number_append k pre (bytes k v ++ rest) 0 ∙ number_bytes k v rest h

-- a field is three bytes longer than its value
pub length_field : (tag : ℕ) (value : List ℕ) → length (field tag value) ≡ 3 + length value
length_field tag value = simp (length-append, length_bytes) (omega arith)

-- a field with this tag, a length within the bounds and all its bytes is passed
pub passes : (m : List ℕ) (at tag least most : ℕ) → number one m at ≡ tag → least ≤ size m at → size m at ≤ most → at + 3 + size m at ≤ length m → past m at tag least most ≡ at + 3 + size m at
unfolding past
passes m at tag least most t l h e =
    rw (le-leb (at + 3) (length m) (omega arith), eq-eqb (number one m at) tag t, le-leb least (size m at) l, le-leb (size m at) most h, le-leb (at + 3 + size m at) (length m) e)

-- a field that was written says its length
pub size_written : (pre value rest : List ℕ) (tag : ℕ) → length value < 65536 → size (pre ++ (field tag value ++ rest)) (length pre) ≡ length value
unfolding bytes
size_written pre value rest tag h =
    let e : length (pre ++ (tag ∷ [])) ≡ length pre + 1 = length-append pre (tag ∷ []) in
    let f : pre ++ (field tag value ++ rest) ≡ (pre ++ (tag ∷ [])) ++ (bytes two (length value) ++ (value ++ rest)) = simp append_assoc in
    ap (λ (s : List ℕ). number two s (length pre + 1)) f
    ∙ ap (λ (n : ℕ). number two ((pre ++ (tag ∷ [])) ++ (bytes two (length value) ++ (value ++ rest))) n) (sym e)
    ∙ number_written two (pre ++ (tag ∷ [])) (length value) (value ++ rest) h

-- a field that was written is passed
pub past_field : (pre value rest : List ℕ) (tag least most : ℕ) → tag < 256 → length value < 65536 → least ≤ length value → length value ≤ most → past (pre ++ (field tag value ++ rest)) (length pre) tag least most ≡ length pre + 3 + length value
past_field pre value rest tag least most t v l h =
    let m = pre ++ (field tag value ++ rest) in
    let s : size m (length pre) ≡ length value = size_written pre value rest tag v in
    let f : field tag value ++ rest ≡ bytes one tag ++ (bytes two (length value) ++ (value ++ rest)) = simp append_assoc in
    let r : number one m (length pre) ≡ tag = rw f (number_written one pre tag (bytes two (length value) ++ (value ++ rest)) t) in
    let n : length m ≡ length pre + (3 + length value + length rest) = simp (length-append, length_bytes) (omega arith) in
    passes m (length pre) tag least most r (omega arith) (omega arith) (omega arith) ∙ ap (λ (k : ℕ). length pre + 3 + k) s

-- a field as laid down: its tag, its length within the bounds, its bytes all in the message, and the place after it
pub record Passed (m : List ℕ) (at tag least most : ℕ) : Type 0 where
  pub tagged : number one m at ≡ tag
  pub long : least ≤ size m at
  pub short : size m at ≤ most
  pub whole : at + 3 + size m at ≤ length m
  pub place : past m at tag least most ≡ at + 3 + size m at

-- a test that did not lose the place held, and what follows it did not lose the place either
kept : (t : Bool) (place : ℕ) → (need t lost place ≡ lost → ⊥) → (t ≡ true) × (place ≡ lost → ⊥)
kept true place h = (refl, h)
kept false place h = absurd (h refl)

-- a field that was passed is as laid down
pub passed : (m : List ℕ) (at tag least most : ℕ) → (past m at tag least most ≡ lost → ⊥) → Passed m at tag least most
unfolding past
passed m at tag least most h =
    let a = kept (leb (at + 3) (length m)) _ h in
    let b = kept (eqb (number one m at) tag) _ a.1 in
    let c = kept (leb least (size m at)) _ b.1 in
    let d = kept (leb (size m at) most) _ c.1 in
    let e = kept (leb (at + 3 + size m at) (length m)) _ d.1 in
    let t : number one m at ≡ tag = eqb-true _ _ b.0 in
    let l : least ≤ size m at = leb-true _ _ c.0 in
    let s : size m at ≤ most = leb-true _ _ d.0 in
    let w : at + 3 + size m at ≤ length m = leb-true _ _ e.0 in
    record { tagged = t; long = l; short = s; whole = w; place = passes m at tag least most t l s w }

-- where no field is as laid down the place is lost
pub not_passed : (m : List ℕ) (at tag least most : ℕ) → (Passed m at tag least most → ⊥) → past m at tag least most ≡ lost
not_passed m at tag least most h = go (eqb (past m at tag least most) lost) refl
  where
    go : (t : Bool) → eqb (past m at tag least most) lost ≡ t → past m at tag least most ≡ lost
    go true e = eqb-true _ _ e
    go false e = absurd (h (passed m at tag least most (eqb-false _ _ e)))

-- the bytes of a number that was read are those that it was read from
pub bytes_number : (k : ℕ) (m : List ℕ) (at : ℕ) → Bytes m → at + 2 ^ k ≤ length m → bytes k (number k m at) ≡ cut m at (2 ^ k)
bytes_number k m at b h =
    let n : length (bytes k (number k m at)) ≡ 2 ^ k = length_bytes k (number k m at) in
    sym (cut_put m at (bytes k (number k m at)) (omega arith)) ∙ rw (put_number k m at b, n)

-- two stretches side by side are one
pub cut_join : (m : List ℕ) (at n next k all : ℕ) → at + n ≡ next → n + k ≡ all → cut m at n ++ cut m next k ≡ cut m at all
cut_join m at n next k all e f = rw (← e, ← f, take-add n k (drop at m), drop-drop n at m)

-- a stretch within the list has its length
pub length_cut : (m : List ℕ) (at n : ℕ) → at + n ≤ length m → length (cut m at n) ≡ n
length_cut m at n h = simp (length-take, length-drop) (omega arith)

-- the bytes of a field as laid down are those of the field written again
pub passed_again : (m : List ℕ) (at tag least most : ℕ) → Bytes m → Passed m at tag least most → cut m at (3 + size m at) ≡ field tag (cut m (at + 3) (size m at))
passed_again m at tag least most b p =
    let w : at + 3 + size m at ≤ length m = p.whole in
    let t : bytes one tag ≡ cut m at 1 = ap (λ (v : ℕ). bytes one v) (sym p.tagged) ∙ bytes_number one m at b (omega arith) in
    let s : bytes two (size m at) ≡ cut m (at + 1) 2 = bytes_number two m (at + 1) b (omega arith) in
    let l : length (cut m (at + 3) (size m at)) ≡ size m at = length_cut m (at + 3) (size m at) w in
    sym (rw (l, t, s, cut_join m (at + 1) 2 (at + 3) (size m at) (2 + size m at) (omega arith) (omega arith))
    (cut_join m at 1 (at + 1) (2 + size m at) (3 + size m at) (omega arith) (omega arith)))

-- a message from a field on is that field written again, then what stands behind it
pub drop_field : (m : List ℕ) (at tag least most n next : ℕ) → Bytes m → Passed m at tag least most → size m at ≡ n → at + 3 + n ≡ next → drop at m ≡ field tag (cut m (at + 3) n) ++ drop next m
drop_field m at tag least most n next b p e f =
    let g : at + (3 + n) ≡ next = omega arith in
    let c : cut m at (3 + n) ≡ field tag (cut m (at + 3) n) = rw e at (passed_again m at tag least most b p) in
    sym (take-append-drop (3 + n) (drop at m)) ∙ rw (c, drop-drop (3 + n) at m, g)

-- the same of a field whose value has n bytes
pub drop_sized : (m : List ℕ) (at tag n next : ℕ) → Bytes m → Passed m at tag n n → at + 3 + n ≡ next → drop at m ≡ field tag (cut m (at + 3) n) ++ drop next m
drop_sized m at tag n next b p f = drop_field m at tag n n n next b p (omega arith) f

-- a message with its fields is not too long, and the fields end where it ends
pub laid_ends : (m : List ℕ) (fields : List Want) → laid m fields ≡ true → (length m ≤ 1148) × (ends m 0 fields ≡ length m)
unfolding laid
laid_ends m fields h = let t = both (is_message (length m)) _ h in (leb-true _ _ t.0, eqb-true _ _ t.1)

-- a test that leads to what cannot be fails
pub fails : (t : Bool) → (t ≡ true → ⊥) → t ≡ false
fails true h = absurd (h refl)
fails false h = refl

-- and one whose fields end where it ends, not too long, has its fields
pub ends_laid : (m : List ℕ) (fields : List Want) → length m ≤ 1148 → ends m 0 fields ≡ length m → laid m fields ≡ true
unfolding laid
ends_laid m fields l e = rw (le-leb (length m) 1148 l, eq-eqb (ends m 0 fields) (length m) e)

-- a choice between the same
same_cond : (t : Bool) (n : ℕ) → cond t n n ≡ n
same_cond true n = refl
same_cond false n = refl

-- no field stands where three bytes are not left
pub past_end : (m : List ℕ) (at tag least most : ℕ) → length m < at + 3 → past m at tag least most ≡ lost
unfolding past
past_end m at tag least most h = rw (lt-leb (at + 3) (length m) h)

-- past the end any number of fields are lost
pub all_lost : (n : ℕ) (m : List ℕ) (at tag least most : ℕ) → length m < lost → length m < at → past_all n m at tag least most ≡ lost
unfolding past_all
all_lost zero m at tag least most f h = rw (ne_eqb at (length m) (λ e. omega arith))
all_lost (suc n) m at tag least most f h =
    rw (ne_eqb at (length m) (λ e. omega arith), past_end m at tag least most (omega arith)) (all_lost n m lost tag least most f f)

-- whatever is wanted at the lost place, it stays lost
after_lost : (m : List ℕ) (w : Want) → length m < lost → after m lost w ≡ lost
unfolding after
after_lost m w f =
    rw (all_lost (length m) m lost w.tag w.least w.most f f, past_end m lost w.tag w.least w.most (omega arith))
    (same_cond w.many lost)

-- so it does over any fields
pub ends_lost : (m : List ℕ) (fields : List Want) → length m < lost → ends m lost fields ≡ lost
unfolding ends
ends_lost m [] f = refl
ends_lost m (w ∷ ws) f = rw (after_lost m w f) (ends_lost m ws f)

-- the first field of a message that ends as it should is as laid down, and the others stand behind it
pub first_field : (m : List ℕ) (at tag least most : ℕ) (fields : List Want) → length m ≤ 1148 → ends m at (want tag least most ∷ fields) ≡ length m → Passed m at tag least most × (ends m (at + 3 + size m at) fields ≡ length m)
unfolding ends after
first_field m at tag least most fields l h =
    let e : ends m (past m at tag least most) fields ≡ length m = h in
    let p : Passed m at tag least most = passed m at tag least most (λ q. let z : lost ≡ length m = sym (ends_lost m fields (omega arith)) ∙ rw q at e in omega arith) in
    (p, rw p.place at e)

-- the same of a field whose value has n bytes
pub first_sized : (m : List ℕ) (at tag n next : ℕ) (fields : List Want) → length m ≤ 1148 → at + 3 + n ≡ next → ends m at (want tag n n ∷ fields) ≡ length m → Passed m at tag n n × (ends m next fields ≡ length m)
first_sized m at tag n next fields l e h =
    let r = first_field m at tag n n fields l h in
    let s : at + 3 + size m at ≡ next = omega (arith, r.0.long, r.0.short) in
    (r.0, rw s at r.1)

-- the last field ends where the message ends
pub last_field : (m : List ℕ) (at tag least most : ℕ) → length m ≤ 1148 → ends m at (want tag least most ∷ []) ≡ length m → Passed m at tag least most × (at + 3 + size m at ≡ length m)
unfolding ends
last_field m at tag least most l h = first_field m at tag least most [] l h

-- past a field that was written the fields go on behind it
pub ends_field : (m pre value rest : List ℕ) (at tag least most : ℕ) (fields : List Want) → m ≡ pre ++ (field tag value ++ rest) → length pre ≡ at → tag < 256 → length value < 65536 → least ≤ length value → length value ≤ most → ends m at (want tag least most ∷ fields) ≡ ends m (at + 3 + length value) fields
unfolding ends after
ends_field m pre value rest at tag least most fields e a t v l h =
    let p : past m at tag least most ≡ at + 3 + length value = rw (e, ← a) (past_field pre value rest tag least most t v l h) in
    rw p

-- the same of a field whose value must have the length that it has
pub ends_sized : (m pre value rest : List ℕ) (at tag n next : ℕ) (fields : List Want) → m ≡ pre ++ (field tag value ++ rest) → length pre ≡ at → length value ≡ n → at + 3 + n ≡ next → tag < 256 → n < 65536 → ends m at (want tag n n ∷ fields) ≡ ends m next fields
ends_sized m pre value rest at tag n next fields e a v f t h =
    let g : at + 3 + length value ≡ next = omega arith in
    rw g at (ends_field m pre value rest at tag n n fields e a t (omega arith) (omega arith) (omega arith))

-- a last field that was written ends where the message ends
pub ends_last : (m pre value : List ℕ) (at tag least most : ℕ) → m ≡ pre ++ field tag value → length pre ≡ at → tag < 256 → length value < 65536 → least ≤ length value → length value ≤ most → ends m at (want tag least most ∷ []) ≡ length m
unfolding ends
ends_last m pre value at tag least most e a t v l h =
    let n : length m ≡ length pre + (3 + length value) = rw (e, length-append pre (field tag value), length_field tag value) in
    ends_field m pre value [] at tag least most [] (rw (append-nil (field tag value)) e) a t v l h ∙ omega arith

-- a stretch that was written behind a first part is read back
pub cut_written : (m pre value rest : List ℕ) (at n : ℕ) → m ≡ pre ++ (value ++ rest) → length pre ≡ at → length value ≡ n → cut m at n ≡ value
cut_written m pre value rest at n e a v = rw (e, drop_at pre (value ++ rest) at a) (take_at value rest n v)

-- the first elements of bytes are bytes
bytes_take : (n : ℕ) (m : List ℕ) → Bytes m → Bytes (take n m)
bytes_take zero m b i = lit< tt
bytes_take (suc n) [] b i = lit< tt
bytes_take (suc n) (x ∷ m) b zero = b 0
bytes_take (suc n) (x ∷ m) b (suc i) = bytes_take n m (λ j. b (suc j)) i

-- a stretch of bytes is bytes
pub bytes_cut : (m : List ℕ) (at n : ℕ) → Bytes m → Bytes (cut m at n)
bytes_cut m at n b = bytes_take n (drop at m) (λ i. rw (get_or-drop at m i 0) (b (at + i)))

-- the end is reached
pub all_end : (n : ℕ) (m : List ℕ) (at tag least most : ℕ) → at ≡ length m → past_all n m at tag least most ≡ at
unfolding past_all
all_end zero m at tag least most e = simp (eq-eqb at (length m) e)
all_end (suc n) m at tag least most e = simp (eq-eqb at (length m) e)

-- one field more
all_more : (n : ℕ) (m : List ℕ) (at tag least most : ℕ) → (at ≡ length m → ⊥) → past_all (suc n) m at tag least most ≡ past_all n m (past m at tag least most) tag least most
unfolding past_all
all_more n m at tag least most h = simp (ne_eqb at (length m) h)

-- from `place` on the fields end at x, with fuel for all of them
abbrev pub Left : ℕ → List ℕ → ℕ → ℕ → ℕ → Type 0
Left x m place tag size = (n : ℕ) × (length m ≤ place + n) × (x ≡ past_all n m place tag size size)

module _ (x : ℕ) (m : List ℕ) (place tag size : ℕ) (h : place ≡ length m → ⊥) where
  -- past a field as laid down the others are left
  pub goes_on : (past m place tag size size ≡ lost → ⊥) → Left x m place tag size → Left x m (past m place tag size size) tag size
  goes_on there left = go left.0 left.1 left.2
    where
      p : Passed m place tag size size
      p = passed m place tag size size there

      go : (n : ℕ) → length m ≤ place + n → x ≡ past_all n m place tag size size → Left x m (past m place tag size size) tag size
      go zero l q = absurd (h (omega (arith, p.whole)))
      go (suc n) l q = (n, omega (arith, p.place), q ∙ all_more n m place tag size size h)

  -- where no such field stands the place is lost
  pub stops : length m < lost → past m place tag size size ≡ lost → Left x m place tag size → x ≡ lost
  unfolding past_all
  stops short fails left = go left.0 left.2
    where
      go : (n : ℕ) → x ≡ past_all n m place tag size size → x ≡ lost
      go zero q = q ∙ rw (ne_eqb place (length m) h) refl
      go (suc n) q = q ∙ all_more n m place tag size size h ∙ ap (λ (p : ℕ). past_all n m p tag size size) fails ∙ all_lost n m lost tag size size short short
