-- What each message's layout gives: its fields as laid down, where they end, and its length. Assumes nothing.
use Prim.Native.Nat.{ℕ, zero, suc, ◌+◌, ◌-◌, ◌*◌, ◌/◌, ◌<◌, ◌≤◌}
use mathlib.Core.Path.{◌≡◌, refl, sym, ap, ◌∙◌}
use mathlib.Core.Bool.{Bool, true, false, ◌&&◌}
use mathlib.Core.List.{List, [], ◌∷◌}
use native.Mathlib.Omega.{arith}
use native.Mathlib.Nat.{lt_irrefl}
use lib.ListN.{length}
use lib.Dec.{eqb}
use borrow.Author.Tests.{eqb-true, le-leb}
use Rattle.octets.specs.Octets.{two, number}
use Rattle.std.specs.Prelude.{Some, None}
use Rattle.std.specs.Borrow.{Bor}
use Rattle.wire.specs.Numbers.{is_note, is_message}
use Rattle.octets.specs.Tests.{need}
use Rattle.wire.specs.Fields.{Want, want, lost, want_all, size, past, past_all, after, ends, laid, reader_at, reached}
use Rattle.wire.specs.declared.fields.Reader.{Reader}
use Rattle.wire.specs.Messages.{body_fields, note_in, order_fields, signature_in, certificate_fields, funding_fields}
use Rattle.wire.specs.Votes.{votes}
use Rattle.wire.proofs.FieldLaws.{Passed, passed, first_field, first_sized, last_field, laid_ends, length_cut, all_lost, fails}
use Rattle.wire.proofs.Reached.{Toward, none_lost, some_at}

-- a message laid down whose first field, of 25 to 57 bytes, ends at `end`
pub record Enclosed (m : List ℕ) (fields : List Want) (end : ℕ) : Type 0 where
  pub laid_down : laid m fields ≡ true
  pub place : end ≡ 3 + size m 0
  pub least : 25 ≤ size m 0
  pub most : size m 0 ≤ 57
  pub whole : 3 + size m 0 ≤ length m

-- a message whose fields no reader has passed is not laid down
pub not_laid : (m : Bor (List ℕ)) (fields : List Want) → None ≡ reached m (ends m.now 0 fields) → laid m.now fields ≡ false
not_laid m fields e =
    fails (laid m.now fields)
    (λ h. let t = laid_ends m.now fields h in
    let l : ends m.now 0 fields ≡ lost = none_lost m (ends m.now 0 fields) e in
    lt_irrefl lost (omega arith))

-- a reader past all fields that is whole says that the message is laid down
pub whole_laid : {m : Bor (List ℕ)} {fields : List Want} {r : Reader} → Toward m fields r [] → (is_message (length r.message.now) && eqb r.at (length r.message.now)) ≡ laid m.now fields
unfolding laid ends
whole_laid {m} {fields} {r} k =
    ap (λ (s : Bor (List ℕ)). is_message (length s.now) && eqb r.at (length s.now)) k.message ∙ ap (λ (n : ℕ). is_message (length m.now) && eqb n (length m.now)) (sym k.left)

-- where a test gives a place it held, and where it gives none it failed
pub found : (t : Bool) (n end : ℕ) → Some end ≡ need t None (Some n) → (t ≡ true) × (end ≡ n)
found true n end e = (refl, cc)
found false n end e = absurd cc

pub missed : (t : Bool) (n : ℕ) → None ≡ need t None (Some n) → t ≡ false
missed true n e = absurd cc
missed false n e = refl

-- a message laid down with a field of 25 to 57 bytes first ends that field behind its value
module _ (m : List ℕ) (tag : ℕ) (others : List Want) where
  pub first_ends : laid m (want tag 25 57 ∷ others) ≡ true → Passed m 0 tag 25 57
  first_ends h = let e = laid_ends m (want tag 25 57 ∷ others) h in (first_field m 0 tag 25 57 others e.0 e.1).0

  -- what an answer of that end says
  pub enclosed : (end : ℕ) → Some end ≡ need (laid m (want tag 25 57 ∷ others)) None (Some (3 + size m 0)) → Enclosed m (want tag 25 57 ∷ others) end
  enclosed end e =
      let f = found (laid m (want tag 25 57 ∷ others)) (3 + size m 0) end e in
      let p = first_ends f.0 in
      record { laid_down = f.0; place = f.1; least = p.long; most = p.short; whole = p.whole }

  pub not_enclosed : None ≡ need (laid m (want tag 25 57 ∷ others)) None (Some (3 + size m 0)) → laid m (want tag 25 57 ∷ others) ≡ false
  not_enclosed e = missed (laid m (want tag 25 57 ∷ others)) (3 + size m 0) e

  -- and the other way round
  pub no_end : laid m (want tag 25 57 ∷ others) ≡ false → None ≡ need (laid m (want tag 25 57 ∷ others)) None (Some (3 + size m 0))
  no_end h = rw h refl

-- the reader past the first field of a message that is laid down is at that end
pub an_end : (m : Bor (List ℕ)) (tag : ℕ) (others : List Want) {r r' : Reader} → laid m.now (want tag 25 57 ∷ others) ≡ true → r ≡ reader_at m 0 → Some r' ≡ reached r.message (past r.message.now r.at tag 25 57) → Some r'.at ≡ need (laid m.now (want tag 25 57 ∷ others)) None (Some (3 + size m.now 0))
an_end m tag others {r} {r'} h e f =
    let g : Some r' ≡ reached m (past m.now 0 tag 25 57) = f ∙ ap (λ (q : Reader). reached q.message (past q.message.now q.at tag 25 57)) e in
    let q : r' ≡ reader_at m (past m.now 0 tag 25 57) = (some_at m (past m.now 0 tag 25 57) r' g).0 in
    rw h (ap (λ (x : Reader). Some x.at) q ∙ ap (λ (n : ℕ). Some n) (first_ends m.now tag others h).place)

-- a body's five fields as laid down, and its length
pub record BodyLaid (b : List ℕ) : Type 0 where
  pub sender : Passed b 0 0x01 1 1
  pub recipient : Passed b 4 0x02 3 3
  pub amount : Passed b 10 0x03 4 4
  pub sequence : Passed b 17 0x04 2 2
  pub note : Passed b 22 0x05 0 32
  pub least : 25 ≤ length b
  pub most : length b ≤ 57
  pub note_size : size b 22 ≡ length b - 25

-- a body with its fields has them at the places 0, 4, 10, 17 and 22
pub body_laid : (b : List ℕ) → laid b body_fields ≡ true → BodyLaid b
body_laid b h =
    let t = laid_ends b body_fields h in
    let l : length b ≤ 1148 = t.0 in
    let f₁ = first_sized b 0 0x01 1 4 _ l refl t.1 in
    let f₂ = first_sized b 4 0x02 3 10 _ l refl f₁.1 in
    let f₃ = first_sized b 10 0x03 4 17 _ l refl f₂.1 in
    let f₄ = first_sized b 17 0x04 2 22 _ l refl f₃.1 in
    let f₅ = last_field b 22 0x05 0 32 l f₄.1 in
    let e : 25 + size b 22 ≡ length b = f₅.1 in
    let s : size b 22 ≤ 32 = f₅.0.short in
    record {
      sender = f₁.0;
      recipient = f₂.0;
      amount = f₃.0;
      sequence = f₄.0;
      note = f₅.0;
      least = omega arith;
      most = omega arith;
      note_size = omega arith;
    }

-- the note of a body with its fields is not too long
pub note_fits : (b : List ℕ) → laid b body_fields ≡ true → is_note (length (note_in b)) ≡ true
note_fits b h =
    let l = body_laid b h in
    let e : length (note_in b) ≡ length b - 25 = length_cut b 25 (length b - 25) (omega arith) in
    le-leb (length (note_in b)) 32 (omega arith)

-- an order's two fields as laid down, and its length
pub record OrderLaid (m : List ℕ) : Type 0 where
  pub body : Passed m 0 0x10 25 57
  pub signature : Passed m (size m 0 + 3) 0x11 64 64
  pub total : length m ≡ size m 0 + 70

-- an order with its fields has the second one behind the first
pub order_laid : (m : List ℕ) → laid m order_fields ≡ true → OrderLaid m
order_laid m h =
    let t = laid_ends m order_fields h in
    let l : length m ≤ 1148 = t.0 in
    let f₁ = first_field m 0 0x10 25 57 _ l t.1 in
    let e : 3 + size m 0 ≡ size m 0 + 3 = omega arith in
    let f₂ = last_field m (size m 0 + 3) 0x11 64 64 l (rw e at f₁.1) in
    record { body = f₁.0; signature = f₂.0; total = omega (arith, f₂.1, f₂.0.long, f₂.0.short) }

-- the signature of an order with its fields has 64 bytes
pub signature_fits : (m : List ℕ) → laid m order_fields ≡ true → length (signature_in m) ≡ 64
signature_fits m h =
    let l : length m ≡ number two m 1 + 70 = (order_laid m h).total in
    length_cut m (number two m 1 + 6) 64 (omega arith)

-- a funding order's three fields as laid down, and its length
pub record FundingLaid (m : List ℕ) : Type 0 where
  pub index : Passed m 0 0x30 2 2
  pub account : Passed m 5 0x31 1 1
  pub amount : Passed m 9 0x32 4 4
  pub sixteen : length m ≡ 16

-- a funding order with its fields has them at the places 0, 5 and 9
pub funding_laid : (m : List ℕ) → laid m funding_fields ≡ true → FundingLaid m
funding_laid m h =
    let t = laid_ends m funding_fields h in
    let l : length m ≤ 1148 = t.0 in
    let f₁ = first_sized m 0 0x30 2 5 _ l refl t.1 in
    let f₂ = first_sized m 5 0x31 1 9 _ l refl f₁.1 in
    let f₃ = last_field m 9 0x32 4 4 l f₂.1 in
    record { index = f₁.0; account = f₂.0; amount = f₃.0; sixteen = omega (arith, f₃.1, f₃.0.long, f₃.0.short) }

-- n votes stand from `at` to the end of the message, one field 21 after the other
abbrev pub Votes : ℕ → List ℕ → ℕ → Type 0
Votes zero m at = at ≡ length m
Votes (suc n) m at = (past m at 0x21 65 65 ≡ at + 68) × Votes n m (at + 68)

-- n votes take 68 * n bytes
pub votes_length : (n : ℕ) (m : List ℕ) (at : ℕ) → Votes n m at → length m ≡ at + 68 * n
votes_length zero m at v = omega arith
votes_length (suc n) m at v = omega (arith, votes_length n m (at + 68) v.1)

-- a field 21 that was passed takes 68 bytes
vote_passed : (m : List ℕ) (at : ℕ) → (past m at 0x21 65 65 ≡ lost → ⊥) → past m at 0x21 65 65 ≡ at + 68
vote_passed m at h = let p : Passed m at 0x21 65 65 = passed m at 0x21 65 65 h in omega arith

-- what was passed up to the end of the message is some number of votes
some_votes : (fuel : ℕ) (m : List ℕ) (at : ℕ) → length m < lost → (past_all fuel m at 0x21 65 65 ≡ lost → ⊥) → (n : ℕ) × Votes n m at
unfolding past_all
some_votes zero m at short h = go (eqb at (length m)) refl
  where
    go : (t : Bool) → eqb at (length m) ≡ t → (n : ℕ) × Votes n m at
    go true e = (0, eqb-true at (length m) e)
    go false e = absurd (h (rw e))
some_votes (suc fuel) m at short h = go (eqb at (length m)) refl (some_votes fuel m (at + 68) short)
  where
    go : (t : Bool) → eqb at (length m) ≡ t → ((past_all fuel m (at + 68) 0x21 65 65 ≡ lost → ⊥) → (n : ℕ) × Votes n m (at + 68)) → (n : ℕ) × Votes n m at
    go true e again = (0, eqb-true at (length m) e)
    go false e again =
        let p : past m at 0x21 65 65 ≡ at + 68 = vote_passed m at (λ l. h (rw (e, l) (all_lost fuel m lost 0x21 65 65 short short))) in
        let r : (n : ℕ) × Votes n m (at + 68) = again (λ l. h (rw (e, p) l)) in
        (suc r.0, (p, r.1))

-- votes up to the end of the message are as many as its bytes say
votes_count : (n : ℕ) (m : List ℕ) (at : ℕ) → Votes n m at → n ≡ (length m - at) / 68
votes_count n m at v = omega (arith, votes_length n m at v)

-- what was passed up to the end of the message is votes, 68 bytes each
pub votes_passed : (fuel : ℕ) (m : List ℕ) (at : ℕ) → length m < lost → (past_all fuel m at 0x21 65 65 ≡ lost → ⊥) → Votes ((length m - at) / 68) m at
votes_passed fuel m at short h = let v = some_votes fuel m at short h in rw (← (votes_count v.0 m at v.1)) v.1

-- a message with the fields of a certificate: the body's field, then votes to its end
pub record CertificateLaid (m : List ℕ) : Type 0 where
  pub short : length m ≤ 1148
  pub body : Passed m 0 0x20 25 57
  pub run : Votes (votes m) m (number two m 1 + 3)

-- a message whose fields the reader finds in order is such a message
pub certificate_laid : (m : List ℕ) → laid m certificate_fields ≡ true → CertificateLaid m
unfolding ends after
certificate_laid m h =
    let t = laid_ends m certificate_fields h in
    let l : length m ≤ 1148 = t.0 in
    let p = first_field m 0 0x20 25 57 (want_all 0x21 65 ∷ []) l t.1 in
    let at = number two m 1 + 3 in
    let e : 0 + 3 + number two m 1 ≡ at = omega arith in
    let end : past_all (length m) m at 0x21 65 65 ≡ length m = rw e at p.1 in
    record { short = l; body = p.0; run = votes_passed (length m) m at (omega arith) (λ z. omega arith) }
