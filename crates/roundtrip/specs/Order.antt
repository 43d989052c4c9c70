-- Orders: one that was written is read back, and one that was read is written again, byte for byte. Assumes nothing.
use Rattle.std.specs.Prelude.{ℕ, ◌+◌, ◌≤◌, ◌≡◌, true, drop, replicate, eqb}
use Rattle.std.proofs.Math.Path.{refl}
use Rattle.std.proofs.Common.{sym, ap, ◌∙◌, arith, lit<, leb-true, eqb-true, eq-eqb}
use mathlib.Core.List.{List, [], ◌∷◌, ◌++◌, append-nil, append_assoc}
use Rattle.std.proofs.Math.ListN.{length}
use Rattle.std.proofs.Math.Seq.{drop-length}
use Rattle.octets.specs.Octets.{one, two, number, bytes, cut}
use Rattle.octets.proofs.Laws.{put_all}
use Rattle.wire.specs.Numbers.{is_note}
use Rattle.wire.specs.Fields.{field, size, laid}
use Rattle.wire.specs.Messages.{body_fields, order_fields, payment, note_in, inside, signature_in, is_payment, body_bytes, order_bytes}
use Rattle.wire.specs.Refusals.{gives, refuses, payment_values}
use Rattle.wire.specs.Readers.{is_body, read_payment, read_order_payment, read_order, note_held}
use Rattle.wire.specs.Writers.{unwritten, write_order}
use Rattle.wire.specs.declared.kinds.Payment.{Payment}
use Rattle.octets.proofs.TestLaws.{both}
use Rattle.wire.proofs.FieldLaws.{Bytes, length_field, size_written, ends_laid, drop_field, ends_field, ends_last, cut_written, bytes_cut}
use Rattle.wire.proofs.Laid.{note_fits, OrderLaid, order_laid, signature_fits}
use Rattle.writing.proofs.Written.{lengths, length_body, length_order, payment_fits}
use Rattle.roundtrip.specs.Answers.{through, said, told, wrote, Wrote, has_room, comes_to_write}
use Rattle.roundtrip.specs.Body.{body_written, payment_written, note_written, body_bytes_lem, payment_given}

module _ (p : Payment) (note signature : List ℕ) (short : length note ≤ 32) (s : length signature ≡ 64) where
  -- the bytes of an order have its fields
  order_written : laid (order_bytes p note signature) order_fields ≡ true
  unfolding order_bytes
  order_written =
      let m = order_bytes p note signature in
      let body = body_bytes p note in
      let n : length body ≡ 25 + length note = length_body p note in
      ends_laid m order_fields (omega (arith, length_order p note signature s))
      (ends_field m [] body (field 0x11 signature) 0 0x10 25 57 (drop 1 order_fields) refl refl (lit< tt) (omega arith) (omega arith) (omega arith)
      ∙ ends_last m (field 0x10 body) signature (3 + length body) 0x11 64 64 refl (length_field 0x10 body) (lit< tt) (omega arith) (omega arith) (omega arith))

  -- the length of the body inside
  size_order : number two (order_bytes p note signature) 1 ≡ length (body_bytes p note)
  unfolding order_bytes
  size_order = size_written [] (body_bytes p note) (field 0x11 signature) 0x10 (omega (arith, length_body p note))

  -- the body inside an order that was written
  inside_written : inside (order_bytes p note signature) ≡ body_bytes p note
  unfolding order_bytes bytes
  inside_written = cut_written _ (0x10 ∷ bytes two (length (body_bytes p note))) (body_bytes p note) (field 0x11 signature) 3 _ refl refl (sym size_order)

  -- and its signature
  signature_written : signature_in (order_bytes p note signature) ≡ signature
  unfolding order_bytes
  signature_written =
      let pre = field 0x10 (body_bytes p note) ++ (bytes one 0x11 ++ bytes two (length signature)) in
      let n : length pre ≡ number two (order_bytes p note signature) 1 + 6 = simp (lengths, size_order) (omega arith) in
      cut_written _ pre signature [] _ 64 (simp (append_assoc, append-nil)) n s

-- an order that was written is read back
pub order_read_back : (p : Payment) (note signature : List ℕ) → is_payment p ≡ true → is_note (length note) ≡ true → length signature ≡ 64
    → read_order (order_bytes p note signature) ≡ record { answer = gives (payment_values p); note = note_held note; signature = signature }
unfolding read_order read_payment
order_read_back p note signature h k s =
    let short : length note ≤ 32 = leb-true _ _ k in
    rw (
      order_written p note signature short s,
      inside_written p note signature short s,
      body_written p note short,
      payment_written p note (payment_fits p h),
      h,
      note_written p note,
      signature_written p note signature short s,
      put_all (replicate 64 0) signature s,
    )

-- an order that was read is, byte for byte, its values, its note and its signature written
order_bytes_lem : (m : List ℕ) → Bytes m → laid m order_fields ≡ true → is_body (inside m) ≡ true
    → order_bytes (payment (inside m)) (note_in (inside m)) (signature_in m) ≡ m
unfolding order_bytes
order_bytes_lem m bs h i =
    let l : OrderLaid m = order_laid m h in
    let n = number two m 1 in
    let body : body_bytes (payment (inside m)) (note_in (inside m)) ≡ inside m = body_bytes_lem (inside m) (bytes_cut m 3 n bs) i in
    let total : length m ≡ n + 70 = l.total in
    let long : 64 ≤ size m (n + 3) = l.signature.long in
    let short : size m (n + 3) ≤ 64 = l.signature.short in
    let from : drop (n + 3) m ≡ field 0x11 (cut m (n + 3 + 3) 64) ++ drop (length m) m = drop_field m (n + 3) 0x11 64 64 64 (length m) bs l.signature (omega arith) (omega arith) in
    let at : n + 6 ≡ n + 3 + 3 = omega arith in
    rw (body, at)
    (sym (drop_field m 0 0x10 25 57 n (n + 3) bs l.body refl (omega arith) ∙ rw (from, drop-length m, append-nil (field 0x11 (cut m (n + 3 + 3) 64)))))

-- where the writer does not refuse, its tests hold and it writes the bytes
pub order_wrote : (out : List ℕ) (p : Payment) (note signature : List ℕ) → told (write_order out p note signature) ≡ 0
    → (is_payment p ≡ true) × (is_note (length note) ≡ true) × (length signature ≡ 64) × Wrote (write_order out p note signature) out (order_bytes p note signature)
unfolding write_order
order_wrote out p note signature h =
    let a = through told (is_payment p) (unwritten 2 out) _ (lit< tt) h in
    let b = through told (is_note (length note)) (unwritten 2 out) _ (lit< tt) a.1 in
    let c = through told (eqb (length signature) 64) (unwritten 2 out) _ (lit< tt) b.1 in
    (a.0, b.0, eqb-true _ _ c.0, comes_to_write _ out (order_bytes p note signature) (rw (a.0, b.0, c.0)) c.1)

-- a reader that gives values found an order, and they are those of the body inside
pub order_given_lem : (m : List ℕ) (p : Payment) → read_order_payment m ≡ gives (payment_values p)
    → (laid m order_fields ≡ true) × (is_body (inside m) ≡ true) × (payment (inside m) ≡ p)
order_given_lem m p h =
    let l = through said (laid m order_fields) (refuses 1) _ (lit< tt) (ap said h) in
    let b = payment_given (inside m) p (rw l.0 at h) in
    (l.0, b.0, b.1)

-- from these values, its note and its signature it is written again byte for byte
pub order_again : (m out : List ℕ) → Bytes m → laid m order_fields ≡ true → is_body (inside m) ≡ true → length m ≤ length out
    → write_order out (payment (inside m)) (note_in (inside m)) (signature_in m) ≡ wrote out m
unfolding write_order
order_again m out bs h i fits =
    let t = both (laid (inside m) body_fields) (is_payment (payment (inside m))) i in
    rw (t.1, note_fits (inside m) t.0, eq-eqb (length (signature_in m)) 64 (signature_fits m h), order_bytes_lem m bs h i) (has_room out m fits)
