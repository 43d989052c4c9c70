-- Certificates: one that was written is read back, and one that was read is written again, byte for byte. Assumes nothing.
use Rattle.std.specs.Prelude.{ℕ, ◌+◌, ◌*◌, ◌/◌, ◌%◌, ◌<◌, ◌≤◌, ◌≡◌, refl, true, drop, leb, eqb}
use Rattle.std.proofs.Common.{sym, ◌∙◌, arith, length-drop, take_at, lit<, leb-true, eqb-true, eq-eqb}
use mathlib.Core.List.{List, [], ◌∷◌, ◌++◌}
use Rattle.std.proofs.Math.ListN.{length}
use Rattle.std.proofs.Math.Seq.{drop_at}
use Rattle.octets.specs.Octets.{two, number}
use Rattle.wire.specs.Numbers.{is_faults}
use Rattle.wire.specs.Fields.{field, want_all, after, ends, laid}
use Rattle.wire.specs.Messages.{body_fields, certificate_fields, inside, payment, is_payment}
use Rattle.wire.specs.Votes.{votes, signers, signers_in, known, rising, good, vote_fields, votes_in, certificate_bytes}
use Rattle.wire.specs.Refusals.{gives, refuses, payment_values}
use Rattle.wire.specs.Readers.{read_certificate_of, read_certificate, judged_by, judged}
use Rattle.wire.specs.Writers.{unwritten, write_voted_of, write_certificate}
use Rattle.wire.proofs.FieldLaws.{Bytes, size_written, drop_field, length_field, ends_laid, ends_field}
use Rattle.wire.proofs.Laid.{BodyLaid, body_laid, Votes, votes_length, CertificateLaid, certificate_laid}
use Rattle.writing.proofs.Written.{length_certificate}
use Rattle.roundtrip.specs.Answers.{through, said, told, wrote, Wrote, has_room, comes_to_write}
use Rattle.roundtrip.specs.VoteLaws.{votes_written, votes_pass, vote_run_written, length_vote_run, votes_again, length_signers, signers_written, field_value}
use Rattle.roundtrip.specs.Voters.{voters_few}

-- the machine numbers in a run of votes
abbrev signers_of : List ℕ → List ℕ
signers_of run = signers run 0 65 (length run / 65)

-- a body and a run of votes from which a committee with f faults makes a certificate
pub record Certifies (f : ℕ) (body run : List ℕ) : Type 0 where
  pub faults : is_faults f ≡ true
  pub whole : length run % 65 ≡ 0
  pub formed : laid body body_fields ≡ true
  pub in_range : is_payment (payment body) ≡ true
  pub all_known : known (3 * f) (signers_of run) ≡ true
  pub all_rising : rising (signers_of run) ≡ true
  pub enough : leb (2 * f + 1) (length (signers_of run)) ≡ true

-- where the writer does not refuse, its tests hold and it writes the bytes
pub certificate_wrote : (f : ℕ) (out body run : List ℕ) → told (write_certificate f out body run) ≡ 0
    → Certifies f body run × Wrote (write_certificate f out body run) out (certificate_bytes body run)
unfolding write_certificate write_voted_of
certificate_wrote f out body run h =
    let a = through told (is_faults f) (unwritten 2 out) _ (lit< tt) h in
    let b = through told (eqb (length run % 65) 0) (unwritten 1 out) _ (lit< tt) a.1 in
    let c = through told (laid body body_fields) (unwritten 1 out) _ (lit< tt) b.1 in
    let d = through told (is_payment (payment body)) (unwritten 2 out) _ (lit< tt) c.1 in
    let e = through told (known (3 * f) (signers_of run)) (unwritten 5 out) _ (lit< tt) d.1 in
    let g = through told (rising (signers_of run)) (unwritten 6 out) _ (lit< tt) e.1 in
    let i = through told (leb (2 * f + 1) (length (signers_of run))) (unwritten 7 out) _ (lit< tt) g.1 in (
      record { faults = a.0; whole = eqb-true _ _ b.0; formed = c.0; in_range = d.0; all_known = e.0; all_rising = g.0; enough = i.0 },
      comes_to_write _ out (certificate_bytes body run) (simp (a.0, b.0, c.0, d.0, e.0, g.0, i.0)) i.1,
    )

-- and where they hold and there is room it does not refuse
pub certifies_written : (f : ℕ) (out body run : List ℕ) → Certifies f body run → length (certificate_bytes body run) ≤ length out
    → write_certificate f out body run ≡ wrote out (certificate_bytes body run)
unfolding write_certificate write_voted_of
certifies_written f out body run c l =
    simp (c.faults, eq-eqb _ _ c.whole, c.formed, c.in_range, c.all_known, c.all_rising, c.enough, has_room out (certificate_bytes body run) l)

-- a certificate made of a body and a run of whole votes
module _ (body run : List ℕ) (whole : length run % 65 ≡ 0) (small : length body < 65536) where
  -- the run is so many votes of 65 bytes
  run_votes : length run ≡ 65 * (length run / 65)
  run_votes = omega arith

  -- its first field says the body's length
  body_size_written : number two (certificate_bytes body run) 1 ≡ length body
  unfolding certificate_bytes
  body_size_written = size_written [] body (vote_fields (length run / 65) run) 0x20 small

  -- the body inside is the body it was made of
  inside_written : inside (certificate_bytes body run) ≡ body
  unfolding certificate_bytes
  inside_written = rw (body_size_written, field_value 0x20 body (vote_fields (length run / 65) run)) (take_at body _ (length body) refl)

  -- it has as many votes as the run
  count_written : votes (certificate_bytes body run) ≡ length run / 65
  count_written = rw body_size_written (omega (arith, length_certificate body run))

  -- its votes are the run it was made of
  votes_in_written : votes_in (certificate_bytes body run) ≡ run
  unfolding certificate_bytes
  votes_in_written =
      rw (count_written, body_size_written, drop_at (field 0x20 body) (vote_fields (length run / 65) run) (length body + 3) (length_field 0x20 body ∙ omega arith))
      (vote_run_written (length run / 65) run run_votes)

  -- its machine numbers are those of the run
  signers_in_written : signers_in (certificate_bytes body run) ≡ signers_of run
  unfolding certificate_bytes
  signers_in_written =
      let e : length body + 6 ≡ length (field 0x20 body) + 3 = omega (arith, length_field 0x20 body) in
      rw (count_written, body_size_written, e) (signers_written (length run / 65) (field 0x20 body) run run_votes)

-- at most 16 machines can vote, so that what certifies makes at most 1,148 bytes
pub certifies_size : (f : ℕ) (body run : List ℕ) → Certifies f body run → length (certificate_bytes body run) ≤ 1_148
certifies_size f body run c =
    let few : length (signers_of run) ≤ 3 * f + 1 = voters_few (signers_of run) (3 * f) c.all_rising c.all_known in
    omega (arith, (body_laid body c.formed).most, leb-true f 5 c.faults, length_signers run 0 65 (length run / 65), length_certificate body run)

-- a body and votes that certify make a message with its fields
certifies_laid : (f : ℕ) (body run : List ℕ) → Certifies f body run → laid (certificate_bytes body run) certificate_fields ≡ true
unfolding ends after certificate_bytes
certifies_laid f body run c =
    let b : BodyLaid body = body_laid body c.formed in
    let n = length run / 65 in
    let m = field 0x20 body ++ vote_fields n run in
    let small : length body < 65536 = omega (arith, b.most) in
    let front : 0 + 3 + length body ≡ length (field 0x20 body) = omega (arith, length_field 0x20 body) in
    let written : Votes n m (length (field 0x20 body)) = votes_written n (field 0x20 body) run (run_votes body run c.whole small) in
    ends_laid m certificate_fields (certifies_size f body run c)
    (ends_field m [] body (vote_fields n run) 0 0x20 25 57 (want_all 0x21 65 ∷ []) refl refl (lit< tt) small b.least b.most
    ∙ rw front (votes_pass n (length m) m (length (field 0x20 body)) (omega (arith, votes_length n m (length (field 0x20 body)) written)) written))

-- what a body and votes that certify make is read back: the answer, the body and the votes
pub certificate_read_back : (f : ℕ) (body run : List ℕ) → Certifies f body run
    → (read_certificate f (certificate_bytes body run) ≡ gives (length run / 65 ∷ payment_values (payment body)))
    × (inside (certificate_bytes body run) ≡ body) × (votes_in (certificate_bytes body run) ≡ run)
unfolding read_certificate_of
certificate_read_back f body run c =
    let small : length body < 65536 = omega (arith, (body_laid body c.formed).most) in
    let body_back = inside_written body run c.whole small in
    let signers-back = signers_in_written body run c.whole small in (
      simp (
        c.faults,
        certifies_laid f body run c,
        body_back,
        c.formed,
        c.in_range,
        signers-back,
        c.all_known,
        c.all_rising,
        rw length_signers at c.enough,
        length_signers,
      ),
      body_back,
      votes_in_written body run c.whole small,
    )

-- what the certificate reader finds in a message that it accepts
pub record Certified (f : ℕ) (m : List ℕ) : Type 0 where
  pub faults : is_faults f ≡ true
  pub laid_down : laid m certificate_fields ≡ true
  pub formed : laid (inside m) body_fields ≡ true
  pub in_range : is_payment (payment (inside m)) ≡ true
  pub all_known : known (3 * f) (signers_in m) ≡ true
  pub all_rising : rising (signers_in m) ≡ true
  pub enough : leb (2 * f + 1) (length (signers_in m)) ≡ true
  pub answer : read_certificate f m ≡ gives (length (signers_in m) ∷ payment_values (payment (inside m)))

-- where the reader does not refuse, its tests hold and it gives the votes and the payment
pub certificate_given : (f : ℕ) (m : List ℕ) → said (read_certificate f m) ≡ 0 → Certified f m
unfolding read_certificate_of
certificate_given f m h =
    let a = through said (is_faults f) (refuses 2) _ (lit< tt) h in
    let b = through said (laid m certificate_fields) (refuses 1) _ (lit< tt) a.1 in
    let c = through said (laid (inside m) body_fields) (refuses 1) _ (lit< tt) b.1 in
    let d = through said (is_payment (payment (inside m))) (refuses 2) _ (lit< tt) c.1 in
    let e = through said (known (3 * f) (signers_in m)) (refuses 5) _ (lit< tt) d.1 in
    let g = through said (rising (signers_in m)) (refuses 6) _ (lit< tt) e.1 in
    let i = through said (leb (2 * f + 1) (length (signers_in m))) (refuses 7) _ (lit< tt) g.1 in
    record {
      faults = a.0;
      laid_down = b.0;
      formed = c.0;
      in_range = d.0;
      all_known = e.0;
      all_rising = g.0;
      enough = i.0;
      answer = simp (a.0, b.0, c.0, d.0, e.0, g.0, i.0);
    }

-- the votes of a message with its fields have 65 bytes each
length_votes_in : (m : List ℕ) → CertificateLaid m → length (votes_in m) ≡ 65 * votes m
length_votes_in m c =
    length_vote_run (votes m) (drop (number two m 1 + 3) m)
    (simp length-drop (omega (arith, votes_length (votes m) m (number two m 1 + 3) c.run)))

-- such a message is, byte for byte, its body and its votes
bytes_again : (m : List ℕ) → Bytes m → CertificateLaid m → certificate_bytes (inside m) (votes_in m) ≡ m
unfolding certificate_bytes
bytes_again m b c =
    let at = number two m 1 + 3 in
    let n : length (votes_in m) / 65 ≡ votes m = omega (arith, length_votes_in m c) in
    rw (n, votes_again (votes m) m at b (omega (arith, c.short)) c.run)
    (sym (drop_field m 0 0x20 25 57 (number two m 1) at b c.body refl (omega arith)))

-- a message that the reader accepts is, byte for byte, its body and its votes, and these certify
pub certificate_again : (f : ℕ) (m : List ℕ) → Bytes m → said (read_certificate f m) ≡ 0
    → (certificate_bytes (inside m) (votes_in m) ≡ m) × Certifies f (inside m) (votes_in m)
certificate_again f m b h =
    let c : Certified f m = certificate_given f m h in
    let l : CertificateLaid m = certificate_laid m c.laid_down in
    let same = bytes_again m b l in
    let whole : length (votes_in m) % 65 ≡ 0 = omega (arith, length_votes_in m l) in
    let small : length (inside m) < 65536 = omega (arith, (body_laid (inside m) c.formed).most) in
    let signed : signers_in m ≡ signers_of (votes_in m) = rw same at (signers_in_written (inside m) (votes_in m) whole small) in (
      same,
      record {
        faults = c.faults;
        whole = whole;
        formed = c.formed;
        in_range = c.in_range;
        all_known = rw signed at c.all_known;
        all_rising = rw signed at c.all_rising;
        enough = rw signed at c.enough;
      },
    )

-- a certificate that is judged good is one that the reader accepts, with the same answer
pub judged_read : (f : ℕ) (m verdicts : List ℕ) → said (judged f m verdicts) ≡ 0 → judged f m verdicts ≡ read_certificate f m
unfolding judged_by read_certificate_of
judged_read f m verdicts h =
    let a = through said (is_faults f) (refuses 2) _ (lit< tt) h in
    let b = through said (laid m certificate_fields) (refuses 1) _ (lit< tt) a.1 in
    let c = through said (laid (inside m) body_fields) (refuses 1) _ (lit< tt) b.1 in
    let d = through said (is_payment (payment (inside m))) (refuses 2) _ (lit< tt) c.1 in
    let v = through said (eqb (length verdicts) (votes m)) (refuses 3) _ (lit< tt) d.1 in
    let e = through said (known (3 * f) (signers_in m)) (refuses 5) _ (lit< tt) v.1 in
    let g = through said (rising (signers_in m)) (refuses 6) _ (lit< tt) e.1 in
    let i = through said (good verdicts) (refuses 4) _ (lit< tt) g.1 in
    simp (a.0, b.0, c.0, d.0, v.0, e.0, g.0, i.0)
