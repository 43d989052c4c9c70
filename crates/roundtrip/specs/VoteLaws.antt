-- Votes of a certificate: those that were written are passed and read back, and those that were passed are, byte for byte, votes written. Assumes nothing.
use Rattle.std.specs.Prelude.{ℕ, zero, suc, ◌+◌, ◌*◌, ◌<◌, ◌≤◌, ◌≡◌, refl, List, ◌∷◌, ◌++◌, length, get_or, take, drop}
use Rattle.std.proofs.Common.{sym, ap, ◌∙◌, append-nil, append_assoc, arith, length-append, length-take, length-drop, take-append-drop, drop_of_length-le, take_at, drop_at, get_or-drop, get_or-take, length-take-le, take_all, eq-eqb, ne_eqb}
use Rattle.std.proofs.Math.ListN.{get_or-append}
use Rattle.std.proofs.Math.Seq.{drop-append_seam}
use Rattle.octets.specs.Octets.{number, bytes, cut}
use Rattle.wire.specs.Fields.{field, lost, past, past_all}
use Rattle.wire.specs.Votes.{signers, vote_fields, vote_run}
use Rattle.wire.proofs.FieldLaws.{Bytes, Passed, passed, past_field, drop_sized, length_field, length_cut}
use Rattle.wire.proofs.Laid.{Votes, votes_length}

-- votes are passed up to the end of the message
pub votes_pass : (n fuel : ℕ) (m : List ℕ) (at : ℕ) → n ≤ fuel → Votes n m at → past_all fuel m at 0x21 65 65 ≡ length m
unfolding past_all
votes_pass zero zero m at h v = rw (eq-eqb at (length m) v) v
votes_pass zero (suc fuel) m at h v = rw (eq-eqb at (length m) v) v
votes_pass (suc n) zero m at h v = absurd (omega arith)
votes_pass (suc n) (suc fuel) m at h v =
    rw (ne_eqb at (length m) (λ e. omega (arith, votes_length n m (at + 68) v.1)), v.0) (votes_pass n fuel m (at + 68) (omega arith) v.1)

-- a run of votes begins with a vote of 65 bytes
first_vote : (n : ℕ) (run : List ℕ) → length run ≡ 65 * suc n → length (take 65 run) ≡ 65
first_vote n run h = length-take-le 65 run (omega arith)

-- and what follows is a run of one vote fewer
other_votes : (n : ℕ) (run : List ℕ) → length run ≡ 65 * suc n → length (drop 65 run) ≡ 65 * n
other_votes n run h = simp length-drop (omega arith)

-- a field 21 is 68 bytes long
length_vote : (vote : List ℕ) → length vote ≡ 65 → length (field 0x21 vote) ≡ 68
length_vote vote h = length_field 0x21 vote ∙ rw h

-- behind a field's first three bytes stands its value
pub field_value : (tag : ℕ) (value rest : List ℕ) → drop 3 (field tag value ++ rest) ≡ value ++ rest
unfolding bytes
field_value tag value rest = refl

-- votes that were written stand as laid down
pub votes_written : (n : ℕ) (pre run : List ℕ) → length run ≡ 65 * n → Votes n (pre ++ vote_fields n run) (length pre)
unfolding vote_fields
votes_written zero pre run h = rw append-nil
votes_written (suc n) pre run h =
    let vote = take 65 run in
    let rest = vote_fields n (drop 65 run) in
    let v : length vote ≡ 65 = first_vote n run h in
    let e : length (pre ++ field 0x21 vote) ≡ length pre + 68 = length-append pre (field 0x21 vote) ∙ rw (length_vote vote v) in (
      past_field pre vote rest 0x21 65 65 (omega arith) (omega arith) (omega arith) (omega arith) ∙ omega arith,
      rw (← (append_assoc pre (field 0x21 vote) rest), ← e) (votes_written n (pre ++ field 0x21 vote) (drop 65 run) (other_votes n run h)),
    )

-- one vote more is one field more
vote_fields_more : (n : ℕ) (vote run : List ℕ) → length vote ≡ 65 → vote_fields (suc n) (vote ++ run) ≡ field 0x21 vote ++ vote_fields n run
unfolding vote_fields
vote_fields_more n vote run h = rw (take_at vote run 65 h, drop_at vote run 65 h)

-- one field more is one vote more
vote_run_more : (n : ℕ) (vote fields : List ℕ) → length vote ≡ 65 → vote_run (suc n) (field 0x21 vote ++ fields) ≡ vote ++ vote_run n fields
unfolding vote_run
vote_run_more n vote fields h = rw (field_value 0x21 vote fields, take_at vote fields 65 h, drop_at (field 0x21 vote) fields 68 (length_vote vote h))

-- votes that were written are read back
pub vote_run_written : (n : ℕ) (run : List ℕ) → length run ≡ 65 * n → vote_run n (vote_fields n run) ≡ run
unfolding vote_fields vote_run
vote_run_written zero run h = take_all 0 run (omega arith)
vote_run_written (suc n) run h =
    vote_run_more n (take 65 run) (vote_fields n (drop 65 run)) (first_vote n run h)
    ∙ rw (vote_run_written n (drop 65 run) (other_votes n run h)) (take-append-drop 65 run)

-- the run of n votes has 65 * n bytes
pub length_vote_run : (n : ℕ) (fields : List ℕ) → length fields ≡ 68 * n → length (vote_run n fields) ≡ 65 * n
unfolding vote_run
length_vote_run zero fields h = refl
length_vote_run (suc n) fields h =
    let r : length (vote_run n (drop 68 fields)) ≡ 65 * n = length_vote_run n (drop 68 fields) (simp length-drop (omega arith)) in
    simp (length-append, length-take, length-drop) (omega arith)

-- votes that were passed are written again without a change
pub votes_again : (n : ℕ) (m : List ℕ) (at : ℕ) → Bytes m → length m < lost → Votes n m at → vote_fields n (vote_run n (drop at m)) ≡ drop at m
unfolding vote_fields vote_run
votes_again zero m at b short v = sym (drop_of_length-le m {i = at} (omega arith))
votes_again (suc n) m at b short v =
    let held : past m at 0x21 65 65 ≡ lost → ⊥ = λ l. omega (arith, votes_length n m (at + 68) v.1) in
    let p : Passed m at 0x21 65 65 = passed m at 0x21 65 65 held in
    let vote = cut m (at + 3) 65 in
    let rest = drop (at + 68) m in
    let l : length vote ≡ 65 = length_cut m (at + 3) 65 (omega (arith, p.whole)) in
    let e : drop at m ≡ field 0x21 vote ++ rest = drop_sized m at 0x21 65 (at + 68) b p (omega arith) in
    ap (λ (s : List ℕ). vote_fields (suc n) (vote_run (suc n) s)) e
    ∙ ap (λ (s : List ℕ). vote_fields (suc n) s) (vote_run_more n vote rest l)
    ∙ vote_fields_more n vote (vote_run n rest) l
    ∙ ap (λ (s : List ℕ). field 0x21 vote ++ s) (votes_again n m (at + 68) b short v.1)
    ∙ sym e

-- a machine number behind a first part is read in what follows that part
signers_drop : (s : List ℕ) (k at step n : ℕ) → signers s (k + at) step n ≡ signers (drop k s) at step n
unfolding signers number
signers_drop s k at step zero = refl
signers_drop s k at step (suc n) =
    let e : k + at + step ≡ k + (at + step) = omega arith in
    rw (← (get_or-drop k s at 0), e, signers_drop s k (at + step) step n)

-- there are as many machine numbers as votes
pub length_signers : (s : List ℕ) (at step n : ℕ) → length (signers s at step n) ≡ n
unfolding signers
length_signers s at step zero = refl
length_signers s at step (suc n) = ap suc (length_signers s (at + step) step n)

-- the machine numbers of a run of votes are those in its fields
signers_fields : (n : ℕ) (run : List ℕ) → length run ≡ 65 * n → signers (vote_fields n run) 3 68 n ≡ signers run 0 65 n
unfolding signers vote_fields number bytes
signers_fields zero run h = refl
signers_fields (suc n) run h =
    let vote = take 65 run in
    let rest = vote_fields n (drop 65 run) in
    let v : length vote ≡ 65 = first_vote n run h in
    let first : get_or (vote ++ rest) 0 0 ≡ get_or run 0 0 = get_or-append vote rest 0 0 (omega arith) ∙ get_or-take 65 run 0 0 (omega arith) in
    let others : signers (field 0x21 vote ++ rest) 71 68 n ≡ signers run 65 65 n
    = signers_drop (field 0x21 vote ++ rest) 68 3 68 n
    ∙ rw (drop_at (field 0x21 vote) rest 68 (length_vote vote v)) (signers_fields n (drop 65 run) (other_votes n run h))
    ∙ sym (signers_drop run 65 0 65 n) in
    λ i. first i ∷ others i

-- and those of the fields behind a first part: they are the same in both layouts
pub signers_written : (n : ℕ) (pre run : List ℕ) → length run ≡ 65 * n → signers (pre ++ vote_fields n run) (length pre + 3) 68 n ≡ signers run 0 65 n
signers_written n pre run h = signers_drop (pre ++ vote_fields n run) (length pre) 3 68 n ∙ rw (drop-append_seam pre (vote_fields n run)) (signers_fields n run h)
