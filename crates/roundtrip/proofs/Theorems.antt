-- What an accepted certificate's number says of its voters. Assumes nothing.
use Rattle.std.specs.Prelude.{ℕ, ◌*◌, ◌≡◌, List, ◌∷◌, length, get_or}
use Rattle.std.proofs.Common.{sym, ap, ◌∙◌, arith, leb-true}
use Rattle.wire.specs.Votes.{votes, signers_in}
use Rattle.wire.specs.Refusals.{Said, gives}
use Rattle.wire.specs.Readers.{read_certificate, judged}
use Rattle.roundtrip.specs.Answers.{said}
use Rattle.roundtrip.specs.Certificate.{certificate_given, judged_read}
use Rattle.roundtrip.specs.VoteLaws.{length_signers}
use Rattle.roundtrip.specs.Voters.{rising_distinct, known_most}
use Rattle.roundtrip.specs.Theorems.{Voters}

-- The number that the certificate reader gives is that of the different machines that voted
pub reader_voters : (f : ℕ) (m : List ℕ) (n : ℕ) (vs : List ℕ) → read_certificate f m ≡ gives (n ∷ vs) → Voters f m n
reader_voters f m n vs h =
    let c = certificate_given f m (ap said h) in
    let e : length (signers_in m) ≡ n = ap (λ (s : Said). get_or s.values 0 0) (sym c.answer ∙ h) in
    record {
      count = sym (length_signers m _ 68 (votes m)) ∙ e;
      machines = e;
      different = rising_distinct (signers_in m) c.all_rising;
      members = λ k i. known_most (signers_in m) (3 * f) k c.all_known i;
      quorum = omega (arith, leb-true);
    }

-- and so is the number that a certificate judged with its verdicts gives
pub voters : (f : ℕ) (m verdicts : List ℕ) (n : ℕ) (vs : List ℕ) → judged f m verdicts ≡ gives (n ∷ vs) → Voters f m n
voters f m verdicts n vs h = reader_voters f m n vs (sym (judged_read f m verdicts (ap said h)) ∙ h)
