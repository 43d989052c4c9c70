-- A good certificate to the ledger, not yet paid, is paid whole: for a committee by weight. Assumes nothing.
use Prim.Native.Nat.{ℕ}
use mathlib.Core.Path.{◌≡◌, refl}
use mathlib.Core.Bool.{Bool, true, false}
use mathlib.Core.List.{List}
use native.Mathlib.Omega.{arith}
use Rattle.model.specs.Lists.{In}
use Rattle.model.specs.Quorums as quorums
use Rattle.model.specs.Worlds as model
use Rattle.model.proofs.Safety.{unique, redeemable}
use Rattle.wire.specs.Messages.{payment, inside}
use Rattle.wire.specs.Readers.{judged_by}
use Rattle.invariants.specs.Outcomes.{certificate_body, body_range}
use Rattle.ledger.specs.States as ledger
use Rattle.ledger.specs.Answers.{paid}
use Rattle.ledger.specs.Calls as on-ledger
use Rattle.bookkeeping.specs.Theorems.{redeem_pays}
use Rattle.safety.specs.Runs.{Moment, ledger_rules}
use Rattle.safety.proofs.Papers.{papers, world}
use Rattle.safety.proofs.Holding.{Holds, Truthful, certified_by}

module _ (C : quorums.Committee) (dishonest : ℕ → Bool) (few : quorums.Few C dishonest) (w : Moment) (h : Holds C dishonest w) (m verdicts : List ℕ)
    (good : (judged_by ((ledger_rules w).committee w.ledger) m verdicts).number ≡ 0) (truth : Truthful C dishonest w m verdicts) where
  -- its body is certain
  certain : model.Certain papers C dishonest (world w) (inside m)
  certain = certified_by C dishonest w m verdicts truth _ h.seats good

  -- its bit is clear, since another body that was paid under its number would be certain too
  unlogged : (In (inside m) w.paid → ⊥)
      → (t : Bool) → ledger.is_redeemed (ledger_rules w) w.ledger (payment (inside m)).sender.0 (payment (inside m)).sequence.0 ≡ t → t ≡ false
  unlogged unpaid true e =
      let range = body_range (inside m) (certificate_body _ m verdicts good) in
      let b = h.books.log_only _ _ range.sequence e in
      let equal : b.0 ≡ inside m =
      unique papers C dishonest few (world w) h.sound b.0 (inside m) (h.sound.paid_certain b.0 b.1) certain b.2 b.3 in
      absurd (unpaid (rw equal at b.1))
  unlogged unpaid false e = refl

  -- and the pot suffices
  pub pays_whole : (payment (inside m)).kind ≡ 1 → (In (inside m) w.paid → ⊥)
      → (on-ledger.redeem (ledger_rules w) w.ledger m verdicts).answer ≡ paid (payment (inside m)).recipient (payment (inside m)).amount
  pays_whole kind unpaid =
      let sum = redeemable papers C dishonest few (world w) h.sound (inside m) certain (rw kind refl) unpaid in
      redeem_pays (ledger_rules w) w.ledger m verdicts h.books.balanced.state good kind (unlogged unpaid _ refl)
      (omega (arith, sum, h.books.balanced.pot))
