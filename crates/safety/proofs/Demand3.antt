-- Demand 3 holds. Assumes nothing.
use Prim.Native.Nat.{ℕ, ◌+◌, ◌*◌}
use mathlib.Core.Path.{◌≡◌, refl, ap, ◌∙◌}
use mathlib.Core.Bool.{Bool, true, false}
use mathlib.Core.List.{List}
use native.Mathlib.Omega.{arith}
use lib.ListN.{length}
use lib.Dec.{ltb}
use lib.IntN.{pos, negsuc, sub_ℕ}
use borrow.Author.Tests.{ltb-true, ltb-false, lt-ltb, le-ltb, leb-true}
use Rattle.model.specs.Lists.{In, sum_of}
use Rattle.model.specs.Worlds as model
use Rattle.model.specs.Quorums.{counting, Few}
use Rattle.model.specs.Histories.{debits, credits, fundings, Lawful}
use Rattle.model.proofs.SumLaws.{sum_mono}
use Rattle.model.proofs.QuorumLaws.{count_few}
use Rattle.model.proofs.HistoryLaws.{debit_once, credit_once, debit_certain}
use Rattle.model.proofs.Safety.{unique, account_safe, solvent, listed}
use Rattle.wire.specs.Messages.{payment, inside}
use Rattle.wire.specs.Votes as wire
use Rattle.wire.specs.Votes.{committee, signers_in}
use Rattle.wire.specs.Readers.{judged_by}
use Rattle.records.specs.Balances.{nought}
use Rattle.records.specs.States as machine
use Rattle.records.specs.Answers.{confirmed}
use Rattle.records.specs.Calls.{has_place}
use Rattle.invariants.specs.Meaning.{HasRoom}
use Rattle.invariants.specs.Outcomes.{judged}
use Rattle.invariants.specs.Theorems.{certificate_counts, account_balance}
use Rattle.invariants.specs.Layouts as machine-layouts
use Rattle.invariants.specs.Sixteen.{order_not_16, certificate_not_16, funding_not_16}
use Rattle.ledger.specs.Answers.{paid}
use Rattle.bookkeeping.specs.Runs.{fund_never_16, redeem_never_16}
use Rattle.bookkeeping.specs.Layouts as ledger-layouts
use Rattle.roundtrip.specs.Voters.{known_most}
use Rattle.safety.specs.Runs.{Call, Moment, rules, answer}
use Rattle.safety.specs.Demand3.{AtMostF, takes, brings, to_ledger, funds, Honest, OnHonest, FairVotes, Good, Safe, Kept, Demand3}
use Rattle.safety.proofs.Papers.{papers, world, certain_counts, counts_certain}
use Rattle.safety.proofs.Certificates.{Seats, counting_seats, judged_alike, signers_once, fair_votes}
use Rattle.safety.proofs.Books.{amount_in}
use Rattle.safety.proofs.Followers.{Follower}
use Rattle.safety.proofs.Room.{follower_room}
use Rattle.safety.proofs.Holding as holding
use Rattle.safety.proofs.Paying.{pays_whole}
use Rattle.safety.proofs.Running.{Holds, member, run_holds}

-- two differences of equal distance are equal
same_difference : (a b c d : ℕ) → a + d ≡ b + c → sub_ℕ a b ≡ sub_ℕ c d
same_difference a b c d e = go (ltb a b) refl
  where
    go : (t : Bool) → ltb a b ≡ t → sub_ℕ a b ≡ sub_ℕ c d
    go true h =
        let l = ltb-true a b h in
        rw (h, lt-ltb c d (omega arith)) (ap negsuc (omega arith))
    go false h =
        let l = ltb-false a b h in
        rw (h, le-ltb c d (omega arith)) (ap pos (omega arith))

module _ (f : ℕ) (dishonest : ℕ → Bool) (few : AtMostF f dishonest) (w : Moment) (h : Holds f dishonest w) where
  -- the dishonest are few
  minority : Few (counting f) dishonest
  minority = count_few f dishonest (omega (arith, few))

  -- an honest machine's bytes follow what it did, which is lawful, and have room
  own : (k : ℕ) → Honest f dishonest k → Follower (w.layouts k) (w.refusals k) (counting f) w.given (w.machines k) (w.did k)
  own k honest = holding.own (counting f) dishonest w h k (member f dishonest k honest.0, honest.1)

  lawful : (k : ℕ) → Honest f dishonest k → Lawful papers (model.Certain papers (counting f) dishonest (world w)) w.given (w.did k)
  lawful k honest = holding.lawful (counting f) dishonest w h k (member f dishonest k honest.0, honest.1)

  room : (k : ℕ) → Honest f dishonest k → HasRoom (rules w k) (w.machines k)
  room k honest =
      follower_room (w.layouts k) (w.refusals k) (counting f) _ w.given (w.machines k) (w.did k) (lawful k honest) (own k honest)
      h.books.balanced.few

  -- a good certificate is judged good by every header that names this committee
  good_by : (c : wire.Committee) → Seats (counting f) c → (m verdicts : List ℕ) → Good f dishonest m verdicts → (judged_by c m verdicts).number ≡ 0
  good_by c seats m verdicts good = rw (judged_alike (counting f) c (committee f) seats (counting_seats f) m verdicts) good

  -- a good certificate to the ledger, not yet paid, is paid whole
  paid_whole : (m verdicts : List ℕ) → Good f dishonest m verdicts → FairVotes f dishonest w m verdicts → (payment (inside m)).kind ≡ 1
      → (In (inside m) w.paid → ⊥)
      → answer w (Call.redeem m verdicts) ≡ paid (payment (inside m)).recipient (payment (inside m)).amount
  paid_whole m verdicts good fair =
      pays_whole (counting f) dishonest minority w h m verdicts (good_by _ h.seats m verdicts good) (fair_votes f dishonest w m verdicts fair)

  safe : Safe f dishonest w
  safe =
      let l = listed papers (counting f) dishonest minority (world w) h.sound in
      record {
        certains = l.0;
        each_once = l.1.once;
        only_certain = λ b i. certain_counts f dishonest w b (l.1.only_certain b i);
        all_certain = λ b c. l.1.all_certain b (counts_certain f dishonest w b c);
        good_certain = λ m verdicts good fair.
            certain_counts f dishonest w (inside m)
            (holding.certified_by (counting f) dishonest w m verdicts (fair_votes f dishonest w m verdicts fair) (committee f) (counting_seats f) good);
        one_a_number = λ b c u v.
            unique papers (counting f) dishonest minority (world w) h.sound b c (counts_certain f dishonest w b u) (counts_certain f dishonest w c v);
        covered = account_safe papers (counting f) dishonest minority (world w) h.sound l.0 l.1;
        solvent = solvent papers (counting f) dishonest minority (world w) h.sound l.0 l.1;
        payable = paid_whole;
        paid_once = h.sound.paid_once;
        paid_certain = λ b i. (certain_counts f dishonest w b (h.sound.paid_certain b i), (h.books.ledgers b i).1);
        counted_once = λ m verdicts good.
            let j = judged (committee f) m verdicts good in
            (signers_once (committee f) m verdicts j, λ k i. known_most (signers_in m) (3 * f) k j.members i, leb-true _ _ j.enough);
      }

  -- no call answers 16
  never_16 : (call : Call) → OnHonest f dishonest call → (answer w call).number ≡ 16 → ⊥
  never_16 (Call.order k m verdicts) honest =
      order_not_16 (rules w k) (w.machines k) m verdicts (own k honest).formed (machine-layouts.further_not_16 (w.layouts k) (w.refusals k))
  never_16 (Call.certificate k m verdicts) honest = certificate_not_16 (rules w k) (w.machines k) m verdicts (room k honest)
  never_16 (Call.funding_order k m verdicts) honest = funding_not_16 (rules w k) (w.machines k) m verdicts (room k honest)
  never_16 (Call.fund out account amount) honest = fund_never_16 out account amount h.books.balanced
  never_16 (Call.redeem m verdicts) honest = redeem_never_16 m verdicts h.books.balanced

  -- a good certificate in its turn is confirmed, with the number of its votes
  counted : (k : ℕ) → Honest f dishonest k → (m verdicts : List ℕ) → Good f dishonest m verdicts
      → (payment (inside m)).sequence.0 ≡ (machine.record_of (rules w k) (w.machines k) (payment (inside m)).sender.0).next.0
      → answer w (Call.certificate k m verdicts) ≡ confirmed (length (signers_in m))
  counted k honest m verdicts good turn =
      let all = machine-layouts.keeps_all (w.layouts k) (w.refusals k) in
      let place : has_place (rules w k) (w.machines k) (payment (inside m)) ≡ true = rw (all (payment (inside m)).recipient) refl in
      rw (machine-layouts.counts_votes (w.layouts k) (w.refusals k) (w.machines k) (signers_in m)) at
      (certificate_counts (rules w k) (w.machines k) m verdicts (room k honest) (good_by _ (own k honest).seats m verdicts good) (all _) place turn)

  -- what is paid goes to the ledger whole
  worth : (b : List ℕ) → In b w.paid → to_ledger b ≡ amount_in b
  worth b i = h.sound.paid_ledger b i

  kept : Kept f dishonest w
  kept = record {
    machines_rules = λ k honest. machine-layouts.rules_of_01 (w.layouts k) (w.refusals k);
    books_rules = ledger-layouts.rules_of_01 w.ledger_layout;
    machines_formed = λ k honest. (own k honest).formed;
    ledger_formed = h.books.balanced.state;
    unlimited = never_16;
    counts = counted;
    debited_once = λ k honest. debit_once papers _ w.given (w.did k) (lawful k honest);
    credited_once = λ k honest. credit_once papers _ w.given (w.did k) (lawful k honest);
    debits_certain = λ k honest b i. certain_counts f dishonest w b (debit_certain papers _ w.given (w.did k) (lawful k honest) b i);
    balances = λ k honest x l.
        let bytes = own k honest in
        let s = w.machines k in
        let money = bytes.follows.money x (omega arith) in
        account_balance (rules w k) s x bytes.formed l (machine-layouts.keeps_all (w.layouts k) (w.refusals k) x)
        ∙ same_difference (machine.record_of (rules w k) s x).balance nought (sum_of (funds x) (fundings (w.did k)) + sum_of (brings x) (credits (w.did k))) (sum_of (takes x) (debits (w.did k))) (omega arith);
    nexts = λ k honest x l. (own k honest).follows.turns.next_is x (omega arith);
    indexes = λ k honest. (own k honest).index;
    ledger_index = h.books.balanced.index;
    pot = omega (arith, h.books.balanced.pot, sum_mono to_ledger amount_in w.paid (λ b i. omega (arith, worth b i)), sum_mono amount_in to_ledger w.paid (λ b i. omega (arith, worth b i)));
  }

pub demand3 : Demand3
demand3 f small dishonest few w run = let h = run_holds f dishonest small w run in (safe f dishonest few w h, kept f dishonest few w h)
