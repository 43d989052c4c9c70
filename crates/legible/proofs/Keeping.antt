-- The ledger's last funding index keeps its two bytes. Assumes nothing.
use Prim.Native.Nat.{ℕ, ◌+◌, ◌-◌, ◌≤◌}
use mathlib.Core.Bool.{cond}
use mathlib.Core.List.{List}
use native.Mathlib.Omega.{arith}
use lib.ListN.{length, replicate}
use lib.Dec.{ltb}
use Rattle.octets.specs.Octets.{same}
use Rattle.octets.specs.Tests.{need}
use Rattle.wire.specs.Messages.{inside, payment}
use Rattle.states.specs.Headers.{last_index, with_index}
use Rattle.states.specs.Outcomes.{Outcome}
use Rattle.ledger.specs.Answers.{FundOutcome}
use Rattle.ledger.specs.States as logs
use Rattle.ledger.specs.Calls as ledger
use Rattle.bookkeeping.specs.Outcomes.{fund_comes, redeem_comes}
use Rattle.bookkeeping.specs.Keeping.{base_lays, index_written, pot_leaves_index, log_leaves_index, state_room}
use Rattle.invariants.specs.Outcomes.{need_case, cond_case}
use Rattle.text.specs.Ascii.{ascii}
use Rattle.text.specs.Words.{word_at, has_words, number_of, is_bytes, bytes_of, is_line}
use Rattle.refusals.specs.declared.Fault.{Fault}
use Rattle.lines.specs.Calls.{Reply, faulty, handled, paper_line, fund_line, pot_line, log_line, uncalled, ledger_line}
use Rattle.lines.specs.Serving.{reply_of}
use Rattle.lines.specs.declared.calls.Paper.{Paper}
use Rattle.lines.specs.declared.serving.Role.{Role}
use Rattle.legible.specs.Pieces.{Fits}

-- its index has two bytes
abbrev Few : List ℕ → Type 0
Few s = last_index s ≤ 65_535

fund_few : (s out : List ℕ) (account amount : ℕ) → Few s → Few (ledger.fund logs.base s out account amount).state
fund_few s out account amount few =
    fund_comes (λ (o : FundOutcome). Few o.state) logs.base s out account amount (λ n h. few) (λ may.
    let written = index_written s (last_index s + 1) (state_room logs.base base_lays s may.state) (omega (arith, may.index)) in
    let kept = pot_leaves_index (with_index s (last_index s + 1)) (logs.pot s + amount) in
    omega (arith, may.index, written, kept))

redeem_few : (s m verdicts : List ℕ) → Few s → Few (ledger.redeem logs.base s m verdicts).state
redeem_few s m verdicts few =
    redeem_comes (λ (o : Outcome). Few o.state) logs.base s m verdicts (λ n h. few) (λ may.
    let p = payment (inside m) in
    let kept = pot_leaves_index (logs.with_redeemed logs.base s p.sender.0 p.sequence.0) (logs.pot s - p.amount) in
    let left = log_leaves_index logs.base base_lays s p.sender.0 p.sequence.0 in
    omega (arith, few, kept, left))

-- so it does whatever line is answered
module _ (s line : List ℕ) (few : Few s) where
  abbrev Keeps : Reply → Type 0
  Keeps r = Few r.state

  of_words : (n : ℕ) (r : Reply) → Keeps r → Keeps (need (has_words n line) (faulty Fault.WordCount s) r)
  of_words n r h = need_case Keeps (has_words n line) _ r few (λ _. h)

  of_bytes : (k : ℕ) (r : Reply) → Keeps r → Keeps (need (is_bytes (word_at k line)) (faulty Fault.NotHexadecimal s) r)
  of_bytes k r h = need_case Keeps (is_bytes (word_at k line)) _ r few (λ _. h)

  redemption : Keeps (paper_line Paper.Redemption s line)
  unfolding paper_line handled
  redemption = of_words 3 _ (of_bytes 1 _ (of_bytes 2 _ (redeem_few s (bytes_of (word_at 1 line)) (bytes_of (word_at 2 line)) few)))

  funding : Keeps (fund_line s line)
  unfolding fund_line
  funding = of_words 3 _ (fund_few s (replicate 16 0) (number_of (word_at 1 line)) (number_of (word_at 2 line)) few)

  pot : Keeps (pot_line s line)
  unfolding pot_line
  pot = of_words 1 _ few

  log : Keeps (log_line s line)
  unfolding log_line
  log = of_words 3 _ few

  none : Keeps (uncalled s line)
  none = need_case Keeps (ltb 0 (length (word_at 0 line))) _ _ few (λ _. few)

  called : (name : List ℕ) (r other : Reply) → Keeps r → Keeps other → Keeps (cond (same (word_at 0 line) name) r other)
  called name r other h k = cond_case Keeps (same (word_at 0 line) name) r other (λ _. h) (λ _. k)

  ledger_keeps : Keeps (ledger_line s line)
  unfolding ledger_line
  ledger_keeps =
      need_case Keeps (is_line line) _ _ few (λ _.
      called (ascii "redeem") _ _ redemption
      (called (ascii "fund") _ _ funding
      (called (ascii "pot") _ _ pot
      (called (ascii "redeemed") _ _ log
      none))))

pub keeps : (role : Role) (s line : List ℕ) → Fits role s → Fits role (reply_of role s line).state
keeps Role.Machine s line fits = tt
keeps Role.Ledger s line fits = ledger_keeps s line fits
