-- The laws of the ledger's calls, for any messages, verdicts, numbers, outputs and states. Assumes nothing.
use Rattle.std.specs.Prelude.{ℕ, ◌+◌, ◌-◌, ◌≤◌, ◌<◌, ◌≡◌, refl, true, false, List, [], ◌∷◌, length, get_or, take}
use Rattle.std.proofs.Common.{sym, ◌∙◌, arith, leb-true, le-leb, eq-eqb}
use Rattle.std.proofs.lemmas.Bool.{false≢true}
use Rattle.octets.specs.Octets.{two, eight, bytes}
use Rattle.octets.proofs.Laws.{length_put, length_bytes, get_or_put_out, cut_put}
use Rattle.wire.specs.Messages.{payment, inside, funding_bytes}
use Rattle.wire.specs.Refusals.{gives, funding_values}
use Rattle.wire.specs.Readers.{read_funding, judged_by}
use Rattle.writing.proofs.Written.{length_funding}
use Rattle.roundtrip.specs.Funding.{funding_read_back}
use Rattle.states.specs.Headers.{last_index, with_index}
use Rattle.invariants.specs.Meaning.{LeavesRefused}
use Rattle.ledger.specs.States.{Rules, base, is_state, pot, with_pot, place, is_redeemed, with_redeemed}
use Rattle.ledger.specs.Answers.{paid}
use Rattle.ledger.specs.Calls.{fresh, fund, pay, redeem, next_funding}
use Rattle.ledger.proofs.Facts.{state_header, next_in_range}
use Rattle.bookkeeping.specs.Meaning.{LeavesBoth, Lays}
use Rattle.bookkeeping.specs.LogLaws.{redeemed_set, redeemed_leaves, redeemed_behind}
use Rattle.bookkeeping.specs.Outcomes.{fresh_comes, fund_comes, redeem_comes}
use Rattle.bookkeeping.specs.Keeping.{fresh_state_lem, log_room, with_index_keeps, with_pot_keeps, with_redeemed_keeps}

-- a refusal leaves state and output, byte for byte
pub fresh_refused : (rules : Rules) (s : List ℕ) (f : ℕ) → LeavesRefused s (fresh rules s f)
fresh_refused rules s f = fresh_comes (LeavesRefused s) rules s f (λ _ _ _. refl) (λ _ e. absurd (e refl))

pub fund_refused : (rules : Rules) (s out : List ℕ) (account amount : ℕ) → LeavesBoth s out (fund rules s out account amount)
fund_refused rules s out account amount = fund_comes (LeavesBoth s out) rules s out account amount (λ _ _ _. (refl, refl)) (λ _ e. absurd (e refl))

pub redeem_refused : (rules : Rules) (s m verdicts : List ℕ) → LeavesRefused s (redeem rules s m verdicts)
redeem_refused rules s m verdicts = redeem_comes (LeavesRefused s) rules s m verdicts (λ _ _ _. refl) (λ _ e. absurd (e refl))

-- a byte outside the pot stays where the pot is written
pot_leaves : (s : List ℕ) (amount i : ℕ) → (4 ≤ i → i < 12 → ⊥) → get_or (with_pot s amount) i 0 ≡ get_or s i 0
pot_leaves s amount i outside = get_or_put_out s 4 (bytes eight amount) i (λ p q. outside p (omega (arith, length_bytes eight amount)))

-- funding leaves the lengths, every byte of the state but index and pot, and every byte of the output from the seventeenth on
pub fund_length : (rules : Rules) (s out : List ℕ) (account amount : ℕ)
    → (length (fund rules s out account amount).state ≡ length s) × (length (fund rules s out account amount).out ≡ length out)
fund_length rules s out account amount =
    fund_comes (λ o. (length o.state ≡ length s) × (length o.out ≡ length out)) rules s out account amount (λ _ _. (refl, refl))
    (λ _. (length_put _ _ _ ∙ length_put _ _ _, length_put _ _ _))

pub fund_leaves : (rules : Rules) (s out : List ℕ) (account amount i : ℕ) → (2 ≤ i → i < 12 → ⊥) → get_or (fund rules s out account amount).state i 0 ≡ get_or s i 0
fund_leaves rules s out account amount i outside =
    let index = last_index s + 1 in
    fund_comes (λ o. get_or o.state i 0 ≡ get_or s i 0) rules s out account amount (λ _ _. refl)
    (λ _. pot_leaves (with_index s index) (pot s + amount) i (λ p q. outside (omega arith) q)
    ∙ get_or_put_out s 2 (bytes two index) i (λ p q. outside p (omega (arith, length_bytes two index))))

pub fund_leaves_output : (rules : Rules) (s out : List ℕ) (account amount i : ℕ) → 16 ≤ i → get_or (fund rules s out account amount).out i 0 ≡ get_or out i 0
fund_leaves_output rules s out account amount i h =
    let o = next_funding s account amount in
    fund_comes (λ x. get_or x.out i 0 ≡ get_or out i 0) rules s out account amount (λ _ _. refl)
    (λ _. get_or_put_out out 0 (funding_bytes o) i (λ p q. omega (arith, length_funding o)))

-- a redemption leaves the length, and every byte but the pot and the one with its log bit
pub redeem_length : (rules : Rules) (s m verdicts : List ℕ) → length (redeem rules s m verdicts).state ≡ length s
unfolding with_redeemed
redeem_length rules s m verdicts = redeem_comes (λ o. length o.state ≡ length s) rules s m verdicts (λ _ _. refl) (λ _. length_put _ _ _ ∙ length_put _ _ _)

pub redeem_leaves : (rules : Rules) (s m verdicts : List ℕ) (i : ℕ) → (4 ≤ i → i < 12 → ⊥)
    → (i ≡ place rules (payment (inside m)).sender.0 (payment (inside m)).sequence.0 → ⊥) → get_or (redeem rules s m verdicts).state i 0 ≡ get_or s i 0
redeem_leaves rules s m verdicts i outside apart =
    redeem_comes (λ o. get_or o.state i 0 ≡ get_or s i 0) rules s m verdicts (λ _ _. refl)
    (λ _. pot_leaves (with_redeemed rules s _ _) _ i outside ∙ redeemed_leaves rules s _ _ i apart)

-- every sequence of all 64 logs reads as before where the pot is written
pub pot_others : (rules : Rules) → Lays rules → (s : List ℕ) (amount account sequence : ℕ) → is_redeemed rules (with_pot s amount) account sequence ≡ is_redeemed rules s account sequence
pot_others rules l s amount account sequence = redeemed_behind rules s 4 (bytes eight amount) account sequence (omega (arith, length_bytes eight amount, l.room))

-- what was paid is in the log
pub redeem_logs : (rules : Rules) → Lays rules → (s m verdicts : List ℕ) → (redeem rules s m verdicts).answer.number ≡ 0
    → is_redeemed rules (redeem rules s m verdicts).state (payment (inside m)).sender.0 (payment (inside m)).sequence.0 ≡ true
redeem_logs rules l s m verdicts =
    let from = (payment (inside m)).sender.0 in
    let sequence = (payment (inside m)).sequence.0 in
    redeem_comes (λ o. o.answer.number ≡ 0 → is_redeemed rules o.state from sequence ≡ true) rules s m verdicts (λ n h e. absurd (omega arith))
    (λ v _. pot_others rules l (with_redeemed rules s from sequence) _ from sequence
    ∙ redeemed_set rules s from sequence (log_room rules s from sequence v.state v.range.sender v.range.sequence))

-- funding leaves every sequence of all 64 logs
pub fund_others : (rules : Rules) → Lays rules → (s out : List ℕ) (account amount : ℕ) (other sequence : ℕ)
    → is_redeemed rules (fund rules s out account amount).state other sequence ≡ is_redeemed rules s other sequence
fund_others rules l s out account amount other sequence =
    let index = last_index s + 1 in
    fund_comes (λ o. is_redeemed rules o.state other sequence ≡ is_redeemed rules s other sequence) rules s out account amount (λ _ _. refl)
    (λ _. pot_others rules l (with_index s index) (pot s + amount) other sequence
    ∙ redeemed_behind rules s 2 (bytes two index) other sequence (omega (arith, length_bytes two index, l.room)))

-- what is in the log is never paid again, whatever votes it comes with
pub redeemed_unpaid : (rules : Rules) (s m verdicts : List ℕ) → is_redeemed rules s (payment (inside m)).sender.0 (payment (inside m)).sequence.0 ≡ true
    → (redeem rules s m verdicts).answer.number ≡ 0 → ⊥
redeemed_unpaid rules s m verdicts e =
    redeem_comes (λ o. o.answer.number ≡ 0 → ⊥) rules s m verdicts (λ n h q. omega arith) (λ v _. false≢true (sym v.unredeemed ∙ e))

-- a good certificate to the ledger that is not in the log is paid whole, where the pot has the amount
pub redeem_pays : (rules : Rules) (s m verdicts : List ℕ) → is_state rules s ≡ true → (judged_by (rules.committee s) m verdicts).number ≡ 0
    → (let p = payment (inside m) in p.kind ≡ 1 → is_redeemed rules s p.sender.0 p.sequence.0 ≡ false → p.amount ≤ pot s
    → (redeem rules s m verdicts).answer ≡ paid p.recipient p.amount)
unfolding redeem pay
redeem_pays rules s m verdicts state judged kind unredeemed enough = simp (state, eq-eqb _ _ judged, eq-eqb _ _ kind, unredeemed, le-leb _ _ enough)

-- a fresh state is well formed, and every call keeps that
pub fresh_formed : (s : List ℕ) (f : ℕ) → (fresh base s f).answer.number ≡ 0 → is_state base (fresh base s f).state ≡ true
fresh_formed s f =
    fresh_comes (λ o. o.answer.number ≡ 0 → is_state base o.state ≡ true) base s f (λ n h e. absurd (omega arith)) (λ h _. fresh_state_lem f h)

pub fund_keeps : (rules : Rules) → Lays rules → (s out : List ℕ) (account amount : ℕ) → is_state rules s ≡ true → is_state rules (fund rules s out account amount).state ≡ true
fund_keeps rules l s out account amount h =
    fund_comes (λ o. is_state rules o.state ≡ true) rules s out account amount (λ _ _. h)
    (λ v. with_pot_keeps rules l _ _ v.pot_fits (with_index_keeps rules l s _ h))

pub redeem_keeps : (rules : Rules) → Lays rules → (s m verdicts : List ℕ) → is_state rules s ≡ true → is_state rules (redeem rules s m verdicts).state ≡ true
redeem_keeps rules l s m verdicts h =
    let left = pot s - (payment (inside m)).amount in
    let most : pot s ≤ 1_000_000_000_000_000 = leb-true _ _ (l.pot_most s (state_header rules s h)) in
    redeem_comes (λ o. is_state rules o.state ≡ true) rules s m verdicts (λ _ _. h)
    (λ _. with_pot_keeps rules l _ left (le-leb left 1_000_000_000_000_000 (omega arith)) (with_redeemed_keeps rules l s _ _ h))

-- the funding order that was written is read back as index, account and amount
pub fund_read_back : (rules : Rules) (s out : List ℕ) (account amount : ℕ) → (fund rules s out account amount).answer.number ≡ 0
    → read_funding (take 16 (fund rules s out account amount).out) ≡ gives ((last_index s + 1) ∷ account ∷ amount ∷ [])
fund_read_back rules s out account amount =
    let o = next_funding s account amount in
    let size : length (funding_bytes o) ≡ 16 = length_funding o in
    fund_comes (λ x. x.answer.number ≡ 0 → read_funding (take 16 x.out) ≡ gives (funding_values o)) rules s out account amount (λ n h e. absurd (omega arith))
    (λ v _. rw (rw size at (cut_put out 0 (funding_bytes o) (omega (arith, v.room)))) (funding_read_back o (next_in_range (last_index s) account amount v.index (le-leb _ _ v.account_most) v.amount_fits)))
