-- The laws of a machine's calls that rest on how a state is moved and limited, for any messages, verdicts and states. Assumes nothing.
use Rattle.std.specs.Prelude.{ℕ, ◌≤◌, ◌≡◌, refl, true, List}
use Rattle.std.proofs.Common.{◌∙◌, ap, arith, lit≤}
use Rattle.wire.specs.Messages.{payment, inside, funding}
use Rattle.states.specs.Headers.{with_index, last_index}
use Rattle.records.specs.declared.record.Record.{Record}
use Rattle.records.specs.Records.{paid}
use Rattle.records.specs.States.{Layout, Refusals, Rules, base, record_of, with_record}
use Rattle.records.specs.Calls.{order, certificate, funding_order, account}
use Rattle.invariants.specs.RecordLaws.{holding_formed, paid_formed, credited_formed, record_stays}
use Rattle.invariants.specs.Outcomes.{after_paid, after_debit, Settled, order_comes, certificate_comes, funding_comes}
use Rattle.invariants.specs.Meaning.{WellFormed, Lays, Limited, HasRoom, Reached}
use Rattle.invariants.specs.Keeping.{formed_of, with_record_keeps, with_index_keeps}
use Rattle.invariants.specs.Bounds.{changed_holding, changed_credited, follows_itself, follows_index, follows_record, follows_paid, raised, limited_room}
use Rattle.invariants.specs.Moving.{moved_record, moved_formed, moved_limited, tallied_moved, sending_moved}
use Rattle.invariants.specs.Layouts.{can_tally, further_not_16}
use Rattle.invariants.specs.Sixteen.{order_not_16, certificate_not_16, funding_not_16, account_not_16}
use Rattle.invariants.specs.Theorems.{base_lays, fresh_limited}
use Rattle.invariants.proofs.Bounds.{limited_still, limited_more}

-- a certificate and a funding order keep a state well formed
pub certificate_keeps : (rules : Rules) → Lays rules → (s m verdicts : List ℕ) → WellFormed rules s → WellFormed rules (certificate rules s m verdicts).state
certificate_keeps rules l s m verdicts w =
    let p = payment (inside m) in
    let from = record_of rules s p.sender.0 in
    let to = record_of rules s p.recipient in
    let payer : (t : List ℕ) → WellFormed rules t → Settled p from → (n : ℕ) → WellFormed rules (with_record rules t p.sender.0 (paid from n)) = λ t f v n.
    with_record_keeps rules l t p.sender.0 _ v.range.sender f
    (paid_formed p.sender.0 from n (formed_of rules s p.sender.0 w v.range.sender) (omega (arith, v.next, v.range.sequence))) in
    let debit : Settled p from → rules.may_tally s p.amount 0 ≡ true → WellFormed rules (after_debit rules s p) = λ v noted.
    payer _ (moved_formed rules s rules _ (tallied_moved rules l s p.amount 0 w.state noted) w) v p.amount in
    certificate_comes (λ o. WellFormed rules o.state) rules s (λ _. w) m verdicts (λ v _. payer s w v 0) (λ v _ _ noted. debit v noted) (λ v c.
    let h : p.recipient ≤ 63 = v.range.recipient c.kind in
    with_record_keeps rules l (after_paid rules s p p.amount) p.recipient _ h (payer s w v p.amount)
    (credited_formed p.recipient to p.amount (formed_of rules s p.recipient w h) c.room)) (λ v g.
    let f = debit v g.noted in
    moved_formed rules _ rules _ (sending_moved rules l s p _ g.place f.state) f)

pub funding_keeps : (rules : Rules) → Lays rules → (s m verdicts : List ℕ) → WellFormed rules s → WellFormed rules (funding_order rules s m verdicts).state
funding_keeps rules l s m verdicts w =
    let o = funding m in
    funding_comes (λ x. WellFormed rules x.state) rules s (λ _. w) m verdicts (λ _ _ _. with_index_keeps rules l s o.index.0 w) (λ v noted.
    let t = rules.tallied s 0 o.amount in
    let f = moved_formed rules s rules t (tallied_moved rules l s 0 o.amount w.state noted) w in
    with_record_keeps rules l (with_index t o.index.0) o.account.0 _ v.range.account (with_index_keeps rules l t o.index.0 f)
    (credited_formed o.account.0 _ o.amount (formed_of rules s o.account.0 w v.range.account) v.room))

-- every call keeps a state limited
pub order_limited : (rules : Rules) → Lays rules → (s m verdicts : List ℕ) → Limited rules s → Limited rules (order rules s m verdicts).state
order_limited rules l s m verdicts h =
    let a = (payment (inside m)).sender.0 in
    let r = record_of rules s a in
    order_comes (λ o. Limited rules o.state) rules s (λ _. h) m verdicts (λ v.
    limited_still rules 0 (last_index s) s _ h
    (follows_record rules l 0 (last_index s) s s a _ (follows_itself rules 0 s h.formed) v.range.sender
    (holding_formed a r (inside m) (formed_of rules s a h.formed v.range.sender) v.used v.formed refl v.next) (changed_holding 0 r (inside m)))
    h.index (omega arith))

pub certificate_limited : (rules : Rules) → Lays rules → (s m verdicts : List ℕ) → Limited rules s → Limited rules (certificate rules s m verdicts).state
certificate_limited rules l s m verdicts h =
    let p = payment (inside m) in
    let to = record_of rules s p.recipient in
    let debit : Settled p (record_of rules s p.sender.0) → rules.may_tally s p.amount 0 ≡ true → Limited rules (after_debit rules s p) = λ v noted.
    let t = rules.tallied s p.amount 0 in
    let moved = tallied_moved rules l s p.amount 0 h.formed.state noted in
    let limited = moved_limited rules s rules t moved h in
    let e = moved_record rules s rules t moved p.sender.0 v.range.sender in
    let w : Settled p (record_of rules t p.sender.0) = rw e v in
    let follows = follows_paid rules l t limited p w p.amount v.range.amount in
    rw e at (limited_more rules l t limited p w _ follows (raised rules l t limited p w p.amount)) in
    certificate_comes (λ o. Limited rules o.state) rules s (λ _. h) m verdicts
    (λ v _. limited_more rules l s h p v _ (follows_paid rules l s h p v 0 (lit≤ tt)) (raised rules l s h p v 0))
    (λ v _ _ noted. debit v noted)
    (λ v c. let k : p.recipient ≤ 63 = v.range.recipient c.kind in
    let f = credited_formed p.recipient to p.amount (formed_of rules s p.recipient h.formed k) c.room in
    let follows = follows_paid rules l s h p v p.amount v.range.amount in
    let stays = record_stays rules _ p.recipient p.sender.0 _ (omega (arith, f.size)) c.other in
    limited_more rules l s h p v _
    (follows_record rules l 1 (last_index s) s _ p.recipient _ follows k f (changed_credited to p.amount v.range.amount))
    (ap (λ (r : Record). r.next.0) stays ∙ raised rules l s h p v p.amount))
    (λ v g. let f = debit v g.noted in moved_limited rules _ rules _ (sending_moved rules l s p _ g.place f.formed.state) f)

pub funding_limited : (rules : Rules) → Lays rules → (s m verdicts : List ℕ) → Limited rules s → Limited rules (funding_order rules s m verdicts).state
funding_limited rules l s m verdicts h =
    let o = funding m in
    let a = o.account.0 in
    let i = o.index.0 in
    let r = record_of rules s a in
    funding_comes (λ x. Limited rules x.state) rules s (λ _. h) m verdicts
    (λ _ range index. limited_still rules 0 i s _ h (follows_index rules l 0 s i h.formed range.index) range.index (omega arith)) (λ v noted.
    let t = rules.tallied s 0 o.amount in
    let moved = tallied_moved rules l s 0 o.amount h.formed.state noted in
    let limited = moved_limited rules s rules t moved h in
    let e = moved_record rules s rules t moved a v.range.account in
    let f = credited_formed a r o.amount (formed_of rules s a h.formed v.range.account) v.room in
    limited_still rules 1 i t _ limited
    (follows_record rules l 1 i t (with_index t i) a _ (follows_index rules l 1 t i limited.formed v.range.index) v.range.account f
    (rw e (changed_credited r o.amount v.range.amount)))
    v.range.index (omega (arith, v.index, moved.index)))

-- every state that a machine comes to is limited
pub reached_limited : (s : List ℕ) → Reached s → Limited base s
reached_limited s (Reached.start t f own e) = fresh_limited t f own e
reached_limited s (Reached.ordered {s = t} r m verdicts) = order_limited base base_lays t m verdicts (reached_limited t r)
reached_limited s (Reached.certified {s = t} r m verdicts) = certificate_limited base base_lays t m verdicts (reached_limited t r)
reached_limited s (Reached.funded {s = t} r m verdicts) = funding_limited base base_lays t m verdicts (reached_limited t r)

-- so there is room in it, and 16 is never answered
pub reached_room : (s : List ℕ) → Reached s → HasRoom base s
reached_room s r = limited_room base s (reached_limited s r) (can_tally Layout.plain Refusals.none s)

pub order_never_16 : (s m verdicts : List ℕ) → Reached s → (order base s m verdicts).answer.number ≡ 16 → ⊥
order_never_16 s m verdicts r = order_not_16 base s m verdicts (reached_room s r).formed (further_not_16 Layout.plain Refusals.none)

pub certificate_never_16 : (s m verdicts : List ℕ) → Reached s → (certificate base s m verdicts).answer.number ≡ 16 → ⊥
certificate_never_16 s m verdicts r = certificate_not_16 base s m verdicts (reached_room s r)

pub funding_never_16 : (s m verdicts : List ℕ) → Reached s → (funding_order base s m verdicts).answer.number ≡ 16 → ⊥
funding_never_16 s m verdicts r = funding_not_16 base s m verdicts (reached_room s r)

pub account_never_16 : (s : List ℕ) (a : ℕ) → Reached s → (account base s a).answer.number ≡ 16 → ⊥
account_never_16 s a r = account_not_16 base s a (reached_room s r).formed
