-- What a call on a machine can come to: the bytes as they were, or new ones, with what the tests on the way said. Assumes nothing.
use Rattle.std.specs.Prelude.{ℕ, zero, suc, ◌+◌, ◌*◌, ◌≤◌, ◌<◌, ◌≡◌, refl, Bool, false, ◌||◌, ◌&&◌, not, cond, List, length, leb, ltb, eqb}
use Rattle.std.proofs.Common.{sym, ◌∙◌, arith, lit<}
use Rattle.std.proofs.Math.Bool.{true}
use Rattle.std.proofs.lemmas.Bool.{false≢true}
use Rattle.std.proofs.Math.Dec.{eqb-suc-zero}
use borrow.Author.Tests.{leb-true, ltb-true, ltb-false, eqb-true, eqb-false, eq-eqb, not-true, not-false}
use Rattle.octets.specs.Octets.{same}
use Rattle.wire.specs.Numbers.{is_faults, is_machine}
use Rattle.octets.specs.Tests.{need}
use Rattle.wire.specs.Fields.{laid}
use Rattle.wire.specs.Messages.{body_fields, order_fields, certificate_fields, funding_fields, payment, inside, is_payment, funding, is_funding}
use Rattle.wire.specs.Votes.{Committee, votes, signers_in, known, rising, good}
use Rattle.wire.specs.Refusals.{Said, refuses}
use Rattle.wire.specs.Readers.{is_body, read_payment, read_order_payment, read_funding, judged_by}
use Rattle.wire.specs.declared.kinds.Payment.{Payment}
use Rattle.wire.specs.declared.kinds.Funding.{Funding}
use Rattle.octets.proofs.TestLaws.{both}
use Rattle.roundtrip.specs.Answers.{through, said}
use Rattle.roundtrip.specs.VoteLaws.{length_signers}
use Rattle.wire.proofs.Ranges.{PaymentRange, payment_range, FundingRange, funding_range}
use Rattle.states.specs.Headers.{last_index, with_index}
use Rattle.states.specs.Outcomes.{Outcome, outcome, refused, done}
use Rattle.records.specs.declared.record.Record.{Record}
use Rattle.records.specs.Balances.{nought, highest}
use Rattle.records.specs.Records.{holding, paid, credited}
use Rattle.records.specs.States.{Rules, state_length, is_state, record_of, is_formed, pending_of, with_record, fresh_state}
use Rattle.records.specs.Answers.{vote_new, vote_repeated, confirmed_with, already_with}
use Rattle.records.specs.Calls.{fresh, order, vote, vote_on, to_itself, debited, pay, has_place, settle_on, settle, is_paper, certificate, credit_on, credit, funding_order}

-- what is read without a refusal holds a body
pub order_body : (m : List ℕ) → said (read_order_payment m) ≡ 0 → is_body (inside m) ≡ true
unfolding read_payment
order_body m e =
    let a = through said (laid m order_fields) (refuses 1) _ (lit< tt) e in
    let b = through said (laid (inside m) body_fields) (refuses 1) _ (lit< tt) a.1 in
    let c = through said (is_payment (payment (inside m))) (refuses 2) _ (lit< tt) b.1 in
    rw (b.0, c.0)

-- what the judge of a certificate found
pub record Judged (c : Committee) (m verdicts : List ℕ) : Type 0 where
  pub laid_down : laid m certificate_fields ≡ true
  pub body : is_body (inside m) ≡ true
  pub count : length verdicts ≡ length (signers_in m)
  pub members : known c.last (signers_in m) ≡ true
  pub in_order : rising (signers_in m) ≡ true
  pub verdicts_good : good verdicts ≡ true
  pub enough : c.quorum (signers_in m) ≡ true

pub judged : (c : Committee) (m verdicts : List ℕ) → said (judged_by c m verdicts) ≡ 0 → Judged c m verdicts
unfolding judged_by
judged c m verdicts e =
    let a = through said (laid m certificate_fields) (refuses 1) _ (lit< tt) e in
    let b = through said (laid (inside m) body_fields) (refuses 1) _ (lit< tt) a.1 in
    let d = through said (is_payment (payment (inside m))) (refuses 2) _ (lit< tt) b.1 in
    let g = through said (eqb (length verdicts) (votes m)) (refuses 3) _ (lit< tt) d.1 in
    let k = through said (known c.last (signers_in m)) (refuses 5) _ (lit< tt) g.1 in
    let r = through said (rising (signers_in m)) (refuses 6) _ (lit< tt) k.1 in
    let v = through said (good verdicts) (refuses 4) _ (lit< tt) r.1 in
    let q = through said (c.quorum (signers_in m)) (refuses 7) _ (lit< tt) v.1 in
    record {
      laid_down = a.0;
      body = rw (b.0, d.0);
      count = eqb-true _ _ g.0 ∙ sym (length_signers m _ 68 (votes m));
      members = k.0;
      in_order = r.0;
      verdicts_good = v.0;
      enough = q.0;
    }

pub certificate_body : (c : Committee) (m verdicts : List ℕ) → said (judged_by c m verdicts) ≡ 0 → is_body (inside m) ≡ true
certificate_body c m verdicts e = (judged c m verdicts e).body

pub funding_order_lem : (m : List ℕ) → said (read_funding m) ≡ 0 → (laid m funding_fields ≡ true) × (is_funding (funding m) ≡ true)
unfolding read_funding
funding_order_lem m e =
    let a = through said (laid m funding_fields) (refuses 1) _ (lit< tt) e in
    (a.0, (through said (is_funding (funding m)) (refuses 2) _ (lit< tt) a.1).0)

-- the values in a body are in range
pub body_range : (body : List ℕ) → is_body body ≡ true → PaymentRange (payment body)
body_range body h = payment_range (payment body) (both (laid body body_fields) (is_payment (payment body)) h).1

-- the bytes after a new vote, after a payment that takes n off the sender and no more, after one whose amount leaves the balances kept here, where its
-- credit was sent too, after one to another account, and after a funding order
abbrev pub after_vote : Rules → List ℕ → List ℕ → List ℕ
after_vote rules s body = let account = (payment body).sender.0 in with_record rules s account (holding (record_of rules s account) body)

abbrev pub after_paid : Rules → List ℕ → Payment → ℕ → List ℕ
after_paid rules s p n = let account = p.sender.0 in with_record rules s account (paid (record_of rules s account) n)

abbrev pub after_debit : Rules → List ℕ → Payment → List ℕ
after_debit rules s p = debited rules s p (record_of rules s p.sender.0)

abbrev pub after_sending : Rules → List ℕ → Payment → List ℕ
after_sending rules s p = rules.sent (after_debit rules s p) p.recipient p.amount

abbrev pub after_transfer : Rules → List ℕ → Payment → List ℕ
after_transfer rules s p =
    let account = p.recipient in
    with_record rules (after_paid rules s p p.amount) account (credited (record_of rules s account) p.amount)

abbrev pub after_funding : Rules → List ℕ → Funding → List ℕ
after_funding rules s o =
    let account = o.account.0 in
    with_record rules (with_index (rules.tallied s 0 o.amount) o.index.0) account (credited (record_of rules s account) o.amount)

-- a new vote: its body, and the sender's record
pub record Voted (body : List ℕ) (r : Record) : Type 0 where
  pub formed : is_body body ≡ true
  pub range : PaymentRange (payment body)
  pub used : r.used ≡ true
  pub waiting : r.waiting ≡ 0
  pub next : (payment body).sequence.0 ≡ r.next.0
  pub covered : nought + (payment body).amount ≤ r.balance

-- a vote repeated: its body is the pending one
pub record Repeated (rules : Rules) (s body : List ℕ) : Type 0 where
  pub range : PaymentRange (payment body)
  pub waiting : 0 < (record_of rules s (payment body).sender.0).waiting
  pub pending : same (pending_of rules s (payment body).sender.0) body ≡ true

-- a certificate of the next sequence: its payment, and the sender's record
pub record Settled (p : Payment) (r : Record) : Type 0 where
  pub range : PaymentRange p
  pub next : p.sequence.0 ≡ r.next.0

-- one to another account kept here: the sender's record, and the recipient's
pub record Transferred (p : Payment) (from to : Record) : Type 0 where
  pub kind : p.kind ≡ 0
  pub other : p.recipient ≡ p.sender.0 → ⊥
  pub enough : p.amount ≤ from.balance
  pub room : to.balance + p.amount ≤ highest

-- one to an account that is not kept here: the sender's record
pub record Sent (rules : Rules) (s : List ℕ) (p : Payment) (from : Record) : Type 0 where
  pub kind : p.kind ≡ 0
  pub away : rules.keeps p.recipient ≡ false
  pub place : rules.may_send s ≡ true
  pub enough : p.amount ≤ from.balance
  pub noted : rules.may_tally s p.amount 0 ≡ true

-- a message laid out as a funding order, with a single good verdict
pub record Presented (m verdicts : List ℕ) : Type 0 where
  pub laid_down : laid m funding_fields ≡ true
  pub single : length verdicts ≡ 1
  pub verdict_good : good verdicts ≡ true

-- a funding order of the next index: the last one, and the account's record
pub record Funded (last : ℕ) (o : Funding) (r : Record) : Type 0 where
  pub range : FundingRange o
  pub index : o.index.0 ≡ last + 1
  pub room : r.balance + o.amount ≤ highest

-- a payment to an account that is not the sender
not_itself : (p : Payment) → to_itself p ≡ false → p.kind ≡ 0 → p.recipient ≡ p.sender.0 → ⊥
not_itself p e k r = false≢true (sym e ∙ rw (eq-eqb _ _ k, eq-eqb _ _ r))

-- a certificate that is judged good meets none of 1, 2 and 3, so that its sender is kept here where it is not 22
pub judged_paper : (c : Committee) (m verdicts : List ℕ) → said (judged_by c m verdicts) ≡ 0 → is_paper m verdicts ≡ true
unfolding judged_by is_paper
judged_paper c m verdicts e =
    let a = through said (laid m certificate_fields) (refuses 1) _ (lit< tt) e in
    let b = through said (laid (inside m) body_fields) (refuses 1) _ (lit< tt) a.1 in
    let d = through said (is_payment (payment (inside m))) (refuses 2) _ (lit< tt) b.1 in
    let g = through said (eqb (length verdicts) (votes m)) (refuses 3) _ (lit< tt) d.1 in
    rw (a.0, b.0, d.0, g.0)

pub kept_here : (t u : Bool) → u ≡ true → (not t && u) ≡ false → t ≡ true
kept_here true u p e = refl
kept_here false u p e = sym e ∙ p

-- both ways of a test, and the one way of a test that holds
module _ {A : Type 0} (P : A → Type 0) where
  pub need_case : (t : Bool) (failed rest : A) → P failed → (t ≡ true → P rest) → P (need t failed rest)
  need_case true failed rest f r = r refl
  need_case false failed rest f r = f

  pub need_holds : (t : Bool) (failed rest : A) → t ≡ true → P rest → P (need t failed rest)
  need_holds true failed rest e h = h
  need_holds false failed rest e h = absurd (false≢true e)

  pub cond_case : (t : Bool) (a b : A) → (t ≡ true → P a) → (t ≡ false → P b) → P (cond t a b)
  cond_case true a b f g = f refl
  cond_case false a b f g = g refl

-- what holds of the refusals and of a fresh state holds of what making one comes to
pub fresh_comes : (P : Outcome → Type 0) (rules : Rules) (s : List ℕ) (f own : ℕ) → ((n : ℕ) → 0 < n → P (refused n s))
    → (f ≤ 5 → own ≤ 3 * f → P (outcome done (fresh_state rules f own))) → P (fresh rules s f own)
unfolding fresh
fresh_comes P rules s f own refusal made =
    need_case P (eqb (length s) (state_length rules)) _ _ (refusal 16 (lit< tt)) (λ _.
    need_case P (is_machine f own) _ _ (refusal 2 (lit< tt)) (λ a.
    let t = both (is_faults f) (leb own (3 * f)) a in
    made (leb-true _ _ t.0) (leb-true _ _ t.1)))

-- no refusal that is passed on has the number 0
pub passed : (P : Outcome → Type 0) (s : List ℕ) (n : ℕ) (rest : Outcome) → ((n : ℕ) → 0 < n → P (refused n s)) → (n ≡ 0 → P rest)
    → P (need (eqb n 0) (refused n s) rest)
passed P s zero rest refusal given = given refl
passed P s (suc n) rest refusal given = rw (eqb-suc-zero n) (refusal (suc n) (omega arith))

-- what holds of every refusal, and of each answer, holds of what a call comes to
module _ (P : Outcome → Type 0) (rules : Rules) (s : List ℕ) (refusal : (n : ℕ) → 0 < n → P (refused n s)) where
  test : (t : Bool) (n : ℕ) (rest : Outcome) → 0 < n → (t ≡ true → P rest) → P (need t (refused n s) rest)
  test t n rest h = need_case P t (refused n s) rest (refusal n h)

  pub order_cases : (m verdicts : List ℕ)
      → (let a = (payment (inside m)).sender.0 in
      (rules.keeps a ≡ true → Repeated rules s (inside m) → P (outcome vote_repeated s))
      → (rules.keeps a ≡ true → Voted (inside m) (record_of rules s a) → P (outcome vote_new (after_vote rules s (inside m))))
      → P (order rules s m verdicts))
  unfolding order vote vote_on
  order_cases m verdicts again new =
      let body = inside m in
      let p = payment body in
      let r = record_of rules s p.sender.0 in
      test (is_state rules s) 16 _ (lit< tt) (λ _.
      passed P s (read_order_payment m).number _ refusal (λ read.
      let b = order_body m read in
      let range = body_range body b in
      test (eqb (length verdicts) 1) 3 _ (lit< tt) (λ _.
      test (rules.keeps p.sender.0) 22 _ (lit< tt) (λ kept.
      test (good verdicts) 4 _ (lit< tt) (λ _.
      test (is_formed rules s p.sender.0) 16 _ (lit< tt) (λ _.
      test r.used 8 _ (lit< tt) (λ used.
      cond_case P (ltb 0 r.waiting) _ _ (λ some. test (same (pending_of rules s p.sender.0) body) 9 _ (lit< tt) (λ pending.
      again kept (record { range = range; waiting = ltb-true _ _ some; pending = pending }))) (λ none.
      passed P s (rules.further body) _ refusal (λ _.
      test (eqb p.sequence.0 r.next.0) 10 _ (lit< tt) (λ next.
      test (leb (nought + p.amount) r.balance) 11 _ (lit< tt) (λ covered.
      let w : r.waiting ≤ 0 = ltb-false 0 r.waiting none in
      new kept (record { formed = b; range = range; used = used; waiting = omega arith; next = eqb-true _ _ next; covered = leb-true _ _ covered }))))))))))))

  pub certificate_cases : (m verdicts : List ℕ)
      → (let p = payment (inside m) in let from = record_of rules s p.sender.0 in
      let judged = (judged_by (rules.committee s) m verdicts).number ≡ 0 in let kept = rules.keeps p.sender.0 ≡ true in
      let confirms : List ℕ → Outcome = outcome (confirmed_with (rules.counted s (signers_in m))) in
      P (outcome (already_with (rules.counted s (signers_in m))) s)
      → (judged → kept → Settled p from → to_itself p ≡ true → P (confirms (after_paid rules s p 0)))
      → (judged → kept → Settled p from → p.kind ≡ 1 → p.amount ≤ from.balance → rules.may_tally s p.amount 0 ≡ true
      → P (confirms (after_debit rules s p)))
      → (judged → kept → Settled p from → rules.keeps p.recipient ≡ true → Transferred p from (record_of rules s p.recipient)
      → P (confirms (after_transfer rules s p)))
      → (judged → kept → Settled p from → Sent rules s p from → P (confirms (after_sending rules s p)))
      → P (certificate rules s m verdicts))
  unfolding certificate settle settle_on pay
  certificate_cases m verdicts before itself ledger transfer sent =
      let p = payment (inside m) in
      let from = record_of rules s p.sender.0 in
      let to = record_of rules s p.recipient in
      test (is_state rules s) 16 _ (lit< tt) (λ _.
      cond_case P (not (rules.keeps p.sender.0) && is_paper m verdicts) _ _ (λ _. refusal 22 (lit< tt)) (λ here.
      passed P s (judged_by (rules.committee s) m verdicts).number _ refusal (λ judged.
      test (is_formed rules s p.sender.0) 16 _ (lit< tt) (λ _.
      test (not (rules.keeps p.recipient) || (eqb p.kind 1 || is_formed rules s p.recipient)) 16 _ (lit< tt) (λ _.
      cond_case P (ltb p.sequence.0 from.next.0) _ _ (λ _. before) (λ _.
      test (eqb p.sequence.0 from.next.0) 10 _ (lit< tt) (λ next.
      test (has_place rules s p) 23 _ (lit< tt) (λ place.
      let range = body_range (inside m) (certificate_body (rules.committee s) m verdicts judged) in
      let kept = kept_here (rules.keeps p.sender.0) (is_paper m verdicts) (judged_paper (rules.committee s) m verdicts judged) here in
      let settled : Settled p from = record { range = range; next = eqb-true _ _ next } in
      cond_case P (to_itself p) _ _ (λ same. itself judged kept settled same) (λ other.
      test (leb p.amount from.balance) 16 _ (lit< tt) (λ enough.
      cond_case P (eqb p.kind 1) _ _ (λ kind. test (rules.may_tally s p.amount 0) 16 _ (lit< tt) (λ noted.
      ledger judged kept settled (eqb-true _ _ kind) (leb-true _ _ enough) noted)) (λ account.
      let not-ledger = eqb-false p.kind 1 account in
      let kind : p.kind ≡ 0 = omega (arith, range.kind) in
      cond_case P (not (rules.keeps p.recipient)) _ _ (λ elsewhere. test (rules.may_tally s p.amount 0) 16 _ (lit< tt) (λ noted.
      let away = not-true (rules.keeps p.recipient) elsewhere in
      let may : rules.may_send s ≡ true = rw (away, account) at place in
      sent judged kept settled (record { kind = kind; away = away; place = may; enough = leb-true _ _ enough; noted = noted }))) (λ near.
      test (leb (to.balance + p.amount) highest) 16 _ (lit< tt) (λ room.
      transfer judged kept settled (not-false (rules.keeps p.recipient) near)
      (record { kind = kind; other = not_itself p other kind; enough = leb-true _ _ enough; room = leb-true _ _ room }))))))))))))))

  pub funding_cases : (m verdicts : List ℕ)
      → (let o = funding m in let r = record_of rules s o.account.0 in
      (Presented m verdicts → rules.keeps o.account.0 ≡ false → FundingRange o → o.index.0 ≡ last_index s + 1
      → P (outcome done (with_index s o.index.0)))
      → (Presented m verdicts → rules.keeps o.account.0 ≡ true → Funded (last_index s) o r → rules.may_tally s 0 o.amount ≡ true
      → P (outcome done (after_funding rules s o)))
      → P (funding_order rules s m verdicts))
  unfolding funding_order credit credit_on
  funding_cases m verdicts elsewhere funded =
      let o = funding m in
      let r = record_of rules s o.account.0 in
      test (is_state rules s) 16 _ (lit< tt) (λ _.
      passed P s (read_funding m).number _ refusal (λ read.
      test (eqb (length verdicts) 1) 3 _ (lit< tt) (λ one.
      test (good verdicts) 4 _ (lit< tt) (λ verdict.
      test (not (rules.keeps o.account.0) || is_formed rules s o.account.0) 16 _ (lit< tt) (λ _.
      test (eqb o.index.0 (last_index s + 1)) 12 _ (lit< tt) (λ index.
      let f = funding_order_lem m read in
      let was : Presented m verdicts = record { laid_down = f.0; single = eqb-true _ _ one; verdict_good = verdict } in
      let range = funding_range o f.1 in
      cond_case P (not (rules.keeps o.account.0)) _ _ (λ away. elsewhere was (not-true _ away) range (eqb-true _ _ index)) (λ near.
      test (leb (r.balance + o.amount) highest) 16 _ (lit< tt) (λ room.
      test (rules.may_tally s 0 o.amount) 16 _ (lit< tt) (λ noted.
      funded was (not-false _ near) (record { range = range; index = eqb-true _ _ index; room = leb-true _ _ room }) noted)))))))))

-- and so does what holds of every answer that leaves the bytes, and of those that change them
module _ (P : Outcome → Type 0) (rules : Rules) (s : List ℕ) (left : (answer : Said) → P (outcome answer s)) where
  pub order_comes : (m verdicts : List ℕ)
      → (Voted (inside m) (record_of rules s (payment (inside m)).sender.0) → P (outcome vote_new (after_vote rules s (inside m))))
      → P (order rules s m verdicts)
  order_comes m verdicts new = order_cases P rules s (λ n _. left (refuses n)) m verdicts (λ _ _. left vote_repeated) (λ _. new)

  pub certificate_comes : (m verdicts : List ℕ)
      → (let p = payment (inside m) in let from = record_of rules s p.sender.0 in
      let confirms : List ℕ → Outcome = outcome (confirmed_with (rules.counted s (signers_in m))) in
      (Settled p from → to_itself p ≡ true → P (confirms (after_paid rules s p 0)))
      → (Settled p from → p.kind ≡ 1 → p.amount ≤ from.balance → rules.may_tally s p.amount 0 ≡ true → P (confirms (after_debit rules s p)))
      → (Settled p from → Transferred p from (record_of rules s p.recipient) → P (confirms (after_transfer rules s p)))
      → (Settled p from → Sent rules s p from → P (confirms (after_sending rules s p)))
      → P (certificate rules s m verdicts))
  certificate_comes m verdicts itself ledger transfer sent =
      certificate_cases P rules s (λ n _. left (refuses n)) m verdicts (left (already_with (rules.counted s (signers_in m))))
      (λ _ _. itself) (λ _ _. ledger) (λ _ _ v _. transfer v) (λ _ _. sent)

  pub funding_comes : (m verdicts : List ℕ)
      → (let o = funding m in
      (rules.keeps o.account.0 ≡ false → FundingRange o → o.index.0 ≡ last_index s + 1 → P (outcome done (with_index s o.index.0)))
      → (Funded (last_index s) o (record_of rules s o.account.0) → rules.may_tally s 0 o.amount ≡ true → P (outcome done (after_funding rules s o)))
      → P (funding_order rules s m verdicts))
  funding_comes m verdicts elsewhere funded = funding_cases P rules s (λ n _. left (refuses n)) m verdicts (λ _. elsewhere) (λ _ _. funded)
