-- The numbers tell the answers apart: two answers that a call can give are equal if they cross the interface as the same number, or as the same number and
-- array. Assumes nothing.
use Rattle.std.specs.Prelude.{ℕ, zero, suc, ◌+◌, ◌*◌, ◌/◌, ◌%◌, ◌^◌, ◌<◌, ◌≤◌, ◌≡◌, refl, Bool, true, false, ◌&&◌, ◌||◌, List, [], ◌∷◌, length, leb, ltb, eqb, ℤ, pos}
use Rattle.std.proofs.Common.{sym, ap, ◌∙◌, arith, mul_comm, length-append, lit<, leb-true, ltb-true, eqb-true, ne_eqb}
use Rattle.std.proofs.lemmas.Bool.{false≢true}
use Rattle.std.proofs.Math.Arith.{digits_div, digits_mod}
use Rattle.std.proofs.Math.Dec.{eqb-suc-zero}
use Rattle.octets.specs.Octets.{two, number, same}
use Rattle.octets.proofs.Laws.{put_all}
use Rattle.wire.specs.Numbers.{is_faults, is_machine, is_account, is_amount, is_sequence, is_note}
use Rattle.octets.specs.Tests.{need}
use Rattle.wire.specs.Fields.{size, laid}
use Rattle.wire.specs.Messages.{body_fields, order_fields, certificate_fields, payment, is_payment, inside, body_bytes, order_bytes, funding, is_funding, funding_bytes, funding_fields}
use Rattle.wire.specs.Votes.{votes, signers_in, signers_of, known, rising, good, certificate_bytes}
use Rattle.wire.specs.Refusals.{Said, gives, refuses}
use Rattle.wire.specs.Readers.{judged as judge}
use Rattle.wire.specs.Readers.{read_order_payment, read_funding, judged_by, is_body, is_order, covered_at, read_payment, read_body, read_order, read_certificate_of, read_certificate}
use Rattle.wire.specs.Writers.{Written, writes, write_body, write_order, write_funding, write_voted_of, write_certificate}
use Rattle.wire.specs.declared.answers.Stretch.{Stretch}
use Rattle.wire.specs.declared.kinds.Payment.{Payment}
use Rattle.wire.specs.declared.kinds.Funding.{Funding}
use Rattle.octets.proofs.TestLaws.{both}
use Rattle.wire.proofs.Laid.{order_laid, certificate_laid}
use Rattle.writing.proofs.Written.{length_body, length_order, length_funding, payment_fits}
use Rattle.states.specs.Headers.{last_index}
use Rattle.states.specs.Outcomes.{Outcome, refused}
use Rattle.records.specs.Answers.{AccountShown, unshown}
use Rattle.records.specs.Balances.{nought, highest}
use Rattle.records.specs.States as machine
use Rattle.records.specs.Calls as machines
use Rattle.machine.proofs.Standing.{place_of, length_of, standing_fits}
use Rattle.ledger.specs.Answers.{FundOutcome}
use Rattle.ledger.specs.States as ledger
use Rattle.ledger.specs.Calls as ledgers
use Rattle.roundtrip.specs.VoteLaws.{length_signers}
use Rattle.roundtrip.specs.Certificate.{certifies_size}
use Rattle.invariants.specs.Outcomes.{judged, need_case, cond_case}
use Rattle.invariants.specs.Bounds as bounds
use Rattle.desk.specs.Layout.{Fit, beside, packed, no_bits, order_bits, certificate_bits, fund_bits, redeem_bits, log_bits, written_bits, stretch_bits, stretch_said, Left, left, AccountLeft, showing, noted, reading}

-- what a call can answer: values that fill their bits, or a refusal that has room in the lowest byte
pub data Says (widths : List ℕ) (said : Said) : Type 0 where
  answer : said.number ≡ 0 → length said.values ≡ length widths → Fit widths said.values → Says widths said
  refusal : 0 < said.number → said.number < 256 → said.values ≡ [] → Says widths said

-- no value asks for no room
none_fit : (widths : List ℕ) → Fit widths []
none_fit [] = tt
none_fit (w ∷ ws) = tt

pub says_fit : {widths : List ℕ} {said : Said} → Says widths said → Fit widths said.values
says_fit (answer n l f) = f
says_fit {widths} (refusal p q e) = rw e (none_fit widths)

-- a number's lowest digit and what stands above it are told by the number
digits_apart : (b v u q r : ℕ) → v < b → u < b → v + b * q ≡ u + b * r → (v ≡ u) × (q ≡ r)
digits_apart b v u q r h k e =
    let d : q * b + v ≡ r * b + u = omega (arith, mul_comm b q, mul_comm b r) in (
      sym (digits_mod q h) ∙ ap (λ (n : ℕ). n % b) d ∙ digits_mod r k,
      sym (digits_div q h) ∙ ap (λ (n : ℕ). n / b) d ∙ digits_div r k,
    )

-- values that fill the same bits are told by the number that they make
beside_apart : (ws vs us : List ℕ) → length vs ≡ length ws → length us ≡ length ws → Fit ws vs → Fit ws us → beside ws vs ≡ beside ws us → vs ≡ us
beside_apart [] [] [] l m f g e = refl
beside_apart [] [] (u ∷ us) l m f g e = absurd (omega arith)
beside_apart [] (v ∷ vs) us l m f g e = absurd (omega arith)
beside_apart (w ∷ ws) [] us l m f g e = absurd (omega arith)
beside_apart (w ∷ ws) (v ∷ vs) [] l m f g e = absurd (omega arith)
beside_apart (w ∷ ws) (v ∷ vs) (u ∷ us) l m f g e =
    let d = digits_apart (2 ^ w) v u (beside ws vs) (beside ws us) f.0 g.0 e in
    let rest = beside_apart ws vs us (omega arith) (omega arith) f.1 g.1 d.1 in
    λ i. d.0 i ∷ rest i

beside_none : (widths : List ℕ) → beside widths [] ≡ 0
beside_none [] = refl
beside_none (w ∷ ws) = refl

-- Two answers of a call are equal if their numbers are
pub apart : (widths : List ℕ) (a b : Said) → Says widths a → Says widths b → packed widths a ≡ packed widths b → a ≡ b
apart widths a b (answer n l f) (answer m k g) e =
    let vs = beside_apart widths a.values b.values l k f g (omega arith) in
    λ i. record { number = (n ∙ sym m) i; values = vs i }
apart widths a b (answer n l f) (refusal p q z) e = absurd (let o = ap (beside widths) z ∙ beside_none widths in omega arith)
apart widths a b (refusal p q z) (answer n l f) e = absurd (let o = ap (beside widths) z ∙ beside_none widths in omega arith)
apart widths a b (refusal p q z) (refusal r t y) e =
    let o = ap (beside widths) z ∙ beside_none widths in
    let u = ap (beside widths) y ∙ beside_none widths in
    let n : a.number ≡ b.number = omega arith in
    λ i. record { number = n i; values = (z ∙ sym y) i }

-- a refusal by its number
byte : {widths : List ℕ} (n : ℕ) → (ltb 0 n && ltb n 256) ≡ true → Says widths (refuses n)
byte n h = let t = both (ltb 0 n) (ltb n 256) h in refusal (ltb-true _ _ t.0) (ltb-true _ _ t.1) refl

-- a reader's refusal is passed on
onward : (widths s : List ℕ) (n : ℕ) (rest : Outcome) → n ≤ 15 → (n ≡ 0 → Says widths rest.answer) → Says widths (need (eqb n 0) (refused n s) rest).answer
onward widths s zero rest h given = given refl
onward widths s (suc n) rest h given = rw (eqb-suc-zero n) (refusal (omega arith) (omega arith) refl)

-- What a call on a state tells. Its cascade is walked here again, since the eliminators of `invariants` do not say how large the number of a refusal is
abbrev Tells : List ℕ → Outcome → Type 0
Tells widths o = Says widths o.answer

pub machine_fresh_says : (s : List ℕ) (f own : ℕ) → Says no_bits (machines.fresh machine.base s f own).answer
unfolding machines.fresh
machine_fresh_says s f own =
    need_case (Tells no_bits) (eqb (length s) (machine.state_length machine.base)) _ _ (byte 16 refl) (λ _.
    need_case (Tells no_bits) (is_machine f own) _ _ (byte 2 refl) (λ _. answer refl refl tt))

pub order_says : (s m verdicts : List ℕ) → Says order_bits (machines.order machine.base s m verdicts).answer
unfolding machines.order machines.vote machines.vote_on
order_says s m verdicts =
    let test = need_case (Tells order_bits) in
    let p = payment (inside m) in
    let r = machine.record_of machine.base s p.sender.0 in
    test (machine.is_state machine.base s) _ _ (byte 16 refl) (λ _.
    onward order_bits s (read_order_payment m).number _ (bounds.order_read m) (λ _.
    test (eqb (length verdicts) 1) _ _ (byte 3 refl) (λ _.
    test (good verdicts) _ _ (byte 4 refl) (λ _.
    test (machine.is_formed machine.base s p.sender.0) _ _ (byte 16 refl) (λ _.
    test r.used _ _ (byte 8 refl) (λ _.
    cond_case (Tells order_bits) (ltb 0 r.waiting) _ _ (λ _.
    test (same (machine.pending_of machine.base s p.sender.0) (inside m)) _ _ (byte 9 refl) (λ _. answer refl refl (lit< tt, tt))) (λ _.
    test (eqb p.sequence.0 r.next.0) _ _ (byte 10 refl) (λ _.
    test (leb (nought + p.amount) r.balance) _ _ (byte 11 refl) (λ _. answer refl refl (lit< tt, tt))))))))))

-- a certificate has room for 16 votes
few_votes : (m : List ℕ) → laid m certificate_fields ≡ true → length (signers_in m) < 256
few_votes m h = omega (arith, (certificate_laid m h).short, length_signers m (number two m 1 + 6) 68 (votes m))

counted : {which votes : ℕ} → which < 256 → votes < 256 → Says certificate_bits (gives (which ∷ votes ∷ []))
counted h k = answer refl refl (h, (k, tt))

pub certificate_says : (s m verdicts : List ℕ) → Says certificate_bits (machines.certificate machine.base s m verdicts).answer
unfolding machines.certificate machines.settle machines.settle_on machines.pay
certificate_says s m verdicts =
    let test = need_case (Tells certificate_bits) in
    let p = payment (inside m) in
    let from = machine.record_of machine.base s p.sender.0 in
    let to = machine.record_of machine.base s p.recipient in
    let c = (machine.base).committee s in
    test (machine.is_state machine.base s) _ _ (byte 16 refl) (λ _.
    onward certificate_bits s (judged_by c m verdicts).number _ (bounds.judged c m verdicts) (λ e.
    let few = few_votes m (judged c m verdicts e).laid_down in
    test (machine.is_formed machine.base s p.sender.0) _ _ (byte 16 refl) (λ _.
    test (eqb p.kind 1 || machine.is_formed machine.base s p.recipient) _ _ (byte 16 refl) (λ _.
    cond_case (Tells certificate_bits) (ltb p.sequence.0 from.next.0) _ _ (λ _. counted (lit< tt) few) (λ _.
    test (eqb p.sequence.0 from.next.0) _ _ (byte 10 refl) (λ _.
    cond_case (Tells certificate_bits) (machines.to_itself p) _ _ (λ _. counted (lit< tt) few) (λ _.
    test (leb p.amount from.balance) _ _ (byte 16 refl) (λ _.
    cond_case (Tells certificate_bits) (eqb p.kind 1) _ _ (λ _. counted (lit< tt) few) (λ _.
    test (leb (to.balance + p.amount) highest) _ _ (byte 16 refl) (λ _. counted (lit< tt) few))))))))))

pub funding_order_says : (s m verdicts : List ℕ) → Says no_bits (machines.funding_order machine.base s m verdicts).answer
unfolding machines.funding_order machines.credit machines.credit_on
funding_order_says s m verdicts =
    let test = need_case (Tells no_bits) in
    let o = funding m in
    test (machine.is_state machine.base s) _ _ (byte 16 refl) (λ _.
    onward no_bits s (read_funding m).number _ (bounds.funding_read m) (λ _.
    test (eqb (length verdicts) 1) _ _ (byte 3 refl) (λ _.
    test (good verdicts) _ _ (byte 4 refl) (λ _.
    test (machine.is_formed machine.base s o.account.0) _ _ (byte 16 refl) (λ _.
    test (eqb o.index.0 (last_index s + 1)) _ _ (byte 12 refl) (λ _.
    test (leb ((machine.record_of machine.base s o.account.0).balance + o.amount) highest) _ _ (byte 16 refl) (λ _. answer refl refl tt)))))))

-- where the standing body lies: the numbers fit by the call's own law, and every answer has the three of them
abbrev Shaped : Said → Type 0
Shaped said = place_of said < 65536 → length_of said < 65536 → Says stretch_bits said

shaped : {which place n : ℕ} → which < 256 → Shaped (gives (which ∷ place ∷ n ∷ []))
shaped h p l = answer refl refl (h, (p, (l, tt)))

pub standing_says : (m s : List ℕ) → Says stretch_bits (machines.standing_at machine.base m s)
unfolding machines.standing_at machines.standing_on_at
standing_says m s =
    let test = need_case Shaped in
    let a = (payment (inside m)).sender.0 in
    let f = standing_fits m s in
    test (machine.is_state machine.base s) _ _ (shaped (lit< tt)) (λ _.
    test (is_order m) _ _ (shaped (lit< tt)) (λ _.
    test (machine.is_formed machine.base s a) _ _ (shaped (lit< tt)) (λ _.
    cond_case Shaped (ltb 0 (length (machine.pending_of machine.base s a))) _ _ (λ _. shaped (lit< tt)) (λ _. shaped (lit< tt)))))
    f.0 f.1

pub ledger_fresh_says : (s : List ℕ) (f : ℕ) → Says no_bits (ledgers.fresh ledger.base s f).answer
unfolding ledgers.fresh
ledger_fresh_says s f =
    need_case (Tells no_bits) (eqb (length s) (ledger.state_length ledger.base)) _ _ (byte 16 refl) (λ _.
    need_case (Tells no_bits) (is_faults f) _ _ (byte 2 refl) (λ _. answer refl refl tt))

-- what fund tells
abbrev Funds : FundOutcome → Type 0
Funds o = Says fund_bits o.answer

pub fund_says : (s out : List ℕ) (account amount : ℕ) → Says fund_bits (ledgers.fund ledger.base s out account amount).answer
unfolding ledgers.fund
fund_says s out account amount =
    let test = need_case Funds in
    test (ledger.is_state ledger.base s) _ _ (byte 16 refl) (λ _.
    test (is_account account) _ _ (byte 2 refl) (λ _.
    test (is_amount amount) _ _ (byte 2 refl) (λ _.
    test (ltb (last_index s) 65_535) _ _ (byte 17 refl) (λ last.
    test (leb 16 (length out)) _ _ (byte 18 refl) (λ _.
    test (ledger.is_pot (ledger.pot s + amount)) _ _ (byte 16 refl) (λ _.
    answer refl refl (omega (arith, ltb-true (last_index s) 65_535 last), tt)))))))

pub redeem_says : (s m verdicts : List ℕ) → Says redeem_bits (ledgers.redeem ledger.base s m verdicts).answer
unfolding ledgers.redeem ledgers.pay
redeem_says s m verdicts =
    let test = need_case (Tells redeem_bits) in
    let p = payment (inside m) in
    let c = (ledger.base).committee s in
    test (ledger.is_state ledger.base s) _ _ (byte 16 refl) (λ _.
    onward redeem_bits s (judged_by c m verdicts).number _ (bounds.judged c m verdicts) (λ e.
    let fits = payment_fits p (both (laid (inside m) body_fields) (is_payment p) (judged c m verdicts e).body).1 in
    test (eqb p.kind 1) _ _ (byte 13 refl) (λ _.
    cond_case (Tells redeem_bits) (ledger.is_redeemed ledger.base s p.sender.0 p.sequence.0) _ _ (λ _. byte 14 refl) (λ _.
    test (leb p.amount (ledger.pot s)) _ _ (byte 15 refl) (λ _. answer refl refl (fits.recipient, (fits.amount, tt)))))))

pub log_says : (s : List ℕ) (account sequence : ℕ) → Says log_bits (ledgers.read_log ledger.base s account sequence)
unfolding ledgers.read_log
log_says s account sequence =
    let test = need_case (Says log_bits) in
    test (ledger.is_state ledger.base s) _ _ (byte 16 refl) (λ _.
    test (is_account account) _ _ (byte 2 refl) (λ _.
    test (is_sequence sequence) _ _ (byte 2 refl) (λ _.
    cond_case (Says log_bits) (ledger.is_redeemed ledger.base s account sequence) _ _ (λ _. answer refl refl (lit< tt, tt)) (λ _. answer refl refl (lit< tt, tt)))))

-- a message that is laid out as an order or as a certificate starts with a body's field
short_body : (m : List ℕ) (t u : Bool) → laid m order_fields ≡ t → laid m certificate_fields ≡ u → (t || u) ≡ true → size m 0 ≤ 57
short_body m true u e g h = (order_laid m e).body.short
short_body m false true e g h = (certificate_laid m g).body.short
short_body m false false e g h = absurd (false≢true h)

-- what a stretch tells
abbrev Covers : Stretch → Type 0
Covers at = Says stretch_bits (stretch_said at)

pub covered_says : (m : List ℕ) → Says stretch_bits (stretch_said (covered_at m))
unfolding covered_at
covered_says m =
    need_case Covers (laid m order_fields || laid m certificate_fields) _ _ (answer refl refl (lit< tt, (lit< tt, (lit< tt, tt)))) (λ h.
    need_case Covers (is_body (inside m)) _ _ (answer refl refl (lit< tt, (lit< tt, (lit< tt, tt)))) (λ _.
    answer refl refl (lit< tt, (lit< tt, (omega (arith, short_body m _ _ refl refl h), tt)))))

-- what a writer tells
abbrev Writes : Written → Type 0
Writes w = Says written_bits w.answer

-- bytes that a number of two bytes counts
writes_says : (out bs : List ℕ) → length bs ≤ 1_148 → Writes (writes out bs)
unfolding writes
writes_says out bs h = need_case Writes (leb (length bs) (length out)) _ _ (byte 18 refl) (λ _. answer refl refl (omega arith, tt))

pub body_says : (out : List ℕ) (p : Payment) (note : List ℕ) → Says written_bits (write_body out p note).answer
unfolding write_body
body_says out p note =
    need_case Writes (is_payment p) _ _ (byte 2 refl) (λ _.
    need_case Writes (is_note (length note)) _ _ (byte 2 refl) (λ short.
    writes_says out (body_bytes p note) (omega (arith, length_body p note, leb-true (length note) 32 short))))

pub order_written_says : (out : List ℕ) (p : Payment) (note signature : List ℕ) → Says written_bits (write_order out p note signature).answer
unfolding write_order
order_written_says out p note signature =
    let test = need_case Writes in
    test (is_payment p) _ _ (byte 2 refl) (λ _.
    test (is_note (length note)) _ _ (byte 2 refl) (λ short.
    test (eqb (length signature) 64) _ _ (byte 2 refl) (λ whole.
    writes_says out (order_bytes p note signature) (omega (arith, length_order p note signature (eqb-true _ _ whole), leb-true (length note) 32 short)))))

pub funding_says : (out : List ℕ) (o : Funding) → Says written_bits (write_funding out o).answer
unfolding write_funding
funding_says out o = need_case Writes (is_funding o) _ _ (byte 2 refl) (λ _. writes_says out (funding_bytes o) (omega (arith, length_funding o)))

pub certificate_written_says : (f : ℕ) (out body run : List ℕ) → Says written_bits (write_certificate f out body run).answer
unfolding write_certificate write_voted_of
certificate_written_says f out body run =
    let test = need_case Writes in
    test (is_faults f) _ _ (byte 2 refl) (λ faults.
    test (eqb (length run % 65) 0) _ _ (byte 1 refl) (λ whole.
    test (laid body body_fields) _ _ (byte 1 refl) (λ formed.
    test (is_payment (payment body)) _ _ (byte 2 refl) (λ range.
    test (known (3 * f) (signers_of run)) _ _ (byte 5 refl) (λ all_known.
    test (rising (signers_of run)) _ _ (byte 6 refl) (λ all_rising.
    test (leb (2 * f + 1) (length (signers_of run))) _ _ (byte 7 refl) (λ enough.
    writes_says out (certificate_bytes body run) (certifies_size f body run (record {
      faults = faults;
      whole = eqb-true _ _ whole;
      formed = formed;
      in_range = range;
      all_known = all_known;
      all_rising = all_rising;
      enough = enough;
    })))))))))

-- what a call answers that puts its values into an array of n: as many values, or a refusal, which has none
pub data Shows (n : ℕ) (said : Said) : Type 0 where
  fills : said.number ≡ 0 → length said.values ≡ n → Shows n said
  stays : 0 < said.number → said.values ≡ [] → Shows n said

-- Two answers of such a call are equal if number and array are
pub array_apart : (vs : List ℕ) (a b : Said) → Shows (length vs) a → Shows (length vs) b → showing a vs ≡ showing b vs → a ≡ b
array_apart vs a b (fills n l) (fills m k) e =
    let values = sym (put_all vs a.values l) ∙ ap (λ (x : Left). x.holds) e ∙ put_all vs b.values k in
    λ i. record { number = (n ∙ sym m) i; values = values i }
array_apart vs a b (fills n l) (stays p z) e = absurd (let q : a.number ≡ b.number = ap (λ (x : Left). x.number) e in omega arith)
array_apart vs a b (stays p z) (fills n l) e = absurd (let q : a.number ≡ b.number = ap (λ (x : Left). x.number) e in omega arith)
array_apart vs a b (stays p z) (stays q y) e = λ i. record { number = (e i).number; values = (z ∙ sym y) i }

-- an account's answer has its balance beside it, and a refusal none
pub record AccountShows (n : ℕ) (shown : AccountShown) : Type 0 where
  pub answers : Shows n shown.answer
  pub balances : 0 < shown.answer.number → shown.balance ≡ pos 0

-- the balance that is left, by whether there is an answer
answered_balance : (shown : AccountShown) (vs : List ℕ) (z : ℤ) → shown.answer.number ≡ 0 → (reading shown vs z).balance ≡ shown.balance
answered_balance shown vs z h = rw h

pub account_apart : (vs : List ℕ) (z : ℤ) (a b : AccountShown) → AccountShows (length vs) a → AccountShows (length vs) b → reading a vs z ≡ reading b vs z → a ≡ b
account_apart vs z a b h k e =
    let answer : a.answer ≡ b.answer = array_apart vs a.answer b.answer h.answers k.answers (λ i. left (e i).number (e i).values) in
    let number : a.answer.number ≡ b.answer.number = ap (λ (x : Said). x.number) answer in
    let balance : a.balance ≡ b.balance = same a.answer.number refl number in
    λ i. record { answer = answer i; balance = balance i }
  where
    same : (n : ℕ) → a.answer.number ≡ n → a.answer.number ≡ b.answer.number → a.balance ≡ b.balance
    same zero f g = sym (answered_balance a vs z f) ∙ ap (λ (x : AccountLeft). x.balance) e ∙ answered_balance b vs z (sym g ∙ f)
    same (suc n) f g = h.balances (omega arith) ∙ sym (k.balances (omega arith))

pub pot_shows : (s : List ℕ) → Shows 2 (ledgers.read_pot ledger.base s)
unfolding ledgers.read_pot
pot_shows s = need_case (Shows 2) (ledger.is_state ledger.base s) _ _ (stays (lit< tt) refl) (λ _. fills refl refl)

payment_shows : (b : List ℕ) → Shows 5 (read_payment b)
unfolding read_payment
payment_shows b =
    need_case (Shows 5) (laid b body_fields) _ _ (stays (lit< tt) refl) (λ _.
    need_case (Shows 5) (is_payment (payment b)) _ _ (stays (lit< tt) refl) (λ _. fills refl refl))

-- the length of a note is one value more
noted_shows : {n : ℕ} (said : Said) (note : ℕ) → Shows n said → Shows (n + 1) (noted said note)
noted_shows said note (fills e l) = rw e (fills refl (length-append said.values (note ∷ []) ∙ ap (λ (k : ℕ). k + 1) l))
noted_shows said note (stays p z) = rw (ne_eqb said.number 0 (λ e. omega arith)) (stays p z)

pub body_shows : (b : List ℕ) → Shows 6 (noted (read_body b).answer (read_body b).note.length)
unfolding read_body
body_shows b = noted_shows (read_payment b) _ (payment_shows b)

pub order_shows : (m : List ℕ) → Shows 6 (noted (read_order m).answer (read_order m).note.length)
unfolding read_order
order_shows m =
    noted_shows (read_order_payment m) _ (need_case (Shows 5) (laid m order_fields) _ _ (stays (lit< tt) refl) (λ _. payment_shows (inside m)))

pub funding_order_shows : (m : List ℕ) → Shows 3 (read_funding m)
unfolding read_funding
funding_order_shows m =
    need_case (Shows 3) (laid m funding_fields) _ _ (stays (lit< tt) refl) (λ _.
    need_case (Shows 3) (is_funding (funding m)) _ _ (stays (lit< tt) refl) (λ _. fills refl refl))

pub certificate_shows : (f : ℕ) (m : List ℕ) → Shows 6 (read_certificate f m)
unfolding read_certificate_of
certificate_shows f m =
    let test = need_case (Shows 6) in
    test (is_faults f) _ _ (stays (lit< tt) refl) (λ _.
    test (laid m certificate_fields) _ _ (stays (lit< tt) refl) (λ _.
    test (laid (inside m) body_fields) _ _ (stays (lit< tt) refl) (λ _.
    test (is_payment (payment (inside m))) _ _ (stays (lit< tt) refl) (λ _.
    test (known (3 * f) (signers_in m)) _ _ (stays (lit< tt) refl) (λ _.
    test (rising (signers_in m)) _ _ (stays (lit< tt) refl) (λ _.
    test (leb (2 * f + 1) (length (signers_in m))) _ _ (stays (lit< tt) refl) (λ _. fills refl refl)))))))

pub judged_shows : (f : ℕ) (m verdicts : List ℕ) → Shows 6 (judge f m verdicts)
unfolding judged_by
judged_shows f m verdicts =
    let test = need_case (Shows 6) in
    test (is_faults f) _ _ (stays (lit< tt) refl) (λ _.
    test (laid m certificate_fields) _ _ (stays (lit< tt) refl) (λ _.
    test (laid (inside m) body_fields) _ _ (stays (lit< tt) refl) (λ _.
    test (is_payment (payment (inside m))) _ _ (stays (lit< tt) refl) (λ _.
    test (eqb (length verdicts) (votes m)) _ _ (stays (lit< tt) refl) (λ _.
    test (known (3 * f) (signers_in m)) _ _ (stays (lit< tt) refl) (λ _.
    test (rising (signers_in m)) _ _ (stays (lit< tt) refl) (λ _.
    test (good verdicts) _ _ (stays (lit< tt) refl) (λ _.
    test (leb (2 * f + 1) (length (signers_in m))) _ _ (stays (lit< tt) refl) (λ _. fills refl refl)))))))))

pub account_shows : (s : List ℕ) (account : ℕ) → AccountShows 3 (machines.account machine.base s account)
unfolding machines.account
account_shows s account =
    let test = need_case (AccountShows 3) in
    let refused : (n : ℕ) → 0 < n → AccountShows 3 (unshown n) = λ n h. record { answers = stays h refl; balances = λ _. refl } in
    test (machine.is_state machine.base s) _ _ (refused 16 (lit< tt)) (λ _.
    test (is_account account) _ _ (refused 2 (lit< tt)) (λ _.
    test (machine.is_formed machine.base s account) _ _ (refused 16 (lit< tt)) (λ _.
    record { answers = fills refl refl; balances = λ h. absurd (omega arith) })))
