-- No answer has more than 255 bytes. Assumes nothing.
use Prim.Native.Nat.{ℕ, zero, suc, ◌+◌, ◌-◌, ◌*◌, ◌^◌, ◌<◌, ◌≤◌}
use mathlib.Core.Path.{◌≡◌, refl}
use mathlib.Core.Bool.{Bool, true, false, ◌&&◌, cond}
use mathlib.Core.List.{List, [], ◌∷◌}
use native.Mathlib.Omega.{arith}
use lib.Dec.{leb, ltb, eqb, lit<, lit≤}
use lib.IntN.{ℤ, pos, negsuc}
use lib.ListN.{length, get_or, replicate, length-append, length-take}
use borrow.Author.Tests.{leb-true, ltb-true}
use Rattle.octets.specs.Octets.{cut, same}
use Rattle.octets.proofs.Laws.{length_put}
use Rattle.wire.specs.Numbers.{is_account, is_amount}
use Rattle.octets.specs.Tests.{need}
use Rattle.wire.specs.Fields.{laid}
use Rattle.wire.specs.Messages.{inside, payment, order_fields}
use Rattle.wire.specs.Readers.{is_body, is_order}
use Rattle.wire.specs.Refusals.{Said}
use Rattle.octets.proofs.TestLaws.{both}
use Rattle.wire.proofs.Laid.{order_laid}
use Rattle.states.specs.Headers.{last_index}
use Rattle.records.specs.Answers.{AccountShown, unshown}
use Rattle.records.specs.Balances.{nought, highest}
use Rattle.records.specs.Records.{bit}
use Rattle.records.specs.States as records
use Rattle.records.specs.Calls as machine
use Rattle.records.proofs.Facts.{formed_fits, pending_fits}
use Rattle.ledger.specs.Answers.{FundOutcome}
use Rattle.ledger.specs.States as logs
use Rattle.ledger.specs.Calls as ledger
use Rattle.ledger.proofs.Facts.{state_pot}
use Rattle.invariants.specs.Outcomes.{need_case, cond_case}
use Rattle.desk.specs.Layout.{Fit}
use Rattle.desk.specs.Theorems.{Says, answer, refusal, order_says, certificate_says, funding_order_says, fund_says, redeem_says, log_says}
use Rattle.text.specs.Ascii.{ascii}
use Rattle.text.specs.Pages.{decimal, magnitude, signed}
use Rattle.text.specs.Words.{word_at, has_words, worth, number_of, is_bytes, bytes_of, is_line}
use Rattle.refusals.specs.Refusals as refusals
use Rattle.refusals.specs.declared.Fault.{Fault}
use Rattle.wording.specs.Answers.{order_text, certificate_text, funding_text, account_text, standing_text, fund_text, redeem_text, pot_text, log_text}
use Rattle.lines.specs.Calls.{Reply, faulty, handled, paper_line, account_line, standing_line, fund_line, pot_line, log_line, uncalled, machine_line, ledger_line}
use Rattle.lines.specs.declared.calls.Paper.{Paper}
use Rattle.legible.proofs.Spelling.{decimal_short, length_hexadecimal}

-- a word is worth a number of eight bytes, if only the one that is no number
worth_fits : (n : ℕ) (word : List ℕ) → n < 1_000_000_000_000_000_000 → worth n word < 2 ^ 64
unfolding worth
worth_fits n [] h = omega arith
worth_fits n (d ∷ ds) h =
    let test = need_case (λ (k : ℕ). k < 2 ^ 64) in
    test (leb 48 d) _ _ (lit< tt) (λ _.
    test (leb d 57) _ _ (lit< tt) (λ high.
    test (ltb n 100_000_000_000_000_000) _ _ (lit< tt) (λ few.
    worth_fits (n * 10 + (d - 48)) ds (omega (arith, leb-true d 57 high, ltb-true n 100_000_000_000_000_000 few)))))

number_fits : (word : List ℕ) → number_of word < 2 ^ 64
unfolding number_of
number_fits word = need_case (λ (k : ℕ). k < 2 ^ 64) (ltb 0 (length word)) _ _ (lit< tt) (λ _. worth_fits 0 word (lit< tt))

-- each of some numbers has eight bytes
abbrev Eight : List ℕ → Type 0
Eight [] = Unit {0}
Eight (v ∷ vs) = (v < 2 ^ 64) × Eight vs

eight_at : (vs : List ℕ) (i : ℕ) → Eight vs → get_or vs i 0 < 2 ^ 64
eight_at [] i h = lit< tt
eight_at (v ∷ vs) zero h = h.0
eight_at (v ∷ vs) (suc i) h = eight_at vs i h.1

-- an answer of numbers that can be printed in short: a refusal has one byte, values have eight
record Small (said : Said) : Type 0 where
  number : said.number < 256
  values : Eight said.values

-- what fills its bits is such an answer, if no value has more bits than eight bytes
narrow : List ℕ → Bool
narrow [] = true
narrow (w ∷ ws) = leb (2 ^ w) (2 ^ 64) && narrow ws

eight_fit : (ws vs : List ℕ) → narrow ws ≡ true → length vs ≡ length ws → Fit ws vs → Eight vs
unfolding narrow
eight_fit [] [] n l f = tt
eight_fit [] (v ∷ vs) n l f = absurd (omega arith)
eight_fit (w ∷ ws) [] n l f = tt
eight_fit (w ∷ ws) (v ∷ vs) n l f =
    let t = both (leb (2 ^ w) (2 ^ 64)) (narrow ws) n in
    (omega (arith, f.0, leb-true (2 ^ w) (2 ^ 64) t.0), eight_fit ws vs t.1 (omega arith) f.1)

small : {widths : List ℕ} {said : Said} → narrow widths ≡ true → Says widths said → Small said
small {widths} {said} n (answer z l f) = record { number = omega arith; values = eight_fit widths said.values n l f }
small n (refusal p q e) = record { number = q; values = rw e tt }

-- a value of such an answer has at most twenty digits
value_short : {said : Said} (i : ℕ) → Small said → length (decimal (refusals.value said i)) ≤ 20
value_short {said} i h = decimal_short _ (eight_at said.values i h.values)

-- no reason has more than eighty bytes
all_short : List (List ℕ) → Bool
all_short [] = true
all_short (t ∷ ts) = leb (length t) 80 && all_short ts

short_at : (ts : List (List ℕ)) (i : ℕ) → all_short ts ≡ true → length (get_or ts i []) ≤ 80
unfolding all_short
short_at [] i h = omega arith
short_at (t ∷ ts) zero h = leb-true (length t) 80 (both (leb (length t) 80) (all_short ts) h).0
short_at (t ∷ ts) (suc i) h = short_at ts i (both (leb (length t) 80) (all_short ts) h).1

reason_short : (n : ℕ) → length (refusals.reason n) ≤ 80
unfolding all_short ascii
reason_short n = short_at refusals.reasons (n - 1) refl

-- so no refusal has more than 110
refusal_short : (n : ℕ) (why : List ℕ) → n < 2 ^ 64 → length why ≤ 80 → length (refusals.refusal n why) ≤ 110
unfolding ascii
refusal_short n why h k = simp length-append (omega (arith, decimal_short n h, k))

fault_fits : (fault : Fault) → (refusals.fault_number fault < 2 ^ 64) × (length (refusals.fault_reason (refusals.fault_number fault)) ≤ 80)
unfolding ascii
fault_fits Fault.Empty = (lit< tt, lit≤ tt)
fault_fits Fault.TooLong = (lit< tt, lit≤ tt)
fault_fits Fault.NoCall = (lit< tt, lit≤ tt)
fault_fits Fault.WordCount = (lit< tt, lit≤ tt)
fault_fits Fault.NotHexadecimal = (lit< tt, lit≤ tt)
fault_fits Fault.NoEnd = (lit< tt, lit≤ tt)

-- Short text, and a short answer: its refusal is short, and so is what was given
abbrev ShortText : List ℕ → Type 0
ShortText text = length text ≤ 255

refused_short : (n : ℕ) → n < 256 → ShortText (refusals.refused_text n)
refused_short n h = omega (arith, refusal_short n (refusals.reason n) (omega arith) (reason_short n))

answer_short : {said : Said} (given : List ℕ) → Small said → ShortText given → ShortText (refusals.answer_text said given)
answer_short {said} given s h = need_case ShortText (eqb said.number 0) _ given (refused_short said.number s.number) (λ _. h)

-- one of two lengths is at most the larger
either : (t : Bool) (a b : List ℕ) (n : ℕ) → length a ≤ n → length b ≤ n → length (cond t a b) ≤ n
either true a b n h k = h
either false a b n h k = k

-- the answers in words
order_short : {said : Said} → Small said → ShortText (order_text said)
unfolding order_text ascii
order_short {said} s = answer_short _ s (either (eqb (refusals.value said 0) 0) _ _ 255 (lit≤ tt) (lit≤ tt))

certificate_short : {said : Said} → Small said → ShortText (certificate_text said)
unfolding certificate_text ascii
certificate_short {said} s =
    let how = either (eqb (refusals.value said 0) 0) (ascii "confirmed by ") (ascii "already: this sequence was confirmed before; votes of ") 64 (lit≤ tt) (lit≤ tt) in
    let many = either (eqb (refusals.value said 1) 1) (ascii " machine") (ascii " machines") 9 (lit≤ tt) (lit≤ tt) in
    answer_short _ s (simp length-append (omega (arith, how, value_short 1 s, many)))

funding_short : {said : Said} → Small said → ShortText (funding_text said)
unfolding funding_text ascii
funding_short s = answer_short _ s (lit≤ tt)

fund_short : {said : Said} (out : List ℕ) → Small said → length out ≡ 16 → ShortText (fund_text said out)
unfolding fund_text ascii
fund_short out s l = answer_short _ s (simp length-append (omega (arith, value_short 0 s, length_hexadecimal out)))

redeem_short : {said : Said} → Small said → ShortText (redeem_text said)
unfolding redeem_text ascii
redeem_short s = answer_short _ s (simp length-append (omega (arith, value_short 0 s, value_short 1 s)))

pot_short : {said : Said} → Small said → ShortText (pot_text said)
unfolding pot_text ascii
pot_short s = answer_short _ s (simp length-append (omega (arith, value_short 0 s, value_short 1 s)))

log_short : {said : Said} (account sequence : ℕ) → Small said → account < 2 ^ 64 → sequence < 2 ^ 64 → ShortText (log_text account sequence said)
unfolding log_text ascii
log_short {said} account sequence s h k =
    let which = either (eqb (refusals.value said 0) 1) (ascii ": redeemed") (ascii ": not redeemed") 14 (lit≤ tt) (lit≤ tt) in
    answer_short _ s (simp length-append (omega (arith, decimal_short account h, decimal_short sequence k, which)))

standing_short : (body : List ℕ) → length body ≤ 57 → ShortText (standing_text body)
unfolding standing_text ascii
standing_short body h = either (eqb (length body) 0) _ _ 255 (lit≤ tt) (omega (arith, length_hexadecimal body))

signed_short : (z : ℤ) → magnitude z < 2 ^ 64 → length (signed z) ≤ 21
unfolding ascii
signed_short (pos n) h = omega (arith, decimal_short n h)
signed_short (negsuc n) h = omega (arith, decimal_short (suc n) h)

-- a balance of which eight bytes are enough, and an answer of such numbers
record SmallAccount (shown : AccountShown) : Type 0 where
  said : Small shown.answer
  balance : magnitude shown.balance < 2 ^ 64

account_short : (account : ℕ) (shown : AccountShown) → account < 2 ^ 64 → SmallAccount shown → ShortText (account_text account shown)
unfolding account_text ascii
account_short account shown h s =
    let which = either (eqb (refusals.value shown.answer 0) 1) (ascii ": in use, next ") (ascii ": not in use, next ") 19 (lit≤ tt) (lit≤ tt) in
    answer_short _ s.said
    (simp length-append (omega (arith, decimal_short account h, which, value_short 1 s.said, value_short 2 s.said, signed_short shown.balance s.balance)))

-- What is read of an account, of the pot and of a standing body is small
balance_small : (t : Bool) (a b : ℕ) → a < 2 ^ 63 → b < 2 ^ 63 → magnitude (cond t (negsuc (b - suc a)) (pos (a - b))) < 2 ^ 64
balance_small true a b h k = omega arith
balance_small false a b h k = omega arith

bit_small : (used : Bool) → bit used < 2 ^ 64
bit_small true = lit< tt
bit_small false = lit< tt

account_small : (s : List ℕ) (account : ℕ) → SmallAccount (machine.account records.base s account)
unfolding machine.account
account_small s account =
    let test = need_case SmallAccount in
    let r = records.record_of records.base s account in
    test (records.is_state records.base s) _ _ (refused 16 (lit< tt)) (λ _.
    test (is_account account) _ _ (refused 2 (lit< tt)) (λ _.
    test (records.is_formed records.base s account) _ _ (refused 16 (lit< tt)) (λ formed.
    let f = formed_fits account s (records.place records.base account) formed in
    let most : r.balance ≤ highest = f.balance in
    record {
      said = record { number = lit< tt; values = (bit_small r.used, (omega (arith, f.next), (omega arith, tt))) };
      balance = balance_small (ltb r.balance nought) r.balance nought (omega arith) (lit< tt);
    })))
  where
    refused : (n : ℕ) → n < 256 → SmallAccount (unshown n)
    refused n h = record { said = record { number = h; values = tt }; balance = lit< tt }

pot_small : (s : List ℕ) → last_index s ≤ 65_535 → Small (ledger.read_pot logs.base s)
unfolding ledger.read_pot
pot_small s few =
    need_case Small (logs.is_state logs.base s) _ _ (record { number = lit< tt; values = tt }) (λ formed.
    record { number = lit< tt; values = (omega (arith, few), (omega (arith, state_pot s formed), tt)) })

body_small : (m s : List ℕ) → length (machine.standing records.base m s) ≤ 57
unfolding machine.standing machine.standing_on
body_small m s =
    let P : List ℕ → Type 0 = λ (body : List ℕ). length body ≤ 57 in
    let a = (payment (inside m)).sender.0 in
    need_case P (records.is_state records.base s) _ _ (lit≤ tt) (λ _.
    need_case P (is_order m) _ _ (lit≤ tt) (λ order.
    need_case P (records.is_formed records.base s a) _ _ (lit≤ tt) (λ formed.
    cond_case P (ltb 0 (length (records.pending_of records.base s a))) _ _
    (λ _. cut_short s (records.place records.base a + 12) _ (pending_fits a s (records.place records.base a) formed))
    (λ _. cut_short m 3 _ (order_laid m (both (laid m order_fields) (is_body (inside m)) order).0).body.short))))
  where
    cut_short : (t : List ℕ) (at n : ℕ) → n ≤ 57 → length (cut t at n) ≤ 57
    cut_short t at n h = simp length-take (omega arith)

-- the output of fund has the length that it was given
fund_out : (s out : List ℕ) (account amount : ℕ) → length (ledger.fund logs.base s out account amount).out ≡ length out
unfolding ledger.fund
fund_out s out account amount =
    let test = need_case (λ (o : FundOutcome). length o.out ≡ length out) in
    test (logs.is_state logs.base s) _ _ refl (λ _.
    test (is_account account) _ _ refl (λ _.
    test (is_amount amount) _ _ refl (λ _.
    test (ltb (last_index s) 65_535) _ _ refl (λ _.
    test (leb 16 (length out)) _ _ refl (λ _.
    test (logs.is_pot (logs.pot s + amount)) _ _ refl (λ _.
    length_put out 0 _))))))

-- What answers a line
abbrev Short : Reply → Type 0
Short r = ShortText r.text

pub fault_short : (fault : Fault) (s : List ℕ) → Short (faulty fault s)
fault_short fault s = let f = fault_fits fault in omega (arith, refusal_short (refusals.fault_number fault) (refusals.fault_reason (refusals.fault_number fault)) f.0 f.1)

handled_short : (paper : Paper) (s m verdicts : List ℕ) → Short (handled paper s m verdicts)
unfolding handled narrow
handled_short Paper.Order s m verdicts = order_short (small refl (order_says s m verdicts))
handled_short Paper.Certificate s m verdicts = certificate_short (small refl (certificate_says s m verdicts))
handled_short Paper.Funding s m verdicts = funding_short (small refl (funding_order_says s m verdicts))
handled_short Paper.Redemption s m verdicts = redeem_short (small refl (redeem_says s m verdicts))

module _ (s line : List ℕ) where
  -- a line of so many words
  of_words : (n : ℕ) (r : Reply) → Short r → Short (need (has_words n line) (faulty Fault.WordCount s) r)
  of_words n r h = need_case Short (has_words n line) _ r (fault_short Fault.WordCount s) (λ _. h)

  -- whose word k means bytes
  of_bytes : (k : ℕ) (r : Reply) → Short r → Short (need (is_bytes (word_at k line)) (faulty Fault.NotHexadecimal s) r)
  of_bytes k r h = need_case Short (is_bytes (word_at k line)) _ r (fault_short Fault.NotHexadecimal s) (λ _. h)

  -- that is called this, or is another
  called : (name : List ℕ) (r others : Reply) → Short r → Short others → Short (cond (same (word_at 0 line) name) r others)
  called name r others h k = cond_case Short (same (word_at 0 line) name) r others (λ _. h) (λ _. k)

  paper_line_lem : (paper : Paper) → Short (paper_line paper s line)
  unfolding paper_line
  paper_line_lem paper = of_words 3 _ (of_bytes 1 _ (of_bytes 2 _ (handled_short paper s _ _)))

  account_line_lem : Short (account_line s line)
  unfolding account_line
  account_line_lem = of_words 2 _ (account_short _ _ (number_fits (word_at 1 line)) (account_small s _))

  standing_line_lem : Short (standing_line s line)
  unfolding standing_line
  standing_line_lem = of_words 2 _ (of_bytes 1 _ (standing_short _ (body_small (bytes_of (word_at 1 line)) s)))

  fund_line_lem : Short (fund_line s line)
  unfolding fund_line narrow
  fund_line_lem = of_words 3 _ (fund_short _ (small refl (fund_says s _ _ _)) (fund_out s (replicate 16 0) _ _))

  pot_line_lem : last_index s ≤ 65_535 → Short (pot_line s line)
  unfolding pot_line
  pot_line_lem few = of_words 1 _ (pot_short (pot_small s few))

  log_line_lem : Short (log_line s line)
  unfolding log_line narrow
  log_line_lem = of_words 3 _ (log_short _ _ (small refl (log_says s _ _)) (number_fits (word_at 1 line)) (number_fits (word_at 2 line)))

  no_call : Short (uncalled s line)
  no_call = need_case Short (ltb 0 (length (word_at 0 line))) _ _ (fault_short Fault.Empty s) (λ _. fault_short Fault.NoCall s)

  of_size : (r : Reply) → Short r → Short (need (is_line line) (faulty Fault.TooLong s) r)
  of_size r h = need_case Short (is_line line) _ r (fault_short Fault.TooLong s) (λ _. h)

  pub machine_short : Short (machine_line s line)
  unfolding machine_line
  machine_short =
      of_size _
      (called (ascii "order") _ _ (paper_line_lem Paper.Order)
      (called (ascii "certificate") _ _ (paper_line_lem Paper.Certificate)
      (called (ascii "funding") _ _ (paper_line_lem Paper.Funding)
      (called (ascii "account") _ _ account_line_lem
      (called (ascii "standing") _ _ standing_line_lem
      no_call)))))

  pub ledger_short : last_index s ≤ 65_535 → Short (ledger_line s line)
  unfolding ledger_line
  ledger_short few =
      of_size _
      (called (ascii "redeem") _ _ (paper_line_lem Paper.Redemption)
      (called (ascii "fund") _ _ fund_line_lem
      (called (ascii "pot") _ _ (pot_line_lem few)
      (called (ascii "redeemed") _ _ log_line_lem
      no_call))))
