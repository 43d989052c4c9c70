-- What an index, a pot or a log bit that is written keeps. Assumes nothing.
use Rattle.std.specs.Prelude.{ℕ, ◌+◌, ◌≤◌, ◌<◌, ◌≡◌, refl, true, ◌&&◌, List, ◌++◌, length, replicate, eqb}
use Rattle.std.proofs.Common.{ap, ◌∙◌, arith, length-append, lit≤, leb-true, le-leb, eq-eqb}
use Rattle.std.proofs.lemmas.List.{length-replicate}
use Rattle.octets.specs.Octets.{one, two, eight, number, bytes, cut, put, all_zero}
use Rattle.octets.proofs.Laws.{length_put, length_bytes, number_put, number_put_out, cut_put_out}
use Rattle.wire.specs.Numbers.{is_faults}
use Rattle.wire.specs.Votes.{committee}
use Rattle.states.specs.Headers.{faults_in, last_index, with_index}
use Rattle.invariants.specs.Keeping.{faults_stay}
use Rattle.ledger.specs.States.{Rules, base, is_base_header, state_length, is_state, pot, with_pot, is_pot, place, with_redeemed, fresh_state}
use Rattle.ledger.proofs.Facts.{state_length_lem, state_header, header_pot}
use Rattle.bookkeeping.specs.Meaning.{Lays}

-- what is written is read back
pub index_written : (s : List ℕ) (index : ℕ) → 12 ≤ length s → index ≤ 65_535 → last_index (with_index s index) ≡ index
index_written s index h k = number_put two s 2 index (omega arith) (omega arith)

pub pot_written : (s : List ℕ) (amount : ℕ) → 12 ≤ length s → is_pot amount ≡ true → pot (with_pot s amount) ≡ amount
pot_written s amount h k = number_put eight s 4 amount (omega (arith, leb-true amount 1_000_000_000_000_000 k)) (omega arith)

-- the pot stays where the index is written, and the index where the pot or a log bit is
pub index_leaves_pot : (s : List ℕ) (index : ℕ) → pot (with_index s index) ≡ pot s
index_leaves_pot s index = number_put_out eight s 2 (bytes two index) 4 (λ j a b c d. omega (arith, length_bytes two index))

pub pot_leaves_index : (s : List ℕ) (amount : ℕ) → last_index (with_pot s amount) ≡ last_index s
pot_leaves_index s amount = number_put_out two s 4 (bytes eight amount) 2 (λ j a b c d. omega arith)

pub log_leaves_index : (rules : Rules) → Lays rules → (s : List ℕ) (account sequence : ℕ) → last_index (with_redeemed rules s account sequence) ≡ last_index s
unfolding with_redeemed
log_leaves_index rules l s account sequence = number_put_out two s (place rules account sequence) _ 2 (λ j a b c d. omega (arith, l.room))

-- the base header, but for its pot, reads the bytes 0, 1 and 12 to 15 alone
header_put : (s : List ℕ) (at : ℕ) (vs : List ℕ) (amount : ℕ) → 2 ≤ at → ((j : ℕ) → at ≤ j → j < at + length vs → 12 ≤ j → j < 16 → ⊥) → pot (put s at vs) ≡ amount
    → is_base_header (put s at vs) ≡ (is_faults (faults_in s) && (eqb (number one s 1) 0 && (is_pot amount && all_zero (cut s 12 4))))
unfolding is_base_header
header_put s at vs amount h out e =
    rw (number_put_out one s at vs 0 (λ j a b c d. omega arith), number_put_out one s at vs 1 (λ j a b c d. omega arith), e, cut_put_out s at vs 12 4 out)

-- the rules of 01 lay out a state so
pub base_lays : Lays base
unfolding is_base_header
base_lays = record {
  room = lit≤ tt;
  index_free = λ s index. header_put s 2 (bytes two index) (pot s) (lit≤ tt) (λ j a b c d. omega (arith, length_bytes two index)) (index_leaves_pot s index);
  logs_free = λ s at vs h. header_put s at vs (pot s) (omega arith) (λ j a b c d. omega arith) (number_put_out eight s at vs 4 (λ j a b c d. omega arith));
  pot_free = λ s amount r k h.
      header_put s 4 (bytes eight amount) amount (lit≤ tt) (λ j a b c d. omega (arith, length_bytes eight amount)) (pot_written s amount r k)
      ∙ rw k (rw (header_pot s h) at h);
  index_seats = λ s index. ap committee (faults_stay s 2 (bytes two index) (lit≤ tt));
  logs_seats = λ s at vs h. ap committee (faults_stay s at vs (omega arith));
  pot_seats = λ s amount. ap committee (faults_stay s 4 (bytes eight amount) (lit≤ tt));
  pot_most = header_pot;
}

-- f and n zeros have n + 1 bytes
length_fresh : (f n : ℕ) → length (bytes one f ++ replicate n 0) ≡ 1 + n
unfolding bytes
length_fresh f n = length-append (bytes one f) (replicate n 0) ∙ ap (λ (k : ℕ). 1 + k) (length-replicate n 0)

-- the header of a fresh state is right
fresh_header : (f : ℕ) → f ≤ 5 → is_base_header (fresh_state base f) ≡ true
unfolding is_base_header fresh_state number bytes all_zero
fresh_header f h = rw (le-leb f 5 h)

-- length and header of a fresh state are right, its index and its pot are 0
pub fresh_state_lem : (f : ℕ) → f ≤ 5 → is_state base (fresh_state base f) ≡ true
unfolding is_state fresh_state
fresh_state_lem f h = rw (length_fresh f 32_783, fresh_header f h)

pub fresh_index : (f : ℕ) → last_index (fresh_state base f) ≡ 0
unfolding fresh_state number bytes
fresh_index f = refl

pub fresh_pot : (f : ℕ) → pot (fresh_state base f) ≡ 0
unfolding fresh_state number bytes
fresh_pot f = refl

-- a well-formed state has room for header and logs
pub state_room : (rules : Rules) → Lays rules → (s : List ℕ) → is_state rules s ≡ true → 12 ≤ length s
state_room rules l s h = omega (arith, l.room, state_length_lem rules s h)

pub log_room : (rules : Rules) (s : List ℕ) (account sequence : ℕ) → is_state rules s ≡ true → account ≤ 63 → sequence ≤ 4_095 → place rules account sequence < length s
log_room rules s account sequence h a b = omega (arith, state_length_lem rules s h)

-- bytes put into a well-formed state keep its length, so only its header counts
put_keeps : (rules : Rules) (s : List ℕ) (at : ℕ) (vs : List ℕ) → is_state rules s ≡ true → (rules.is_header s ≡ true → rules.is_header (put s at vs) ≡ true) → is_state rules (put s at vs) ≡ true
unfolding is_state
put_keeps rules s at vs h header =
    rw (length_put s at vs, state_length_lem rules s h, eq-eqb (state_length rules) _ refl) (header (state_header rules s h))

-- length and header stay right
pub with_index_keeps : (rules : Rules) → Lays rules → (s : List ℕ) (index : ℕ) → is_state rules s ≡ true → is_state rules (with_index s index) ≡ true
with_index_keeps rules l s index h = put_keeps rules s 2 (bytes two index) h (λ e. l.index_free s index ∙ e)

pub with_pot_keeps : (rules : Rules) → Lays rules → (s : List ℕ) (amount : ℕ) → is_pot amount ≡ true → is_state rules s ≡ true → is_state rules (with_pot s amount) ≡ true
with_pot_keeps rules l s amount k h = put_keeps rules s 4 (bytes eight amount) h (l.pot_free s amount (state_room rules l s h) k)

pub with_redeemed_keeps : (rules : Rules) → Lays rules → (s : List ℕ) (account sequence : ℕ) → is_state rules s ≡ true → is_state rules (with_redeemed rules s account sequence) ≡ true
unfolding with_redeemed
with_redeemed_keeps rules l s account sequence h = put_keeps rules s (place rules account sequence) _ h (λ e. l.logs_free s (place rules account sequence) _ (omega arith) ∙ e)
