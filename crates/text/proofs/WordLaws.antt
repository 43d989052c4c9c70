-- What a turn of a loop over the bytes of a word or a line shows, and laws of words: the next one, its length, the bytes that it means. Assumes nothing.
use Prim.Native.Nat.{ℕ, zero, suc, ◌+◌, ◌-◌, ◌*◌, ◌/◌, ◌%◌, ◌<◌, ◌≤◌}
use mathlib.Core.Bool.{Bool, true, false, not, cond, ◌&&◌}
use mathlib.Core.Path.{◌≡◌, refl, sym, ap, ◌∙◌}
use mathlib.Core.List.{List, [], ◌∷◌}
use native.Mathlib.Omega.{arith}
use native.Mathlib.Numerals.{add-one}
use lib.ListN.{length, drop, set, length-take, length-drop, drop_of_length-le}
use lib.Seq.{drop-cons, take_all}
use lib.Dec.{ltb, eqb}
use borrow.Author.Tests.{not-false, leb-true, ltb-true, ltb-false, eqb-true, lt-ltb, le-ltb, le-leb, ne_eqb}
use Rattle.std.specs.Prelude.{Option, Some, None}
use Rattle.std.specs.Option.{unwrap_or}
use Rattle.std.specs.Char.{is_ascii_digit}
use Rattle.std.specs.List.{position_or_len, list_all}
use Rattle.std.proofs.lemmas.List.Sums.{prefix_len-le-length}
use Rattle.octets.specs.Tests.{need}
use Rattle.octets.specs.Octets.{number, one, cut, put}
use Rattle.octets.proofs.Laws.{length_put, cut_put}
use Rattle.octets.proofs.TestLaws.{both}
use Rattle.text.specs.Words.{is_kind, leading, behind_word, word_at, has_words, worth, no_number, number_of, decimal_of, nibble, are_digits, unhexed, is_stroke, is_bytes, is_line, line_end}

-- what is left from i on is the byte there, and what is left behind it
pub next_byte : (s : List ℕ) (i : ℕ) → i < length s → drop i s ≡ number one s i ∷ drop (i + 1) s
unfolding number
next_byte s i h = rw (add-one, drop-cons s i 0)

-- the bytes from n on, as a stretch
pub cut_rest : (s : List ℕ) (n : ℕ) → cut s n (length s - n) ≡ drop n s
cut_rest s n = take_all (length s - n) (drop n s) (simp length-drop (omega arith))

-- where the first byte that passes stands, or the length where none does
pub found : {A : Type 0} {r : Option ℕ} {n : ℕ} (test : A → Bool) (s : List A) → r ≡ cond (ltb (position_or_len test s) (length s)) (Some (position_or_len test s)) None → n ≡ unwrap_or r (length s) → (n ≡ position_or_len test s) × (n ≤ length s)
found test s e m = rw (m, e) (go (ltb at (length s)) refl)
  where
    at : ℕ
    at = position_or_len test s

    most : at ≤ length s
    most = prefix_len-le-length (λ x. not (test x)) s

    go : (b : Bool) → ltb at (length s) ≡ b → (unwrap_or (cond b (Some at) None) (length s) ≡ at) × (unwrap_or (cond b (Some at) None) (length s) ≤ length s)
    go true t = (refl, most)
    go false t = let h = ltb-false at (length s) t in (omega (arith, h, most), omega arith)

-- how many bytes are blanks, or are none: up to the first that is not of the kind; and a line ends at its first line feed
pub leading_found : (blank : Bool) (s : List ℕ) → position_or_len (λ b. not (is_kind blank b)) s ≡ leading blank s
unfolding leading
leading_found blank [] = refl
leading_found blank (b ∷ bs) = go (is_kind blank b) (leading_found blank bs)
  where
    go : (k : Bool) → position_or_len (λ b. not (is_kind blank b)) bs ≡ leading blank bs → cond (not (not k)) (1 + position_or_len (λ b. not (is_kind blank b)) bs) 0 ≡ need k 0 (suc (leading blank bs))
    go true e = omega (arith, e)
    go false e = refl

pub line_found : (s : List ℕ) → position_or_len (λ b. eqb b 10) s ≡ line_end s
unfolding line_end
line_found [] = refl
line_found (b ∷ bs) = go (eqb b 10) (line_found bs)
  where
    go : (k : Bool) → position_or_len (λ b. eqb b 10) bs ≡ line_end bs → cond (not k) (1 + position_or_len (λ b. eqb b 10) bs) 0 ≡ cond k 0 (suc (line_end bs))
    go true e = refl
    go false e = omega (arith, e)

-- all of a word are digits where each has a value
pub digits_all : (s : List ℕ) → list_all (λ b. ltb (nibble b) 16) s ≡ are_digits s
unfolding are_digits
digits_all [] = refl
digits_all (b ∷ bs) = ap (λ (rest : Bool). ltb (nibble b) 16 && rest) (digits_all bs)

-- a word but the first is counted from behind the first
pub word_next : (k : ℕ) (line : List ℕ) → (k ≡ 0 → ⊥) → word_at k line ≡ word_at (k - 1) (behind_word line)
unfolding word_at
word_next zero line h = absurd (h refl)
word_next (suc k) line h = let e : suc k - 1 ≡ k = omega arith in rw e

-- a length is not both above 0 and 0
no_length : (n : ℕ) → false ≡ (ltb 0 n && eqb n 0)
no_length zero = refl
no_length (suc n) = rw (lt-ltb 0 (suc n) (omega arith), ne_eqb (suc n) 0 (λ e. omega arith))

-- so no line counts as one without words
pub no_words : {n : ℕ} (line : List ℕ) → n ≡ 0 → false ≡ has_words n line
no_words line e = rw e (no_length (length (word_at 0 line)))

-- no word is longer than its line
pub word_short : (k : ℕ) (line : List ℕ) → length (word_at k line) ≤ length line
unfolding word_at
word_short zero line = simp (length-take, length-drop) (omega arith)
word_short (suc k) line = let h = simp (length-drop) at (word_short k (behind_word line)) in omega arith

-- a word that has bytes is worth what its digits make
pub number_worth : (word : List ℕ) → (length word ≡ 0 → ⊥) → number_of word ≡ worth 0 word
unfolding number_of
number_worth word h = rw (lt-ltb 0 (length word) (omega arith))

-- digits go on to make the number; what is no digit, or comes behind a value of eighteen places, makes none
pub worth_more : (n : ℕ) (s : List ℕ) (i : ℕ) → i < length s → 48 ≤ number one s i → number one s i ≤ 57 → n < 100_000_000_000_000_000 → worth n (drop i s) ≡ worth (n * 10 + (number one s i - 48)) (drop (i + 1) s)
unfolding worth
worth_more n s i h low high few = rw (next_byte s i h, le-leb _ _ low, le-leb _ _ high, lt-ltb _ _ few)

pub worth_other : (n : ℕ) (s : List ℕ) (i : ℕ) → i < length s → is_ascii_digit (number one s i) ≡ false → worth n (drop i s) ≡ no_number
unfolding worth
worth_other n s i h other = rw (next_byte s i h) (grind arith)

pub worth_many : (n : ℕ) (s : List ℕ) (i : ℕ) → i < length s → 48 ≤ number one s i → number one s i ≤ 57 → 100_000_000_000_000_000 ≤ n → worth n (drop i s) ≡ no_number
unfolding worth
worth_many n s i h low high many = rw (next_byte s i h, le-leb _ _ low, le-leb _ _ high, le-ltb _ _ many)

pub worth_end : (n : ℕ) (s : List ℕ) (i : ℕ) → length s ≤ i → worth n (drop i s) ≡ n
unfolding worth
worth_end n s i h = rw (drop_of_length-le s h)

-- what a word means as a number alone: nothing where it is none
pub no_decimal : (word : List ℕ) → number_of word ≡ no_number → None ≡ decimal_of word
no_decimal word e = rw e

pub a_decimal : {n : ℕ} (word : List ℕ) → number_of word ≡ n → n < no_number → Some n ≡ decimal_of word
a_decimal {n} word e h = rw (e, ne_eqb n no_number (λ f. omega (arith, h, f)))

-- and so with the word for none beside it
pub decimal_number : {n : ℕ} (word : List ℕ) → n ≡ unwrap_or (decimal_of word) no_number → n ≡ number_of word
decimal_number word e = e ∙ go (eqb (number_of word) no_number) refl
  where
    go : (b : Bool) → eqb (number_of word) no_number ≡ b → unwrap_or (cond b None (Some (number_of word))) no_number ≡ number_of word
    go true t = sym (eqb-true (number_of word) no_number t)
    go false t = refl

-- each of a word of digits is one
pub digit_small : (s : List ℕ) (i : ℕ) → are_digits s ≡ true → i < length s → nibble (number one s i) < 16
unfolding are_digits number
digit_small [] i d h = omega arith
digit_small (c ∷ cs) zero d h = ltb-true _ _ (both _ _ d).0
digit_small (c ∷ cs) (suc i) d h = digit_small cs i (both (ltb (nibble c) 16) _ d).1 (omega arith)

-- a word that means bytes and is no stroke is of digits, in pairs
pub bytes_digits : (word : List ℕ) → is_bytes word ≡ true → is_stroke word ≡ false → (are_digits word ≡ true) × (length word % 2 ≡ 0)
unfolding is_bytes
bytes_digits word b stroke = let d = both _ _ (rw stroke at b) in (d.1, eqb-true _ _ d.0)

-- the byte that two digits mean, the pair i of a word
abbrev pub pair : List ℕ → ℕ → ℕ
pair s i = nibble (number one s (2 * i)) * 16 + nibble (number one s (2 * i + 1))

-- a pair is put as one byte, and what is left behind it
pub unhex_more : (out s : List ℕ) (i : ℕ) → 2 * i + 1 < length s → put out i (unhexed (drop (2 * i) s)) ≡ put (set out i (pair s i)) (i + 1) (unhexed (drop (2 * (i + 1)) s))
unfolding unhexed put
unhex_more out s i h =
    let e : 2 * (i + 1) ≡ 2 * i + 1 + 1 = omega arith in
    let next : i + 1 ≡ suc i = omega arith in
    rw (next_byte s (2 * i) (omega arith), next_byte s (2 * i + 1) h, e, next)

pub unhex_end : (out s : List ℕ) (i : ℕ) → length s ≤ 2 * i → put out i (unhexed (drop (2 * i) s)) ≡ out
unfolding unhexed put
unhex_end out s i h = rw (drop_of_length-le s h)

-- a word means half as many bytes as it has digits
pub length_unhexed : (s : List ℕ) → length (unhexed s) ≡ length s / 2
unfolding unhexed
length_unhexed [] = refl
length_unhexed (a ∷ []) = refl
length_unhexed (a ∷ b ∷ rest) = omega (arith, length_unhexed rest)

-- what was put at the start is read back from there, and lies within
pub put_read : (s t vs : List ℕ) (n : ℕ) → t ≡ put s 0 vs → n ≡ length vs → n ≤ length s → (t ≡ put s 0 vs) × (cut t 0 n ≡ vs) × (n ≤ length t)
put_read s t vs n e l h = (e, rw (e, l) (cut_put s 0 vs (omega arith)), rw (e, length_put) h)

-- a word of a line that means bytes may be read: it is no longer than the line
pub word_readable : {word : List ℕ} {b : Bool} (k : ℕ) (line : List ℕ) → is_line line ≡ true → word ≡ word_at k line → b ≡ is_bytes word → not b ≡ false → (is_bytes word ≡ true) × (length word ≤ 2 * 2_048)
word_readable {b = b} k line short e test passed =
    let most = leb-true (length line) 4_096 short in
    (sym test ∙ not-false b passed, rw e (omega (arith, word_short k line)))
