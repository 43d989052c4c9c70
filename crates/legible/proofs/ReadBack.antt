-- Bytes and numbers that were printed are read back as they were. Assumes nothing.
use Prim.Native.Nat.{ℕ, zero, suc, ◌+◌, ◌-◌, ◌*◌, ◌/◌, ◌%◌, ◌<◌, ◌≤◌}
use mathlib.Core.Path.{◌≡◌, refl, sym, ap, ◌∙◌}
use mathlib.Core.Bool.{Bool, true, false}
use mathlib.Core.List.{List, [], ◌∷◌, ◌++◌, append-nil, append_assoc}
use native.Mathlib.Omega.{arith}
use lib.Dec.{ltb, lit<}
use lib.ListN.{length}
use borrow.Author.Tests.{ltb-true, ltb-false, lt-ltb, le-ltb, le-leb, lt-leb}
use Rattle.octets.proofs.Laws.{same_is}
use Rattle.text.specs.Ascii.{ascii}
use Rattle.text.specs.Pages.{digit, decimal, hexadecimal}
use Rattle.text.specs.Words.{worth, number_of, nibble, are_digits, unhexed, is_stroke, is_bytes, bytes_of}
use Rattle.text.proofs.WordLaws.{number_worth}
use Rattle.legible.specs.Theorems.{Bytes}
use Rattle.legible.proofs.Spelling.{decimal_case, decimal_some, length_hexadecimal}

-- a digit of hexadecimal means the number below 16 that it was printed for
low_nibble : (c : ℕ) → 48 ≤ c → c ≤ 57 → nibble c ≡ c - 48
unfolding nibble
low_nibble c h k = rw (le-ltb c 48 h, le-leb c 57 k)

high_nibble : (c : ℕ) → 97 ≤ c → c ≤ 102 → nibble c ≡ c - 87
unfolding nibble
high_nibble c h k = rw (le-ltb c 48 (omega arith), lt-leb c 57 (omega arith), le-ltb c 65 (omega arith), lt-leb c 70 (omega arith), le-ltb c 97 h, le-leb c 102 k)

nibble_digit : (d : ℕ) → d < 16 → nibble (digit d) ≡ d
nibble_digit d h = go (ltb d 10) refl
  where
    go : (t : Bool) → ltb d 10 ≡ t → nibble (digit d) ≡ d
    go true e =
        let low = ltb-true d 10 e in
        let n : 48 + d - 48 ≡ d = omega arith in
        rw e (low_nibble (48 + d) (omega arith) (omega arith) ∙ n)
    go false e =
        let high = ltb-false d 10 e in
        let n : 87 + d - 87 ≡ d = omega arith in
        rw e (high_nibble (87 + d) (omega arith) (omega arith) ∙ n)

-- so a stroke is printed for no bytes
stroke_one : (word : List ℕ) → is_stroke word ≡ true → length word ≡ 1
unfolding ascii
stroke_one word e = ap length (same_is word (ascii "-") e)

no_stroke : (bs : List ℕ) → is_stroke (hexadecimal bs) ≡ false
no_stroke bs = go (is_stroke (hexadecimal bs)) refl
  where
    go : (t : Bool) → is_stroke (hexadecimal bs) ≡ t → t ≡ false
    go true e = absurd (omega (arith, stroke_one (hexadecimal bs) e, length_hexadecimal bs))
    go false e = refl

-- the two digits of a byte mean it again
high_digit : (b : ℕ) → b < 256 → nibble (digit (b / 16)) ≡ b / 16
high_digit b h = nibble_digit (b / 16) (omega arith)

low_digit : (b : ℕ) → nibble (digit (b % 16)) ≡ b % 16
low_digit b = nibble_digit (b % 16) (omega arith)

digits_printed : (bs : List ℕ) → Bytes bs → are_digits (hexadecimal bs) ≡ true
unfolding hexadecimal are_digits
digits_printed [] all = refl
digits_printed (b ∷ bs) all =
    let h : b < 256 = all 0 in
    rw (high_digit b h, low_digit b, lt-ltb (b / 16) 16 (omega arith), lt-ltb (b % 16) 16 (omega arith))
    (digits_printed bs (λ i. all (suc i)))

unhexed_printed : (bs : List ℕ) → Bytes bs → unhexed (hexadecimal bs) ≡ bs
unfolding hexadecimal unhexed
unhexed_printed [] all = refl
unhexed_printed (b ∷ bs) all =
    let e : b / 16 * 16 + b % 16 ≡ b = omega arith in
    rw (high_digit b (all 0), low_digit b, e, unhexed_printed bs (λ i. all (suc i)))

pub hexadecimal_back : (bs : List ℕ) → Bytes bs → (is_bytes (hexadecimal bs) ≡ true) × (bytes_of (hexadecimal bs) ≡ bs)
unfolding is_bytes bytes_of
hexadecimal_back bs all =
    let even : length (hexadecimal bs) % 2 ≡ 0 = omega (arith, length_hexadecimal bs) in
    (rw (no_stroke bs, even, digits_printed bs all), rw (no_stroke bs) (unhexed_printed bs all))

-- one digit more makes ten times the number, and the digit
worth_digit : (n d : ℕ) (rest : List ℕ) → n < 100_000_000_000_000_000 → d < 10 → worth n (digit d ∷ rest) ≡ worth (n * 10 + d) rest
unfolding worth
worth_digit n d rest few h =
    let e : 48 + d - 48 ≡ d = omega arith in
    rw (lt-ltb d 10 h, le-leb 48 (48 + d) (omega arith), le-leb (48 + d) 57 (omega arith), lt-ltb n _ few, e)

-- what is printed of a number makes it, whatever comes behind; the first argument bounds the number
worth_decimal : (bound n : ℕ) (rest : List ℕ) → n < bound → n < 1_000_000_000_000_000_000 → worth 0 (decimal n ++ rest) ≡ worth n rest
worth_decimal zero n rest b h = absurd (omega arith)
worth_decimal (suc bound) n rest b h =
    decimal_case (λ (text : List ℕ). worth 0 (text ++ rest) ≡ worth n rest) n
    (λ low. let e : 0 * 10 + n ≡ n = omega arith in worth_digit 0 n rest (lit< tt) low ∙ ap (λ (k : ℕ). worth k rest) e)
    (λ high.
    let e : n / 10 * 10 + n % 10 ≡ n = omega arith in
    rw (append_assoc, worth_decimal bound (n / 10) (digit (n % 10) ∷ rest) (omega arith) (omega arith), worth_digit (n / 10) (n % 10) rest (omega arith) (omega arith), e))

pub decimal_back : (n : ℕ) → n < 1_000_000_000_000_000_000 → number_of (decimal n) ≡ n
unfolding worth
decimal_back n h =
    number_worth (decimal n) (λ e. omega (arith, decimal_some n))
    ∙ ap (worth 0) (sym (append-nil (decimal n))) ∙ worth_decimal (suc n) n [] (omega arith) h
