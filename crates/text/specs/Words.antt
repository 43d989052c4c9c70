-- The words of a line, and what a word means as a number or as bytes.
use Rattle.std.specs.Prelude.{ℕ, zero, suc, ◌+◌, ◌-◌, ◌*◌, ◌%◌, Bool, true, false, ◌&&◌, ◌||◌, not, cond, List, [], ◌∷◌, length, take, drop, leb, ltb, eqb, Option, Some, None}
use Rattle.octets.specs.Octets.{same}
use Rattle.octets.specs.Tests.{need}
use Rattle.text.specs.Ascii.{ascii}

-- a blank: space, tab or carriage return
abbrev pub is_blank : ℕ → Bool
is_blank b = eqb b 32 || (eqb b 9 || eqb b 13)

-- whether a byte is a blank, or is none
abbrev pub is_kind : Bool → ℕ → Bool
is_kind blank b = cond (is_blank b) blank (not blank)

-- how many bytes at the front are blanks, or are none
unfoldable pub leading : Bool → List ℕ → ℕ
leading blank [] = 0
leading blank (b ∷ bs) = need (is_kind blank b) 0 (suc (leading blank bs))

-- a line without the blanks at its front
abbrev pub unblanked : List ℕ → List ℕ
unblanked line = drop (leading true line) line

-- the first word of a line, empty where it has none
abbrev pub first_word : List ℕ → List ℕ
first_word line = take (leading false (unblanked line)) (unblanked line)

-- what stands behind the first word
abbrev pub behind_word : List ℕ → List ℕ
behind_word line = drop (leading false (unblanked line)) (unblanked line)

-- the words of a line, counted from 0; empty where it has not so many
unfoldable pub word_at : ℕ → List ℕ → List ℕ
word_at zero line = first_word line
word_at (suc k) line = word_at k (behind_word line)

-- a line of n words; none is one of 0
abbrev pub has_words : ℕ → List ℕ → Bool
has_words n line = ltb 0 (length (word_at (n - 1) line)) && eqb (length (word_at n line)) 0

-- what a word means that is no number: out of every range
abbrev pub no_number : ℕ
no_number = 18_446_744_073_709_551_615

-- the number that decimal digits go on to make; none has more than eighteen places, leading zeros apart
unfoldable pub worth : ℕ → List ℕ → ℕ
worth n [] = n
worth n (d ∷ ds) =
    need (leb 48 d) no_number
    (need (leb d 57) no_number
    (need (ltb n 100_000_000_000_000_000) no_number
    (worth (n * 10 + (d - 48)) ds)))

-- a word as a number
unfoldable pub number_of : List ℕ → ℕ
number_of word = need (ltb 0 (length word)) no_number (worth 0 word)

-- and the number alone, where it is one
abbrev pub decimal_of : List ℕ → Option ℕ
decimal_of word = cond (eqb (number_of word) no_number) None (Some (number_of word))

-- the value of a hexadecimal digit, or 16
unfoldable pub nibble : ℕ → ℕ
nibble c =
    cond (ltb c 48) 16
    (cond (leb c 57) (c - 48)
    (cond (ltb c 65) 16
    (cond (leb c 70) (c - 55)
    (cond (ltb c 97) 16
    (cond (leb c 102) (c - 87)
    16)))))

-- and the value alone, where it is one
abbrev pub nibble_of : ℕ → Option ℕ
nibble_of c = cond (ltb (nibble c) 16) (Some (nibble c)) None

-- all are hexadecimal digits
unfoldable pub are_digits : List ℕ → Bool
are_digits [] = true
are_digits (c ∷ cs) = ltb (nibble c) 16 && are_digits cs

-- the bytes that pairs of hexadecimal digits mean
unfoldable pub unhexed : List ℕ → List ℕ
unhexed [] = []
unhexed (a ∷ []) = []
unhexed (a ∷ b ∷ rest) = (nibble a * 16 + nibble b) ∷ unhexed rest

-- no bytes at all are written as one stroke
abbrev pub is_stroke : List ℕ → Bool
is_stroke word = same word (ascii "-")

-- whether a word means bytes
unfoldable pub is_bytes : List ℕ → Bool
is_bytes word = is_stroke word || (eqb (length word % 2) 0 && are_digits word)

-- a word as bytes
unfoldable pub bytes_of : List ℕ → List ℕ
bytes_of word = cond (is_stroke word) [] (unhexed word)

-- a line has at most 4,096 bytes
abbrev pub is_line : List ℕ → Bool
is_line line = leb (length line) 4_096

-- a text as a line, where it is one
abbrev pub line_of : List ℕ → Option (List ℕ)
line_of text = cond (is_line text) (Some text) None

-- where the first line ends: the place of its line feed, or the length where there is none
unfoldable pub line_end : List ℕ → ℕ
line_end [] = 0
line_end (b ∷ bs) = cond (eqb b 10) 0 (suc (line_end bs))

-- what stands behind the first line and its line feed
abbrev pub behind_line : List ℕ → List ℕ
behind_line s = drop (line_end s + 1) s

-- the lines of a text, counted from 0; empty where it has not so many
unfoldable pub line_at : ℕ → List ℕ → List ℕ
line_at zero s = take (line_end s) s
line_at (suc k) s = line_at k (behind_line s)
