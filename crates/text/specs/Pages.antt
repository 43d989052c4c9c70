-- Text written behind one another, and how numbers and bytes are spelled.
use Rattle.std.specs.Prelude.{ℕ, ◌≡◌, zero, suc, ◌+◌, ◌-◌, ◌/◌, ◌%◌, cond, List, [], ◌∷◌, ◌++◌, length, take, ltb, ℤ, pos, negsuc}
use Rattle.octets.specs.Octets.{put}
use Rattle.text.specs.Ascii.{ascii}
use Rattle.text.specs.declared.page.Page.{Page as LentPage}

-- bytes, of which the first are text
pub record Page : Type 0 where
  pub bytes : List ℕ
  pub length : ℕ

-- the two together, as a contract states them
abbrev pub page : List ℕ → ℕ → Page
page bytes n = record { bytes = bytes; length = n }

-- as much of a text as there is room for behind what stands on the page
abbrev pub fitting : Page → List ℕ → List ℕ
fitting p text = take (length p.bytes - p.length) text

-- the page with a text behind what stands there; what does not fit is left out
unfoldable pub said : Page → List ℕ → Page
said p text = page (put p.bytes p.length (fitting p text)) (p.length + length (fitting p text))

-- the same lent bytes, with a text behind what stood on them
abbrev pub Says : LentPage → LentPage → List ℕ → Type 0
Says before after text =
    (after.bytes.ghost_name ≡ before.bytes.ghost_name) × (page after.bytes.now after.length ≡ said (page before.bytes.now before.length) text)

-- a digit of a number below 16: 0 to 9, a to f
abbrev pub digit : ℕ → ℕ
digit d = cond (ltb d 10) (48 + d) (87 + d)

-- the decimal digits of a number, without leading zeros; the first argument bounds how many there are
unfoldable pub spelled : ℕ → ℕ → List ℕ
spelled zero n = []
spelled (suc places) n = cond (ltb n 10) (digit n ∷ []) (spelled places (n / 10) ++ (digit (n % 10) ∷ []))

-- no number has more digits than one above itself
abbrev pub decimal : ℕ → List ℕ
decimal n = spelled (suc n) n

-- how far a number is from 0
abbrev pub magnitude : ℤ → ℕ
magnitude (pos n) = n
magnitude (negsuc n) = suc n

-- with a sign where it is negative
abbrev pub signed : ℤ → List ℕ
signed (pos n) = decimal n
signed (negsuc n) = ascii "-" ++ decimal (suc n)

-- bytes in hexadecimal, two digits each
unfoldable pub hexadecimal : List ℕ → List ℕ
hexadecimal [] = []
hexadecimal (b ∷ bs) = digit (b / 16) ∷ digit (b % 16) ∷ hexadecimal bs
