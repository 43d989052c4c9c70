-- What is printed can be read: no answer is cut off, and numbers and bytes that were printed are read back as they were.
use Rattle.std.specs.Prelude.{ℕ, ◌+◌, ◌<◌, ◌≤◌, true, ◌≡◌, List, ◌++◌, length, get_or}
use Rattle.octets.specs.Octets.{put}
use Rattle.text.specs.Ascii.{ascii}
use Rattle.text.specs.Pages.{Page, page, decimal, hexadecimal}
use Rattle.text.specs.Words.{number_of, is_bytes, bytes_of}
use Rattle.lines.specs.Calls.{machine_line, ledger_line, Desk}
use Rattle.lines.specs.Serving.{reply_of, answered, has_room}
use Rattle.lines.specs.declared.serving.Role.{Role}

-- each is a byte
abbrev pub Bytes : List ℕ → Type 0
Bytes bs = (i : ℕ) → get_or bs i 0 < 256

-- a page with all of a text behind what stands there
abbrev pub behind : Page → List ℕ → Page
behind p text = page (put p.bytes p.length text) (p.length + length text)

-- what is promised of printed text
pub record Legible : Type 0 where
  -- bytes that were printed in hexadecimal are read back
  pub hexadecimal_back : (bs : List ℕ) → Bytes bs → (is_bytes (hexadecimal bs) ≡ true) × (bytes_of (hexadecimal bs) ≡ bs)
  -- a number that was printed is read back, up to eighteen places
  pub decimal_back : (n : ℕ) → n < 1_000_000_000_000_000_000 → number_of (decimal n) ≡ n
  -- no answer has more than 255 bytes, whatever the bytes of the state and the line are
  pub machine_short : (s line : List ℕ) → length (machine_line s line).text ≤ 255
  pub ledger_short : (s line : List ℕ) → Bytes s → length (ledger_line s line).text ≤ 255
  -- so where the page has room, all of the answer stands on it, and its line feed
  pub whole : (role : Role) (d : Desk) (line : List ℕ) → Bytes d.state → has_room d.page ≡ true
      → (answered role d line).page ≡ behind d.page ((reply_of role d.state line).text ++ ascii "\n")
