-- The bytes that a word means, where it means bytes, and the word itself.
use Rattle.std.specs.Prelude.{◌≡◌, ◌≤◌, true, false, List, ℕ, length, Option, Some, None}
use Rattle.text.specs.Words.{is_bytes, bytes_of}
use Rattle.std.specs.Borrow.{Bor}

-- the very bytes, and none only where it means none
abbrev pub Means : Option (Bor (List ℕ)) → List ℕ → Type 0
Means (Some bytes) word = (is_bytes word ≡ true) × (bytes.now ≡ bytes_of word)
Means None word = is_bytes word ≡ false

-- the word itself, which has no more digits than a line has bytes, and none only where it means no bytes
abbrev pub Readable : Option (Bor (List ℕ)) → List ℕ → Type 0
Readable (Some digits) word = (is_bytes word ≡ true) × (digits.now ≡ word) × (length word ≤ 4_096)
Readable None word = is_bytes word ≡ false
