-- 01, Messages, the first paragraph. A field is a tag byte, a two-byte length and a value.
-- Fields come in the order given, each once (votes excepted), with nothing after the last.
use Rattle.std.specs.Prelude.{ℕ, zero, suc, ◌+◌, Bool, true, false, ◌&&◌, cond, List, [], ◌∷◌, ◌++◌, length, leb, eqb, Option, Some, None}
use Rattle.std.specs.Borrow.{Bor}
use Rattle.octets.specs.Octets.{one, two, number, bytes}
use Rattle.octets.specs.Tests.{need}
use Rattle.wire.specs.Numbers.{is_message}
use Rattle.wire.specs.declared.fields.Reader.{Reader}

-- the bytes of a field
abbrev pub field : ℕ → List ℕ → List ℕ
field tag value = bytes one tag ++ (bytes two (length value) ++ value)

-- what a message has next: a field with this tag and a value of `least` to `most` bytes, or `many` of them up to its end
pub record Want : Type 0 where
  pub tag : ℕ
  pub least : ℕ
  pub most : ℕ
  pub many : Bool

-- one field with a value of `least` to `most` bytes
abbrev pub want : ℕ → ℕ → ℕ → Want
want tag least most = record { tag = tag; least = least; most = most; many = false }

-- any number of fields with a value of `size` bytes, up to the end of the message
abbrev pub want_all : ℕ → ℕ → Want
want_all tag size = record { tag = tag; least = size; most = size; many = true }

-- the place that no message has: where a field was not as laid down
abbrev pub lost : ℕ
lost = 18_446_744_073_709_551_615

-- the length that the field at `at` says
abbrev pub size : List ℕ → ℕ → ℕ
size m at = number two m (at + 1)

-- the place after the field at `at`: it has this tag, a length from `least` to `most`, and lies whole in the message
unfoldable pub past : List ℕ → ℕ → ℕ → ℕ → ℕ → ℕ
past m at tag least most =
    need (leb (at + 3) (length m)) lost
    (need (eqb (number one m at) tag) lost
    (need (leb least (size m at)) lost
    (need (leb (size m at) most) lost
    (need (leb (at + 3 + size m at) (length m)) lost
    (at + 3 + size m at)))))

-- the place after all such fields from `at` on, which is the end of the message; n bounds their number
unfoldable pub past_all : ℕ → List ℕ → ℕ → ℕ → ℕ → ℕ → ℕ
past_all zero m at tag least most = need (eqb at (length m)) lost at
past_all (suc n) m at tag least most = cond (eqb at (length m)) at (past_all n m (past m at tag least most) tag least most)

-- the place after what is wanted at `at`
unfoldable pub after : List ℕ → ℕ → Want → ℕ
after m at w =
    cond w.many
    (past_all (length m) m at w.tag w.least w.most)
    (past m at w.tag w.least w.most)

-- the place after a list of fields
unfoldable pub ends : List ℕ → ℕ → List Want → ℕ
ends m at [] = at
ends m at (w ∷ ws) = ends m (after m at w) ws

-- tags, lengths and the end are as laid down, and the message is not too long
unfoldable pub laid : List ℕ → List Want → Bool
laid m fields = is_message (length m) && eqb (ends m 0 fields) (length m)

-- a reader holds the message and its place in it
abbrev pub reader_at : Bor (List ℕ) → ℕ → Reader
reader_at m at = record { message = m; at = at }

-- a reader of m that has reached a place, and none at the lost place
unfoldable pub reached : Bor (List ℕ) → ℕ → Option Reader
reached m at = cond (eqb at lost) None (Some (reader_at m at))
