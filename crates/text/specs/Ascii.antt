-- Text as bytes.
use Rattle.std.specs.Prelude.{ℕ, List, [] as nothing, ◌∷◌ as ◌then◌}
use Prim.Native.Char.{code}
use Prim.Native.String.{String, [], ◌∷◌}

-- the bytes of a text, one for each character
unfoldable pub ascii : String → List ℕ
ascii [] = nothing
ascii (c ∷ rest) = code c then ascii rest
