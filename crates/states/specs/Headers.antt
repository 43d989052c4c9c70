-- 01, States: both states start with f, one byte more, and the last funding index.
use Rattle.std.specs.Prelude.{ℕ, ◌-◌, List, ◌++◌, replicate}
use Rattle.octets.specs.Octets.{one, two, number, bytes, put}

-- f
abbrev pub faults_in : List ℕ → ℕ
faults_in s = number one s 0

-- the last funding index
abbrev pub last_index : List ℕ → ℕ
last_index s = number two s 2

-- the state with another one
abbrev pub with_index : List ℕ → ℕ → List ℕ
with_index s index = put s 2 (bytes two index)

-- f and zeros, n bytes in all
abbrev pub fresh_bytes : ℕ → ℕ → List ℕ
fresh_bytes n f = bytes one f ++ replicate (n - 1) 0
