-- What is noted of a state that was saved.
use Rattle.std.specs.Prelude.{ℕ, List, leb, length}
use Rattle.octets.specs.Octets.{put}
use Rattle.octets.specs.Tests.{need}

-- the state, over what was noted before; one that is longer is not noted
abbrev pub noted : List ℕ → List ℕ → List ℕ
noted state before = need (leb (length state) (length before)) before (put before 0 state)
