-- How tests follow one another in a definition.
use Rattle.std.specs.Prelude.{Bool, true, false}

-- what follows where a test holds; what stands before it where the test fails
abbrev pub need {ℓ} : {A : Type ℓ} → Bool → A → A → A
need true failed rest = rest
need false failed rest = failed
