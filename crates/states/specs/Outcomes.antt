-- 01, Refusal numbers: what a call on a state answers, and every byte of the state afterwards. A refusal changes nothing.
use Rattle.std.specs.Prelude.{ℕ, List, [], eqb, Result}
use Rattle.octets.specs.Tests.{need}
use Rattle.wire.specs.Refusals.{Said, gives, refuses, said}
use Rattle.wire.specs.declared.answers.Refusal.{Refusal}

-- an answer, and the state afterwards
pub record Outcome : Type 0 where
  pub answer : Said
  pub state : List ℕ

-- the two together, as a contract states them
abbrev pub outcome : Said → List ℕ → Outcome
outcome said s = record { answer = said; state = s }

-- a refusal changes nothing
abbrev pub refused : ℕ → List ℕ → Outcome
refused n s = outcome (refuses n) s

-- what follows an answer with values; a refusal is passed on, and changes nothing
abbrev pub unless : Said → List ℕ → Outcome → Outcome
unless said s rest = need (eqb said.number 0) (refused said.number s) rest

-- it was done: nothing more to say
abbrev pub done : Said
done = gives []

-- the answer on making a fresh state
abbrev pub fresh_said : Result (Unit {0}) Refusal → Said
fresh_said = said (λ _. [])
