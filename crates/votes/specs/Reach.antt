-- Where votes stand in bytes.
use Rattle.std.specs.Prelude.{ℕ, ◌+◌, ◌*◌, ◌<◌, ◌≤◌, List, length}
use Rattle.wire.specs.Votes.{signers}
use Rattle.votes.specs.declared.Votes.{Votes}

-- the machine number of each of the first n votes lies within the bytes
abbrev pub Reaches : Votes → ℕ → Type 0
Reaches votes n = (votes.place + votes.step * n < length votes.bytes.now + votes.step) × (votes.step ≤ 68)

-- the machine numbers of the first n votes
abbrev pub machines_of : Votes → ℕ → List ℕ
machines_of votes n = signers votes.bytes.now votes.place votes.step n
