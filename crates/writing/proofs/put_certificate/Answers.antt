use native.Mathlib.Omega.{arith}
use Rattle.wire.specs.Votes.{certificate_bytes}
use Rattle.writing.proofs.Written.{lengths, put_behind}
use Rattle.writing.proofs.put_certificate.Goals as goal

pub returns : goal.returns
unfolding certificate_bytes
returns c = put_behind _ _ _ _ c.put_part.ensures c.put_votes.ensures (simp lengths (omega arith))
