use mathlib.Core.Path.{sym, ◌∙◌}
use native.Mathlib.Omega.{arith}
use Rattle.octets.proofs.Laws.{length_bytes}
use Rattle.writing.proofs.Written.{put_value, width_size, width_most}
use Rattle.writing.proofs.put_number.Goals as goal

pub put_head-requires : goal.put_head-requires
put_head-requires g c = rw (width_size _ c.requires.0) (omega arith, c.requires.2, omega (arith, width_most _ c.requires.0))

pub returns : goal.returns
returns g c = put_value _ _ _ _ c.put_head.ensures c.put.ensures (length_bytes _ _ ∙ sym (width_size _ c.requires.0))
