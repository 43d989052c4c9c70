use mathlib.Core.Path.{refl}
use Rattle.writing.proofs.Written.{put_value}
use Rattle.writing.proofs.put_part.Goals as goal

pub returns : goal.returns
returns c = put_value _ _ _ _ c.put_head.ensures c.put_bytes.ensures refl
