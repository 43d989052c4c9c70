use Rattle.writing.proofs.Written.{lengths, put_behind}
use Rattle.writing.proofs.put_head.Goals as goal

pub returns : goal.returns
returns c = put_behind _ _ _ _ c.put.ensures c.put-2.ensures (simp lengths)
