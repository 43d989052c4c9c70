use Rattle.std.proofs.Common.{◌≡◌, length, length-append, arith, add_assoc}
use Rattle.octets.proofs.Laws.{put_append, length_bytes}
use Rattle.records.specs.Records.{head_bytes, record_bytes}
use Rattle.records.proofs.record.Record.write.Goals as goal

pub returns : goal.returns
unfolding record_bytes head_bytes
returns c = let n : length c.args.self.pending ≡ 57 = omega arith in simp (put_append, length-append, length_bytes, n, add_assoc, ← c.place-at.ensures.0) cc
