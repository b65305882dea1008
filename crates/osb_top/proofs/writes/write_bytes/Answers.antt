use Rattle.std.proofs.Common.{refl, arith}
use Rattle.osb_top.proofs.Writing.{stopped_written}
use Rattle.osb_top.proofs.writes.write_bytes.Goals as goal

pub returns-else-write_all-text : goal.returns-else-write_all-text
returns-else-write_all-text g c =
    stopped_written _ c.args.text.now c.args.text.now c.write_all.result _ refl
    c.write_all.ensures.taken (c.write_all.ensures.stopped (omega arith))
