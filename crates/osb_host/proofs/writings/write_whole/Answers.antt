use Rattle.std.proofs.Common.{◌++◌, take}
use Rattle.osb_host.proofs.Rests.{done-front, Appends-append}
use Rattle.osb_host.proofs.writings.write_whole.Goals as goal

pub loop-preserved : goal.loop-preserved
loop-preserved g c =
    let (done, split, appended) = c.loop.invariant in
    let rest = c.loop.rest.now in
    let count = c.in_ok-count.count in
    (done ++ take count rest, done-front _ done rest count split, Appends-append _ _ _ _ _ appended c.in_ok-count.ensures.bytes)
