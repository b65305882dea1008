use Rattle.std.proofs.Common.{◌≤◌, ◌+◌, ◌++◌, take, option_copied}
use Rattle.osb_tree.specs.Trees.{Listing}
use Rattle.osb_tree.specs.Chunks.{BeginsATree}
use Rattle.osb_tree.specs.Readings.{IsRead}
use Rattle.osb_tree.proofs.readings.count_fitting.Given as goal

abbrev pub invariant-loop-i : goal.invariant-loop-i
invariant-loop-i l =
    (l.total ≤ 268435456)
    × ((read : Listing) → IsRead read (option_copied l.last) l.count l.size → BeginsATree read
    → IsRead (read ++ take l.i l.pairs) (option_copied l.before) (l.count + l.i) l.total × BeginsATree (read ++ take l.i l.pairs))
