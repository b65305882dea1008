use Rattle.std.proofs.Common.{◌≡◌, take}
use Rattle.std.specs.List.{AllZip, count_by}
use Rattle.osb_answers.specs.Exports.{RoseBy}
use Rattle.osb_top.specs.Readings.{IsCutGiven}
use Rattle.osb_top.specs.Wholes.{is_fault}
use Rattle.osb_top.proofs.runs.read_all.Given as goal

-- the names so far, and the reads that failed
abbrev pub invariant-loop-name : goal.invariant-loop-name
invariant-loop-name g l =
    let Shelf = g.H.Shelf in
    record {
      given : AllZip (IsCutGiven (Shelf.files l.fn.shelf)) (take l.name-index l.names) l.reads.items;
      faults : RoseBy (count_by is_fault l.reads.items) (record { before = Shelf.shelf_faults l.fn.shelf; now = Shelf.shelf_faults l.shelf });
      files : Shelf.files l.shelf ≡ Shelf.files l.fn.shelf;
    }
