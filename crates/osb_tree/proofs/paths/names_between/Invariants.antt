use Rattle.std.proofs.Common.{◌≡◌, ◌==◌, take, length}
use Rattle.std.specs.List.{slice_split}
use Rattle.osb_tree.proofs.PathLaws.{nonempty}
use Rattle.osb_tree.proofs.paths.names_between.Given as goal

abbrev pub invariant-loop-piece : goal.invariant-loop-piece
invariant-loop-piece l =
    (goal.iterator-loop-piece).can_next l.piece-iterator
    × (goal.iterator-loop-piece).is_finite l.piece-iterator
    × (l.names.items ≡ nonempty (take (length l.yielded) (slice_split (λ b. b == 47) l.text)))
