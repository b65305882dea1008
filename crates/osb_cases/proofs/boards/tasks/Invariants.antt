use Rattle.osb_board.specs.Boards.{AreLower}
use Rattle.osb_cases.proofs.boards.tasks.Given as goal

abbrev pub invariant-loop-place : goal.invariant-loop-place
invariant-loop-place l = AreLower l.tasks.items
