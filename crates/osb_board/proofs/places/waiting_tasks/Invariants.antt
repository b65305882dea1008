use Rattle.std.proofs.Common.{◌≡◌, take}
use Rattle.osb_board.specs.Boards.{new_board}
use Rattle.osb_board.proofs.places.waiting_tasks.Given as goal

-- the tasks so far wait, and have the dependencies of the lists so far
abbrev pub invariant-loop-list : goal.invariant-loop-list
invariant-loop-list g l = l.tasks.items ≡ new_board (take l.list-index l.deps)
