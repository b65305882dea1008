use Rattle.std.proofs.Common.{◌≡◌, ◌↔◌, not, IsTrue, sym, ap, subst, ◌∙◌}
use Rattle.osb_board.specs.Boards.{is_run_by, has_state, state_count}
use Rattle.osb_board.proofs.Changes.{unmet_exactly}
use Rattle.osb_board.proofs.boards.Board.is_free.Goals as goal

pub returns : goal.returns
returns g c =
    record {
      free = subst (λ runs. IsTrue (not runs) ↔ (state_count (is_run_by c.args.worker.0) c.args.self.now ≡ 0))
          (sym (c.runs_any.ensures ∙ ap (has_state (is_run_by c.args.worker.0)) (c.deref.ensures.value ∙ c.self.view_is)))
          (unmet_exactly (is_run_by c.args.worker.0) c.args.self.now);
    }
