-- The script's actions keep a state true.
use Rattle.std.proofs.Common.{◌≡◌, Bool, Some, ◌∙◌}
use Rattle.osb_tree.specs.declared.numbers.WorkerNo.{WorkerNo}
use Rattle.osb_recipe.specs.Plans.{IsSound}
use Rattle.osb_recipe.specs.Tables.{IsTable}
use Rattle.osb_recipe.specs.declared.plans.Plan.{Plan}
use Rattle.osb_job.specs.declared.actions.Action.{Action}
use Rattle.osb_job.specs.Scripts.{next}
use Rattle.osb_job.proofs.NextAllowed.{next_is_allowed}
use Rattle.osb_state.specs.States.{State, progress_in, part, Allows}
use Rattle.osb_state.specs.Truth.{IsTrueState, TrueStays}
use Rattle.osb_state.proofs.Boards.{deps_stay}
use Rattle.osb_state.proofs.ValidMoves.{valid_stays}
use Rattle.osb_state.proofs.Said.{says}
use Rattle.osb_state.proofs.TrueParts.{true_part}
use Rattle.osb_state.proofs.TrueCaches.{lines_stay, drafts_stay}
use Rattle.osb_state.proofs.TrueEnds.{keeps_ends}
use Rattle.osb_state.proofs.TrueTold.{told_stay}

pub true_allows : (plan : Plan) (state : State) (worker : WorkerNo) (off : Bool) (action : Action) → IsSound plan → IsTable plan.table → IsTrueState plan state → next plan (progress_in state worker) off ≡ Some action → Allows state worker action
true_allows plan state worker off action sound table s is = next_is_allowed plan (part state worker) off action sound table (true_part plan state worker s) is

pub true_stays : TrueStays
true_stays plan state worker off action sound table s is =
    let can = true_allows plan state worker off action sound table s is in
    let said = says plan (progress_in state worker) off action is in
    let keeps = keeps_ends plan state worker action sound table s can said in
    record {
      valid = valid_stays state worker action s.valid can;
      deps = deps_stay state.board worker action ∙ s.deps;
      marked = s.marked;
      keys = s.keys;
      entries = lines_stay plan state worker action s can;
      drafts = drafts_stay plan state worker action s said;
      ends = keeps.ends s.ends;
      told = told_stay plan state worker s action said keeps;
    }
