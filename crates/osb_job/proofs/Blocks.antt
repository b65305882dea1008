-- How a worker's block goes on.
use Rattle.std.proofs.Common.{◌≡◌, Some, refl, sym, ap, subst, ◌∙◌}
use Rattle.std.proofs.lemmas.List.Sums.{fold_push}
use Rattle.std.proofs.lemmas.Option.{same_Some}
use Rattle.osb_tree.specs.declared.numbers.TaskNo.{TaskNo}
use Rattle.osb_tree.specs.declared.numbers.WorkerNo.{WorkerNo}
use Rattle.osb_job.specs.declared.actions.Action.{Action}
use Rattle.osb_job.specs.declared.actions.Reply.{Reply}
use Rattle.osb_job.specs.declared.entries.Entry.{Entry}
use Rattle.osb_job.specs.declared.entries.Event.{Event}
use Rattle.osb_job.specs.declared.entries.Event.TheVariants as events
use Rattle.osb_job.specs.Scripts.{Hand, free, reads, fills, Progress, idle, busy, over, one_more, turn, progress_of}
use Rattle.osb_job.specs.Allowed.{Part, IsBusy}
use Rattle.osb_job.specs.Moves.{event_of, puts_of, Moves}

-- what is in hand after an event of a block
abbrev pub hand_after : Event → Hand → Hand
hand_after (events.Hit key) hand = reads key 0
hand_after (events.Read key place) hand = one_more hand
hand_after (events.Unpin key) hand = free
hand_after (events.Room key evicted) hand = fills key 0
hand_after (events.Put key place) hand = one_more hand
hand_after (events.Commit key) hand = free
hand_after (events.Drop key) hand = free
hand_after event hand = hand

-- the event neither begins nor ends a block
abbrev pub GoesOn : Event → Type 0
GoesOn (events.Claim task) = ⊥
GoesOn events.Over = ⊥
GoesOn (events.Done task word) = ⊥
GoesOn event = Unit {0}

abbrev IsIn : Progress → TaskNo → Hand → Type 0
IsIn idle task hand = ⊥
IsIn (busy block) task hand = (block.task ≡ task) × (block.hand ≡ hand)
IsIn over task hand = ⊥

turned : (progress : Progress) (event : Event) (task : TaskNo) (hand : Hand) → GoesOn event → IsIn progress task hand → IsIn (turn progress event) task (hand_after event hand)
turned idle event task hand on is = absurd is
turned over event task hand on is = absurd is
turned (busy block) (events.Claim other) task hand on is = absurd on
turned (busy block) events.Over task hand on is = absurd on
turned (busy block) (events.Fetch dep word) task hand on is = is
turned (busy block) (events.Hit key) task hand on is = (is.0, refl)
turned (busy block) events.Miss task hand on is = is
turned (busy block) (events.Read key place) task hand on is = (is.0, ap one_more is.1)
turned (busy block) (events.Unpin key) task hand on is = (is.0, refl)
turned (busy block) (events.Room key evicted) task hand on is = (is.0, refl)
turned (busy block) (events.Already key) task hand on is = is
turned (busy block) (events.TooLarge key) task hand on is = is
turned (busy block) (events.Full key) task hand on is = is
turned (busy block) (events.Put key place) task hand on is = (is.0, ap one_more is.1)
turned (busy block) (events.Commit key) task hand on is = (is.0, refl)
turned (busy block) (events.Drop key) task hand on is = (is.0, refl)
turned (busy block) (events.Done other word) task hand on is = absurd on

busy_from : (part : Part) (progress : Progress) (task : TaskNo) (hand : Hand) → progress_of part.mine ≡ progress → IsIn progress task hand → IsBusy part task hand
busy_from part idle task hand at is = absurd is
busy_from part (busy block) task hand at is = record { block = block; at = at; task_is = is.0; hand_is = is.1 }
busy_from part over task hand at is = absurd is

-- the worker is as far as the event takes it
pub progress_on : (worker : WorkerNo) (action : Action) (reply : Reply) (part part' : Part) (event : Event) → event_of (puts_of part) action reply ≡ Some event → Moves worker action reply part part' → progress_of part'.mine ≡ turn (progress_of part.mine) event
progress_on worker action reply part part' event is moves =
    let same : moves.event ≡ event = same_Some moves.event event (sym moves.is ∙ is) in
    ap progress_of moves.mine
    ∙ fold_push (λ (progress : Progress) (entry : Entry). turn progress entry.event) idle part.mine (record { worker = worker; event = moves.event })
    ∙ ap (turn (progress_of part.mine)) same

-- and still in its block
pub busy_on : (worker : WorkerNo) (action : Action) (reply : Reply) (part part' : Part) (event : Event) (task : TaskNo) (hand : Hand) → event_of (puts_of part) action reply ≡ Some event → GoesOn event → Moves worker action reply part part'
    → IsBusy part task hand → IsBusy part' task (hand_after event hand)
busy_on worker action reply part part' event task hand is on moves was =
    let began : IsIn (progress_of part.mine) task hand = subst (λ (p : Progress). IsIn p task hand) (sym was.at) (was.task_is, was.hand_is) in
    busy_from part' (turn (progress_of part.mine) event) task (hand_after event hand) (progress_on worker action reply part part' event is moves) (turned (progress_of part.mine) event task hand on began)
