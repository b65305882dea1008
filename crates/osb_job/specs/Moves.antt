-- How a worker's own part changes by its own actions, and what a job can come to.
use Rattle.std.specs.Prelude.{◌≡◌, ℕ, ◌⊎◌, Bool, true, false, List, [], ◌∷◌, ◌++◌, length, map, slice_get, Option, Some, None, option_map, option_and_then}
use Rattle.std.specs.Option.{option_map_or}
use Rattle.osb_tree.specs.Trees.{Listing}
use Rattle.osb_tree.specs.declared.numbers.Key.{Key}
use Rattle.osb_tree.specs.declared.numbers.WorkerNo.{WorkerNo}
use Rattle.osb_recipe.specs.Meanings.{meant}
use Rattle.osb_recipe.specs.declared.outcomes.Outcome.{Outcome}
use Rattle.osb_recipe.specs.declared.outcomes.Outcome.TheVariants as outcomes
use Rattle.osb_recipe.specs.declared.plans.Plan.{Plan}
use Rattle.osb_board.specs.declared.tasks.Claim.TheVariants as claims
use Rattle.osb_cache.specs.Caches.{Draft, new_draft, with_chunk}
use Rattle.osb_cache.specs.declared.answers.Look.{Look}
use Rattle.osb_cache.specs.declared.answers.Look.TheVariants as looks
use Rattle.osb_cache.specs.declared.answers.Reserve.{Reserve}
use Rattle.osb_cache.specs.declared.answers.Reserve.TheVariants as reserves
use Rattle.osb_job.specs.declared.actions.Action.{Action}
use Rattle.osb_job.specs.declared.actions.Action.TheVariants as actions
use Rattle.osb_job.specs.declared.actions.Reply.{Reply}
use Rattle.osb_job.specs.declared.actions.Reply.TheVariants as replies
use Rattle.osb_job.specs.declared.entries.Event.{Event}
use Rattle.osb_job.specs.declared.entries.Event.TheVariants as events
use Rattle.osb_job.specs.declared.places.Place.{Place}
use Rattle.osb_job.specs.declared.places.Place.TheVariants.{Outside, Fetching, Looking, Reading}
use Rattle.osb_job.specs.Scripts.{Progress, idle, turn, word_of, chain_at, chunks_meant}
use Rattle.osb_job.specs.Allowed.{Part}
use Rattle.osb_job.specs.Jobs.{wants, asked, taken, refused, Fits, IsPlace}

-- ---- the entry of an action and its reply

abbrev pub look_event : Look → Event
look_event (looks.Hit place key count) = events.Hit key
look_event looks.Miss = events.Miss

abbrev pub reserve_event : Key → Reserve → Event
reserve_event key (reserves.Room evicted) = events.Room key evicted
reserve_event key reserves.Already = events.Already key
reserve_event key reserves.TooLarge = events.TooLarge key
reserve_event key reserves.Full = events.Full key

-- where so many chunks were put before; an idle claim is no entry
abbrev pub event_of : ℕ → Action → Reply → Option Event
event_of puts actions.Claim (replies.Claimed (claims.Task task)) = Some (events.Claim task)
event_of puts actions.Claim (replies.Claimed claims.Over) = Some events.Over
event_of puts (actions.Fetch dep) (replies.Fetched outcome) = Some (events.Fetch dep (word_of outcome))
event_of puts (actions.Look task) (replies.Looked look) = Some (look_event look)
event_of puts (actions.Read key place) (replies.Chunk chunk) = Some (events.Read key place)
event_of puts (actions.Unpin key) replies.Plain = Some (events.Unpin key)
event_of puts (actions.Reserve key size count) (replies.Reserved reserve) = Some (reserve_event key reserve)
event_of puts (actions.Put key chunk) replies.Plain = Some (events.Put key puts)
event_of puts (actions.Commit key) replies.Plain = Some (events.Commit key)
event_of puts (actions.Drop key) replies.Plain = Some (events.Drop key)
event_of puts (actions.Done task outcome) replies.Plain = Some (events.Done task (word_of outcome))
event_of puts action reply = None

-- ---- the own part after an action of its worker

-- nothing of what is pinned and staged has changed
pub record HoldsOn (part part' : Part) : Type 0 where
  pub draft : part'.draft ≡ part.draft
  pub chunks : part'.chunks ≡ part.chunks

-- an entry of so many chunks is pinned
pub record Pins (count : ℕ) (part part' : Part) : Type 0 where
  pub draft : part'.draft ≡ part.draft
  pub pinned : List Listing
  pub chunks : part'.chunks ≡ Some pinned
  pub count_is : length pinned ≡ count

-- the chunk is the one of this place of the pinned entry
pub record Reads (place : ℕ) (chunk : Listing) (part part' : Part) : Type 0 where
  pub draft : part'.draft ≡ part.draft
  pub chunks : part'.chunks ≡ part.chunks
  pub read : option_and_then (λ pinned. slice_get pinned place) part.chunks ≡ Some chunk

pub record Unpins (part part' : Part) : Type 0 where
  pub draft : part'.draft ≡ part.draft
  pub chunks : part'.chunks ≡ None

-- this is staged now
pub record Stages (draft : Option (Draft Listing)) (part part' : Part) : Type 0 where
  pub draft_is : part'.draft ≡ draft
  pub chunks : part'.chunks ≡ part.chunks

abbrev pub Holds : WorkerNo → Action → Reply → Part → Part → Type 0
Holds worker (actions.Look task) (replies.Looked (looks.Hit place key count)) part part' = Pins count part part'
Holds worker (actions.Read key place) (replies.Chunk chunk) part part' = Reads place chunk part part'
Holds worker (actions.Unpin key) reply part part' = Unpins part part'
Holds worker (actions.Reserve key size count) (replies.Reserved (reserves.Room evicted)) part part' = Stages (Some (new_draft worker.0 key.0 size count)) part part'
Holds worker (actions.Put key chunk) reply part part' = Stages (option_map (with_chunk chunk) part.draft) part part'
Holds worker (actions.Commit key) reply part part' = Stages None part part'
Holds worker (actions.Drop key) reply part part' = Stages None part part'
Holds worker action reply part part' = HoldsOn part part'

abbrev pub puts_of : Part → ℕ
puts_of part = option_map_or (λ draft. length draft.chunks) part.draft 0

-- the own part after an action of its worker with this reply: there is an entry more
pub record Moves (worker : WorkerNo) (action : Action) (reply : Reply) (part part' : Part) : Type 0 where
  pub deps : part'.deps ≡ part.deps
  pub keys : part'.keys ≡ part.keys
  pub event : Event
  pub is : event_of (puts_of part) action reply ≡ Some event
  pub mine : part'.mine ≡ part.mine ++ (record { worker = worker; event = event }) ∷ []
  pub holds : Holds worker action reply part part'

-- the own part before the first action
pub record IsNew (plan : Plan) (part : Part) : Type 0 where
  pub deps : part.deps ≡ map (λ task. task.deps) plan.tasks
  pub keys : part.keys ≡ length plan.table.recipes
  pub mine : part.mine ≡ []
  pub draft : part.draft ≡ None
  pub chunks : part.chunks ≡ None

-- ---- what a job can come to, with its worker's own part, by any replies that fit: it goes on with a reply, or memory is
-- refused to its action, or to the work behind the reply

pub data Lives (plan : Plan) (worker : WorkerNo) : Place → Part → Type 0 where
  begins : (part : Part) → IsNew plan part → Lives plan worker Outside part
  goes_on : (place place' : Place) (part part' : Part) (action : Action) (reply : Reply) → Lives plan worker place part → wants place ≡ Some action → Moves worker action reply part part' → Fits plan (asked place) reply → place' ≡ (taken plan (asked place) reply).place → IsPlace place' → Lives plan worker place' part'
  gives_up : (place place' : Place) (part : Part) → Lives plan worker place part → place' ≡ refused place → Lives plan worker place' part
  breaks_off : (place place' : Place) (part part' : Part) (action : Action) (reply : Reply) → Lives plan worker place part → wants place ≡ Some action → Moves worker action reply part part' → Fits plan (asked place) reply → place' ≡ refused (taken plan (asked place) reply).place → Lives plan worker place' part'

-- ---- and where the replies are those of the plan's meaning

-- a fetched outcome is the one that is meant, or no memory
abbrev pub IsToldOf : Outcome → Outcome → Type 0
IsToldOf means outcome = (outcome ≡ means) ⊎ (outcome ≡ outcomes.NoMemory)

-- an entry has the chunks of the tree that its key means
abbrev pub IsTrue : Plan → Place → Reply → Type 0
IsTrue plan (Fetching task dep got) (replies.Fetched outcome) = IsToldOf (meant plan.table (chain_at plan dep)) outcome
IsTrue plan (Looking setup) (replies.Looked (looks.Hit place key count)) = count ≡ length (chunks_meant plan key)
IsTrue plan (Reading setup key count parts) (replies.Chunk chunk) = slice_get (chunks_meant plan key) (length parts) ≡ Some chunk
IsTrue plan place reply = Unit {0}

-- memory is refused in a block till its end
abbrev pub refused_after : Event → Bool → Bool
refused_after (events.Done task word) refused = false
refused_after event refused = refused

pub data Follows (plan : Plan) : Place → Progress → Bool → Type 0 where
  begins : Follows plan Outside idle false
  goes_on : (place place' : Place) (progress : Progress) (off : Bool) (action : Action) (reply : Reply) (puts : ℕ) (event : Event) → Follows plan place progress off → wants place ≡ Some action → event_of puts action reply ≡ Some event → Fits plan (asked place) reply → IsTrue plan (asked place) reply → place' ≡ (taken plan (asked place) reply).place → IsPlace place' → Follows plan place' (turn progress event) (refused_after event off)
  gives_up : (place place' : Place) (progress : Progress) (off : Bool) → Follows plan place progress off → place' ≡ refused place → Follows plan place' progress true
  breaks_off : (place place' : Place) (progress : Progress) (off : Bool) (action : Action) (reply : Reply) (puts : ℕ) (event : Event) → Follows plan place progress off → wants place ≡ Some action → event_of puts action reply ≡ Some event → Fits plan (asked place) reply → IsTrue plan (asked place) reply → place' ≡ refused (taken plan (asked place) reply).place → Follows plan place' (turn progress event) true
