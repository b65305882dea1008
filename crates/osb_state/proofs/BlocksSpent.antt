-- Turn by turn a job runs no more stages than its block has.
use Rattle.std.proofs.Common.{◌≡◌, ◌==◌, arith, ℕ, ◌+◌, ◌≤◌, Bool, true, false, not, nat_lt, List, [], ◌∷◌, ◌++◌, length, map, drop, Option, Some, None, refl, sym, ap, ◌∙◌, subst}
use Rattle.std.specs.Prelude.{slice_get, if◌then◌else◌}
use Rattle.std.specs.List.{list_any, list_all}
use Rattle.std.proofs.lemmas.Bool.{cond-true, cond_both}
use Rattle.std.proofs.lemmas.List.{map_push}
use Rattle.std.proofs.lemmas.List.Folds.{list_all-map}
use Rattle.std.proofs.lemmas.Option.{none-some, same_Some}
use Rattle.osb_tree.specs.Trees.{Listing, tree_size, empty_tree}
use Rattle.osb_tree.specs.Chunks.{chunk_count, chunks_of, pairs_of}
use Rattle.osb_tree.specs.declared.numbers.Key.{Key}
use Rattle.osb_tree.specs.declared.numbers.TaskNo.{TaskNo}
use Rattle.osb_recipe.specs.Tables.{IsTable, IsChain}
use Rattle.osb_recipe.specs.Meanings.{meant}
use Rattle.osb_recipe.specs.Plans.{IsSound}
use Rattle.osb_recipe.specs.declared.references.TreeRef.{TreeRef}
use Rattle.osb_recipe.specs.declared.references.TreeRef.TheVariants.{Empty, Of}
use Rattle.osb_recipe.specs.declared.outcomes.Outcome.{Outcome}
use Rattle.osb_recipe.specs.declared.outcomes.Outcome.TheVariants as outcomes
use Rattle.osb_recipe.specs.declared.plans.Plan.{Plan}
use Rattle.osb_board.specs.declared.tasks.Claim.TheVariants as claims
use Rattle.osb_cache.specs.declared.answers.Look.TheVariants as looks
use Rattle.osb_cache.specs.declared.answers.Reserve.{Reserve}
use Rattle.osb_cache.specs.declared.answers.Reserve.TheVariants as reserves
use Rattle.osb_job.specs.declared.actions.Action.{Action}
use Rattle.osb_job.specs.declared.actions.Action.TheVariants as actions
use Rattle.osb_job.specs.declared.actions.Reply.{Reply}
use Rattle.osb_job.specs.declared.actions.Reply.TheVariants as replies
use Rattle.osb_job.specs.declared.entries.Word.{Word}
use Rattle.osb_job.specs.declared.entries.Event.{Event}
use Rattle.osb_job.specs.declared.entries.Event.TheVariants as events
use Rattle.osb_job.specs.declared.places.Setup.{Setup}
use Rattle.osb_job.specs.declared.places.Place.{Place}
use Rattle.osb_job.specs.declared.places.Place.TheVariants.{Outside, Gone, Fetching, Looking, Reading, Holding, Reserving, Filling, Putting, Unpinning, Dropping, Ending, Ended}
use Rattle.osb_job.specs.Scripts.{Hand, free, reads, fills, Block, Progress, busy, turn, chain_at, marked_at, deps_at, chunks_meant, word_of, is_tree, is_no_memory, left_after}
use Rattle.osb_job.specs.Jobs.{Turn, still, wants, asked, taken, fetching, fetched, gathered, begun, read, reserved, run_from, trees_of, place_behind, Fits}
use Rattle.osb_job.specs.Moves.{event_of, reserve_event, IsTrue, Follows}
use Rattle.osb_job.proofs.AlikeStages.{CanRun}
use Rattle.osb_job.proofs.ChainRests.{IsRest, rest_at_start, rest_behind}
use Rattle.osb_job.proofs.PlanTasks.{IsKnown, known}
use Rattle.osb_job.proofs.FetchedTrees.{AreTold, told-more, have_trees, stages-can_run}
use Rattle.osb_job.proofs.AgreeingPlaces.{block_at, IsOnWay, IsFetching, IsLooking, IsReading, IsHolding, IsReserving, IsFilling, GivesUp, Agrees}
use Rattle.osb_job.proofs.AgreeingTurns.{agrees}
use Rattle.osb_state.specs.Spent.{stages_up_to, stages_in, since, Spends, BlocksAreSpent}
use Rattle.osb_state.proofs.StagesLeft.{most_of, left_at, IsWithin, Takes, spent-from_within, within-refused, list_all-from_list_any, run_from_takes}

-- ---- a block that begins

-- the block of a task that has fetched these words, and looked
abbrev begun_block : TaskNo → List Word → Option (Option Key) → Block
begun_block task words found = block_at task words found [] free

stages-trees : (plan : Plan) (task : TaskNo) (words : List Word) (found : Option (Option Key)) (tried : List Key) (hand : Hand) → list_all is_tree words ≡ true
    → stages_in plan (block_at task words found tried hand) ≡ stages_up_to plan (left_after found (chain_at plan task))
stages-trees plan task words found tried hand trees = cond-true (list_all is_tree words) (stages_up_to plan (left_after found (chain_at plan task))) 0 trees

-- a chain is begun from the empty tree
start_takes : (plan : Plan) (setup : Setup) (words : List Word) (found : Option (Option Key)) → IsTable plan.table → IsChain plan.table (chain_at plan setup.task) → CanRun plan.table setup.trees (chain_at plan setup.task) → list_all is_tree words ≡ true
    → left_after found (chain_at plan setup.task) ≡ chain_at plan setup.task → Takes plan (stages_in plan (begun_block setup.task words found)) (run_from plan setup 0 empty_tree) (stages_in plan (begun_block setup.task words found))
start_takes plan setup words found is linked can trees all =
    let chain = chain_at plan setup.task in
    let most = stages_in plan (begun_block setup.task words found) in
    subst (Takes plan most (run_from plan setup 0 empty_tree)) (sym (stages-trees plan setup.task words found [] free trees ∙ ap (stages_up_to plan) all))
    (run_from_takes plan most setup 0 empty_tree Empty chain is refl (rest_at_start plan.table setup.trees chain linked can))

begun_takes : (plan : Plan) (setup : Setup) (words : List Word) → IsTable plan.table → IsChain plan.table (chain_at plan setup.task) → CanRun plan.table setup.trees (chain_at plan setup.task) → list_all is_tree words ≡ true
    → Takes plan (stages_in plan (begun_block setup.task words None)) (begun plan setup) (stages_in plan (begun_block setup.task words None))
begun_takes plan setup words is linked can trees =
    let most = stages_in plan (begun_block setup.task words None) in
    cond_both (length (marked_at plan setup.task) == 0) (run_from plan setup 0 empty_tree) (still (Looking setup)) (λ (next : Turn). Takes plan most next most)
    (λ none. start_takes plan setup words None is linked can trees refl) (λ some. omega arith)

gathered_takes : (plan : Plan) (task : TaskNo) (got : List Outcome) → IsSound plan → IsTable plan.table → IsKnown plan task → AreTold plan (deps_at plan task) got → slice_get (deps_at plan task) (length got) ≡ None
    → Takes plan (stages_in plan (begun_block task (map word_of got) None)) (gathered plan task got) (stages_in plan (begun_block task (map word_of got) None))
gathered_takes plan task got sound is known told all =
    cond_both (list_any (λ (outcome : Outcome). is_no_memory (word_of outcome)) got) (still (Ending task outcomes.NoMemory)) tried At (λ memory. omega arith)
    (λ fine. cond_both (list_any (λ (outcome : Outcome). not (is_tree (word_of outcome))) got) (still (Ending task outcomes.Blocked)) (begun plan setup) At (λ lost. omega arith) goes)
  where
    most : ℕ
    most = stages_in plan (begun_block task (map word_of got) None)

    setup : Setup
    setup = record { task = task; trees = trees_of plan (deps_at plan task) got }

    tried : Turn
    tried = if list_any (λ (outcome : Outcome). not (is_tree (word_of outcome))) got then still (Ending task outcomes.Blocked) else begun plan setup

    At : Turn → Type 0
    At next = Takes plan most next most

    goes : list_any (λ (outcome : Outcome). not (is_tree (word_of outcome))) got ≡ false → At (begun plan setup)
    goes trees =
        let can = stages-can_run plan task got sound is known (have_trees plan (deps_at plan task) got told all trees) in
        begun_takes plan setup (map word_of got) is known.linked can (list_all-map is_tree word_of got ∙ list_all-from_list_any (λ (outcome : Outcome). is_tree (word_of outcome)) got trees)

fetched_takes : (plan : Plan) (task : TaskNo) (got : List Outcome) → IsSound plan → IsTable plan.table → IsKnown plan task → AreTold plan (deps_at plan task) got
    → Takes plan (stages_in plan (begun_block task (map word_of got) None)) (fetched plan task got) (stages_in plan (begun_block task (map word_of got) None))
fetched_takes plan task got sound is known told = by (slice_get (deps_at plan task) (length got)) refl
  where
    most : ℕ
    most = stages_in plan (begun_block task (map word_of got) None)

    by : (there : Option TaskNo) → slice_get (deps_at plan task) (length got) ≡ there → Takes plan most (fetching plan task got there) most
    by (Some dep) next = omega arith
    by None all = gathered_takes plan task got sound is known told all

-- ---- the event that a reply makes

abbrev Spares : Plan → Turn → Progress → ℕ → Option Event → Type 0
Spares plan next progress steps made = (event : Event) → made ≡ Some event → IsWithin plan next.place (turn progress event) (since event (steps + next.steps))

spares : (plan : Plan) (next : Turn) (progress : Progress) (steps : ℕ) (known : Event) → IsWithin plan next.place (turn progress known) (since known (steps + next.steps)) → Spares plan next progress steps (Some known)
spares plan next progress steps known within event is = subst (λ (e : Event). IsWithin plan next.place (turn progress e) (since e (steps + next.steps))) (same_Some known event is) within

-- in this block
spares_in : (plan : Plan) (next : Turn) (progress : Progress) (steps : ℕ) (block : Block) (known : Event) → progress ≡ busy block → IsWithin plan next.place (turn (busy block) known) (since known (steps + next.steps)) → Spares plan next progress steps (Some known)
spares_in plan next progress steps block known at within = spares plan next progress steps known (subst (λ (p : Progress). IsWithin plan next.place (turn p known) (since known (steps + next.steps))) (sym at) within)

-- before the first stage, and behind some
first_steps : (steps old more left most : ℕ) → steps + old ≤ old → more + left ≤ most → steps + more + left ≤ most
first_steps steps old more left most none takes = omega arith

later_steps : (steps due more left most : ℕ) → steps + due ≤ most → more + left ≤ due → steps + more + left ≤ most
later_steps steps due more left most within takes = omega arith

-- ---- a turn, by what the job is at

claims-on : (plan : Plan) (progress : Progress) (steps : ℕ) (reply : Reply) (puts : ℕ) → IsSound plan → IsTable plan.table → IsWithin plan Outside progress steps → Fits plan Outside reply → Spares plan (taken plan Outside reply) progress steps (event_of puts actions.Claim reply)
claims-on plan progress steps (replies.Claimed (claims.Task task)) puts sound is within fits =
    let next = fetched plan task [] in
    let most = stages_in plan (begun_block task [] None) in
    spares plan next progress steps (events.Claim task) (first_steps steps (most_of plan progress) next.steps (left_at plan most next.place) most within (fetched_takes plan task [] sound is (known plan task sound fits) tt))
claims-on plan progress steps (replies.Claimed claims.Idle) puts sound is within fits = λ event made. absurd (none-some event made)
claims-on plan progress steps (replies.Claimed claims.Over) puts sound is within fits = spares plan (still Gone) progress steps events.Over (omega arith)
claims-on plan progress steps reply puts sound is within fits = absurd fits

fetches-on : (plan : Plan) (task dep : TaskNo) (got : List Outcome) (progress : Progress) (off : Bool) (steps : ℕ) (reply : Reply) (puts : ℕ) → IsSound plan → IsTable plan.table → IsFetching plan task dep got progress off → IsWithin plan (Fetching task dep got) progress steps → Fits plan (Fetching task dep got) reply
    → IsTrue plan (Fetching task dep got) reply → Spares plan (taken plan (Fetching task dep got) reply) progress steps (event_of puts (actions.Fetch dep) reply)
fetches-on plan task dep got progress off steps (replies.Fetched outcome) puts sound is agrees within fits true_so =
    let more = got ++ outcome ∷ [] in
    let next = fetched plan task more in
    let told = told-more plan (deps_at plan task) got dep outcome agrees.told agrees.next true_so in
    let Most : List Word → Type 0 = λ words. let most = stages_in plan (begun_block task words None) in Takes plan most next most in
    let most = stages_in plan (begun_block task (map word_of got ++ word_of outcome ∷ []) None) in
    let takes : Takes plan most next most = subst Most (map_push word_of got outcome) (fetched_takes plan task more sound is agrees.known told) in
    spares_in plan next progress steps (begun_block task (map word_of got) None) (events.Fetch dep (word_of outcome)) agrees.at (first_steps steps (most_of plan progress) next.steps (left_at plan most next.place) most within takes)
fetches-on plan task dep got progress off steps reply puts sound is agrees within fits true_so = absurd fits

looks-on : (plan : Plan) (setup : Setup) (progress : Progress) (off : Bool) (steps : ℕ) (reply : Reply) (puts : ℕ) → IsTable plan.table → IsLooking plan setup progress off → IsWithin plan (Looking setup) progress steps → Fits plan (Looking setup) reply
    → Spares plan (taken plan (Looking setup) reply) progress steps (event_of puts (actions.Look setup.task) reply)
looks-on plan setup progress off steps (replies.Looked (looks.Hit place key count)) puts is agrees within fits =
    spares_in plan (still (Reading setup key count [])) progress steps (begun_block setup.task agrees.words None) (events.Hit key) agrees.at (omega arith)
looks-on plan setup progress off steps (replies.Looked looks.Miss) puts is agrees within fits =
    let next = run_from plan setup 0 empty_tree in
    let most = stages_in plan (begun_block setup.task agrees.words (Some None)) in
    let trees = list_all-from_list_any is_tree agrees.words agrees.prepared.ready.trees in
    spares_in plan next progress steps (begun_block setup.task agrees.words None) events.Miss agrees.at
    (first_steps steps (most_of plan progress) next.steps (left_at plan most next.place) most within (start_takes plan setup agrees.words (Some None) is agrees.prepared.known.linked agrees.prepared.stages trees refl))
looks-on plan setup progress off steps reply puts is agrees within fits = absurd fits

reads-on : (plan : Plan) (setup : Setup) (key : Key) (count : ℕ) (parts : List Listing) (progress : Progress) (off : Bool) (steps : ℕ) (reply : Reply) (puts : ℕ) → IsReading plan setup key count parts progress off → IsWithin plan (Reading setup key count parts) progress steps → Fits plan (Reading setup key count parts) reply
    → Spares plan (taken plan (Reading setup key count parts) reply) progress steps (event_of puts (actions.Read key (length parts)) reply)
reads-on plan setup key count parts progress off steps (replies.Chunk chunk) puts agrees within fits =
    let more = parts ++ chunk ∷ [] in
    let block = block_at setup.task agrees.words (Some (Some key)) [] (reads key (length parts)) in
    let known = events.Read key (length parts) in
    spares_in plan (read setup key count more) progress steps block known agrees.at
    (cond_both (nat_lt (length more) count) (Reading setup key count more) (Holding setup key (pairs_of more)) (λ (place : Place). IsWithin plan place (turn (busy block) known) (steps + 0)) (λ less. omega arith) (λ all. omega arith))
reads-on plan setup key count parts progress off steps reply puts agrees within fits = absurd fits

holds-on : (plan : Plan) (setup : Setup) (key : Key) (tree : Listing) (progress : Progress) (off : Bool) (steps : ℕ) (reply : Reply) (puts : ℕ) → IsTable plan.table → IsHolding plan setup key tree progress off → IsWithin plan (Holding setup key tree) progress steps → Fits plan (Holding setup key tree) reply
    → Spares plan (taken plan (Holding setup key tree) reply) progress steps (event_of puts (actions.Unpin key) reply)
holds-on plan setup key tree progress off steps replies.Plain puts is agrees within fits =
    let chain = chain_at plan setup.task in
    let far = place_behind key chain in
    let next = run_from plan setup far tree in
    let most = stages_in plan (block_at setup.task agrees.words (Some (Some key)) [] free) in
    let start = rest_at_start plan.table setup.trees chain agrees.prepared.known.linked agrees.prepared.stages in
    let behind = rest_behind plan.table setup.trees (meant plan.table chain) 0 empty_tree Empty chain key tree is start (agrees.prepared.known.marked key agrees.marked) agrees.means in
    let rest = subst (λ (n : ℕ). IsRest plan.table setup.trees (meant plan.table chain) n tree (Of key) (drop far chain)) (let none : 0 + far ≡ far = omega arith in none) behind in
    let trees = list_all-from_list_any is_tree agrees.words agrees.prepared.ready.trees in
    let takes : Takes plan most next most =
    subst (Takes plan most next) (sym (stages-trees plan setup.task agrees.words (Some (Some key)) [] free trees)) (run_from_takes plan most setup far tree (Of key) (drop far chain) is refl rest) in
    spares_in plan next progress steps (block_at setup.task agrees.words (Some (Some key)) [] (reads key (length (chunks_meant plan key)))) (events.Unpin key) agrees.at
    (first_steps steps (most_of plan progress) next.steps (left_at plan most next.place) most within takes)
holds-on plan setup key tree progress off steps reply puts is agrees within fits = absurd fits

-- the rest of the chain is run, where the block has as many stages as before
goes-on : (plan : Plan) (setup : Setup) (words : List Word) (looked : Option (Option Key)) (tried : List Key) (run : ℕ) (tree : Listing) (base : TreeRef) (rest : List Key) (steps most : ℕ) → IsTable plan.table → IsOnWay plan setup words looked tried run tree base rest
    → steps + stages_up_to plan (drop run (chain_at plan setup.task)) ≤ most → steps + (run_from plan setup run tree).steps + left_at plan most (run_from plan setup run tree).place ≤ most
goes-on plan setup words looked tried run tree base rest steps most is way within =
    let next = run_from plan setup run tree in
    later_steps steps (stages_up_to plan (drop run (chain_at plan setup.task))) next.steps (left_at plan most next.place) most within (run_from_takes plan most setup run tree base rest is way.here way.at)

reserves-on : (plan : Plan) (setup : Setup) (key : Key) (tree : Listing) (run : ℕ) (progress : Progress) (off : Bool) (steps : ℕ) (reply : Reply) (puts size count : ℕ) → IsTable plan.table → IsReserving plan setup key tree run progress off → IsWithin plan (Reserving setup key tree run) progress steps
    → Fits plan (Reserving setup key tree run) reply → Spares plan (taken plan (Reserving setup key tree run) reply) progress steps (event_of puts (actions.Reserve key size count) reply)
reserves-on plan setup key tree run progress off steps (replies.Reserved reserve) puts size count is agrees within fits = by reserve
  where
    block : Block
    block = block_at setup.task agrees.words agrees.looked agrees.tried free

    here : IsWithin plan (Reserving setup key tree run) (busy block) steps
    here = subst (λ (p : Progress). IsWithin plan (Reserving setup key tree run) p steps) agrees.at within

    goes : IsWithin plan (run_from plan setup run tree).place (busy block) (steps + (run_from plan setup run tree).steps)
    goes = goes-on plan setup agrees.words agrees.looked (agrees.tried ++ key ∷ []) run tree agrees.base agrees.rest steps (stages_in plan block) is agrees.way here

    to : (next : Turn) (event : Event) → IsWithin plan next.place (turn (busy block) event) (since event (steps + next.steps)) → Spares plan next progress steps (Some event)
    to next event = spares_in plan next progress steps block event agrees.at

    by : (reserve : Reserve) → Spares plan (reserved plan setup key tree run reserve) progress steps (Some (reserve_event key reserve))
    by (reserves.Room evicted) = to (still (Filling setup key tree run (chunks_of tree))) (events.Room key evicted) (omega (arith, here))
    by reserves.Already = to (run_from plan setup run tree) (events.Already key) goes
    by reserves.TooLarge = to (run_from plan setup run tree) (events.TooLarge key) goes
    by reserves.Full = to (run_from plan setup run tree) (events.Full key) goes
reserves-on plan setup key tree run progress off steps reply puts size count is agrees within fits = absurd fits

commits-on : (plan : Plan) (setup : Setup) (key : Key) (tree : Listing) (run : ℕ) (progress : Progress) (off : Bool) (steps : ℕ) (reply : Reply) (puts : ℕ) → IsTable plan.table → IsFilling plan setup key tree run [] progress off → IsWithin plan (Filling setup key tree run []) progress steps → Fits plan (Filling setup key tree run []) reply
    → Spares plan (taken plan (Filling setup key tree run []) reply) progress steps (event_of puts (actions.Commit key) reply)
commits-on plan setup key tree run progress off steps replies.Plain puts is agrees within fits =
    let block = block_at setup.task agrees.words agrees.looked agrees.tried (fills key agrees.count) in
    let here = subst (λ (p : Progress). IsWithin plan (Filling setup key tree run []) p steps) agrees.at within in
    spares_in plan (run_from plan setup run tree) progress steps block (events.Commit key) agrees.at
    (goes-on plan setup agrees.words agrees.looked agrees.tried run tree agrees.base agrees.rest steps (stages_in plan block) is agrees.way here)
commits-on plan setup key tree run progress off steps reply puts is agrees within fits = absurd fits

puts-on : (plan : Plan) (setup : Setup) (key : Key) (tree : Listing) (run : ℕ) (chunk : Listing) (chunks : List Listing) (progress : Progress) (off : Bool) (steps : ℕ) (reply : Reply) (puts : ℕ) → IsFilling plan setup key tree run (chunk ∷ chunks) progress off → IsWithin plan (Filling setup key tree run (chunk ∷ chunks)) progress steps
    → Fits plan (Putting setup key tree run chunks) reply → Spares plan (taken plan (Putting setup key tree run chunks) reply) progress steps (event_of puts (actions.Put key chunk) reply)
puts-on plan setup key tree run chunk chunks progress off steps replies.Plain puts agrees within fits =
    let block = block_at setup.task agrees.words agrees.looked agrees.tried (fills key agrees.count) in
    let here = subst (λ (p : Progress). IsWithin plan (Filling setup key tree run (chunk ∷ chunks)) p steps) agrees.at within in
    spares_in plan (still (Filling setup key tree run chunks)) progress steps block (events.Put key puts) agrees.at (omega (arith, here))
puts-on plan setup key tree run chunk chunks progress off steps reply puts agrees within fits = absurd fits

-- what was in hand is given up
unpins-on : (plan : Plan) (task : TaskNo) (key : Key) (progress : Progress) (off : Bool) (steps : ℕ) (reply : Reply) (puts count : ℕ) → GivesUp task (reads key count) progress off → IsWithin plan (Unpinning task key) progress steps → Fits plan (Unpinning task key) reply
    → Spares plan (taken plan (Unpinning task key) reply) progress steps (event_of puts (actions.Unpin key) reply)
unpins-on plan task key progress off steps replies.Plain puts count up within fits =
    let here = subst (λ (p : Progress). IsWithin plan (Unpinning task key) p steps) up.at within in
    spares_in plan (still (Ending task outcomes.NoMemory)) progress steps (block_at task up.words up.looked up.tried (reads key count)) (events.Unpin key) up.at (omega (arith, here))
unpins-on plan task key progress off steps reply puts count up within fits = absurd fits

drops-on : (plan : Plan) (task : TaskNo) (key : Key) (progress : Progress) (off : Bool) (steps : ℕ) (reply : Reply) (puts count : ℕ) → GivesUp task (fills key count) progress off → IsWithin plan (Dropping task key) progress steps → Fits plan (Dropping task key) reply
    → Spares plan (taken plan (Dropping task key) reply) progress steps (event_of puts (actions.Drop key) reply)
drops-on plan task key progress off steps replies.Plain puts count up within fits =
    let here = subst (λ (p : Progress). IsWithin plan (Dropping task key) p steps) up.at within in
    spares_in plan (still (Ending task outcomes.NoMemory)) progress steps (block_at task up.words up.looked up.tried (fills key count)) (events.Drop key) up.at (omega (arith, here))
drops-on plan task key progress off steps reply puts count up within fits = absurd fits

ends-on : (plan : Plan) (task : TaskNo) (outcome : Outcome) (progress : Progress) (steps : ℕ) (reply : Reply) (puts : ℕ) → Fits plan Ended reply → Spares plan (taken plan Ended reply) progress steps (event_of puts (actions.Done task outcome) reply)
ends-on plan task outcome progress steps replies.Plain puts fits = spares plan (still Outside) progress steps (events.Done task (word_of outcome)) (omega arith)
ends-on plan task outcome progress steps reply puts fits = absurd fits

-- ---- a turn, by what the job wanted

abbrev Turns : Plan → Place → Progress → ℕ → Action → Reply → ℕ → Type 0
Turns plan place progress steps action reply puts = Spares plan (taken plan (asked place) reply) progress steps (event_of puts action reply)

turns_as_wanted : (plan : Plan) (place : Place) (progress : Progress) (off : Bool) (steps : ℕ) (reply : Reply) (puts : ℕ) → IsSound plan → IsTable plan.table → Agrees plan place progress off → IsWithin plan place progress steps → Fits plan (asked place) reply → IsTrue plan (asked place) reply
    → (action : Action) → wants place ≡ Some action → Turns plan place progress steps action reply puts
turns_as_wanted plan place progress off steps reply puts sound is = by place
  where
    wanted : (place : Place) (asks : Action) → Turns plan place progress steps asks reply puts → (action : Action) → Some asks ≡ Some action → Turns plan place progress steps action reply puts
    wanted place asks turned action same = subst (λ (a : Action). Turns plan place progress steps a reply puts) (same_Some asks action same) turned

    by : (place : Place) → Agrees plan place progress off → IsWithin plan place progress steps → Fits plan (asked place) reply → IsTrue plan (asked place) reply → (action : Action) → wants place ≡ Some action → Turns plan place progress steps action reply puts
    by Outside agrees within fits true_so = wanted Outside actions.Claim (claims-on plan progress steps reply puts sound is within fits)
    by Gone agrees within fits true_so = absurd fits
    by (Fetching task dep got) agrees within fits true_so = wanted (Fetching task dep got) (actions.Fetch dep) (fetches-on plan task dep got progress off steps reply puts sound is agrees within fits true_so)
    by (Looking setup) agrees within fits true_so = wanted (Looking setup) (actions.Look setup.task) (looks-on plan setup progress off steps reply puts is agrees within fits)
    by (Reading setup key count parts) agrees within fits true_so = wanted (Reading setup key count parts) (actions.Read key (length parts)) (reads-on plan setup key count parts progress off steps reply puts agrees within fits)
    by (Holding setup key tree) agrees within fits true_so = wanted (Holding setup key tree) (actions.Unpin key) (holds-on plan setup key tree progress off steps reply puts is agrees within fits)
    by (Reserving setup key tree run) agrees within fits true_so =
        let size = tree_size tree in
        let count = chunk_count tree in
        wanted (Reserving setup key tree run) (actions.Reserve key size count) (reserves-on plan setup key tree run progress off steps reply puts size count is agrees within fits)
    by (Filling setup key tree run []) agrees within fits true_so = wanted (Filling setup key tree run []) (actions.Commit key) (commits-on plan setup key tree run progress off steps reply puts is agrees within fits)
    by (Filling setup key tree run (chunk ∷ chunks)) agrees within fits true_so =
        wanted (Filling setup key tree run (chunk ∷ chunks)) (actions.Put key chunk) (puts-on plan setup key tree run chunk chunks progress off steps reply puts agrees within fits)
    by (Putting setup key tree run parts) agrees within fits true_so = absurd agrees
    by (Unpinning task key) agrees within fits true_so = wanted (Unpinning task key) (actions.Unpin key) (unpins-on plan task key progress off steps reply puts agrees.0 agrees.1 within fits)
    by (Dropping task key) agrees within fits true_so = wanted (Dropping task key) (actions.Drop key) (drops-on plan task key progress off steps reply puts agrees.0 agrees.1 within fits)
    by (Ending task outcome) agrees within fits true_so = wanted (Ending task outcome) (actions.Done task outcome) (ends-on plan task outcome progress steps reply puts fits)
    by Ended agrees within fits true_so = absurd agrees

-- ---- whatever was replied

-- the count apart, it is a job that goes by the script
pub follows : (plan : Plan) (place : Place) (progress : Progress) (off : Bool) (steps : ℕ) → Spends plan place progress off steps → Follows plan place progress off
follows plan place progress off steps Spends.begins = Follows.begins
follows plan place progress off steps (Spends.goes_on before after from was action reply puts event spent spends wanted made fits true_so comes_to is_place) =
    Follows.goes_on before after from was action reply puts event (follows plan before from was spent spends) wanted made fits true_so comes_to is_place
follows plan place progress off steps (Spends.gives_up before after from was spent spends comes_to) = Follows.gives_up before after from was (follows plan before from was spent spends) comes_to
follows plan place progress off steps (Spends.breaks_off before after from was action reply puts event spent spends wanted made fits true_so comes_to) =
    Follows.breaks_off before after from was action reply puts event (follows plan before from was spent spends) wanted made fits true_so comes_to

turned_within : (plan : Plan) (before : Place) (from : Progress) (was : Bool) (action : Action) (reply : Reply) (puts : ℕ) (event : Event) (spent : ℕ) → IsSound plan → IsTable plan.table → Spends plan before from was spent → IsWithin plan before from spent → wants before ≡ Some action → event_of puts action reply ≡ Some event
    → Fits plan (asked before) reply → IsTrue plan (asked before) reply → IsWithin plan (taken plan (asked before) reply).place (turn from event) (since event (spent + (taken plan (asked before) reply).steps))
turned_within plan before from was action reply puts event spent sound is spends within wanted made fits true_so =
    turns_as_wanted plan before from was spent reply puts sound is (agrees plan before from was sound is (follows plan before from was spent spends)) within fits true_so action wanted event made

is_within : (plan : Plan) (place : Place) (progress : Progress) (off : Bool) (steps : ℕ) → IsSound plan → IsTable plan.table → Spends plan place progress off steps → IsWithin plan place progress steps
is_within plan place progress off steps sound is Spends.begins = omega arith
is_within plan place progress off steps sound is (Spends.goes_on before after from was action reply puts event spent spends wanted made fits true_so comes_to is_place) =
    subst (λ (p : Place). IsWithin plan p (turn from event) (since event (spent + (taken plan (asked before) reply).steps))) (sym comes_to)
    (turned_within plan before from was action reply puts event spent sound is spends (is_within plan before from was spent sound is spends) wanted made fits true_so)
is_within plan place progress off steps sound is (Spends.gives_up before after from was spent spends comes_to) =
    subst (λ (p : Place). IsWithin plan p from spent) (sym comes_to) (within-refused plan before from spent (is_within plan before from was spent sound is spends))
is_within plan place progress off steps sound is (Spends.breaks_off before after from was action reply puts event spent spends wanted made fits true_so comes_to) =
    let next = taken plan (asked before) reply in
    let spent' = since event (spent + next.steps) in
    let within = turned_within plan before from was action reply puts event spent sound is spends (is_within plan before from was spent sound is spends) wanted made fits true_so in
    subst (λ (p : Place). IsWithin plan p (turn from event) spent') (sym comes_to) (within-refused plan next.place (turn from event) spent' within)

pub blocks_are_spent : BlocksAreSpent
blocks_are_spent plan place progress off steps sound is spends = spent-from_within plan place progress steps (is_within plan place progress off steps sound is spends)
