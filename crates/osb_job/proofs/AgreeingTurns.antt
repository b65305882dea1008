-- Turn by turn a job stays where the script is.
use Rattle.std.proofs.Common.{◌≡◌, ◌==◌, ◌&&◌, arith, ℕ, ◌+◌, ◌<◌, ◌≤◌, Bool, true, false, not, nat_lt, List, [], ◌∷◌, ◌++◌, length, map, take, drop, Option, Some, None, inl, refl, sym, ap, ap₂, ◌∙◌, subst, subst₂, take_all}
use Rattle.std.specs.Prelude.{if◌then◌else◌}
use Rattle.std.specs.Option.{option_map_or}
use Rattle.std.proofs.lemmas.Bool.{ltb-true, ltb-false, and_right}
use Rattle.std.proofs.lemmas.Bool.Decides.{nat_tests}
use Rattle.std.proofs.lemmas.List.{map_push, length_push, drop-drop, take_more}
use Rattle.std.proofs.lemmas.Map.Keys.{any_passes_from_place}
use Rattle.std.proofs.lemmas.Option.{same_Some, get_or_from_slice_get, slice_get_within}
use Rattle.osb_tree.specs.Trees.{Listing, tree_size, empty_tree}
use Rattle.osb_tree.specs.Chunks.{chunk_count, chunks_of, pairs_of}
use Rattle.osb_tree.specs.declared.numbers.Key.{Key}
use Rattle.osb_tree.specs.declared.numbers.TaskNo.{TaskNo}
use Rattle.osb_tree.proofs.ChunkLaws.{chunks_are_the_listing}
use Rattle.osb_recipe.specs.Tables.{IsTable}
use Rattle.osb_recipe.specs.Meanings.{meaning, meant}
use Rattle.osb_recipe.specs.Plans.{has_key, IsSound}
use Rattle.osb_recipe.specs.declared.references.TreeRef.TheVariants.{Empty, Of}
use Rattle.osb_recipe.specs.declared.outcomes.Outcome.{Outcome}
use Rattle.osb_recipe.specs.declared.outcomes.Outcome.TheVariants as outcomes
use Rattle.osb_recipe.specs.declared.plans.Plan.{Plan}
use Rattle.osb_board.specs.declared.tasks.Claim.TheVariants as claims
use Rattle.osb_cache.specs.declared.answers.Look.TheVariants as looks
use Rattle.osb_cache.specs.declared.answers.Reserve.{Reserve}
use Rattle.osb_cache.specs.declared.answers.Reserve.TheVariants as reserves
use Rattle.osb_job.specs.declared.actions.Action.{Action}
use Rattle.osb_job.specs.declared.actions.Action.TheVariants as actions
use Rattle.osb_job.specs.declared.actions.Reply.{Reply}
use Rattle.osb_job.specs.declared.actions.Reply.TheVariants as replies
use Rattle.osb_job.specs.declared.entries.Word.{Word}
use Rattle.osb_job.specs.declared.entries.Event.{Event}
use Rattle.osb_job.specs.declared.entries.Event.TheVariants as events
use Rattle.osb_job.specs.declared.places.Setup.{Setup}
use Rattle.osb_job.specs.declared.places.Place.{Place}
use Rattle.osb_job.specs.declared.places.Place.TheVariants.{Outside, Gone, Fetching, Looking, Reading, Holding, Reserving, Filling, Putting, Unpinning, Dropping, Ending, Ended}
use Rattle.osb_job.specs.Scripts.{free, reads, fills, Block, Progress, busy, turn, chain_at, marked_at, deps_at, chunks_meant, word_of, next}
use Rattle.osb_job.specs.Jobs.{wants, asked, taken, fetched, read, reserved, run_from, place_behind, Fits}
use Rattle.osb_job.specs.Moves.{event_of, reserve_event, IsTrue, refused_after, Follows}
use Rattle.osb_job.specs.Laws.{WantsWhatIsNext}
use Rattle.osb_job.proofs.ChainRests.{IsRest, rest_at_start, rest_behind}
use Rattle.osb_job.proofs.PlanTasks.{known}
use Rattle.osb_job.proofs.FetchedTrees.{told-more}
use Rattle.osb_job.proofs.AgreeingPlaces.{block_at, IsPrepared, IsFetching, IsLooking, IsReading, IsHolding, IsReserving, IsFilling, GivesUp, Agrees}
use Rattle.osb_job.proofs.AgreeingRuns.{run_from_agrees, chunks_are}
use Rattle.osb_job.proofs.AgreeingNext.{wants-next, agrees-refused}
use Rattle.osb_job.proofs.AgreeingFetches.{from_start, fetched_agrees}

-- ---- the event that a reply makes

abbrev Comes : Plan → Place → Progress → Bool → Option Event → Type 0
Comes plan place progress off made = (event : Event) → made ≡ Some event → Agrees plan place (turn progress event) (refused_after event off)

comes : (plan : Plan) (place : Place) (progress : Progress) (off : Bool) (known : Event) → Agrees plan place (turn progress known) (refused_after known off) → Comes plan place progress off (Some known)
comes plan place progress off known agrees event is = subst (λ (e : Event). Agrees plan place (turn progress e) (refused_after e off)) (same_Some known event is) agrees

-- in this block
comes_in : (plan : Plan) (place : Place) (progress : Progress) (off from_off : Bool) (block : Block) (known : Event) → progress ≡ busy block → off ≡ from_off → Agrees plan place (turn (busy block) known) (refused_after known from_off) → Comes plan place progress off (Some known)
comes_in plan place progress off from_off block known at is agrees =
    comes plan place progress off known (subst₂ (λ (p : Progress) (o : Bool). Agrees plan place (turn p known) (refused_after known o)) (sym at) (sym is) agrees)

-- ---- a turn, by what the job is at

claims-on : (plan : Plan) (progress : Progress) (off : Bool) (reply : Reply) (puts : ℕ) → IsSound plan → IsTable plan.table → Agrees plan Outside progress off → Fits plan Outside reply → Comes plan (taken plan Outside reply).place progress off (event_of puts actions.Claim reply)
claims-on plan progress off (replies.Claimed (claims.Task task)) puts sound is agrees fits =
    let place = (fetched plan task []).place in
    comes plan place progress off (events.Claim task) (subst (Agrees plan place (busy (block_at task [] None [] free))) (sym agrees.1) (fetched_agrees plan task [] sound is (known plan task sound fits) tt))
claims-on plan progress off (replies.Claimed claims.Idle) puts sound is agrees fits = λ event made. absurd (cc)
claims-on plan progress off (replies.Claimed claims.Over) puts sound is agrees fits = comes plan Gone progress off events.Over (inl refl)
claims-on plan progress off reply puts sound is agrees fits = absurd fits

fetches-on : (plan : Plan) (task dep : TaskNo) (got : List Outcome) (progress : Progress) (off : Bool) (reply : Reply) (puts : ℕ) → IsSound plan → IsTable plan.table → IsFetching plan task dep got progress off → Fits plan (Fetching task dep got) reply → IsTrue plan (Fetching task dep got) reply
    → Comes plan (taken plan (Fetching task dep got) reply).place progress off (event_of puts (actions.Fetch dep) reply)
fetches-on plan task dep got progress off (replies.Fetched outcome) puts sound is agrees fits true_so =
    let more = got ++ outcome ∷ [] in
    let place = (fetched plan task more).place in
    let told = told-more plan (deps_at plan task) got dep outcome agrees.told agrees.next true_so in
    comes_in plan place progress off false (block_at task (map word_of got) None [] free) (events.Fetch dep (word_of outcome)) agrees.at agrees.fine
    (subst (λ (words : List Word). Agrees plan place (busy (block_at task words None [] free)) false) (map_push word_of got outcome) (fetched_agrees plan task more sound is agrees.known told))
fetches-on plan task dep got progress off reply puts sound is agrees fits true_so = absurd fits

looks-on : (plan : Plan) (setup : Setup) (progress : Progress) (off : Bool) (reply : Reply) (puts : ℕ) → IsTable plan.table → IsLooking plan setup progress off → Fits plan (Looking setup) reply → IsTrue plan (Looking setup) reply
    → Comes plan (taken plan (Looking setup) reply).place progress off (event_of puts (actions.Look setup.task) reply)
looks-on plan setup progress off (replies.Looked (looks.Hit place key count)) puts is agrees fits true_so =
    comes_in plan (Reading setup key count []) progress off false (block_at setup.task agrees.words None [] free) (events.Hit key) agrees.at agrees.fine (record {
      words = agrees.words;
      at = refl;
      fine = refl;
      prepared = agrees.prepared;
      marked = any_passes_from_place (λ (held : Key). held.0 == key.0) (marked_at plan setup.task) place key fits.0 (grind (arith, nat_tests));
      all = true_so;
      first = refl;
      more = fits.1;
    })
looks-on plan setup progress off (replies.Looked looks.Miss) puts is agrees fits true_so =
    comes_in plan (run_from plan setup 0 empty_tree).place progress off false (block_at setup.task agrees.words None [] free) events.Miss agrees.at agrees.fine
    (from_start plan setup agrees.words (Some None) is agrees.prepared (ap (λ (b : Bool). not b && false) agrees.some) refl)
looks-on plan setup progress off reply puts is agrees fits true_so = absurd fits

-- the tree of a key whose chunks are all there
tree-whole : (plan : Plan) (key : Key) (parts : List Listing) (tree : Option Listing) → meaning plan.table key ≡ tree → 0 < length parts → parts ≡ option_map_or chunks_of tree [] → meaning plan.table key ≡ Some (pairs_of parts)
tree-whole plan key parts None means some all = absurd (let none : length parts ≡ 0 = ap length all in omega arith)
tree-whole plan key parts (Some tree) means some all = means ∙ ap Some (sym (ap pairs_of all ∙ chunks_are_the_listing tree))

-- one chunk more is read
read_agrees : (plan : Plan) (setup : Setup) (key : Key) (count : ℕ) (parts : List Listing) (words : List Word) (b : Bool) → nat_lt (length parts) count ≡ b → IsPrepared plan setup words → has_key (marked_at plan setup.task) key ≡ true
    → count ≡ length (chunks_meant plan key) → parts ≡ take (length parts) (chunks_meant plan key) → 0 < length parts → length parts ≤ count
    → Agrees plan (if b then Reading setup key count parts else Holding setup key (pairs_of parts)) (busy (block_at setup.task words (Some (Some key)) [] (reads key (length parts)))) false
read_agrees plan setup key count parts words true tells prepared marked all first some within =
    record { words = words; at = refl; fine = refl; prepared = prepared; marked = marked; all = all; first = first; more = ltb-true (length parts) count tells }
read_agrees plan setup key count parts words false tells prepared marked all first some within =
    let chunks = chunks_meant plan key in
    let enough = ltb-false (length parts) count tells in
    let whole : parts ≡ chunks = first ∙ take_all (length parts) chunks (omega arith) in
    record {
      words = words;
      at = ap (λ (n : ℕ). busy (block_at setup.task words (Some (Some key)) [] (reads key n))) (ap length whole);
      fine = refl;
      prepared = prepared;
      marked = marked;
      means = tree-whole plan key parts (meaning plan.table key) refl some whole;
    }

reads-on : (plan : Plan) (setup : Setup) (key : Key) (count : ℕ) (parts : List Listing) (progress : Progress) (off : Bool) (reply : Reply) (puts : ℕ) → IsReading plan setup key count parts progress off → Fits plan (Reading setup key count parts) reply → IsTrue plan (Reading setup key count parts) reply
    → Comes plan (taken plan (Reading setup key count parts) reply).place progress off (event_of puts (actions.Read key (length parts)) reply)
reads-on plan setup key count parts progress off (replies.Chunk chunk) puts agrees fits true_so =
    let chunks = chunks_meant plan key in
    let more = parts ++ chunk ∷ [] in
    let place = (read setup key count more).place in
    let long : length more ≡ length parts + 1 = length_push parts chunk in
    let within = slice_get_within chunks (length parts) chunk true_so in
    let first : more ≡ take (length more) chunks =
    ap₂ (λ (front : List Listing) (one : Listing). front ++ one ∷ []) agrees.first (sym (get_or_from_slice_get chunks (length parts) chunk [] true_so))
    ∙ sym (take_more chunks (length parts) [] within) ∙ ap (λ (n : ℕ). take n chunks) (sym long) in
    comes_in plan place progress off false (block_at setup.task agrees.words (Some (Some key)) [] (reads key (length parts))) (events.Read key (length parts)) agrees.at agrees.fine
    (subst (λ (n : ℕ). Agrees plan place (busy (block_at setup.task agrees.words (Some (Some key)) [] (reads key n))) false) long
    (read_agrees plan setup key count more agrees.words (nat_lt (length more) count) refl agrees.prepared agrees.marked agrees.all first (omega arith) (let below = agrees.more in omega arith)))
reads-on plan setup key count parts progress off reply puts agrees fits true_so = absurd fits

holds-on : (plan : Plan) (setup : Setup) (key : Key) (tree : Listing) (progress : Progress) (off : Bool) (reply : Reply) (puts : ℕ) → IsTable plan.table → IsHolding plan setup key tree progress off → Fits plan (Holding setup key tree) reply
    → Comes plan (taken plan (Holding setup key tree) reply).place progress off (event_of puts (actions.Unpin key) reply)
holds-on plan setup key tree progress off replies.Plain puts is agrees fits =
    let chain = chain_at plan setup.task in
    let far = place_behind key chain in
    let start = rest_at_start plan.table setup.trees chain agrees.prepared.known.linked agrees.prepared.stages in
    let behind = rest_behind plan.table setup.trees (meant plan.table chain) 0 empty_tree Empty chain key tree is start (agrees.prepared.known.marked key agrees.marked) agrees.means in
    comes_in plan (run_from plan setup far tree).place progress off false (block_at setup.task agrees.words (Some (Some key)) [] (reads key (length (chunks_meant plan key)))) (events.Unpin key) agrees.at agrees.fine
    (run_from_agrees plan setup agrees.words (Some (Some key)) [] far tree (Of key) (drop far chain) is (record {
      prepared = agrees.prepared;
      here = refl;
      at = subst (λ (n : ℕ). IsRest plan.table setup.trees (meant plan.table chain) n tree (Of key) (drop far chain)) (let none : 0 + far ≡ far = omega arith in none) behind;
      untried = λ k there. refl;
      left = λ more. refl;
      seen = and_right (not (length (marked_at plan setup.task) == 0)) false refl;
    }))
holds-on plan setup key tree progress off reply puts is agrees fits = absurd fits

reserves-on : (plan : Plan) (setup : Setup) (key : Key) (tree : Listing) (run : ℕ) (progress : Progress) (off : Bool) (reply : Reply) (puts size count : ℕ) → IsTable plan.table → IsReserving plan setup key tree run progress off → Fits plan (Reserving setup key tree run) reply
    → Comes plan (taken plan (Reserving setup key tree run) reply).place progress off (event_of puts (actions.Reserve key size count) reply)
reserves-on plan setup key tree run progress off (replies.Reserved reserve) puts size count is agrees fits = by reserve
  where
    goes : Agrees plan (run_from plan setup run tree).place (busy (block_at setup.task agrees.words agrees.looked (agrees.tried ++ key ∷ []) free)) false
    goes = run_from_agrees plan setup agrees.words agrees.looked (agrees.tried ++ key ∷ []) run tree agrees.base agrees.rest is agrees.way

    to : (next : Place) (event : Event) → Agrees plan next (turn (busy (block_at setup.task agrees.words agrees.looked agrees.tried free)) event) (refused_after event false) → Comes plan next progress off (Some event)
    to next event = comes_in plan next progress off false (block_at setup.task agrees.words agrees.looked agrees.tried free) event agrees.at agrees.fine

    by : (reserve : Reserve) → Comes plan (reserved plan setup key tree run reserve).place progress off (Some (reserve_event key reserve))
    by (reserves.Room evicted) = to (Filling setup key tree run (chunks_of tree)) (events.Room key evicted) (record {
      words = agrees.words;
      looked = agrees.looked;
      tried = agrees.tried ++ key ∷ [];
      base = agrees.base;
      rest = agrees.rest;
      count = 0;
      at = refl;
      fine = refl;
      left = chunks_are plan key tree agrees.means;
      way = agrees.way;
    })
    by reserves.Already = to (run_from plan setup run tree).place (events.Already key) goes
    by reserves.TooLarge = to (run_from plan setup run tree).place (events.TooLarge key) goes
    by reserves.Full = to (run_from plan setup run tree).place (events.Full key) goes
reserves-on plan setup key tree run progress off reply puts size count is agrees fits = absurd fits

commits-on : (plan : Plan) (setup : Setup) (key : Key) (tree : Listing) (run : ℕ) (progress : Progress) (off : Bool) (reply : Reply) (puts : ℕ) → IsTable plan.table → IsFilling plan setup key tree run [] progress off → Fits plan (Filling setup key tree run []) reply
    → Comes plan (taken plan (Filling setup key tree run []) reply).place progress off (event_of puts (actions.Commit key) reply)
commits-on plan setup key tree run progress off replies.Plain puts is agrees fits =
    comes_in plan (run_from plan setup run tree).place progress off false (block_at setup.task agrees.words agrees.looked agrees.tried (fills key agrees.count)) (events.Commit key) agrees.at agrees.fine
    (run_from_agrees plan setup agrees.words agrees.looked agrees.tried run tree agrees.base agrees.rest is agrees.way)
commits-on plan setup key tree run progress off reply puts is agrees fits = absurd fits

puts-on : (plan : Plan) (setup : Setup) (key : Key) (tree : Listing) (run : ℕ) (chunk : Listing) (chunks : List Listing) (progress : Progress) (off : Bool) (reply : Reply) (puts : ℕ) → IsFilling plan setup key tree run (chunk ∷ chunks) progress off → Fits plan (Putting setup key tree run chunks) reply
    → Comes plan (taken plan (Putting setup key tree run chunks) reply).place progress off (event_of puts (actions.Put key chunk) reply)
puts-on plan setup key tree run chunk chunks progress off replies.Plain puts agrees fits =
    comes_in plan (Filling setup key tree run chunks) progress off false (block_at setup.task agrees.words agrees.looked agrees.tried (fills key agrees.count)) (events.Put key puts) agrees.at agrees.fine (record {
      words = agrees.words;
      looked = agrees.looked;
      tried = agrees.tried;
      base = agrees.base;
      rest = agrees.rest;
      count = agrees.count + 1;
      at = refl;
      fine = refl;
      left = sym (drop-drop 1 agrees.count (chunks_meant plan key)) ∙ ap (drop 1) agrees.left;
      way = agrees.way;
    })
puts-on plan setup key tree run chunk chunks progress off reply puts agrees fits = absurd fits

-- what was in hand is given up
unpins-on : (plan : Plan) (task : TaskNo) (key : Key) (progress : Progress) (off : Bool) (reply : Reply) (puts count : ℕ) → GivesUp task (reads key count) progress off → Fits plan (Unpinning task key) reply
    → Comes plan (taken plan (Unpinning task key) reply).place progress off (event_of puts (actions.Unpin key) reply)
unpins-on plan task key progress off replies.Plain puts count up fits =
    comes_in plan (Ending task outcomes.NoMemory) progress off true (block_at task up.words up.looked up.tried (reads key count)) (events.Unpin key) up.at up.refused
    (record { words = up.words; looked = up.looked; tried = up.tried; at = refl; ends = refl })
unpins-on plan task key progress off reply puts count up fits = absurd fits

drops-on : (plan : Plan) (task : TaskNo) (key : Key) (progress : Progress) (off : Bool) (reply : Reply) (puts count : ℕ) → GivesUp task (fills key count) progress off → Fits plan (Dropping task key) reply
    → Comes plan (taken plan (Dropping task key) reply).place progress off (event_of puts (actions.Drop key) reply)
drops-on plan task key progress off replies.Plain puts count up fits =
    comes_in plan (Ending task outcomes.NoMemory) progress off true (block_at task up.words up.looked up.tried (fills key count)) (events.Drop key) up.at up.refused
    (record { words = up.words; looked = up.looked; tried = up.tried; at = refl; ends = refl })
drops-on plan task key progress off reply puts count up fits = absurd fits

ends-on : (plan : Plan) (task : TaskNo) (outcome : Outcome) (progress : Progress) (off : Bool) (reply : Reply) (puts : ℕ) → Fits plan Ended reply → Comes plan (taken plan Ended reply).place progress off (event_of puts (actions.Done task outcome) reply)
ends-on plan task outcome progress off replies.Plain puts fits = comes plan Outside progress off (events.Done task (word_of outcome)) (refl, refl)
ends-on plan task outcome progress off reply puts fits = absurd fits

-- ---- a turn, by what the job wanted

abbrev Turns : Plan → Place → Progress → Bool → Action → Reply → ℕ → Type 0
Turns plan place progress off action reply puts = Comes plan (taken plan (asked place) reply).place progress off (event_of puts action reply)

turns_as_wanted : (plan : Plan) (place : Place) (progress : Progress) (off : Bool) (reply : Reply) (puts : ℕ) → IsSound plan → IsTable plan.table → Agrees plan place progress off → Fits plan (asked place) reply → IsTrue plan (asked place) reply
    → (action : Action) → wants place ≡ Some action → Turns plan place progress off action reply puts
turns_as_wanted plan place progress off reply puts sound is = by place
  where
    wanted : (place : Place) (asks : Action) → Turns plan place progress off asks reply puts → (action : Action) → Some asks ≡ Some action → Turns plan place progress off action reply puts
    wanted place asks turned action same = subst (λ (a : Action). Turns plan place progress off a reply puts) (same_Some asks action same) turned

    by : (place : Place) → Agrees plan place progress off → Fits plan (asked place) reply → IsTrue plan (asked place) reply → (action : Action) → wants place ≡ Some action → Turns plan place progress off action reply puts
    by Outside agrees fits true_so = wanted Outside actions.Claim (claims-on plan progress off reply puts sound is agrees fits)
    by Gone agrees fits true_so = absurd fits
    by (Fetching task dep got) agrees fits true_so = wanted (Fetching task dep got) (actions.Fetch dep) (fetches-on plan task dep got progress off reply puts sound is agrees fits true_so)
    by (Looking setup) agrees fits true_so = wanted (Looking setup) (actions.Look setup.task) (looks-on plan setup progress off reply puts is agrees fits true_so)
    by (Reading setup key count parts) agrees fits true_so = wanted (Reading setup key count parts) (actions.Read key (length parts)) (reads-on plan setup key count parts progress off reply puts agrees fits true_so)
    by (Holding setup key tree) agrees fits true_so = wanted (Holding setup key tree) (actions.Unpin key) (holds-on plan setup key tree progress off reply puts is agrees fits)
    by (Reserving setup key tree run) agrees fits true_so =
        let size = tree_size tree in
        let count = chunk_count tree in
        wanted (Reserving setup key tree run) (actions.Reserve key size count) (reserves-on plan setup key tree run progress off reply puts size count is agrees fits)
    by (Filling setup key tree run []) agrees fits true_so = wanted (Filling setup key tree run []) (actions.Commit key) (commits-on plan setup key tree run progress off reply puts is agrees fits)
    by (Filling setup key tree run (chunk ∷ chunks)) agrees fits true_so =
        wanted (Filling setup key tree run (chunk ∷ chunks)) (actions.Put key chunk) (puts-on plan setup key tree run chunk chunks progress off reply puts agrees fits)
    by (Putting setup key tree run parts) agrees fits true_so = absurd agrees
    by (Unpinning task key) agrees fits true_so = wanted (Unpinning task key) (actions.Unpin key) (unpins-on plan task key progress off reply puts agrees.0 agrees.1 fits)
    by (Dropping task key) agrees fits true_so = wanted (Dropping task key) (actions.Drop key) (drops-on plan task key progress off reply puts agrees.0 agrees.1 fits)
    by (Ending task outcome) agrees fits true_so = wanted (Ending task outcome) (actions.Done task outcome) (ends-on plan task outcome progress off reply puts fits)
    by Ended agrees fits true_so = absurd agrees

-- ---- whatever was replied

pub agrees : (plan : Plan) (place : Place) (progress : Progress) (off : Bool) → IsSound plan → IsTable plan.table → Follows plan place progress off → Agrees plan place progress off
agrees plan place progress off sound is Follows.begins = (refl, refl)
agrees plan place progress off sound is (Follows.goes_on before after from was action reply puts event follows wanted made fits true_so comes_to is_place) =
    subst (λ (p : Place). Agrees plan p (turn from event) (refused_after event was)) (sym comes_to)
    (turns_as_wanted plan before from was reply puts sound is (agrees plan before from was sound is follows) fits true_so action wanted event made)
agrees plan place progress off sound is (Follows.gives_up before after from was follows comes_to) =
    subst (λ (p : Place). Agrees plan p from true) (sym comes_to) (agrees-refused plan before from was (agrees plan before from was sound is follows))
agrees plan place progress off sound is (Follows.breaks_off before after from was action reply puts event follows wanted made fits true_so comes_to) =
    let turned = turns_as_wanted plan before from was reply puts sound is (agrees plan before from was sound is follows) fits true_so action wanted event made in
    subst (λ (p : Place). Agrees plan p (turn from event) true) (sym comes_to) (agrees-refused plan (taken plan (asked before) reply).place (turn from event) (refused_after event was) turned)

pub wants_what_is_next : WantsWhatIsNext
wants_what_is_next plan place progress off sound is follows = wants-next plan place progress off (agrees plan place progress off sound is follows)
