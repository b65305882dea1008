-- Where a job and the script agree, they want the same; and where memory is refused, they agree still.
use Rattle.std.proofs.Common.{◌≡◌, ◌==◌, arith, ℕ, zero, suc, ◌<◌, Bool, true, false, List, [], ◌∷◌, length, map, drop, Option, Some, None, inl, inr, refl, sym, ap, ap₂, ◌∙◌}
use Rattle.std.specs.Prelude.{slice_get}
use Rattle.std.proofs.lemmas.List.{length-map}
use Rattle.std.proofs.lemmas.Option.{slice_get-get_or, slice_get_past}
use Rattle.osb_tree.specs.Trees.{Listing}
use Rattle.osb_tree.specs.declared.numbers.Key.{Key}
use Rattle.osb_tree.specs.declared.numbers.TaskNo.{TaskNo}
use Rattle.osb_recipe.specs.declared.outcomes.Outcome.TheVariants as outcomes
use Rattle.osb_recipe.specs.declared.plans.Plan.{Plan}
use Rattle.osb_job.specs.declared.actions.Action.TheVariants as actions
use Rattle.osb_job.specs.declared.entries.Word.{Word}
use Rattle.osb_job.specs.declared.places.Setup.{Setup}
use Rattle.osb_job.specs.declared.places.Place.{Place}
use Rattle.osb_job.specs.declared.places.Place.TheVariants.{Outside, Gone, Fetching, Looking, Reading, Holding, Reserving, Filling, Putting, Unpinning, Dropping, Ending, Ended}
use Rattle.osb_job.specs.Scripts.{Hand, free, reads, fills, Block, Progress, busy, marked_at, deps_at, chunks_meant, word_of, going_on, next}
use Rattle.osb_job.specs.Scripts.{fetching as script_fetching, reading as script_reading, filling as script_filling}
use Rattle.osb_job.specs.Jobs.{wants, refused}
use Rattle.osb_job.specs.Jobs.{filling as job_filling}
use Rattle.osb_job.proofs.AgreeingPlaces.{block_at, IsReady, GivesUp, IsEnding, Agrees}

-- ---- what is wanted is next

next_is : (plan : Plan) (progress : Progress) (off : Bool) (block : Block) → progress ≡ busy block → off ≡ false → next plan progress off ≡ Some (going_on plan block block.hand)
next_is plan progress off block at fine = ap₂ (next plan) at fine

slice_get-drop : {X : Type 0} (n : ℕ) (xs : List X) → slice_get xs n ≡ slice_get (drop n xs) 0
slice_get-drop zero xs = refl
slice_get-drop (suc n) [] = refl
slice_get-drop (suc n) (x ∷ xs) = slice_get-drop n xs

looks_first : (plan : Plan) (setup : Setup) (words : List Word) → IsReady plan setup.task words → (length (marked_at plan setup.task) == 0) ≡ false → going_on plan (block_at setup.task words None [] free) free ≡ actions.Look setup.task
looks_first plan setup words ready some = rw (ready.fetched, ready.memory, ready.trees, some)

reads_on : (plan : Plan) (key : Key) (at : ℕ) → at < length (chunks_meant plan key) → script_reading key at (slice_get (chunks_meant plan key) at) ≡ actions.Read key at
reads_on plan key at within = ap (script_reading key at) (slice_get-get_or (chunks_meant plan key) at [] within)

reads_all : (plan : Plan) (key : Key) → script_reading key (length (chunks_meant plan key)) (slice_get (chunks_meant plan key) (length (chunks_meant plan key))) ≡ actions.Unpin key
reads_all plan key = ap (script_reading key (length (chunks_meant plan key))) (slice_get_past (chunks_meant plan key) (length (chunks_meant plan key)) (omega arith))

fills_on : (key : Key) (parts : List Listing) → script_filling key (slice_get parts 0) ≡ job_filling key parts
fills_on key [] = refl
fills_on key (chunk ∷ chunks) = refl

pub wants-next : (plan : Plan) (place : Place) (progress : Progress) (off : Bool) → Agrees plan place progress off → wants place ≡ next plan progress off
wants-next plan Outside progress off agrees = sym (ap₂ (next plan) agrees.0 agrees.1)
wants-next plan Gone progress off (inl ended) = sym (ap (λ (p : Progress). next plan p off) ended)
wants-next plan Gone progress off (inr left) = sym (ap₂ (next plan) left.0 left.1)
wants-next plan (Fetching task dep got) progress off agrees =
    let block = block_at task (map word_of got) None [] free in
    sym (next_is plan progress off block agrees.at agrees.fine ∙ ap (λ (there : Option TaskNo). Some (script_fetching plan block there)) (ap (slice_get (deps_at plan task)) (length-map got word_of) ∙ agrees.next))
wants-next plan (Looking setup) progress off agrees =
    sym (next_is plan progress off _ agrees.at agrees.fine ∙ ap Some (looks_first plan setup agrees.words agrees.prepared.ready agrees.some))
wants-next plan (Reading setup key count parts) progress off agrees =
    sym (next_is plan progress off _ agrees.at agrees.fine ∙ ap Some (reads_on plan key (length parts) (omega (arith, agrees.all, agrees.more))))
wants-next plan (Holding setup key tree) progress off agrees =
    sym (next_is plan progress off _ agrees.at agrees.fine ∙ ap Some (reads_all plan key))
wants-next plan (Reserving setup key tree run) progress off agrees = sym agrees.asks
wants-next plan (Filling setup key tree run parts) progress off agrees =
    let chunks = chunks_meant plan key in
    sym (next_is plan progress off _ agrees.at agrees.fine
    ∙ ap (λ (there : Option Listing). Some (script_filling key there)) (slice_get-drop agrees.count chunks ∙ ap (λ (left : List Listing). slice_get left 0) agrees.left)
    ∙ ap Some (fills_on key parts))
wants-next plan (Putting setup key tree run parts) progress off agrees = absurd agrees
wants-next plan (Unpinning task key) progress off agrees = sym (ap₂ (next plan) agrees.1.at agrees.1.refused)
wants-next plan (Dropping task key) progress off agrees = sym (ap₂ (next plan) agrees.1.at agrees.1.refused)
wants-next plan (Ending task outcome) progress off agrees = sym agrees.ends
wants-next plan Ended progress off agrees = absurd agrees

-- ---- where memory is refused

given_up : (task : TaskNo) (hand : Hand) (words : List Word) (looked : Option (Option Key)) (tried : List Key) (progress : Progress) → progress ≡ busy (block_at task words looked tried hand) → GivesUp task hand progress true
given_up task hand words looked tried progress at = record { words = words; looked = looked; tried = tried; at = at; refused = refl }

ends : (plan : Plan) (task : TaskNo) (words : List Word) (looked : Option (Option Key)) (tried : List Key) (progress : Progress) → progress ≡ busy (block_at task words looked tried free) → IsEnding plan task outcomes.NoMemory progress true
ends plan task words looked tried progress at = record { words = words; looked = looked; tried = tried; at = at; ends = ap (λ (p : Progress). next plan p true) at }

pub agrees-refused : (plan : Plan) (place : Place) (progress : Progress) (off : Bool) → Agrees plan place progress off → Agrees plan (refused place) progress true
agrees-refused plan Outside progress off agrees = inr (agrees.0, refl)
agrees-refused plan Gone progress off (inl ended) = inl ended
agrees-refused plan Gone progress off (inr left) = inr (left.0, refl)
agrees-refused plan (Fetching task dep got) progress off agrees = ends plan task (map word_of got) None [] progress agrees.at
agrees-refused plan (Looking setup) progress off agrees = ends plan setup.task agrees.words None [] progress agrees.at
agrees-refused plan (Reading setup key count parts) progress off agrees = (length parts, given_up setup.task (reads key (length parts)) agrees.words (Some (Some key)) [] progress agrees.at)
agrees-refused plan (Holding setup key tree) progress off agrees =
    let count = length (chunks_meant plan key) in
    (count, given_up setup.task (reads key count) agrees.words (Some (Some key)) [] progress agrees.at)
agrees-refused plan (Reserving setup key tree run) progress off agrees = ends plan setup.task agrees.words agrees.looked agrees.tried progress agrees.at
agrees-refused plan (Filling setup key tree run parts) progress off agrees = (agrees.count, given_up setup.task (fills key agrees.count) agrees.words agrees.looked agrees.tried progress agrees.at)
agrees-refused plan (Putting setup key tree run parts) progress off agrees = absurd agrees
agrees-refused plan (Unpinning task key) progress off agrees = (agrees.0, given_up task (reads key agrees.0) agrees.1.words agrees.1.looked agrees.1.tried progress agrees.1.at)
agrees-refused plan (Dropping task key) progress off agrees = (agrees.0, given_up task (fills key agrees.0) agrees.1.words agrees.1.looked agrees.1.tried progress agrees.1.at)
agrees-refused plan (Ending task outcome) progress off agrees = ends plan task agrees.words agrees.looked agrees.tried progress agrees.at
agrees-refused plan Ended progress off agrees = absurd agrees
