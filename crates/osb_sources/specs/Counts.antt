-- How many calls of each fetcher failed while items were gathered.
use Rattle.std.specs.Prelude.{ℕ, ◌+◌, ◌-◌, ◌^◌, ◌≤◌, min, List, [], ◌∷◌, map, Result, if◌then◌else◌}
use Rattle.std.specs.List.{filter}
use Rattle.osb_base.specs.Fetchers.{FetcherState}
use Rattle.osb_sources.specs.Rounds.{Try, is_live, Gathers, all_had, one_had, not_had, unfinished, live}
use Rattle.osb_sources.specs.declared.items.Items.{Items}
use Rattle.osb_sources.specs.declared.answers.SourceAnswer.{SourceAnswer}

abbrev pub count_failed : Try → ℕ
count_failed try = if try.is_failed then 1 else 0

-- of each fetcher that isn't gone, how many of its calls for one item failed
abbrev pub failed_calls : List Try → List ℕ
failed_calls tries = map count_failed (filter (λ try. is_live try.before) tries)

abbrev pub no_calls : List FetcherState → List ℕ
no_calls fetchers = map (λ fetcher. 0) (live fetchers)

-- the sum at each place
abbrev pub sums : List ℕ → List ℕ → List ℕ
sums [] ns = []
sums (m ∷ ms) [] = []
sums (m ∷ ms) (n ∷ ns) = (m + n) ∷ sums ms ns

-- of each fetcher that isn't gone, how many of its calls failed
abbrev pub failures : {items : Items} {digests : List (List ℕ)} {before now : List FetcherState} {result : Result (List (List ℕ)) SourceAnswer} → Gathers items digests before now result → List ℕ
failures (all_had fetchers) = no_calls fetchers
failures (one_had digest digests before between now bytes others round rest) = sums (failed_calls round.tries) (failures rest)
failures (not_had digest digests before now answer round) = failed_calls round.tries
failures (unfinished digests fetchers) = no_calls fetchers

-- each count rose by that much at least, or stands at its last value
abbrev pub AreRisen : List FetcherState → List FetcherState → List ℕ → Type 0
AreRisen [] [] [] = Unit {0}
AreRisen (before ∷ befores) (now ∷ nows) (n ∷ ns) = (min (before.faults + n) (2 ^ 64 - 1) ≤ now.faults) × AreRisen befores nows ns
AreRisen befores nows ns = ⊥
