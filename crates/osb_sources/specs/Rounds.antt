-- What gathering asks of the fetchers, and what it leaves of their list.
use Rattle.std.specs.Prelude.{◌≡◌, ◌≢◌, ℕ, ◌≤◌, Bool, false, not, IsTrue, List, [], ◌∷◌, length, map, slice_get, Option, Some, None, Result, Ok, Err, IfSome, if◌then◌else◌}
use Rattle.std.specs.List.{All, filter}
use Rattle.sha2.specs.Sha256.{sha256}
use Rattle.osb_base.specs.Faults.{Rose}
use Rattle.osb_base.specs.Shelves.{file_of}
use Rattle.osb_base.specs.Fetchers.{FetcherState}
use Rattle.osb_sources.specs.Verdicts.{Verdict, failed, absent, judged, is_right, item, is_asked}
use Rattle.osb_sources.specs.declared.items.Items.{Items}
use Rattle.osb_sources.specs.declared.answers.SourceAnswer.{SourceAnswer}
use Rattle.osb_sources.specs.declared.answers.SourceAnswer.TheVariants.{NoMemory}

-- ---- one item

-- a fetcher while one item is gathered: as it was and as it is, whether it was taken out of the list, whether its call
-- failed, and what it has under the digest
pub record Try : Type 0 where
  pub before : FetcherState
  pub now : FetcherState
  pub is_out : Bool
  pub is_failed : Bool
  pub has : Option (List ℕ)

-- what it holds stays; its call fails only where its count rose, and never where it is gone; none is taken out but a
-- gone one; and where it tells, it has what it tells
pub record IsTry (digest : List ℕ) (try : Try) : Type 0 where
  pub gone_stays : try.now.is_gone ≡ try.before.is_gone
  pub told_stays : try.now.told ≡ try.before.told
  pub later : try.before.faults ≤ try.now.faults
  pub failed : IsTrue try.is_failed → Rose try.before.faults try.now.faults
  pub gone : IsTrue try.before.is_gone → try.is_failed ≡ false
  pub gone_count : IsTrue try.before.is_gone → try.now.faults ≡ try.before.faults
  pub out : IsTrue try.is_out → IsTrue try.before.is_gone
  pub told : IfSome try.before.told (λ items. try.has ≡ file_of items digest)

abbrev pub held_verdict : List ℕ → Option (List ℕ) → Verdict
held_verdict digest None = absent
held_verdict digest (Some bytes) = judged digest bytes

abbrev pub verdict : List ℕ → Try → Verdict
verdict digest try = if try.is_failed then failed else held_verdict digest try.has

abbrev pub is_live : FetcherState → Bool
is_live fetcher = not fetcher.is_gone

-- what the fetchers that are not gone have of the item
abbrev pub verdicts : List ℕ → List Try → List Verdict
verdicts digest tries = map (verdict digest) (filter (λ try. is_live try.before) tries)

abbrev pub stays : Try → Bool
stays try = not try.is_out

-- of fetchers that are asked in order until one has the item's bytes, the gone ones leave
abbrev pub left : List ℕ → List Try → List Try
left digest [] = []
left digest (try ∷ tries) =
    if is_live try.before then try ∷ (if is_right (verdict digest try) then tries else left digest tries)
    else left digest tries

abbrev pub left_of : Items → List ℕ → List Try → List Try
left_of items digest tries = if is_asked items digest then left digest tries else tries

-- one item is gathered: the fetchers before, those left, and the item's bytes, or why there are none
pub record IsRound (items : Items) (digest : List ℕ) (before now : List FetcherState) (result : Result (List ℕ) SourceAnswer) : Type 0 where
  pub tries : List Try
  pub each : All (IsTry digest) tries
  pub before_is : map (λ try. try.before) tries ≡ before
  pub now_is : map (λ try. try.now) (filter stays tries) ≡ now
  pub left_is : result ≢ Err NoMemory → filter stays tries ≡ left_of items digest tries
  pub answer : result ≢ Err NoMemory → result ≡ item items digest (verdicts digest tries)

-- ---- all items

abbrev pub with_first : List ℕ → Result (List (List ℕ)) SourceAnswer → Result (List (List ℕ)) SourceAnswer
with_first bytes (Ok others) = Ok (bytes ∷ others)
with_first bytes (Err answer) = Err answer

-- items are gathered in order, up to the first that is not had; want of memory may end it anywhere
pub data Gathers (items : Items) : List (List ℕ) → List FetcherState → List FetcherState → Result (List (List ℕ)) SourceAnswer → Type 0 where
  all_had : (fetchers : List FetcherState) → Gathers items [] fetchers fetchers (Ok [])
  one_had : (digest : List ℕ) (digests : List (List ℕ)) (before between now : List FetcherState) (bytes : List ℕ) (others : Result (List (List ℕ)) SourceAnswer) → IsRound items digest before between (Ok bytes) → Gathers items digests between now others → Gathers items (digest ∷ digests) before now (with_first bytes others)
  not_had : (digest : List ℕ) (digests : List (List ℕ)) (before now : List FetcherState) (answer : SourceAnswer) → IsRound items digest before now (Err answer) → Gathers items (digest ∷ digests) before now (Err answer)
  unfinished : (digests : List (List ℕ)) (fetchers : List FetcherState) → Gathers items digests fetchers fetchers (Err NoMemory)

-- ---- what follows for the whole list, whatever the answer

pub record Stays (before now : FetcherState) : Type 0 where
  pub gone_stays : now.is_gone ≡ before.is_gone
  pub told_stays : now.told ≡ before.told
  pub later : before.faults ≤ now.faults

-- in order, all are still there but some that are gone
pub data IsThinned : List FetcherState → List FetcherState → Type 0 where
  no_fetcher : IsThinned [] []
  one_stays : (before now : FetcherState) (befores nows : List FetcherState) → Stays before now → IsThinned befores nows → IsThinned (before ∷ befores) (now ∷ nows)
  one_leaves : (before : FetcherState) (befores nows : List FetcherState) → IsTrue before.is_gone → IsThinned befores nows → IsThinned (before ∷ befores) nows

abbrev pub live : List FetcherState → List FetcherState
live fetchers = filter is_live fetchers

-- the count of one that is not gone rose
pub record SomeRose (before now : List FetcherState) : Type 0 where
  pub place : ℕ
  pub was : FetcherState
  pub is : FetcherState
  pub was_at : slice_get (live before) place ≡ Some was
  pub is_at : slice_get (live now) place ≡ Some is
  pub rose : Rose was.faults is.faults

-- bytes of an item: at most 16,777,216 that have its digest
pub record IsItem (digest bytes : List ℕ) : Type 0 where
  pub short : length bytes ≤ 16777216
  pub named : sha256 bytes ≡ digest

-- for each digest its item
abbrev pub AreItems : List (List ℕ) → List (List ℕ) → Type 0
AreItems [] [] = Unit {0}
AreItems [] (bytes ∷ others) = ⊥
AreItems (digest ∷ digests) [] = ⊥
AreItems (digest ∷ digests) (bytes ∷ others) = IsItem digest bytes × AreItems digests others
