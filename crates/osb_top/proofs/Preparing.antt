-- Builds that are prepared one after another, and then put with those that are planned.
use Rattle.std.proofs.Common.{◌≡◌, ℕ, ◌+◌, List, [], ◌∷◌, ◌++◌, length, Result, Ok, Err, sym, refl, ap, subst, ◌∙◌, arith}
use Rattle.std.proofs.lemmas.Slice.Zip.{all_zipped_more}
use Rattle.std.specs.List.{AllZip, filter_map}
use Rattle.std.specs.Result.{result_ok}
use Rattle.osb_base.specs.Fetchers.{FetcherState}
use Rattle.osb_plan.specs.declared.builds.Build.{Build}
use Rattle.osb_words.specs.declared.requests.Settings.{Settings}
use Rattle.osb_ready.specs.Readying.{Reply, IsPrepared}
use Rattle.osb_ready.specs.declared.unbuilt.Unbuilt.{Unbuilt}
use Rattle.osb_top.specs.Builds.{ArePrepared, all_prepared, one_prepared, place_of, places_from}

-- ---- one more build

prepared_then : {settings : Settings} {first between : List FetcherState} {reads : List Reply} {builds : List (Result Build Unbuilt)} (given : Reply) (ready : Result Build Unbuilt) (now : List FetcherState)
    → ArePrepared settings first reads builds between → IsPrepared settings given between now ready → ArePrepared settings first (reads ++ given ∷ []) (builds ++ ready ∷ []) now
prepared_then given ready now (all_prepared fetchers) is = one_prepared fetchers now now given ready [] [] is (all_prepared now)
prepared_then given ready now (one_prepared before between after other build reads builds was others) is =
    one_prepared before between now other build (reads ++ given ∷ []) (builds ++ ready ∷ []) was (prepared_then given ready now others is)

pub prepared_first : (settings : Settings) (fetchers : List FetcherState) (builds : List (Result Build Unbuilt)) → builds ≡ [] → ArePrepared settings fetchers [] builds fetchers
prepared_first settings fetchers builds none = subst (λ (list : List (Result Build Unbuilt)). ArePrepared settings fetchers [] list fetchers) (sym none) (all_prepared fetchers)

pub prepared_more : (settings : Settings) (first between now : List FetcherState) (reads : List Reply) (builds more : List (Result Build Unbuilt)) (given : Reply) (ready : Result Build Unbuilt)
    → more ≡ builds ++ ready ∷ [] → ArePrepared settings first reads builds between → IsPrepared settings given between now ready → ArePrepared settings first (reads ++ given ∷ []) more now
prepared_more settings first between now reads builds more given ready pushed are is =
    subst (λ (list : List (Result Build Unbuilt)). ArePrepared settings first (reads ++ given ∷ []) list now) (sym pushed) (prepared_then given ready now are is)

-- ---- the builds that are planned

planned_then : (readies rest : List (Result Build Unbuilt)) → filter_map result_ok (readies ++ rest) ≡ filter_map result_ok readies ++ filter_map result_ok rest
planned_then [] rest = refl
planned_then (Ok build ∷ readies) rest = ap (λ list. build ∷ list) (planned_then readies rest)
planned_then (Err why ∷ readies) rest = planned_then readies rest

pub planned_more : (planned more : List Build) (readies : List (Result Build Unbuilt)) (ready : Result Build Unbuilt) → planned ≡ filter_map result_ok readies → more ≡ planned ++ filter_map result_ok (ready ∷ []) → more ≡ filter_map result_ok (readies ++ ready ∷ [])
planned_more planned more readies ready are pushed = pushed ∙ ap (λ list. list ++ filter_map result_ok (ready ∷ [])) are ∙ sym (planned_then readies (ready ∷ []))

places_then : (next : ℕ) (readies : List (Result Build Unbuilt)) (ready : Result Build Unbuilt) → places_from next (readies ++ ready ∷ []) ≡ places_from next readies ++ place_of (next + length (filter_map result_ok readies)) ready ∷ []
places_then next [] ready = let same : next ≡ next + 0 = omega arith in ap (λ place. place_of place ready ∷ []) same
places_then next (Ok build ∷ readies) ready =
    let same : (next + 1) + length (filter_map result_ok readies) ≡ next + length (filter_map result_ok (Ok build ∷ readies)) = omega arith in
    ap (λ list. Ok next ∷ list) (places_then (next + 1) readies ready ∙ ap (λ place. places_from (next + 1) readies ++ place_of place ready ∷ []) same)
places_then next (Err why ∷ readies) ready = ap (λ list. Err why ∷ list) (places_then next readies ready)

pub places_more : (places more : List (Result ℕ Unbuilt)) (planned : List Build) (readies : List (Result Build Unbuilt)) (ready : Result Build Unbuilt)
    → planned ≡ filter_map result_ok readies → places ≡ places_from 0 readies → more ≡ places ++ place_of (length planned) ready ∷ [] → more ≡ places_from 0 (readies ++ ready ∷ [])
places_more places more planned readies ready are placed pushed =
    let start : length (filter_map result_ok readies) ≡ 0 + length (filter_map result_ok readies) = omega arith in
    pushed ∙ ap (λ list. list ++ place_of (length planned) ready ∷ []) placed ∙ ap (λ list. places_from 0 readies ++ place_of (length list) ready ∷ []) are
    ∙ ap (λ place. places_from 0 readies ++ place_of place ready ∷ []) start ∙ sym (places_then 0 readies ready)

-- ---- items one after another, each of which is related to the one at its place

module _ {X Y : Type 0} (R : X → Y → Type 0) where
  pub zipped_first : (ys : List Y) → ys ≡ [] → AllZip R [] ys
  zipped_first ys none = subst (λ (list : List Y). AllZip R [] list) (sym none) tt

  pub zipped_more : (xs : List X) (ys more : List Y) (x : X) (y : Y) → more ≡ ys ++ y ∷ [] → AllZip R xs ys → R x y → AllZip R (xs ++ x ∷ []) more
  zipped_more xs ys more x y pushed are is = subst (λ (list : List Y). AllZip R (xs ++ x ∷ []) list) (sym pushed) (all_zipped_more R xs ys x y are is)
