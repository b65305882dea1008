-- What is read of a value in which nothing is wrong leaves out no `build` and no item.
use Rattle.std.proofs.Common.{◌≡◌, ℕ, zero, suc, ◌+◌, ◌||◌, not, ◌&&◌, Bool, true, false, true≢false, cond, List, [], ◌∷◌, codes, take, map, Option, Some, None, is_some, IsSome, option_map, option_and_then, length, refl, sym, ap, ap₂, ◌∙◌, subst}
use Rattle.std.specs.Str.{bytes_eq}
use Rattle.std.specs.List.{AllByRecursion, filter_map, cons_option, list_any, position_from}
use Rattle.std.specs.Map.{keys_of}
use Rattle.serde_json.specs.Data.{Data, Members, no_members, member}
use Rattle.osb_base.specs.Digests.{digest_of}
use Rattle.osb_shape.specs.Firsts.{first}
use Rattle.osb_shape.specs.Forms.{is_pipeline_name}
use Rattle.osb_shape.specs.References.{referred}
use Rattle.osb_shape.specs.Values.{there_is, is_text, list_at, text_at}
use Rattle.osb_manifest.specs.Walks.{name_of, items_of, is_taken, is_build_lost, are_digests, refusals_of}
use Rattle.osb_manifest.specs.Right.{IsRightPipeline, AllMembers, AreBuiltBefore, stage_counts, have_builds, names_of, IsKept}
use Rattle.osb_manifest.specs.Manifests.{place_named, made_inline, made_curl, made_stage, made_build, pipeline_with, made_pipeline, made_manifest}
use Rattle.osb_manifest.specs.Pairs.{both}
use Rattle.osb_manifest.specs.declared.manifests.Manifest.{Manifest}
use Rattle.osb_manifest.specs.declared.manifests.Refusal.{Refusal}
use Rattle.osb_manifest.specs.declared.manifests.Pipeline.{Pipeline}
use Rattle.osb_manifest.specs.declared.manifests.Stage.{Stage}
use Rattle.osb_manifest.proofs.Rightness.{HasData, right, built_before_where_right, listed_by_digest, held_with_data}
use Rattle.osb_manifest.proofs.Nothing.{none-from_first}
use Rattle.osb_manifest.proofs.WellFormed.{none_taken, any_named, not_lost, no_refusal}

place_by : (b : Bool) (i : ℕ) (later : Option ℕ) (rest : Bool) → (rest ≡ true → is_some later ≡ true) → (b || rest) ≡ true → is_some (cond b (Some i) later) ≡ true
place_by true i later rest k h = refl
place_by false i later rest k h = k h

some_place : (test : Data → Bool) (i n : ℕ) (pipelines : List Data) → list_any test (take n pipelines) ≡ true → is_some (position_from test i pipelines) ≡ true
some_place test i zero pipelines h = absurd (true≢false (sym h ∙ none_taken test pipelines))
some_place test i (suc n) [] h = absurd (true≢false (sym h))
some_place test i (suc n) (pipeline ∷ pipelines) h =
    place_by (test pipeline) i (position_from test (i + 1) pipelines) (list_any test (take n pipelines)) (some_place test (i + 1) n pipelines) h

-- where a pipeline before a place has the name, it has a place
some_named : (pipelines : List Data) (i : ℕ) (name : Option (List ℕ)) → there_is (is_taken pipelines i) name ≡ true → is_some (option_and_then (place_named pipelines) name) ≡ true
some_named pipelines i None h = absurd (true≢false (sym h))
some_named pipelines i (Some name) h = some_place (λ pipeline. is_text name (name_of pipeline)) 0 i pipelines (sym (any_named (bytes_eq name) (take i pipelines)) ∙ h)

build_kept : (whole : Data) (i : ℕ) (value : Data) → is_build_lost whole i value ≡ false → is_some (made_build (list_at (codes "pipelines") whole) value) ≡ is_some (text_at (codes "build") value)
build_kept whole i value h = by_text (text_at (codes "build") value) h
  where
    by_text : (text : Option (List ℕ)) → (is_some text && not (there_is (is_taken (list_at (codes "pipelines") whole) i) (option_and_then referred text))) ≡ false
        → is_some (option_and_then (place_named (list_at (codes "pipelines") whole)) (option_and_then referred text)) ≡ is_some text
    by_text None k = refl
    by_text (Some text) k = some_named (list_at (codes "pipelines") whole) i (referred text) (not_lost true (there_is (is_taken (list_at (codes "pipelines") whole) i) (referred text)) refl k)

cons_build : (name : Option (List ℕ)) (build : Option ℕ) (stages : List Stage) (rest : List (List ℕ × Pipeline)) (there : Bool) (others : List Bool) → there_is is_pipeline_name name ≡ true → is_some build ≡ there → map (λ p. is_some p.1.build) rest ≡ others
    → map (λ p. is_some p.1.build) (cons_option (option_map (λ n. (n, pipeline_with build stages)) name) rest) ≡ there ∷ others
cons_build None build stages rest there others n e k = absurd (true≢false (sym n))
cons_build (Some name) build stages rest there others n e k = ap₂ (λ b bs. b ∷ bs) e k

builds_from : (whole : Data) (i : ℕ) (values : List Data) → AllByRecursion IsRightPipeline values → AreBuiltBefore whole i values → map (λ p. is_some p.1.build) (filter_map (made_pipeline (list_at (codes "pipelines") whole)) values) ≡ have_builds values
builds_from whole i [] n r = refl
builds_from whole i (value ∷ values) n r =
    cons_build (name_of value) (made_build (list_at (codes "pipelines") whole) value) (filter_map (made_stage (list_at (codes "pipelines") whole)) (list_at (codes "stages") value)) (filter_map (made_pipeline (list_at (codes "pipelines") whole)) values)
    (is_some (text_at (codes "build") value)) (have_builds values) n.0.named (build_kept whole i value r.0.build) (builds_from whole (i + 1) values n.1 r.1)

builds_kept : (whole : Data) → refusals_of whole ≡ [] → map (λ p. is_some p.1.build) (filter_map (made_pipeline (list_at (codes "pipelines") whole)) (list_at (codes "pipelines") whole)) ≡ have_builds (list_at (codes "pipelines") whole)
builds_kept whole e = builds_from whole 0 (list_at (codes "pipelines") whole) (right whole e) (built_before_where_right whole e)

-- ---- items

both_true : (a b : Bool) → (a && b) ≡ true → (a ≡ true) × (b ≡ true)
both_true true b e = (refl, e)
both_true false b e = absurd (true≢false (sym e))

cons_listed : (digest : Option (List ℕ)) (more : List (List ℕ)) (others : List (Option (List ℕ))) → is_some digest ≡ true → map Some more ≡ others → map Some (cons_option digest more) ≡ digest ∷ others
cons_listed None more others h k = absurd (true≢false (sym h))
cons_listed (Some digest) more others h k = ap (λ os. Some digest ∷ os) k

curl_kept : (items : Members) → are_digests items ≡ true → map Some (made_curl items) ≡ map digest_of (names_of items)
curl_kept no_members h = refl
curl_kept (member name value rest) h =
    let here = both_true (is_some (digest_of name)) (are_digests rest) h in
    cons_listed (digest_of name) (made_curl rest) (map digest_of (names_of rest)) here.0 (curl_kept rest here.1)

cons_held : (digest text : Option (List ℕ)) (more : List (List ℕ × List ℕ)) (others : List (Option (List ℕ))) → is_some digest ≡ true → IsSome text → map Some (keys_of more) ≡ others → map Some (keys_of (cons_option (both (λ d t. (d, t)) digest text) more)) ≡ digest ∷ others
cons_held None text more others h t k = absurd (true≢false (sym h))
cons_held (Some digest) None more others h t k = absurd (true≢false (sym t))
cons_held (Some digest) (Some text) more others h t k = ap (λ os. Some digest ∷ os) k

inline_kept : (items : Members) → are_digests items ≡ true → AllMembers HasData items → map Some (keys_of (made_inline items)) ≡ map digest_of (names_of items)
inline_kept no_members h data_there = refl
inline_kept (member name value rest) h data_there =
    let here = both_true (is_some (digest_of name)) (are_digests rest) h in
    cons_held (digest_of name) (text_at (codes "data") value) (made_inline rest) (map digest_of (names_of rest)) here.0 data_there.0 (inline_kept rest here.1 data_there.1)

-- ---- manifests

IsKept-made : (whole : Data) (stages : map (λ p. length p.1.stages) (made_manifest whole).pipelines ≡ stage_counts (list_at (codes "pipelines") whole)) → refusals_of whole ≡ [] → IsKept whole (made_manifest whole)
IsKept-made whole stages e = record {
  stages = stages;
  builds = builds_kept whole e;
  inline = inline_kept (items_of (codes "org.osbuild.inline") whole) (listed_by_digest whole (codes "org.osbuild.inline") e) (held_with_data whole e);
  curl = curl_kept (items_of (codes "org.osbuild.curl") whole) (listed_by_digest whole (codes "org.osbuild.curl") e);
}

pub IsKept-read : (whole : Data) (found : Option Refusal) (manifest : Manifest) → found ≡ first (refusals_of whole) → ((refusal : Refusal) → found ≡ Some refusal → ⊥) → manifest ≡ made_manifest whole
    → map (λ p. length p.1.stages) manifest.pipelines ≡ stage_counts (list_at (codes "pipelines") whole) → IsKept whole manifest
IsKept-read whole found manifest is none made stages =
    subst (IsKept whole) (sym made)
    (IsKept-made whole (ap (λ (m : Manifest). map (λ p. length p.1.stages) m.pipelines) (sym made) ∙ stages) (none-from_first (refusals_of whole) (sym is ∙ no_refusal found none)))
