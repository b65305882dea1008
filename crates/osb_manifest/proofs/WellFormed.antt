-- What is read is well-formed.
use Rattle.std.proofs.Common.{◌≡◌, ℕ, zero, suc, ◌+◌, ◌<◌, ◌&&◌, ◌||◌, not, Bool, true, false, true≢false, cond, List, [], ◌∷◌, codes, take, Option, Some, None, is_some, IsSome, IsTrue, Less, option_map, option_and_then, Result, Ok, Err, eqb, refl, sym, ap, ◌∙◌, subst, arith}
use Rattle.std.specs.Str.{bytes_eq, is_utf8}
use Rattle.std.specs.Ordering.{nat_cmp, eq_by_cmp}
use Rattle.std.specs.Cmp.Lexicographic.{lists_ties}
use Rattle.std.proofs.lemmas.Bool.Decides.{nat_tests}
use Rattle.std.proofs.lemmas.Map.Keys.{IsDistinct-from_sorted}
use Rattle.std.specs.List.{IsDistinct, AllByRecursion, filter_map, cons_option, list_any, position_from}
use Rattle.std.specs.Map.{keys_of, values_of}
use Rattle.std.specs.Option.{IfSome}
use Rattle.std.specs.Result.{result_ok}
use Rattle.std.specs.List.Sorted.{IsStrictlySortedBy}
use Rattle.serde_json.specs.Data.{Data, object, Members, no_members, member}
use Rattle.serde_json.specs.Find.{get}
use Rattle.serde_json.specs.Read.{read}
use Rattle.serde_json.proofs.Nesting.{depth-read}
use Rattle.osb_base.specs.Digests.{digest_of}
use Rattle.osb_pyjson.specs.PyText.{py_data}
use Rattle.osb_recipe.specs.Kinds.{kind_of}
use Rattle.osb_recipe.specs.declared.kinds.StageKind.{StageKind}
use Rattle.osb_recipe.specs.declared.kinds.KindFault.{KindFault}
use Rattle.osb_shape.specs.Firsts.{first}
use Rattle.osb_shape.specs.Forms.{is_pipeline_name}
use Rattle.osb_shape.specs.References.{references_at, is_tree_input, referred, referred_first}
use Rattle.osb_shape.specs.Values.{there_is, is_text, list_at, text_at, members_at}
use Rattle.osb_manifest.specs.Pairs.{both}
use Rattle.osb_manifest.specs.Walks.{name_of, options_of, items_of, is_taken, is_build_lost, refusals_of}
use Rattle.osb_manifest.specs.Right.{IsRightPipeline, AllMembers, IsRightInput, HasRightInputs, AreBuiltBefore}
use Rattle.osb_manifest.specs.Manifests.{json_of, place_named, made_tree, made_file, made_files, made_input, named_input, made_inputs, made_held, made_inline, stage_with, made_stage, made_build, pipeline_with, made_pipeline, made_manifest, name_cmp, IsInput, IsStage, ArePipelines, IsWellFormed}
use Rattle.osb_manifest.specs.declared.manifests.Manifest.{Manifest}
use Rattle.osb_manifest.specs.declared.manifests.Pipeline.{Pipeline}
use Rattle.osb_manifest.specs.declared.manifests.Stage.{Stage}
use Rattle.osb_manifest.specs.declared.manifests.Input.{Input}
use Rattle.osb_manifest.specs.declared.manifests.Input.TheVariants.{Tree, Files}
use Rattle.osb_manifest.specs.declared.manifests.Refusal.{Refusal}
use Rattle.osb_manifest.proofs.Depths.{IsShallow, shallow-list_at, shallow-options_of}
use Rattle.osb_manifest.proofs.Distinct.{IsDistinct-made}
use Rattle.osb_manifest.proofs.Nothing.{none-from_first}
use Rattle.osb_manifest.proofs.Ordered.{IsRising, IsOrdered, HasOrdered, ordered-read, ordered-get, ordered-list_at, whole-members_in, whole-members_at, rising-references_at}
use Rattle.osb_manifest.proofs.Rightness.{right, built_before_where_right}
use Rattle.osb_manifest.proofs.Rising.{rising-collected}
use Rattle.osb_base.proofs.DigestOrder.{digests_rise}

-- ---- inputs

below_later : (i n : ℕ) (found : Option ℕ) → IfSome found (λ place. place < i + 1 + n) → IfSome found (λ place. place < i + suc n)
below_later i n None k = tt
below_later i n (Some place) k = omega arith

pub none_taken : (test : Data → Bool) (values : List Data) → list_any test (take 0 values) ≡ false
none_taken test [] = refl
none_taken test (value ∷ values) = refl

place_by : (test : Data → Bool) (b : Bool) (i n : ℕ) (pipelines : List Data) → (list_any test (take n pipelines) ≡ true → IfSome (position_from test (i + 1) pipelines) (λ place. place < i + 1 + n)) → (b || list_any test (take n pipelines)) ≡ true
    → IfSome (cond b (Some i) (position_from test (i + 1) pipelines)) (λ place. place < i + suc n)
place_by test true i n pipelines later h = omega arith
place_by test false i n pipelines later h = below_later i n (position_from test (i + 1) pipelines) (later h)

-- the first pipeline of a name stands before any place before which there is one
place_before : (test : Data → Bool) (i n : ℕ) (pipelines : List Data) → list_any test (take n pipelines) ≡ true → IfSome (position_from test i pipelines) (λ place. place < i + n)
place_before test i zero pipelines h = absurd (true≢false (sym h ∙ none_taken test pipelines))
place_before test i (suc n) [] h = tt
place_before test i (suc n) (pipeline ∷ pipelines) h = place_by test (test pipeline) i n pipelines (place_before test (i + 1) n pipelines) h

any_with : (test : List ℕ → Bool) (name : Option (List ℕ)) (names : List (List ℕ)) (rest : Bool) → list_any test names ≡ rest → list_any test (cons_option name names) ≡ (there_is test name || rest)
any_with test None names rest e = e
any_with test (Some name) names rest e = ap (λ more. test name || more) e

pub any_named : (test : List ℕ → Bool) (values : List Data) → list_any test (filter_map name_of values) ≡ list_any (λ value. there_is test (name_of value)) values
any_named test [] = refl
any_named test (value ∷ values) = any_with test (name_of value) (filter_map name_of values) _ (any_named test values)

tree_below : (place : Option ℕ) (i : ℕ) (text : Option (List ℕ)) → IfSome place (λ p. p < i) → IfSome (both Tree place text) (IsInput i)
tree_below None i text h = tt
tree_below (Some place) i None h = tt
tree_below (Some place) i (Some text) h = h

found_before : (pipelines : List Data) (i : ℕ) (name : Option (List ℕ)) → there_is (is_taken pipelines i) name ≡ true → IfSome (option_and_then (place_named pipelines) name) (λ p. p < i)
found_before pipelines i None h = tt
found_before pipelines i (Some name) h = shifted (place_named pipelines name) (place_before (λ pipeline. is_text name (name_of pipeline)) 0 i pipelines (sym (any_named (bytes_eq name) (take i pipelines)) ∙ h))
  where
    shifted : (found : Option ℕ) → IfSome found (λ place. place < 0 + i) → IfSome found (λ place. place < i)
    shifted None k = tt
    shifted (Some place) k = omega arith

is_tree_of : (pipelines : List Data) (i : ℕ) (references : Members) → there_is (is_taken pipelines i) (referred_first references) ≡ true → IfSome (made_tree pipelines references) (IsInput i)
is_tree_of pipelines i no_members h = tt
is_tree_of pipelines i (member reference options rest) h =
    tree_below (option_and_then (place_named pipelines) (referred reference)) i (py_data options) (found_before pipelines i (referred reference) h)

pub not_lost : (tree found : Bool) → tree ≡ true → (tree && not found) ≡ false → found ≡ true
not_lost true true e h = refl
not_lost true false e h = absurd (true≢false h)
not_lost false found e h = absurd (true≢false (sym e))

by_digest : (digest : Option (List ℕ)) (text : Option (List ℕ)) → IfSome {T = List ℕ × List ℕ} (both (λ d t. (d, t)) digest text) (λ m. digest ≡ Some m.0)
by_digest None text = tt
by_digest (Some digest) None = tt
by_digest (Some digest) (Some text) = refl

rising_files : (references : Members) → IsRising references → IsStrictlySortedBy name_cmp (keys_of (made_files references))
rising_files references h = rising-collected made_file (λ name digest. digest_of name ≡ Some digest) (λ name options. by_digest (digest_of name) (py_data options)) digests_rise references h

is_input : (whole : Data) (i : ℕ) (input : Data) → IsRightInput whole i input → IsOrdered input → IfSome (made_input (list_at (codes "pipelines") whole) input) (IsInput i)
is_input whole i input right ordered = by_kind (is_tree_input input) refl
  where
    by_kind : (tree : Bool) → is_tree_input input ≡ tree → IfSome (cond tree (made_tree (list_at (codes "pipelines") whole) (references_at input)) (Some (Files (made_files (references_at input))))) (IsInput i)
    by_kind true e =
        is_tree_of (list_at (codes "pipelines") whole) i (references_at input) (not_lost (is_tree_input input) (there_is (is_taken (list_at (codes "pipelines") whole) i) (referred_first (references_at input))) e right.found)
    by_kind false e = rising_files (references_at input) (rising-references_at input ordered)

more_inputs : (name : List ℕ) (made : Option Input) (i : ℕ) (rest : List (List ℕ × Input)) → IfSome made (IsInput i) → AllByRecursion (IsInput i) (values_of rest) → AllByRecursion (IsInput i) (values_of (cons_option (option_map (λ m. (name, m)) made) rest))
more_inputs name None i rest h k = k
more_inputs name (Some made) i rest h k = (h, k)

are_inputs : (whole : Data) (i : ℕ) (inputs : Members) → AllMembers (IsRightInput whole i) inputs → HasOrdered inputs → AllByRecursion (IsInput i) (values_of (made_inputs (list_at (codes "pipelines") whole) inputs))
are_inputs whole i no_members right ordered = tt
are_inputs whole i (member name input rest) right ordered =
    more_inputs name (made_input (list_at (codes "pipelines") whole) input) i (made_inputs (list_at (codes "pipelines") whole) rest) (is_input whole i input right.0 ordered.0) (are_inputs whole i rest right.1 ordered.1)

named_by : (name : List ℕ) (made : Option Input) → IfSome {T = List ℕ × Input} (option_map (λ m. (name, m)) made) (λ m. name ≡ m.0)
named_by name None = tt
named_by name (Some made) = refl

same_names : (first second a b : List ℕ) → first ≡ a → second ≡ b → name_cmp first second ≡ Less → name_cmp a b ≡ Less
same_names first second a b e f h = rw (← e, ← f) h

rising_inputs : (pipelines : List Data) (inputs : Members) → IsRising inputs → IsStrictlySortedBy name_cmp (keys_of (made_inputs pipelines inputs))
rising_inputs pipelines inputs h = rising-collected (named_input pipelines) (λ name a. name ≡ a) (λ name input. named_by name (made_input pipelines input)) same_names inputs h

-- ---- stages

-- what is known of the value of a stage
pub record IsReadStage (whole : Data) (i : ℕ) (stage : Data) : Type 0 where
  pub shallow : IsShallow stage
  pub ordered : IsOrdered stage
  pub right : HasRightInputs whole i stage

known : (read : Result StageKind KindFault) (kind : StageKind) → result_ok read ≡ Some kind → read ≡ Ok kind
known (Ok found) kind e = cc
known (Err fault) kind e = cc

-- the stage of a text, a kind and a text of options, where each is there
made_with : (whole : Data) (i : ℕ) (stage : Data) (text : List ℕ) (kind : Option StageKind) (options : Option (List ℕ)) → IsReadStage whole i stage → result_ok (kind_of text (options_of stage)) ≡ kind → py_data (options_of stage) ≡ options
    → IfSome (both (stage_with text (made_inputs (list_at (codes "pipelines") whole) (members_at (codes "inputs") stage))) kind options) (IsStage i)
made_with whole i stage text None options h k o = tt
made_with whole i stage text (Some kind) None h k o = tt
made_with whole i stage text (Some kind) (Some options) h k o =
    let inputs = whole-members_at (codes "inputs") stage h.ordered in
    record {
      options = options_of stage;
      object = refl;
      shallow = shallow-options_of stage h.shallow;
      text = o;
      kind = known (kind_of text (options_of stage)) kind k;
      named = rising_inputs (list_at (codes "pipelines") whole) (members_at (codes "inputs") stage) inputs.0;
      inputs = are_inputs whole i (members_at (codes "inputs") stage) h.right inputs.1;
    }

made_of : (whole : Data) (i : ℕ) (stage : Data) (text : Option (List ℕ)) → IsReadStage whole i stage
    → IfSome (option_and_then (λ t. both (stage_with t (made_inputs (list_at (codes "pipelines") whole) (members_at (codes "inputs") stage))) (result_ok (kind_of t (options_of stage))) (py_data (options_of stage))) text) (IsStage i)
made_of whole i stage None h = tt
made_of whole i stage (Some text) h = made_with whole i stage text (result_ok (kind_of text (options_of stage))) (py_data (options_of stage)) h refl refl

cons_stage : (i : ℕ) (stage : Option Stage) (stages : List Stage) → IfSome stage (IsStage i) → AllByRecursion (IsStage i) stages → AllByRecursion (IsStage i) (cons_option stage stages)
cons_stage i None stages h k = k
cons_stage i (Some stage) stages h k = (h, k)

made_stages : (whole : Data) (i : ℕ) (values : List Data) → AllByRecursion IsShallow values → AllByRecursion IsOrdered values → AllByRecursion (HasRightInputs whole i) values → AllByRecursion (IsStage i) (filter_map (made_stage (list_at (codes "pipelines") whole)) values)
made_stages whole i [] h o r = tt
made_stages whole i (value ∷ values) h o r =
    cons_stage i (made_stage (list_at (codes "pipelines") whole) value) (filter_map (made_stage (list_at (codes "pipelines") whole)) values) (made_of whole i value (text_at (codes "type") value) (record { shallow = h.0; ordered = o.0; right = r.0 })) (made_stages whole i values h.1 o.1 r.1)

-- ---- pipelines

-- a pipeline without a name would be none, and those after it stood one place before their own
cons_pipeline : (name : Option (List ℕ)) (build : Option ℕ) (stages : List Stage) (rest : List (List ℕ × Pipeline)) (i : ℕ) → IsSome name → IfSome build (λ place. place < i) → AllByRecursion (IsStage i) stages → ArePipelines (i + 1) (values_of rest) → ArePipelines i (values_of (cons_option (option_map (λ n. (n, pipeline_with build stages)) name) rest))
cons_pipeline None build stages rest i s b h k = absurd (true≢false (sym s))
cons_pipeline (Some name) build stages rest i s b h k = (record { build = b; stages = h }, k)

-- the `build` of a pipeline at a place stands before it
is_build : (whole : Data) (i : ℕ) (value : Data) → is_build_lost whole i value ≡ false → IfSome (made_build (list_at (codes "pipelines") whole) value) (λ place. place < i)
is_build whole i value h = by_text (text_at (codes "build") value) h
  where
    by_text : (text : Option (List ℕ)) → (is_some text && not (there_is (is_taken (list_at (codes "pipelines") whole) i) (option_and_then referred text))) ≡ false
        → IfSome (option_and_then (place_named (list_at (codes "pipelines") whole)) (option_and_then referred text)) (λ place. place < i)
    by_text None k = tt
    by_text (Some text) k = found_before (list_at (codes "pipelines") whole) i (referred text) (not_lost true (there_is (is_taken (list_at (codes "pipelines") whole) i) (referred text)) refl k)

made_pipelines : (whole : Data) (i : ℕ) (values : List Data) → AllByRecursion IsRightPipeline values → AllByRecursion IsShallow values → AllByRecursion IsOrdered values → AreBuiltBefore whole i values → ArePipelines i (values_of (filter_map (made_pipeline (list_at (codes "pipelines") whole)) values))
made_pipelines whole i [] n h o r = tt
made_pipelines whole i (value ∷ values) n h o r =
    cons_pipeline (name_of value) (made_build (list_at (codes "pipelines") whole) value) (filter_map (made_stage (list_at (codes "pipelines") whole)) (list_at (codes "stages") value)) (filter_map (made_pipeline (list_at (codes "pipelines") whole)) values) i (there (name_of value) n.0.named) (is_build whole i value r.0.build)
    (made_stages whole i (list_at (codes "stages") value) (shallow-list_at (codes "stages") value h.0) (ordered-list_at (codes "stages") value o.0) r.0.inputs)
    (made_pipelines whole (i + 1) values n.1 h.1 o.1 r.1)
  where
    there : (name : Option (List ℕ)) → IsTrue (there_is is_pipeline_name name) → IsSome name
    there None e = absurd (true≢false (sym e))
    there (Some name) e = refl

-- ---- items

rising_inline : (items : Members) → IsRising items → IsStrictlySortedBy name_cmp (keys_of (made_inline items))
rising_inline items h = rising-collected made_held (λ name digest. digest_of name ≡ Some digest) (λ name item. by_digest (digest_of name) (text_at (codes "data") item)) digests_rise items h

rising_items : (source : List ℕ) (whole : Data) → IsOrdered whole → IsRising (items_of source whole)
rising_items source whole h =
    let sources = whole-members_at (codes "sources") whole h in
    (whole-members_in _ (then_get (get source (object (members_at (codes "sources") whole))) (ordered-get source (object (members_at (codes "sources") whole)) (sources.0, sources.1)))).0
  where
    then_get : (found : Option Data) → IfSome found IsOrdered → IfSome (option_and_then (get (codes "items")) found) IsOrdered
    then_get None k = tt
    then_get (Some value) k = ordered-get (codes "items") value k

-- ---- manifests

tied : (x y : ℕ) → eqb x y ≡ eq_by_cmp nat_cmp x y
tied x y = grind (arith, nat_tests)

distinct-sorted : (keys : List (List ℕ)) → IsStrictlySortedBy name_cmp keys → IsDistinct bytes_eq keys
distinct-sorted keys h =
    subst (λ (e : List ℕ → List ℕ → Bool). IsDistinct e keys) (λ i x y. sym (lists_ties nat_cmp tied x y) i) (IsDistinct-from_sorted name_cmp keys h)

IsWellFormed-made : (whole : Data) → IsShallow whole → IsOrdered whole → first (refusals_of whole) ≡ None → IsWellFormed (made_manifest whole)
IsWellFormed-made whole h o e =
    let none = none-from_first (refusals_of whole) e in
    record {
      named = IsDistinct-made whole e;
      pipelines = made_pipelines whole 0 (list_at (codes "pipelines") whole) (right whole none) (shallow-list_at (codes "pipelines") whole h) (ordered-list_at (codes "pipelines") whole o) (built_before_where_right whole none);
      items = distinct-sorted (keys_of (made_inline (items_of (codes "org.osbuild.inline") whole))) (rising_inline (items_of (codes "org.osbuild.inline") whole) (rising_items (codes "org.osbuild.inline") whole o));
    }

pub no_refusal : (found : Option Refusal) → ((refusal : Refusal) → found ≡ Some refusal → ⊥) → found ≡ None
no_refusal None h = refl
no_refusal (Some refusal) h = absurd (h refusal refl)

pub IsWellFormed-read : (bytes : List ℕ) (whole : Data) (found : Option Refusal) (manifest : Manifest) → json_of bytes ≡ Some whole → found ≡ first (refusals_of whole) → ((refusal : Refusal) → found ≡ Some refusal → ⊥) → manifest ≡ made_manifest whole → IsWellFormed manifest
IsWellFormed-read bytes whole found manifest is right none made =
    let text = by_utf8 (is_utf8 bytes) is in
    subst IsWellFormed (sym made) (IsWellFormed-made whole (depth-read bytes whole text) (ordered-read bytes whole text) (sym right ∙ no_refusal found none))
  where
    by_utf8 : (b : Bool) → cond b (read bytes) None ≡ Some whole → read bytes ≡ Some whole
    by_utf8 true e = e
    by_utf8 false e = cc

pub same_value : (a b : Data) → Some a ≡ Some b → a ≡ b
same_value a b e = cc
