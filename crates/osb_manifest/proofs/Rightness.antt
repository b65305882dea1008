-- Where no condition applies, pipelines and stages are right.
use Rattle.std.proofs.Common.{◌≡◌, ℕ, ◌+◌, Bool, true, false, true≢false, IsSome, not, ◌&&◌, ◌||◌, cond, if◌then◌else◌, List, [], ◌∷◌, ◌++◌, codes, map, filter, Option, Some, None, is_some, option_and_then, refl, sym, ◌∙◌, Ordering, Less, Equal, Greater, subst}
use Rattle.std.specs.List.{AllByRecursion, flat_map}
use Rattle.std.specs.Ordering.{nat_cmp, match_ordering}
use Rattle.std.specs.Option.{IfSome}
use Rattle.std.specs.Cmp.Lexicographic.{slice_cmp}
use Rattle.std.proofs.lemmas.List.Concat.{flat_map-append}
use Rattle.std.proofs.lemmas.Map.Lookups.{exact_bytes}
use Rattle.serde_json.specs.Data.{Data, null, boolean, number, string, array, object, Items, no_items, item, Members, no_members, member}
use Rattle.serde_json.specs.Find.{get, as_str, get_member}
use Rattle.osb_shape.specs.Forms.{is_pipeline_name}
use Rattle.osb_shape.specs.Firsts.{first}
use Rattle.osb_shape.specs.Values.{is_object, there_is, list_of, list_in, list_at, members_in, members_at, all_items, all_members, is_single, text_at}
use Rattle.osb_shape.specs.References.{references_in, references_at, is_references, is_one_reference, is_tree_input, is_files_input}
use Rattle.osb_shape.specs.Numbers.{bad_numbers, bad_members}
use Rattle.osb_shape.specs.Places.{place_text, pipeline_place, stage_place, input_place, source_place, item_place}
use Rattle.osb_shape.specs.Shapes.{Row, Shape, may_have, must_have, top_shape, pipeline_shape, stage_shape, input_shape, is_broken_at, is_broken, broken_names, offending, source_shape, item_shape}
use Rattle.osb_manifest.specs.Walks.{options_of, stage_kind, Object, at_top, at_pipeline, at_stage, at_input, by_name, input_objects, stage_objects, pipeline_objects, source_objects, in_order, objects, is_unknown, faults_of, is_lost, is_build_lost, are_digests, applies, everywhere, all_conditions, refusals_of, at_source, at_item, item_objects, items_of}
use Rattle.osb_manifest.specs.Right.{IsRightStage, IsRightPipeline, AllMembers, IsRightInput, HasRightInputs, IsBuiltBefore, AreBuiltBefore}
use Rattle.osb_shape.specs.declared.shapes.Form.TheVariants as forms
use Rattle.osb_manifest.specs.declared.manifests.Refusal.TheVariants as refusals
use Rattle.osb_manifest.specs.declared.conditions.Condition.{Condition}
use Rattle.osb_manifest.specs.declared.conditions.Condition.TheVariants as conditions
use Rattle.osb_manifest.proofs.Nothing.{nothing_left, nothing_right, none-from_map, none_each, not-from_when}

false-from_not : (b : Bool) → not b ≡ false → b ≡ true
false-from_not true e = refl
false-from_not false e = absurd (true≢false e)

none_kept : {A B : Type 0} (f : A → B) (kept : Bool) (x : A) (xs : List A) → map f (cond kept (x ∷ xs) xs) ≡ [] → (kept ≡ false) × (map f xs ≡ [])
none_kept f true x xs e = cc
none_kept f false x xs e = (refl, e)

none_broken : (value : Data) (rows : List Row) → broken_names value rows ≡ [] → AllByRecursion (λ row. is_broken value row ≡ false) rows
none_broken value [] e = tt
none_broken value (row ∷ rows) e =
    let h = none_kept (λ (r : Row). r.name) (is_broken value row) row (filter (is_broken value) rows) e in
    (h.0, none_broken value rows h.1)

-- ---- shapes

rows_hold : (shape : Shape) (value : Data) → is_object value ≡ true → offending shape value ≡ [] → AllByRecursion (λ row. is_broken value row ≡ false) shape.rows
rows_hold shape null h e = absurd (true≢false (sym h))
rows_hold shape (boolean b) h e = absurd (true≢false (sym h))
rows_hold shape (number n) h e = absurd (true≢false (sym h))
rows_hold shape (string s) h e = absurd (true≢false (sym h))
rows_hold shape (array items) h e = absurd (true≢false (sym h))
rows_hold shape (object fields) h e = none_broken (object fields) shape.rows (nothing_left _ _ e)

text_in : (name : List ℕ) (found : Option Data) → is_broken_at (must_have name forms.Text) found ≡ false → IsSome (option_and_then as_str found)
text_in name None e = absurd (true≢false e)
text_in name (Some value) e = false-from_not (is_some (as_str value)) e

name_in : (name : List ℕ) (found : Option Data) → is_broken_at (must_have name forms.PipelineName) found ≡ false → there_is is_pipeline_name (option_and_then as_str found) ≡ true
name_in name None e = absurd (true≢false e)
name_in name (Some value) e = false-from_not (there_is is_pipeline_name (as_str value)) e

abbrev AreObjects : List Data → Type 0
AreObjects values = AllByRecursion (λ value. is_object value ≡ true) values

both : (a b : Bool) → (a && b) ≡ true → (a ≡ true) × (b ≡ true)
both true b e = (refl, e)
both false b e = absurd (true≢false (sym e))

objects_of : (items : Items) → all_items is_object items ≡ true → AreObjects (list_of items)
objects_of no_items e = tt
objects_of (item value items) e = let h = both (is_object value) (all_items is_object items) e in (h.0, objects_of items h.1)

objects_in : (name : List ℕ) (found : Option Data) → is_broken_at (may_have name forms.ListOfObjects) found ≡ false → AreObjects (list_in found)
objects_in name None e = tt
objects_in name (Some null) e = tt
objects_in name (Some (boolean b)) e = tt
objects_in name (Some (number n)) e = tt
objects_in name (Some (string s)) e = tt
objects_in name (Some (array items)) e = objects_of items (false-from_not (all_items is_object items) e)
objects_in name (Some (object fields)) e = tt

objects_named : (name : List ℕ) (found : Option Data) → is_broken_at (may_have name forms.ObjectOfObjects) found ≡ false → all_members is_object (members_in found) ≡ true
objects_named name None e = refl
objects_named name (Some null) e = refl
objects_named name (Some (boolean b)) e = refl
objects_named name (Some (number n)) e = refl
objects_named name (Some (string s)) e = refl
objects_named name (Some (array items)) e = refl
objects_named name (Some (object fields)) e = false-from_not (all_members is_object fields) e

one_reference : (is_tree : Bool) (found : Option Data) → is_tree ≡ true → is_broken_at (must_have (codes "references") (if is_tree then forms.OneReference else forms.References)) found ≡ false → is_single (references_in found) ≡ true
one_reference false found e h = absurd (true≢false (sym e))
one_reference true None e h = absurd (true≢false h)
one_reference true (Some value) e h = (both (is_references value) (is_single (references_in (Some value))) (false-from_not (is_one_reference value) h)).1

none_first : {A : Type 0} (xs : List A) → is_some (first xs) ≡ false → xs ≡ []
none_first [] e = refl
none_first (x ∷ xs) e = absurd (true≢false e)

-- an item has data
abbrev pub HasData : Data → Type 0
HasData value = IsSome (text_at (codes "data") value)

-- ---- the walk

module _ (whole : Data) where
  abbrev IsClean : List Object → Type 0
  IsClean here = (condition : Condition) → flat_map (applies whole condition) here ≡ []

  clean_first : (here : Object) (others : List Object) → IsClean (here ∷ others) → (condition : Condition) → applies whole condition here ≡ []
  clean_first here others h condition = nothing_left _ _ (h condition)

  clean_rest : (here : Object) (others : List Object) → IsClean (here ∷ others) → IsClean others
  clean_rest here others h condition = nothing_right (applies whole condition here) _ (h condition)

  clean_left : (xs ys : List Object) → IsClean (xs ++ ys) → IsClean xs
  clean_left xs ys h condition = nothing_left _ _ (sym (flat_map-append (applies whole condition) xs ys) ∙ h condition)

  clean_right : (xs ys : List Object) → IsClean (xs ++ ys) → IsClean ys
  clean_right xs ys h condition = nothing_right (flat_map (applies whole condition) xs) _ (sym (flat_map-append (applies whole condition) xs ys) ∙ h condition)

  right_stage : (i j : ℕ) (stage : Data) → is_object stage ≡ true → IsClean (stage_objects i j stage) → IsRightStage stage
  right_stage i j stage is h =
      let r = clean_first (at_stage i j stage) (by_name (input_objects i j) (members_at (codes "inputs") stage)) h in
      let rows = rows_hold stage_shape stage is (none-from_map (refusals.Member (place_text (stage_place i j))) (offending stage_shape stage) (r conditions.WrongMember)) in
      record {
        typed = text_in (codes "type") (get (codes "type") stage) rows.0;
        whole = none-from_map _ (bad_numbers (options_of stage)) (r conditions.BadNumber);
        known = not-from_when (is_unknown (stage_kind stage)) _ (r conditions.UnknownStage);
        taken = none-from_map _ (faults_of (stage_kind stage)) (r conditions.WrongOptions);
      }

  right_stages : (i j : ℕ) (stages : List Data) → AreObjects stages → IsClean (in_order (stage_objects i) j stages) → AllByRecursion IsRightStage stages
  right_stages i j [] is h = tt
  right_stages i j (stage ∷ stages) is h =
      (right_stage i j stage is.0 (clean_left (stage_objects i j stage) (in_order (stage_objects i) (j + 1) stages) h), right_stages i (j + 1) stages is.1 (clean_right (stage_objects i j stage) (in_order (stage_objects i) (j + 1) stages) h))

  right_pipeline : (i : ℕ) (pipeline : Data) → is_object pipeline ≡ true → IsClean (pipeline_objects i pipeline) → IsRightPipeline pipeline
  right_pipeline i pipeline is h =
      let here = clean_first (at_pipeline i pipeline) (in_order (stage_objects i) 0 (list_at (codes "stages") pipeline)) h in
      let rows = rows_hold pipeline_shape pipeline is (none-from_map (refusals.Member (place_text (pipeline_place i))) (offending pipeline_shape pipeline) (here conditions.WrongMember)) in
      record {
        named = name_in (codes "name") (get (codes "name") pipeline) rows.0;
        stages = right_stages i 0 (list_at (codes "stages") pipeline) (objects_in (codes "stages") (get (codes "stages") pipeline) rows.1.1.1.0) (clean_rest (at_pipeline i pipeline) (in_order (stage_objects i) 0 (list_at (codes "stages") pipeline)) h);
      }

  right_pipelines : (i : ℕ) (pipelines : List Data) → AreObjects pipelines → IsClean (in_order pipeline_objects i pipelines) → AllByRecursion IsRightPipeline pipelines
  right_pipelines i [] is h = tt
  right_pipelines i (pipeline ∷ pipelines) is h =
      (right_pipeline i pipeline is.0 (clean_left (pipeline_objects i pipeline) (in_order pipeline_objects (i + 1) pipelines) h), right_pipelines (i + 1) pipelines is.1 (clean_right (pipeline_objects i pipeline) (in_order pipeline_objects (i + 1) pipelines) h))

  -- where nothing is wrong, no condition applies to an object
  clean : refusals_of whole ≡ [] → IsClean (objects whole)
  unfolding everywhere
  clean e conditions.NoObject = (none_each (everywhere whole) all_conditions e).0
  clean e conditions.OtherVersion = (none_each (everywhere whole) all_conditions e).1.0
  clean e conditions.TooMany = (none_each (everywhere whole) all_conditions e).1.1.0
  clean e conditions.WrongMember = (none_each (everywhere whole) all_conditions e).1.1.1.0
  clean e conditions.BadNumber = (none_each (everywhere whole) all_conditions e).1.1.1.1.0
  clean e conditions.Duplicate = (none_each (everywhere whole) all_conditions e).1.1.1.1.1.0
  clean e conditions.UnknownReference = (none_each (everywhere whole) all_conditions e).1.1.1.1.1.1.0
  clean e conditions.UnknownStage = (none_each (everywhere whole) all_conditions e).1.1.1.1.1.1.1.0
  clean e conditions.UnknownInput = (none_each (everywhere whole) all_conditions e).1.1.1.1.1.1.1.1.0
  clean e conditions.UnknownSource = (none_each (everywhere whole) all_conditions e).1.1.1.1.1.1.1.1.1.0
  clean e conditions.BadChecksum = (none_each (everywhere whole) all_conditions e).1.1.1.1.1.1.1.1.1.1.0
  clean e conditions.OtherEncoding = (none_each (everywhere whole) all_conditions e).1.1.1.1.1.1.1.1.1.1.1.0
  clean e conditions.WrongOptions = (none_each (everywhere whole) all_conditions e).1.1.1.1.1.1.1.1.1.1.1.1.0

  top_rows : refusals_of whole ≡ [] → AllByRecursion (λ row. is_broken whole row ≡ false) top_shape.rows
  top_rows e =
      let h = clean e in
      let below = in_order pipeline_objects 0 (list_at (codes "pipelines") whole) in
      let sources = by_name source_objects (members_at (codes "sources") whole) in
      let here = clean_first (at_top whole) (below ++ sources) h in
      let is : is_object whole ≡ true = false-from_not (is_object whole) (not-from_when (not (is_object whole)) (refusals.NotObject (place_text [])) (here conditions.NoObject)) in
      rows_hold top_shape whole is (none-from_map (refusals.Member (place_text [])) (offending top_shape whole) (here conditions.WrongMember))

  top_objects : refusals_of whole ≡ [] → AreObjects (list_at (codes "pipelines") whole)
  top_objects e = objects_in (codes "pipelines") (get (codes "pipelines") whole) (top_rows e).0

  pub right : refusals_of whole ≡ [] → AllByRecursion IsRightPipeline (list_at (codes "pipelines") whole)
  right e =
      let h = clean e in
      let below = in_order pipeline_objects 0 (list_at (codes "pipelines") whole) in
      let sources = by_name source_objects (members_at (codes "sources") whole) in
      right_pipelines 0 (list_at (codes "pipelines") whole) (top_objects e) (clean_left below sources (clean_rest (at_top whole) (below ++ sources) h))

  -- ---- inputs

  -- the value of a member whose row holds
  right_input : (i j : ℕ) (name : List ℕ) (input : Data) → is_object input ≡ true → IsClean (input_objects i j name input) → IsRightInput whole i input
  right_input i j name input is h =
      let r = clean_first (at_input i j name input) [] h in
      let rows = rows_hold (input_shape (is_tree_input input)) input is (none-from_map (refusals.Member (place_text (input_place i j name))) (offending (input_shape (is_tree_input input)) input) (r conditions.WrongMember)) in
      record {
        known = false-from_not (is_tree_input input || is_files_input input) (not-from_when _ _ (r conditions.UnknownInput));
        single = λ e. one_reference (is_tree_input input) (get (codes "references") input) e rows.1.1.0;
        found = not-from_when (is_lost whole i input) _ (r conditions.UnknownReference);
        digests = not-from_when (is_files_input input && not (are_digests (references_at input))) _ (r conditions.BadChecksum);
        kept = none_first (bad_members (references_at input)) (not-from_when (is_some (first (bad_members (references_at input)))) _ (r conditions.BadNumber));
      }

  right_inputs : (i j : ℕ) (inputs : Members) → all_members is_object inputs ≡ true → IsClean (by_name (input_objects i j) inputs) → AllMembers (IsRightInput whole i) inputs
  right_inputs i j no_members is h = tt
  right_inputs i j (member name input inputs) is h =
      let here = both (is_object input) (all_members is_object inputs) is in
      (right_input i j name input here.0 (clean_left (input_objects i j name input) (by_name (input_objects i j) inputs) h), right_inputs i j inputs here.1 (clean_right (input_objects i j name input) (by_name (input_objects i j) inputs) h))

  stage_inputs : (i j : ℕ) (stage : Data) → is_object stage ≡ true → IsClean (stage_objects i j stage) → HasRightInputs whole i stage
  stage_inputs i j stage is h =
      let inputs = by_name (input_objects i j) (members_at (codes "inputs") stage) in
      let r = clean_first (at_stage i j stage) inputs h in
      let rows = rows_hold stage_shape stage is (none-from_map (refusals.Member (place_text (stage_place i j))) (offending stage_shape stage) (r conditions.WrongMember)) in
      right_inputs i j (members_at (codes "inputs") stage) (objects_named (codes "inputs") (get (codes "inputs") stage) rows.1.1.0) (clean_rest (at_stage i j stage) inputs h)

  stages_inputs : (i j : ℕ) (stages : List Data) → AreObjects stages → IsClean (in_order (stage_objects i) j stages) → AllByRecursion (HasRightInputs whole i) stages
  stages_inputs i j [] is h = tt
  stages_inputs i j (stage ∷ stages) is h =
      (stage_inputs i j stage is.0 (clean_left (stage_objects i j stage) (in_order (stage_objects i) (j + 1) stages) h), stages_inputs i (j + 1) stages is.1 (clean_right (stage_objects i j stage) (in_order (stage_objects i) (j + 1) stages) h))

  -- ---- pipelines before

  built_before : (i : ℕ) (pipeline : Data) → is_object pipeline ≡ true → IsClean (pipeline_objects i pipeline) → IsBuiltBefore whole i pipeline
  built_before i pipeline is h =
      let here = clean_first (at_pipeline i pipeline) (in_order (stage_objects i) 0 (list_at (codes "stages") pipeline)) h in
      let rows = rows_hold pipeline_shape pipeline is (none-from_map (refusals.Member (place_text (pipeline_place i))) (offending pipeline_shape pipeline) (here conditions.WrongMember)) in
      record {
        build = not-from_when (is_build_lost whole i pipeline) _ (here conditions.UnknownReference);
        inputs = stages_inputs i 0 (list_at (codes "stages") pipeline) (objects_in (codes "stages") (get (codes "stages") pipeline) rows.1.1.1.0) (clean_rest (at_pipeline i pipeline) (in_order (stage_objects i) 0 (list_at (codes "stages") pipeline)) h);
      }

  all_built_before : (i : ℕ) (pipelines : List Data) → AreObjects pipelines → IsClean (in_order pipeline_objects i pipelines) → AreBuiltBefore whole i pipelines
  all_built_before i [] is h = tt
  all_built_before i (pipeline ∷ pipelines) is h =
      (built_before i pipeline is.0 (clean_left (pipeline_objects i pipeline) (in_order pipeline_objects (i + 1) pipelines) h), all_built_before (i + 1) pipelines is.1 (clean_right (pipeline_objects i pipeline) (in_order pipeline_objects (i + 1) pipelines) h))

  pub built_before_where_right : refusals_of whole ≡ [] → AreBuiltBefore whole 0 (list_at (codes "pipelines") whole)
  built_before_where_right e =
      let h = clean e in
      let below = in_order pipeline_objects 0 (list_at (codes "pipelines") whole) in
      let sources = by_name source_objects (members_at (codes "sources") whole) in
      all_built_before 0 (list_at (codes "pipelines") whole) (top_objects e) (clean_left below sources (clean_rest (at_top whole) (below ++ sources) h))

  -- ---- sources

  abbrev IsSource : List ℕ → Data → Type 0
  IsSource name value = (is_object value ≡ true) × IsClean (source_objects name value)

  by_order : (o : Ordering) (name other : List ℕ) (value : Data) (found : Option Data) → (o ≡ Equal → name ≡ other) → IsSource other value → IfSome found (IsSource name) → IfSome (match_ordering o found (Some value) found) (IsSource name)
  by_order Less name other value found same h k = k
  by_order Equal name other value found same h k = subst (λ (n : List ℕ). IsSource n value) (sym (same refl)) h
  by_order Greater name other value found same h k = k

  source_named : (name : List ℕ) (sources : Members) → all_members is_object sources ≡ true → IsClean (by_name source_objects sources) → IfSome (get_member name sources) (IsSource name)
  source_named name no_members is h = tt
  source_named name (member other value rest) is h =
      let here = both (is_object value) (all_members is_object rest) is in
      by_order (slice_cmp nat_cmp name other) name other value (get_member name rest) (exact_bytes name other) (here.0, clean_left (source_objects other value) (by_name source_objects rest) h)
      (source_named name rest here.1 (clean_right (source_objects other value) (by_name source_objects rest) h))

  source_of : (name : List ℕ) → refusals_of whole ≡ [] → IfSome (get_member name (members_at (codes "sources") whole)) (IsSource name)
  source_of name e =
      let h = clean e in
      let below = in_order pipeline_objects 0 (list_at (codes "pipelines") whole) in
      let sources = by_name source_objects (members_at (codes "sources") whole) in
      source_named name (members_at (codes "sources") whole) (objects_named (codes "sources") (get (codes "sources") whole) (top_rows e).1.0) (clean_right below sources (clean_rest (at_top whole) (below ++ sources) h))

  -- the items of a source are listed by their digests
  pub listed_by_digest : (name : List ℕ) → refusals_of whole ≡ [] → are_digests (items_of name whole) ≡ true
  listed_by_digest name e = by_found (get_member name (members_at (codes "sources") whole)) (source_of name e)
    where
      by_found : (found : Option Data) → IfSome found (IsSource name) → are_digests (members_in (option_and_then (get (codes "items")) found)) ≡ true
      by_found None k = refl
      by_found (Some value) k =
          false-from_not (are_digests (members_at (codes "items") value))
          (not-from_when (not (are_digests (members_at (codes "items") value))) _ (clean_first (at_source name value) (by_name (item_objects name) (members_at (codes "items") value)) k.1 conditions.BadChecksum))

  -- and those that the manifest holds have data
  have_data : (items : Members) → all_members is_object items ≡ true → IsClean (by_name (item_objects (codes "org.osbuild.inline")) items) → AllMembers HasData items
  have_data no_members is h = tt
  have_data (member name value rest) is h =
      let here = both (is_object value) (all_members is_object rest) is in
      let inline = codes "org.osbuild.inline" in
      let r = clean_first (at_item inline name value) [] (clean_left (item_objects inline name value) (by_name (item_objects inline) rest) h) in
      let rows = rows_hold (item_shape inline) value here.0 (none-from_map (refusals.Member (place_text (item_place inline name))) (offending (item_shape inline) value) (r conditions.WrongMember)) in
      (text_in (codes "data") (get (codes "data") value) rows.1.0, have_data rest here.1 (clean_right (item_objects inline name value) (by_name (item_objects inline) rest) h))

  pub held_with_data : refusals_of whole ≡ [] → AllMembers HasData (items_of (codes "org.osbuild.inline") whole)
  held_with_data e = by_found (get_member (codes "org.osbuild.inline") (members_at (codes "sources") whole)) (source_of (codes "org.osbuild.inline") e)
    where
      by_found : (found : Option Data) → IfSome found (IsSource (codes "org.osbuild.inline")) → AllMembers HasData (members_in (option_and_then (get (codes "items")) found))
      by_found None k = tt
      by_found (Some value) k =
          let inline = codes "org.osbuild.inline" in
          let items = by_name (item_objects inline) (members_at (codes "items") value) in
          let rows = rows_hold (source_shape inline) value k.0 (none-from_map (refusals.Member (place_text (source_place inline))) (offending (source_shape inline) value) (clean_first (at_source inline value) items k.1 conditions.WrongMember)) in
          have_data (members_at (codes "items") value) (objects_named (codes "items") (get (codes "items") value) rows.0) (clean_rest (at_source inline value) items k.1)
