-- Pipelines by name: in a map, and as contracts see them.
use Rattle.std.proofs.Common.{◌≡◌, ℕ, suc, ◌+◌, Bool, true, false, true≢false, cond, not, ◌||◌, nat_lt, List, [], ◌∷◌, ◌++◌, length, map, Option, Some, None, is_some, option_map, slice_get, String, Global, string_bytes, refl, sym, ap, ap₂, ◌∙◌, subst, append_assoc}
use Rattle.std.specs.Str.{bytes_eq}
use Rattle.std.specs.String.{string_eq}
use Rattle.std.specs.List.{IsDistinct, AllByRecursion, list_any, position, position_or_len}
use Rattle.std.specs.Map.{keys_of, values_of, lookup}
use Rattle.std.proofs.lemmas.Slice.Eq.{bytes_eq-Decides}
use Rattle.std.proofs.lemmas.Option.{slice_get-map}
use Rattle.indexmap.specs.IndexMap.{insert_entry}
use Rattle.osb_manifest.specs.declared.manifests.Pipeline.{Pipeline}
use Rattle.osb_manifest.specs.Named.{named}

abbrev Entry : Type 0
Entry = String Global × Pipeline

flipped : (x y : List ℕ) (b : Bool) → bytes_eq y x ≡ b → bytes_eq x y ≡ false → b ≡ false
flipped x y true e h = absurd (true≢false (sym ((bytes_eq-Decides x y).1 (sym ((bytes_eq-Decides y x).0 e))) ∙ h))
flipped x y false e h = refl

apart_later : (name : List ℕ) (entries : List Entry) (e : Entry) (rest : List Entry) → AllByRecursion (λ other. bytes_eq name other ≡ false) (keys_of (map named (entries ++ e ∷ rest))) → bytes_eq name (string_bytes e.0) ≡ false
apart_later name [] e rest h = h.0
apart_later name (first ∷ entries) e rest h = apart_later name entries e rest h.1

-- a name that is new goes last
insert_entry-new : (entries : List Entry) (name : String Global) (pipeline : Pipeline) (rest : List Entry) → IsDistinct bytes_eq (keys_of (map named (entries ++ (name, pipeline) ∷ rest))) → insert_entry string_eq entries name pipeline ≡ entries ++ (name, pipeline) ∷ []
unfolding IsDistinct
insert_entry-new [] name pipeline rest h = refl
insert_entry-new (e ∷ entries) name pipeline rest h =
    rw (flipped (string_bytes e.0) (string_bytes name) _ refl (apart_later (string_bytes e.0) entries (name, pipeline) rest h.0)) (ap (λ more. e ∷ more) (insert_entry-new entries name pipeline rest h.1))

-- a turn of a loop that puts the entries of a list whose names differ into a map
pub put_turn : (entries new rest later all : List Entry) (name : String Global) (pipeline : Pipeline) → IsDistinct bytes_eq (keys_of (map named all)) → entries ++ rest ≡ all → rest ≡ (name, pipeline) ∷ later → new ≡ insert_entry string_eq entries name pipeline → new ++ later ≡ all
put_turn entries new rest later all name pipeline distinct before is put =
    let whole : entries ++ (name, pipeline) ∷ later ≡ all = ap (λ r. entries ++ r) (sym is) ∙ before in
    let P : List Entry → Type 0 = λ es. IsDistinct bytes_eq (keys_of (map named es)) in
    ap (λ es. es ++ later) (put ∙ insert_entry-new entries name pipeline later (subst P (sym whole) distinct)) ∙ append_assoc entries ((name, pipeline) ∷ []) later ∙ whole

pub lookup-named : (test : List ℕ → Bool) (entries : List Entry) → lookup (λ k. test (string_bytes k)) entries ≡ lookup test (map named entries)
lookup-named test [] = refl
lookup-named test (e ∷ entries) = ap (λ found. cond (test (string_bytes e.0)) (Some e.1) found) (lookup-named test entries)

position_or_len-named : (test : List ℕ → Bool) (entries : List Entry) → position_or_len (λ k. test (string_bytes k)) (keys_of entries) ≡ position_or_len test (keys_of (map named entries))
position_or_len-named test [] = refl
position_or_len-named test (e ∷ entries) = ap (λ n. cond (not (test (string_bytes e.0))) (1 + n) 0) (position_or_len-named test entries)

length-named : (entries : List Entry) → length (keys_of entries) ≡ length (keys_of (map named entries))
length-named [] = refl
length-named (e ∷ entries) = ap suc (length-named entries)

pub position-named : (test : List ℕ → Bool) (entries : List Entry) → position (λ k. test (string_bytes k)) (keys_of entries) ≡ position test (keys_of (map named entries))
position-named test entries = ap₂ (λ i n. cond (nat_lt i n) (Some i) None) (position_or_len-named test entries) (length-named entries)

is_some-cond : {X : Type 0} (b s : Bool) (x : X) (found : Option X) → is_some found ≡ s → is_some (cond b (Some x) found) ≡ (b || s)
is_some-cond true s x found e = refl
is_some-cond false s x found e = e

-- a name has a pipeline exactly where it is one of the names
pub is_some-lookup : (test : List ℕ → Bool) (entries : List Entry) → is_some (lookup (λ k. test (string_bytes k)) entries) ≡ list_any test (keys_of (map named entries))
is_some-lookup test [] = refl
is_some-lookup test (e ∷ entries) = is_some-cond (test (string_bytes e.0)) _ e.1 (lookup (λ k. test (string_bytes k)) entries) (is_some-lookup test entries)

pub name_at : (entries : List Entry) (i : ℕ) (e : Entry) → slice_get entries i ≡ Some e → slice_get (keys_of (map named entries)) i ≡ Some (string_bytes e.0)
name_at entries i e h = slice_get-map (λ p. p.0) (map named entries) i ∙ ap (option_map (λ p. p.0)) (slice_get-map named entries i ∙ ap (option_map named) h)

pub pipeline_at : (entries : List Entry) (i : ℕ) (e : Entry) → slice_get entries i ≡ Some e → slice_get (values_of (map named entries)) i ≡ Some e.1
pipeline_at entries i e h = slice_get-map (λ p. p.1) (map named entries) i ∙ ap (option_map (λ p. p.1)) (slice_get-map named entries i ∙ ap (option_map named) h)

pub counts-named : (entries : List Entry) → map (λ p. length p.1.stages) (map named entries) ≡ map (λ p. length p.1.stages) entries
counts-named [] = refl
counts-named (e ∷ entries) = ap (λ more. length e.1.stages ∷ more) (counts-named entries)
