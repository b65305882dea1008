-- The members of each object that is read stand in order.
use Rattle.std.proofs.Common.{◌≡◌, ℕ, List, [], ◌∷◌, Option, Some, None, option_map, option_and_then, Ordering, Less, Equal, Greater, codes, refl, ap, ◌∙◌, subst}
use Rattle.std.specs.Ordering.{nat_cmp, match_ordering}
use Rattle.std.specs.Option.{IfSome}
use Rattle.std.specs.Cmp.Lexicographic.{slice_cmp, nat_list_cmp_total}
use Rattle.std.specs.List.{AllByRecursion}
use Rattle.std.specs.List.Sorted.{IsStrictlySortedBy}
use Rattle.std.specs.Map.{keys_of}
use Rattle.std.specs.BTreeMap.{insert_entry}
use Rattle.json.specs.Json as json
use Rattle.json.specs.Lex.{tokens}
use Rattle.serde_json.specs.Data.{Data, null, boolean, number, string, array, object, Items, no_items, item, Members, no_members, member, put}
use Rattle.serde_json.specs.Find.{get, get_member}
use Rattle.serde_json.specs.Read.{number_of, of_json, of_items, of_members, max_depth, read}
use Rattle.osb_tree.proofs.Entries.{sorted-insert_entry}
use Rattle.osb_shape.specs.Values.{list_of, list_in, list_at, members_in, members_at, text_at}
use Rattle.osb_shape.specs.References.{with_id, with_reference, with_references, references_in, references_at}
use Rattle.osb_manifest.specs.Manifests.{name_cmp}

-- ---- members as entries

abbrev pub entries_of : Members → List (List ℕ × Data)
entries_of no_members = []
entries_of (member name value rest) = (name, value) ∷ entries_of rest

entries_of-match : (o : Ordering) (a b c : Members) → entries_of (match_ordering o a b c) ≡ match_ordering o (entries_of a) (entries_of b) (entries_of c)
entries_of-match Less a b c = refl
entries_of-match Equal a b c = refl
entries_of-match Greater a b c = refl

entries_of-put : (name : List ℕ) (value : Data) (members : Members) → entries_of (put name value members) ≡ insert_entry name_cmp (entries_of members) name value
entries_of-put name value no_members = refl
entries_of-put name value (member other more rest) =
    entries_of-match (slice_cmp nat_cmp name other) _ _ _
    ∙ ap (λ (es : List (List ℕ × Data)). match_ordering (slice_cmp nat_cmp name other) ((name, value) ∷ (other, more) ∷ entries_of rest) ((other, value) ∷ entries_of rest) ((other, more) ∷ es)) (entries_of-put name value rest)

abbrev pub IsRising : Members → Type 0
IsRising members = IsStrictlySortedBy name_cmp (keys_of (entries_of members))

pub rising-put : (name : List ℕ) (value : Data) (members : Members) → IsRising members → IsRising (put name value members)
rising-put name value members h =
    rw (entries_of-put name value members) (sorted-insert_entry nat_list_cmp_total (entries_of members) name value h)

pub rising-none : IsRising no_members
unfolding IsStrictlySortedBy
rising-none = tt

-- ---- values

abbrev mutual
  pub IsOrdered : Data → Type 0
  IsOrdered null = Unit {0}
  IsOrdered (boolean b) = Unit {0}
  IsOrdered (number n) = Unit {0}
  IsOrdered (string s) = Unit {0}
  IsOrdered (array items) = AreOrdered items
  IsOrdered (object fields) = IsRising fields × HasOrdered fields

  pub AreOrdered : Items → Type 0
  AreOrdered no_items = Unit {0}
  AreOrdered (item value rest) = IsOrdered value × AreOrdered rest

  pub HasOrdered : Members → Type 0
  HasOrdered no_members = Unit {0}
  HasOrdered (member name value rest) = IsOrdered value × HasOrdered rest

match_ordered : (o : Ordering) (a b c : Members) → HasOrdered a → HasOrdered b → HasOrdered c → HasOrdered (match_ordering o a b c)
match_ordered Less a b c p q r = p
match_ordered Equal a b c p q r = q
match_ordered Greater a b c p q r = r

ordered-put : (name : List ℕ) (value : Data) (members : Members) → IsOrdered value → HasOrdered members → HasOrdered (put name value members)
ordered-put name value no_members h k = (h, tt)
ordered-put name value (member other more rest) h k =
    match_ordered (slice_cmp nat_cmp name other) (member name value (member other more rest)) (member other value rest) (member other more (put name value rest)) (h, (k.0, k.1)) (h, k.1) (k.0, ordered-put name value rest h k.1)

if_mapped : {A B : Type 0} (P : A → Type 0) (Q : B → Type 0) (f : A → B) → ((a : A) → P a → Q (f a)) → (o : Option A) → IfSome o P → IfSome (option_map f o) Q
if_mapped P Q f h None k = tt
if_mapped P Q f h (Some a) k = h a k

if_chained : {A B : Type 0} (P : A → Type 0) (Q : B → Type 0) (f : A → Option B) → ((a : A) → P a → IfSome (f a) Q) → (o : Option A) → IfSome o P → IfSome (option_and_then f o) Q
if_chained P Q f h None k = tt
if_chained P Q f h (Some a) k = h a k

if_anything : {A : Type 0} (o : Option A) → IfSome o (λ _. Unit {0})
if_anything None = tt
if_anything (Some a) = tt

abbrev IsWhole : Members → Type 0
IsWhole members = IsRising members × HasOrdered members

mutual
  ordered-of_json : (j : json.Json) → IfSome (of_json j) IsOrdered
  ordered-of_json json.null = tt
  ordered-of_json (json.boolean b) = tt
  ordered-of_json (json.number s) = if_mapped (λ _. Unit {0}) IsOrdered number (λ n h. tt) (number_of s) (if_anything (number_of s))
  ordered-of_json (json.string s) = tt
  ordered-of_json (json.array js) = if_mapped AreOrdered IsOrdered array (λ items h. h) (of_items js) (ordered-of_items js)
  ordered-of_json (json.object ms) = if_mapped IsWhole IsOrdered object (λ members h. (h.0, h.1)) (of_members ms no_members) (ordered-of_members ms no_members (rising-none, tt))

  ordered-of_items : (js : json.Items) → IfSome (of_items js) AreOrdered
  ordered-of_items json.no_items = tt
  ordered-of_items (json.item j js) =
      if_chained IsOrdered AreOrdered (λ d. option_map (item d) (of_items js)) (λ d h. if_mapped AreOrdered AreOrdered (item d) (λ items k. (h, k)) (of_items js) (ordered-of_items js)) (of_json j) (ordered-of_json j)

  ordered-of_members : (ms : json.Members) (found : Members) → IsWhole found → IfSome (of_members ms found) IsWhole
  ordered-of_members json.no_members found h = h
  ordered-of_members (json.member name j ms) found h =
      if_chained IsOrdered IsWhole (λ d. of_members ms (put name d found)) (λ d k. ordered-of_members ms (put name d found) (rising-put name d found h.0, ordered-put name d found k h.1)) (of_json j) (ordered-of_json j)

pub ordered-read : (text : List ℕ) (value : Data) → read text ≡ Some value → IsOrdered value
ordered-read text value e =
    let P : Option Data → Type 0 = λ found. IfSome found IsOrdered in
    subst P e (any_ordered (option_and_then (λ p. json.if_last p.0 p.1) (json.value max_depth (tokens text))))
  where
    any_ordered : (found : Option json.Json) → IfSome (option_and_then of_json found) IsOrdered
    any_ordered None = tt
    any_ordered (Some j) = ordered-of_json j

-- ---- looks

get_ordered : (o : Ordering) (value : Data) (found : Option Data) → IsOrdered value → IfSome found IsOrdered → IfSome (match_ordering o found (Some value) found) IsOrdered
get_ordered Less value found h k = k
get_ordered Equal value found h k = h
get_ordered Greater value found h k = k

ordered-get_member : (name : List ℕ) (members : Members) → HasOrdered members → IfSome (get_member name members) IsOrdered
ordered-get_member name no_members h = tt
ordered-get_member name (member other value rest) h = get_ordered (slice_cmp nat_cmp name other) value (get_member name rest) h.0 (ordered-get_member name rest h.1)

pub ordered-get : (name : List ℕ) (value : Data) → IsOrdered value → IfSome (get name value) IsOrdered
ordered-get name null h = tt
ordered-get name (boolean b) h = tt
ordered-get name (number n) h = tt
ordered-get name (string s) h = tt
ordered-get name (array items) h = tt
ordered-get name (object fields) h = ordered-get_member name fields h.1

ordered_items : (items : Items) → AreOrdered items → AllByRecursion IsOrdered (list_of items)
ordered_items no_items h = tt
ordered_items (item value items) h = (h.0, ordered_items items h.1)

ordered_list : (found : Option Data) → IfSome found IsOrdered → AllByRecursion IsOrdered (list_in found)
ordered_list None h = tt
ordered_list (Some null) h = tt
ordered_list (Some (boolean b)) h = tt
ordered_list (Some (number n)) h = tt
ordered_list (Some (string s)) h = tt
ordered_list (Some (array items)) h = ordered_items items h
ordered_list (Some (object fields)) h = tt

pub ordered-list_at : (name : List ℕ) (value : Data) → IsOrdered value → AllByRecursion IsOrdered (list_at name value)
ordered-list_at name value h = ordered_list (get name value) (ordered-get name value h)

pub whole-members_in : (found : Option Data) → IfSome found IsOrdered → IsRising (members_in found) × HasOrdered (members_in found)
whole-members_in None h = (rising-none, tt)
whole-members_in (Some null) h = (rising-none, tt)
whole-members_in (Some (boolean b)) h = (rising-none, tt)
whole-members_in (Some (number n)) h = (rising-none, tt)
whole-members_in (Some (string s)) h = (rising-none, tt)
whole-members_in (Some (array items)) h = (rising-none, tt)
whole-members_in (Some (object fields)) h = (h.0, h.1)

pub whole-members_at : (name : List ℕ) (value : Data) → IsOrdered value → IsRising (members_at name value) × HasOrdered (members_at name value)
whole-members_at name value h = whole-members_in (get name value) (ordered-get name value h)

-- ---- references

rising-with_id : (references : Members) (id : Option (List ℕ)) (options : Data) → IsRising references → IsRising (with_id references id options)
rising-with_id references None options h = h
rising-with_id references (Some id) options h = rising-put id options references h

rising-with_reference : (references : Members) (value : Data) → IsRising references → IsRising (with_reference references value)
rising-with_reference references null h = h
rising-with_reference references (boolean b) h = h
rising-with_reference references (number n) h = h
rising-with_reference references (string id) h = rising-put id (object no_members) references h
rising-with_reference references (array items) h = h
rising-with_reference references (object fields) h = rising-with_id references (text_at (codes "id") (object fields)) _ h

rising-with_references : (references : Members) (items : Items) → IsRising references → IsRising (with_references references items)
rising-with_references references no_items h = h
rising-with_references references (item value items) h = rising-with_references (with_reference references value) items (rising-with_reference references value h)

rising-references_in : (found : Option Data) → IfSome found IsOrdered → IsRising (references_in found)
rising-references_in None h = rising-none
rising-references_in (Some null) h = rising-none
rising-references_in (Some (boolean b)) h = rising-none
rising-references_in (Some (number n)) h = rising-none
rising-references_in (Some (string s)) h = rising-none
rising-references_in (Some (array items)) h = rising-with_references no_members items rising-none
rising-references_in (Some (object fields)) h = h.0

pub rising-references_at : (input : Data) → IsOrdered input → IsRising (references_at input)
rising-references_at input h = rising-references_in (get (codes "references") input) (ordered-get (codes "references") input h)
