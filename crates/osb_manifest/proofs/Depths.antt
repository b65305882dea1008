-- How deep what a value has nests.
use Rattle.std.proofs.Common.{ℕ, ◌≤◌, Ordering, Less, Equal, Greater, List, Option, Some, None, codes, lit≤, arith}
use Rattle.std.specs.Ordering.{nat_cmp, match_ordering}
use Rattle.std.specs.Cmp.Lexicographic.{slice_cmp}
use Rattle.std.specs.List.{AllByRecursion}
use Rattle.std.specs.Option.{IfSome}
use Rattle.serde_json.specs.Data.{Data, null, boolean, number, string, array, object, Items, no_items, item, Members, no_members, member, depth, items_depth, members_depth}
use Rattle.serde_json.specs.Find.{get, get_member}
use Rattle.osb_shape.specs.Values.{list_of, list_in, list_at, members_in}
use Rattle.osb_manifest.specs.Walks.{options_of}

abbrev pub IsShallow : Data → Type 0
IsShallow value = depth value ≤ 127

found_of : (o : Ordering) (d : Data) (found : Option Data) (n : ℕ) → depth d ≤ n → IfSome found (λ x. depth x ≤ n) → IfSome (match_ordering o found (Some d) found) (λ x. depth x ≤ n)
found_of Less d found n h k = k
found_of Equal d found n h k = h
found_of Greater d found n h k = k

depth-get_member : (name : List ℕ) (members : Members) (n : ℕ) → members_depth members ≤ n → IfSome (get_member name members) (λ x. depth x ≤ n)
depth-get_member name no_members n h = tt
depth-get_member name (member key d rest) n h =
    found_of (slice_cmp nat_cmp name key) d (get_member name rest) n (omega arith) (depth-get_member name rest n (omega arith))

depth-get : (name : List ℕ) (value : Data) → IsShallow value → IfSome (get name value) IsShallow
depth-get name null h = tt
depth-get name (boolean b) h = tt
depth-get name (number x) h = tt
depth-get name (string s) h = tt
depth-get name (array items) h = tt
depth-get name (object fields) h = depth-get_member name fields 127 (omega arith)

shallow_items : (items : Items) → items_depth items ≤ 127 → AllByRecursion IsShallow (list_of items)
shallow_items no_items h = tt
shallow_items (item d items) h = (omega arith, shallow_items items (omega arith))

list_within : (found : Option Data) → IfSome found IsShallow → AllByRecursion IsShallow (list_in found)
list_within None h = tt
list_within (Some null) h = tt
list_within (Some (boolean b)) h = tt
list_within (Some (number x)) h = tt
list_within (Some (string s)) h = tt
list_within (Some (array items)) h = shallow_items items (omega arith)
list_within (Some (object fields)) h = tt

-- the items of a list in a value, and the options of a stage, nest no deeper than a value may
pub shallow-list_at : (name : List ℕ) (value : Data) → IsShallow value → AllByRecursion IsShallow (list_at name value)
shallow-list_at name value h = list_within (get name value) (depth-get name value h)

shallow_object : (found : Option Data) → IfSome found IsShallow → IsShallow (object (members_in found))
shallow_object None h = lit≤ tt
shallow_object (Some null) h = lit≤ tt
shallow_object (Some (boolean b)) h = lit≤ tt
shallow_object (Some (number x)) h = lit≤ tt
shallow_object (Some (string s)) h = lit≤ tt
shallow_object (Some (array items)) h = lit≤ tt
shallow_object (Some (object fields)) h = h

pub shallow-options_of : (stage : Data) → IsShallow stage → IsShallow (options_of stage)
shallow-options_of stage h = shallow_object (get (codes "options") stage) (depth-get (codes "options") stage h)
