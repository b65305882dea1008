-- The directories above a path: the first fault among them, and what is made of them.
use Rattle.std.proofs.Common.{◌≡◌, ◌≢◌, ℕ, ◌<◌, ◌++◌, List, [], ◌∷◌, length, take, map, Bool, true, false, cond, Option, Some, None, is_some, Ok, Err, is_ok, zero, suc, refl, sym, ◌∙◌, ap, subst, true≢false, arith}
use Rattle.std.specs.Prelude.{IsSome, IsTrue}
use Rattle.std.specs.Option.{option_or}
use Rattle.std.specs.List.{AllByRecursion}
use Rattle.std.proofs.lemmas.List.{map-append, length-take-le}
use Rattle.osb_tree.specs.Paths.{Names, parent_of}
use Rattle.osb_tree.specs.Nodes.{is_directory}
use Rattle.osb_tree.specs.Trees.{Listing, IsTree, is_directory_at, node_at, put_at, is_too_large}
use Rattle.osb_tree.specs.Laws.{is_same_path}
use Rattle.osb_tree.specs.declared.nodes.Node.{Node}
use Rattle.osb_tree.specs.declared.faults.StageFault.{StageFault}
use Rattle.osb_tree.specs.declared.faults.StageFault.TheVariants.{NotADir, TreeTooLarge}
use Rattle.osb_tree.proofs.Puts.{parent_is_a_directory, node_at-put_at, node_at-put_at_same, node_at-put_at_other}
use Rattle.osb_stages.specs.Rules.{Effect, and_then, in_order, placed, ancestors, directory_fault, first_fault, parent_rule, directory, with_ancestor, with_ancestors}

-- ---- ancestors

-- the parent comes last
ancestors-cons : (name : List ℕ) (names : Names) → ancestors (name ∷ names) ≡ ancestors (take (length names) (name ∷ names)) ++ take (length names) (name ∷ names) ∷ []
ancestors-cons name [] = refl
ancestors-cons name (next ∷ names) =
    let below = λ (path : Names). name ∷ path in
    let last = take (length names) (next ∷ names) in
    ap (λ (paths : List Names). [] ∷ map below paths) (ancestors-cons next names) ∙ ap (λ (paths : List Names). [] ∷ paths) (map-append below (ancestors last) (last ∷ []))

ancestors-child : (path parent : Names) → Some parent ≡ parent_of path → ancestors path ≡ ancestors parent ++ parent ∷ []
ancestors-child [] parent e = absurd (true≢false (ap is_some e))
ancestors-child (name ∷ names) parent e =
    let same : parent ≡ take (length names) (name ∷ names) = cc in
    rw same (ancestors-cons name names)

-- each is shorter than the path
shorter-below : (name : List ℕ) (count : ℕ) (paths : List Names) → AllByRecursion (λ path. length path < count) paths → AllByRecursion (λ path. length path < suc count) (map (λ path. name ∷ path) paths)
shorter-below name count [] all = tt
shorter-below name count (path ∷ paths) all = (omega (arith, all.0), shorter-below name count paths all.1)

shorter-ancestors : (path : Names) → AllByRecursion (λ ancestor. length ancestor < length path) (ancestors path)
shorter-ancestors [] = tt
shorter-ancestors (name ∷ names) = (omega arith, shorter-below name (length names) (ancestors names) (shorter-ancestors names))

-- ---- the first fault of some paths

first_fault-cons : (listing : Listing) (path : Names) (paths : List Names) → first_fault listing (path ∷ paths) ≡ option_or (directory_fault path (node_at listing path)) (first_fault listing paths)
first_fault-cons listing path paths = by (directory_fault path (node_at listing path)) refl
  where
    by : (found : Option StageFault) → directory_fault path (node_at listing path) ≡ found → first_fault listing (path ∷ paths) ≡ option_or (directory_fault path (node_at listing path)) (first_fault listing paths)
    by None e = rw e refl
    by (Some fault) e = rw e refl

option_or-nothing : {A : Type 0} (x : Option A) → option_or x None ≡ x
option_or-nothing None = refl
option_or-nothing (Some x) = refl

option_or-assoc : {A : Type 0} (x y z : Option A) → option_or x (option_or y z) ≡ option_or (option_or x y) z
option_or-assoc None y z = refl
option_or-assoc (Some x) y z = refl

pub option_or-none : {A : Type 0} (x y : Option A) → option_or x y ≡ None → (x ≡ None) × (y ≡ None)
option_or-none None y e = (refl, e)
option_or-none (Some x) y e = absurd (true≢false (ap is_some e))

-- one path more has its fault where those before it have none
first_fault-last : (listing : Listing) (paths : List Names) (path : Names) → first_fault listing (paths ++ path ∷ []) ≡ option_or (first_fault listing paths) (directory_fault path (node_at listing path))
first_fault-last listing [] path = first_fault-cons listing path [] ∙ option_or-nothing _
first_fault-last listing (first ∷ paths) path =
    let fault = directory_fault first (node_at listing first) in
    let last = directory_fault path (node_at listing path) in
    rw (first_fault-cons listing first (paths ++ path ∷ []), first_fault-last listing paths path, first_fault-cons listing first paths) (option_or-assoc fault (first_fault listing paths) last)

-- ---- the parent rule, by the parent

pub parent_rule-child : (listing : Listing) (path parent : Names) → Some parent ≡ parent_of path → parent_rule listing path ≡ option_or (parent_rule listing parent) (directory_fault parent (node_at listing parent))
parent_rule-child listing path parent e =
    rw (ancestors-child path parent e) (first_fault-last listing (ancestors parent) parent)

-- the fault of an ancestor of the parent, and else that of the parent
pub parent_rule-above : (listing : Listing) (path parent : Names) (fault : StageFault) → Some parent ≡ parent_of path → parent_rule listing parent ≡ Some fault → parent_rule listing path ≡ Some fault
parent_rule-above listing path parent fault e some =
    rw some at (parent_rule-child listing path parent e)

pub parent_rule-parent : (listing : Listing) (path parent : Names) (found : Option Node) → Some parent ≡ parent_of path → parent_rule listing parent ≡ None → found ≡ node_at listing parent → parent_rule listing path ≡ directory_fault parent found
parent_rule-parent listing path parent found e none is =
    rw (none, ← is) at (parent_rule-child listing path parent e)

-- ---- whatever stands in a tree stands in directories

pub directory-there : (listing : Listing) (path : Names) → IsTrue (is_directory_at listing path) → (directory_fault path (node_at listing path) ≡ None) × IsSome (node_at listing path)
directory-there listing path there = by (node_at listing path) refl
  where
    by : (found : Option Node) → node_at listing path ≡ found → (directory_fault path (node_at listing path) ≡ None) × IsSome (node_at listing path)
    by None e = absurd (true≢false (sym (rw e at there)))
    by (Some node) e = (rw (e, rw e at there) refl, rw e refl)

parent_rule-there : (count : ℕ) (listing : Listing) (path : Names) → length path ≡ count → IsTree listing → IsSome (node_at listing path) → parent_rule listing path ≡ None
parent_rule-there count listing [] long tree there = refl
parent_rule-there zero listing (name ∷ names) long tree there = absurd (omega (arith, long))
parent_rule-there (suc count) listing (name ∷ names) long tree there =
    let parent = take (length names) (name ∷ names) in
    let is = directory-there listing parent (parent_is_a_directory listing (name ∷ names) tree there) in
    let shorter = length-take-le (length names) (name ∷ names) (omega arith) in
    let above = parent_rule-there count listing parent (omega (arith, shorter, long)) tree is.1 in
    parent_rule-parent listing (name ∷ names) parent (node_at listing parent) refl above refl ∙ is.0

pub parent_rule-standing : (listing : Listing) (path : Names) (node : Node) → IsTree listing → Some node ≡ node_at listing path → parent_rule listing path ≡ None
parent_rule-standing listing path node tree is = parent_rule-there (length path) listing path refl tree (ap is_some (sym is))

-- so only the parent can be at fault where something stands
pub parent_rule-in_tree : (listing : Listing) (path parent : Names) (node : Node) → IsTree listing → Some parent ≡ parent_of path → Some node ≡ node_at listing parent → parent_rule listing path ≡ directory_fault parent (Some node)
parent_rule-in_tree listing path parent node tree e is =
    parent_rule-parent listing path parent (Some node) e (parent_rule-standing listing parent node tree is) is

-- ---- effects in order

in_order-last : {A : Type 0} (effect : A → Listing → Effect) (items : List A) (item : A) (listing : Listing) → in_order effect (items ++ item ∷ []) listing ≡ and_then (effect item) (in_order effect items listing)
in_order-last {A} effect [] item listing = by (effect item listing)
  where
    by : (made : Effect) → and_then (in_order effect []) made ≡ made
    by (Ok after) = refl
    by (Err fault) = refl
in_order-last {A} effect (first ∷ items) item listing = by (effect first listing) (in_order-last effect items item)
  where
    by : (made : Effect) → ((after : Listing) → in_order effect (items ++ item ∷ []) after ≡ and_then (effect item) (in_order effect items after)) → and_then (in_order effect (items ++ item ∷ [])) made ≡ and_then (effect item) (and_then (in_order effect items) made)
    by (Ok after) later = later after
    by (Err fault) later = refl

not_ok : {P : Type 0} (fault : StageFault) (after : Listing) → Err fault ≡ Ok after → P
not_ok fault after e = absurd (true≢false (sym (ap is_ok e)))

-- the tree between two effects
record Between (effect : Listing → Effect) (made : Effect) (after : Listing) : Type 0 where
  listing : Listing
  first : made ≡ Ok listing
  second : effect listing ≡ Ok after

between : (effect : Listing → Effect) (made : Effect) (after : Listing) → and_then effect made ≡ Ok after → Between effect made after
between effect (Ok listing) after e = record { listing = listing; first = refl; second = e }
between effect (Err fault) after e = not_ok fault after e

-- ---- directories made above a path

with_ancestor-missing : (path : Names) (listing : Listing) → node_at listing path ≡ None → with_ancestor path listing ≡ placed path (directory 493) listing
with_ancestor-missing path listing e = rw e refl

with_ancestor-standing : (path : Names) (listing : Listing) (node : Node) → node_at listing path ≡ Some node → with_ancestor path listing ≡ cond (is_directory node) (Ok listing) (Err (NotADir path))
with_ancestor-standing path listing node e = rw e refl

with_ancestors-child : (listing : Listing) (path parent : Names) → Some parent ≡ parent_of path → with_ancestors path listing ≡ and_then (with_ancestor parent) (with_ancestors parent listing)
with_ancestors-child listing path parent e =
    rw (ancestors-child path parent e) (in_order-last with_ancestor (ancestors parent) parent listing)

-- ---- where they are there already

directory_fault-standing : (path : Names) (node : Node) → directory_fault path (Some node) ≡ None → is_directory node ≡ true
directory_fault-standing path node e = by (is_directory node) refl
  where
    by : (b : Bool) → is_directory node ≡ b → is_directory node ≡ true
    by true d = d
    by false d = absurd (true≢false (ap is_some (rw d at e)))

with_ancestor-directory : (path : Names) (listing : Listing) → directory_fault path (node_at listing path) ≡ None → with_ancestor path listing ≡ Ok listing
with_ancestor-directory path listing none = by (node_at listing path) refl
  where
    by : (found : Option Node) → node_at listing path ≡ found → with_ancestor path listing ≡ Ok listing
    by None e = absurd (true≢false (ap is_some (rw e at none)))
    by (Some node) e = with_ancestor-standing path listing node e ∙ rw (directory_fault-standing path node (rw e at none)) refl

in_order-directories : (paths : List Names) (listing : Listing) → first_fault listing paths ≡ None → in_order with_ancestor paths listing ≡ Ok listing
in_order-directories [] listing none = refl
in_order-directories (path ∷ paths) listing none =
    let parts = option_or-none (directory_fault path (node_at listing path)) (first_fault listing paths) (sym (first_fault-cons listing path paths) ∙ none) in
    rw (with_ancestor-directory path listing parts.0) (in_order-directories paths listing parts.1)

-- where something stands at the parent, that alone decides
pub with_ancestors-in_tree : (listing : Listing) (path parent : Names) (node : Node) → IsTree listing → Some parent ≡ parent_of path → Some node ≡ node_at listing parent → with_ancestors path listing ≡ cond (is_directory node) (Ok listing) (Err (NotADir parent))
with_ancestors-in_tree listing path parent node tree e is =
    let above = in_order-directories (ancestors parent) listing (parent_rule-standing listing parent node tree is) in
    with_ancestors-child listing path parent e ∙ ap (and_then (with_ancestor parent)) above ∙ with_ancestor-standing parent listing node (sym is)

-- ---- what making one leaves

record Grown (path : Names) (listing after : Listing) : Type 0 where
  there : directory_fault path (node_at after path) ≡ None
  directories : (q : Names) → directory_fault q (node_at listing q) ≡ None → directory_fault q (node_at after q) ≡ None
  others : (q : Names) → path ≢ q → node_at after q ≡ node_at listing q

grown-put : (path : Names) (listing : Listing) → Grown path listing (put_at listing path (directory 493))
grown-put path listing = record {
  there = rw (node_at-put_at_same listing path (directory 493)) refl;
  directories = λ q h. rw (node_at-put_at listing path (directory 493) q) (kept q h (is_same_path path q));
  others = λ q apart. node_at-put_at_other listing path (directory 493) q apart;
}
  where
    kept : (q : Names) → directory_fault q (node_at listing q) ≡ None → (b : Bool) → directory_fault q (cond b (Some (directory 493)) (node_at listing q)) ≡ None
    kept q h true = refl
    kept q h false = h

grown-placed : (path : Names) (listing after : Listing) → placed path (directory 493) listing ≡ Ok after → Grown path listing after
grown-placed path listing after e = by (is_too_large (put_at listing path (directory 493))) e
  where
    by : (b : Bool) → cond b (Err TreeTooLarge) (Ok (put_at listing path (directory 493))) ≡ Ok after → Grown path listing after
    by true e = not_ok TreeTooLarge after e
    by false e =
        let same : put_at listing path (directory 493) ≡ after = cc in
        subst (Grown path listing) same (grown-put path listing)

grown-standing : (path : Names) (listing after : Listing) (node : Node) → node_at listing path ≡ Some node → cond (is_directory node) (Ok listing) (Err (NotADir path)) ≡ Ok after → Grown path listing after
grown-standing path listing after node is e = by (is_directory node) refl e
  where
    by : (b : Bool) → is_directory node ≡ b → cond b (Ok listing) (Err (NotADir path)) ≡ Ok after → Grown path listing after
    by true d e =
        let same : listing ≡ after = cc in
        subst (Grown path listing) same (record { there = rw (is, d) refl; directories = λ q h. h; others = λ q apart. refl })
    by false d e = not_ok (NotADir path) after e

grown : (path : Names) (listing after : Listing) → with_ancestor path listing ≡ Ok after → Grown path listing after
grown path listing after e = by (node_at listing path) refl
  where
    by : (found : Option Node) → node_at listing path ≡ found → Grown path listing after
    by None is = grown-placed path listing after (sym (with_ancestor-missing path listing is) ∙ e)
    by (Some node) is = grown-standing path listing after node is (sym (with_ancestor-standing path listing node is) ∙ e)

-- ---- what making several leaves

directories-in_order : (paths : List Names) (listing after : Listing) → in_order with_ancestor paths listing ≡ Ok after → (q : Names) → directory_fault q (node_at listing q) ≡ None → directory_fault q (node_at after q) ≡ None
directories-in_order [] listing after e q h =
    let same : listing ≡ after = cc in
    subst (λ (l : Listing). directory_fault q (node_at l q) ≡ None) same h
directories-in_order (path ∷ paths) listing after e q h =
    let steps = between (in_order with_ancestor paths) (with_ancestor path listing) after e in
    directories-in_order paths steps.listing after steps.second q ((grown path listing steps.listing steps.first).directories q h)

first_fault-in_order : (paths : List Names) (listing after : Listing) → in_order with_ancestor paths listing ≡ Ok after → first_fault after paths ≡ None
first_fault-in_order [] listing after e = refl
first_fault-in_order (path ∷ paths) listing after e =
    let steps = between (in_order with_ancestor paths) (with_ancestor path listing) after e in
    let here = directories-in_order paths steps.listing after steps.second path (grown path listing steps.listing steps.first).there in
    first_fault-cons after path paths ∙ rw here (first_fault-in_order paths steps.listing after steps.second)

node_at-in_order : (paths : List Names) (listing after : Listing) (q : Names) → AllByRecursion (λ path. length path < length q) paths → in_order with_ancestor paths listing ≡ Ok after → node_at after q ≡ node_at listing q
node_at-in_order [] listing after q all e =
    let same : listing ≡ after = cc in
    ap (λ (l : Listing). node_at l q) (sym same)
node_at-in_order (path ∷ paths) listing after q all e =
    let steps = between (in_order with_ancestor paths) (with_ancestor path listing) after e in
    let apart : path ≢ q = λ same. absurd (omega (arith, ap length same, all.0)) in
    node_at-in_order paths steps.listing after q all.1 steps.second ∙ (grown path listing steps.listing steps.first).others q apart

-- ---- what making all above a path leaves

pub parent_rule-with_ancestors : (listing after : Listing) (path : Names) → with_ancestors path listing ≡ Ok after → parent_rule after path ≡ None
parent_rule-with_ancestors listing after path e = first_fault-in_order (ancestors path) listing after e

pub node_at-with_ancestors : (listing after : Listing) (path : Names) → with_ancestors path listing ≡ Ok after → node_at after path ≡ node_at listing path
node_at-with_ancestors listing after path e = node_at-in_order (ancestors path) listing after path (shorter-ancestors path) e

-- ---- a parent made after all above it

pub with_ancestors-made : (listing between : Listing) (path parent : Names) (made : Effect) → Some parent ≡ parent_of path → None ≡ node_at listing parent → with_ancestors parent listing ≡ Ok between → placed parent (directory 493) between ≡ made → with_ancestors path listing ≡ made
with_ancestors-made listing between path parent made e none above place =
    let missing = node_at-with_ancestors listing between parent above ∙ sym none in
    with_ancestors-child listing path parent e ∙ ap (and_then (with_ancestor parent)) above ∙ with_ancestor-missing parent between missing ∙ place

pub with_ancestors-above : (listing : Listing) (path parent : Names) (fault : StageFault) → Some parent ≡ parent_of path → with_ancestors parent listing ≡ Err fault → with_ancestors path listing ≡ Err fault
with_ancestors-above listing path parent fault e above =
    with_ancestors-child listing path parent e ∙ ap (and_then (with_ancestor parent)) above
