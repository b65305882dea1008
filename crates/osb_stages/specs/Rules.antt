-- Rules that the effects of several stages follow: a tree after a stage is its listing, or there is a first fault.
use Rattle.std.specs.Prelude.{ℕ, List, [], ◌∷◌, map, Option, Some, None, Result, Ok, Err, if◌then◌else◌}
use Rattle.osb_tree.specs.Paths.{Names, root}
use Rattle.osb_tree.specs.Nodes.{is_directory}
use Rattle.osb_tree.specs.Trees.{Listing, node_at, put_at, is_too_large}
use Rattle.osb_tree.specs.declared.nodes.Node.{Node}
use Rattle.osb_tree.specs.declared.nodes.Node.TheVariants.{Dir, Link}
use Rattle.osb_tree.specs.declared.faults.StageFault.{StageFault}
use Rattle.osb_tree.specs.declared.faults.StageFault.TheVariants.{Missing, NotADir, NotAFile, TreeTooLarge}

-- what a stage makes of a tree
abbrev pub Effect : Type 0
Effect = Result Listing StageFault

-- an effect after another, which may have had a fault
abbrev pub and_then : {S F : Type 0} → (S → Result S F) → Result S F → Result S F
and_then effect (Ok state) = effect state
and_then effect (Err fault) = Err fault

-- the effects of items in order, up to the first fault
abbrev pub in_order : {A S F : Type 0} → (A → S → Result S F) → List A → S → Result S F
in_order effect [] state = Ok state
in_order effect (item ∷ items) state = and_then (in_order effect items) (effect item state)

-- a fault, or else what follows
abbrev pub unless : Option StageFault → Effect → Effect
unless None effect = effect
unless (Some fault) effect = Err fault

-- a node put at a path, where the tree does not grow too large
abbrev pub placed : Names → Node → Listing → Effect
placed path node listing = if is_too_large (put_at listing path node) then Err TreeTooLarge else Ok (put_at listing path node)

-- ---- the directories above a path

-- from the root
abbrev pub ancestors : Names → List Names
ancestors [] = []
ancestors (name ∷ names) = root ∷ map (λ path. name ∷ path) (ancestors names)

-- what is wrong with what stands where a directory has to stand
abbrev pub directory_fault : Names → Option Node → Option StageFault
directory_fault path None = Some (Missing path)
directory_fault path (Some node) = if is_directory node then None else Some (NotADir path)

-- the first of some paths where no directory stands
abbrev pub first_fault : Listing → List Names → Option StageFault
first_fault listing [] = None
first_fault listing (path ∷ paths) = or_else (directory_fault path (node_at listing path)) (first_fault listing paths)
  where
    or_else : Option StageFault → Option StageFault → Option StageFault
    or_else None fault = fault
    or_else (Some fault) later = Some fault

-- the parent rule: every path above one that is made has to be a directory
abbrev pub parent_rule : Listing → Names → Option StageFault
parent_rule listing path = first_fault listing (ancestors path)

-- ---- files and links

-- a directory makes no room for what holds nothing
abbrev pub leaf_fault : Names → Option Node → Option StageFault
leaf_fault path None = None
leaf_fault path (Some node) = if is_directory node then Some (NotAFile path) else None

-- the write rule: under the parent rule a file or a link comes where nothing stands, or in place of a file or a link
abbrev pub with_leaf : Names → Node → Listing → Effect
with_leaf path node listing = unless (parent_rule listing path) (unless (leaf_fault path (node_at listing path)) (placed path node listing))

-- a directory with owners 0
abbrev pub directory : ℕ → Node
directory mode = Dir mode 0 0

-- a link with owners 0
abbrev pub link : List ℕ → Node
link target = Link 0 0 target

-- a directory above a path that is made: one that is missing is made with mode 0755, and what is no directory is at
-- fault
abbrev pub with_ancestor : Names → Listing → Effect
with_ancestor path listing = over (node_at listing path)
  where
    over : Option Node → Effect
    over None = placed path (directory 493) listing
    over (Some node) = if is_directory node then Ok listing else Err (NotADir path)

-- every directory above a path, made where it is missing
abbrev pub with_ancestors : Names → Listing → Effect
with_ancestors path listing = in_order with_ancestor (ancestors path) listing
