-- A node put at a path, by what a put answers.
use Rattle.std.proofs.Common.{◌≡◌, [], ◌∷◌, length, take, Bool, true, false, cond, Option, Some, None, is_some, Err, refl, sym, ◌∙◌, ap, true≢false}
use Rattle.std.specs.Prelude.{IsFalse}
use Rattle.osb_tree.specs.Paths.{Names}
use Rattle.osb_tree.specs.Nodes.{is_directory}
use Rattle.osb_tree.specs.Trees.{Listing, node_at, put_at, put_fault, takes_over, is_too_large, parent_fault, directory_fault as put_directory_fault}
use Rattle.osb_tree.specs.declared.nodes.Node.{Node}
use Rattle.osb_tree.specs.declared.faults.PutFault.{PutFault}
use Rattle.osb_tree.specs.declared.faults.PutFault.TheVariants.{TooLarge}
use Rattle.osb_tree.specs.declared.faults.StageFault.TheVariants.{TreeTooLarge}
use Rattle.osb_stages.specs.Rules.{placed, directory_fault, parent_rule}
use Rattle.osb_stages.proofs.Ancestors.{parent_rule-child, option_or-none}

put_directory_fault-none : (path : Names) (found : Option Node) → directory_fault path found ≡ None → put_directory_fault found ≡ None
put_directory_fault-none path None e = absurd (true≢false (ap is_some e))
put_directory_fault-none path (Some node) e = by (is_directory node) refl
  where
    by : (b : Bool) → is_directory node ≡ b → put_directory_fault (Some node) ≡ None
    by true d = rw d refl
    by false d = absurd (true≢false (ap is_some (rw d at e)))

-- where the parent rule holds, a put finds no fault in the parent
pub parent_fault-none : (listing : Listing) (path : Names) → parent_rule listing path ≡ None → parent_fault listing path ≡ None
parent_fault-none listing [] none = refl
parent_fault-none listing (name ∷ names) none =
    let parent = take (length names) (name ∷ names) in
    put_directory_fault-none parent (node_at listing parent) (option_or-none _ _ (sym (parent_rule-child listing (name ∷ names) parent refl) ∙ none)).1

large-from : (large : Bool) (fault : PutFault) → cond large (Some TooLarge) None ≡ Some fault → large ≡ true
large-from true fault e = refl
large-from false fault e = absurd (true≢false (ap is_some (sym e)))

-- so only the size of the tree is in the way
pub placed-fault : (listing : Listing) (path : Names) (node : Node) (fault : PutFault) → parent_rule listing path ≡ None → IsFalse (takes_over listing path node) → put_fault listing path node ≡ Some fault → placed path node listing ≡ Err TreeTooLarge
placed-fault listing path node fault above fits e =
    let large = large-from (is_too_large (put_at listing path node)) fault (rw (parent_fault-none listing path above, fits) at e) in
    rw large refl
