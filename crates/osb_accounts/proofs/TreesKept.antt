-- Files that a stage leaves as they are, but for the one that it writes.
use Rattle.std.proofs.Common.{◌≡◌, ◌≢◌, ℕ, ◌+◌, ◌==◌, List, [], ◌∷◌, ◌++◌, length, length-append, Bool, true, false, true≢false, cond, Option, Some, None, is_some, Ok, Err, refl, sym, ◌∙◌, ap, arith}
use Rattle.std.specs.Prelude.{codes, nat_lt, Result}
use Rattle.osb_tree.specs.Paths.{Names, path_text}
use Rattle.osb_tree.specs.Nodes.{is_directory}
use Rattle.osb_tree.specs.Trees.{Listing, node_at, put_at, is_too_large}
use Rattle.osb_tree.specs.Accounts.{account_path}
use Rattle.osb_tree.specs.declared.nodes.Node.{Node}
use Rattle.osb_tree.specs.declared.nodes.Node.TheVariants.{Dir}
use Rattle.osb_tree.specs.declared.accounts.AccountFile.{AccountFile}
use Rattle.osb_tree.specs.declared.accounts.AccountFile.TheVariants.{Passwd, Group, Shadow}
use Rattle.osb_tree.specs.declared.faults.PathFault.{PathFault}
use Rattle.osb_tree.specs.declared.faults.PathFault.TheVariants.{TooLong}
use Rattle.osb_tree.specs.declared.faults.StageFault.{StageFault}
use Rattle.osb_tree.specs.declared.faults.StageFault.TheVariants.{NotADir, TreeTooLarge}
use Rattle.osb_tree.proofs.Puts.{node_at-put_at_other}
use Rattle.osb_stages.specs.Readers.{◌>>=◌}
use Rattle.osb_stages.specs.Rules.{Effect, and_then, in_order, unless, placed, parent_rule, leaf_fault, with_leaf, ancestors, directory, with_ancestor, with_ancestors}
use Rattle.osb_accounts.specs.Lines.{Fields, FileLines, place_of, line_at, number_at}
use Rattle.osb_accounts.specs.Homes.{keys_of, with_own_directory, within, key_node, with_key_lines, with_keys, home_path, with_home_of, with_home}
use Rattle.osb_accounts.specs.declared.users.User.{User}
use Rattle.osb_stages.proofs.Ancestors.{node_at-with_ancestors}
use Rattle.osb_accounts.proofs.StepsKept.{not_ok, same_ok}

-- ---- what a put leaves

placed-is : (path : Names) (node : Node) (one two : Listing) → placed path node one ≡ Ok two → put_at one path node ≡ two
placed-is path node one two e = by (is_too_large (put_at one path node)) e
  where
    by : (large : Bool) → cond large (Err TreeTooLarge) (Ok (put_at one path node)) ≡ Ok two → put_at one path node ≡ two
    by true e = not_ok _ two e
    by false e = same_ok _ two e

unless-is : (fault : Option StageFault) (effect : Effect) (two : Listing) → unless fault effect ≡ Ok two → effect ≡ Ok two
unless-is None effect two e = e
unless-is (Some fault) effect two e = not_ok fault two e

pub with_leaf-is : (path : Names) (node : Node) (one two : Listing) → with_leaf path node one ≡ Ok two → put_at one path node ≡ two
with_leaf-is path node one two e =
    placed-is path node one two (unless-is (leaf_fault path (node_at one path)) _ two (unless-is (parent_rule one path) _ two e))

-- what stands at a path after a stage, where a file stood there before
abbrev pub Stays : Names → Listing → Listing → Type 0
Stays path one two = (node : Node) → node_at one path ≡ Some node → node_at two path ≡ Some node

pub stays-trans : (path : Names) (one two three : Listing) → Stays path one two → Stays path two three → Stays path one three
stays-trans path one two three first second node is = second node (first node is)

pub stays-put : (path other : Names) (node : Node) (one two : Listing) → other ≢ path → put_at one other node ≡ two → Stays path one two
stays-put path other node one two apart made there is =
    ap (λ listing. node_at listing path) (sym made) ∙ (node_at-put_at_other one other node path apart ∙ is)

-- nothing stood where it was put
stays-new : (path other : Names) (node : Node) (one two : Listing) → node_at one other ≡ None → put_at one other node ≡ two → Stays path one two
stays-new path other node one two none made there is =
    stays-put path other node one two (λ e. let here : node_at one other ≡ Some there = rw e is in true≢false (sym (ap is_some here) ∙ ap is_some none)) made there is

pub stays-itself : (path : Names) (one two : Listing) → one ≡ two → Stays path one two
stays-itself path one two e node is = ap (λ listing. node_at listing path) (sym e) ∙ is

-- ---- directories that are made

stays-with_ancestor : (path above : Names) (one two : Listing) → with_ancestor above one ≡ Ok two → Stays path one two
stays-with_ancestor path above one two e = by (node_at one above) refl e
  where
    there : (node : Node) (b : Bool) → cond b (Ok one) (Err (NotADir above)) ≡ Ok two → Stays path one two
    there node true e = stays-itself path one two (same_ok one two e)
    there node false e = not_ok _ two e

    by : (found : Option Node) → node_at one above ≡ found → with_ancestor above one ≡ Ok two → Stays path one two
    by None is e = stays-new path above (directory 493) one two is (placed-is above (directory 493) one two (rw is at e))
    by (Some node) is e = there node (is_directory node) (rw is at e)

stays-in_order : {A : Type 0} (path : Names) (effect : A → Listing → Effect) → ((item : A) (one two : Listing) → effect item one ≡ Ok two → Stays path one two)
    → (items : List A) (one two : Listing) → in_order effect items one ≡ Ok two → Stays path one two
stays-in_order path effect each [] one two e = stays-itself path one two (same_ok one two e)
stays-in_order path effect each (item ∷ items) one two e = by (stays-in_order path effect each items) (effect item one) refl e
  where
    by : ((one two : Listing) → in_order effect items one ≡ Ok two → Stays path one two) → (now : Effect) → effect item one ≡ now → and_then (in_order effect items) now ≡ Ok two → Stays path one two
    by later (Err fault) is e = not_ok fault two e
    by later (Ok now) is e = stays-trans path one now two (each item one now is) (later now two e)

stays-with_own_directory : (path : Names) (uid gid : ℕ) (home : Names) (one two : Listing) → with_own_directory uid gid home one ≡ Ok two → Stays path one two
stays-with_own_directory path uid gid home one two e = by (node_at one home) refl e
  where
    there : (b : Bool) → cond b (Ok one) (Err (NotADir home)) ≡ Ok two → Stays path one two
    there true e = stays-itself path one two (same_ok one two e)
    there false e = not_ok _ two e

    made : (above : Effect) → with_ancestors home one ≡ above → node_at one home ≡ None → and_then (placed home (Dir 448 uid gid)) above ≡ Ok two → Stays path one two
    made (Err fault) a none e = not_ok fault two e
    made (Ok above) a none e =
        let missing = node_at-with_ancestors one above home a ∙ none in
        stays-trans path one above two (stays-in_order path with_ancestor (stays-with_ancestor path) (ancestors home) one above a) (stays-new path home (Dir 448 uid gid) above two missing (placed-is home (Dir 448 uid gid) above two e))

    by : (found : Option Node) → node_at one home ≡ found → with_own_directory uid gid home one ≡ Ok two → Stays path one two
    by None is e = made (with_ancestors home one) refl is (rw is at e)
    by (Some node) is e = there (is_directory node) (rw is at e)

-- ---- keys

-- a path that ends in a name is none of the account files', which end in others
pub ends_in : (path : Names) (name first last : List ℕ) → path ++ name ∷ [] ≡ first ∷ last ∷ [] → name ≡ last
ends_in [] name first last e = absurd (omega (arith, ap length e))
ends_in (one ∷ []) name first last e = cc
ends_in (one ∷ two ∷ path) name first last e = absurd (omega (arith, ap length e, length-append path (name ∷ [])))

apart : (file : AccountFile) (path : Names) → path ++ codes "authorized_keys" ∷ [] ≢ account_path file
apart Passwd path e = absurd (omega (arith, ap length (ends_in path (codes "authorized_keys") (codes "etc") (codes "passwd") e)))
apart Group path e = absurd (omega (arith, ap length (ends_in path (codes "authorized_keys") (codes "etc") (codes "group") e)))
apart Shadow path e = absurd (omega (arith, ap length (ends_in path (codes "authorized_keys") (codes "etc") (codes "shadow") e)))

within-is : (path : Names) (name : List ℕ) (made : Names) → within path name ≡ Ok made → path ++ name ∷ [] ≡ made
within-is path name made e = by (nat_lt 4096 (length (path_text (path ++ name ∷ [])))) e
  where
    named : Result Names PathFault → Result Names StageFault
    named (Ok names) = Ok names
    named (Err fault) = Err TreeTooLarge

    by : (long : Bool) → named (cond long (Err TooLong) (Ok (path ++ name ∷ []))) ≡ Ok made → path ++ name ∷ [] ≡ made
    by true e = not_ok _ made e
    by false e = same_ok _ made e

stays-with_key_lines : (file : AccountFile) (uid gid : ℕ) (keys : List (List ℕ)) (directory path : Names) (one two : Listing) → directory ++ codes "authorized_keys" ∷ [] ≡ path → with_key_lines uid gid keys path one ≡ Ok two → Stays (account_path file) one two
stays-with_key_lines file uid gid keys directory path one two named e = by (key_node uid gid keys path (node_at one path)) e
  where
    other : path ≢ account_path file
    other same = apart file directory (named ∙ same)

    by : (node : Result Node StageFault) → (node >>= λ node. with_leaf path node one) ≡ Ok two → Stays (account_path file) one two
    by (Err fault) e = not_ok fault two e
    by (Ok node) e = stays-put (account_path file) path node one two other (with_leaf-is path node one two e)

stays-with_keys : (file : AccountFile) (uid gid : ℕ) (keys : List (List ℕ)) (home : Names) (one two : Listing) → with_keys uid gid keys home one ≡ Ok two → Stays (account_path file) one two
stays-with_keys file uid gid keys home one two e = some (length keys == 0) e
  where
    keys_path : (directory : Names) (now : Listing) (path : Result Names StageFault) → within directory (codes "authorized_keys") ≡ path → (path >>= λ path. with_key_lines uid gid keys path now) ≡ Ok two → Stays (account_path file) now two
    keys_path directory now (Err fault) p e = not_ok fault two e
    keys_path directory now (Ok path) p e = stays-with_key_lines file uid gid keys directory path now two (within-is directory (codes "authorized_keys") path p) e

    made : (directory : Names) (now : Effect) → with_own_directory uid gid directory one ≡ now
        → (now >>= λ made. within directory (codes "authorized_keys") >>= λ path. with_key_lines uid gid keys path made) ≡ Ok two → Stays (account_path file) one two
    made directory (Err fault) d e = not_ok fault two e
    made directory (Ok now) d e = stays-trans (account_path file) one now two (stays-with_own_directory (account_path file) uid gid directory one now d) (keys_path directory now (within directory (codes "authorized_keys")) refl e)

    ssh : (directory : Result Names StageFault)
        → (directory >>= λ directory. with_own_directory uid gid directory one >>= λ made. within directory (codes "authorized_keys") >>= λ path. with_key_lines uid gid keys path made) ≡ Ok two → Stays (account_path file) one two
    ssh (Err fault) e = not_ok fault two e
    ssh (Ok directory) e = made directory (with_own_directory uid gid directory one) refl e

    some : (none : Bool) → cond none (Ok one) (within home (codes ".ssh") >>= λ directory. with_own_directory uid gid directory one >>= λ made. within directory (codes "authorized_keys") >>= λ path. with_key_lines uid gid keys path made) ≡ Ok two
        → Stays (account_path file) one two
    some true e = stays-itself (account_path file) one two (same_ok one two e)
    some false e = ssh (within home (codes ".ssh")) e

-- ---- homes

stays-with_home_of : (file : AccountFile) (number : ℕ) (line : Fields) (keys : List (List ℕ)) (one two : Listing) → with_home_of number line keys one ≡ Ok two → Stays (account_path file) one two
stays-with_home_of file number line keys one two e = by (home_path number line) e
  where
    made : (home : Names) (now : Effect) → with_own_directory (number_at 2 line) (number_at 3 line) home one ≡ now → (now >>= λ made. with_keys (number_at 2 line) (number_at 3 line) keys home made) ≡ Ok two → Stays (account_path file) one two
    made home (Err fault) d e = not_ok fault two e
    made home (Ok now) d e = stays-trans (account_path file) one now two (stays-with_own_directory (account_path file) (number_at 2 line) (number_at 3 line) home one now d) (stays-with_keys file (number_at 2 line) (number_at 3 line) keys home now two e)

    by : (home : Result Names StageFault) → (home >>= λ home. with_own_directory (number_at 2 line) (number_at 3 line) home one >>= λ made. with_keys (number_at 2 line) (number_at 3 line) keys home made) ≡ Ok two → Stays (account_path file) one two
    by (Err fault) e = not_ok fault two e
    by (Ok home) e = made home (with_own_directory (number_at 2 line) (number_at 3 line) home one) refl e

stays-with_home : (file : AccountFile) (kept : ℕ) (lines : FileLines) (entry : List ℕ × User) (one two : Listing) → with_home kept lines entry one ≡ Ok two → Stays (account_path file) one two
stays-with_home file kept lines entry one two e = by (place_of entry.0 lines) refl e
  where
    at_place : (place : ℕ) (b : Bool) → cond b (with_home_of (place + 1) (line_at place lines) (keys_of entry.1) one) (Ok one) ≡ Ok two → Stays (account_path file) one two
    at_place place true e = stays-with_home_of file (place + 1) (line_at place lines) (keys_of entry.1) one two e
    at_place place false e = stays-itself (account_path file) one two (same_ok one two e)

    by : (found : Option ℕ) → place_of entry.0 lines ≡ found → with_home kept lines entry one ≡ Ok two → Stays (account_path file) one two
    by None is e = stays-itself (account_path file) one two (same_ok one two (rw is at e))
    by (Some place) is e = at_place place _ (rw is at e)

pub stays-with_homes : (file : AccountFile) (kept : ℕ) (lines : FileLines) (users : List (List ℕ × User)) (one two : Listing) → in_order (with_home kept lines) users one ≡ Ok two → Stays (account_path file) one two
stays-with_homes file kept lines users one two e = stays-in_order (account_path file) (with_home kept lines) (stays-with_home file kept lines) users one two e
