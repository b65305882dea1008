-- Stages that write account files and make homes make a tree of a tree.
use Rattle.std.proofs.Common.{◌≡◌, ℕ, ◌+◌, ◌≤◌, ◌==◌, ◌&&◌, ◌||◌, not, List, [], ◌∷◌, length, codes, Bool, true, false, cond, Option, Some, None, is_some, Result, Ok, Err, refl, lit≤, arith}
use Rattle.std.specs.Prelude.{IfOk, IfSome, nat_le}
use Rattle.std.specs.Str.{is_utf8}
use Rattle.osb_tree.specs.Paths.{Names, IsPath, path_of, joined, is_name}
use Rattle.osb_tree.specs.Nodes.{InRange, IsOwner, is_directory}
use Rattle.osb_tree.specs.Trees.{Listing, node_at}
use Rattle.osb_tree.specs.Accounts.{account_path, value_of, is_account_number}
use Rattle.osb_tree.specs.declared.nodes.Node.{Node}
use Rattle.osb_tree.specs.declared.nodes.Node.TheVariants.{Dir, File, Link}
use Rattle.osb_tree.specs.declared.accounts.AccountFile.{AccountFile}
use Rattle.osb_tree.specs.declared.accounts.AccountFile.TheVariants.{Passwd, Group, Shadow}
use Rattle.osb_tree.specs.declared.faults.PathFault.{PathFault}
use Rattle.osb_tree.specs.declared.faults.StageFault.{StageFault}
use Rattle.osb_tree.specs.declared.faults.StageFault.TheVariants.{NotADir, BadLine}
use Rattle.osb_stages.specs.Rules.{in_order}
use Rattle.osb_accounts.specs.Lines.{Fields, FileLines, field, place_of, line_at, number_at}
use Rattle.osb_accounts.specs.Files.{new_mode, file_node, lines_at, written}
use Rattle.osb_accounts.specs.Groups.{with_group, groups}
use Rattle.osb_accounts.specs.Homes.{keys_of, with_own_directory, within, key_node, with_key_lines, with_keys, home_path, with_home_of, with_home}
use Rattle.osb_accounts.specs.Users.{accounts_at, with_user, all_written, users}
use Rattle.osb_accounts.specs.declared.files.Accounts.{Accounts}
use Rattle.osb_accounts.specs.declared.groups.Options.{Options as GroupsOptions}
use Rattle.osb_accounts.specs.declared.users.User.{User}
use Rattle.osb_accounts.specs.declared.users.Options.{Options as UsersOptions}
use Rattle.osb_meanings.specs.Laws.{IsWithin}
use Rattle.osb_meanings.proofs.Gives.{GivesATree, all-any, one_of, gives-next, gives-next-any, gives-in_order}
use Rattle.osb_meanings.proofs.Attributes.{number-small}
use Rattle.osb_meanings.proofs.Trees.{InRange-at, path_of-gives, joined-gives, gives-with_leaf, gives-new}

-- ---- account files

account_path-is : (file : AccountFile) → IsPath (account_path file)
account_path-is Passwd = record { named = refl; short = lit≤ tt }
account_path-is Group = record { named = refl; short = lit≤ tt }
account_path-is Shadow = record { named = refl; short = lit≤ tt }

new_mode-small : (file : AccountFile) → new_mode file ≤ 4095
new_mode-small Passwd = lit≤ tt
new_mode-small Group = lit≤ tt
new_mode-small Shadow = lit≤ tt

file_node-in_range : (file : AccountFile) (lines : FileLines) (found : Option Node) → IfSome found InRange → IfOk (file_node file lines found) InRange
file_node-in_range file lines None range = (new_mode-small file, omega arith, omega arith)
file_node-in_range file lines (Some (Dir mode uid gid)) range = tt
file_node-in_range file lines (Some (File mode uid gid bytes)) range = range
file_node-in_range file lines (Some (Link uid gid target)) range = tt

gives-written : (file : AccountFile) (lines : FileLines) (listing : Listing) → IsWithin listing → GivesATree (written file lines listing)
gives-written file lines listing is =
    one_of IsWithin (not (is_some (node_at listing (account_path file))) && length lines == 0) (Ok listing) _ (λ _. is) (λ _.
    gives-next InRange IsWithin (file_node file lines (node_at listing (account_path file))) _ (file_node-in_range file lines (node_at listing (account_path file)) (InRange-at listing (account_path file) is.tree)) (λ node range.
    gives-with_leaf (account_path file) node listing is (account_path-is file) range))

pub groups-gives : (options : GroupsOptions) (base : Listing) → IsWithin base → GivesATree (groups options base)
groups-gives options base is =
    gives-next-any IsWithin (lines_at Group base) _ (λ lines.
    gives-next-any IsWithin (in_order with_group options.groups lines) _ (λ after.
    gives-written Group after base is))

-- ---- directories of a user

gives-own_directory : (uid gid : ℕ) (path : Names) (listing : Listing) → IsOwner uid → IsOwner gid → IsPath path → IsWithin listing → GivesATree (with_own_directory uid gid path listing)
gives-own_directory uid gid path listing u g at is = by (node_at listing path) refl
  where
    by : (found : Option Node) → node_at listing path ≡ found → GivesATree (with_own_directory uid gid path listing)
    by None e = rw e (gives-new path (Dir 448 uid gid) listing is at (omega arith, u, g) e)
    by (Some node) e = rw e (one_of IsWithin (is_directory node) (Ok listing) (Err (NotADir path)) (λ _. is) (λ _. tt))

within-is : (path : Names) (name : List ℕ) → IsPath path → is_name name ≡ true → IfOk (within path name) IsPath
within-is path name at named = by (joined path (name ∷ [])) refl (joined-gives path (name ∷ []) at.named (rw named refl))
  where
    by : (names : Result Names PathFault) → joined path (name ∷ []) ≡ names → IfOk names IsPath → IfOk (within path name) IsPath
    by (Ok names) e is = rw e is
    by (Err fault) e is = rw e tt

-- ---- keys

key_node-in_range : (uid gid : ℕ) (keys : List (List ℕ)) (path : Names) (found : Option Node) → IsOwner uid → IsOwner gid → IfSome found InRange → IfOk (key_node uid gid keys path found) InRange
key_node-in_range uid gid keys path None u g range = (omega arith, u, g)
key_node-in_range uid gid keys path (Some (Dir mode owner group)) u g range = tt
key_node-in_range uid gid keys path (Some (File mode owner group bytes)) u g range = range
key_node-in_range uid gid keys path (Some (Link owner group target)) u g range = tt

gives-key_lines : (uid gid : ℕ) (keys : List (List ℕ)) (path : Names) (listing : Listing) → IsOwner uid → IsOwner gid → IsPath path → IsWithin listing → GivesATree (with_key_lines uid gid keys path listing)
gives-key_lines uid gid keys path listing u g at is =
    gives-next InRange IsWithin (key_node uid gid keys path (node_at listing path)) _ (key_node-in_range uid gid keys path (node_at listing path) u g (InRange-at listing path is.tree)) (λ node range.
    gives-with_leaf path node listing is at range)

gives-keys : (uid gid : ℕ) (keys : List (List ℕ)) (home : Names) (listing : Listing) → IsOwner uid → IsOwner gid → IsPath home → IsWithin listing → GivesATree (with_keys uid gid keys home listing)
gives-keys uid gid keys home listing u g at is =
    one_of IsWithin (length keys == 0) (Ok listing) _ (λ _. is) (λ _.
    gives-next IsPath IsWithin (within home (codes ".ssh")) _ (within-is home (codes ".ssh") at refl) (λ directory there.
    gives-next IsWithin IsWithin (with_own_directory uid gid directory listing) _ (gives-own_directory uid gid directory listing u g there is) (λ made now.
    gives-next IsPath IsWithin (within directory (codes "authorized_keys")) _ (within-is directory (codes "authorized_keys") there refl) (λ path here.
    gives-key_lines uid gid keys path made u g here now))))

-- ---- homes

-- a field says a number that is in range, or 0
number_at-small : (place : ℕ) (line : Fields) → IsOwner (number_at place line)
number_at-small place line = by (is_account_number (field place line)) refl
  where
    by : (b : Bool) → is_account_number (field place line) ≡ b → IsOwner (cond b (value_of (field place line)) 0)
    by true e = number-small (field place line) e
    by false e = omega arith

home_path-is : (number : ℕ) (line : Fields) → IfOk (home_path number line) IsPath
home_path-is number line = one_of IsPath (is_utf8 (field 5 line)) _ (Err (BadLine (account_path Passwd) number)) (λ _. by (path_of (field 5 line)) (path_of-gives (field 5 line))) (λ _. tt)
  where
    home_of : Result Names PathFault → Result Names StageFault
    home_of (Ok home) = Ok home
    home_of (Err fault) = Err (BadLine (account_path Passwd) number)

    by : (home : Result Names PathFault) → IfOk home IsPath → IfOk (home_of home) IsPath
    by (Ok home) is = is
    by (Err fault) is = tt

gives-home_of : (number : ℕ) (line : Fields) (keys : List (List ℕ)) (listing : Listing) → IsWithin listing → GivesATree (with_home_of number line keys listing)
gives-home_of number line keys listing is =
    let uid = number_at 2 line in
    let gid = number_at 3 line in
    let u = number_at-small 2 line in
    let g = number_at-small 3 line in
    gives-next IsPath IsWithin (home_path number line) _ (home_path-is number line) (λ home at.
    gives-next IsWithin IsWithin (with_own_directory uid gid home listing) _ (gives-own_directory uid gid home listing u g at is) (λ made now.
    gives-keys uid gid keys home made u g at now))

gives-home : (kept : ℕ) (lines : FileLines) (entry : List ℕ × User) (listing : Listing) → IsWithin listing → GivesATree (with_home kept lines entry listing)
gives-home kept lines entry listing is = by (place_of entry.0 lines) refl
  where
    by : (found : Option ℕ) → place_of entry.0 lines ≡ found → GivesATree (with_home kept lines entry listing)
    by None e = rw e is
    by (Some place) e = rw e (one_of IsWithin (nat_le kept place || not (length (keys_of entry.1) == 0)) _ (Ok listing) (λ _. gives-home_of (place + 1) (line_at place lines) (keys_of entry.1) listing is) (λ _. is))

-- ---- users

gives-all_written : (files : Accounts) (listing : Listing) → IsWithin listing → GivesATree (all_written files listing)
gives-all_written files listing is =
    gives-next IsWithin IsWithin (written Passwd files.passwd listing) _ (gives-written Passwd files.passwd listing is) (λ one first.
    gives-next IsWithin IsWithin (written Group files.group one) _ (gives-written Group files.group one first) (λ two second.
    gives-written Shadow files.shadow two second))

pub users-gives : (options : UsersOptions) (base : Listing) → IsWithin base → GivesATree (users options base)
users-gives options base is =
    gives-next-any IsWithin (accounts_at base) _ (λ before.
    gives-next-any IsWithin (in_order with_user options.users before) _ (λ after.
    gives-next IsWithin IsWithin (all_written after base) _ (gives-all_written after base is) (λ made now.
    gives-in_order (λ _. Unit {0}) (with_home (length before.passwd) after.passwd) (λ entry listing _ so_far. gives-home (length before.passwd) after.passwd entry listing so_far) options.users made (all-any options.users) now)))
