-- Homes of users, and who may log in there.
use Rattle.std.specs.Prelude.{ℕ, ◌+◌, ◌==◌, not, ◌||◌, List, [], ◌∷◌, ◌++◌, length, codes, flat_map, nat_le, slice_index, Option, Some, None, Result, Ok, Err, if◌then◌else◌}
use Rattle.std.specs.Str.{is_utf8}
use Rattle.osb_tree.specs.Paths.{Names, path_of, joined}
use Rattle.osb_tree.specs.Nodes.{is_directory}
use Rattle.osb_tree.specs.Trees.{Listing, node_at}
use Rattle.osb_tree.specs.Accounts.{account_path}
use Rattle.osb_tree.specs.declared.nodes.Node.{Node}
use Rattle.osb_tree.specs.declared.nodes.Node.TheVariants.{Dir, File, Link}
use Rattle.osb_tree.specs.declared.accounts.AccountFile.TheVariants.{Passwd}
use Rattle.osb_tree.specs.declared.faults.PathFault.{PathFault}
use Rattle.osb_tree.specs.declared.faults.StageFault.{StageFault}
use Rattle.osb_tree.specs.declared.faults.StageFault.TheVariants.{NotADir, NotAFile, BadLine, TreeTooLarge}
use Rattle.osb_stages.specs.Readers.{◌>>=◌}
use Rattle.osb_stages.specs.Rules.{Effect, and_then, placed, with_leaf, with_ancestors}
use Rattle.osb_accounts.specs.Lines.{Fields, FileLines, field, place_of, line_at, number_at}
use Rattle.osb_accounts.specs.declared.users.User.{User}

-- the keys of a user, in the order in which they are written
abbrev pub keys_of : User → List (List ℕ)
keys_of user = by user.key
  where
    by : Option (List ℕ) → List (List ℕ)
    by None = user.keys
    by (Some key) = key ∷ user.keys

-- ---- directories of a user

-- one for that user alone, where nothing stands
abbrev pub with_own_directory : ℕ → ℕ → Names → Listing → Effect
with_own_directory uid gid path listing = over (node_at listing path)
  where
    over : Option Node → Effect
    over None = and_then (placed path (Dir 448 uid gid)) (with_ancestors path listing)
    over (Some node) = if is_directory node then Ok listing else Err (NotADir path)

-- the path of what is called so in a directory
abbrev pub within : Names → List ℕ → Result Names StageFault
within path name = by (joined path (name ∷ []))
  where
    by : Result Names PathFault → Result Names StageFault
    by (Ok names) = Ok names
    by (Err fault) = Err TreeTooLarge

-- ---- keys

-- a text whose last line ends in a line feed
abbrev pub with_last_line_ended : List ℕ → List ℕ
with_last_line_ended [] = []
with_last_line_ended (byte ∷ bytes) = if slice_index (byte ∷ bytes) (length bytes) == 10 then byte ∷ bytes else (byte ∷ bytes) ++ 10 ∷ []

-- one line for each key
abbrev pub key_lines : List (List ℕ) → List ℕ
key_lines keys = flat_map (λ key. key ++ 10 ∷ []) keys

-- the keys come after what the file has
abbrev pub key_node : ℕ → ℕ → List (List ℕ) → Names → Option Node → Result Node StageFault
key_node uid gid keys path None = Ok (File 384 uid gid (key_lines keys))
key_node uid gid keys path (Some (Dir mode owner group)) = Err (NotAFile path)
key_node uid gid keys path (Some (File mode owner group bytes)) = Ok (File mode owner group (with_last_line_ended bytes ++ key_lines keys))
key_node uid gid keys path (Some (Link owner group target)) = Err (NotAFile path)

abbrev pub with_key_lines : ℕ → ℕ → List (List ℕ) → Names → Listing → Effect
with_key_lines uid gid keys path listing = key_node uid gid keys path (node_at listing path) >>= λ node. with_leaf path node listing

abbrev pub with_keys : ℕ → ℕ → List (List ℕ) → Names → Listing → Effect
with_keys uid gid keys home listing =
    if length keys == 0 then Ok listing
    else
    within home (codes ".ssh") >>= λ directory.
    with_own_directory uid gid directory listing >>= λ made.
    within directory (codes "authorized_keys") >>= λ path.
    with_key_lines uid gid keys path made

-- ---- homes

-- the home in a user's line, which may say none; the line's number counts from 1
abbrev pub home_path : ℕ → Fields → Result Names StageFault
home_path number line = if is_utf8 (field 5 line) then by (path_of (field 5 line)) else Err (BadLine (account_path Passwd) number)
  where
    by : Result Names PathFault → Result Names StageFault
    by (Ok home) = Ok home
    by (Err fault) = Err (BadLine (account_path Passwd) number)

-- the home of the user of a line, and the keys in it
abbrev pub with_home_of : ℕ → Fields → List (List ℕ) → Listing → Effect
with_home_of number line keys listing =
    home_path number line >>= λ home.
    with_own_directory (number_at 2 line) (number_at 3 line) home listing >>= λ made.
    with_keys (number_at 2 line) (number_at 3 line) keys home made

-- each new user, whose line came after the kept ones, has a home made, and so has each user with keys
abbrev pub with_home : ℕ → FileLines → List ℕ × User → Listing → Effect
with_home kept lines entry listing = by (place_of entry.0 lines)
  where
    by : Option ℕ → Effect
    by None = Ok listing
    by (Some place) =
        if nat_le kept place || not (length (keys_of entry.1) == 0)
        then with_home_of (place + 1) (line_at place lines) (keys_of entry.1) listing
        else Ok listing
