-- `org.osbuild.copy` copies files, links and whole directories out of the trees of its inputs.
use Rattle.std.specs.Prelude.{◌≡◌, ℕ, ◌-◌, ◌==◌, Bool, false, not, ◌&&◌, ◌||◌, List, [], ◌∷◌, ◌++◌, length, drop, map, codes, nat_lt, IsTrue, Option, Some, None, Result, Ok, Err, if◌then◌else◌}
use Rattle.std.specs.Option.{option_or}
use Rattle.std.specs.List.{filter, starts_with, ends_with, before_first, after_first}
use Rattle.std.specs.Map.{lookup}
use Rattle.std.specs.Cmp.Lexicographic.{pointwise}
use Rattle.std.specs.Ordering.{is_lt}
use Rattle.serde_json.specs.Data.{Data}
use Rattle.osb_tree.specs.Paths.{Names, path_of, path_text, path_cmp, is_beneath}
use Rattle.osb_tree.specs.Nodes.{is_directory, InRange}
use Rattle.osb_tree.specs.Trees.{Listing, IsTree, node_at, is_directory_at}
use Rattle.osb_tree.specs.declared.nodes.Node.{Node}
use Rattle.osb_tree.specs.declared.faults.Inputs.{Inputs}
use Rattle.osb_tree.specs.declared.faults.PathFault.{PathFault}
use Rattle.osb_tree.specs.declared.faults.OptionFault.TheVariants.{BadPath}
use Rattle.osb_tree.specs.declared.faults.StageFault.{StageFault}
use Rattle.osb_tree.specs.declared.faults.StageFault.TheVariants.{Missing, Exists, NotADir, NoInput, TreeTooLarge}
use Rattle.osb_stages.specs.Readers.{Read, Reader, ◌>>=◌, required, optional, text, flag, list_of, no_others}
use Rattle.osb_stages.specs.Rules.{Effect, and_then, in_order, unless, parent_rule, placed}
use Rattle.osb_files.specs.declared.copy.Item.{Item}
use Rattle.osb_files.specs.declared.copy.Options.{Options}

-- ---- options: `paths`, a list of objects with `from` and `to`, and `remove_destination`, which says nothing

-- what a text says after its start, which it has to have
abbrev pub text_after : List ℕ → Reader (List ℕ)
text_after start name value =
    text name value >>= λ read.
    if starts_with ◌==◌ read start then Ok (drop (length start) read) else Err (BadPath name)

-- the path that a text gives
abbrev pub path_in : List ℕ → List ℕ → Read Names
path_in name text = as_path (path_of text)
  where
    as_path : Result Names PathFault → Read Names
    as_path (Ok names) = Ok names
    as_path (Err fault) = Err (BadPath name)

abbrev pub is_slash : ℕ → Bool
is_slash byte = byte == 47

-- `input://NAME`, or `input://NAME` and a path: the input's name, which is not empty, and the path in its tree
abbrev pub source_text : Reader (List ℕ × Names)
source_text name value =
    text_after (codes "input://") name value >>= λ rest.
    if length (before_first is_slash rest) == 0 then Err (BadPath name)
    else path_in name (codes "/" ++ after_first is_slash rest) >>= λ path.
    Ok (before_first is_slash rest, path)

-- `tree://` and a path: the path, and whether the text ends in `/`
abbrev pub destination_text : Reader (Names × Bool)
destination_text name value =
    text_after (codes "tree://") name value >>= λ rest.
    path_in name rest >>= λ path.
    Ok (path, ends_with ◌==◌ rest (codes "/"))

-- one item
abbrev pub copy_entry : Data → Read Item
copy_entry options =
    required source_text (codes "from") options >>= λ from.
    required destination_text (codes "to") options >>= λ to.
    optional flag false (codes "remove_destination") options >>= λ _.
    no_others (codes "from" ∷ codes "to" ∷ codes "remove_destination" ∷ []) options >>= λ _.
    Ok (record { input = from.0; source = from.1; to = to.0; into = to.1 })

abbrev pub copy_options : Data → Read Options
copy_options options =
    required (list_of copy_entry) (codes "paths") options >>= λ paths.
    no_others (codes "paths" ∷ []) options >>= λ _.
    Ok (record { paths = paths })

-- ---- the effect

-- what keeps a node from taking the place of what stands at a path
abbrev pub clash : Names → Option Node → Node → Option StageFault
clash path None node = None
clash path (Some there) node =
    if is_directory there && not (is_directory node) then Some (Exists path)
    else if not (is_directory there) && is_directory node then Some (NotADir path)
    else None

-- a node that comes to a path: where nothing stands, or in the place of what does
abbrev pub received : Names → Node → Listing → Effect
received path node listing =
    unless (clash path (node_at listing path) node)
    (unless (parent_rule listing path) (placed path node listing))

-- a node that comes to a path that is formed for it, and may be too long
abbrev pub copied : Names × Node → Listing → Effect
copied entry listing =
    if nat_lt 4096 (length (path_text entry.0)) then Err TreeTooLarge
    else received entry.0 entry.1 listing

-- an entry beneath a path, in its place beneath another
abbrev pub moved_entry : Names → Names → Names × Node → Names × Node
moved_entry source destination entry = (destination ++ drop (length source) entry.0, entry.1)

-- what lies beneath a path of a listing, with its place beneath another path
abbrev pub moved : Names → Names → Listing → Listing
moved source destination listing = map (moved_entry source destination) (filter (λ entry. is_beneath source entry.0) listing)

-- a directory at the destination stays; another node comes there
abbrev pub with_top : Names → Node → Listing → Effect
with_top destination node listing = if is_directory_at listing destination then Ok listing else received destination node listing

-- a directory with all that is beneath it, in path order
abbrev pub copy_directory : Listing → Names → Names → Node → Listing → Effect
copy_directory from source destination node listing = and_then (in_order copied (moved source destination from)) (with_top destination node listing)

-- the last name of a path; the root has none
abbrev pub last_name : Names → Names
last_name names = drop (length names - 1) names

-- a file or a link goes into a directory under its own name, and also where the destination's text ends in `/`
abbrev pub destination_of : Item → Listing → Names
destination_of item listing = if item.into || is_directory_at listing item.to then item.to ++ last_name item.source else item.to

abbrev pub copy_node : Item → Node → Listing → Effect
copy_node item node listing = copied (destination_of item listing, node) listing

-- what stands at an item's path in the tree of its input
abbrev pub copy_item : Inputs → Item → Listing → Effect
copy_item inputs item listing = out_of (lookup (λ name. pointwise ◌==◌ name item.input) inputs.trees)
  where
    copy_found : Listing → Option Node → Effect
    copy_found from None = Err (Missing item.source)
    copy_found from (Some node) = if is_directory node then copy_directory from item.source item.to node listing else copy_node item node listing

    out_of : Option Listing → Effect
    out_of None = Err (NoInput item.input)
    out_of (Some from) = copy_found from (node_at from item.source)

-- the items are copied in order
abbrev pub copy : Options → Inputs → Listing → Effect
copy options inputs listing = in_order (copy_item inputs) options.paths listing

-- what a walk over what lies beneath a path has still to come to, after a path
abbrev pub left_beneath : Names → Names → Listing → Listing
left_beneath source at listing = filter (λ entry. is_lt (path_cmp at entry.0) && is_beneath source entry.0) listing

-- one step of the walk comes to the next path beneath, with what stands there
pub record IsStep (source at : Names) (listing : Listing) (next : Names) (node : Node) : Type 0 where
  pub first : left_beneath source at listing ≡ (next, node) ∷ left_beneath source next listing
  pub beneath : IsTrue (is_beneath source next)
  pub in_range : InRange node

-- ---- what holds of a copy

-- what lies beneath a path of a listing, by a place beneath another path
abbrev pub node_beneath : Listing → Names → Names → Names → Option Node
node_beneath from source destination q = if is_beneath destination q then node_at from (source ++ drop (length destination) q) else None

-- after a copy of what lies beneath a path, each place has what came there, and else what it had
abbrev pub CopiesWhatIsBeneath : Type 0
CopiesWhatIsBeneath = (from listing after : Listing) (source destination q : Names) → IsTree from → in_order copied (moved source destination from) listing ≡ Ok after → node_at after q ≡ option_or (node_beneath from source destination q) (node_at listing q)
