-- Modes and owners that a stage gives to what stands at a path, or there and beneath.
use Rattle.std.specs.Prelude.{Bool, ◌&&◌, ◌||◌, map, unwrap_or, if◌then◌else◌}
use Rattle.osb_tree.specs.Paths.{Names, is_beneath}
use Rattle.osb_tree.specs.Trees.{Listing}
use Rattle.osb_tree.specs.Laws.{is_same_path}
use Rattle.osb_tree.specs.declared.nodes.Node.{Node}
use Rattle.osb_tree.specs.declared.nodes.Node.TheVariants.{Dir, File, Link}
use Rattle.osb_files.specs.declared.attributes.Attributes.{Attributes}

-- a node with these attributes, where one that isn't given stays, and a link has no mode
abbrev pub with_attributes : Attributes → Node → Node
with_attributes given (Dir mode uid gid) = Dir (unwrap_or given.mode mode) (unwrap_or given.uid uid) (unwrap_or given.gid gid)
with_attributes given (File mode uid gid bytes) = File (unwrap_or given.mode mode) (unwrap_or given.uid uid) (unwrap_or given.gid gid) bytes
with_attributes given (Link uid gid target) = Link (unwrap_or given.uid uid) (unwrap_or given.gid gid) target

-- the paths that an item is about: its own, and those beneath where it is recursive
abbrev pub is_covered : Names → Bool → Names → Bool
is_covered path recursive other = is_same_path path other || (recursive && is_beneath path other)

-- the listing, where what stands at some paths has these attributes
abbrev pub with_attributes_at : (Names → Bool) → Attributes → Listing → Listing
with_attributes_at is_one given listing = map (λ entry. (entry.0, (if is_one entry.0 then with_attributes given entry.1 else entry.1))) listing
