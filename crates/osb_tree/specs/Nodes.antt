-- What can stand at a path.
use Rattle.std.specs.Prelude.{ℕ, ◌<◌, ◌≤◌, Bool, true, false, not, List, length, IsTrue}
use Rattle.osb_tree.specs.Paths.{has_byte}
use Rattle.osb_tree.specs.declared.nodes.Node.{Node}
use Rattle.osb_tree.specs.declared.nodes.Node.TheVariants.{Dir, File, Link}

abbrev pub is_directory : Node → Bool
is_directory (Dir mode uid gid) = true
is_directory (File mode uid gid bytes) = false
is_directory (Link uid gid target) = false

-- how many bytes a node holds beside its place: a file's content, or a link's target
abbrev pub content_length : Node → ℕ
content_length (Dir mode uid gid) = 0
content_length (File mode uid gid bytes) = length bytes
content_length (Link uid gid target) = length target

-- whose a node is, by number
abbrev pub IsOwner : ℕ → Type 0
IsOwner id = id ≤ 4294967294

-- the permission bits, up to octal 7777
abbrev pub IsMode : ℕ → Type 0
IsMode mode = mode ≤ 4095

pub record IsTarget (target : List ℕ) : Type 0 where
  pub some : 0 < length target
  pub short : length target ≤ 4095
  pub no_nul : IsTrue (not (has_byte 0 target))

-- what a node may be
abbrev pub InRange : Node → Type 0
InRange (Dir mode uid gid) = IsMode mode × IsOwner uid × IsOwner gid
InRange (File mode uid gid bytes) = IsMode mode × IsOwner uid × IsOwner gid
InRange (Link uid gid target) = IsOwner uid × IsOwner gid × IsTarget target
