-- The programs that stages run, which have to be in the tree that they run in.
use Rattle.std.specs.Prelude.{◌==◌, Bool, false, not, List, [], ◌∷◌, codes, find, bit_and, Option, Some, None, option_map}
use Rattle.osb_tree.specs.Paths.{Names}
use Rattle.osb_tree.specs.Trees.{Listing, node_at}
use Rattle.osb_tree.specs.declared.nodes.Node.{Node}
use Rattle.osb_tree.specs.declared.nodes.Node.TheVariants.{File}
use Rattle.osb_recipe.specs.declared.kinds.StageKind.{StageKind}
use Rattle.osb_recipe.specs.declared.kinds.StageKind.TheVariants as kinds
use Rattle.osb_recipe.specs.declared.tools.Tool.{Tool}
use Rattle.osb_recipe.specs.declared.tools.Tool.TheVariants.{Copy, ChangeMode, ChangeOwner, AddGroup, AddUser}

abbrev pub tool_path : Tool → Names
tool_path Copy = codes "usr" ∷ codes "bin" ∷ codes "cp" ∷ []
tool_path ChangeMode = codes "usr" ∷ codes "bin" ∷ codes "chmod" ∷ []
tool_path ChangeOwner = codes "usr" ∷ codes "bin" ∷ codes "chown" ∷ []
tool_path AddGroup = codes "usr" ∷ codes "sbin" ∷ codes "groupadd" ∷ []
tool_path AddUser = codes "usr" ∷ codes "sbin" ∷ codes "useradd" ∷ []

-- what a kind of stages needs
abbrev pub tools_of : StageKind → List Tool
tools_of (kinds.Noop options) = []
tools_of (kinds.Error options) = []
tools_of (kinds.Mkdir options) = []
tools_of (kinds.Copy options) = Copy ∷ []
tools_of (kinds.Symlink options) = []
tools_of (kinds.Chmod options) = ChangeMode ∷ []
tools_of (kinds.Chown options) = ChangeOwner ∷ []
tools_of (kinds.Groups options) = AddGroup ∷ []
tools_of (kinds.Users options) = AddUser ∷ []
tools_of (kinds.Hostname options) = []
tools_of (kinds.Locale options) = []
tools_of (kinds.Timezone options) = []
tools_of (kinds.Keymap options) = []
tools_of (kinds.MachineId options) = []

-- a program is a file that its owner, its group or others may run: one of the bits of mode 0111
abbrev pub is_program : Option Node → Bool
is_program None = false
is_program (Some (File mode uid gid bytes)) = not (bit_and mode 73 == 0)
is_program (Some other) = false

abbrev pub lacks : Listing → Tool → Bool
lacks build tool = not (is_program (node_at build (tool_path tool)))

-- the first of some tools that a tree lacks
abbrev pub first_lacking : Listing → List Tool → Option Names
first_lacking build tools = option_map tool_path (find (lacks build) tools)

-- the first one that a stage needs and its build tree lacks: without a build tree it needs none
abbrev pub missing_tool : StageKind → Option Listing → Option Names
missing_tool kind None = None
missing_tool kind (Some build) = first_lacking build (tools_of kind)
