-- The kinds of stages: their types by name, how their options are read, and what they do. A new kind adds one line to
-- each definition.
use Rattle.std.specs.Prelude.{ℕ, ◌==◌, Bool, List, codes, Result, Ok, Err, if◌then◌else◌}
use Rattle.std.specs.Cmp.Lexicographic.{pointwise}
use Rattle.serde_json.specs.Data.{Data}
use Rattle.osb_tree.specs.Trees.{Listing}
use Rattle.osb_tree.specs.declared.faults.OptionFault.{OptionFault}
use Rattle.osb_tree.specs.declared.faults.Inputs.{Inputs}
use Rattle.osb_stages.specs.Rules.{Effect}
use Rattle.osb_files.specs.Noop.{noop_options, noop}
use Rattle.osb_files.specs.Error.{error_options, error}
use Rattle.osb_files.specs.Mkdir.{mkdir_options, mkdir}
use Rattle.osb_files.specs.Copy.{copy_options, copy}
use Rattle.osb_files.specs.Symlink.{symlink_options, symlink}
use Rattle.osb_files.specs.Chmod.{chmod_options, chmod}
use Rattle.osb_files.specs.Chown.{chown_options, chown}
use Rattle.osb_accounts.specs.Groups.{groups_options, groups}
use Rattle.osb_accounts.specs.UserOptions.{users_options}
use Rattle.osb_accounts.specs.Users.{users}
use Rattle.osb_system.specs.Hostname.{hostname_options, hostname}
use Rattle.osb_system.specs.Locale.{locale_options, locale}
use Rattle.osb_system.specs.Timezone.{timezone_options, timezone}
use Rattle.osb_system.specs.Keymap.{keymap_options, keymap}
use Rattle.osb_system.specs.MachineId.{machine_id_options, machine_id}
use Rattle.osb_recipe.specs.declared.kinds.StageKind.{StageKind}
use Rattle.osb_recipe.specs.declared.kinds.StageKind.TheVariants.{Noop, Error, Mkdir, Copy, Symlink, Chmod, Chown, Groups, Users, Hostname, Locale, Timezone, Keymap, MachineId}
use Rattle.osb_recipe.specs.declared.kinds.KindFault.{KindFault}
use Rattle.osb_recipe.specs.declared.kinds.KindFault.TheVariants.{UnknownStage, Options}

abbrev pub type_text : StageKind → List ℕ
type_text (Noop options) = codes "org.osbuild.noop"
type_text (Error options) = codes "org.osbuild.error"
type_text (Mkdir options) = codes "org.osbuild.mkdir"
type_text (Copy options) = codes "org.osbuild.copy"
type_text (Symlink options) = codes "org.osbuild.symlink"
type_text (Chmod options) = codes "org.osbuild.chmod"
type_text (Chown options) = codes "org.osbuild.chown"
type_text (Groups options) = codes "org.osbuild.groups"
type_text (Users options) = codes "org.osbuild.users"
type_text (Hostname options) = codes "org.osbuild.hostname"
type_text (Locale options) = codes "org.osbuild.locale"
type_text (Timezone options) = codes "org.osbuild.timezone"
type_text (Keymap options) = codes "org.osbuild.keymap"
type_text (MachineId options) = codes "org.osbuild.machine-id"

-- a kind with its options, or why they are refused
abbrev pub with_options : {A : Type 0} → (A → StageKind) → Result A OptionFault → Result StageKind KindFault
with_options kind (Ok options) = Ok (kind options)
with_options kind (Err fault) = Err (Options fault)

abbrev pub is_type : List ℕ → List ℕ → Bool
is_type name stage = pointwise ◌==◌ stage name

-- the kind of a stage, by the name of its type and its options
abbrev pub kind_of : List ℕ → Data → Result StageKind KindFault
kind_of stage options =
    if is_type (codes "org.osbuild.noop") stage then with_options Noop (noop_options options)
    else if is_type (codes "org.osbuild.error") stage then with_options Error (error_options options)
    else if is_type (codes "org.osbuild.mkdir") stage then with_options Mkdir (mkdir_options options)
    else if is_type (codes "org.osbuild.copy") stage then with_options Copy (copy_options options)
    else if is_type (codes "org.osbuild.symlink") stage then with_options Symlink (symlink_options options)
    else if is_type (codes "org.osbuild.chmod") stage then with_options Chmod (chmod_options options)
    else if is_type (codes "org.osbuild.chown") stage then with_options Chown (chown_options options)
    else if is_type (codes "org.osbuild.groups") stage then with_options Groups (groups_options options)
    else if is_type (codes "org.osbuild.users") stage then with_options Users (users_options options)
    else if is_type (codes "org.osbuild.hostname") stage then with_options Hostname (hostname_options options)
    else if is_type (codes "org.osbuild.locale") stage then with_options Locale (locale_options options)
    else if is_type (codes "org.osbuild.timezone") stage then with_options Timezone (timezone_options options)
    else if is_type (codes "org.osbuild.keymap") stage then with_options Keymap (keymap_options options)
    else if is_type (codes "org.osbuild.machine-id") stage then with_options MachineId (machine_id_options options)
    else Err UnknownStage

-- what a stage does to a tree
abbrev pub effect : StageKind → Inputs → Listing → Effect
effect (Noop options) inputs listing = noop options listing
effect (Error options) inputs listing = error options listing
effect (Mkdir options) inputs listing = mkdir options listing
effect (Copy options) inputs listing = copy options inputs listing
effect (Symlink options) inputs listing = symlink options listing
effect (Chmod options) inputs listing = chmod options listing
effect (Chown options) inputs listing = chown options listing
effect (Groups options) inputs listing = groups options listing
effect (Users options) inputs listing = users options listing
effect (Hostname options) inputs listing = hostname options listing
effect (Locale options) inputs listing = locale options listing
effect (Timezone options) inputs listing = timezone options listing
effect (Keymap options) inputs listing = keymap options listing
effect (MachineId options) inputs listing = machine_id options listing
