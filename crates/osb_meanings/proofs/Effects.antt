-- A stage whose options are in range makes a tree of a tree.
use Rattle.osb_tree.specs.Trees.{Listing}
use Rattle.osb_tree.specs.declared.faults.Inputs.{Inputs}
use Rattle.osb_recipe.specs.Kinds.{effect}
use Rattle.osb_recipe.specs.declared.kinds.StageKind.{StageKind}
use Rattle.osb_recipe.specs.declared.kinds.StageKind.TheVariants.{Noop, Error, Mkdir, Copy, Symlink, Chmod, Chown, Groups, Users, Hostname, Locale, Timezone, Keymap, MachineId}
use Rattle.osb_meanings.specs.Laws.{IsWithin}
use Rattle.osb_meanings.proofs.Gives.{GivesATree}
use Rattle.osb_meanings.proofs.Ranges.{AreInRange}
use Rattle.osb_meanings.proofs.Files.{AreTrees, error-gives, mkdir-gives, symlink-gives, copy-gives}
use Rattle.osb_meanings.proofs.Attributes.{chmod-gives, chown-gives}
use Rattle.osb_meanings.proofs.Accounts.{groups-gives, users-gives}
use Rattle.osb_meanings.proofs.Systems.{hostname-gives, locale-gives, timezone-gives, keymap-gives, machine_id-gives}

pub effect_keeps_trees : (kind : StageKind) (inputs : Inputs) (base : Listing) → AreInRange kind → AreTrees inputs.trees → IsWithin base → GivesATree (effect kind inputs base)
effect_keeps_trees (Noop options) inputs base range trees is = is
effect_keeps_trees (Error options) inputs base range trees is = error-gives options base is
effect_keeps_trees (Mkdir options) inputs base range trees is = mkdir-gives options base range is
effect_keeps_trees (Copy options) inputs base range trees is = copy-gives options inputs base range trees is
effect_keeps_trees (Symlink options) inputs base range trees is = symlink-gives options base range is
effect_keeps_trees (Chmod options) inputs base range trees is = chmod-gives options base range is
effect_keeps_trees (Chown options) inputs base range trees is = chown-gives options base range is
effect_keeps_trees (Groups options) inputs base range trees is = groups-gives options base is
effect_keeps_trees (Users options) inputs base range trees is = users-gives options base is
effect_keeps_trees (Hostname options) inputs base range trees is = hostname-gives options base is
effect_keeps_trees (Locale options) inputs base range trees is = locale-gives options base is
effect_keeps_trees (Timezone options) inputs base range trees is = timezone-gives options base range is
effect_keeps_trees (Keymap options) inputs base range trees is = keymap-gives options base is
effect_keeps_trees (MachineId options) inputs base range trees is = machine_id-gives options base is
