-- Stages that tell a system its settings make a tree of a tree.
use Rattle.std.proofs.Common.{◌≡◌, ℕ, List, [], codes, Option, Some, None, refl, lit≤, arith}
use Rattle.osb_tree.specs.Paths.{IsPath}
use Rattle.osb_tree.specs.Nodes.{IsMode, IsTarget}
use Rattle.osb_tree.specs.Trees.{Listing, node_at}
use Rattle.osb_tree.specs.declared.nodes.Node.{Node}
use Rattle.osb_tree.specs.declared.nodes.Node.TheVariants.{Dir, File, Link}
use Rattle.osb_stages.specs.Rules.{link}
use Rattle.osb_system.specs.Settings.{system_path, with_file}
use Rattle.osb_system.specs.Hostname.{hostname}
use Rattle.osb_system.specs.Locale.{locale}
use Rattle.osb_system.specs.Timezone.{zone_target, timezone}
use Rattle.osb_system.specs.Keymap.{keymap}
use Rattle.osb_system.specs.MachineId.{preserved, machine_id}
use Rattle.osb_system.specs.declared.settings.SystemFile.{SystemFile}
use Rattle.osb_system.specs.declared.settings.SystemFile.TheVariants as files
use Rattle.osb_system.specs.declared.hostname.Options.{Options as HostnameOptions}
use Rattle.osb_system.specs.declared.locale.Options.{Options as LocaleOptions}
use Rattle.osb_system.specs.declared.timezone.Options.{Options as ZoneOptions}
use Rattle.osb_system.specs.declared.keymap.Options.{Options as KeymapOptions}
use Rattle.osb_system.specs.declared.machine_id.Options.{Options as MachineIdOptions}
use Rattle.osb_system.specs.declared.machine_id.FirstBoot.{FirstBoot}
use Rattle.osb_system.specs.declared.machine_id.FirstBoot.TheVariants.{Yes, No, Preserve}
use Rattle.osb_meanings.specs.Laws.{IsWithin}
use Rattle.osb_meanings.proofs.Gives.{GivesATree}
use Rattle.osb_meanings.proofs.Trees.{gives-with_leaf}

system_path-is : (file : SystemFile) → IsPath (system_path file)
system_path-is files.Hostname = record { named = refl; short = lit≤ tt }
system_path-is files.Locale = record { named = refl; short = lit≤ tt }
system_path-is files.Localtime = record { named = refl; short = lit≤ tt }
system_path-is files.Console = record { named = refl; short = lit≤ tt }
system_path-is files.MachineId = record { named = refl; short = lit≤ tt }

gives-file : (file : SystemFile) (mode : ℕ) (text : List ℕ) (listing : Listing) → IsMode mode → IsWithin listing → GivesATree (with_file file mode text listing)
gives-file file mode text listing small is = gives-with_leaf (system_path file) (File mode 0 0 text) listing is (system_path-is file) (small, omega arith, omega arith)

pub hostname-gives : (options : HostnameOptions) (base : Listing) → IsWithin base → GivesATree (hostname options base)
hostname-gives options base is = gives-file files.Hostname 420 _ base (lit≤ tt) is

pub locale-gives : (options : LocaleOptions) (base : Listing) → IsWithin base → GivesATree (locale options base)
locale-gives options base is = gives-file files.Locale 420 _ base (lit≤ tt) is

pub keymap-gives : (options : KeymapOptions) (base : Listing) → IsWithin base → GivesATree (keymap options base)
keymap-gives options base is = gives-file files.Console 420 _ base (lit≤ tt) is

pub timezone-gives : (options : ZoneOptions) (base : Listing) → IsTarget (zone_target options.zone) → IsWithin base → GivesATree (timezone options base)
timezone-gives options base target is = gives-with_leaf (system_path files.Localtime) (link (zone_target options.zone)) base is (system_path-is files.Localtime) (omega arith, omega arith, target)

gives-preserved : (found : Option Node) (listing : Listing) → IsWithin listing → GivesATree (preserved found listing)
gives-preserved None listing is = tt
gives-preserved (Some (Dir mode uid gid)) listing is = tt
gives-preserved (Some (File mode uid gid bytes)) listing is = is
gives-preserved (Some (Link uid gid target)) listing is = tt

pub machine_id-gives : (options : MachineIdOptions) (base : Listing) → IsWithin base → GivesATree (machine_id options base)
machine_id-gives options base is = by options.first_boot refl
  where
    by : (said : FirstBoot) → options.first_boot ≡ said → GivesATree (machine_id options base)
    by Yes e = rw e (gives-file files.MachineId 292 (codes "uninitialized\n") base (lit≤ tt) is)
    by No e = rw e (gives-file files.MachineId 292 [] base (lit≤ tt) is)
    by Preserve e = rw e (gives-preserved (node_at base (system_path files.MachineId)) base is)
