-- `org.osbuild.machine-id` says whether the system boots for the first time.
use Rattle.std.specs.Prelude.{ℕ, ◌==◌, List, [], ◌∷◌, codes, Option, Some, None, Ok, Err, if◌then◌else◌}
use Rattle.std.specs.Cmp.Lexicographic.{pointwise}
use Rattle.serde_json.specs.Data.{Data}
use Rattle.osb_tree.specs.Trees.{Listing, node_at}
use Rattle.osb_tree.specs.declared.nodes.Node.{Node}
use Rattle.osb_tree.specs.declared.nodes.Node.TheVariants.{Dir, File, Link}
use Rattle.osb_tree.specs.declared.faults.OptionFault.TheVariants.{OutOfRange}
use Rattle.osb_tree.specs.declared.faults.StageFault.TheVariants.{Missing as NoPath, NotAFile}
use Rattle.osb_stages.specs.Readers.{Read, ◌>>=◌, required, text, no_others}
use Rattle.osb_stages.specs.Rules.{Effect}
use Rattle.osb_system.specs.Settings.{system_path, with_file}
use Rattle.osb_system.specs.declared.settings.SystemFile.TheVariants as files
use Rattle.osb_system.specs.declared.machine_id.FirstBoot.{FirstBoot}
use Rattle.osb_system.specs.declared.machine_id.FirstBoot.TheVariants.{Yes, No, Preserve}
use Rattle.osb_system.specs.declared.machine_id.Options.{Options}

abbrev pub first_boot : List ℕ → Read FirstBoot
first_boot said =
    if pointwise ◌==◌ said (codes "yes") then Ok Yes
    else if pointwise ◌==◌ said (codes "no") then Ok No
    else if pointwise ◌==◌ said (codes "preserve") then Ok Preserve
    else Err (OutOfRange (codes "first-boot"))

abbrev pub machine_id_options : Data → Read Options
machine_id_options options =
    required text (codes "first-boot") options >>= λ said.
    first_boot said >>= λ first_boot.
    no_others (codes "first-boot" ∷ []) options >>= λ _.
    Ok (record { first_boot = first_boot })

-- a file that is there stays
abbrev pub preserved : Option Node → Listing → Effect
preserved None listing = Err (NoPath (system_path files.MachineId))
preserved (Some (Dir mode uid gid)) listing = Err (NotAFile (system_path files.MachineId))
preserved (Some (File mode uid gid bytes)) listing = Ok listing
preserved (Some (Link uid gid target)) listing = Err (NotAFile (system_path files.MachineId))

-- machine-id(5): a first boot is one whose identifier is not initialized; an empty file asks for one at each boot
abbrev pub machine_id : Options → Listing → Effect
machine_id options listing = by options.first_boot
  where
    by : FirstBoot → Effect
    by Yes = with_file files.MachineId 292 (codes "uninitialized\n") listing
    by No = with_file files.MachineId 292 [] listing
    by Preserve = preserved (node_at listing (system_path files.MachineId)) listing
