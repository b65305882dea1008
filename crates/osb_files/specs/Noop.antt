-- `org.osbuild.noop` does nothing, and reads none of its options.
use Rattle.std.specs.Prelude.{Ok}
use Rattle.serde_json.specs.Data.{Data}
use Rattle.osb_tree.specs.Trees.{Listing}
use Rattle.osb_stages.specs.Readers.{Read}
use Rattle.osb_stages.specs.Rules.{Effect}
use Rattle.osb_files.specs.declared.noop.Options.{Options}

abbrev pub noop_options : Data → Read Options
noop_options options = Ok (record {})

abbrev pub noop : Options → Listing → Effect
noop options listing = Ok listing
