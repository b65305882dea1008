-- `org.osbuild.error` fails as it is asked to.
use Rattle.std.specs.Prelude.{◌==◌, [], ◌∷◌, codes, Ok, Err, if◌then◌else◌}
use Rattle.serde_json.specs.Data.{Data}
use Rattle.osb_tree.specs.Trees.{Listing}
use Rattle.osb_tree.specs.declared.faults.StageFault.TheVariants.{Asked}
use Rattle.osb_stages.specs.Readers.{Read, ◌>>=◌, optional, number_to, no_others}
use Rattle.osb_stages.specs.Rules.{Effect}
use Rattle.osb_files.specs.declared.error.Options.{Options}

-- `returncode` is 0 to 255, and 255 where it is absent
abbrev pub error_options : Data → Read Options
error_options options =
    optional (number_to 255) 255 (codes "returncode") options >>= λ returncode.
    no_others (codes "returncode" ∷ []) options >>= λ _.
    Ok (record { returncode = returncode })

-- 0 leaves the tree
abbrev pub error : Options → Listing → Effect
error options listing = if options.returncode == 0 then Ok listing else Err (Asked options.returncode)
