-- `org.osbuild.keymap` sets the console's keys.
use Rattle.std.specs.Prelude.{[], ◌∷◌, ◌++◌, codes, Ok}
use Rattle.serde_json.specs.Data.{Data}
use Rattle.osb_tree.specs.Trees.{Listing}
use Rattle.osb_stages.specs.Readers.{Read, ◌>>=◌, required, text, allowed, no_others}
use Rattle.osb_stages.specs.Rules.{Effect}
use Rattle.osb_system.specs.Settings.{is_setting, is_line_byte, with_file}
use Rattle.osb_system.specs.declared.settings.SystemFile.TheVariants as files
use Rattle.osb_system.specs.declared.keymap.Options.{Options}

abbrev pub keymap_options : Data → Read Options
keymap_options options =
    required text (codes "keymap") options >>= λ keymap.
    allowed (is_setting 128 is_line_byte keymap) (codes "keymap") >>= λ _.
    no_others (codes "keymap" ∷ []) options >>= λ _.
    Ok (record { keymap = keymap })

-- vconsole.conf(5)
abbrev pub keymap : Options → Listing → Effect
keymap options listing = with_file files.Console 420 (codes "KEYMAP=" ++ (options.keymap ++ codes "\n")) listing
