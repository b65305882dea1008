-- `org.osbuild.locale` sets the language.
use Rattle.std.specs.Prelude.{[], ◌∷◌, ◌++◌, codes, Ok}
use Rattle.serde_json.specs.Data.{Data}
use Rattle.osb_tree.specs.Trees.{Listing}
use Rattle.osb_stages.specs.Readers.{Read, ◌>>=◌, required, text, allowed, no_others}
use Rattle.osb_stages.specs.Rules.{Effect}
use Rattle.osb_system.specs.Settings.{is_setting, is_line_byte, with_file}
use Rattle.osb_system.specs.declared.settings.SystemFile.TheVariants as files
use Rattle.osb_system.specs.declared.locale.Options.{Options}

abbrev pub locale_options : Data → Read Options
locale_options options =
    required text (codes "language") options >>= λ language.
    allowed (is_setting 128 is_line_byte language) (codes "language") >>= λ _.
    no_others (codes "language" ∷ []) options >>= λ _.
    Ok (record { language = language })

-- locale.conf(5)
abbrev pub locale : Options → Listing → Effect
locale options listing = with_file files.Locale 420 (codes "LANG=" ++ (options.language ++ codes "\n")) listing
