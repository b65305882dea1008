-- `org.osbuild.hostname` names the system.
use Rattle.std.specs.Prelude.{ℕ, ◌==◌, Bool, ◌||◌, List, [], ◌∷◌, ◌++◌, codes, Ok}
use Rattle.std.specs.Char.{is_ascii_alphanumeric}
use Rattle.serde_json.specs.Data.{Data}
use Rattle.osb_tree.specs.Trees.{Listing}
use Rattle.osb_stages.specs.Readers.{Read, ◌>>=◌, required, text, allowed, no_others}
use Rattle.osb_stages.specs.Rules.{Effect}
use Rattle.osb_system.specs.Settings.{is_setting, with_file}
use Rattle.osb_system.specs.declared.settings.SystemFile.TheVariants as files
use Rattle.osb_system.specs.declared.hostname.Options.{Options}

-- `A-Z a-z 0-9 - .`
abbrev pub is_host_byte : ℕ → Bool
is_host_byte byte = is_ascii_alphanumeric byte || byte == 45 || byte == 46

abbrev pub is_hostname : List ℕ → Bool
is_hostname name = is_setting 64 is_host_byte name

abbrev pub hostname_options : Data → Read Options
hostname_options options =
    required text (codes "hostname") options >>= λ hostname.
    allowed (is_hostname hostname) (codes "hostname") >>= λ _.
    no_others (codes "hostname" ∷ []) options >>= λ _.
    Ok (record { hostname = hostname })

abbrev pub hostname : Options → Listing → Effect
hostname options listing = with_file files.Hostname 420 (options.hostname ++ codes "\n") listing
