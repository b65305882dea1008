-- `org.osbuild.timezone` sets the time zone.
use Rattle.std.specs.Prelude.{ℕ, List, [], ◌∷◌, ◌++◌, codes, Ok}
use Rattle.serde_json.specs.Data.{Data}
use Rattle.osb_tree.specs.Trees.{Listing}
use Rattle.osb_stages.specs.Readers.{Read, ◌>>=◌, required, text, allowed, no_others}
use Rattle.osb_stages.specs.Rules.{Effect, link, with_leaf}
use Rattle.osb_system.specs.Settings.{system_path}
use Rattle.osb_system.specs.Zones.{is_zone}
use Rattle.osb_system.specs.declared.settings.SystemFile.TheVariants as files
use Rattle.osb_system.specs.declared.timezone.Options.{Options}

abbrev pub timezone_options : Data → Read Options
timezone_options options =
    required text (codes "zone") options >>= λ zone.
    allowed (is_zone zone) (codes "zone") >>= λ _.
    no_others (codes "zone" ∷ []) options >>= λ _.
    Ok (record { zone = zone })

-- where the description of a zone is, from `/etc` on
abbrev pub zone_target : List ℕ → List ℕ
zone_target zone = codes "../usr/share/zoneinfo/" ++ zone

-- localtime(5)
abbrev pub timezone : Options → Listing → Effect
timezone options listing = with_leaf (system_path files.Localtime) (link (zone_target options.zone)) listing
