-- `org.osbuild.chmod` changes modes.
use Rattle.std.specs.Prelude.{ℕ, ◌==◌, Bool, true, false, ◌&&◌, ◌||◌, List, [], ◌∷◌, length, nat_le, codes, Option, Some, None, Ok, Err, if◌then◌else◌}
use Rattle.std.specs.List.{list_all}
use Rattle.std.specs.Str.Parse.{digits_value}
use Rattle.serde_json.specs.Data.{Data}
use Rattle.osb_tree.specs.Paths.{Names}
use Rattle.osb_tree.specs.Trees.{Listing, node_at}
use Rattle.osb_tree.specs.declared.nodes.Node.{Node}
use Rattle.osb_tree.specs.declared.nodes.Node.TheVariants.{Dir, File, Link}
use Rattle.osb_tree.specs.declared.faults.StageFault.TheVariants.{Missing, NotAFile}
use Rattle.osb_stages.specs.Readers.{Read, ◌>>=◌, required, optional, text, allowed, flag, path_key, entries_of, no_others}
use Rattle.osb_stages.specs.Rules.{Effect, in_order}
use Rattle.osb_files.specs.Attributes.{is_covered, with_attributes_at}
use Rattle.osb_files.specs.declared.attributes.Attributes.{Attributes}
use Rattle.osb_files.specs.declared.chmod.Change.{Change}
use Rattle.osb_files.specs.declared.chmod.Options.{Options}

abbrev pub is_octal_digit : ℕ → Bool
is_octal_digit byte = nat_le 48 byte && nat_le byte 55

-- how a mode is written: by 3 or 4 octal digits
abbrev pub is_mode_text : List ℕ → Bool
is_mode_text text = (length text == 3 || length text == 4) && list_all is_octal_digit text

-- what a path gets
abbrev pub chmod_change : Data → Read Change
chmod_change options =
    required text (codes "mode") options >>= λ mode.
    allowed (is_mode_text mode) (codes "mode") >>= λ _.
    optional flag false (codes "recursive") options >>= λ recursive.
    no_others (codes "mode" ∷ codes "recursive" ∷ []) options >>= λ _.
    Ok (record { mode = digits_value 8 mode; recursive = recursive })

abbrev pub chmod_options : Data → Read Options
chmod_options options =
    required (entries_of path_key chmod_change) (codes "items") options >>= λ items.
    no_others (codes "items" ∷ []) options >>= λ _.
    Ok (record { items = items })

abbrev pub is_link : Node → Bool
is_link (Dir mode uid gid) = false
is_link (File mode uid gid bytes) = false
is_link (Link uid gid target) = true

abbrev pub only_mode : ℕ → Attributes
only_mode mode = record { mode = Some mode; uid = None; gid = None }

-- the mode given to what stands at a path, which is no link
abbrev pub with_mode : Names × Change → Listing → Effect
with_mode item listing = over (node_at listing item.0)
  where
    over : Option Node → Effect
    over None = Err (Missing item.0)
    over (Some node) =
        if is_link node then Err (NotAFile item.0)
        else Ok (with_attributes_at (is_covered item.0 item.1.recursive) (only_mode item.1.mode) listing)

-- the modes are given in order
abbrev pub chmod : Options → Listing → Effect
chmod options listing = in_order with_mode options.items listing
