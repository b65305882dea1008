-- `org.osbuild.mkdir` makes directories.
use Rattle.std.specs.Prelude.{◌&&◌, false, [], ◌∷◌, codes, Option, Some, None, Ok, Err, if◌then◌else◌}
use Rattle.serde_json.specs.Data.{Data}
use Rattle.osb_tree.specs.Nodes.{is_directory}
use Rattle.osb_tree.specs.Trees.{Listing, node_at}
use Rattle.osb_tree.specs.declared.nodes.Node.{Node}
use Rattle.osb_tree.specs.declared.faults.StageFault.TheVariants.{Exists}
use Rattle.osb_stages.specs.Readers.{Read, ◌>>=◌, required, optional, path, number_to, flag, list_of, no_others}
use Rattle.osb_stages.specs.Rules.{Effect, and_then, in_order, unless, parent_rule, placed, directory, with_ancestors}
use Rattle.osb_files.specs.declared.mkdir.Item.{Item}
use Rattle.osb_files.specs.declared.mkdir.Options.{Options}

-- one directory; its mode is 0 to 4095, and 0755 where it is absent
abbrev pub mkdir_item : Data → Read Item
mkdir_item options =
    required path (codes "path") options >>= λ path.
    optional (number_to 4095) 493 (codes "mode") options >>= λ mode.
    optional flag false (codes "parents") options >>= λ parents.
    optional flag false (codes "exist_ok") options >>= λ exist_ok.
    no_others (codes "path" ∷ codes "mode" ∷ codes "parents" ∷ codes "exist_ok" ∷ []) options >>= λ _.
    Ok (record { path = path; mode = mode; parents = parents; exist_ok = exist_ok })

abbrev pub mkdir_options : Data → Read Options
mkdir_options options =
    required (list_of mkdir_item) (codes "paths") options >>= λ paths.
    no_others (codes "paths" ∷ []) options >>= λ _.
    Ok (record { paths = paths })

-- a directory where nothing stands
abbrev pub with_new_directory : Item → Listing → Effect
with_new_directory item listing =
    if item.parents
    then and_then (placed item.path (directory item.mode)) (with_ancestors item.path listing)
    else unless (parent_rule listing item.path) (placed item.path (directory item.mode) listing)

-- where something stands, a directory is left where that is asked for
abbrev pub with_directory : Item → Listing → Effect
with_directory item listing = over (node_at listing item.path)
  where
    over : Option Node → Effect
    over None = with_new_directory item listing
    over (Some node) = if item.exist_ok && is_directory node then Ok listing else Err (Exists item.path)

-- the directories are made in order
abbrev pub mkdir : Options → Listing → Effect
mkdir options listing = in_order with_directory options.paths listing
