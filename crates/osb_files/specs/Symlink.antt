-- `org.osbuild.symlink` makes links.
use Rattle.std.specs.Prelude.{[], ◌∷◌, codes, is_some, Ok, Err, if◌then◌else◌}
use Rattle.serde_json.specs.Data.{Data}
use Rattle.osb_tree.specs.Trees.{Listing, node_at}
use Rattle.osb_tree.specs.declared.faults.StageFault.TheVariants.{Exists}
use Rattle.osb_stages.specs.Readers.{Read, ◌>>=◌, required, text, allowed, is_target, path, list_of, no_others}
use Rattle.osb_stages.specs.Rules.{Effect, in_order, unless, parent_rule, placed, link}
use Rattle.osb_files.specs.declared.symlink.Item.{Item}
use Rattle.osb_files.specs.declared.symlink.Options.{Options}

-- one link
abbrev pub symlink_item : Data → Read Item
symlink_item options =
    required text (codes "target") options >>= λ target.
    allowed (is_target target) (codes "target") >>= λ _.
    required path (codes "link") options >>= λ link.
    no_others (codes "target" ∷ codes "link" ∷ []) options >>= λ _.
    Ok (record { target = target; link = link })

abbrev pub symlink_options : Data → Read Options
symlink_options options =
    required (list_of symlink_item) (codes "paths") options >>= λ paths.
    no_others (codes "paths" ∷ []) options >>= λ _.
    Ok (record { paths = paths })

-- a link where nothing stands
abbrev pub with_link : Item → Listing → Effect
with_link item listing =
    unless (parent_rule listing item.link)
    (if is_some (node_at listing item.link) then Err (Exists item.link) else placed item.link (link item.target) listing)

-- the links are made in order
abbrev pub symlink : Options → Listing → Effect
symlink options listing = in_order with_link options.paths listing
