-- `org.osbuild.groups` adds groups.
use Rattle.std.specs.Prelude.{ℕ, List, [], ◌∷◌, ◌++◌, codes, decimal, Option, Some, None, is_some, Result, Ok, Err, if◌then◌else◌}
use Rattle.serde_json.specs.Data.{Data}
use Rattle.osb_tree.specs.Trees.{Listing}
use Rattle.osb_tree.specs.declared.accounts.AccountFile.TheVariants.{Group as GroupFile}
use Rattle.osb_tree.specs.declared.faults.StageFault.{StageFault}
use Rattle.osb_tree.specs.declared.faults.StageFault.TheVariants.{AccountExists, NumberTaken}
use Rattle.osb_stages.specs.Readers.{Read, ◌>>=◌, required, if_there, number_to, account_key, entries_of, no_others}
use Rattle.osb_stages.specs.Rules.{Effect, in_order}
use Rattle.osb_accounts.specs.Lines.{Fields, FileLines, place_of, is_taken, least_free}
use Rattle.osb_accounts.specs.Files.{lines_at, written}
use Rattle.osb_accounts.specs.declared.groups.Group.{Group}
use Rattle.osb_accounts.specs.declared.groups.Options.{Options}

abbrev pub group_options : Data → Read Group
group_options options =
    if_there (number_to 4294967294) (codes "gid") options >>= λ gid.
    no_others (codes "gid" ∷ []) options >>= λ _.
    Ok (record { gid = gid })

abbrev pub groups_options : Data → Read Options
groups_options options =
    required (entries_of account_key group_options) (codes "groups") options >>= λ groups.
    no_others (codes "groups" ∷ []) options >>= λ _.
    Ok (record { groups = groups })

-- ---- the numbers of new accounts

-- the least free one
abbrev pub free_number : FileLines → Result ℕ StageFault
free_number lines = found (least_free lines)
  where
    found : Option ℕ → Result ℕ StageFault
    found None = Err (NumberTaken 60000)
    found (Some number) = Ok number

-- the one that is asked for, where no line has it
abbrev pub new_number : Option ℕ → FileLines → Result ℕ StageFault
new_number None lines = free_number lines
new_number (Some number) lines = if is_taken number lines then Err (NumberTaken number) else Ok number

-- ---- the stage

-- a group without members
abbrev pub group_line : List ℕ → ℕ → Fields
group_line name gid = name ∷ codes "x" ∷ decimal gid ∷ [] ∷ []

-- the lines with one of a new group
abbrev pub with_group : List ℕ × Group → FileLines → Result FileLines StageFault
with_group entry lines =
    if is_some (place_of entry.0 lines)
    then Err (AccountExists entry.0)
    else new_number entry.1.gid lines >>= λ gid. Ok (lines ++ group_line entry.0 gid ∷ [])

-- the file is read, the groups are added in order, and the file is written
abbrev pub groups : Options → Listing → Effect
groups options listing =
    lines_at GroupFile listing >>= λ lines.
    in_order with_group options.groups lines >>= λ after.
    written GroupFile after listing
