-- `org.osbuild.chown` changes owners.
use Rattle.std.specs.Prelude.{ℕ, false, List, [], ◌∷◌, codes, Option, Some, None, Result, Ok, Err}
use Rattle.serde_json.specs.Data.{Data}
use Rattle.osb_tree.specs.Paths.{Names}
use Rattle.osb_tree.specs.Trees.{Listing, node_at}
use Rattle.osb_tree.specs.Accounts.{account_path, bad_line, number_of}
use Rattle.osb_tree.specs.declared.nodes.Node.{Node}
use Rattle.osb_tree.specs.declared.nodes.Node.TheVariants.{Dir, File, Link}
use Rattle.osb_tree.specs.declared.accounts.AccountFile.{AccountFile}
use Rattle.osb_tree.specs.declared.accounts.AccountFile.TheVariants.{Passwd, Group}
use Rattle.osb_tree.specs.declared.faults.StageFault.{StageFault}
use Rattle.osb_tree.specs.declared.faults.StageFault.TheVariants.{Missing as NoPath, NotAFile, BadLine, NoAccount}
use Rattle.osb_tree.specs.declared.faults.OptionFault.TheVariants.{Missing}
use Rattle.osb_stages.specs.Readers.{Read, ◌>>=◌, required, optional, if_there, account, flag, path_key, entries_of, no_others}
use Rattle.osb_stages.specs.Rules.{Effect, in_order}
use Rattle.osb_stages.specs.declared.owners.Account.{Account}
use Rattle.osb_stages.specs.declared.owners.Account.TheVariants.{Name, Number}
use Rattle.osb_files.specs.Attributes.{is_covered, with_attributes_at}
use Rattle.osb_files.specs.declared.attributes.Attributes.{Attributes}
use Rattle.osb_files.specs.declared.chown.Change.{Change}
use Rattle.osb_files.specs.declared.chown.Options.{Options}

-- one of the two has to be there
abbrev pub some_owner : Option Account → Option Account → Read (Unit {0})
some_owner None None = Err (Missing (codes "user"))
some_owner None (Some group) = Ok tt
some_owner (Some user) group = Ok tt

-- what a path gets
abbrev pub chown_change : Data → Read Change
chown_change options =
    if_there account (codes "user") options >>= λ user.
    if_there account (codes "group") options >>= λ group.
    some_owner user group >>= λ _.
    optional flag false (codes "recursive") options >>= λ recursive.
    no_others (codes "user" ∷ codes "group" ∷ codes "recursive" ∷ []) options >>= λ _.
    Ok (record { user = user; group = group; recursive = recursive })

abbrev pub chown_options : Data → Read Options
chown_options options =
    required (entries_of path_key chown_change) (codes "items") options >>= λ items.
    no_others (codes "items" ∷ []) options >>= λ _.
    Ok (record { items = items })

-- ---- numbers of accounts

-- the number of a name, where all lines have their form
abbrev pub number_in : AccountFile → List ℕ → List ℕ → Result ℕ StageFault
number_in file name bytes = by (bad_line file bytes)
  where
    found : Option ℕ → Result ℕ StageFault
    found None = Err (NoAccount name)
    found (Some number) = Ok number

    by : Option ℕ → Result ℕ StageFault
    by None = found (number_of name bytes)
    by (Some line) = Err (BadLine (account_path file) line)

-- where what stands at the path of the accounts is a file
abbrev pub number_at : AccountFile → List ℕ → Option Node → Result ℕ StageFault
number_at file name None = Err (NoPath (account_path file))
number_at file name (Some (Dir mode uid gid)) = Err (NotAFile (account_path file))
number_at file name (Some (File mode uid gid bytes)) = number_in file name bytes
number_at file name (Some (Link uid gid target)) = Err (NotAFile (account_path file))

-- the number of an account, which a tree may have to tell
abbrev pub owner : AccountFile → Listing → Account → Result ℕ StageFault
owner file listing (Name name) = number_at file name (node_at listing (account_path file))
owner file listing (Number number) = Ok number

-- of one that may not be given
abbrev pub given_owner : AccountFile → Listing → Option Account → Result (Option ℕ) StageFault
given_owner file listing None = Ok None
given_owner file listing (Some account) = some (owner file listing account)
  where
    some : Result ℕ StageFault → Result (Option ℕ) StageFault
    some (Ok number) = Ok (Some number)
    some (Err fault) = Err fault

-- what nodes get: the user is looked up before the group
abbrev pub owners : Listing → Change → Result Attributes StageFault
owners listing change = both (given_owner Passwd listing change.user) (given_owner Group listing change.group)
  where
    both : Result (Option ℕ) StageFault → Result (Option ℕ) StageFault → Result Attributes StageFault
    both (Ok user) (Ok group) = Ok (record { mode = None; uid = user; gid = group })
    both (Ok user) (Err fault) = Err fault
    both (Err fault) group = Err fault

-- ---- the effect

-- owners given to what stands at a path, by the accounts of a tree
abbrev pub with_owners : Listing → Names × Change → Listing → Effect
with_owners accounts item listing = over (node_at listing item.0)
  where
    given : Result Attributes StageFault → Effect
    given (Ok attributes) = Ok (with_attributes_at (is_covered item.0 item.1.recursive) attributes listing)
    given (Err fault) = Err fault

    over : Option Node → Effect
    over None = Err (NoPath item.0)
    over (Some node) = given (owners accounts item.1)

-- the owners are given in order, by the accounts that the tree has at first
abbrev pub chown : Options → Listing → Effect
chown options listing = in_order (with_owners listing) options.items listing
