-- Account files of a tree: how a stage reads and writes them.
use Rattle.std.specs.Prelude.{ℕ, ◌==◌, ◌&&◌, not, List, [], length, Option, Some, None, is_some, Result, Ok, Err, if◌then◌else◌}
use Rattle.osb_tree.specs.Trees.{Listing, node_at}
use Rattle.osb_tree.specs.Accounts.{account_path}
use Rattle.osb_tree.specs.declared.nodes.Node.{Node}
use Rattle.osb_tree.specs.declared.nodes.Node.TheVariants.{Dir, File, Link}
use Rattle.osb_tree.specs.declared.accounts.AccountFile.{AccountFile}
use Rattle.osb_tree.specs.declared.accounts.AccountFile.TheVariants.{Passwd, Group, Shadow}
use Rattle.osb_tree.specs.declared.faults.StageFault.{StageFault}
use Rattle.osb_tree.specs.declared.faults.StageFault.TheVariants.{NotAFile, BadLine}
use Rattle.osb_stages.specs.Readers.{◌>>=◌}
use Rattle.osb_stages.specs.Rules.{Effect, with_leaf}
use Rattle.osb_accounts.specs.Lines.{FileLines, lines_in, file_text, bad_line}

-- the lines of a text, where all have the file's form
abbrev pub lines_read : AccountFile → List ℕ → Result FileLines StageFault
lines_read file bytes = by (bad_line file (lines_in bytes))
  where
    by : Option ℕ → Result FileLines StageFault
    by None = Ok (lines_in bytes)
    by (Some line) = Err (BadLine (account_path file) line)

-- what stands at the file's path; where nothing does, there are no lines
abbrev pub lines_of_node : AccountFile → Option Node → Result FileLines StageFault
lines_of_node file None = Ok []
lines_of_node file (Some (Dir mode uid gid)) = Err (NotAFile (account_path file))
lines_of_node file (Some (File mode uid gid bytes)) = lines_read file bytes
lines_of_node file (Some (Link uid gid target)) = Err (NotAFile (account_path file))

abbrev pub lines_at : AccountFile → Listing → Result FileLines StageFault
lines_at file listing = lines_of_node file (node_at listing (account_path file))

-- a new file is for all to read, but for the passwords
abbrev pub new_mode : AccountFile → ℕ
new_mode Passwd = 420
new_mode Group = 420
new_mode Shadow = 384

-- a file that is there keeps its mode and its owners
abbrev pub file_node : AccountFile → FileLines → Option Node → Result Node StageFault
file_node file lines None = Ok (File (new_mode file) 0 0 (file_text lines))
file_node file lines (Some (Dir mode uid gid)) = Err (NotAFile (account_path file))
file_node file lines (Some (File mode uid gid bytes)) = Ok (File mode uid gid (file_text lines))
file_node file lines (Some (Link uid gid target)) = Err (NotAFile (account_path file))

-- one that is not there is made where there are lines for it
abbrev pub written : AccountFile → FileLines → Listing → Effect
written file lines listing =
    if not (is_some (node_at listing (account_path file))) && length lines == 0
    then Ok listing
    else file_node file lines (node_at listing (account_path file)) >>= λ node. with_leaf (account_path file) node listing
