-- What becomes of the lines that account files have.
use Rattle.std.specs.Prelude.{◌≡◌, ℕ, Bool, false, List, Option, Some, None, Ok}
use Rattle.std.specs.List.{list_any, slice_get}
use Rattle.osb_tree.specs.Paths.{Names}
use Rattle.osb_tree.specs.Trees.{Listing, node_at}
use Rattle.osb_tree.specs.Accounts.{account_path}
use Rattle.osb_tree.specs.declared.nodes.Node.{Node}
use Rattle.osb_tree.specs.declared.nodes.Node.TheVariants.{Dir, File, Link}
use Rattle.osb_tree.specs.declared.accounts.AccountFile.TheVariants.{Passwd, Group, Shadow}
use Rattle.osb_accounts.specs.Lines.{Fields, FileLines, field, is_line_of, lines_in, file_text}
use Rattle.osb_accounts.specs.Groups.{groups}
use Rattle.osb_accounts.specs.Users.{users}
use Rattle.osb_accounts.specs.declared.groups.Options.{Options as GroupsOptions}
use Rattle.osb_accounts.specs.declared.users.User.{User}
use Rattle.osb_accounts.specs.declared.users.Options.{Options as UsersOptions}

-- every line stays at its place: as it was, byte for byte, or, where it may change, with its name. New lines come behind
pub record AreKept (may_change : Fields → Bool) (before after : FileLines) : Type 0 where
  pub named : (place : ℕ) (line : Fields) → slice_get before place ≡ Some line → (later : Fields) × (slice_get after place ≡ Some later) × (field 0 later ≡ field 0 line)
  pub same : (place : ℕ) (line : Fields) → slice_get before place ≡ Some line → may_change line ≡ false → slice_get after place ≡ Some line

-- a file that was there keeps its mode, its owners and its lines, and each of its lines ends in a line feed
abbrev pub StaysAs : (Fields → Bool) → Names → Option Node → Listing → Type 0
StaysAs may_change path None after = Unit {0}
StaysAs may_change path (Some (Dir mode uid gid)) after = Unit {0}
StaysAs may_change path (Some (Link uid gid target)) after = Unit {0}
StaysAs may_change path (Some (File mode uid gid bytes)) after =
    (lines : FileLines) × (node_at after path ≡ Some (File mode uid gid (file_text lines))) × AreKept may_change (lines_in bytes) lines

abbrev pub FileIsKept : (Fields → Bool) → Names → Listing → Listing → Type 0
FileIsKept may_change path before after = StaysAs may_change path (node_at before path) after

-- no line changes where groups are added
abbrev pub GroupsKeepLines : Type 0
GroupsKeepLines = (options : GroupsOptions) (before after : Listing) → groups options before ≡ Ok after
    → FileIsKept (λ line. false) (account_path Group) before after

-- the line of a user who was asked for may change
abbrev pub is_of_one : List (List ℕ × User) → Fields → Bool
is_of_one users line = list_any (λ entry. is_line_of entry.0 line) users

-- and so may that of a group that is to have one as a member
abbrev pub is_joined : List (List ℕ × User) → Fields → Bool
is_joined users line = list_any (λ entry. list_any (λ group. is_line_of group line) entry.1.groups) users

pub record UsersKeepLines : Type 0 where
  pub passwd : (options : UsersOptions) (before after : Listing) → users options before ≡ Ok after
      → FileIsKept (is_of_one options.users) (account_path Passwd) before after
  pub group : (options : UsersOptions) (before after : Listing) → users options before ≡ Ok after
      → FileIsKept (is_joined options.users) (account_path Group) before after
  pub shadow : (options : UsersOptions) (before after : Listing) → users options before ≡ Ok after
      → FileIsKept (is_of_one options.users) (account_path Shadow) before after
