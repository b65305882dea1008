-- Users: what a stage makes of the account files, and then of the homes.
use Rattle.std.specs.Prelude.{ℕ, ◌+◌, ◌==◌, Bool, ◌||◌, List, [], ◌∷◌, ◌++◌, length, codes, decimal, take, drop, unwrap_or, Option, Some, None, Result, Ok, Err, if◌then◌else◌}
use Rattle.std.specs.Option.{option_map}
use Rattle.std.specs.List.{list_any, slice_split}
use Rattle.std.specs.Cmp.Lexicographic.{pointwise}
use Rattle.osb_tree.specs.Paths.{Names, path_text}
use Rattle.osb_tree.specs.Trees.{Listing}
use Rattle.osb_tree.specs.declared.accounts.AccountFile.TheVariants.{Passwd, Group, Shadow}
use Rattle.osb_tree.specs.declared.faults.StageFault.{StageFault}
use Rattle.osb_tree.specs.declared.faults.StageFault.TheVariants.{NoAccount, NumberTaken}
use Rattle.osb_stages.specs.Readers.{◌>>=◌}
use Rattle.osb_stages.specs.Rules.{Effect, in_order}
use Rattle.osb_accounts.specs.Lines.{Fields, FileLines, field, place_of, line_at, with_field, number_at, is_taken}
use Rattle.osb_accounts.specs.Groups.{free_number, new_number, group_line}
use Rattle.osb_accounts.specs.Files.{lines_at, written}
use Rattle.osb_accounts.specs.Homes.{with_home}
use Rattle.osb_accounts.specs.declared.files.Accounts.{Accounts}
use Rattle.osb_accounts.specs.declared.users.User.{User}
use Rattle.osb_accounts.specs.declared.users.Options.{Options}

-- ---- passwords

abbrev pub shadow_line : List ℕ → List ℕ → Fields
shadow_line name password = name ∷ password ∷ [] ∷ codes "0" ∷ codes "99999" ∷ codes "7" ∷ [] ∷ [] ∷ [] ∷ []

-- in the line that is there, or else in a new one
abbrev pub with_password : List ℕ → List ℕ → FileLines → FileLines
with_password name password lines = by (place_of name lines)
  where
    by : Option ℕ → FileLines
    by None = lines ++ shadow_line name password ∷ []
    by (Some place) = with_field place 1 password lines

abbrev pub with_given_password : List ℕ → Option (List ℕ) → FileLines → FileLines
with_given_password name None lines = lines
with_given_password name (Some password) lines = with_password name password lines

-- ---- new users

-- the group of a new user's name, which may have to be made: with the user's number where no group has that
abbrev pub with_own_group : List ℕ → ℕ → FileLines → Result (ℕ × FileLines) StageFault
with_own_group name uid lines = by (place_of name lines)
  where
    by : Option ℕ → Result (ℕ × FileLines) StageFault
    by (Some place) = Ok (number_at 2 (line_at place lines), lines)
    by None = (if is_taken uid lines then free_number lines else Ok uid) >>= λ gid. Ok (gid, lines ++ group_line name gid ∷ [])

-- the number of a new user's group, and the groups then
abbrev pub with_user_group : List ℕ → ℕ → Option ℕ → FileLines → Result (ℕ × FileLines) StageFault
with_user_group name uid None lines = with_own_group name uid lines
with_user_group name uid (Some gid) lines = Ok (gid, lines)

abbrev pub home_text : List ℕ → Option Names → List ℕ
home_text name None = codes "/home/" ++ name
home_text name (Some home) = path_text home

abbrev pub passwd_line : List ℕ → ℕ → ℕ → User → Fields
passwd_line name uid gid user =
    name ∷ codes "x" ∷ decimal uid ∷ decimal gid ∷ unwrap_or user.description [] ∷ home_text name user.home
    ∷ unwrap_or user.shell (codes "/bin/bash") ∷ []

-- without a password nobody can log in as a new user
abbrev pub with_new_user : List ℕ → User → Accounts → Result Accounts StageFault
with_new_user name user files =
    new_number user.uid files.passwd >>= λ uid.
    with_user_group name uid user.gid files.group >>= λ group.
    Ok (record {
      passwd = files.passwd ++ passwd_line name uid group.0 user ∷ [];
      group = group.1;
      shadow = with_password name (unwrap_or user.password (codes "!")) files.shadow;
    })

-- ---- users that are there

-- a number that another line has
abbrev pub taken_number : ℕ → Option ℕ → FileLines → Option StageFault
taken_number place None lines = None
taken_number place (Some uid) lines =
    if is_taken uid (take place lines) || is_taken uid (drop (place + 1) lines) then Some (NumberTaken uid) else None

-- a field that is given
abbrev pub with_given : ℕ → ℕ → Option (List ℕ) → FileLines → FileLines
with_given place number None lines = lines
with_given place number (Some text) lines = with_field place number text lines

abbrev pub with_given_fields : ℕ → User → FileLines → FileLines
with_given_fields place user lines =
    with_given place 6 user.shell
    (with_given place 5 (option_map path_text user.home)
    (with_given place 4 user.description
    (with_given place 3 (option_map decimal user.gid)
    (with_given place 2 (option_map decimal user.uid) lines))))

abbrev pub with_changed_user : ℕ → List ℕ → User → Accounts → Result Accounts StageFault
with_changed_user place name user files = by (taken_number place user.uid files.passwd)
  where
    by : Option StageFault → Result Accounts StageFault
    by (Some fault) = Err fault
    by None = Ok (record {
      passwd = with_given_fields place user files.passwd;
      group = files.group;
      shadow = with_given_password name user.password files.shadow;
    })

-- ---- members of groups

-- what divides members is a comma
abbrev pub is_member : List ℕ → List ℕ → Bool
is_member name members = list_any (λ member. pointwise ◌==◌ member name) (slice_split (λ b. b == 44) members)

-- at the end, unless it is there
abbrev pub with_member : List ℕ → List ℕ → List ℕ
with_member name members =
    if is_member name members then members
    else if length members == 0 then name
    else members ++ 44 ∷ name

-- a user in a group, by the name of each
abbrev pub with_membership : List ℕ → List ℕ → FileLines → Result FileLines StageFault
with_membership name group lines = by (place_of group lines)
  where
    by : Option ℕ → Result FileLines StageFault
    by None = Err (NoAccount group)
    by (Some place) = Ok (with_field place 3 (with_member name (field 3 (line_at place lines))) lines)

-- ---- the stage

abbrev pub with_account : List ℕ → User → Accounts → Result Accounts StageFault
with_account name user files = by (place_of name files.passwd)
  where
    by : Option ℕ → Result Accounts StageFault
    by None = with_new_user name user files
    by (Some place) = with_changed_user place name user files

-- one user: the account, and then the groups in order
abbrev pub with_user : List ℕ × User → Accounts → Result Accounts StageFault
with_user entry files =
    with_account entry.0 entry.1 files >>= λ after.
    in_order (with_membership entry.0) entry.1.groups after.group >>= λ group.
    Ok (record { passwd = after.passwd; group = group; shadow = after.shadow })

abbrev pub accounts_at : Listing → Result Accounts StageFault
accounts_at listing =
    lines_at Passwd listing >>= λ passwd.
    lines_at Group listing >>= λ group.
    lines_at Shadow listing >>= λ shadow.
    Ok (record { passwd = passwd; group = group; shadow = shadow })

abbrev pub all_written : Accounts → Listing → Effect
all_written files listing =
    written Passwd files.passwd listing >>= λ one.
    written Group files.group one >>= λ two.
    written Shadow files.shadow two

-- the files are read, all users are made in order, the files are written, and then the homes are made in order
abbrev pub users : Options → Listing → Effect
users options listing =
    accounts_at listing >>= λ before.
    in_order with_user options.users before >>= λ after.
    all_written after listing >>= λ made.
    in_order (with_home (length before.passwd) after.passwd) options.users made
