-- The order in which a stage of users looks for faults.
use Rattle.std.specs.Prelude.{◌≡◌, ℕ, List, ◌∷◌, ◌++◌, length, Result, Ok, Err}
use Rattle.osb_tree.specs.Trees.{Listing}
use Rattle.osb_tree.specs.declared.accounts.AccountFile.TheVariants.{Passwd, Group, Shadow}
use Rattle.osb_tree.specs.declared.faults.StageFault.{StageFault}
use Rattle.osb_stages.specs.Rules.{in_order}
use Rattle.osb_accounts.specs.Lines.{FileLines}
use Rattle.osb_accounts.specs.Files.{lines_at}
use Rattle.osb_accounts.specs.Homes.{with_home}
use Rattle.osb_accounts.specs.Users.{accounts_at, with_account, with_membership, with_user, all_written, users}
use Rattle.osb_accounts.specs.declared.files.Accounts.{Accounts}
use Rattle.osb_accounts.specs.declared.users.User.{User}
use Rattle.osb_accounts.specs.declared.users.Options.{Options}

-- first the files are read, in this order
pub data IsReadFault (listing : Listing) (fault : StageFault) : Type 0 where
  in_passwd : lines_at Passwd listing ≡ Err fault → IsReadFault listing fault
  in_group : (passwd : FileLines) → lines_at Passwd listing ≡ Ok passwd → lines_at Group listing ≡ Err fault → IsReadFault listing fault
  in_shadow : (passwd group : FileLines) → lines_at Passwd listing ≡ Ok passwd → lines_at Group listing ≡ Ok group → lines_at Shadow listing ≡ Err fault → IsReadFault listing fault

-- one of some items is at fault, after those before it were done
pub data IsItemFault {A S : Type 0} (effect : A → S → Result S StageFault) (items : List A) (state : S) (fault : StageFault) : Type 0 where
  at_item : (done : List A) (item : A) (rest : List A) (now : S) → items ≡ done ++ item ∷ rest → in_order effect done state ≡ Ok now → effect item now ≡ Err fault → IsItemFault effect items state fault

-- a user's own account is at fault, or else a group
pub data IsUserFault (entry : List ℕ × User) (files : Accounts) (fault : StageFault) : Type 0 where
  in_account : with_account entry.0 entry.1 files ≡ Err fault → IsUserFault entry files fault
  in_groups : (after : Accounts) → with_account entry.0 entry.1 files ≡ Ok after → IsItemFault (with_membership entry.0) entry.1.groups after.group fault → IsUserFault entry files fault

-- what is read comes before all users, a user before the next, all users before what is written, and that before the
-- homes
pub data IsFirstFault (options : Options) (listing : Listing) (fault : StageFault) : Type 0 where
  of_reading : IsReadFault listing fault → IsFirstFault options listing fault
  of_user : (before : Accounts) → accounts_at listing ≡ Ok before → IsItemFault with_user options.users before fault → IsFirstFault options listing fault
  of_writing : (before after : Accounts) → accounts_at listing ≡ Ok before → in_order with_user options.users before ≡ Ok after → all_written after listing ≡ Err fault
      → IsFirstFault options listing fault
  of_home : (before after : Accounts) (made : Listing) → accounts_at listing ≡ Ok before → in_order with_user options.users before ≡ Ok after → all_written after listing ≡ Ok made
      → IsItemFault (with_home (length before.passwd) after.passwd) options.users made fault → IsFirstFault options listing fault

-- a stage of users has the first fault, and has one only where there is a first
pub record FaultsComeInOrder : Type 0 where
  pub answered : (options : Options) (listing : Listing) (fault : StageFault) → IsFirstFault options listing fault → users options listing ≡ Err fault
  pub first : (options : Options) (listing : Listing) (fault : StageFault) → users options listing ≡ Err fault → IsFirstFault options listing fault
  pub of_one_user : (entry : List ℕ × User) (files : Accounts) (fault : StageFault) → with_user entry files ≡ Err fault → IsUserFault entry files fault
