-- What the stages keep of account files.
use Rattle.std.proofs.Common.{◌≡◌, ◌≢◌, ℕ, List, [], ◌∷◌, length, ◌==◌, Bool, true, false, true≢false, not, ◌&&◌, cond, Option, Some, None, is_some, Ok, Err, refl, sym, ◌∙◌, ap, subst, arith}
use Rattle.std.specs.Prelude.{codes, slice_index, Result}
use Rattle.std.specs.List.{list_any}
use Rattle.osb_tree.specs.Trees.{Listing, node_at}
use Rattle.osb_tree.specs.Accounts.{account_path}
use Rattle.osb_tree.specs.declared.nodes.Node.{Node}
use Rattle.osb_tree.specs.declared.nodes.Node.TheVariants.{Dir, File, Link}
use Rattle.osb_tree.specs.declared.accounts.AccountFile.{AccountFile}
use Rattle.osb_tree.specs.declared.accounts.AccountFile.TheVariants.{Passwd, Group, Shadow}
use Rattle.osb_tree.specs.declared.faults.StageFault.{StageFault}
use Rattle.osb_tree.proofs.Puts.{node_at-put_at_same}
use Rattle.osb_stages.specs.Readers.{◌>>=◌}
use Rattle.osb_stages.specs.Rules.{Effect, in_order, with_leaf}
use Rattle.osb_accounts.specs.Lines.{FileLines, lines_in, file_text, bad_line}
use Rattle.osb_accounts.specs.Files.{lines_read, lines_at, file_node, written}
use Rattle.osb_accounts.specs.Groups.{with_group, groups}
use Rattle.osb_accounts.specs.Homes.{with_home}
use Rattle.osb_accounts.specs.Users.{with_user, accounts_at, all_written, users}
use Rattle.osb_accounts.specs.Kept.{AreKept, StaysAs, GroupsKeepLines, UsersKeepLines, is_of_one, is_joined}
use Rattle.osb_accounts.specs.declared.files.Accounts.{Accounts}
use Rattle.osb_accounts.specs.declared.groups.Options.{Options as GroupsOptions}
use Rattle.osb_accounts.specs.declared.users.Options.{Options as UsersOptions}
use Rattle.osb_accounts.proofs.Keeping.{Test, kept-more}
use Rattle.osb_accounts.proofs.StepsKept.{not_ok, same_ok, in_order-kept, with_group-kept, with_users-kept}
use Rattle.osb_accounts.proofs.TreesKept.{Stays, with_leaf-is, stays-put, stays-trans, stays-itself, stays-with_homes, ends_in}

-- ---- what is written

paths_differ : (one two : List ℕ) → (slice_index one 0 ≡ slice_index two 0 → ⊥) → codes "etc" ∷ one ∷ [] ≢ codes "etc" ∷ two ∷ []
paths_differ one two apart e = apart (ap (λ name. slice_index name 0) (ends_in (codes "etc" ∷ []) one (codes "etc") two e))

-- in place of a file that is there
written-here : (file : AccountFile) (lines : FileLines) (one two : Listing) (mode uid gid : ℕ) (bytes : List ℕ) → node_at one (account_path file) ≡ Some (File mode uid gid bytes) → written file lines one ≡ Ok two
    → node_at two (account_path file) ≡ Some (File mode uid gid (file_text lines))
written-here file lines one two mode uid gid bytes is e =
    ap (λ listing. node_at listing (account_path file)) (sym (with_leaf-is (account_path file) here one two made)) ∙ node_at-put_at_same one (account_path file) here
  where
    here : Node
    here = File mode uid gid (file_text lines)

    by : (none : Bool) → none ≡ false → (node : Result Node StageFault) → node ≡ Ok here → cond none (Ok one) (node >>= λ node. with_leaf (account_path file) node one) ≡ Ok two → with_leaf (account_path file) here one ≡ Ok two
    by true n node h e = absurd (true≢false n)
    by false n (Err fault) h e = not_ok fault here h
    by false n (Ok node) h e = subst (λ node. with_leaf (account_path file) node one ≡ Ok two) (same_ok node here h) e

    there : (not (is_some (node_at one (account_path file))) && length lines == 0) ≡ false
    there = rw is refl

    made : with_leaf (account_path file) here one ≡ Ok two
    made = by (not (is_some (node_at one (account_path file))) && length lines == 0) there (file_node file lines (node_at one (account_path file))) (ap (file_node file lines) is) e

-- another file stays
written-elsewhere : (file other : AccountFile) (lines : FileLines) (one two : Listing) → account_path file ≢ account_path other → written file lines one ≡ Ok two → Stays (account_path other) one two
written-elsewhere file other lines one two apart e = by (not (is_some (node_at one (account_path file))) && length lines == 0) (file_node file lines (node_at one (account_path file))) e
  where
    by : (none : Bool) (node : Result Node StageFault) → cond none (Ok one) (node >>= λ node. with_leaf (account_path file) node one) ≡ Ok two → Stays (account_path other) one two
    by true node e = stays-itself (account_path other) one two (same_ok one two e)
    by false (Err fault) e = not_ok fault two e
    by false (Ok node) e = stays-put (account_path other) (account_path file) node one two apart (with_leaf-is (account_path file) node one two e)

-- the lines that were read are those of the file
lines_at-file : (file : AccountFile) (one : Listing) (lines : FileLines) (mode uid gid : ℕ) (bytes : List ℕ) → node_at one (account_path file) ≡ Some (File mode uid gid bytes) → lines_at file one ≡ Ok lines → lines_in bytes ≡ lines
lines_at-file file one lines mode uid gid bytes is e = by (bad_line file (lines_in bytes)) refl (rw is at e)
  where
    by : (bad : Option ℕ) → bad_line file (lines_in bytes) ≡ bad → lines_read file bytes ≡ Ok lines → lines_in bytes ≡ lines
    by None b e = same_ok _ lines (rw b at e)
    by (Some line) b e = not_ok _ lines (rw b at e)

-- ---- groups

none_any : {A : Type 0} (items : List A) → list_any (λ (item : A). false) items ≡ false
none_any [] = refl
none_any (item ∷ items) = none_any items

none_changes : {A : Type 0} (items : List A) (one two : FileLines) → AreKept (λ line. list_any (λ (item : A). false) items) one two → AreKept (λ line. false) one two
none_changes {A} items one two kept = kept-more (λ line. list_any (λ (item : A). false) items) (λ line. false) one two (λ line no. none_any items) kept

pub groups_keep : GroupsKeepLines
groups_keep options before after e = read (lines_at Group before) refl e
  where
    at_path : (lines new : FileLines) → lines_at Group before ≡ Ok lines → AreKept (λ line. false) lines new → written Group new before ≡ Ok after → (found : Option Node) → node_at before (account_path Group) ≡ found
        → StaysAs (λ line. false) (account_path Group) found after
    at_path lines new l kept w None is = tt
    at_path lines new l kept w (Some (Dir mode uid gid)) is = tt
    at_path lines new l kept w (Some (Link uid gid target)) is = tt
    at_path lines new l kept w (Some (File mode uid gid bytes)) is =
        let same = lines_at-file Group before lines mode uid gid bytes is l in
        (new, written-here Group new before after mode uid gid bytes is w, subst (λ (ls : FileLines). AreKept (λ line. false) ls new) (sym same) kept)

    made : (lines : FileLines) → lines_at Group before ≡ Ok lines → (new : Result FileLines StageFault) → in_order with_group options.groups lines ≡ new → (new >>= λ after. written Group after before) ≡ Ok after
        → StaysAs (λ line. false) (account_path Group) (node_at before (account_path Group)) after
    made lines l (Err fault) n e = not_ok fault after e
    made lines l (Ok new) n e = at_path lines new l (none_changes options.groups lines new (in_order-kept (λ ls. ls) with_group (λ entry line. false) with_group-kept options.groups lines new n)) e (node_at before (account_path Group)) refl

    read : (lines : Result FileLines StageFault) → lines_at Group before ≡ lines → (lines >>= λ lines. in_order with_group options.groups lines >>= λ after. written Group after before) ≡ Ok after
        → StaysAs (λ line. false) (account_path Group) (node_at before (account_path Group)) after
    read (Err fault) l e = not_ok fault after e
    read (Ok lines) l e = made lines l (in_order with_group options.groups lines) refl e

-- ---- users

-- the steps of a stage of users that ends well
record Run (options : UsersOptions) (before after : Listing) : Type 0 where
  pub files : Accounts
  pub new : Accounts
  pub one : Listing
  pub two : Listing
  pub made : Listing
  pub passwd_read : lines_at Passwd before ≡ Ok files.passwd
  pub group_read : lines_at Group before ≡ Ok files.group
  pub shadow_read : lines_at Shadow before ≡ Ok files.shadow
  pub changed : in_order with_user options.users files ≡ Ok new
  pub passwd_written : written Passwd new.passwd before ≡ Ok one
  pub group_written : written Group new.group one ≡ Ok two
  pub shadow_written : written Shadow new.shadow two ≡ Ok made
  pub housed : in_order (with_home (length files.passwd) new.passwd) options.users made ≡ Ok after

run-of : (options : UsersOptions) (before after : Listing) → users options before ≡ Ok after → Run options before after
run-of options before after e = read_passwd (lines_at Passwd before) refl e
  where
    write_homes : (files new : Accounts) → Listing → Effect
    write_homes files new made = in_order (with_home (length files.passwd) new.passwd) options.users made

    change : Accounts → Effect
    change files = in_order with_user options.users files >>= λ new. all_written new before >>= write_homes files new

    shadow : (files new : Accounts) → lines_at Passwd before ≡ Ok files.passwd → lines_at Group before ≡ Ok files.group → lines_at Shadow before ≡ Ok files.shadow → in_order with_user options.users files ≡ Ok new
        → (one two : Listing) → written Passwd new.passwd before ≡ Ok one → written Group new.group one ≡ Ok two → (made : Effect) → written Shadow new.shadow two ≡ made → (made >>= write_homes files new) ≡ Ok after → Run options before after
    shadow files new p g s c one two pw gw (Err fault) sw e = not_ok fault after e
    shadow files new p g s c one two pw gw (Ok made) sw e = record {
      files = files;
      new = new;
      one = one;
      two = two;
      made = made;
      passwd_read = p;
      group_read = g;
      shadow_read = s;
      changed = c;
      passwd_written = pw;
      group_written = gw;
      shadow_written = sw;
      housed = e;
    }

    group : (files new : Accounts) → lines_at Passwd before ≡ Ok files.passwd → lines_at Group before ≡ Ok files.group → lines_at Shadow before ≡ Ok files.shadow → in_order with_user options.users files ≡ Ok new
        → (one : Listing) → written Passwd new.passwd before ≡ Ok one → (two : Effect) → written Group new.group one ≡ two → ((two >>= λ two. written Shadow new.shadow two) >>= write_homes files new) ≡ Ok after → Run options before after
    group files new p g s c one pw (Err fault) gw e = not_ok fault after e
    group files new p g s c one pw (Ok two) gw e = shadow files new p g s c one two pw gw (written Shadow new.shadow two) refl e

    passwd : (files new : Accounts) → lines_at Passwd before ≡ Ok files.passwd → lines_at Group before ≡ Ok files.group → lines_at Shadow before ≡ Ok files.shadow → in_order with_user options.users files ≡ Ok new
        → (one : Effect) → written Passwd new.passwd before ≡ one → ((one >>= λ one. written Group new.group one >>= λ two. written Shadow new.shadow two) >>= write_homes files new) ≡ Ok after → Run options before after
    passwd files new p g s c (Err fault) pw e = not_ok fault after e
    passwd files new p g s c (Ok one) pw e = group files new p g s c one pw (written Group new.group one) refl e

    changing : (files : Accounts) → lines_at Passwd before ≡ Ok files.passwd → lines_at Group before ≡ Ok files.group → lines_at Shadow before ≡ Ok files.shadow
        → (new : Result Accounts StageFault) → in_order with_user options.users files ≡ new → (new >>= λ new. all_written new before >>= write_homes files new) ≡ Ok after → Run options before after
    changing files p g s (Err fault) c e = not_ok fault after e
    changing files p g s (Ok new) c e = passwd files new p g s c (written Passwd new.passwd before) refl e

    files_of : FileLines → FileLines → FileLines → Accounts
    files_of passwd group shadow = record { passwd = passwd; group = group; shadow = shadow }

    read_shadow : (passwd group : FileLines) → lines_at Passwd before ≡ Ok passwd → lines_at Group before ≡ Ok group → (shadow : Result FileLines StageFault) → lines_at Shadow before ≡ shadow
        → ((shadow >>= λ shadow. Ok (files_of passwd group shadow)) >>= change) ≡ Ok after → Run options before after
    read_shadow passwd group p g (Err fault) s e = not_ok fault after e
    read_shadow passwd group p g (Ok shadow) s e = changing (files_of passwd group shadow) p g s (in_order with_user options.users (files_of passwd group shadow)) refl e

    read_group : (passwd : FileLines) → lines_at Passwd before ≡ Ok passwd → (group : Result FileLines StageFault) → lines_at Group before ≡ group
        → ((group >>= λ group. lines_at Shadow before >>= λ shadow. Ok (files_of passwd group shadow)) >>= change) ≡ Ok after → Run options before after
    read_group passwd p (Err fault) g e = not_ok fault after e
    read_group passwd p (Ok group) g e = read_shadow passwd group p g (lines_at Shadow before) refl e

    read_passwd : (passwd : Result FileLines StageFault) → lines_at Passwd before ≡ passwd
        → ((passwd >>= λ passwd. lines_at Group before >>= λ group. lines_at Shadow before >>= λ shadow. Ok (files_of passwd group shadow)) >>= change) ≡ Ok after → Run options before after
    read_passwd (Err fault) p e = not_ok fault after e
    read_passwd (Ok passwd) p e = read_group passwd p (lines_at Group before) refl e

-- a file that is written once, and stays before and after that
stays_as : (test : Test) (file : AccountFile) (lines new : FileLines) (before one two after : Listing) → lines_at file before ≡ Ok lines → AreKept test lines new
    → Stays (account_path file) before one → written file new one ≡ Ok two → Stays (account_path file) two after
    → (found : Option Node) → node_at before (account_path file) ≡ found → StaysAs test (account_path file) found after
stays_as test file lines new before one two after l kept early w late None is = tt
stays_as test file lines new before one two after l kept early w late (Some (Dir mode uid gid)) is = tt
stays_as test file lines new before one two after l kept early w late (Some (Link uid gid target)) is = tt
stays_as test file lines new before one two after l kept early w late (Some (File mode uid gid bytes)) is =
    let same = lines_at-file file before lines mode uid gid bytes is l in
    let here = written-here file new one two mode uid gid bytes (early (File mode uid gid bytes) is) w in
    (new, late (File mode uid gid (file_text new)) here, subst (λ (ls : FileLines). AreKept test ls new) (sym same) kept)

pub users_keep : UsersKeepLines
users_keep = record {
  passwd = λ options before after e.
      let run = run-of options before after e in
      let kept = with_users-kept options.users run.files run.new run.changed in
      let late : Stays (account_path Passwd) run.one after =
      stays-trans (account_path Passwd) run.one run.two after (written-elsewhere Group Passwd run.new.group run.one run.two (paths_differ (codes "group") (codes "passwd") (λ e. absurd (omega (arith, e)))) run.group_written)
      (stays-trans (account_path Passwd) run.two run.made after (written-elsewhere Shadow Passwd run.new.shadow run.two run.made (paths_differ (codes "shadow") (codes "passwd") (λ e. absurd (omega (arith, e)))) run.shadow_written)
      (stays-with_homes Passwd (length run.files.passwd) run.new.passwd options.users run.made after run.housed)) in
      stays_as (is_of_one options.users) Passwd run.files.passwd run.new.passwd before before run.one after run.passwd_read kept.passwd_kept (λ node is. is) run.passwd_written late (node_at before (account_path Passwd)) refl;
  group = λ options before after e.
      let run = run-of options before after e in
      let kept = with_users-kept options.users run.files run.new run.changed in
      let early = written-elsewhere Passwd Group run.new.passwd before run.one (paths_differ (codes "passwd") (codes "group") (λ e. absurd (omega (arith, e)))) run.passwd_written in
      let late : Stays (account_path Group) run.two after =
      stays-trans (account_path Group) run.two run.made after (written-elsewhere Shadow Group run.new.shadow run.two run.made (paths_differ (codes "shadow") (codes "group") (λ e. absurd (omega (arith, e)))) run.shadow_written)
      (stays-with_homes Group (length run.files.passwd) run.new.passwd options.users run.made after run.housed) in
      stays_as (is_joined options.users) Group run.files.group run.new.group before run.one run.two after run.group_read kept.group_kept early run.group_written late (node_at before (account_path Group)) refl;
  shadow = λ options before after e.
      let run = run-of options before after e in
      let kept = with_users-kept options.users run.files run.new run.changed in
      let early : Stays (account_path Shadow) before run.two =
      stays-trans (account_path Shadow) before run.one run.two (written-elsewhere Passwd Shadow run.new.passwd before run.one (paths_differ (codes "passwd") (codes "shadow") (λ e. absurd (omega (arith, e)))) run.passwd_written)
      (written-elsewhere Group Shadow run.new.group run.one run.two (paths_differ (codes "group") (codes "shadow") (λ e. absurd (omega (arith, e)))) run.group_written) in
      stays_as (is_of_one options.users) Shadow run.files.shadow run.new.shadow before run.two run.made after run.shadow_read kept.shadow_kept early run.shadow_written
      (stays-with_homes Shadow (length run.files.passwd) run.new.passwd options.users run.made after run.housed) (node_at before (account_path Shadow)) refl;
}

-- ---- as the code makes them

pub groups_made : (options : GroupsOptions) (listing last : Listing) (lines after : FileLines) → Ok lines ≡ lines_at Group listing → in_order with_group options.groups lines ≡ Ok after → written Group after listing ≡ Ok last → groups options listing ≡ Ok last
groups_made options listing last lines after l a w = rw (← l, a) w

pub users_made : (options : UsersOptions) (listing made last : Listing) (before after : Accounts) → Ok before ≡ accounts_at listing → in_order with_user options.users before ≡ Ok after → all_written after listing ≡ Ok made
    → in_order (with_home (length before.passwd) after.passwd) options.users made ≡ Ok last → users options listing ≡ Ok last
users_made options listing made last before after b a w h = rw (← b, a, w) h
