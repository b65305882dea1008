-- Lines that the steps of the stages keep.
use Rattle.std.proofs.Common.{◌≡◌, ℕ, suc, List, [], ◌∷◌, ◌++◌, Bool, true, false, true≢false, cond, ◌||◌, Option, Some, None, is_some, Ok, Err, is_ok, refl, sym, ◌∙◌, ap, subst}
use Rattle.std.specs.Prelude.{codes, decimal, unwrap_or, Result}
use Rattle.std.specs.Option.{option_map}
use Rattle.std.specs.List.{list_any, slice_get, slice_set}
use Rattle.osb_tree.specs.Paths.{path_text}
use Rattle.osb_tree.specs.declared.faults.StageFault.{StageFault}
use Rattle.osb_tree.specs.declared.faults.StageFault.TheVariants.{AccountExists}
use Rattle.osb_stages.specs.Readers.{◌>>=◌}
use Rattle.osb_stages.specs.Rules.{and_then, in_order}
use Rattle.osb_accounts.specs.Lines.{Fields, FileLines, field, is_line_of, place_of, line_at, with_field}
use Rattle.osb_accounts.specs.Groups.{new_number, group_line, with_group}
use Rattle.osb_accounts.specs.Users.{with_password, with_given_password, with_own_group, with_user_group, with_new_user, taken_number, with_given, with_given_fields, with_changed_user, with_member, with_membership, with_account, with_user, shadow_line, passwd_line}
use Rattle.osb_accounts.specs.Kept.{AreKept, is_of_one, is_joined}
use Rattle.osb_accounts.specs.declared.files.Accounts.{Accounts}
use Rattle.osb_accounts.specs.declared.groups.Group.{Group}
use Rattle.osb_accounts.specs.declared.users.User.{User}
use Rattle.osb_accounts.proofs.Keeping.{Test, kept-itself, kept-trans, kept-more, kept-behind, kept-with_field, slice_get-set_same}
use Rattle.osb_accounts.proofs.Places.{place_of-found}

pub not_ok : {P A F : Type 0} (fault : F) (value : A) → Err fault ≡ Ok value → P
not_ok fault value e = absurd (true≢false (sym (ap is_ok e)))

pub same_ok : {A F : Type 0} (one two : A) → ◌≡◌ {A = Result A F} (Ok one) (Ok two) → one ≡ two
same_ok one two e = cc

-- ---- items in order

or_left : (a b : Bool) → (a || b) ≡ false → a ≡ false
or_left true b e = e
or_left false b e = refl

or_right : (a b : Bool) → (a || b) ≡ false → b ≡ false
or_right true b e = absurd (true≢false e)
or_right false b e = e

-- where each item keeps lines, all of them do
pub in_order-kept : {A S : Type 0} (see : S → FileLines) (effect : A → S → Result S StageFault) (tests : A → Test)
    → ((item : A) (one two : S) → effect item one ≡ Ok two → AreKept (tests item) (see one) (see two))
    → (items : List A) (one two : S) → in_order effect items one ≡ Ok two → AreKept (λ line. list_any (λ item. tests item line) items) (see one) (see two)
in_order-kept see effect tests each [] one two e = subst (λ s. AreKept (λ line. false) (see one) (see s)) (same_ok one two e) (kept-itself (λ line. false) (see one))
in_order-kept {A} {S} see effect tests each (item ∷ items) one two e = by (in_order-kept see effect tests each items) (effect item one) refl e
  where
    all : Test
    all line = tests item line || list_any (λ item. tests item line) items

    by : ((one two : S) → in_order effect items one ≡ Ok two → AreKept (λ line. list_any (λ item. tests item line) items) (see one) (see two))
        → (now : Result S StageFault) → effect item one ≡ now → and_then (in_order effect items) now ≡ Ok two → AreKept all (see one) (see two)
    by later (Err fault) is e = not_ok fault two e
    by later (Ok now) is e = kept-trans all (see one) (see now) (see two)
        (kept-more (tests item) all (see one) (see now) (λ line no. or_left (tests item line) (list_any (λ item. tests item line) items) no) (each item one now is))
        (kept-more (λ line. list_any (λ item. tests item line) items) all (see now) (see two) (λ line no. or_right (tests item line) (list_any (λ item. tests item line) items) no) (later now two e))

-- ---- groups

pub with_group-kept : (entry : List ℕ × Group) (one two : FileLines) → with_group entry one ≡ Ok two → AreKept (λ line. false) one two
with_group-kept entry one two e = by (is_some (place_of entry.0 one)) (new_number entry.1.gid one) e
  where
    by : (there : Bool) (number : Result ℕ StageFault) → cond there (Err (AccountExists entry.0)) (number >>= λ gid. Ok (one ++ group_line entry.0 gid ∷ [])) ≡ Ok two → AreKept (λ line. false) one two
    by true number e = not_ok _ two e
    by false (Err fault) e = not_ok fault two e
    by false (Ok gid) e = subst (AreKept (λ line. false) one) (same_ok _ two e) (kept-behind (λ line. false) one (group_line entry.0 gid ∷ []))

-- ---- passwords

pub with_password-kept : (name password : List ℕ) (lines : FileLines) → AreKept (is_line_of name) lines (with_password name password lines)
with_password-kept name password lines = by (place_of name lines) refl
  where
    by : (found : Option ℕ) → place_of name lines ≡ found → AreKept (is_line_of name) lines (with_password name password lines)
    by None is = rw is (kept-behind (is_line_of name) lines (shadow_line name password ∷ []))
    by (Some place) is = rw is (kept-with_field (is_line_of name) lines place 0 password (place_of-found name lines place is).named)

pub with_given_password-kept : (name : List ℕ) (password : Option (List ℕ)) (lines : FileLines) → AreKept (is_line_of name) lines (with_given_password name password lines)
with_given_password-kept name None lines = kept-itself (is_line_of name) lines
with_given_password-kept name (Some password) lines = with_password-kept name password lines

-- ---- users that are there

is_line_of-set_later : (name : List ℕ) (line : Fields) (number : ℕ) (text : List ℕ) → is_line_of name (slice_set line (suc number) text) ≡ is_line_of name line
is_line_of-set_later name [] number text = refl
is_line_of-set_later name (first ∷ line) number text = refl

-- a place at which the line of a name stands
record Stands (name : List ℕ) (place : ℕ) (lines : FileLines) : Type 0 where
  pub there : slice_get lines place ≡ Some (line_at place lines)
  pub named : is_line_of name (line_at place lines) ≡ true

stands-with_given : (name : List ℕ) (place number : ℕ) (text : Option (List ℕ)) (lines : FileLines) → Stands name place lines → Stands name place (with_given place (suc number) text lines)
stands-with_given name place number None lines stands = stands
stands-with_given name place number (Some text) lines stands =
    let changed = slice_set (line_at place lines) (suc number) text in
    let found = slice_get-set_same lines place changed (line_at place lines) stands.there in
    let is : line_at place (with_field place (suc number) text lines) ≡ changed = rw found refl in
    record { there = found ∙ ap Some (sym is); named = ap (is_line_of name) is ∙ (is_line_of-set_later name (line_at place lines) number text ∙ stands.named) }

with_given-kept : (name : List ℕ) (place number : ℕ) (text : Option (List ℕ)) (lines : FileLines) → Stands name place lines → AreKept (is_line_of name) lines (with_given place (suc number) text lines)
with_given-kept name place number None lines stands = kept-itself (is_line_of name) lines
with_given-kept name place number (Some text) lines stands = kept-with_field (is_line_of name) lines place number text stands.named

with_given_fields-kept : (name : List ℕ) (place : ℕ) (user : User) (lines : FileLines) → Stands name place lines → AreKept (is_line_of name) lines (with_given_fields place user lines)
with_given_fields-kept name place user lines stands =
    let test = is_line_of name in
    let uid = option_map decimal user.uid in
    let gid = option_map decimal user.gid in
    let home = option_map path_text user.home in
    let one = with_given place 2 uid lines in
    let two = with_given place 3 gid one in
    let three = with_given place 4 user.description two in
    let four = with_given place 5 home three in
    let s1 = stands-with_given name place 1 uid lines stands in
    let s2 = stands-with_given name place 2 gid one s1 in
    let s3 = stands-with_given name place 3 user.description two s2 in
    let s4 = stands-with_given name place 4 home three s3 in
    kept-trans test lines one _ (with_given-kept name place 1 uid lines stands)
    (kept-trans test one two _ (with_given-kept name place 2 gid one s1)
    (kept-trans test two three _ (with_given-kept name place 3 user.description two s2)
    (kept-trans test three four _ (with_given-kept name place 4 home three s3) (with_given-kept name place 5 user.shell four s4))))

-- ---- one user

-- what one step keeps of the three files
pub record StepKeeps (passwd group shadow : Test) (one two : Accounts) : Type 0 where
  pub passwd_kept : AreKept passwd one.passwd two.passwd
  pub group_kept : AreKept group one.group two.group
  pub shadow_kept : AreKept shadow one.shadow two.shadow

with_user_group-kept : (test : Test) (name : List ℕ) (uid : ℕ) (given : Option ℕ) (lines : FileLines) (made : ℕ × FileLines) → with_user_group name uid given lines ≡ Ok made → AreKept test lines made.1
with_user_group-kept test name uid (Some gid) lines made e = subst (λ (m : ℕ × FileLines). AreKept test lines m.1) (same_ok _ made e) (kept-itself test lines)
with_user_group-kept test name uid None lines made e = by (place_of name lines) refl e
  where
    new : (number : Result ℕ StageFault) → (number >>= λ gid. Ok (gid, lines ++ group_line name gid ∷ [])) ≡ Ok made → AreKept test lines made.1
    new (Err fault) e = not_ok fault made e
    new (Ok gid) e = subst (λ (m : ℕ × FileLines). AreKept test lines m.1) (same_ok _ made e) (kept-behind test lines (group_line name gid ∷ []))

    by : (found : Option ℕ) → place_of name lines ≡ found → with_own_group name uid lines ≡ Ok made → AreKept test lines made.1
    by (Some place) is e = subst (λ (m : ℕ × FileLines). AreKept test lines m.1) (same_ok _ made (rw is at e)) (kept-itself test lines)
    by None is e = new _ (rw is at e)

-- a user who comes: no line changes but that of the password
with_new_user-kept : (name : List ℕ) (user : User) (one two : Accounts) → with_new_user name user one ≡ Ok two → StepKeeps (is_line_of name) (λ line. false) (is_line_of name) one two
with_new_user-kept name user one two e = uid (new_number user.uid one.passwd) e
  where
    made : ℕ → ℕ × FileLines → Accounts
    made uid group = record {
      passwd = one.passwd ++ passwd_line name uid group.0 user ∷ [];
      group = group.1;
      shadow = with_password name (unwrap_or user.password (codes "!")) one.shadow;
    }

    group : (uid : ℕ) (found : Result (ℕ × FileLines) StageFault) → with_user_group name uid user.gid one.group ≡ found → (found >>= λ group. Ok (made uid group)) ≡ Ok two
        → StepKeeps (is_line_of name) (λ line. false) (is_line_of name) one two
    group uid (Err fault) is e = not_ok fault two e
    group uid (Ok found) is e = subst (StepKeeps (is_line_of name) (λ line. false) (is_line_of name) one) (same_ok (made uid found) two e) (record {
      passwd_kept = kept-behind (is_line_of name) one.passwd (passwd_line name uid found.0 user ∷ []);
      group_kept = with_user_group-kept (λ line. false) name uid user.gid one.group found is;
      shadow_kept = with_password-kept name (unwrap_or user.password (codes "!")) one.shadow;
    })

    uid : (number : Result ℕ StageFault) → (number >>= λ uid. with_user_group name uid user.gid one.group >>= λ group. Ok (made uid group)) ≡ Ok two
        → StepKeeps (is_line_of name) (λ line. false) (is_line_of name) one two
    uid (Err fault) e = not_ok fault two e
    uid (Ok number) e = group number (with_user_group name number user.gid one.group) refl e

with_changed_user-kept : (place : ℕ) (name : List ℕ) (user : User) (one two : Accounts) → Stands name place one.passwd → with_changed_user place name user one ≡ Ok two → StepKeeps (is_line_of name) (λ line. false) (is_line_of name) one two
with_changed_user-kept place name user one two stands e = by (taken_number place user.uid one.passwd) refl e
  where
    made : Accounts
    made = record {
      passwd = with_given_fields place user one.passwd;
      group = one.group;
      shadow = with_given_password name user.password one.shadow;
    }

    by : (fault : Option StageFault) → taken_number place user.uid one.passwd ≡ fault → with_changed_user place name user one ≡ Ok two → StepKeeps (is_line_of name) (λ line. false) (is_line_of name) one two
    by (Some fault) is e = not_ok fault two (rw is at e)
    by None is e = subst (StepKeeps (is_line_of name) (λ line. false) (is_line_of name) one) (same_ok made two (rw is at e)) (record {
      passwd_kept = with_given_fields-kept name place user one.passwd stands;
      group_kept = kept-itself (λ line. false) one.group;
      shadow_kept = with_given_password-kept name user.password one.shadow;
    })

with_account-kept : (name : List ℕ) (user : User) (one two : Accounts) → with_account name user one ≡ Ok two → StepKeeps (is_line_of name) (λ line. false) (is_line_of name) one two
with_account-kept name user one two e = by (place_of name one.passwd) refl e
  where
    by : (found : Option ℕ) → place_of name one.passwd ≡ found → with_account name user one ≡ Ok two → StepKeeps (is_line_of name) (λ line. false) (is_line_of name) one two
    by None is e = with_new_user-kept name user one two (rw is at e)
    by (Some place) is e =
        let found = place_of-found name one.passwd place is in
        with_changed_user-kept place name user one two (record { there = found.there; named = found.named }) (rw is at e)

with_membership-kept : (name group : List ℕ) (one two : FileLines) → with_membership name group one ≡ Ok two → AreKept (is_line_of group) one two
with_membership-kept name group one two e = by (place_of group one) refl e
  where
    by : (found : Option ℕ) → place_of group one ≡ found → with_membership name group one ≡ Ok two → AreKept (is_line_of group) one two
    by None is e = not_ok _ two (rw is at e)
    by (Some place) is e = subst (AreKept (is_line_of group) one) (same_ok _ two (rw is at e)) (kept-with_field (is_line_of group) one place 2 (with_member name (field 3 (line_at place one))) (place_of-found group one place is).named)

abbrev joined : List ℕ × User → Test
joined entry line = list_any (λ group. is_line_of group line) entry.1.groups

with_user-kept : (entry : List ℕ × User) (one two : Accounts) → with_user entry one ≡ Ok two → StepKeeps (is_line_of entry.0) (joined entry) (is_line_of entry.0) one two
with_user-kept entry one two e = by (with_account entry.0 entry.1 one) refl e
  where
    with_groups : Accounts → FileLines → Accounts
    with_groups after group = record { passwd = after.passwd; group = group; shadow = after.shadow }

    Keeps : Accounts → Type 0
    Keeps files = StepKeeps (is_line_of entry.0) (joined entry) (is_line_of entry.0) one files

    members : (now : Accounts) → with_account entry.0 entry.1 one ≡ Ok now → (groups : Result FileLines StageFault) → in_order (with_membership entry.0) entry.1.groups now.group ≡ groups
        → (groups >>= λ group. Ok (with_groups now group)) ≡ Ok two → Keeps two
    members now is (Err fault) m e = not_ok fault two e
    members now is (Ok group) m e =
        let first = with_account-kept entry.0 entry.1 one now is in
        let second = in_order-kept (λ lines. lines) (with_membership entry.0) is_line_of (with_membership-kept entry.0) entry.1.groups now.group group m in
        subst Keeps (same_ok _ two e) (record {
          passwd_kept = first.passwd_kept;
          group_kept = kept-trans (joined entry) one.group now.group group (kept-more (λ line. false) (joined entry) one.group now.group (λ line no. refl) first.group_kept) second;
          shadow_kept = first.shadow_kept;
        })

    by : (now : Result Accounts StageFault) → with_account entry.0 entry.1 one ≡ now → (now >>= λ after. in_order (with_membership entry.0) entry.1.groups after.group >>= λ group. Ok (with_groups after group)) ≡ Ok two → Keeps two
    by (Err fault) is e = not_ok fault two e
    by (Ok now) is e = members now is (in_order (with_membership entry.0) entry.1.groups now.group) refl e

-- ---- all users

pub with_users-kept : (users : List (List ℕ × User)) (one two : Accounts) → in_order with_user users one ≡ Ok two → StepKeeps (is_of_one users) (is_joined users) (is_of_one users) one two
with_users-kept users one two e = record {
  passwd_kept = in_order-kept (λ files. files.passwd) with_user (λ entry. is_line_of entry.0) (λ entry now after made. (with_user-kept entry now after made).passwd_kept) users one two e;
  group_kept = in_order-kept (λ files. files.group) with_user joined (λ entry now after made. (with_user-kept entry now after made).group_kept) users one two e;
  shadow_kept = in_order-kept (λ files. files.shadow) with_user (λ entry. is_line_of entry.0) (λ entry now after made. (with_user-kept entry now after made).shadow_kept) users one two e;
}
