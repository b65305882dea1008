-- Which fault comes first.
use Rattle.std.proofs.Common.{◌≡◌, ℕ, List, [], ◌∷◌, ◌++◌, length, true≢false, Ok, Err, is_ok, refl, sym, ◌∙◌, ap}
use Rattle.std.specs.Prelude.{Result}
use Rattle.osb_tree.specs.Trees.{Listing}
use Rattle.osb_tree.specs.declared.accounts.AccountFile.TheVariants.{Passwd, Group, Shadow}
use Rattle.osb_tree.specs.declared.faults.StageFault.{StageFault}
use Rattle.osb_stages.specs.Readers.{◌>>=◌}
use Rattle.osb_stages.specs.Rules.{Effect, and_then, in_order}
use Rattle.osb_accounts.specs.Lines.{FileLines}
use Rattle.osb_accounts.specs.Files.{lines_at}
use Rattle.osb_accounts.specs.Homes.{with_home}
use Rattle.osb_accounts.specs.Users.{accounts_at, with_account, with_membership, with_user, all_written, users}
use Rattle.osb_accounts.specs.FaultOrder.{IsReadFault, in_passwd, in_group, in_shadow, IsItemFault, at_item, IsUserFault, in_account, in_groups, IsFirstFault, of_reading, of_user, of_writing, of_home, FaultsComeInOrder}
use Rattle.osb_accounts.specs.declared.files.Accounts.{Accounts}
use Rattle.osb_accounts.specs.declared.users.User.{User}
use Rattle.osb_accounts.specs.declared.users.Options.{Options}

not_fault : {P A F : Type 0} (value : A) (fault : F) → Ok value ≡ Err fault → P
not_fault value fault e = absurd (true≢false (ap is_ok e))

same_fault : {A F : Type 0} (one two : F) → ◌≡◌ {A = Result A F} (Err one) (Err two) → one ≡ two
same_fault one two e = cc

-- ---- items in order

in_order-fault : {A S : Type 0} (effect : A → S → Result S StageFault) (done : List A) (item : A) (rest : List A) (state now : S) (fault : StageFault)
    → in_order effect done state ≡ Ok now → effect item now ≡ Err fault → in_order effect (done ++ item ∷ rest) state ≡ Err fault
in_order-fault effect [] item rest state now fault made e = let same : state ≡ now = cc in rw (same, e) refl
in_order-fault {A} {S} effect (first ∷ done) item rest state now fault made e = by (λ after reached. in_order-fault effect done item rest after now fault reached e) (effect first state) made
  where
    by : ((after : S) → in_order effect done after ≡ Ok now → in_order effect (done ++ item ∷ rest) after ≡ Err fault)
        → (after : Result S StageFault) → and_then (in_order effect done) after ≡ Ok now → and_then (in_order effect (done ++ item ∷ rest)) after ≡ Err fault
    by later (Err other) made = absurd (true≢false (sym (ap is_ok made)))
    by later (Ok after) made = later after made

in_order-found : {A S : Type 0} (effect : A → S → Result S StageFault) (items : List A) (state : S) (fault : StageFault) → in_order effect items state ≡ Err fault → IsItemFault effect items state fault
in_order-found effect [] state fault e = not_fault state fault e
in_order-found {A} {S} effect (item ∷ items) state fault e = by (λ now. in_order-found effect items now fault) (effect item state) refl e
  where
    later : (now : S) → effect item state ≡ Ok now → IsItemFault effect items now fault → IsItemFault effect (item ∷ items) state fault
    later now is (at_item done other rest after split made found) =
        at_item (item ∷ done) other rest after (ap (λ (xs : List A). item ∷ xs) split) (rw is made) found

    by : ((now : S) → in_order effect items now ≡ Err fault → IsItemFault effect items now fault)
        → (after : Result S StageFault) → effect item state ≡ after → and_then (in_order effect items) after ≡ Err fault → IsItemFault effect (item ∷ items) state fault
    by found (Err other) is e = at_item [] item items state refl refl (is ∙ ap Err (same_fault other fault e))
    by found (Ok now) is e = later now is (found now e)

-- ---- what is read

reading-answered : (listing : Listing) (fault : StageFault) → IsReadFault listing fault → accounts_at listing ≡ Err fault
reading-answered listing fault (in_passwd e) = rw e refl
reading-answered listing fault (in_group passwd p e) = rw (p, e) refl
reading-answered listing fault (in_shadow passwd group p g e) = rw (p, g, e) refl

reading-first : (listing : Listing) (fault : StageFault) → accounts_at listing ≡ Err fault → IsReadFault listing fault
reading-first listing fault e = one (lines_at Passwd listing) refl (lines_at Group listing) refl (lines_at Shadow listing) refl e
  where
    files_of : FileLines → FileLines → FileLines → Accounts
    files_of passwd group shadow = record { passwd = passwd; group = group; shadow = shadow }

    one : (p : Result FileLines StageFault) → lines_at Passwd listing ≡ p → (g : Result FileLines StageFault) → lines_at Group listing ≡ g → (s : Result FileLines StageFault) → lines_at Shadow listing ≡ s
        → (p >>= λ passwd. g >>= λ group. s >>= λ shadow. Ok (files_of passwd group shadow)) ≡ Err fault → IsReadFault listing fault
    one (Err f) p g ig s is e = in_passwd (p ∙ ap Err (same_fault f fault e))
    one (Ok passwd) p (Err f) g s is e = in_group passwd p (g ∙ ap Err (same_fault f fault e))
    one (Ok passwd) p (Ok group) g (Err f) s e = in_shadow passwd group p g (s ∙ ap Err (same_fault f fault e))
    one (Ok passwd) p (Ok group) g (Ok shadow) s e = not_fault _ fault e

-- ---- a stage

answered : (options : Options) (listing : Listing) (fault : StageFault) → IsFirstFault options listing fault → users options listing ≡ Err fault
answered options listing fault (of_reading read) = rw (reading-answered listing fault read) refl
answered options listing fault (of_user before b (at_item done entry rest now split made found)) =
    let e = ap (λ entries. in_order with_user entries before) split ∙ in_order-fault with_user done entry rest before now fault made found in
    rw (b, e) refl
answered options listing fault (of_writing before after b a e) = rw (b, a, e) refl
answered options listing fault (of_home before after made b a w (at_item done entry rest now split reached found)) =
    let effect = with_home (length before.passwd) after.passwd in
    let e = ap (λ entries. in_order effect entries made) split ∙ in_order-fault effect done entry rest made now fault reached found in
    rw (b, a, w) e

first : (options : Options) (listing : Listing) (fault : StageFault) → users options listing ≡ Err fault → IsFirstFault options listing fault
first options listing fault e = read (accounts_at listing) refl e
  where
    written : (before after : Accounts) → accounts_at listing ≡ Ok before → in_order with_user options.users before ≡ Ok after → (made : Effect) → all_written after listing ≡ made
        → (made >>= λ made. in_order (with_home (length before.passwd) after.passwd) options.users made) ≡ Err fault → IsFirstFault options listing fault
    written before after b a (Err f) w e = of_writing before after b a (w ∙ ap Err (same_fault f fault e))
    written before after b a (Ok made) w e = of_home before after made b a w (in_order-found (with_home (length before.passwd) after.passwd) options.users made fault e)

    made : (before : Accounts) → accounts_at listing ≡ Ok before → (after : Result Accounts StageFault) → in_order with_user options.users before ≡ after
        → (after >>= λ after. all_written after listing >>= λ made. in_order (with_home (length before.passwd) after.passwd) options.users made) ≡ Err fault → IsFirstFault options listing fault
    made before b (Err f) a e = of_user before b (in_order-found with_user options.users before fault (a ∙ ap Err (same_fault f fault e)))
    made before b (Ok after) a e = written before after b a (all_written after listing) refl e

    read : (before : Result Accounts StageFault) → accounts_at listing ≡ before
        → (before >>= λ before. in_order with_user options.users before >>= λ after. all_written after listing >>= λ made. in_order (with_home (length before.passwd) after.passwd) options.users made) ≡ Err fault
        → IsFirstFault options listing fault
    read (Err f) b e = of_reading (reading-first listing fault (b ∙ ap Err (same_fault f fault e)))
    read (Ok before) b e = made before b (in_order with_user options.users before) refl e

of_one_user : (entry : List ℕ × User) (files : Accounts) (fault : StageFault) → with_user entry files ≡ Err fault → IsUserFault entry files fault
of_one_user entry files fault e = by (with_account entry.0 entry.1 files) refl e
  where
    with_groups : Accounts → FileLines → Accounts
    with_groups after group = record { passwd = after.passwd; group = group; shadow = after.shadow }

    members : (after : Accounts) → with_account entry.0 entry.1 files ≡ Ok after → (groups : Result FileLines StageFault) → in_order (with_membership entry.0) entry.1.groups after.group ≡ groups
        → (groups >>= λ group. Ok (with_groups after group)) ≡ Err fault → IsUserFault entry files fault
    members after a (Err f) g e = in_groups after a (in_order-found (with_membership entry.0) entry.1.groups after.group fault (g ∙ ap Err (same_fault f fault e)))
    members after a (Ok group) g e = not_fault _ fault e

    by : (after : Result Accounts StageFault) → with_account entry.0 entry.1 files ≡ after
        → (after >>= λ after. in_order (with_membership entry.0) entry.1.groups after.group >>= λ group. Ok (with_groups after group)) ≡ Err fault → IsUserFault entry files fault
    by (Err f) a e = in_account (a ∙ ap Err (same_fault f fault e))
    by (Ok after) a e = members after a (in_order (with_membership entry.0) entry.1.groups after.group) refl e

pub come_in_order : FaultsComeInOrder
come_in_order = record { answered = answered; first = first; of_one_user = of_one_user }

-- ---- as the code finds them

pub fault_of_user : (options : Options) (listing : Listing) (before : Accounts) (fault : StageFault) → Ok before ≡ accounts_at listing → in_order with_user options.users before ≡ Err fault → Err fault ≡ users options listing
fault_of_user options listing before fault b e = rw (← b, e) refl

pub fault_of_writing : (options : Options) (listing : Listing) (before after : Accounts) (fault : StageFault) → Ok before ≡ accounts_at listing → in_order with_user options.users before ≡ Ok after → all_written after listing ≡ Err fault
    → Err fault ≡ users options listing
fault_of_writing options listing before after fault b a e = rw (← b, a, e) refl

pub fault_of_home : (options : Options) (listing made : Listing) (before after : Accounts) (fault : StageFault) → Ok before ≡ accounts_at listing → in_order with_user options.users before ≡ Ok after → all_written after listing ≡ Ok made
    → in_order (with_home (length before.passwd) after.passwd) options.users made ≡ Err fault → Err fault ≡ users options listing
fault_of_home options listing made before after fault b a w e = rw (← b, a, w) (sym e)
