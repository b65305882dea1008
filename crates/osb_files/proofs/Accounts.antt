-- Numbers of accounts: giving attributes changes none.
use Rattle.std.proofs.Common.{◌≡◌, ℕ, ◌+◌, ◌<◌, List, [], ◌∷◌, length, drop, get_or, Bool, true, false, cond, Option, Some, None, Ok, Err, is_ok, is_eq, suc, add-one, refl, sym, ◌∙◌, ap, true≢false}
use Rattle.std.specs.Prelude.{Result}
use Rattle.std.proofs.Math.Seq.{drop-cons}
use Rattle.osb_tree.specs.Paths.{Names, path_cmp}
use Rattle.osb_tree.specs.Trees.{Listing, node_at}
use Rattle.osb_tree.specs.declared.nodes.Node.{Node}
use Rattle.osb_tree.specs.declared.nodes.Node.TheVariants.{Dir, File, Link}
use Rattle.osb_tree.specs.declared.accounts.AccountFile.{AccountFile}
use Rattle.osb_tree.specs.declared.accounts.AccountFile.TheVariants.{Passwd, Group}
use Rattle.osb_tree.specs.declared.faults.StageFault.{StageFault}
use Rattle.osb_stages.specs.Rules.{Effect, and_then, in_order}
use Rattle.osb_stages.specs.declared.owners.Account.{Account}
use Rattle.osb_stages.specs.declared.owners.Account.TheVariants.{Name, Number}
use Rattle.osb_files.specs.Attributes.{with_attributes, is_covered, with_attributes_at}
use Rattle.osb_files.specs.Chown.{number_at, owner, given_owner, owners, with_owners}
use Rattle.osb_files.specs.declared.attributes.Attributes.{Attributes}
use Rattle.osb_files.specs.declared.chown.Change.{Change}

-- ---- accounts after attributes were given

number_at-node : (file : AccountFile) (name : List ℕ) (given : Attributes) (b : Bool) (node : Node) → number_at file name (Some (cond b (with_attributes given node) node)) ≡ number_at file name (Some node)
number_at-node file name given false node = refl
number_at-node file name given true (Dir mode uid gid) = refl
number_at-node file name given true (File mode uid gid bytes) = refl
number_at-node file name given true (Link uid gid target) = refl

number_at-given : (file : AccountFile) (name : List ℕ) (t : Names → Bool) (given : Attributes) (listing : Listing) (path : Names) → number_at file name (node_at (with_attributes_at t given listing) path) ≡ number_at file name (node_at listing path)
number_at-given file name t given [] path = refl
number_at-given file name t given (entry ∷ entries) path = by (is_eq (path_cmp path entry.0)) (number_at-given file name t given entries path)
  where
    by : (b : Bool) → number_at file name (node_at (with_attributes_at t given entries) path) ≡ number_at file name (node_at entries path)
        → number_at file name (cond b (Some (cond (t entry.0) (with_attributes given entry.1) entry.1)) (node_at (with_attributes_at t given entries) path)) ≡ number_at file name (cond b (Some entry.1) (node_at entries path))
    by true later = number_at-node file name given (t entry.0) entry.1
    by false later = later

owner-given : (file : AccountFile) (t : Names → Bool) (given : Attributes) (listing : Listing) (account : Account) → owner file (with_attributes_at t given listing) account ≡ owner file listing account
owner-given file t given listing (Name name) = number_at-given file name t given listing _
owner-given file t given listing (Number number) = refl

given_owner-given : (file : AccountFile) (t : Names → Bool) (given : Attributes) (listing : Listing) (account : Option Account) → given_owner file (with_attributes_at t given listing) account ≡ given_owner file listing account
given_owner-given file t given listing None = refl
given_owner-given file t given listing (Some account) = rw (owner-given file t given listing account) refl

owners-given : (t : Names → Bool) (given : Attributes) (listing : Listing) (change : Change) → owners (with_attributes_at t given listing) change ≡ owners listing change
owners-given t given listing change = rw (given_owner-given Passwd t given listing change.user, given_owner-given Group t given listing change.group) refl

-- a tree that gives owners as another does
pub record IsAlike (listing other : Listing) : Type 0 where
  pub owners : (change : Change) → owners listing change ≡ owners other change

pub IsAlike-itself : (listing : Listing) → IsAlike listing listing
IsAlike-itself listing = record { owners = λ change. refl }

abbrev given_at : Names × Change → Listing → Result Attributes StageFault → Effect
given_at item listing (Ok given) = Ok (with_attributes_at (is_covered item.0 item.1.recursive) given listing)
given_at item listing (Err fault) = Err fault

with_owners-standing : (accounts : Listing) (item : Names × Change) (listing : Listing) (node : Node) (given : Result Attributes StageFault) → node_at listing item.0 ≡ Some node → owners accounts item.1 ≡ given
    → with_owners accounts item listing ≡ given_at item listing given
with_owners-standing accounts item listing node (Ok given) found is = rw (found, is) refl
with_owners-standing accounts item listing node (Err fault) found is = rw (found, is) refl

-- and so it does after owners were given
pub IsAlike-next : (accounts other : Listing) (item : Names × Change) (listing after : Listing) → IsAlike listing other → with_owners accounts item listing ≡ Ok after → IsAlike after other
IsAlike-next accounts other item listing after alike e = by (node_at listing item.0) refl
  where
    not_ok : {P : Type 0} (fault : StageFault) → Err fault ≡ Ok after → P
    not_ok fault e = absurd (true≢false (sym (ap is_ok e)))

    from : (given : Result Attributes StageFault) → given_at item listing given ≡ Ok after → IsAlike after other
    from (Ok given) g =
        let is : with_attributes_at (is_covered item.0 item.1.recursive) given listing ≡ after = cc in
        record { owners = λ change. ap (λ l. owners l change) (sym is) ∙ owners-given (is_covered item.0 item.1.recursive) given listing change ∙ alike.owners change }
    from (Err fault) g = not_ok fault g

    by : (found : Option Node) → node_at listing item.0 ≡ found → IsAlike after other
    by None f = not_ok _ (rw f at e)
    by (Some node) f = from (owners accounts item.1) (sym (with_owners-standing accounts item listing node (owners accounts item.1) f refl) ∙ e)

pub with_owners-alike : (listing other : Listing) (item : Names × Change) (tree : Listing) → IsAlike listing other → with_owners listing item tree ≡ with_owners other item tree
with_owners-alike listing other item tree alike = by (node_at tree item.0) refl
  where
    by : (found : Option Node) → node_at tree item.0 ≡ found → with_owners listing item tree ≡ with_owners other item tree
    by None f = rw f refl
    by (Some node) f = with_owners-standing listing item tree node (owners other item.1) f (alike.owners item.1) ∙ sym (with_owners-standing other item tree node (owners other item.1) f refl)

-- ---- the next of some items

next-item : {A : Type 0} (effect : A → Listing → Effect) (items : List A) (i : ℕ) (item : A) (listing : Listing) → i < length items → item ≡ get_or items i item → in_order effect (drop i items) listing ≡ in_order effect (item ∷ drop (i + 1) items) listing
next-item effect items i item listing within is =
    let next : drop i items ≡ item ∷ drop (i + 1) items = rw add-one (drop-cons items i item within ∙ ap (λ first. first ∷ drop (suc i) items) (sym is)) in
    ap (λ rest. in_order effect rest listing) next

pub next-fault : {A : Type 0} (effect : A → Listing → Effect) (items : List A) (i : ℕ) (item : A) (listing : Listing) (fault : StageFault) → i < length items → item ≡ get_or items i item → effect item listing ≡ Err fault → in_order effect (drop i items) listing ≡ Err fault
next-fault effect items i item listing fault within is e =
    next-item effect items i item listing within is ∙ ap (and_then (in_order effect (drop (i + 1) items))) e

pub next-ok : {A : Type 0} (effect : A → Listing → Effect) (items : List A) (i : ℕ) (item : A) (listing after : Listing) → i < length items → item ≡ get_or items i item → effect item listing ≡ Ok after → in_order effect (drop (i + 1) items) after ≡ in_order effect (drop i items) listing
next-ok effect items i item listing after within is e =
    sym (next-item effect items i item listing within is ∙ ap (and_then (in_order effect (drop (i + 1) items))) e)
