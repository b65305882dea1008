-- Modes and owners given to what stands in a tree leave it a tree.
use Rattle.std.proofs.Common.{◌≡◌, ◌≢◌, ℕ, ◌++◌, List, [], ◌∷◌, length, find, Bool, true, false, cond, Option, Some, None, is_some, option_map, Result, Ok, Err, is_eq, refl, sym, ◌∙◌, ap, subst, arith, leb-true}
use Rattle.std.specs.Prelude.{IfOk, IfSome, unwrap_or}
use Rattle.std.specs.List.{AllByRecursion}
use Rattle.std.specs.List.Sorted.{IsStrictlySortedBy}
use Rattle.std.specs.Map.{keys_of, values_of}
use Rattle.std.proofs.lemmas.Bool.{and_parts}
use Rattle.std.proofs.lemmas.List.Sums.{sum_by-cons}
use Rattle.osb_tree.specs.Paths.{Names, IsPath, root, path_cmp}
use Rattle.osb_tree.specs.Nodes.{InRange, IsMode, IsOwner, is_directory, content_length}
use Rattle.osb_tree.specs.Trees.{Listing, node_at, is_directory_at, weight, tree_size}
use Rattle.osb_tree.specs.Accounts.{account_path, bad_line, number_of, lines_of, field_at, value_of, is_account_number, is_line_of}
use Rattle.osb_tree.specs.declared.nodes.Node.{Node}
use Rattle.osb_tree.specs.declared.nodes.Node.TheVariants.{Dir, File, Link}
use Rattle.osb_tree.specs.declared.accounts.AccountFile.{AccountFile}
use Rattle.osb_tree.specs.declared.accounts.AccountFile.TheVariants.{Passwd, Group, Shadow}
use Rattle.osb_tree.specs.declared.faults.StageFault.{StageFault}
use Rattle.osb_tree.specs.declared.faults.StageFault.TheVariants.{NotAFile}
use Rattle.osb_tree.proofs.AccountLaws.{find-numbered, find-none}
use Rattle.osb_stages.specs.declared.owners.Account.{Account}
use Rattle.osb_stages.specs.declared.owners.Account.TheVariants.{Name, Number}
use Rattle.osb_files.specs.Attributes.{with_attributes, is_covered, with_attributes_at}
use Rattle.osb_files.specs.Chmod.{is_link, only_mode, with_mode, chmod}
use Rattle.osb_files.specs.Chown.{number_in, number_at, owner, given_owner, owners, with_owners, chown}
use Rattle.osb_files.specs.declared.attributes.Attributes.{Attributes}
use Rattle.osb_files.specs.declared.chmod.Change.{Change as ModeChange}
use Rattle.osb_files.specs.declared.chmod.Options.{Options as ModeOptions}
use Rattle.osb_files.specs.declared.chown.Change.{Change as OwnerChange}
use Rattle.osb_files.specs.declared.chown.Options.{Options as OwnerOptions}
use Rattle.osb_meanings.specs.Laws.{IsWithin}
use Rattle.osb_meanings.proofs.Gives.{GivesATree, one_of, gives-in_order}
use Rattle.osb_meanings.proofs.Ranges.{IsAccount, IsNewMode, IsNewOwner}

-- ---- attributes in range

record AreAttributes (given : Attributes) : Type 0 where
  mode : IfSome given.mode IsMode
  uid : IfSome given.uid IsOwner
  gid : IfSome given.gid IsOwner

or_else : (P : ℕ → Type 0) (found : Option ℕ) (number : ℕ) → IfSome found P → P number → P (unwrap_or found number)
or_else P None number none is = is
or_else P (Some other) number is before = is

in_range-with : (given : Attributes) (node : Node) → AreAttributes given → InRange node → InRange (with_attributes given node)
in_range-with given (Dir mode uid gid) are range = (or_else IsMode given.mode mode are.mode range.0, or_else IsOwner given.uid uid are.uid range.1, or_else IsOwner given.gid gid are.gid range.2)
in_range-with given (File mode uid gid bytes) are range = (or_else IsMode given.mode mode are.mode range.0, or_else IsOwner given.uid uid are.uid range.1, or_else IsOwner given.gid gid are.gid range.2)
in_range-with given (Link uid gid target) are range = (or_else IsOwner given.uid uid are.uid range.0, or_else IsOwner given.gid gid are.gid range.1, range.2)

-- ---- what attributes leave as it is

same_kind : (given : Attributes) (node : Node) → is_directory (with_attributes given node) ≡ is_directory node
same_kind given (Dir mode uid gid) = refl
same_kind given (File mode uid gid bytes) = refl
same_kind given (Link uid gid target) = refl

same_length : (given : Attributes) (node : Node) → content_length (with_attributes given node) ≡ content_length node
same_length given (Dir mode uid gid) = refl
same_length given (File mode uid gid bytes) = refl
same_length given (Link uid gid target) = refl

module _ (test : Names → Bool) (given : Attributes) where
  abbrev changed : Names → Node → Node
  changed path node = cond (test path) (with_attributes given node) node

  abbrev after : Listing → Listing
  after listing = with_attributes_at test given listing

  changed-kind : (path : Names) (node : Node) → is_directory (changed path node) ≡ is_directory node
  changed-kind path node = by (test path)
    where
      by : (b : Bool) → is_directory (cond b (with_attributes given node) node) ≡ is_directory node
      by true = same_kind given node
      by false = refl

  changed-length : (path : Names) (node : Node) → content_length (changed path node) ≡ content_length node
  changed-length path node = by (test path)
    where
      by : (b : Bool) → content_length (cond b (with_attributes given node) node) ≡ content_length node
      by true = same_length given node
      by false = refl

  changed-in_range : AreAttributes given → (path : Names) (node : Node) → InRange node → InRange (changed path node)
  changed-in_range are path node range = by (test path)
    where
      by : (b : Bool) → InRange (cond b (with_attributes given node) node)
      by true = in_range-with given node are range
      by false = range

  keys-after : (listing : Listing) → keys_of (after listing) ≡ keys_of listing
  keys-after [] = refl
  keys-after (entry ∷ entries) = ap (λ (rest : List Names). entry.0 ∷ rest) (keys-after entries)

  nodes-after : AreAttributes given → (listing : Listing) → AllByRecursion InRange (values_of listing) → AllByRecursion InRange (values_of (after listing))
  nodes-after are [] range = tt
  nodes-after are (entry ∷ entries) range = (changed-in_range are entry.0 entry.1 range.0, nodes-after are entries range.1)

  length-after : (listing : Listing) → length (after listing) ≡ length listing
  length-after [] = refl
  length-after (entry ∷ entries) = let more = length-after entries in omega (arith, more)

  size-after : (listing : Listing) → tree_size (after listing) ≡ tree_size listing
  size-after [] = refl
  size-after (entry ∷ entries) =
      let more = size-after entries in
      let same = changed-length entry.0 entry.1 in
      omega (arith, more, same, sum_by-cons weight entry entries, sum_by-cons weight (entry.0, changed entry.0 entry.1) (after entries))

  kinds-after : (listing : Listing) (path : Names) → option_map is_directory (node_at (after listing) path) ≡ option_map is_directory (node_at listing path)
  kinds-after [] path = refl
  kinds-after (entry ∷ entries) path = by (is_eq (path_cmp path entry.0)) (kinds-after entries path)
    where
      by : (b : Bool) → option_map is_directory (node_at (after entries) path) ≡ option_map is_directory (node_at entries path)
          → option_map is_directory (cond b (Some (changed entry.0 entry.1)) (node_at (after entries) path)) ≡ option_map is_directory (cond b (Some entry.1) (node_at entries path))
      by true more = ap Some (changed-kind entry.0 entry.1)
      by false more = more

  is_there : (listing : Listing) (path : Names) → is_some (option_map is_directory (node_at listing path)) ≡ is_some (node_at listing path)
  is_there listing path = by (node_at listing path)
    where
      by : (found : Option Node) → is_some (option_map is_directory found) ≡ is_some found
      by None = refl
      by (Some node) = refl

  is_one : (listing : Listing) (path : Names) → is_directory_at listing path ≡ unwrap_or (option_map is_directory (node_at listing path)) false
  is_one listing path = by (node_at listing path) refl
    where
      by : (found : Option Node) → node_at listing path ≡ found → is_directory_at listing path ≡ unwrap_or (option_map is_directory (node_at listing path)) false
      by None e = rw e refl
      by (Some node) e = rw e refl

  directory-after : (listing : Listing) (path : Names) → is_directory_at (after listing) path ≡ is_directory_at listing path
  directory-after listing path = is_one (after listing) path ∙ ap (λ (kind : Option Bool). unwrap_or kind false) (kinds-after listing path) ∙ sym (is_one listing path)

  there-after : (listing : Listing) (path : Names) → is_some (node_at (after listing) path) ≡ is_some (node_at listing path)
  there-after listing path = sym (is_there (after listing) path) ∙ ap is_some (kinds-after listing path) ∙ is_there listing path

  within-after : (listing : Listing) → AreAttributes given → IsWithin listing → IsWithin (after listing)
  within-after listing are is = record {
    tree = record {
      ordered = subst (IsStrictlySortedBy path_cmp) (sym (keys-after listing)) is.tree.ordered;
      paths = subst (AllByRecursion IsPath) (sym (keys-after listing)) is.tree.paths;
      nodes = nodes-after are listing is.tree.nodes;
      rooted = directory-after listing root ∙ is.tree.rooted;
      parents = λ path name found. directory-after listing path ∙ is.tree.parents path name (sym (there-after listing (path ++ name ∷ [])) ∙ found);
    };
    limits = record {
      few = let same = length-after listing in omega (arith, same, is.limits.few);
      small = let same = size-after listing in omega (arith, same, is.limits.small);
    };
  }

-- ---- modes

gives-mode : (item : Names × ModeChange) (listing : Listing) → IsNewMode item → IsWithin listing → GivesATree (with_mode item listing)
gives-mode item listing range is = by (node_at listing item.0) refl
  where
    by : (found : Option Node) → node_at listing item.0 ≡ found → GivesATree (with_mode item listing)
    by None e = rw e tt
    by (Some node) e = rw e (one_of IsWithin (is_link node) (Err (NotAFile item.0)) _ (λ _. tt) (λ _.
        within-after (is_covered item.0 item.1.recursive) (only_mode item.1.mode) listing (record { mode = range; uid = tt; gid = tt }) is))

pub chmod-gives : (options : ModeOptions) (base : Listing) → AllByRecursion IsNewMode options.items → IsWithin base → GivesATree (chmod options base)
chmod-gives options base range is = gives-in_order IsNewMode with_mode gives-mode options.items base range is

-- ---- owners

-- a field that is a number says one that is in range
pub number-small : (field : List ℕ) → is_account_number field ≡ true → IsOwner (value_of field)
number-small field good = leb-true (value_of field) 4294967294 (and_parts _ _ good).1

number_of-small : (file : AccountFile) (name bytes : List ℕ) → file ≢ Shadow → bad_line file bytes ≡ None → IfSome (number_of name bytes) IsOwner
number_of-small file name bytes other none = by (find (is_line_of name) (lines_of bytes)) refl
  where
    of_line : (line : List ℕ) (b : Bool) → is_account_number (field_at 2 line) ≡ b → IfSome (cond b (Some (value_of (field_at 2 line))) None) IsOwner
    of_line line true e = number-small (field_at 2 line) e
    of_line line false e = tt

    by : (line : Option (List ℕ)) → find (is_line_of name) (lines_of bytes) ≡ line → IfSome (number_of name bytes) IsOwner
    by None e = subst (λ (found : Option ℕ). IfSome found IsOwner) (find-none name bytes e) tt
    by (Some line) e = subst (λ (found : Option ℕ). IfSome found IsOwner) (find-numbered file name bytes line other none e) (of_line line (is_account_number (field_at 2 line)) refl)

number_in-small : (file : AccountFile) (name bytes : List ℕ) → file ≢ Shadow → IfOk (number_in file name bytes) IsOwner
number_in-small file name bytes other = by (bad_line file bytes) refl
  where
    found : (number : Option ℕ) → number_of name bytes ≡ number → bad_line file bytes ≡ None → IfSome number IsOwner → IfOk (number_in file name bytes) IsOwner
    found None n e small = rw (e, n) tt
    found (Some number) n e small = rw (e, n) small

    by : (line : Option ℕ) → bad_line file bytes ≡ line → IfOk (number_in file name bytes) IsOwner
    by None e = found (number_of name bytes) refl e (number_of-small file name bytes other e)
    by (Some line) e = rw e tt

number_at-small : (file : AccountFile) (name : List ℕ) (found : Option Node) → file ≢ Shadow → IfOk (number_at file name found) IsOwner
number_at-small file name None other = tt
number_at-small file name (Some (Dir mode uid gid)) other = tt
number_at-small file name (Some (File mode uid gid bytes)) other = number_in-small file name bytes other
number_at-small file name (Some (Link uid gid target)) other = tt

owner-small : (file : AccountFile) (listing : Listing) (account : Account) → file ≢ Shadow → IsAccount account → IfOk (owner file listing account) IsOwner
owner-small file listing (Name name) other is = number_at-small file name (node_at listing (account_path file)) other
owner-small file listing (Number number) other is = is

abbrev IsGivenOwner : Option ℕ → Type 0
IsGivenOwner number = IfSome number IsOwner

given_owner-small : (file : AccountFile) (listing : Listing) (account : Option Account) → file ≢ Shadow → IfSome account IsAccount → IfOk (given_owner file listing account) IsGivenOwner
given_owner-small file listing None other is = tt
given_owner-small file listing (Some account) other is = by (owner file listing account) refl (owner-small file listing account other is)
  where
    by : (found : Result ℕ StageFault) → owner file listing account ≡ found → IfOk found IsOwner → IfOk (given_owner file listing (Some account)) IsGivenOwner
    by (Ok number) e small = rw e small
    by (Err fault) e small = rw e tt

owners-small : (listing : Listing) (change : OwnerChange) → IfSome change.user IsAccount → IfSome change.group IsAccount → IfOk (owners listing change) AreAttributes
owners-small listing change user group = by (given_owner Passwd listing change.user) (given_owner Group listing change.group) refl refl
    (given_owner-small Passwd listing change.user (λ e. cc) user) (given_owner-small Group listing change.group (λ e. cc) group)
  where
    by : (one two : Result (Option ℕ) StageFault) → given_owner Passwd listing change.user ≡ one → given_owner Group listing change.group ≡ two → IfOk one IsGivenOwner → IfOk two IsGivenOwner → IfOk (owners listing change) AreAttributes
    by (Ok uid) (Ok gid) u g first second = rw (u, g) (record { mode = tt; uid = first; gid = second })
    by (Ok uid) (Err fault) u g first second = rw (u, g) tt
    by (Err fault) two u g first second = rw u tt

gives-owners : (accounts : Listing) (item : Names × OwnerChange) (listing : Listing) → IsNewOwner item → IsWithin listing → GivesATree (with_owners accounts item listing)
gives-owners accounts item listing range is = by (node_at listing item.0) refl (owners accounts item.1) refl (owners-small accounts item.1 range.0 range.1)
  where
    by : (found : Option Node) → node_at listing item.0 ≡ found → (given : Result Attributes StageFault) → owners accounts item.1 ≡ given → IfOk given AreAttributes → GivesATree (with_owners accounts item listing)
    by None e given g are = rw e tt
    by (Some node) e (Ok attributes) g are = rw (e, g) (within-after (is_covered item.0 item.1.recursive) attributes listing are is)
    by (Some node) e (Err fault) g are = rw (e, g) tt

pub chown-gives : (options : OwnerOptions) (base : Listing) → AllByRecursion IsNewOwner options.items → IsWithin base → GivesATree (chown options base)
chown-gives options base range is = gives-in_order IsNewOwner (with_owners base) (gives-owners base) options.items base range is
