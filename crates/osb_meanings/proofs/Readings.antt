-- What readers of options give.
use Rattle.std.proofs.Common.{◌≡◌, ℕ, ◌≤◌, ◌==◌, ◌++◌, List, ◌∷◌, length, codes, Bool, true, false, not, ◌&&◌, cond, Option, Some, None, is_some, Result, Ok, Err, refl}
use Rattle.std.specs.Prelude.{IfOk, IfSome, nat_le}
use Rattle.std.specs.List.{AllByRecursion, ends_with, before_first, after_first}
use Rattle.std.proofs.lemmas.Bool.{and_parts, leb-true}
use Rattle.serde_json.specs.Data.{Num, unsigned, negative, float, Data, Items, no_items, item, Members, no_members, member}
use Rattle.serde_json.specs.Find.{get, as_number, as_array, as_object}
use Rattle.osb_tree.specs.Paths.{Names, IsPath, has_byte, path_of}
use Rattle.osb_tree.specs.Nodes.{IsTarget}
use Rattle.osb_tree.specs.declared.faults.PathFault.{PathFault}
use Rattle.osb_tree.specs.declared.faults.OptionFault.TheVariants.{OutOfRange, WrongKind, BadPath}
use Rattle.osb_stages.specs.Readers.{Read, Reader, required, optional, if_there, of_kind, text, allowed, is_target, number_to, path, objects, list_of, entry, entries, entries_of}
use Rattle.osb_files.specs.Copy.{text_after, path_in, is_slash, source_text, destination_text}
use Rattle.osb_meanings.proofs.Gives.{gives-next, gives-next-any, one_of}
use Rattle.osb_meanings.proofs.Trees.{path_of-gives}

-- ---- members

pub required-gives : {A : Type 0} (P : A → Type 0) (read : Reader A) (name : List ℕ) (options : Data) → ((value : Data) → IfOk (read name value) P) → IfOk (required read name options) P
required-gives P read name options each = by (get name options) refl
  where
    by : (found : Option Data) → get name options ≡ found → IfOk (required read name options) P
    by None e = rw e tt
    by (Some value) e = rw e (each value)

pub optional-gives : {A : Type 0} (P : A → Type 0) (read : Reader A) (absent : A) (name : List ℕ) (options : Data) → P absent → ((value : Data) → IfOk (read name value) P) → IfOk (optional read absent name options) P
optional-gives P read absent name options none each = by (get name options) refl
  where
    by : (found : Option Data) → get name options ≡ found → IfOk (optional read absent name options) P
    by None e = rw e none
    by (Some value) e = rw e (each value)

pub if_there-gives : {A : Type 0} (P : A → Type 0) (read : Reader A) (name : List ℕ) (options : Data) → ((value : Data) → IfOk (read name value) P) → IfOk (if_there read name options) (λ found. IfSome found P)
if_there-gives P read name options each = by (get name options) refl
  where
    by : (found : Option Data) → get name options ≡ found → IfOk (if_there read name options) (λ found. IfSome found P)
    by None e = rw e tt
    by (Some value) e = rw e (gives-next P (λ found. IfSome found P) (read name value) (λ found. Ok (Some found)) (each value) (λ a is. is))

-- ---- values

pub allowed-gives : (is_one : Bool) (name : List ℕ) → IfOk (allowed is_one name) (λ _. is_one ≡ true)
allowed-gives true name = refl
allowed-gives false name = tt

pub is_target-true : (target : List ℕ) → is_target target ≡ true → IsTarget target
is_target-true target good =
    let parts = and_parts (nat_le 1 (length target) && nat_le (length target) 4095) (not (has_byte 0 target)) good in
    let lengths = and_parts (nat_le 1 (length target)) (nat_le (length target) 4095) parts.0 in
    record { some = leb-true 1 (length target) lengths.0; short = leb-true (length target) 4095 lengths.1; no_nul = parts.1 }

pub number_to-gives : (last : ℕ) (name : List ℕ) (value : Data) → IfOk (number_to last name value) (λ number. number ≤ last)
number_to-gives last name value = gives-next-any (λ number. number ≤ last) (of_kind name (as_number value)) within small
  where
    within : Num → Read ℕ
    within (unsigned n) = cond (nat_le n last) (Ok n) (Err (OutOfRange name))
    within (negative z) = Err (OutOfRange name)
    within (float x) = Err (OutOfRange name)

    small : (number : Num) → IfOk (within number) (λ number. number ≤ last)
    small (unsigned n) = one_of (λ number. number ≤ last) (nat_le n last) (Ok n) (Err (OutOfRange name)) (λ le. leb-true n last le) (λ _. tt)
    small (negative z) = tt
    small (float x) = tt

-- the path that a text gives
abbrev as_path : List ℕ → Result Names PathFault → Read Names
as_path name (Ok names) = Ok names
as_path name (Err fault) = Err (BadPath name)

as_path-gives : (name : List ℕ) (read : Result Names PathFault) → IfOk read IsPath → IfOk (as_path name read) IsPath
as_path-gives name (Ok names) is = is
as_path-gives name (Err fault) is = tt

pub path-gives : (name : List ℕ) (value : Data) → IfOk (path name value) IsPath
path-gives name value = gives-next-any IsPath (text name value) (λ read. as_path name (path_of read)) (λ read. as_path-gives name (path_of read) (path_of-gives read))

pub path_in-gives : (name read : List ℕ) → IfOk (path_in name read) IsPath
path_in-gives name read = as_path-gives name (path_of read) (path_of-gives read)

-- ---- what a copy goes from and to

pub source_text-gives : (name : List ℕ) (value : Data) → IfOk (source_text name value) (λ from. IsPath from.1)
source_text-gives name value =
    let Q : List ℕ × Names → Type 0 = λ from. IsPath from.1 in
    gives-next-any Q (text_after (codes "input://") name value) _ (λ rest.
    one_of Q (length (before_first is_slash rest) == 0) (Err (BadPath name)) _ (λ _. tt) (λ _.
    gives-next IsPath Q (path_in name (codes "/" ++ after_first is_slash rest)) (λ path. Ok (before_first is_slash rest, path)) (path_in-gives name (codes "/" ++ after_first is_slash rest)) (λ path is. is)))

pub destination_text-gives : (name : List ℕ) (value : Data) → IfOk (destination_text name value) (λ to. IsPath to.0)
destination_text-gives name value =
    let Q : Names × Bool → Type 0 = λ to. IsPath to.0 in
    gives-next-any Q (text_after (codes "tree://") name value) _ (λ rest.
    gives-next IsPath Q (path_in name rest) (λ path. Ok (path, ends_with ◌==◌ rest (codes "/"))) (path_in-gives name rest) (λ path is. is))

-- ---- lists

object-gives : {A : Type 0} (P : A → Type 0) (read : Data → Read A) (name : List ℕ) (value : Data) → ((value : Data) → IfOk (read value) P) → IfOk (cond (is_some (as_object value)) (read value) (Err (WrongKind name))) P
object-gives P read name value each = one_of P (is_some (as_object value)) (read value) (Err (WrongKind name)) (λ _. each value) (λ _. tt)

objects-give : {A : Type 0} (P : A → Type 0) (read : Data → Read A) (name : List ℕ) (items : Items) → ((value : Data) → IfOk (read value) P) → IfOk (objects read name items) (AllByRecursion P)
objects-give P read name no_items each = tt
objects-give P read name (item value items) each =
    gives-next P (AllByRecursion P) (cond (is_some (as_object value)) (read value) (Err (WrongKind name))) _ (object-gives P read name value each) (λ first is.
    gives-next (AllByRecursion P) (AllByRecursion P) (objects read name items) (λ others. Ok (first ∷ others)) (objects-give P read name items each) (λ others are. (is, are)))

pub list_of-gives : {A : Type 0} (P : A → Type 0) (read : Data → Read A) (name : List ℕ) → ((value : Data) → IfOk (read value) P) → (value : Data) → IfOk (list_of read name value) (AllByRecursion P)
list_of-gives P read name each value = gives-next-any (AllByRecursion P) (of_kind name (as_array value)) (objects read name) (λ items. objects-give P read name items each)

-- of the members of an object, what stands under each name
entries-give : {K A : Type 0} (P : A → Type 0) (read_key : List ℕ → Read K) (read : Data → Read A) (members : Members) → ((value : Data) → IfOk (read value) P) → IfOk (entries read_key read members) (AllByRecursion (λ found. P found.1))
entries-give P read_key read no_members each = tt
entries-give {K} {A} P read_key read (member name value members) each =
    let Q : K × A → Type 0 = λ found. P found.1 in
    gives-next Q (AllByRecursion Q) (entry read_key read name value) _
    (gives-next-any Q (read_key name) _ (λ key. gives-next P Q (cond (is_some (as_object value)) (read value) (Err (WrongKind name))) (λ found. Ok (key, found)) (object-gives P read name value each) (λ found is. is)))
    (λ first is. gives-next (AllByRecursion Q) (AllByRecursion Q) (entries read_key read members) (λ others. Ok (first ∷ others)) (entries-give P read_key read members each) (λ others are. (is, are)))

pub entries_of-gives : {K A : Type 0} (P : A → Type 0) (read_key : List ℕ → Read K) (read : Data → Read A) (name : List ℕ) → ((value : Data) → IfOk (read value) P) → (value : Data) → IfOk (entries_of read_key read name value) (AllByRecursion (λ found. P found.1))
entries_of-gives P read_key read name each value = gives-next-any (AllByRecursion (λ found. P found.1)) (of_kind name (as_object value)) (entries read_key read) (λ members. entries-give P read_key read members each)
