-- Readers of a stage's options. Each gives what a value says, or the first fault with the name of the member at fault.
use Rattle.std.specs.Prelude.{ℕ, ◌==◌, Bool, not, ◌&&◌, List, [], ◌∷◌, length, nat_le, Option, Some, None, is_some, Result, Ok, Err, IsTrue, if◌then◌else◌}
use Rattle.std.specs.List.{list_any}
use Rattle.std.specs.Cmp.Lexicographic.{pointwise}
use Rattle.serde_json.specs.Data.{Num, unsigned, negative, float, Data, string, Items, no_items, item, Members, no_members, member}
use Rattle.serde_json.specs.Find.{get, as_bool, as_number, as_str, as_array, as_object}
use Rattle.osb_tree.specs.Paths.{Names, has_byte, path_of}
use Rattle.osb_tree.specs.declared.faults.PathFault.{PathFault}
use Rattle.osb_tree.specs.declared.faults.OptionFault.{OptionFault}
use Rattle.osb_tree.specs.declared.faults.OptionFault.TheVariants.{Missing, WrongKind, OutOfRange, BadPath, UnknownMember}
use Rattle.osb_stages.specs.Names.{is_account_name}
use Rattle.osb_stages.specs.declared.owners.Account.{Account}
use Rattle.osb_stages.specs.declared.owners.Account.TheVariants.{Name, Number}

-- what a reader gives
abbrev pub Read : Type 0 → Type 0
Read A = Result A OptionFault

-- a reader of the value that stands under a name
abbrev pub Reader : Type 0 → Type 0
Reader A = List ℕ → Data → Read A

-- the first fault, or what comes next with what was found
infixr 10 ◌>>=◌
abbrev pub ◌>>=◌ : {A B F : Type 0} → Result A F → (A → Result B F) → Result B F
(Ok value) >>= next = next value
(Err fault) >>= next = Err fault

abbrev pub IsObject : Data → Type 0
IsObject value = IsTrue (is_some (as_object value))

-- ---- members

-- a member that has to be there
abbrev pub required : {A : Type 0} → Reader A → List ℕ → Data → Read A
required {A} read name options = there (get name options)
  where
    there : Option Data → Read A
    there None = Err (Missing name)
    there (Some value) = read name value

-- a member with a value that stands where it is absent
abbrev pub optional : {A : Type 0} → Reader A → A → List ℕ → Data → Read A
optional {A} read absent name options = there (get name options)
  where
    there : Option Data → Read A
    there None = Ok absent
    there (Some value) = read name value

-- a member that may be absent
abbrev pub if_there : {A : Type 0} → Reader A → List ℕ → Data → Read (Option A)
if_there {A} read name options = there (get name options)
  where
    there : Option Data → Read (Option A)
    there None = Ok None
    there (Some value) = read name value >>= λ found. Ok (Some found)

abbrev pub is_among : List (List ℕ) → List ℕ → Bool
is_among names name = list_any (λ known. pointwise ◌==◌ known name) names

-- the first member, by name, that is none of these
abbrev pub first_other : List (List ℕ) → Members → Option (List ℕ)
first_other names no_members = None
first_other names (member name value members) = if is_among names name then first_other names members else Some name

-- an object has no members but these, which comes after all else
abbrev pub no_others : List (List ℕ) → Data → Read (Unit {0})
no_others names options = members_are (as_object options)
  where
    fault : Option (List ℕ) → Read (Unit {0})
    fault None = Ok tt
    fault (Some name) = Err (UnknownMember name)

    members_are : Option Members → Read (Unit {0})
    members_are None = Ok tt
    members_are (Some members) = fault (first_other names members)

-- ---- values

-- a value of a kind
abbrev pub of_kind : {A : Type 0} → List ℕ → Option A → Read A
of_kind name None = Err (WrongKind name)
of_kind name (Some value) = Ok value

abbrev pub flag : Reader Bool
flag name value = of_kind name (as_bool value)

abbrev pub text : Reader (List ℕ)
text name value = of_kind name (as_str value)

-- a value that is one of those that may be
abbrev pub allowed : Bool → List ℕ → Read (Unit {0})
allowed is_one name = if is_one then Ok tt else Err (OutOfRange name)

-- what a link may point to: 1 to 4,095 bytes without NUL
abbrev pub is_target : List ℕ → Bool
is_target text = nat_le 1 (length text) && nat_le (length text) 4095 && not (has_byte 0 text)

-- a whole number from 0 to a last one
abbrev pub number_to : ℕ → Reader ℕ
number_to last name value = of_kind name (as_number value) >>= within
  where
    within : Num → Read ℕ
    within (unsigned n) = if nat_le n last then Ok n else Err (OutOfRange name)
    within (negative z) = Err (OutOfRange name)
    within (float x) = Err (OutOfRange name)

-- the path that a text gives
abbrev pub path : Reader Names
path name value = text name value >>= λ read. as_path (path_of read)
  where
    as_path : Result Names PathFault → Read Names
    as_path (Ok names) = Ok names
    as_path (Err fault) = Err (BadPath name)

-- an account, by its name or its number
abbrev pub account : Reader Account
account name value = by (as_str value)
  where
    by : Option (List ℕ) → Read Account
    by (Some called) = allowed (is_account_name called) name >>= λ _. Ok (Name called)
    by None = number_to 4294967294 name value >>= λ number. Ok (Number number)

-- the name of an account
abbrev pub account_name : Reader (List ℕ)
account_name name value = text name value >>= λ called. allowed (is_account_name called) name >>= λ _. Ok called

-- the name of a member, as that of an account
abbrev pub account_key : List ℕ → Read (List ℕ)
account_key key = account_name key (string key)

-- the values of a list, each read in turn; where one is at fault, that is the list's member
abbrev pub values : {A : Type 0} → Reader A → List ℕ → Items → Read (List A)
values read name no_items = Ok []
values read name (item value items) =
    read name value >>= λ first.
    values read name items >>= λ others.
    Ok (first ∷ others)

abbrev pub values_of : {A : Type 0} → Reader A → Reader (List A)
values_of read name value = of_kind name (as_array value) >>= values read name

-- a list of objects, each read in turn; where one is no object, the list's member is at fault
abbrev pub objects : {A : Type 0} → (Data → Read A) → List ℕ → Items → Read (List A)
objects read name no_items = Ok []
objects read name (item value items) =
    (if is_some (as_object value) then read value else Err (WrongKind name)) >>= λ first.
    objects read name items >>= λ others.
    Ok (first ∷ others)

abbrev pub list_of : {A : Type 0} → (Data → Read A) → Reader (List A)
list_of read name value = of_kind name (as_array value) >>= objects read name

-- the path that the name of a member gives
abbrev pub path_key : List ℕ → Read Names
path_key key = path key (string key)

-- a member of an object: first its name is read, then the object that stands there
abbrev pub entry : {K A : Type 0} → (List ℕ → Read K) → (Data → Read A) → List ℕ → Data → Read (K × A)
entry read_key read name value =
    read_key name >>= λ key.
    (if is_some (as_object value) then read value else Err (WrongKind name)) >>= λ found.
    Ok (key, found)

-- all of them in their order, which is by name
abbrev pub entries : {K A : Type 0} → (List ℕ → Read K) → (Data → Read A) → Members → Read (List (K × A))
entries read_key read no_members = Ok []
entries read_key read (member name value members) =
    entry read_key read name value >>= λ first.
    entries read_key read members >>= λ others.
    Ok (first ∷ others)

abbrev pub entries_of : {K A : Type 0} → (List ℕ → Read K) → (Data → Read A) → Reader (List (K × A))
entries_of read_key read name value = of_kind name (as_object value) >>= entries read_key read
