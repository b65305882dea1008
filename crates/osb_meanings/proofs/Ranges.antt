-- What a reader accepts is in range.
use Rattle.std.proofs.Common.{◌≡◌, ℕ, ◌==◌, ◌∷◌, List, [], length, codes, Bool, true, false, ◌&&◌, ◌||◌, Option, Some, None, Result, Ok, Err, refl, sym, ⊎_elim, true≢false, lit≤, arith}
use Rattle.std.proofs.lemmas.Bool.{and_parts, or_cases, or_from, eqb-true, leb-true, false_from_ne_true}
use Rattle.std.specs.Prelude.{IfOk, IfSome, nat_le, if◌then◌else◌}
use Rattle.std.specs.List.{AllByRecursion, list_all}
use Rattle.std.specs.Str.Parse.{digits_value}
use Rattle.serde_json.specs.Data.{Data}
use Rattle.serde_json.specs.Find.{as_str}
use Rattle.osb_tree.specs.Paths.{Names, IsPath, has_byte}
use Rattle.osb_tree.specs.Nodes.{IsOwner, IsMode, IsTarget}
use Rattle.osb_tree.specs.declared.faults.OptionFault.{OptionFault}
use Rattle.osb_stages.specs.Names.{is_account_name}
use Rattle.osb_stages.specs.Readers.{Reader, ◌>>=◌, required, optional, if_there, no_others, text, flag, path, path_key, account, allowed, is_target, number_to, list_of, entries_of}
use Rattle.osb_stages.specs.declared.owners.Account.{Account}
use Rattle.osb_stages.specs.declared.owners.Account.TheVariants.{Name, Number}
use Rattle.osb_files.specs.declared.mkdir.Item.{Item as MkdirItem}
use Rattle.osb_files.specs.declared.symlink.Item.{Item as SymlinkItem}
use Rattle.osb_files.specs.declared.copy.Item.{Item as CopyItem}
use Rattle.osb_files.specs.declared.chmod.Change.{Change as ModeChange}
use Rattle.osb_files.specs.declared.chown.Change.{Change as OwnerChange}
use Rattle.osb_files.specs.Noop.{noop_options}
use Rattle.osb_files.specs.Error.{error_options}
use Rattle.osb_files.specs.Mkdir.{mkdir_item, mkdir_options}
use Rattle.osb_files.specs.Copy.{source_text, destination_text, copy_entry, copy_options}
use Rattle.osb_files.specs.Symlink.{symlink_item, symlink_options}
use Rattle.osb_files.specs.Chmod.{is_octal_digit, is_mode_text, chmod_change, chmod_options}
use Rattle.osb_files.specs.Chown.{some_owner, chown_change, chown_options}
use Rattle.osb_files.proofs.Octal.{digits_value-small}
use Rattle.osb_accounts.specs.Groups.{groups_options}
use Rattle.osb_accounts.specs.UserOptions.{users_options}
use Rattle.osb_system.specs.Hostname.{hostname_options}
use Rattle.osb_system.specs.Locale.{locale_options}
use Rattle.osb_system.specs.Timezone.{timezone_options, zone_target}
use Rattle.osb_system.specs.Zones.{is_zone_byte, is_zone}
use Rattle.osb_system.specs.declared.timezone.Options.{Options as ZoneOptions}
use Rattle.osb_system.specs.Keymap.{keymap_options}
use Rattle.osb_system.specs.MachineId.{machine_id_options}
use Rattle.osb_recipe.specs.Kinds.{type_text, with_options, is_type, kind_of}
use Rattle.osb_recipe.specs.Recipes.{IsReadFrom}
use Rattle.osb_recipe.specs.declared.kinds.StageKind.{StageKind}
use Rattle.osb_recipe.specs.declared.kinds.StageKind.TheVariants.{Noop, Error, Mkdir, Copy, Symlink, Chmod, Chown, Groups, Users, Hostname, Locale, Timezone, Keymap, MachineId}
use Rattle.osb_recipe.specs.declared.kinds.KindFault.{KindFault}
use Rattle.osb_recipe.specs.declared.kinds.KindFault.TheVariants.{UnknownStage}
use Rattle.osb_meanings.proofs.Gives.{any, given, one_of, gives-next, gives-next-any}
use Rattle.osb_meanings.proofs.Readings.{required-gives, optional-gives, if_there-gives, allowed-gives, path-gives, number_to-gives, is_target-true, list_of-gives, entries_of-gives, source_text-gives, destination_text-gives}

-- ---- options in range

abbrev pub IsMadeDirectory : MkdirItem → Type 0
IsMadeDirectory item = IsPath item.path × IsMode item.mode

abbrev pub IsMadeLink : SymlinkItem → Type 0
IsMadeLink item = IsPath item.link × IsTarget item.target

abbrev pub IsCopy : CopyItem → Type 0
IsCopy item = IsPath item.source × IsPath item.to

abbrev pub IsNewMode : Names × ModeChange → Type 0
IsNewMode item = IsMode item.1.mode

abbrev pub IsAccount : Account → Type 0
IsAccount (Name name) = Unit {0}
IsAccount (Number number) = IsOwner number

abbrev pub IsNewOwner : Names × OwnerChange → Type 0
IsNewOwner item = IfSome item.1.user IsAccount × IfSome item.1.group IsAccount

-- of the other kinds all options are
abbrev pub AreInRange : StageKind → Type 0
AreInRange (Noop options) = Unit {0}
AreInRange (Error options) = Unit {0}
AreInRange (Mkdir options) = AllByRecursion IsMadeDirectory options.paths
AreInRange (Copy options) = AllByRecursion IsCopy options.paths
AreInRange (Symlink options) = AllByRecursion IsMadeLink options.paths
AreInRange (Chmod options) = AllByRecursion IsNewMode options.items
AreInRange (Chown options) = AllByRecursion IsNewOwner options.items
AreInRange (Groups options) = Unit {0}
AreInRange (Users options) = Unit {0}
AreInRange (Hostname options) = Unit {0}
AreInRange (Locale options) = Unit {0}
AreInRange (Timezone options) = IsTarget (zone_target options.zone)
AreInRange (Keymap options) = Unit {0}
AreInRange (MachineId options) = Unit {0}

-- ---- what is read

mkdir_item-read : (options : Data) → IfOk (mkdir_item options) IsMadeDirectory
mkdir_item-read options =
    gives-next IsPath IsMadeDirectory (required path (codes "path") options) _ (required-gives IsPath path (codes "path") options (path-gives (codes "path"))) (λ at is.
    gives-next IsMode IsMadeDirectory (optional (number_to 4095) 493 (codes "mode") options) _ (optional-gives IsMode (number_to 4095) 493 (codes "mode") options (lit≤ tt) (number_to-gives 4095 (codes "mode"))) (λ mode small.
    gives-next-any IsMadeDirectory (optional flag false (codes "parents") options) _ (λ parents.
    gives-next-any IsMadeDirectory (optional flag false (codes "exist_ok") options) _ (λ exist_ok.
    gives-next-any IsMadeDirectory (no_others (codes "path" ∷ codes "mode" ∷ codes "parents" ∷ codes "exist_ok" ∷ []) options) _ (λ _. (is, small))))))

-- the one member that options have
items-read : {A O : Type 0} (P : A → Type 0) (read : Reader (List A)) (name : List ℕ) (options : Data) (made : List A → O) (Q : O → Type 0) → ((value : Data) → IfOk (read name value) (AllByRecursion P)) → ((items : List A) → AllByRecursion P items → Q (made items))
    → IfOk (required read name options >>= λ items. no_others (name ∷ []) options >>= λ _. Ok (made items)) Q
items-read P read name options made Q each are =
    gives-next (AllByRecursion P) Q (required read name options) _ (required-gives (AllByRecursion P) read name options each) (λ items all.
    gives-next-any Q (no_others (name ∷ []) options) (λ _. Ok (made items)) (λ _. are items all))

mkdir-read : (options : Data) → IfOk (mkdir_options options) (λ o. AreInRange (Mkdir o))
mkdir-read options = items-read IsMadeDirectory (list_of mkdir_item) (codes "paths") options _ _ (list_of-gives IsMadeDirectory mkdir_item (codes "paths") mkdir_item-read) (λ items all. all)

copy_entry-read : (options : Data) → IfOk (copy_entry options) IsCopy
copy_entry-read options =
    gives-next (λ from. IsPath from.1) IsCopy (required source_text (codes "from") options) _ (required-gives (λ from. IsPath from.1) source_text (codes "from") options (source_text-gives (codes "from"))) (λ from is.
    gives-next (λ to. IsPath to.0) IsCopy (required destination_text (codes "to") options) _ (required-gives (λ to. IsPath to.0) destination_text (codes "to") options (destination_text-gives (codes "to"))) (λ to at.
    gives-next-any IsCopy (optional flag false (codes "remove_destination") options) _ (λ _.
    gives-next-any IsCopy (no_others (codes "from" ∷ codes "to" ∷ codes "remove_destination" ∷ []) options) _ (λ _. (is, at)))))

copy-read : (options : Data) → IfOk (copy_options options) (λ o. AreInRange (Copy o))
copy-read options = items-read IsCopy (list_of copy_entry) (codes "paths") options _ _ (list_of-gives IsCopy copy_entry (codes "paths") copy_entry-read) (λ items all. all)

symlink_item-read : (options : Data) → IfOk (symlink_item options) IsMadeLink
symlink_item-read options =
    gives-next-any IsMadeLink (required text (codes "target") options) _ (λ target.
    gives-next (λ _. is_target target ≡ true) IsMadeLink (allowed (is_target target) (codes "target")) _ (allowed-gives (is_target target) (codes "target")) (λ _ good.
    gives-next IsPath IsMadeLink (required path (codes "link") options) _ (required-gives IsPath path (codes "link") options (path-gives (codes "link"))) (λ link is.
    gives-next-any IsMadeLink (no_others (codes "target" ∷ codes "link" ∷ []) options) _ (λ _. (is, is_target-true target good)))))

symlink-read : (options : Data) → IfOk (symlink_options options) (λ o. AreInRange (Symlink o))
symlink-read options = items-read IsMadeLink (list_of symlink_item) (codes "paths") options _ _ (list_of-gives IsMadeLink symlink_item (codes "paths") symlink_item-read) (λ items all. all)

mode_text-small : (mode : List ℕ) → is_mode_text mode ≡ true → IsMode (digits_value 8 mode)
mode_text-small mode good =
    let parts = and_parts (length mode == 3 || length mode == 4) (list_all is_octal_digit mode) good in
    digits_value-small mode parts.1 (⊎_elim (λ three. omega (arith, eqb-true _ _ three)) (λ four. omega (arith, eqb-true _ _ four)) (or_cases (length mode == 3) (length mode == 4) parts.0))

chmod_change-read : (options : Data) → IfOk (chmod_change options) (λ change. IsMode change.mode)
chmod_change-read options =
    let Q : ModeChange → Type 0 = λ change. IsMode change.mode in
    gives-next-any Q (required text (codes "mode") options) _ (λ mode.
    gives-next (λ _. is_mode_text mode ≡ true) Q (allowed (is_mode_text mode) (codes "mode")) _ (allowed-gives (is_mode_text mode) (codes "mode")) (λ _ good.
    gives-next-any Q (optional flag false (codes "recursive") options) _ (λ recursive.
    gives-next-any Q (no_others (codes "mode" ∷ codes "recursive" ∷ []) options) _ (λ _. mode_text-small mode good))))

chmod-read : (options : Data) → IfOk (chmod_options options) (λ o. AreInRange (Chmod o))
chmod-read options = items-read IsNewMode (entries_of path_key chmod_change) (codes "items") options _ _ (entries_of-gives (λ (change : ModeChange). IsMode change.mode) path_key chmod_change (codes "items") chmod_change-read) (λ items all. all)

account-read : (name : List ℕ) (value : Data) → IfOk (account name value) IsAccount
account-read name value = by (as_str value) refl
  where
    by : (called : Option (List ℕ)) → as_str value ≡ called → IfOk (account name value) IsAccount
    by (Some called) e = rw e (gives-next-any IsAccount (allowed (is_account_name called) name) _ (λ _. tt))
    by None e = rw e (gives-next IsOwner IsAccount (number_to 4294967294 name value) _ (number_to-gives 4294967294 name value) (λ number small. small))

abbrev AreNewOwners : OwnerChange → Type 0
AreNewOwners change = IfSome change.user IsAccount × IfSome change.group IsAccount

chown_change-read : (options : Data) → IfOk (chown_change options) AreNewOwners
chown_change-read options =
    let There : Option Account → Type 0 = λ found. IfSome found IsAccount in
    gives-next There AreNewOwners (if_there account (codes "user") options) _ (if_there-gives IsAccount account (codes "user") options (account-read (codes "user"))) (λ user first.
    gives-next There AreNewOwners (if_there account (codes "group") options) _ (if_there-gives IsAccount account (codes "group") options (account-read (codes "group"))) (λ group second.
    gives-next-any AreNewOwners (some_owner user group) _ (λ _.
    gives-next-any AreNewOwners (optional flag false (codes "recursive") options) _ (λ recursive.
    gives-next-any AreNewOwners (no_others (codes "user" ∷ codes "group" ∷ codes "recursive" ∷ []) options) _ (λ _. (first, second))))))

chown-read : (options : Data) → IfOk (chown_options options) (λ o. AreInRange (Chown o))
chown-read options = items-read IsNewOwner (entries_of path_key chown_change) (codes "items") options _ _ (entries_of-gives AreNewOwners path_key chown_change (codes "items") chown_change-read) (λ items all. all)

has_no_nul : (zone : List ℕ) → list_all is_zone_byte zone ≡ true → has_byte 0 zone ≡ false
has_no_nul [] all = refl
has_no_nul (byte ∷ zone) all =
    let parts = and_parts (is_zone_byte byte) (list_all is_zone_byte zone) all in
    or_from (byte == 0) (has_byte 0 zone) (false_from_ne_true (byte == 0) (λ nul. let zero_byte : byte ≡ 0 = eqb-true byte 0 nul in true≢false (sym (rw zero_byte at parts.0)))) (has_no_nul zone parts.1)

-- the start of a zone's target has none either
zone_target-is : (zone : List ℕ) → is_zone zone ≡ true → IsTarget (zone_target zone)
zone_target-is zone good =
    let parts = and_parts (nat_le 1 (length zone) && nat_le (length zone) 128) (list_all is_zone_byte zone) good in
    let lengths = and_parts (nat_le 1 (length zone)) (nat_le (length zone) 128) parts.0 in
    let short = leb-true (length zone) 128 lengths.1 in
    let nul = has_no_nul zone parts.1 in
    record { some = omega arith; short = omega (arith, short); no_nul = rw nul refl }

timezone-read : (options : Data) → IfOk (timezone_options options) (λ o. AreInRange (Timezone o))
timezone-read options =
    let Q : ZoneOptions → Type 0 = λ o. IsTarget (zone_target o.zone) in
    gives-next-any Q (required text (codes "zone") options) _ (λ zone.
    gives-next (λ _. is_zone zone ≡ true) Q (allowed (is_zone zone) (codes "zone")) _ (allowed-gives (is_zone zone) (codes "zone")) (λ _ good.
    gives-next-any Q (no_others (codes "zone" ∷ []) options) _ (λ _. zone_target-is zone good)))

-- ---- kinds

made : {A : Type 0} (kind : A → StageKind) (read : Result A OptionFault) → IfOk read (λ options. AreInRange (kind options)) → IfOk (with_options kind read) AreInRange
made kind (Ok options) range = range
made kind (Err fault) range = tt

first_of : (b : Bool) (x y : Result StageKind KindFault) → IfOk x AreInRange → IfOk y AreInRange → IfOk (if◌then◌else◌ b x y) AreInRange
first_of b x y first second = one_of AreInRange b x y (λ _. first) (λ _. second)

kind_of-gives : (name : List ℕ) (options : Data) → IfOk (kind_of name options) AreInRange
kind_of-gives name options =
    first_of (is_type (codes "org.osbuild.noop") name) _ _ (made Noop (noop_options options) (any (noop_options options)))
    (first_of (is_type (codes "org.osbuild.error") name) _ _ (made Error (error_options options) (any (error_options options)))
    (first_of (is_type (codes "org.osbuild.mkdir") name) _ _ (made Mkdir (mkdir_options options) (mkdir-read options))
    (first_of (is_type (codes "org.osbuild.copy") name) _ _ (made Copy (copy_options options) (copy-read options))
    (first_of (is_type (codes "org.osbuild.symlink") name) _ _ (made Symlink (symlink_options options) (symlink-read options))
    (first_of (is_type (codes "org.osbuild.chmod") name) _ _ (made Chmod (chmod_options options) (chmod-read options))
    (first_of (is_type (codes "org.osbuild.chown") name) _ _ (made Chown (chown_options options) (chown-read options))
    (first_of (is_type (codes "org.osbuild.groups") name) _ _ (made Groups (groups_options options) (any (groups_options options)))
    (first_of (is_type (codes "org.osbuild.users") name) _ _ (made Users (users_options options) (any (users_options options)))
    (first_of (is_type (codes "org.osbuild.hostname") name) _ _ (made Hostname (hostname_options options) (any (hostname_options options)))
    (first_of (is_type (codes "org.osbuild.locale") name) _ _ (made Locale (locale_options options) (any (locale_options options)))
    (first_of (is_type (codes "org.osbuild.timezone") name) _ _ (made Timezone (timezone_options options) (timezone-read options))
    (first_of (is_type (codes "org.osbuild.keymap") name) _ _ (made Keymap (keymap_options options) (any (keymap_options options)))
    (first_of (is_type (codes "org.osbuild.machine-id") name) _ (Err UnknownStage) (made MachineId (machine_id_options options) (any (machine_id_options options))) tt)))))))))))))

-- a stage that was read is in range
pub in_range-read : (stage : StageKind) (spelled : List ℕ) → IsReadFrom stage spelled → AreInRange stage
in_range-read stage spelled read = given AreInRange (kind_of (type_text stage) read.options) stage (kind_of-gives (type_text stage) read.options) read.kind
