-- What is read under the name of a type has that type.
use Rattle.std.proofs.Common.{◌≡◌, ℕ, Bool, true, false, List, [], ◌∷◌, codes, Result, Ok, Err, refl, sym, ap, ◌∙◌, if◌then◌else◌}
use Rattle.serde_json.specs.Data.{Data}
use Rattle.osb_tree.specs.declared.faults.OptionFault.{OptionFault}
use Rattle.osb_files.specs.Noop.{noop_options}
use Rattle.osb_files.specs.Error.{error_options}
use Rattle.osb_files.specs.Mkdir.{mkdir_options}
use Rattle.osb_files.specs.Copy.{copy_options}
use Rattle.osb_files.specs.Symlink.{symlink_options}
use Rattle.osb_files.specs.Chmod.{chmod_options}
use Rattle.osb_files.specs.Chown.{chown_options}
use Rattle.osb_accounts.specs.Groups.{groups_options}
use Rattle.osb_accounts.specs.UserOptions.{users_options}
use Rattle.osb_system.specs.Hostname.{hostname_options}
use Rattle.osb_system.specs.Locale.{locale_options}
use Rattle.osb_system.specs.Timezone.{timezone_options}
use Rattle.osb_system.specs.Keymap.{keymap_options}
use Rattle.osb_system.specs.MachineId.{machine_id_options}
use Rattle.osb_recipe.specs.Kinds.{type_text, with_options, is_type, kind_of}
use Rattle.osb_recipe.specs.declared.kinds.StageKind.{StageKind}
use Rattle.osb_recipe.specs.declared.kinds.StageKind.TheVariants.{Noop, Error, Mkdir, Copy, Symlink, Chmod, Chown, Groups, Users, Hostname, Locale, Timezone, Keymap, MachineId}
use Rattle.osb_recipe.specs.declared.kinds.KindFault.{KindFault}
use Rattle.osb_recipe.specs.declared.kinds.KindFault.TheVariants.{UnknownStage}
use Rattle.osb_recipe.proofs.Exact.{exact_bytes}

-- the name of a type, and what is read under it, which has that type
abbrev Reading : Type 0
Reading = (type : List ℕ) × (read : Result StageKind KindFault) × ((kind : StageKind) → read ≡ Ok kind → type_text kind ≡ type)

made_type : {A : Type 0} (make : A → StageKind) (type : List ℕ) → ((a : A) → type_text (make a) ≡ type) → (read : Result A OptionFault) (kind : StageKind) → with_options make read ≡ Ok kind → type_text kind ≡ type
made_type make type typed (Ok options) kind e =
    let is : make options ≡ kind = cc in
    sym (ap type_text is) ∙ typed options
made_type make type typed (Err fault) kind e = absurd (cc)

abbrev reading : {A : Type 0} → (make : A → StageKind) (type : List ℕ) → ((a : A) → type_text (make a) ≡ type) → Result A OptionFault → Reading
reading make type typed read = (type, with_options make read, made_type make type typed read)

-- what the first reading of a name's type gives
abbrev first_of_name : List ℕ → List Reading → Result StageKind KindFault
first_of_name name [] = Err UnknownStage
first_of_name name (r ∷ readings) = if is_type r.0 name then r.1 else first_of_name name readings

by_name : (test : Bool) (r : Reading) (others : Result StageKind KindFault) (name : List ℕ) (kind : StageKind) → (test ≡ true → name ≡ r.0) → (others ≡ Ok kind → type_text kind ≡ name) → (if test then r.1 else others) ≡ Ok kind → type_text kind ≡ name
by_name true r others name kind exact next e = r.2 kind e ∙ sym (exact refl)
by_name false r others name kind exact next e = next e

first_has_type : (readings : List Reading) (name : List ℕ) (kind : StageKind) → first_of_name name readings ≡ Ok kind → type_text kind ≡ name
first_has_type [] name kind e = absurd (cc)
first_has_type (r ∷ readings) name kind e = by_name (is_type r.0 name) r (first_of_name name readings) name kind (exact_bytes name r.0) (first_has_type readings name kind) e

abbrev readings_of : Data → List Reading
readings_of options =
    reading Noop (codes "org.osbuild.noop") (λ o. refl) (noop_options options) ∷ reading Error (codes "org.osbuild.error") (λ o. refl) (error_options options)
    ∷ reading Mkdir (codes "org.osbuild.mkdir") (λ o. refl) (mkdir_options options) ∷ reading Copy (codes "org.osbuild.copy") (λ o. refl) (copy_options options)
    ∷ reading Symlink (codes "org.osbuild.symlink") (λ o. refl) (symlink_options options) ∷ reading Chmod (codes "org.osbuild.chmod") (λ o. refl) (chmod_options options)
    ∷ reading Chown (codes "org.osbuild.chown") (λ o. refl) (chown_options options) ∷ reading Groups (codes "org.osbuild.groups") (λ o. refl) (groups_options options)
    ∷ reading Users (codes "org.osbuild.users") (λ o. refl) (users_options options) ∷ reading Hostname (codes "org.osbuild.hostname") (λ o. refl) (hostname_options options)
    ∷ reading Locale (codes "org.osbuild.locale") (λ o. refl) (locale_options options) ∷ reading Timezone (codes "org.osbuild.timezone") (λ o. refl) (timezone_options options)
    ∷ reading Keymap (codes "org.osbuild.keymap") (λ o. refl) (keymap_options options) ∷ reading MachineId (codes "org.osbuild.machine-id") (λ o. refl) (machine_id_options options)
    ∷ []

pub kind_type : (name : List ℕ) (options : Data) (kind : StageKind) → kind_of name options ≡ Ok kind → type_text kind ≡ name
kind_type name options kind e = first_has_type (readings_of options) name kind e
