-- What `org.osbuild.users` is asked for.
use Rattle.std.specs.Prelude.{ℕ, Bool, not, ◌&&◌, List, [], ◌∷◌, length, nat_le, codes, Ok}
use Rattle.std.specs.List.{list_all}
use Rattle.serde_json.specs.Data.{Data}
use Rattle.osb_tree.specs.Paths.{Names, has_byte, path_text}
use Rattle.osb_stages.specs.Readers.{Read, Reader, ◌>>=◌, required, optional, if_there, allowed, text, path, number_to, account_name, account_key, values_of, entries_of, no_others}
use Rattle.osb_accounts.specs.declared.users.User.{User}
use Rattle.osb_accounts.specs.declared.users.Options.{Options}

abbrev pub has_none : List ℕ → List ℕ → Bool
has_none bytes text = list_all (λ byte. not (has_byte byte text)) bytes

-- what ends a line or a text
abbrev pub line_enders : List ℕ
line_enders = 0 ∷ 10 ∷ []

-- and what ends a field
abbrev pub field_enders : List ℕ
field_enders = 0 ∷ 10 ∷ 58 ∷ []

-- a text of at most 4,096 bytes, with none of some
abbrev pub text_without : List ℕ → Reader (List ℕ)
text_without bytes name value =
    text name value >>= λ read.
    allowed (nat_le (length read) 4096 && has_none bytes read) name >>= λ _.
    Ok read

-- a path whose text can be a field
abbrev pub home : Reader Names
home name value =
    path name value >>= λ read.
    allowed (has_none field_enders (path_text read)) name >>= λ _.
    Ok read

abbrev pub user_members : List (List ℕ)
user_members =
    codes "uid" ∷ codes "gid" ∷ codes "groups" ∷ codes "description" ∷ codes "home" ∷ codes "shell" ∷ codes "password"
    ∷ codes "key" ∷ codes "keys" ∷ []

abbrev pub user_options : Data → Read User
user_options options =
    if_there (number_to 4294967294) (codes "uid") options >>= λ uid.
    if_there (number_to 4294967294) (codes "gid") options >>= λ gid.
    optional (values_of account_name) [] (codes "groups") options >>= λ groups.
    if_there (text_without field_enders) (codes "description") options >>= λ description.
    if_there home (codes "home") options >>= λ home.
    if_there (text_without field_enders) (codes "shell") options >>= λ shell.
    if_there (text_without field_enders) (codes "password") options >>= λ password.
    if_there (text_without line_enders) (codes "key") options >>= λ key.
    optional (values_of (text_without line_enders)) [] (codes "keys") options >>= λ keys.
    no_others user_members options >>= λ _.
    Ok (record {
      uid = uid;
      gid = gid;
      groups = groups;
      description = description;
      home = home;
      shell = shell;
      password = password;
      key = key;
      keys = keys;
    })

abbrev pub users_options : Data → Read Options
users_options options =
    required (entries_of account_key user_options) (codes "users") options >>= λ users.
    no_others (codes "users" ∷ []) options >>= λ _.
    Ok (record { users = users })
