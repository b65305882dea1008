-- For private clauses: how values are cut from the front of bytes, none where the bytes begin with no such value.
use Rattle.std.specs.Prelude.{ℕ, zero, suc, ◌==◌, List, [], ◌∷◌, length, take, drop, nat_lt, Option, Some, None, option_map, option_and_then, if◌then◌else◌}
use Rattle.std.specs.Str.{is_utf8}
use Rattle.byteorder.specs.Endian.{big_number}
use Rattle.osb_tree.specs.Paths.{Names, names_of, path_text}
use Rattle.osb_tree.specs.declared.nodes.Node.{Node}
use Rattle.osb_tree.specs.declared.nodes.Node.TheVariants.{Dir, File, Link}
use Rattle.osb_tree.specs.declared.numbers.Key.{Key}
use Rattle.osb_recipe.specs.declared.references.TreeRef.{TreeRef}
use Rattle.osb_recipe.specs.declared.references.TreeRef.TheVariants.{Empty, Of}
use Rattle.osb_recipe.specs.declared.references.InputRecipe.{InputRecipe}
use Rattle.osb_recipe.specs.declared.references.InputRecipe.TheVariants.{Tree, Files}
use Rattle.osb_store.specs.Places.{same_text}

abbrev pub At : Type 0 → Type 0
At X = List ℕ → Option (X × List ℕ)

-- ---- pieces

abbrev pub byte_at : At ℕ
byte_at [] = None
byte_at (byte ∷ rest) = Some (byte, rest)

-- so many bytes
abbrev pub bytes_at : ℕ → At (List ℕ)
bytes_at count bytes = if nat_lt (length bytes) count then None else Some (take count bytes, drop count bytes)

unfoldable pub number_at : At ℕ
number_at bytes = if nat_lt (length bytes) 8 then None else Some (big_number 8 bytes, drop 8 bytes)

unfoldable pub small_number_at : At ℕ
small_number_at bytes = if nat_lt (length bytes) 4 then None else Some (big_number 4 bytes, drop 4 bytes)

-- ---- one after another

-- what is read of the rest
abbrev pub then_at : {X Y : Type 0} → At X → (X → At Y) → At Y
then_at first next bytes = option_and_then (λ x. next x.0 x.1) (first bytes)

abbrev pub both_at : {X Y : Type 0} → At X → At Y → At (X × Y)
both_at first second bytes = option_and_then (λ x. option_map (λ y. ((x.0, y.0), y.1)) (second x.1)) (first bytes)

abbrev pub made_at : {X Y : Type 0} → (X → Y) → At X → At Y
made_at make read bytes = option_map (λ x. (make x.0, x.1)) (read bytes)

-- where it makes something
abbrev pub parsed_at : {X Y : Type 0} → (X → Option Y) → At X → At Y
parsed_at make read bytes = option_and_then (λ x. option_map (λ y. (y, x.1)) (make x.0)) (read bytes)

abbrev pub times_at : {X : Type 0} → At X → ℕ → At (List X)
times_at read zero bytes = Some ([], bytes)
times_at read (suc count) bytes = option_and_then (λ x. option_map (λ xs. (x.0 ∷ xs.0, xs.1)) (times_at read count x.1)) (read bytes)

-- a number, and so many values
abbrev pub list_at : {X : Type 0} → At X → At (List X)
list_at read = then_at number_at (times_at read)

unfoldable pub field_at : At (List ℕ)
field_at = then_at number_at bytes_at

-- ---- recipes

abbrev pub key_of : ℕ → Key
key_of number = record { 0 = number }

-- behind the byte that tells the kind
abbrev pub ref_behind : ℕ → At TreeRef
ref_behind tag bytes =
    if tag == 1 then Some (Empty, bytes)
    else if tag == 2 then made_at (λ number. Of (key_of number)) number_at bytes
    else None

abbrev pub ref_at : At TreeRef
ref_at = then_at byte_at ref_behind

abbrev pub build_behind : ℕ → At (Option TreeRef)
build_behind tag bytes = if tag == 0 then Some (None, bytes) else made_at Some (ref_behind tag) bytes

abbrev pub build_at : At (Option TreeRef)
build_at = then_at byte_at build_behind

abbrev pub content_behind : ℕ → At InputRecipe
content_behind tag bytes =
    if tag == 3 then made_at Tree ref_at bytes
    else if tag == 4 then made_at Files (list_at number_at) bytes
    else None

abbrev pub content_at : At InputRecipe
content_at = then_at byte_at content_behind

-- a field that is UTF-8
abbrev pub utf8_of : List ℕ → Option (List ℕ)
utf8_of bytes = if is_utf8 bytes then Some bytes else None

abbrev pub text_at : At (List ℕ)
text_at = parsed_at utf8_of field_at

abbrev pub input_at : At (List ℕ × InputRecipe)
input_at = both_at text_at content_at

-- ---- entries

-- a path by its own text
abbrev pub path_of_text : List ℕ → Option Names
path_of_text text = if is_utf8 text then (if same_text (path_text (names_of text)) text then Some (names_of text) else None) else None

abbrev pub path_at : At Names
path_at = parsed_at path_of_text field_at

-- a node's mode, owners, path and content behind the byte that tells its kind
abbrev pub Parts : Type 0
Parts = ℕ × (ℕ × (ℕ × (Names × List ℕ)))

abbrev pub parts_at : At Parts
parts_at = both_at small_number_at (both_at small_number_at (both_at small_number_at (both_at path_at field_at)))

abbrev pub node_of : ℕ → Parts → Option (Names × Node)
node_of tag (mode, (uid, (gid, (path, content)))) =
    if tag == 1 then (if length content == 0 then Some (path, Dir mode uid gid) else None)
    else if tag == 2 then Some (path, File mode uid gid content)
    else if tag == 3 then (if mode == 511 then option_map (λ target. (path, Link uid gid target)) (utf8_of content) else None)
    else None

abbrev pub node_at : At (Names × Node)
node_at = then_at byte_at (λ tag. parsed_at (node_of tag) parts_at)

abbrev pub nodes_at : At (List (Names × Node))
nodes_at = list_at node_at
