-- Paths, by what leads to them from the root: a name for each directory that is entered, and then their own. Nothing
-- leads to the root.
use Rattle.std.specs.Prelude.{ℕ, ◌≤◌, ◌==◌, Bool, true, false, not, ◌&&◌, ◌||◌, List, [], ◌∷◌, ◌++◌, length, take, codes, IsTrue, nat_lt, slice_index, Option, Some, None, Result, Ok, Err, if◌then◌else◌}
use Rattle.std.specs.List.{filter, flat_map, list_all, list_any, slice_split}
use Rattle.std.specs.declared.cmp.Ordering.{Ordering}
use Rattle.std.specs.Ordering.{nat_cmp}
use Rattle.std.specs.Cmp.Lexicographic.{pointwise, slice_cmp}
use Rattle.osb_tree.specs.declared.faults.PathFault.{PathFault}
use Rattle.osb_tree.specs.declared.faults.PathFault.TheVariants.{Empty, NotAbsolute, DotName, NulByte, TooLong}

-- a path, by the bytes of its names
abbrev pub Names : Type 0
Names = List (List ℕ)

abbrev pub root : Names
root = []

-- `.` and `..`, which stand for directories and name none
abbrev pub is_dots : List ℕ → Bool
is_dots name = pointwise ◌==◌ name (codes ".") || pointwise ◌==◌ name (codes "..")

abbrev pub has_byte : ℕ → List ℕ → Bool
has_byte byte text = list_any (λ b. b == byte) text

-- what an entry of a directory may be called: some bytes, without the two that no file name has (`/` and NUL), and none
-- of the two entries that are there by themselves
abbrev pub is_name : List ℕ → Bool
is_name name = not (length name == 0) && not (is_dots name) && not (has_byte 47 name) && not (has_byte 0 name)

-- how a path is written: with a slash before every name, and the root as a lone slash
abbrev pub path_text : Names → List ℕ
path_text [] = codes "/"
path_text (name ∷ names) = flat_map (λ n. 47 ∷ n) (name ∷ names)

-- what a path has to be: names, with a text of at most 4,096 bytes
pub record IsPath (names : Names) : Type 0 where
  pub named : IsTrue (list_all is_name names)
  pub short : length (path_text names) ≤ 4096

-- the names that a text has between its slashes: repeated slashes and slashes at the end add none
abbrev pub names_of : List ℕ → Names
names_of text = filter (λ piece. not (length piece == 0)) (slice_split (λ b. b == 47) text)

-- the path that a text gives, or the first cause why it gives none
abbrev pub path_of : List ℕ → Result Names PathFault
path_of text =
    if length text == 0 then Err Empty
    else if not (slice_index text 0 == 47) then Err NotAbsolute
    else if list_any is_dots (names_of text) then Err DotName
    else if has_byte 0 text then Err NulByte
    else if nat_lt 4096 (length (path_text (names_of text))) then Err TooLong
    else Ok (names_of text)

-- the path with some names after its own
abbrev pub joined : Names → Names → Result Names PathFault
joined names rest = if nat_lt 4096 (length (path_text (names ++ rest))) then Err TooLong else Ok (names ++ rest)

-- the path of the directory that holds a path; the root has none
abbrev pub parent_of : Names → Option Names
parent_of [] = None
parent_of (name ∷ names) = Some (take (length names) (name ∷ names))

-- whether a path lies beneath another: its names are those of the other and more
abbrev pub is_beneath : Names → Names → Bool
is_beneath [] [] = false
is_beneath [] (q ∷ qs) = true
is_beneath (p ∷ ps) [] = false
is_beneath (p ∷ ps) (q ∷ qs) = pointwise ◌==◌ p q && is_beneath ps qs

-- byte by byte, and name by name: right behind a directory comes what is beneath it
abbrev pub name_cmp : List ℕ → List ℕ → Ordering
name_cmp = slice_cmp nat_cmp

abbrev pub path_cmp : Names → Names → Ordering
path_cmp = slice_cmp (slice_cmp nat_cmp)
