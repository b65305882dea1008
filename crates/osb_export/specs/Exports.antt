-- The export of a tree into a folder: one operation for each path in path order, and at the end the list.
use Rattle.std.specs.Prelude.{ℕ, ◌+◌, ◌/◌, ◌%◌, ◌<◌, ◌≡◌, List, [], ◌∷◌, ◌++◌, length, map, codes, Option, option_map}
use Rattle.std.specs.List.{flat_map}
use Rattle.std.specs.Fmt.{decimal}
use Rattle.osb_pyjson.specs.PyText.{py_quoted}
use Rattle.osb_tree.specs.Paths.{Names, path_text}
use Rattle.osb_tree.specs.Trees.{Listing}
use Rattle.osb_tree.specs.declared.nodes.Node.{Node}
use Rattle.osb_tree.specs.declared.nodes.Node.TheVariants as nodes
use Rattle.osb_base.specs.declared.exporters.Op.{Op}
use Rattle.osb_base.specs.declared.exporters.Op.TheVariants as ops

-- where a path of the tree is exported: under `tree` in the folder
abbrev pub place_of : List ℕ → Names → List ℕ
place_of folder path = folder ++ (codes "/tree" ++ flat_map (λ name. 47 ∷ name) path)

abbrev pub op_of : List ℕ → Names × Node → Op
op_of folder (path, nodes.Dir mode uid gid) = ops.Dir (place_of folder path) mode uid gid
op_of folder (path, nodes.File mode uid gid bytes) = ops.File (place_of folder path) mode uid gid bytes
op_of folder (path, nodes.Link uid gid target) = ops.Link (place_of folder path) uid gid target

-- a mode, in four octal digits
abbrev pub octal : ℕ → List ℕ
octal mode = decimal (mode / 512 % 8) ++ (decimal (mode / 64 % 8) ++ (decimal (mode / 8 % 8) ++ decimal (mode % 8)))

-- the line of a path: what stands there, its mode, its owners, the path, and a file's length or a link's target
abbrev pub list_line : Names × Node → List ℕ
list_line (path, nodes.Dir mode uid gid) =
    codes "d " ++ (octal mode ++ (codes " " ++ (decimal uid ++ (codes " " ++ (decimal gid ++ (codes " " ++ (py_quoted (path_text path) ++ codes "\n")))))))
list_line (path, nodes.File mode uid gid bytes) =
    codes "f " ++ (octal mode ++ (codes " " ++ (decimal uid ++ (codes " " ++ (decimal gid ++ (codes " " ++ (py_quoted (path_text path) ++ (codes " " ++ (decimal (length bytes) ++ codes "\n")))))))))
list_line (path, nodes.Link uid gid target) =
    codes "l 0777 " ++ (decimal uid ++ (codes " " ++ (decimal gid ++ (codes " " ++ (py_quoted (path_text path) ++ (codes " " ++ (py_quoted target ++ codes "\n")))))))

abbrev pub list_text : Listing → List ℕ
list_text listing = flat_map list_line listing

abbrev pub export_list : List ℕ → Listing → List Op
export_list folder listing = map (op_of folder) listing ++ ops.Finish folder (list_text listing) ∷ []

-- where the exporter tells, these operations were done, and no others
abbrev pub Appends : Option (List Op) → Option (List Op) → List Op → Type 0
Appends before now done = now ≡ option_map (λ old. old ++ done) before

-- some first operations of an export, and not all of them
pub record IsProperPrefix (part whole : List Op) : Type 0 where
  pub rest : List Op
  pub together : part ++ rest ≡ whole
  pub some_left : 0 < length rest

-- an export ended before its last operation
pub record StopsExport (before now : Option (List Op)) (whole : List Op) : Type 0 where
  pub part : List Op
  pub proper : IsProperPrefix part whole
  pub done : Appends before now part
