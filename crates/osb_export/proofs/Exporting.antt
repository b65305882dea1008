-- The operations of an export, as a walk does them.
use Rattle.std.proofs.Common.{◌≡◌, ℕ, ◌+◌, ◌<◌, List, [], ◌∷◌, ◌++◌, length, map, take, drop, Option, Some, None, option_map, Result, Ok, Err, OnErr, OnOk, IfSome, IsSome, sym, refl, ap, subst, ◌∙◌, append_assoc, length-append, take-append-drop, arith}
use Rattle.std.proofs.lemmas.List.{append-nil, map-append}
use Rattle.osb_tree.specs.Paths.{Names}
use Rattle.osb_tree.specs.Trees.{Listing, IsTree, node_at, next_after}
use Rattle.osb_tree.specs.declared.nodes.Node.{Node}
use Rattle.osb_base.specs.Exports.{after_op}
use Rattle.osb_base.specs.declared.exporters.Op.{Op}
use Rattle.osb_base.specs.declared.exporters.Op.TheVariants.{Finish}
use Rattle.osb_export.specs.Exports.{op_of, list_line, list_text, export_list, Appends, IsProperPrefix, StopsExport}
use Rattle.osb_export.proofs.Walks.{Visit}

pub appends_nothing : (done : Option (List Op)) → Appends done done []
appends_nothing None = refl
appends_nothing (Some done) = ap Some (sym (append-nil done))

pub appends_twice : (before between now : Option (List Op)) (first second : List Op) → Appends before between first → Appends between now second → Appends before now (first ++ second)
appends_twice None between now first second e f = f ∙ ap (option_map (λ old. old ++ second)) e
appends_twice (Some done) between now first second e f = f ∙ ap (option_map (λ old. old ++ second)) e ∙ ap Some (append_assoc done first second)

pub map-take-drop : (f : Names × Node → Op) (listing : Listing) (i : ℕ) → map f (take i listing) ++ map f (drop i listing) ≡ map f listing
map-take-drop f listing i = sym (map-append f (take i listing) (drop i listing)) ∙ ap (map f) (take-append-drop i listing)

-- the operations of the first paths are a proper front of the export, whose last one ends it
pub stops_before_finish : (folder : List ℕ) (listing : Listing) (i : ℕ) (before now : Option (List Op)) → Appends before now (map (op_of folder) (take i listing)) → StopsExport before now (export_list folder listing)
stops_before_finish folder listing i before now done = record {
  part = map (op_of folder) (take i listing);
  proper = record {
    rest = map (op_of folder) (drop i listing) ++ Finish folder (list_text listing) ∷ [];
    together = sym (append_assoc (map (op_of folder) (take i listing)) (map (op_of folder) (drop i listing)) (Finish folder (list_text listing) ∷ []))
        ∙ ap (λ ops. ops ++ Finish folder (list_text listing) ∷ []) (map-take-drop (op_of folder) listing i);
    some_left = rw (length-append (map (op_of folder) (drop i listing)) (Finish folder (list_text listing) ∷ [])) (omega arith);
  };
  done = done;
}

-- the lines so far, with that of a path that is visited
pub list_on : (listing : Listing) (i : ℕ) (path : Names) (old new : List ℕ) → Visit listing i path → old ++ list_text (drop i listing) ≡ list_text listing → IfSome (node_at listing path) (λ node. new ≡ old ++ list_line (path, node)) → new ++ list_text (drop (i + 1) listing) ≡ list_text listing
list_on listing i path old new visit before line =
    let added : new ≡ old ++ list_line (path, visit.node) = subst (λ found. IfSome found (λ node. new ≡ old ++ list_line (path, node))) visit.found line in
    ap (λ text. text ++ list_text (drop (i + 1) listing)) added
    ∙ append_assoc old (list_line (path, visit.node)) (list_text (drop (i + 1) listing))
    ∙ ap (λ entries. old ++ list_text entries) (sym visit.from)
    ∙ before

-- the operations so far, with that of a path that is visited
pub done_on : (folder : List ℕ) (listing : Listing) (i : ℕ) (path : Names) (before between now : Option (List Op)) → Visit listing i path → Appends before between (map (op_of folder) (take i listing)) → IfSome (node_at listing path) (λ node. Appends between now (op_of folder (path, node) ∷ [])) → Appends before now (map (op_of folder) (take (i + 1) listing))
done_on folder listing i path before between now visit done op =
    let added : Appends between now (op_of folder (path, visit.node) ∷ []) = subst (λ found. IfSome found (λ node. Appends between now (op_of folder (path, node) ∷ []))) visit.found op in
    let ops : map (op_of folder) (take (i + 1) listing) ≡ map (op_of folder) (take i listing) ++ op_of folder (path, visit.node) ∷ [] =
    ap (map (op_of folder)) visit.upto ∙ map-append (op_of folder) (take i listing) ((path, visit.node) ∷ []) in
    subst (Appends before now) (sym ops) (appends_twice before between now (map (op_of folder) (take i listing)) (op_of folder (path, visit.node) ∷ []) done added)

-- a fact holds of an error where it holds
pub on_err : {T E : Type 0} {P : Type 0} (r : Result T E) → P → OnErr r P
on_err (Ok x) p = tt
on_err (Err e) p = p

after_no_op : (op : Op) (old : Option (List Op)) → option_map (λ done. done) old ≡ old
after_no_op op None = refl
after_no_op op (Some done) = refl

-- after an operation that was refused, what was so before it is so still
pub on_refused_op : {E : Type 0} (r : Result (Unit {0}) E) (op : Op) (before old now : Option (List Op)) (whole : List Op) → now ≡ option_map (after_op r op) old → StopsExport before old whole → OnErr r (StopsExport before now whole)
on_refused_op (Ok _) op before old now whole e stops = tt
on_refused_op (Err _) op before old now whole e stops = subst (λ done. StopsExport before done whole) (sym (e ∙ after_no_op op old)) stops
