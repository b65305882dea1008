-- A path by its own text.
use Rattle.std.proofs.Common.{◌≡◌, ℕ, ◌==◌, Bool, true, false, cond, not, List, [], ◌∷◌, ◌++◌, length, get_or, All, Option, Some, None, Ok, refl, sym, ap, ◌∙◌, le-ltb, true≢false, arith}
use Rattle.std.specs.List.{flat_map, list_all, list_any, slice_split}
use Rattle.std.specs.Str.{is_utf8}
use Rattle.std.specs.Prelude.{nat_lt, Err}
use Rattle.std.proofs.lemmas.Bool.Decides.{nat_tests}
use Rattle.std.proofs.lemmas.Bool.{and_parts, not-true, or_from, false_from_ne_true}
use Rattle.std.proofs.lemmas.List.{append-nil}
use Rattle.std.proofs.lemmas.List.Folds.{list_any-append, list_any_at}
use Rattle.std.proofs.lemmas.List.Splits.{slice_split_none, slice_split_at}
use Rattle.std.proofs.lemmas.Slice.Eq.{bytes_eq-Decides}
use Rattle.osb_tree.specs.Paths.{Names, IsPath, is_dots, is_name, has_byte, names_of, path_of, path_text}
use Rattle.osb_tree.specs.declared.faults.PathFault.TheVariants.{Empty, DotName, NulByte, TooLong}
use Rattle.osb_tree.proofs.PathLaws.{nonempty}
use Rattle.osb_store.specs.Places.{same_text}
use Rattle.osb_store.specs.Reading.{path_of_text}

-- ---- names

record IsNamed (name : List ℕ) : Type 0 where
  pub some : not (length name == 0) ≡ true
  pub dots : is_dots name ≡ false
  pub slash : has_byte 47 name ≡ false
  pub nul : has_byte 0 name ≡ false

named : (name : List ℕ) → is_name name ≡ true → IsNamed name
named name n =
    let nul = and_parts _ _ n in
    let slash = and_parts _ _ nul.0 in
    let dots = and_parts _ _ slash.0 in
    record { some = dots.0; dots = not-true _ dots.1; slash = not-true _ slash.1; nul = not-true _ nul.1 }

none_pass : {X : Type 0} (p : X → Bool) (xs : List X) → list_any p xs ≡ false → All (λ x. p x ≡ false) xs
none_pass p xs e k d l = false_from_ne_true (p (get_or xs k d)) (λ y. true≢false (sym (list_any_at p xs k d l y) ∙ e))

no_dots : (names : Names) → list_all is_name names ≡ true → list_any is_dots names ≡ false
no_dots [] h = refl
no_dots (name ∷ names) h =
    let parts = and_parts _ _ h in
    or_from (is_dots name) (list_any is_dots names) (named name parts.0).dots (no_dots names parts.1)

no_nul : (names : Names) → list_all is_name names ≡ true → has_byte 0 (flat_map (λ n. 47 ∷ n) names) ≡ false
no_nul [] h = refl
no_nul (name ∷ names) h =
    let parts = and_parts _ _ h in
    list_any-append (λ b. b == 0) (47 ∷ name) (flat_map (λ n. 47 ∷ n) names) ∙ or_from (has_byte 0 (47 ∷ name)) _ (named name parts.0).nul (no_nul names parts.1)

-- ---- the names of a path's text

split_names : (name : List ℕ) (names : Names) → list_all is_name (name ∷ names) ≡ true → slice_split (λ b. b == 47) (name ++ flat_map (λ n. 47 ∷ n) names) ≡ name ∷ names
split_names name [] h =
    ap (slice_split (λ b. b == 47)) (append-nil name)
    ∙ slice_split_none (λ b. b == 47) name (none_pass (λ b. b == 47) name (named name (and_parts (is_name name) true h).0).slash)
split_names name (next ∷ names) h =
    let parts = and_parts (is_name name) (list_all is_name (next ∷ names)) h in
    slice_split_at (λ b. b == 47) name 47 (next ++ flat_map (λ n. 47 ∷ n) names) (none_pass (λ b. b == 47) name (named name parts.0).slash) refl
    ∙ ap (λ (rest : Names). name ∷ rest) (split_names next names parts.1)

all_kept : (names : Names) → list_all is_name names ≡ true → nonempty names ≡ names
all_kept [] h = refl
all_kept (name ∷ names) h =
    let parts = and_parts _ _ h in
    rw (named name parts.0).some (ap (λ (rest : Names). name ∷ rest) (all_kept names parts.1))

names_of-path_text : (names : Names) → list_all is_name names ≡ true → names_of (path_text names) ≡ names
names_of-path_text [] h = refl
names_of-path_text (name ∷ names) h = ap nonempty (split_names name names h) ∙ all_kept (name ∷ names) h

-- ---- the path that a path's text gives

path_of-step : (none dots nul long : Bool) (names own : Names) → none ≡ false → dots ≡ false → nul ≡ false → long ≡ false → names ≡ own
    → cond none (Err Empty) (cond dots (Err DotName) (cond nul (Err NulByte) (cond long (Err TooLong) (Ok names)))) ≡ Ok own
path_of-step none dots nul long names own n d z l e = rw (n, d, z, l, e) refl

is_some : (x : ℕ) (text : List ℕ) → (length (x ∷ text) == 0) ≡ false
is_some x text = grind (arith, nat_tests)

pub path_of-path_text : (names : Names) → IsPath names → path_of (path_text names) ≡ Ok names
path_of-path_text [] p = refl
path_of-path_text (name ∷ names) p =
    let own = names_of-path_text (name ∷ names) p.named in
    path_of-step (length (path_text (name ∷ names)) == 0) (list_any is_dots (names_of (path_text (name ∷ names)))) (has_byte 0 (path_text (name ∷ names))) (nat_lt 4096 (length (path_text (names_of (path_text (name ∷ names)))))) (names_of (path_text (name ∷ names))) (name ∷ names)
    (is_some 47 (name ++ flat_map (λ n. 47 ∷ n) names))
    (ap (list_any is_dots) own ∙ no_dots (name ∷ names) p.named)
    (no_nul (name ∷ names) p.named)
    (ap (λ ns. nat_lt 4096 (length (path_text ns))) own ∙ le-ltb 4096 (length (path_text (name ∷ names))) p.short)
    own

same_itself : (text : List ℕ) → same_text text text ≡ true
same_itself text = (bytes_eq-Decides text text).1 refl

pub path_of_text-again : (names : Names) → IsPath names → is_utf8 (path_text names) ≡ true → path_of_text (path_text names) ≡ Some names
path_of_text-again names p u =
    let own = names_of-path_text names p.named in
    let same : same_text (path_text (names_of (path_text names))) (path_text names) ≡ true = ap (λ ns. same_text (path_text ns) (path_text names)) own ∙ same_itself (path_text names) in
    rw (u, same) (ap Some own)

-- what a text that gives a path is
path_of_text-step : (text : List ℕ) (u s : Bool) (names : Names) → is_utf8 text ≡ u → same_text (path_text (names_of text)) text ≡ s
    → cond u (cond s (Some (names_of text)) None) None ≡ Some names → (is_utf8 text ≡ true) × (path_text names ≡ text)
path_of_text-step text true true names u s e =
    let own : names_of text ≡ names = cc in
    (u, ap path_text (sym own) ∙ (bytes_eq-Decides (path_text (names_of text)) text).0 s)
path_of_text-step text true false names u s e = let z : ◌≡◌ {A = Option Names} None (Some names) = e in absurd cc
path_of_text-step text false s names u t e = let z : ◌≡◌ {A = Option Names} None (Some names) = e in absurd cc

pub path_of_text-takes : (text : List ℕ) (names : Names) → path_of_text text ≡ Some names → (is_utf8 text ≡ true) × (path_text names ≡ text)
path_of_text-takes text names e = path_of_text-step text _ _ names refl refl e
