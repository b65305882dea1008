-- Laws of names and paths.
use Rattle.std.proofs.Common.{◌≡◌, ℕ, ◌<◌, ◌+◌, ◌≤◌, ◌==◌, ◌++◌, zero, suc, List, [], ◌∷◌, length, get_or, take, Bool, true, false, not, ◌||◌, cond, Some, Ok, le-ltb, refl, sym, ◌∙◌, ap, arith}
use Rattle.std.specs.List.{filter, flat_map, list_all, list_any, slice_split, onto_first}
use Rattle.std.specs.BTreeMap.{is_at}
use Rattle.std.specs.Ordering.{nat_cmp, is_eq}
use Rattle.std.specs.Cmp.Lexicographic.{slice_cmp, lists_ties, lists_total, nat_list_cmp_total, texts_ties}
use Rattle.std.proofs.lemmas.Bool.{or_parts, and_parts, and_from, not_from_false}
use Rattle.std.proofs.lemmas.Bool.Decides.{nat_tests}
use Rattle.std.proofs.lemmas.Cmp.{tied_itself}
use Rattle.std.proofs.lemmas.List.{append-nil, take_at, length_push}
use Rattle.std.proofs.lemmas.List.Elements.{filter_more}
use Rattle.std.proofs.lemmas.Slice.Eq.{slice_eq-Decides, bytes_eq-Decides}
use Rattle.osb_tree.specs.Paths.{Names, joined, is_dots, is_name, has_byte, names_of, path_text, parent_of, path_cmp}

-- Two paths of one place in the order are the same.
pub same_path : (p q : Names) → is_at (path_cmp p) q ≡ true → p ≡ q
same_path p q tied =
    (slice_eq-Decides bytes_eq-Decides p q _ (sym (lists_ties (slice_cmp nat_cmp) texts_ties p q))).0 tied

pub is_at-path_cmp : (p : Names) → is_at (path_cmp p) p ≡ true
is_at-path_cmp p = ap is_eq (tied_itself (lists_total nat_list_cmp_total) p)

pub parent_of-append : (names : Names) (name : List ℕ) → parent_of (names ++ name ∷ []) ≡ Some names
parent_of-append [] name = refl
parent_of-append (first ∷ names) name =
    ap Some (take_at (first ∷ names) (name ∷ []) _ (omega (arith, length_push names name)))

pub joined-short : (names rest all : Names) → all ≡ names ++ rest → length (path_text all) ≤ 4096 → Ok all ≡ joined names rest
joined-short names rest all e short =
    let fits = le-ltb 4096 (length (path_text (names ++ rest))) (rw e at short) in
    rw (e, fits) refl

-- The text of a path has each of its names after a `/`; only that of the root has more.
pub length-flat_map-le : (names : Names) → length (flat_map (λ n. 47 ∷ n) names) ≤ length (path_text names)
length-flat_map-le [] = omega arith
length-flat_map-le (name ∷ names) = omega arith

-- The pieces of a text that was cut at its slashes: which of them are names.
abbrev pub nonempty : Names → Names
nonempty pieces = filter (λ piece. not (length piece == 0)) pieces

is_nonempty : (x : ℕ) (piece : List ℕ) → not (length (x ∷ piece) == 0) ≡ true
is_nonempty x piece = grind (arith, nat_tests)

-- An empty piece is neither `.` nor `..`.
pub list_any-is_dots : (pieces : Names) → list_any is_dots (nonempty pieces) ≡ list_any is_dots pieces
list_any-is_dots [] = refl
list_any-is_dots ([] ∷ pieces) = list_any-is_dots pieces
list_any-is_dots ((x ∷ piece) ∷ pieces) =
    rw (is_nonempty x piece) (ap (λ rest. is_dots (x ∷ piece) || rest) (list_any-is_dots pieces))

-- no piece has a byte that passes the test
abbrev all_lack : (ℕ → Bool) → Names → Bool
all_lack test pieces = list_all (λ piece. not (list_any test piece)) pieces

all_lack-cond : (test : ℕ → Bool) (cut : Bool) (x : ℕ) (pieces : Names) → all_lack test pieces ≡ true → (cut ≡ false → test x ≡ false) → all_lack test (cond cut ([] ∷ pieces) (onto_first x pieces)) ≡ true
all_lack-cond test true x pieces h fails = h
all_lack-cond test false x [] h fails = rw (fails refl) refl
all_lack-cond test false x (piece ∷ pieces) h fails = rw (fails refl) h

-- No piece has a byte at which the text was cut.
all_lack-cut : (cut : ℕ → Bool) (text : List ℕ) → all_lack cut (slice_split cut text) ≡ true
all_lack-cut cut [] = refl
all_lack-cut cut (x ∷ text) =
    all_lack-cond cut (cut x) x (slice_split cut text) (all_lack-cut cut text) (λ e. e)

-- No piece has a byte that the text lacks.
all_lack-slice_split : (test cut : ℕ → Bool) (text : List ℕ) → list_any test text ≡ false → all_lack test (slice_split cut text) ≡ true
all_lack-slice_split test cut [] h = refl
all_lack-slice_split test cut (x ∷ text) h =
    let parts = or_parts (test x) (list_any test text) h in
    all_lack-cond test (cut x) x (slice_split cut text) (all_lack-slice_split test cut text parts.1) (λ e. parts.0)

list_all-nonempty : (pieces : Names) → all_lack (λ b. b == 47) pieces ≡ true → all_lack (λ b. b == 0) pieces ≡ true → list_any is_dots (nonempty pieces) ≡ false → list_all is_name (nonempty pieces) ≡ true
list_all-nonempty [] slashes nuls dots = refl
list_all-nonempty ([] ∷ pieces) slashes nuls dots = list_all-nonempty pieces slashes nuls dots
list_all-nonempty ((x ∷ piece) ∷ pieces) slashes nuls dots =
    let some = is_nonempty x piece in
    let no_slash = and_parts _ _ slashes in
    let no_nul = and_parts _ _ nuls in
    let no_dots = or_parts _ _ (rw some at dots) in
    let named = and_from _ _ (and_from _ _ (and_from _ _ some (not_from_false _ no_dots.0)) no_slash.0) no_nul.0 in
    rw some (and_from _ _ named (list_all-nonempty pieces no_slash.1 no_nul.1 no_dots.1))

-- What stands between the slashes of a text with no NUL is a name, unless it is empty, `.` or `..`.
pub list_all-names_of : (text : List ℕ) → list_any is_dots (names_of text) ≡ false → has_byte 0 text ≡ false → list_all is_name (names_of text) ≡ true
list_all-names_of text dots nul =
    let slash = λ (b : ℕ). b == 47 in
    list_all-nonempty (slice_split slash text) (all_lack-cut slash text) (all_lack-slice_split (λ b. b == 0) slash text nul) dots

-- The pieces before one more, and that one: what a turn of a loop over the pieces adds.
nonempty-take : (pieces : Names) (i n : ℕ) (x : List ℕ) → (i < length pieces) × (x ≡ get_or pieces i x) → n ≡ i + 1 → nonempty (take n pieces) ≡ nonempty (take i pieces) ++ cond (not (length x == 0)) (x ∷ []) []
nonempty-take pieces i n x turn more =
    let all = filter_more (λ (piece : List ℕ). not (length piece == 0)) pieces i x turn.0 in
    rw (more, all) (ap (λ (y : List ℕ). nonempty (take i pieces) ++ cond (not (length y == 0)) (y ∷ []) []) (sym turn.1))

pub nonempty_more : (pieces : Names) (i n : ℕ) (x : List ℕ) → (i < length pieces) × (x ≡ get_or pieces i x) → n ≡ i + 1 → (length x == 0) ≡ false → nonempty (take n pieces) ≡ nonempty (take i pieces) ++ x ∷ []
nonempty_more pieces i n x turn more some = rw some at (nonempty-take pieces i n x turn more)

pub nonempty_same : (pieces : Names) (i n : ℕ) (x : List ℕ) → (i < length pieces) × (x ≡ get_or pieces i x) → n ≡ i + 1 → (length x == 0) ≡ true → nonempty (take n pieces) ≡ nonempty (take i pieces)
nonempty_same pieces i n x turn more none = rw none at (nonempty-take pieces i n x turn more) ∙ append-nil _

list_all-rest : (test : List ℕ → Bool) (keep : Bool) (piece : List ℕ) (names : Names) → list_all test (cond keep (piece ∷ names) names) ≡ true → list_all test names ≡ true
list_all-rest test true piece names h = (and_parts _ _ h).1
list_all-rest test false piece names h = h

-- What is true of all pieces that are not empty is true of each.
pub nonempty_at : (test : List ℕ → Bool) (pieces : Names) (i : ℕ) (x : List ℕ) → list_all test (nonempty pieces) ≡ true → (i < length pieces) × (x ≡ get_or pieces i x) → (length x == 0) ≡ false → test x ≡ true
nonempty_at test [] i x h turn some = absurd (omega (arith, turn.0))
nonempty_at test (piece ∷ pieces) zero x h turn some =
    let first = rw (← turn.1, some) at h in
    (and_parts _ _ first).0
nonempty_at test (piece ∷ pieces) (suc i) x h turn some =
    nonempty_at test pieces i x (list_all-rest test _ piece _ h) (omega (arith, turn.0), turn.1) some
