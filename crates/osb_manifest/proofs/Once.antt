-- Digests, each once, list after list.
use Rattle.std.proofs.Common.{◌≡◌, ℕ, ◌+◌, ◌<◌, ◌≤◌, ◌==◌, ◌||◌, Bool, true, false, cond, if◌then◌else◌, List, [], ◌∷◌, ◌++◌, length, drop, get_or, slice_get, None, refl, sym, ap, ap₂, ◌∙◌, zero, suc, add-one, drop-cons, arith}
use Rattle.std.specs.Map.{values_of}
use Rattle.std.specs.Cmp.Lexicographic.{pointwise, slice_cmp, texts_ties}
use Rattle.std.specs.Ordering.{nat_cmp, is_eq}
use Rattle.std.proofs.lemmas.Slice.Eq.{bytes_eq-Decides}
use Rattle.osb_manifest.specs.Wanted.{has_digest, each_once}

-- lists one after another
pub each_once-append : (digests some others : List (List ℕ)) → each_once digests (some ++ others) ≡ each_once (each_once digests some) others
each_once-append digests [] others = refl
each_once-append digests (digest ∷ some) others = each_once-append (if has_digest digests digest then digests else digests ++ digest ∷ []) some others

-- the items from a place on are the one there and the others
next_items : {A : Type 0} (xs : List A) (i : ℕ) (x d : A) → i < length xs → x ≡ get_or xs i d → drop i xs ≡ x ∷ drop (i + 1) xs
next_items xs i x d h e =
    drop-cons xs i d h ∙ ap (λ head. head ∷ drop (suc i) xs) (sym e) ∙ ap (λ j. x ∷ drop j xs) (sym (add-one i))

-- a turn of a loop over what uses digests
pub once_turn : {A : Type 0} (all : List A → List (List ℕ)) (xs : List A) (i : ℕ) (x d : A) (some : List (List ℕ)) (old new whole : List (List ℕ)) → ((others : List A) → all (x ∷ others) ≡ some ++ all others)
    → i < length xs → x ≡ get_or xs i d → new ≡ each_once old some → each_once old (all (drop i xs)) ≡ whole → each_once new (all (drop (i + 1) xs)) ≡ whole
once_turn all xs i x d some old new whole first within is made before =
    ap (λ digests. each_once digests (all (drop (i + 1) xs))) made
    ∙ sym (each_once-append old some (all (drop (i + 1) xs)))
    ∙ sym (ap (λ left. each_once old (all left)) (next_items xs i x d within is) ∙ ap (each_once old) (first (drop (i + 1) xs)))
    ∙ before

past_end : {A : Type 0} (xs : List A) (i : ℕ) → length xs ≤ i → slice_get xs i ≡ None
past_end [] i h = refl
past_end (x ∷ xs) zero h = absurd (omega arith)
past_end (x ∷ xs) (suc i) h = past_end xs i (omega arith)

length-values : {K V : Type 0} (entries : List (K × V)) → length (values_of entries) ≡ length entries
length-values [] = refl
length-values (entry ∷ entries) = ap suc (length-values entries)

pub no_value : {K V : Type 0} (entries : List (K × V)) (i : ℕ) → length entries ≤ i → slice_get (values_of entries) i ≡ None
no_value entries i h = past_end (values_of entries) i (omega (arith, length-values entries))

-- a set that holds the digests of a list, when one more is in both
has_last : (digests : List (List ℕ)) (d q : List ℕ) → has_digest (digests ++ d ∷ []) q ≡ (pointwise ◌==◌ q d || has_digest digests q)
has_last [] d q = refl
has_last (digest ∷ digests) d q = ap (λ b. pointwise ◌==◌ q digest || b) (has_last digests d q) ∙ swapped (pointwise ◌==◌ q digest) (pointwise ◌==◌ q d) (has_digest digests q)
  where
    swapped : (a b c : Bool) → (a || (b || c)) ≡ (b || (a || c))
    swapped true true c = refl
    swapped true false c = refl
    swapped false b c = refl

same_bool : (a b : Bool) → (a ≡ true → b ≡ true) → (b ≡ true → a ≡ true) → a ≡ b
same_bool true b f g = sym (f refl)
same_bool false true f g = g refl
same_bool false false f g = refl

pub same_digest : (d q : List ℕ) → is_eq (slice_cmp nat_cmp d q) ≡ pointwise ◌==◌ q d
same_digest d q =
    sym (texts_ties d q)
    ∙ same_bool (pointwise ◌==◌ d q) (pointwise ◌==◌ q d) (λ e. (bytes_eq-Decides q d).1 (sym ((bytes_eq-Decides d q).0 e))) (λ e. (bytes_eq-Decides d q).1 (sym ((bytes_eq-Decides q d).0 e)))

cond_or : (a b : Bool) → cond a true b ≡ (a || b)
cond_or true b = refl
cond_or false b = refl

pub holds_more : (digests more : List (List ℕ)) (d q : List ℕ) (was now : Bool) → was ≡ has_digest digests q → now ≡ cond (is_eq (slice_cmp nat_cmp d q)) true was → more ≡ digests ++ d ∷ [] → now ≡ has_digest more q
holds_more digests more d q was now held put is =
    put ∙ ap₂ (λ same had. cond same true had) (same_digest d q) held
    ∙ cond_or (pointwise ◌==◌ q d) (has_digest digests q)
    ∙ sym (ap (λ ds. has_digest ds q) is ∙ has_last digests d q)
