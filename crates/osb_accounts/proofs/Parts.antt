-- Parts of texts, one after another.
use Rattle.std.proofs.Common.{◌≡◌, ℕ, zero, suc, ◌+◌, ◌-◌, ◌<◌, ◌≤◌, ◌==◌, List, [], ◌∷◌, ◌++◌, length, map, take, get_or, Bor, true, false, Some, refl, sym, ◌∙◌, ap, arith, append_assoc, append-nil, true≢false}
use Rattle.std.specs.List.{slice_get}
use Rattle.std.proofs.lemmas.Bool.Decides.{nat_tests}
use Rattle.std.proofs.lemmas.List.{take_more}
use Rattle.std.proofs.lemmas.Option.{none-some, same_Some}
use Rattle.osb_tree.specs.Accounts.{lines_of}
use Rattle.osb_accounts.specs.Lines.{Fields, line_text, line_of, ended, lines_in}

empty_text : (text : List ℕ) → (length text == 0) ≡ true → text ≡ []
empty_text [] e = refl
empty_text (byte ∷ text) e = absurd (true≢false (sym e ∙ (grind (arith, nat_tests))))

one_less : {A : Type 0} (first second : A) (more : List A) → length (first ∷ second ∷ more) - 1 ≡ suc (length (second ∷ more) - 1)
one_less first second more = omega arith

-- an empty text at the end is no line
pub ended-without : (texts : List (List ℕ)) (last : List ℕ) → slice_get texts (length texts - 1) ≡ Some last → (length last == 0) ≡ true → take (length texts - 1) texts ≡ ended texts
ended-without [] last is e = absurd (none-some last is)
ended-without (text ∷ []) last is e = let none : text ≡ [] = same_Some text last is ∙ empty_text last e in rw none refl
ended-without (text ∷ next ∷ texts) last is e =
    let later = ended-without (next ∷ texts) last (rw (one_less text next texts) at is) e in
    rw (one_less text next texts, later) refl

-- another one is
pub ended-with : (texts : List (List ℕ)) (last : List ℕ) → slice_get texts (length texts - 1) ≡ Some last → (length last == 0) ≡ false → texts ≡ ended texts
ended-with [] last is e = refl
ended-with (text ∷ []) last is e = by text (ap (λ (t : List ℕ). length t == 0) (same_Some text last is) ∙ e)
  where
    by : (text : List ℕ) → (length text == 0) ≡ false → text ∷ [] ≡ ended (text ∷ [])
    by [] e = absurd (true≢false e)
    by (byte ∷ text) e = refl
ended-with (text ∷ next ∷ texts) last is e =
    ap (λ (ts : List (List ℕ)). text ∷ ts) (ended-with (next ∷ texts) last (rw (one_less text next texts) at is) e)

-- ---- fields

-- the text of some fields, and of one more
line_text-push : (first : List ℕ) (fields : Fields) (field : List ℕ) → line_text ((first ∷ fields) ++ field ∷ []) ≡ line_text (first ∷ fields) ++ 58 ∷ field
line_text-push first [] field = refl
line_text-push first (next ∷ fields) field =
    ap (λ (text : List ℕ). first ++ 58 ∷ text) (line_text-push next fields field) ∙ sym (append_assoc first (58 ∷ line_text (next ∷ fields)) (58 ∷ field))

pub line_text-first : (fields : Fields) (field : List ℕ) → 0 < length fields → field ≡ get_or fields 0 field → line_text (take 1 fields) ≡ field
line_text-first [] field within is = absurd (omega arith)
line_text-first (first ∷ fields) field within is = sym is

pub line_text-more : (fields : Fields) (place : ℕ) (field : List ℕ) → 0 < place → place < length fields → field ≡ get_or fields place field → line_text (take (place + 1) fields) ≡ line_text (take place fields) ++ 58 ∷ field
line_text-more [] place field some within is = absurd (omega arith)
line_text-more (first ∷ fields) zero field some within is = absurd (omega arith)
line_text-more (first ∷ fields) (suc place) field some within is =
    let more : take (suc place + 1) (first ∷ fields) ≡ (first ∷ take place fields) ++ field ∷ [] =
    take_more (first ∷ fields) (suc place) field within ∙ ap (λ (f : List ℕ). (first ∷ take place fields) ++ f ∷ []) (sym is) in
    rw more (line_text-push first (take place fields) field)

-- a field comes after those before it
pub write-first : (out before : List ℕ) (fields : Fields) (place : ℕ) (field : List ℕ) → place ≤ 0 → place < length fields → field ≡ get_or fields place field → before ≡ out ++ line_text (take place fields)
    → before ++ field ≡ out ++ line_text (take (place + 1) fields)
write-first out before fields zero field none within is held = rw (held, append-nil out, line_text-first fields field within is) refl
write-first out before fields (suc place) field none within is held = absurd (omega arith)

pub write-more : (out before : List ℕ) (fields : Fields) (place : ℕ) (field : List ℕ) → 0 < place → place < length fields → field ≡ get_or fields place field → before ≡ out ++ line_text (take place fields)
    → (before ++ 58 ∷ []) ++ field ≡ out ++ line_text (take (place + 1) fields)
write-more out before fields place field some within is held =
    rw (held, line_text-more fields place field some within is) (append_assoc (out ++ line_text (take place fields)) (58 ∷ []) field ∙ append_assoc out (line_text (take place fields)) (58 ∷ field))

-- ---- lines

map_taken : (parts : List (Bor (List ℕ))) (count : ℕ) → map (λ (text : Bor (List ℕ)). line_of text.now) (take count parts) ≡ map line_of (take count (map (λ (text : Bor (List ℕ)). text.now) parts))
map_taken parts zero = refl
map_taken [] (suc count) = refl
map_taken (part ∷ parts) (suc count) = ap (λ lines. line_of part.now ∷ lines) (map_taken parts count)

-- lines of those parts of a text that are lines
pub lines_in-taken : (bytes : List ℕ) (parts : List (Bor (List ℕ))) (count : ℕ) → map (λ text. text.now) parts ≡ lines_of bytes → take count (map (λ text. text.now) parts) ≡ ended (map (λ text. text.now) parts)
    → map (λ text. line_of text.now) (take count parts) ≡ lines_in bytes
lines_in-taken bytes parts count are taken =
    map_taken parts count ∙ (ap (map line_of) taken ∙ ap (λ (texts : List (List ℕ)). map line_of (ended texts)) are)
