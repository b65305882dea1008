-- What is found of an entry by its key.
use Rattle.std.proofs.Common.{false, ◌≡◌, ℕ, ◌<◌, ◌≤◌, Bool, true, List, [], ◌∷◌, ◌++◌, length, map, get_or, find, set, count_by, position, IsSomeAnd, IsNone, IfSome, IsTrue, ◌↔◌, Option, Some, None, refl, sym, ap, subst, ◌∙◌, arith}
use Rattle.std.specs.List.{remove, list_any}
use Rattle.std.specs.Option.{option_map_or, option_to_list}
use Rattle.std.proofs.lemmas.Bool.{false≢true}
use Rattle.std.proofs.lemmas.List.{get_or-set_same}
use Rattle.std.proofs.lemmas.List.Quantifiers.{position-Some}
use Rattle.osb_tree.specs.declared.numbers.Key.{Key}
use Rattle.osb_cache.specs.Edits.{remove_first, IsFirst}
use Rattle.osb_cache.specs.Caches.{Line, has_key, is_committed, chunks_at, pins_in, pins_on, touched, touch}
use Rattle.osb_cache.proofs.Firsts.{found_at, removed_at, remove-set, any_found}
use Rattle.osb_cache.proofs.Sums.{sum_none, sum_single, found_or_none, found_by_sum}

-- an element that was read where the first one stands is the one that is found
pub found_read : {X : Type 0} → (p : X → Bool) (xs : List X) (i : ℕ) (x : X) → IsFirst p xs i → x ≡ get_or xs i x → find p xs ≡ Some x
found_read {X} p xs i x f e = found_at p xs i x f ∙ ap (λ (y : X). Some y) (sym e)

-- what holds of the element that is found
pub some_any : {X : Type 0} → (p : X → Bool) (P : X → Type 0) (xs : List X) → IsSomeAnd (find p xs) P → list_any p xs ≡ true
some_any {X} p P xs h =
    found_or_none (find p xs) (list_any p xs ≡ true)
    (λ e. absurd (subst (λ (o : Option X). IsSomeAnd o P) e h))
    (λ x e. any_found p xs x e)

pub some_found : {X : Type 0} → (p : X → Bool) (P : X → Type 0) (xs : List X) → IsSomeAnd (find p xs) P → (x : X) × (find p xs ≡ Some x) × P x
some_found {X} p P xs h =
    found_or_none (find p xs) ((x : X) × (find p xs ≡ Some x) × P x)
    (λ e. absurd (subst (λ (o : Option X). IsSomeAnd o P) e h))
    (λ x e. (x, e, subst (λ (o : Option X). IsSomeAnd o P) e h))

pub some_read : {X : Type 0} → (p : X → Bool) (P : X → Type 0) (xs : List X) (i : ℕ) (x : X) → IsSomeAnd (find p xs) P → IsFirst p xs i → x ≡ get_or xs i x → P x
some_read {X} p P xs i x h f read = subst (λ (o : Option X). IsSomeAnd o P) (found_read p xs i x f read) h

pub chunks_found : {C : Type 0} → (key : ℕ) (lines : List (Line C)) (line : Line C) → find (has_key key) lines ≡ Some line → chunks_at key lines ≡ line.chunks
chunks_found {C} key lines line e = ap (λ (o : Option (Line C)). option_map_or (λ line. line.chunks) o []) e

pub chunks_read : {C : Type 0} → (key : ℕ) (lines : List (Line C)) (i : ℕ) (line : Line C) → IsFirst (has_key key) lines i → line ≡ get_or lines i line → chunks_at key lines ≡ line.chunks
chunks_read key lines i line f read = chunks_found key lines line (found_read (has_key key) lines i line f read)

pub chunks_none : {C : Type 0} → (key : ℕ) (lines : List (Line C)) → find (has_key key) lines ≡ None → chunks_at key lines ≡ []
chunks_none {C} key lines e = ap (λ (o : Option (Line C)). option_map_or (λ line. line.chunks) o []) e

pub pins_found : {C : Type 0} → (worker key : ℕ) (lines : List (Line C)) (line : Line C) → count_by (has_key key) lines ≤ 1 → find (has_key key) lines ≡ Some line → pins_on worker key lines ≡ pins_in worker line
pins_found worker key lines line few e = sum_single (pins_in worker) (has_key key) lines line few e

pub pins_none : {C : Type 0} → (worker key : ℕ) (lines : List (Line C)) → find (has_key key) lines ≡ None → pins_on worker key lines ≡ 0
pins_none worker key lines e = sum_none (pins_in worker) (has_key key) lines e

pub found_pinned : {C : Type 0} → (worker key : ℕ) (lines : List (Line C)) → 0 < pins_on worker key lines → (line : Line C) × (find (has_key key) lines ≡ Some line)
found_pinned worker key lines h = found_by_sum (pins_in worker) (has_key key) lines h

pub committed_pinned : {C : Type 0} → (worker key : ℕ) (lines : List (Line C)) → 0 < pins_on worker key lines → is_committed key lines ≡ true
committed_pinned worker key lines h =
    let f = found_pinned worker key lines h in
    any_found (has_key key) lines f.0 f.1

pub committed_by_chunks : {C : Type 0} → (key i : ℕ) (lines : List (Line C)) → i < length (chunks_at key lines) → is_committed key lines ≡ true
committed_by_chunks key i lines h =
    found_or_none (find (has_key key) lines) (is_committed key lines ≡ true)
    (λ e. absurd (omega (arith, h, ap length (chunks_none key lines e))))
    (λ line e. any_found (has_key key) lines line e)

pub touch-found : {C : Type 0} → (clock worker key : ℕ) (lines : List (Line C)) (line : Line C) → find (has_key key) lines ≡ Some line → touch clock worker key lines ≡ remove_first (has_key key) lines ++ touched clock worker line ∷ []
touch-found {C} clock worker key lines line e =
    ap (λ (o : Option (Line C)). remove_first (has_key key) lines ++ map (touched clock worker) (option_to_list o)) e

-- a slot that is changed in its place, taken out and put behind the others
pub touched_at : {C : Type 0} → (clock worker key : ℕ) (lines : List (Line C)) (i : ℕ) (line y z : Line C) → IsFirst (has_key key) lines i → line ≡ get_or lines i line → y ≡ touched clock worker line → z ≡ get_or (set lines i y) i z → remove (set lines i y) i ++ z ∷ [] ≡ touch clock worker key lines
touched_at {C} clock worker key lines i line y z f read changed taken =
    let last : z ≡ touched clock worker line = taken ∙ get_or-set_same lines i y z f.within ∙ changed in
    let rest : remove (set lines i y) i ≡ remove_first (has_key key) lines = remove-set lines i y ∙ removed_at (has_key key) lines i f in
    ap (λ (xs : List (Line C)). xs ++ z ∷ []) rest ∙ ap (λ (x : Line C). remove_first (has_key key) lines ++ x ∷ []) last ∙ sym (touch-found clock worker key lines line (found_read (has_key key) lines i line f read))

pub none_says : {X : Type 0} → (o : Option X) (P : Type 0) → o ≡ None → IsNone o ↔ P → P
none_says {X} o P e h = h.0 (subst (λ (a : Option X). IsNone a) (sym e) refl)

pub some_not : {X : Type 0} → (o : Option X) (x : X) (P : Type 0) → o ≡ Some x → IsNone o ↔ P → P → ⊥
some_not {X} o x P e h p = cc (subst (λ (a : Option X). IsNone a) e (h.1 p))

pub some_says : {X : Type 0} → (o : Option X) (x : X) (P : X → Type 0) → o ≡ Some x → IfSome o P → P x
some_says {X} o x P e h = subst (λ (a : Option X). IfSome a P) e h

-- a key that a look found is committed
pub hit_committed : {C : Type 0} → (lines xs : List (Line C)) (keys : List Key) (place : ℕ) → xs ≡ lines → position (λ (key : Key). is_committed key.0 xs) keys ≡ Some place → is_committed (get_or keys place (record { 0 = 0 })).0 lines ≡ true
hit_committed {C} lines xs keys place e at =
    let here : position (λ (key : Key). is_committed key.0 lines) keys ≡ Some place = ap (λ (ys : List (Line C)). position (λ (key : Key). is_committed key.0 ys) keys) (sym e) ∙ at in
    (position-Some (λ (key : Key). is_committed key.0 lines) keys place (record { 0 = 0 }) here).1

-- a test of the element that is found
pub some_tested : {X : Type 0} → (o : Option X) (x : X) (P : X → Type 0) (b : Bool) → o ≡ Some x → IsTrue b ↔ P x → IsTrue b ↔ IsSomeAnd o P
some_tested {X} o x P b e h = subst (λ (a : Option X). IsTrue b ↔ IsSomeAnd a P) (sym e) h

pub none_tested : {X : Type 0} → (o : Option X) (P : X → Type 0) → o ≡ None → IsTrue false ↔ IsSomeAnd o P
none_tested {X} o P e =
    subst (λ (a : Option X). IsTrue false ↔ IsSomeAnd a P) (sym e) (λ k. absurd (false≢true k), λ k. absurd k)
