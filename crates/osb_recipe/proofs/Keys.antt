-- Recipes that are interned one after the other have equal keys exactly where they are equal.
use Rattle.std.proofs.Common.{◌≡◌, ℕ, ◌+◌, ◌<◌, ◌≤◌, zero, suc, Bool, true, false, cond, not, List, [], ◌∷◌, ◌++◌, length, nat_lt, Some, refl, sym, ap, subst, arith}
use Rattle.std.specs.Prelude.{slice_get}
use Rattle.std.proofs.lemmas.Bool.Decides.{nat_tests}
use Rattle.std.proofs.lemmas.Option.{slice_get_within}
use Rattle.osb_recipe.specs.Recipes.{Origin, same_recipe}
use Rattle.osb_recipe.specs.Interning.{place_in, interned}
use Rattle.osb_recipe.specs.Tables.{IsReadRecipe}
use Rattle.osb_recipe.specs.Laws.{EqualKeys}
use Rattle.osb_recipe.proofs.Exact.{exact_recipe, same_recipe-self}
use Rattle.osb_recipe.proofs.Interning.{Tells, interned-place}

-- ---- places in longer lists

more_step : (b : Bool) (n m long : ℕ) → (n < long → m ≡ n) → cond (not b) (1 + n) 0 < suc long → cond (not b) (1 + m) 0 ≡ cond (not b) (1 + n) 0
more_step true n m long rest within = refl
more_step false n m long rest within = ap (λ i. 1 + i) (rest (omega arith))

-- the place of an item that is held is the same in a longer list
pub place_in-more : {X : Type 0} (same : X → X → Bool) (items more : List X) (item : X) → place_in same items item < length items → place_in same (items ++ more) item ≡ place_in same items item
place_in-more same [] more item within = absurd (omega arith)
place_in-more same (x ∷ items) more item within =
    more_step (same item x) (place_in same items item) (place_in same (items ++ more) item) (length items) (place_in-more same items more item) within

last_step : (b : Bool) (n m long : ℕ) → (long ≤ n → m ≡ n) → suc long ≤ cond (not b) (1 + n) 0 → cond (not b) (1 + m) 0 ≡ cond (not b) (1 + n) 0
last_step true n m long rest past = absurd (omega arith)
last_step false n m long rest past = ap (λ i. 1 + i) (rest (omega arith))

-- one that is not held is the next
place_in-last : {X : Type 0} (same : X → X → Bool) (items more : List X) (item : X) → same item item ≡ true → length items ≤ place_in same items item → place_in same (items ++ item ∷ [] ++ more) item ≡ place_in same items item
place_in-last same [] more item self past = ap (λ b. cond (not b) (1 + place_in same more item) 0) self
place_in-last same (x ∷ items) more item self past =
    last_step (same item x) (place_in same items item) (place_in same (items ++ item ∷ [] ++ more) item) (length items) (place_in-last same items more item self) past

stays_step : {X : Type 0} (same : X → X → Bool) (b : Bool) (items more : List X) (item : X) → same item item ≡ true → b ≡ nat_lt (place_in same items item) (length items) → place_in same (cond b items (items ++ item ∷ []) ++ more) item ≡ place_in same items item
stays_step same true items more item self test = place_in-more same items more item (grind (arith, nat_tests))
stays_step same false items more item self test = place_in-last same items more item self (grind (arith, nat_tests))

-- the number of an item stays, whatever is added behind it
pub place_in-stays : {X : Type 0} (same : X → X → Bool) (items more : List X) (item : X) → same item item ≡ true → place_in same (interned same items item ++ more) item ≡ place_in same items item
place_in-stays same items more item self = stays_step same (nat_lt (place_in same items item) (length items)) items more item self refl

-- ---- what stands at a place

test_step : {X : Type 0} (same : X → X → Bool) (item x y : X) (items : List X) (b : Bool) (m n : ℕ) → same item x ≡ b → ((k : ℕ) → m ≡ k → k < length items → slice_get items k ≡ Some y → same item y ≡ true)
    → cond (not b) (1 + m) 0 ≡ n → n < length (x ∷ items) → slice_get (x ∷ items) n ≡ Some y → same item y ≡ true
test_step {X} same item x y items true m zero test rest place within at = let is : x ≡ y = cc in subst (λ (held : X). same item held ≡ true) is test
test_step same item x y items true m (suc n) test rest place within at = absurd (omega arith)
test_step same item x y items false m zero test rest place within at = absurd (omega arith)
test_step same item x y items false m (suc n) test rest place within at = rest n (omega arith) (omega arith) at

-- what stands at the place of an item is the same
pub place_in-test : {X : Type 0} (same : X → X → Bool) (items more : List X) (item y : X) (n : ℕ) → place_in same (items ++ more) item ≡ n → n < length items → slice_get items n ≡ Some y → same item y ≡ true
place_in-test same [] more item y n place within at = absurd (omega arith)
place_in-test same (x ∷ items) more item y n place within at =
    test_step same item x y items (same item x) (place_in same (items ++ more) item) n refl (place_in-test same items more item y) place within at

-- ---- recipes

pub recipes_tell : Tells same_recipe IsReadRecipe
recipes_tell a b s t e = exact_recipe a b s t e

pub equal_keys_law : EqualKeys
equal_keys_law table more first second is reads_first reads_second =
    let held = interned same_recipe table.recipes first in
    let place = place_in same_recipe table.recipes first in
    let at : slice_get held place ≡ Some first = interned-place same_recipe IsReadRecipe recipes_tell table.recipes first is.read reads_first in
    let within : place < length held = slice_get_within held place first at in (
      λ e. sym (exact_recipe second first reads_second reads_first (place_in-test same_recipe held more second first place (sym e) within at)),
      λ e. subst (λ (other : Origin). place ≡ place_in same_recipe (held ++ more) other) e (sym (place_in-stays same_recipe table.recipes more first (same_recipe-self first))),
    )
