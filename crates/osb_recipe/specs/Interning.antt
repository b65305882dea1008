-- Lists of which each item has a number: an equal one's, or the next.
use Rattle.std.specs.Prelude.{ℕ, Bool, List, [], ◌∷◌, ◌++◌, length, nat_lt, if◌then◌else◌}
use Rattle.std.specs.List.{position_or_len}

-- the number of the first item that is the same, or the next number
abbrev pub place_in : {X : Type 0} → (X → X → Bool) → List X → X → ℕ
place_in same items item = position_or_len (same item) items

-- the list with the item, where none is the same yet
abbrev pub interned : {X : Type 0} → (X → X → Bool) → List X → X → List X
interned same items item = if nat_lt (place_in same items item) (length items) then items else items ++ item ∷ []

-- the list with several items, one after another
abbrev pub interned_all : {X : Type 0} → (X → X → Bool) → List X → List X → List X
interned_all same items [] = items
interned_all same items (item ∷ more) = interned_all same (interned same items item) more

-- their numbers
abbrev pub places_in : {X : Type 0} → (X → X → Bool) → List X → List X → List ℕ
places_in same items [] = []
places_in same items (item ∷ more) = place_in same items item ∷ places_in same (interned same items item) more
