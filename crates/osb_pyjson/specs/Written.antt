-- For private clauses: what a buffer holds once a text has been written after what it held, and what stands
-- before an item.
use Rattle.std.specs.Prelude.{ℕ, Bool, true, false, List, [], ◌++◌, codes, Option, option_map}

abbrev pub after : List ℕ → Option (List ℕ) → Option (List ℕ)
after old text = option_map (λ t. old ++ t) text

abbrev pub separator : Bool → List ℕ
separator true = []
separator false = codes ", "
