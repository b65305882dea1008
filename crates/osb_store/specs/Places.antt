-- For private clauses: items that are read one after another, and the place of the first that is none.
use Rattle.std.specs.Prelude.{ℕ, ◌==◌, Bool, List}
use Rattle.std.specs.Cmp.Lexicographic.{pointwise}

abbrev pub same_text : List ℕ → List ℕ → Bool
same_text a b = pointwise ◌==◌ a b
