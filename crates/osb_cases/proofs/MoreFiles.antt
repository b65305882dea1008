-- A shelf's files with one more.
use Rattle.std.proofs.Common.{◌≡◌, ℕ, false, List, [], ◌∷◌, ◌++◌, is_some, sym, ◌∙◌, ap, subst, refl, rules}
use Rattle.std.specs.Bool.{◌==◌}
use Rattle.std.specs.Cmp.{IsEquivalence}
use Rattle.std.specs.Cmp.Rules.{comparing}
use Rattle.std.specs.Cmp.Lexicographic.{pointwise}
use Rattle.std.specs.List.{IsDistinct}
use Rattle.std.specs.Map.{keys_of, lookup}
use Rattle.std.proofs.lemmas.Map.Keys.{IsDistinct-push}
use Rattle.std.proofs.lemmas.Map.Made.{is_some-lookup}
use Rattle.osb_base.specs.Shelves.{Files, AreFiles}

same_names : IsEquivalence (pointwise ◌==◌)
same_names = Prim.search (comparing, rules)

keys_of-push : (files : Files) (name bytes : List ℕ) → keys_of (files ++ (name, bytes) ∷ []) ≡ keys_of files ++ name ∷ []
keys_of-push [] name bytes = refl
keys_of-push (file ∷ files) name bytes = ap (λ names. file.0 ∷ names) (keys_of-push files name bytes)

-- one more file keeps them files, where its name was sought and not found
pub AreFiles-push : (files : Files) (name bytes : List ℕ) → is_some (lookup (pointwise ◌==◌ name) files) ≡ false → AreFiles files → AreFiles (files ++ (name, bytes) ∷ [])
AreFiles-push files name bytes absent distinct =
    subst (IsDistinct (pointwise ◌==◌)) (sym (keys_of-push files name bytes))
    (IsDistinct-push same_names (keys_of files) name distinct (sym (is_some-lookup (pointwise ◌==◌ name) files) ∙ absent))

pub no_file : AreFiles []
unfolding IsDistinct
no_file = tt
