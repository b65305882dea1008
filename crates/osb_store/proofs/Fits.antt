-- The items of a store's three lists are read and tested as they may stand.
use Rattle.std.proofs.Common.{◌≡◌, ◌≢◌, ℕ, ◌^◌, ◌<◌, ◌≤◌, ◌||◌, Bool, true, false, not, List, [], ◌∷◌, ◌++◌, length, nat_lt, Some, refl, sym, ◌∙◌, arith, length-append}
use Rattle.std.specs.List.{list_any}
use Rattle.std.proofs.lemmas.Bool.{false≢true, not-true, and_parts, and_from, not_from_false, false_from_ne_true}
use Rattle.std.proofs.lemmas.List.Elements.{All-nil, All-cons, All-weaker}
use Rattle.std.proofs.lemmas.List.Folds.{list_any_none}
use Rattle.std.specs.Cmp.Lexicographic.{bytes_decides}
use Rattle.osb_store.specs.Bytes.{IsBytes}
use Rattle.osb_store.specs.Fields.{number, field}
use Rattle.osb_store.specs.Places.{same_text}
use Rattle.osb_store.specs.Reading.{field_at}
use Rattle.osb_store.specs.Rules.{EachMay, MayBeBlob, MayBeRecipe, MayBeEntry, IsNew}
use Rattle.osb_store.specs.Texts.{recipe_text, entry_text}
use Rattle.osb_store.specs.Recipes.{recipe_at, is_recipe}
use Rattle.osb_store.specs.Entries.{entry_at, is_entry}
use Rattle.osb_store.specs.Lists.{is_blob}
use Rattle.osb_store.proofs.Spelling.{Takes, field_spells, length-number, not_short, long_enough}
use Rattle.osb_store.proofs.Items.{Fitting}
use Rattle.osb_store.proofs.RecipeTexts.{recipe_long}
use Rattle.osb_store.proofs.RecipeRules.{recipe_takes, recipe_again}
use Rattle.osb_store.proofs.EntryLaws.{entry_takes, entry_again, entry_long}

-- ---- blobs

or_parts : (a b : Bool) → (a || b) ≡ false → (a ≡ false) × (b ≡ false)
or_parts true b e = absurd (false≢true (sym e))
or_parts false b e = (refl, e)

is_new_from : (before : List (List ℕ)) (blob : List ℕ) → list_any (same_text blob) before ≡ false → IsNew before blob
is_new_from [] blob e = All-nil (λ held. held ≢ blob)
is_new_from (held ∷ before) blob e =
    let parts = or_parts (same_text blob held) (list_any (same_text blob) before) e in
    All-cons (λ other. other ≢ blob) held before (λ same. false≢true (sym parts.0 ∙ (bytes_decides blob held).1 (sym same))) (is_new_from before blob parts.1)

from_is_new : (before : List (List ℕ)) (blob : List ℕ) → IsNew before blob → list_any (same_text blob) before ≡ false
from_is_new before blob new =
    list_any_none (same_text blob) before (All-weaker (λ held. held ≢ blob) (λ held. same_text blob held ≡ false) (λ held other. false_from_ne_true (same_text blob held) (λ e. other (sym ((bytes_decides blob held).0 e)))) before new)

blob_takes : (bytes : List ℕ) (before : List (List ℕ)) (x rest : List ℕ) → IsBytes bytes → field_at bytes ≡ Some (x, rest) → is_blob before x ≡ true → Takes field (MayBeBlob before) bytes x rest
blob_takes bytes before x rest b e test =
    let head = field_spells.takes bytes x rest b e in
    let parts = and_parts (not (nat_lt 16777216 (length x))) (not (list_any (same_text x) before)) test in
    record {
      parts = head.parts;
      fits = record {
        small = not_short 16777216 (length x) (not-true _ parts.0);
        new = is_new_from before x (not-true _ parts.1);
      };
    }

blob_again : (before : List (List ℕ)) (x rest : List ℕ) → EachMay MayBeBlob [] before → length before < 2 ^ 64 → length (field x ++ rest) < 2 ^ 64 → MayBeBlob before x → (field_at (field x ++ rest) ≡ Some (x, rest)) × (is_blob before x ≡ true)
blob_again before x rest each few short may =
    (field_spells.again x rest short tt, and_from _ _ (not_from_false _ (long_enough 16777216 (length x) may.small)) (not_from_false _ (from_is_new before x may.new)))

blob_long : (x : List ℕ) → 8 ≤ length (field x)
blob_long x = omega (arith, length-append (number (length x)) x, length-number (length x))

pub blobs_fit : Fitting field MayBeBlob field_at is_blob
blobs_fit = record { takes = blob_takes; again = blob_again; long = blob_long }

-- ---- recipes

module _ (blobs : List (List ℕ)) (few : length blobs < 2 ^ 64) where
  pub recipes_fit : Fitting recipe_text (MayBeRecipe blobs) recipe_at (is_recipe blobs)
  recipes_fit = record {
    takes = λ bytes before x rest b e test.
        let is = recipe_takes blobs bytes before x rest b e test in
        record { parts = is.0; fits = is.1 };
    again = recipe_again blobs few;
    long = recipe_long;
  }

-- ---- entries

pub entries_fit : (keys : ℕ) → keys < 2 ^ 64 → Fitting entry_text (MayBeEntry keys) entry_at (is_entry keys)
entries_fit keys few = record {
  takes = entry_takes keys;
  again = λ before x rest each small short may. entry_again keys (omega arith) before x rest short may;
  long = entry_long;
}
