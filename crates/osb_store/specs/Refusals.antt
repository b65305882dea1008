-- Why bytes are no store: the first of five causes, and the place of the first item that does not fit.
use Rattle.std.specs.Prelude.{◌≡◌, ℕ, suc, ◌+◌, ◌*◌, ◌<◌, ◌≤◌, ◌⊎◌, List, [], ◌++◌, length, take, drop}
use Rattle.std.specs.List.{flat_map}
use Rattle.sha2.specs.Sha256.{sha256}
use Rattle.byteorder.specs.Endian.{big_number}
use Rattle.osb_tree.specs.Trees.{Listing}
use Rattle.osb_recipe.specs.Recipes.{Origin}
use Rattle.osb_cache.specs.declared.answers.Stored.{Stored}
use Rattle.osb_store.specs.declared.refusals.StoreRefusal.{StoreRefusal}
use Rattle.osb_store.specs.declared.refusals.StoreRefusal.TheVariants.{Magic, Truncated, TrailingBytes, Digest, Shape, NoMemory}
use Rattle.osb_store.specs.Fields.{number, field}
use Rattle.osb_store.specs.Texts.{recipe_text, entry_text, magic, headed, sealed}
use Rattle.osb_store.specs.Rules.{EachMay, MayBeBlob, MayBeRecipe, MayBeEntry}

-- ---- lists of items in a body

module _ {X : Type 0} (text : X → List ℕ) (May : List X → X → Type 0) where
  -- these items stand in front of a rest
  pub record IsFront (bytes : List ℕ) (items : List X) (rest : List ℕ) : Type 0 where
    pub parts : bytes ≡ flat_map text items ++ rest
    pub each : EachMay May [] items

  -- no item that may stand behind these is the front of the rest
  abbrev pub NoneFollows : List X → List ℕ → Type 0
  NoneFollows items rest = (item : X) (after : List ℕ) → May items item → rest ≡ text item ++ after → ⊥

-- a count with eight bytes at least behind it for each item that it counts
pub record IsCounted (bytes : List ℕ) (count : ℕ) (rest : List ℕ) : Type 0 where
  pub parts : bytes ≡ number count ++ rest
  pub room : 8 * count ≤ length rest

module _ {X : Type 0} (text : X → List ℕ) (May : List X → X → Type 0) where
  -- a count, and as many items
  pub record IsList (bytes : List ℕ) (items : List X) (rest : List ℕ) : Type 0 where
    pub behind : List ℕ
    pub counted : IsCounted bytes (length items) behind
    pub front : IsFront text May behind items rest

  -- the count is wrong, or it counts more than these items, and none follows them
  abbrev pub StopsAt : List ℕ → ℕ → Type 0
  StopsAt bytes place =
      ((place ≡ 0) × ((count : ℕ) (rest : List ℕ) → IsCounted bytes count rest → ⊥))
      ⊎ ((count : ℕ) × (behind : List ℕ) × (items : List X) × (rest : List ℕ) × (place ≡ suc (length items)) × (length items < count)
      × IsCounted bytes count behind × IsFront text May behind items rest × NoneFollows text May items rest)

-- ---- the place where a body stops, which is the number of items before it; counts are items too

pub record StopsInRecipes (bytes : List ℕ) (place : ℕ) : Type 0 where
  pub blobs : List (List ℕ)
  pub rest : List ℕ
  pub first : IsList field MayBeBlob bytes blobs rest
  pub more : ℕ
  pub stops : StopsAt recipe_text (MayBeRecipe blobs) rest more
  pub place_is : place ≡ 1 + length blobs + more

pub record HasLists (bytes : List ℕ) (blobs : List (List ℕ)) (recipes : List Origin) (rest : List ℕ) : Type 0 where
  pub behind : List ℕ
  pub first : IsList field MayBeBlob bytes blobs behind
  pub second : IsList recipe_text (MayBeRecipe blobs) behind recipes rest

pub record StopsInEntries (bytes : List ℕ) (place : ℕ) : Type 0 where
  pub blobs : List (List ℕ)
  pub recipes : List Origin
  pub rest : List ℕ
  pub lists : HasLists bytes blobs recipes rest
  pub more : ℕ
  pub stops : StopsAt entry_text (MayBeEntry (length recipes)) rest more
  pub place_is : place ≡ 2 + length blobs + length recipes + more

-- all items are well, and bytes are left
pub record LeavesBytes (bytes : List ℕ) (place : ℕ) : Type 0 where
  pub blobs : List (List ℕ)
  pub recipes : List Origin
  pub entries : List (Stored Listing)
  pub behind : List ℕ
  pub lists : HasLists bytes blobs recipes behind
  pub rest : List ℕ
  pub third : IsList entry_text (MayBeEntry (length recipes)) behind entries rest
  pub left : 0 < length rest
  pub place_is : place ≡ 3 + length blobs + length recipes + length entries

abbrev pub BodyStopsAt : List ℕ → ℕ → Type 0
BodyStopsAt bytes place = StopsAt field MayBeBlob bytes place ⊎ (StopsInRecipes bytes place ⊎ (StopsInEntries bytes place ⊎ LeavesBytes bytes place))

-- ---- the whole

-- the first eight bytes, or all where there are fewer, begin the magic
abbrev pub BeginsWell : List ℕ → Type 0
BeginsWell bytes = take 8 bytes ≡ take (length bytes) magic

-- the length that is told behind the magic, and the whole length by it
abbrev pub told_length : List ℕ → ℕ
told_length bytes = 48 + big_number 8 (drop 8 bytes)

pub record IsTooShort (bytes : List ℕ) : Type 0 where
  pub begins : BeginsWell bytes
  pub short : (length bytes < 16) ⊎ (length bytes < told_length bytes)

pub record IsTooLong (bytes : List ℕ) : Type 0 where
  pub begins : BeginsWell bytes
  pub headed : 16 ≤ length bytes
  pub long : told_length bytes < length bytes

-- magic and length are right, and the last 32 bytes are another digest
pub record IsUnsealed (bytes : List ℕ) : Type 0 where
  pub body : List ℕ
  pub digest : List ℕ
  pub parts : bytes ≡ headed body ++ digest
  pub long : length digest ≡ 32
  pub other : digest ≡ sha256 (headed body) → ⊥

abbrev pub IsRefused : StoreRefusal → List ℕ → Type 0
IsRefused Magic bytes = BeginsWell bytes → ⊥
IsRefused Truncated bytes = IsTooShort bytes
IsRefused TrailingBytes bytes = IsTooLong bytes
IsRefused Digest bytes = IsUnsealed bytes
IsRefused (Shape place) bytes = (body : List ℕ) × (bytes ≡ sealed body) × BodyStopsAt body place
IsRefused NoMemory bytes = ⊥
