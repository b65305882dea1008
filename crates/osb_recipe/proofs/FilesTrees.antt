-- Files under their digests, one after another.
use Rattle.std.proofs.Common.{◌≡◌, ℕ, ◌+◌, ◌/◌, ◌%◌, ◌<◌, ◌==◌, ◌&&◌, zero, suc, Bool, true, false, not, cond, true≢false, List, [], ◌∷◌, length, drop, get_or, slice_index, Option, Some, None, Result, Ok, Err, inl, inr, refl, sym, ap, ◌∙◌, subst, rules, Fits, w8, arith, add-one, drop-cons, length-append}
use Rattle.std.specs.Prelude.{codes, IsTrue, IsFalse}
use Rattle.std.specs.List.{list_any, AllByRecursion, cons_option}
use Rattle.std.proofs.lemmas.Option.{slice_get_read}
use Rattle.std.proofs.lemmas.Bool.{and_parts, cases_lt, le-ltb}
use Rattle.std.proofs.lemmas.List.{append-nil}
use Rattle.hex.specs.Hex.{encode_lower, encode_with, lower_digits}
use Rattle.hex.proofs.HexLemmas.{length-encode_with}
use Rattle.osb_base.specs.Digests.{digest_text}
use Rattle.osb_tree.specs.Paths.{Names, root, is_name, path_text, joined}
use Rattle.osb_tree.specs.Nodes.{is_directory}
use Rattle.osb_tree.specs.Trees.{Listing, node_at, is_directory_at, put_at, empty_tree, is_too_large}
use Rattle.osb_tree.specs.declared.nodes.Node.{Node}
use Rattle.osb_tree.specs.declared.faults.PathFault.TheVariants.{TooLong}
use Rattle.osb_tree.specs.declared.faults.PutFault.{PutFault}
use Rattle.osb_tree.specs.declared.faults.PutFault.TheVariants.{TooLarge}
use Rattle.osb_tree.proofs.Puts.{node_at-put_at}
use Rattle.osb_recipe.specs.FilesTrees.{item_path, item_node, with_item, with_items, blobs_at}

-- ---- the name of an item's file

abbrev all_below : (ℕ → Bool) → ℕ → Bool
all_below test zero = true
all_below test (suc n) = test n && all_below test n

all_below-at : (test : ℕ → Bool) (n k : ℕ) → all_below test n ≡ true → k < n → test k ≡ true
all_below-at test zero k h lt = absurd (omega arith)
all_below-at test (suc n) k h lt =
    let parts = and_parts (test n) (all_below test n) h in
    elim (cases_lt k n) [
      | inl below ↦ all_below-at test n k parts.1 below
      | inr top ↦
          let e : k ≡ n = omega arith in
          rw e parts.0
    ]

false_of_not : (b : Bool) → not b ≡ true → b ≡ false
false_of_not true e = absurd (true≢false (sym e))
false_of_not false e = refl

-- a byte that is none of the digits is nowhere in hex text
abbrev is_other : ℕ → ℕ → Bool
is_other byte value = not (slice_index lower_digits value == byte)

no_byte : (byte : ℕ) → all_below (is_other byte) 16 ≡ true → (bytes : List ℕ) → AllByRecursion (λ b. b < 256) bytes → list_any (λ b. b == byte) (encode_lower bytes) ≡ false
unfolding encode_with
no_byte byte others [] all = refl
no_byte byte others (b ∷ bytes) all =
    let fits : b < 256 = all.0 in
    let high : (slice_index lower_digits (b / 16) == byte) ≡ false = false_of_not _ (all_below-at (is_other byte) 16 (b / 16) others (omega arith)) in
    let low : (slice_index lower_digits (b % 16) == byte) ≡ false = false_of_not _ (all_below-at (is_other byte) 16 (b % 16) others (omega arith)) in
    rw (high, low) (no_byte byte others bytes all.1)

each_below : (bytes : List ℕ) → ((i : ℕ) → Fits w8 (get_or bytes i 0)) → AllByRecursion (λ b. b < 256) bytes
each_below [] each = tt
each_below (b ∷ bytes) each = (omega (arith, each 0), each_below bytes (λ i. each (suc i)))

some_text : (digest : List ℕ) → (length (digest_text digest) == 0) ≡ false
some_text digest = search rules

pub digest_name : (digest : List ℕ) → ((i : ℕ) → Fits w8 (get_or digest i 0)) → IsTrue (is_name (digest_text digest))
digest_name digest each =
    let all : AllByRecursion (λ b. b < 256) digest = each_below digest each in
    rw (some_text digest, no_byte 47 refl digest all, no_byte 0 refl digest all) refl

pub digest_path : (digest : List ℕ) → length digest ≡ 32 → joined [] (digest_text digest ∷ []) ≡ Ok (digest_text digest ∷ [])
digest_path digest long =
    let t = digest_text digest in
    let size : length (path_text (t ∷ [])) < 4096 = omega (arith, ap length (append-nil (47 ∷ t)), length-append (codes "sha256:") (encode_lower digest), length-encode_with lower_digits digest) in
    ap (λ b. cond b (Err TooLong) (Ok (t ∷ []))) (le-ltb 4096 (length (path_text (t ∷ []))) (omega arith))

-- ---- items one after another

items_on : (bytes : List ℕ) (items : List (List ℕ)) (listing new : Listing) → with_items (bytes ∷ []) listing ≡ Ok new → with_items (bytes ∷ items) listing ≡ with_items items new
items_on bytes items listing new e = by (is_too_large (with_item bytes listing)) (with_item bytes listing) e
  where
    by : (too_large : Bool) (after : Listing) → cond too_large (Err TooLarge) (Ok after) ≡ Ok new → cond too_large (Err TooLarge) (with_items items after) ≡ with_items items new
    by true after e = cc
    by false after e = let same : after ≡ new = cc in ap (with_items items) same

items_stop : (bytes : List ℕ) (items : List (List ℕ)) (listing : Listing) (fault : PutFault) → with_items (bytes ∷ []) listing ≡ Err fault → with_items (bytes ∷ items) listing ≡ Err fault
items_stop bytes items listing fault e = by (is_too_large (with_item bytes listing)) (with_item bytes listing) e
  where
    by : (too_large : Bool) (after : Listing) → cond too_large (Err TooLarge) (Ok after) ≡ Err fault → cond too_large (Err TooLarge) (with_items items after) ≡ Err fault
    by true after e = e
    by false after e = cc

-- a tree to which items are added: nothing but its root is a directory
pub record HoldsFiles (listing : Listing) : Type 0 where
  pub rooted : IsTrue (is_directory_at listing root)
  pub free : (name : List ℕ) → IsFalse (is_directory_at listing (name ∷ []))

pub empty_holds_files : HoldsFiles empty_tree
empty_holds_files = record { rooted = refl; free = λ name. refl }

item_is_put : (bytes : List ℕ) (listing new : Listing) → with_items (bytes ∷ []) listing ≡ Ok new → new ≡ with_item bytes listing
item_is_put bytes listing new e = by (is_too_large (with_item bytes listing)) (with_item bytes listing) e
  where
    by : (too_large : Bool) (after : Listing) → cond too_large (Err TooLarge) (Ok after) ≡ Ok new → new ≡ after
    by true after e = cc
    by false after e = cc

file_there : (listing : Listing) (path q : Names) (node : Node) (same : Bool) → is_directory node ≡ false → IsFalse (is_directory_at listing q) → node_at (put_at listing path node) q ≡ cond same (Some node) (node_at listing q) → IsFalse (is_directory_at (put_at listing path node) q)
file_there listing path q node true file free e = rw (e, file) refl
file_there listing path q node false file free e = by (node_at listing q) refl
  where
    by : (found : Option Node) → node_at listing q ≡ found → IsFalse (is_directory_at (put_at listing path node) q)
    by None is = rw (e, is) refl
    by (Some there) is = rw (e, is) (rw is at free)

root_there : (listing : Listing) (path : Names) (node : Node) → IsTrue (is_directory_at listing root) → node_at (put_at listing path node) root ≡ node_at listing root → IsTrue (is_directory_at (put_at listing path node) root)
root_there listing path node rooted e = by (node_at listing root) refl
  where
    by : (found : Option Node) → node_at listing root ≡ found → IsTrue (is_directory_at (put_at listing path node) root)
    by None is = absurd (true≢false (sym (rw is at rooted)))
    by (Some there) is = rw (e, is) (rw is at rooted)

pub still_holds_files : (bytes : List ℕ) (listing new : Listing) → HoldsFiles listing → with_items (bytes ∷ []) listing ≡ Ok new → HoldsFiles new
still_holds_files bytes listing new holds e = subst HoldsFiles (sym (item_is_put bytes listing new e)) (record {
  rooted = root_there listing (item_path bytes) (item_node bytes) holds.rooted (node_at-put_at listing (item_path bytes) (item_node bytes) root);
  free = λ name. file_there listing (item_path bytes) (name ∷ []) (item_node bytes) _ refl (holds.free name) (node_at-put_at listing (item_path bytes) (item_node bytes) (name ∷ []));
})

-- the blobs from a place on are the one there and the others
blobs_next : (blobs : List (List ℕ)) (numbers : List ℕ) (i : ℕ) (item bytes : List ℕ) → i < length numbers → get_or numbers i 0 < length blobs → item ≡ get_or blobs (get_or numbers i 0) item → bytes ≡ item → blobs_at blobs (drop i numbers) ≡ bytes ∷ blobs_at blobs (drop (i + 1) numbers)
blobs_next blobs numbers i item bytes within there is same =
    let number = get_or numbers i 0 in
    ap (blobs_at blobs) (drop-cons numbers i 0 within ∙ ap (λ j. number ∷ drop j numbers) (sym (add-one i)))
    ∙ ap (λ found. cons_option found (blobs_at blobs (drop (i + 1) numbers))) (slice_get_read blobs (length blobs) number item refl there is)
    ∙ ap (λ head. head ∷ blobs_at blobs (drop (i + 1) numbers)) (sym same)

-- a turn of the loop over numbers, and its end at a fault
pub turn_on : (blobs : List (List ℕ)) (numbers : List ℕ) (i : ℕ) (item bytes : List ℕ) (listing new : Listing) (whole : Result Listing PutFault) → i < length numbers → get_or numbers i 0 < length blobs → item ≡ get_or blobs (get_or numbers i 0) item → bytes ≡ item
    → with_items (bytes ∷ []) listing ≡ Ok new → with_items (blobs_at blobs (drop i numbers)) listing ≡ whole → with_items (blobs_at blobs (drop (i + 1) numbers)) new ≡ whole
turn_on blobs numbers i item bytes listing new whole within there is same made before =
    sym (ap (λ items. with_items items listing) (blobs_next blobs numbers i item bytes within there is same) ∙ items_on bytes (blobs_at blobs (drop (i + 1) numbers)) listing new made) ∙ before

pub turn_stop : (blobs : List (List ℕ)) (numbers : List ℕ) (i : ℕ) (item bytes : List ℕ) (listing : Listing) (fault : PutFault) (whole : Result Listing PutFault) → i < length numbers → get_or numbers i 0 < length blobs → item ≡ get_or blobs (get_or numbers i 0) item → bytes ≡ item
    → with_items (bytes ∷ []) listing ≡ Err fault → with_items (blobs_at blobs (drop i numbers)) listing ≡ whole → Err fault ≡ whole
turn_stop blobs numbers i item bytes listing fault whole within there is same made before =
    sym (ap (λ items. with_items items listing) (blobs_next blobs numbers i item bytes within there is same) ∙ items_stop bytes (blobs_at blobs (drop (i + 1) numbers)) listing fault made) ∙ before
