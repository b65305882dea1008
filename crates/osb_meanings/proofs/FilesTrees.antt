-- The files of any blobs are a tree.
use Rattle.std.proofs.Common.{◌≡◌, ℕ, ◌<◌, zero, suc, List, [], ◌∷◌, ◌++◌, get_or, Bool, true, false, cond, None, Ok, Err, Fits, w8, w32, refl, arith}
use Rattle.std.specs.Prelude.{IfOk, slice_index}
use Rattle.std.specs.List.{AllByRecursion}
use Rattle.std.specs.Int.{to_be_bytes}
use Rattle.sha2.specs.Sha256.{sha256, digest_bytes}
use Rattle.sha2.proofs.Facts256.{length-sha256}
use Rattle.osb_base.specs.Digests.{digest_text}
use Rattle.osb_tree.specs.Paths.{root, IsPath, is_name, joined}
use Rattle.osb_tree.specs.Trees.{Listing, empty_tree, is_directory_at, is_too_large}
use Rattle.osb_tree.specs.declared.faults.PutFault.TheVariants.{TooLarge}
use Rattle.osb_tree.proofs.TreeLaws.{empty_tree-is_tree, empty_tree-is_within_limits}
use Rattle.osb_stages.specs.Rules.{parent_rule}
use Rattle.osb_stages.proofs.Ancestors.{directory-there}
use Rattle.osb_stages.proofs.Beneath.{takes_over-no_directory}
use Rattle.osb_recipe.specs.FilesTrees.{item_path, item_node, with_item, with_items, files_tree}
use Rattle.osb_recipe.proofs.FilesTrees.{HoldsFiles, empty_holds_files, still_holds_files, digest_name, digest_path}
use Rattle.osb_meanings.specs.Laws.{IsWithin}
use Rattle.osb_meanings.proofs.Gives.{given}
use Rattle.osb_meanings.proofs.Trees.{joined-gives, gives-placed}

-- ---- the path of an item

-- a digest is one of bytes
are_bytes-append : (xs ys : List ℕ) → AllByRecursion (λ b. b < 256) xs → AllByRecursion (λ b. b < 256) ys → AllByRecursion (λ b. b < 256) (xs ++ ys)
are_bytes-append [] ys first second = second
are_bytes-append (x ∷ xs) ys first second = (first.0, are_bytes-append xs ys first.1 second)

are_bytes-word : (word : ℕ) → AllByRecursion (λ b. b < 256) (to_be_bytes w32 word)
are_bytes-word word = (omega arith, (omega arith, (omega arith, (omega arith, tt))))

are_bytes-digest : (words : List ℕ) (count : ℕ) → AllByRecursion (λ b. b < 256) (digest_bytes words count)
unfolding digest_bytes
are_bytes-digest words zero = tt
are_bytes-digest words (suc count) = are_bytes-append (digest_bytes words count) (to_be_bytes w32 (slice_index words count)) (are_bytes-digest words count) (are_bytes-word (slice_index words count))

are_bytes-sha256 : (bytes : List ℕ) → AllByRecursion (λ b. b < 256) (sha256 bytes)
unfolding sha256
are_bytes-sha256 bytes = are_bytes-digest _ 8

byte-at : (bytes : List ℕ) → AllByRecursion (λ b. b < 256) bytes → (i : ℕ) → Fits w8 (get_or bytes i 0)
byte-at [] all i = omega arith
byte-at (b ∷ bytes) all zero = let small : b < 256 = all.0 in omega arith
byte-at (b ∷ bytes) all (suc i) = byte-at bytes all.1 i

item_path-is : (bytes : List ℕ) → IsPath (item_path bytes)
item_path-is bytes =
    let digest = sha256 bytes in
    let text = digest_text digest in
    let named : is_name text ≡ true = digest_name digest (byte-at digest (are_bytes-sha256 bytes)) in
    given IsPath (joined [] (text ∷ [])) (text ∷ []) (joined-gives [] (text ∷ []) refl (rw named refl)) (digest_path digest (length-sha256 bytes))

-- ---- items one after another

parent_rule-under_root : (listing : Listing) (name : List ℕ) → is_directory_at listing root ≡ true → parent_rule listing (name ∷ []) ≡ None
parent_rule-under_root listing name rooted = rw (directory-there listing root rooted).0 refl

-- whatever is put where files alone are
item-gives : (bytes : List ℕ) (listing : Listing) → IsWithin listing → HoldsFiles listing → is_too_large (with_item bytes listing) ≡ false → IsWithin (with_item bytes listing)
item-gives bytes listing is holds small =
    let gives = gives-placed (item_path bytes) (item_node bytes) listing is (item_path-is bytes) (omega arith, omega arith, omega arith) (parent_rule-under_root listing (digest_text (sha256 bytes)) holds.rooted) (takes_over-no_directory listing (item_path bytes) (item_node bytes) is.tree (holds.free (digest_text (sha256 bytes)))) in
    rw small at gives

with_items-gives : (items : List (List ℕ)) (listing : Listing) → IsWithin listing → HoldsFiles listing → IfOk (with_items items listing) IsWithin
with_items-gives [] listing is holds = is
with_items-gives (bytes ∷ items) listing is holds = by (with_items-gives items (with_item bytes listing)) (is_too_large (with_item bytes listing)) refl
  where
    alone : is_too_large (with_item bytes listing) ≡ false → with_items (bytes ∷ []) listing ≡ Ok (with_item bytes listing)
    alone small = rw small refl

    by : (IsWithin (with_item bytes listing) → HoldsFiles (with_item bytes listing) → IfOk (with_items items (with_item bytes listing)) IsWithin)
        → (large : Bool) → is_too_large (with_item bytes listing) ≡ large → IfOk (cond large (Err TooLarge) (with_items items (with_item bytes listing))) IsWithin
    by later true e = tt
    by later false e = later (item-gives bytes listing is holds e) (still_holds_files bytes listing (with_item bytes listing) holds (alone e))

pub files_tree-gives : (items : List (List ℕ)) → IfOk (files_tree items) IsWithin
unfolding files_tree
files_tree-gives items = with_items-gives items empty_tree (record { tree = empty_tree-is_tree; limits = empty_tree-is_within_limits }) empty_holds_files
