-- An entry that is read is the one that was written, and one that was written is read again.
use Rattle.std.proofs.Common.{◌≡◌, ℕ, ◌^◌, ◌<◌, ◌≤◌, true, List, [], ◌∷◌, ◌++◌, length, All, Some, sym, ap, subst, ◌∙◌, arith, length-append}
use Rattle.std.specs.List.{AllByRecursion}
use Rattle.std.proofs.lemmas.List.Elements.{All-from_recursion, recursion_from_All}
use Rattle.osb_tree.specs.Chunks.{pairs_of, chunks_of}
use Rattle.osb_tree.specs.Paths.{Names}
use Rattle.osb_tree.specs.Trees.{Listing}
use Rattle.osb_tree.specs.declared.nodes.Node.{Node}
use Rattle.osb_tree.specs.declared.nodes.Node.TheVariants.{Dir, File, Link}
use Rattle.osb_tree.proofs.ChunkLaws.{chunks_are_the_listing}
use Rattle.osb_cache.specs.declared.answers.Stored.{Stored}
use Rattle.osb_store.specs.Bytes.{IsBytes}
use Rattle.osb_store.specs.Entries.{stored, entry_at, is_entry, pair_at}
use Rattle.osb_store.specs.Fields.{number}
use Rattle.osb_store.specs.Reading.{both_at, number_at, list_at}
use Rattle.osb_store.specs.Rules.{HasTexts, MayBeEntry}
use Rattle.osb_store.specs.Texts.{node_text, nodes_text, entry_text}
use Rattle.osb_store.proofs.Cuts.{chunks_of-few, chunks_of-pairs_of}
use Rattle.osb_store.proofs.EntryTests.{entry_may, entry_passes}
use Rattle.osb_store.proofs.PairTexts.{PairFits, pair_spells, pairs_fit, texts_from}
use Rattle.osb_store.proofs.Spelling.{Spells, Takes, number_spells, length-number, both_spell, list_spells, option_map_some}

some_text : (pair : Names × Node) → 1 ≤ length (node_text pair)
some_text (path, Dir mode uid gid) = omega arith
some_text (path, File mode uid gid bytes) = omega arith
some_text (path, Link uid gid target) = omega arith

parts_spells : Spells (λ p. number p.0 ++ nodes_text p.1) (λ p. (p.0 < 2 ^ 64) × AllByRecursion PairFits p.1) (both_at number_at (list_at pair_at))
parts_spells = both_spell _ _ _ number_spells _ _ _ (list_spells _ _ _ pair_spells some_text)

all_texts : (pairs : Listing) → AllByRecursion PairFits pairs → AllByRecursion HasTexts pairs
all_texts [] fits = tt
all_texts (pair ∷ pairs) fits = (texts_from pair fits.0, all_texts pairs fits.1)

read_parts : {P : Type 0} (bytes : List ℕ) (x : Stored Listing) (rest : List ℕ) → entry_at bytes ≡ Some (x, rest)
    → ((parts : ℕ × Listing) (behind : List ℕ) → both_at number_at (list_at pair_at) bytes ≡ Some (parts, behind) → ◌≡◌ {A = Stored Listing × List ℕ} (stored parts, behind) (x, rest) → P) → P
unfolding entry_at
read_parts bytes x rest e next =
    option_map_some (λ p. (stored p.0, p.1)) (both_at number_at (list_at pair_at) bytes) (x, rest) e (λ p first same. next p.0 p.1 first same)

module _ (keys : ℕ) where
  pub entry_takes : (bytes : List ℕ) (before : List (Stored Listing)) (x : Stored Listing) (rest : List ℕ) → IsBytes bytes → entry_at bytes ≡ Some (x, rest) → is_entry keys before x ≡ true
      → Takes entry_text (MayBeEntry keys before) bytes x rest
  entry_takes bytes before x rest b e passes =
      read_parts bytes x rest e (λ parts behind first same.
      let head = parts_spells.takes bytes parts behind b first in
      let whole : pairs_of (chunks_of parts.1) ≡ parts.1 = chunks_are_the_listing parts.1 in
      let texts : All HasTexts (pairs_of (chunks_of parts.1)) = subst (All HasTexts) (sym whole) (All-from_recursion HasTexts parts.1 (all_texts parts.1 head.fits.1)) in
      let Taken : Stored Listing × List ℕ → Type 0 = λ q. is_entry keys before q.0 ≡ true → Takes entry_text (MayBeEntry keys before) bytes q.0 q.1 in
      subst Taken same (λ t. record {
        parts = head.parts ∙ ap (λ (pairs : Listing). (number parts.0 ++ nodes_text pairs) ++ behind) (sym whole);
        fits = entry_may keys before (stored parts) t (chunks_of-few parts.1) texts;
      }) passes)

  pub entry_again : keys ≤ 2 ^ 64 → (before : List (Stored Listing)) (x : Stored Listing) (rest : List ℕ) → length (entry_text x ++ rest) < 2 ^ 64 → MayBeEntry keys before x
      → (entry_at (entry_text x ++ rest) ≡ Some (x, rest)) × (is_entry keys before x ≡ true)
  unfolding entry_at
  entry_again bound before x rest short may =
      let fits = pairs_fit (pairs_of x.chunks) may.tree.tree.paths may.tree.tree.nodes (recursion_from_All HasTexts (pairs_of x.chunks) may.texts) in
      let read = parts_spells.again (x.key.0, pairs_of x.chunks) rest short (omega (arith, bound, may.known), fits) in
      let cut = chunks_of-pairs_of x.chunks may.tree.cut may.few in
      (rw read (ap (λ (chunks : List Listing). Some (let made : Stored Listing = record { key = x.key; chunks = chunks } in made, rest)) cut), entry_passes keys before x may)

pub entry_long : (x : Stored Listing) → 8 ≤ length (entry_text x)
entry_long x = omega (arith, length-number x.key.0, length-append (number x.key.0) (nodes_text (pairs_of x.chunks)))
