-- The tasks of linked chains, each once, are linked.
use Rattle.std.proofs.Common.{◌≡◌, ℕ, ◌<◌, ◌≤◌, ◌==◌, zero, suc, Bool, true, false, cond, List, [], ◌∷◌, ◌++◌, take, length, nat_lt, Some, refl, sym, ap, ap₂, ◌∙◌, subst, arith, append_assoc, append-nil}
use Rattle.std.specs.Prelude.{slice_get}
use Rattle.std.specs.Cmp.Derive.{both_true}
use Rattle.std.proofs.lemmas.Bool.{false≢true, eqb-true, eq-eqb, and_parts}
use Rattle.std.proofs.lemmas.Bool.Decides.{nat_tests}
use Rattle.osb_tree.specs.declared.numbers.Key.{Key}
use Rattle.osb_recipe.specs.Interning.{place_in, interned, interned_all}
use Rattle.osb_recipe.specs.Tables.{TableData, last_of}
use Rattle.osb_recipe.specs.declared.references.TreeRef.TheVariants.{Empty}
use Rattle.osb_plan.specs.Planning.{same_chain}
use Rattle.osb_plan.proofs.HeldItems.{IsHeld, IsHeld-at, IsHeld-stands}
use Rattle.osb_plan.proofs.Links.{IsEnd, IsEnd-more, IsEnd-between, AreLinks, AreLinked, AreLinks-over, AreLinked-pushed}

-- ---- the test of chains

pub same_chain-self : (chain : List Key) → same_chain chain chain ≡ true
same_chain-self [] = refl
same_chain-self (key ∷ chain) = both_true (eq-eqb key.0 key.0 refl) (same_chain-self chain)

pub exact_chain : (a b : List Key) → same_chain a b ≡ true → a ≡ b
exact_chain [] [] e = refl
exact_chain [] (y ∷ b) e = absurd (false≢true e)
exact_chain (x ∷ a) [] e = absurd (false≢true e)
exact_chain (x ∷ a) (y ∷ b) e =
    let parts = and_parts (x.0 == y.0) (same_chain a b) e in
    ap₂ (λ (n : ℕ) (keys : List Key). let key : Key = record { 0 = n } in key ∷ keys) (eqb-true x.0 y.0 parts.0) (exact_chain a b parts.1)

-- ---- each once

abbrev pub AreApart : List (List Key) → Type 0
AreApart chains = (i j : ℕ) (chain : List Key) → slice_get chains i ≡ Some chain → slice_get chains j ≡ Some chain → i ≡ j

-- one of a list with one more is of the list, or is the last
data Stands (chains : List (List Key)) (last chain : List Key) (i : ℕ) : Type 0 where
  is_earlier : slice_get chains i ≡ Some chain → Stands chains last chain i
  is_last : i ≡ length chains → last ≡ chain → Stands chains last chain i

place_of : (chains : List (List Key)) (last chain : List Key) (i : ℕ) → slice_get (chains ++ last ∷ []) i ≡ Some chain → Stands chains last chain i
place_of [] last chain zero at = is_last refl (cc)
place_of [] last chain (suc i) at = absurd (cc)
place_of (first ∷ chains) last chain zero at = is_earlier at
place_of (first ∷ chains) last chain (suc i) at = next (place_of chains last chain i at)
  where
    next : Stands chains last chain i → Stands (first ∷ chains) last chain (suc i)
    next (is_earlier e) = is_earlier e
    next (is_last e is) = is_last (ap suc e) is

apart_pushed : (chains : List (List Key)) (last : List Key) → AreApart chains → length chains ≤ place_in same_chain chains last → AreApart (chains ++ last ∷ [])
apart_pushed chains last apart none i j chain first second = by (place_of chains last chain i first) (place_of chains last chain j second)
  where
    never : (k : ℕ) → slice_get chains k ≡ Some chain → last ≡ chain → ⊥
    never k at is =
        let held : IsHeld same_chain chains last = IsHeld-at same_chain chains k last (same_chain-self last) (at ∙ ap Some (sym is)) in
        absurd (omega arith)

    by : Stands chains last chain i → Stands chains last chain j → i ≡ j
    by (is_earlier a) (is_earlier b) = apart i j chain a b
    by (is_earlier a) (is_last b is) = absurd (never i a is)
    by (is_last a is) (is_earlier b) = absurd (never j b is)
    by (is_last a is) (is_last b was) = a ∙ sym b

-- ---- the ends of some chains are ends of tasks

module _ (table : TableData) where
  -- tasks that are linked and apart, and end as the chains so far
  record AreTasks (before tasks : List (List Key)) : Type 0 where
    pub linked : AreLinked table [] tasks
    pub apart : AreApart tasks
    pub ends : (key : Key) → IsEnd before key → IsEnd tasks key

  tasks_step : (b : Bool) (before tasks : List (List Key)) (chain : List Key) → b ≡ nat_lt (place_in same_chain tasks chain) (length tasks) → AreLinks before table Empty chain → AreTasks before tasks → AreTasks (before ++ chain ∷ []) (cond b tasks (tasks ++ chain ∷ []))
  tasks_step true before tasks chain test links are = record {
    linked = are.linked;
    apart = are.apart;
    ends = λ key end. by key end (place_of before chain end.chain end.place end.at);
  }
    where
      held : IsHeld same_chain tasks chain
      held = grind (arith, nat_tests)

      by : (key : Key) (end : IsEnd (before ++ chain ∷ []) key) → Stands before chain end.chain end.place → IsEnd tasks key
      by key end (is_earlier at) = are.ends key (record { place = end.place; chain = end.chain; at = at; last = end.last })
      by key end (is_last e is) = record { place = place_in same_chain tasks chain; chain = chain; at = IsHeld-stands same_chain exact_chain tasks chain held; last = ap last_of is ∙ end.last }
  tasks_step false before tasks chain test links are = record {
    linked = AreLinked-pushed table [] tasks chain are.linked (AreLinks-over table before tasks are.ends Empty chain links);
    apart = apart_pushed tasks chain are.apart (grind (arith, nat_tests));
    ends = λ key end. by key end (place_of before chain end.chain end.place end.at);
  }
    where
      by : (key : Key) (end : IsEnd (before ++ chain ∷ []) key) → Stands before chain end.chain end.place → IsEnd (tasks ++ chain ∷ []) key
      by key end (is_earlier at) = IsEnd-more tasks (chain ∷ []) key (are.ends key (record { place = end.place; chain = end.chain; at = at; last = end.last }))
      by key end (is_last e is) = IsEnd-between tasks [] chain key (ap last_of is ∙ end.last)

  all_tasks : (before tasks chains : List (List Key)) → AreLinked table before chains → AreTasks before tasks → AreTasks (before ++ chains) (interned_all same_chain tasks chains)
  all_tasks before tasks [] linked are = subst (λ (some : List (List Key)). AreTasks some tasks) (sym (append-nil before)) are
  all_tasks before tasks (chain ∷ chains) linked are =
      let step = tasks_step (nat_lt (place_in same_chain tasks chain) (length tasks)) before tasks chain refl linked.0 are in
      let rest = all_tasks (before ++ chain ∷ []) (interned same_chain tasks chain) chains linked.1 step in
      subst (λ (some : List (List Key)). AreTasks some (interned_all same_chain (interned same_chain tasks chain) chains)) (append_assoc before (chain ∷ []) chains) rest

  no_tasks : AreTasks [] []
  no_tasks = record { linked = tt; apart = λ i j chain first second. absurd (cc); ends = λ key end. end }

  pub tasks_linked : (chains : List (List Key)) → AreLinked table [] chains → AreLinked table [] (interned_all same_chain [] chains)
  tasks_linked chains linked = (all_tasks [] [] chains linked no_tasks).linked

  pub tasks_apart : (chains : List (List Key)) → AreLinked table [] chains → AreApart (interned_all same_chain [] chains)
  tasks_apart chains linked = (all_tasks [] [] chains linked no_tasks).apart

  -- ---- a task's links are over the tasks before it

  pub links_at : (before tasks : List (List Key)) (n : ℕ) (chain : List Key) → AreLinked table before tasks → slice_get tasks n ≡ Some chain → AreLinks (before ++ take n tasks) table Empty chain
  links_at before [] n chain linked at = absurd (cc)
  links_at before (first ∷ tasks) zero chain linked at =
      let is : first ≡ chain = cc in
      subst (λ (some : List (List Key)). AreLinks some table Empty chain) (sym (append-nil before)) (subst (AreLinks before table Empty) is linked.0)
  links_at before (first ∷ tasks) (suc n) chain linked at =
      subst (λ (some : List (List Key)). AreLinks some table Empty chain) (append_assoc before (first ∷ []) (take n tasks)) (links_at (before ++ first ∷ []) tasks n chain linked.1 at)

pub slice_get-taken : (chains : List (List Key)) (n place : ℕ) (chain : List Key) → slice_get (take n chains) place ≡ Some chain → (place < n) × (slice_get chains place ≡ Some chain)
slice_get-taken [] zero place chain at = absurd (cc)
slice_get-taken [] (suc n) place chain at = absurd (cc)
slice_get-taken (first ∷ chains) zero place chain at = absurd (cc)
slice_get-taken (first ∷ chains) (suc n) zero chain at = (omega arith, at)
slice_get-taken (first ∷ chains) (suc n) (suc place) chain at =
    let rest = slice_get-taken chains n place chain at in
    (omega arith, rest.1)
