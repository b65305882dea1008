-- Members with keys that rise: the next one goes last.
use Rattle.std.proofs.Common.{◌≡◌, ℕ, true, List, Ordering, Less, Equal, Greater, refl, ap, ◌∙◌}
use Rattle.std.proofs.lemmas.Cmp.{nat_list_cmp_total}
use Rattle.std.specs.Ordering.{nat_cmp, is_lt, ordering_reverse}
use Rattle.std.specs.Cmp.Lexicographic.{slice_cmp}
use Rattle.serde_json.specs.Data.{Data, Members, no_members, member, put}

abbrev pub joined : Members → Members → Members
joined no_members more = more
joined (member l e ms) more = member l e (joined ms more)

abbrev pub AllBelow : Members → List ℕ → Type 0
AllBelow no_members k = Unit {0}
AllBelow (member l e ms) k = (slice_cmp nat_cmp l k ≡ Less) × AllBelow ms k

pub is_below : (o : Ordering) → is_lt o ≡ true → o ≡ Less
is_below Less h = refl
is_below Equal h = absurd cc
is_below Greater h = absurd cc

pub put_last : (k : List ℕ) (v : Data) (ms : Members) → AllBelow ms k → put k v ms ≡ joined ms (member k v no_members)
put_last k v no_members h = refl
put_last k v (member l e ms) h =
    let above : slice_cmp nat_cmp k l ≡ Greater = nat_list_cmp_total.antisymm k l ∙ ap ordering_reverse h.0 in
    rw above (ap (member l e) (put_last k v ms h.1))

below_last : (ms : Members) (l k : List ℕ) (v : Data) → AllBelow ms l → slice_cmp nat_cmp l k ≡ Less → AllBelow (joined ms (member l v no_members)) k
below_last no_members l k v h lt = (lt, tt)
below_last (member j e ms) l k v h lt = (nat_list_cmp_total.trans j l k h.0 lt, below_last ms l k v h.1 lt)

-- a key is above those before and the one that was put
pub below_put : (ms : Members) (l k : List ℕ) (v : Data) → AllBelow ms l → slice_cmp nat_cmp l k ≡ Less → AllBelow (put l v ms) k
below_put ms l k v h lt = rw (put_last l v ms h) (below_last ms l k v h lt)

joined_on : (ms more : Members) (k : List ℕ) (v : Data) → joined (joined ms (member k v no_members)) more ≡ joined ms (member k v more)
joined_on no_members more k v = refl
joined_on (member l e ms) more k v = ap (member l e) (joined_on ms more k v)

pub put_on : (ms more : Members) (k : List ℕ) (v : Data) → AllBelow ms k → joined (put k v ms) more ≡ joined ms (member k v more)
put_on ms more k v h = ap (λ m. joined m more) (put_last k v ms h) ∙ joined_on ms more k v
