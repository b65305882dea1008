use Rattle.std.proofs.Common.{◌≡◌, ◌∷◌, ◌++◌, Ok, sym, ap, ◌∙◌}
use Rattle.serde_json.specs.View.{view, members_view}
use Rattle.std.specs.String.{string_bytes}
use Rattle.osb_stages.specs.Readers.{◌>>=◌, entry, entries}
use Rattle.osb_stages.proofs.Entries.{entries-next}
use Rattle.osb_stages.proofs.readers.entries.Goals as goal

pub loop-name-preserved : goal.loop-name-preserved
loop-name-preserved g c =
    let read_key = g.K.Key.key_of in
    let read = g.T.Item.item_of in
    let before = c.loop-name.items.items in
    let rest = members_view c.next.new.self in
    let first : Ok c.in_ok-entry.field-0 ≡ entry read_key read (string_bytes c.in-Some.name.now) (view c.in-Some.value.now) =
    rw c.as_str.ensures.value at (c.in_ok-entry.ensures (λ e. cc)) in
    let left : c.loop-name.name-iterator ≡ (c.in-Some.name.now, c.in-Some.value.now) ∷ c.next.new.self = rw c.in-Some.is at c.next.ensures.steps in
    ap (λ items. entries read_key read rest >>= λ others. Ok (items ++ others)) c.in_ok-push.ensures.items
    ∙ entries-next read_key read before _ _ rest c.in_ok-entry.field-0 first
    ∙ ap (λ members. entries read_key read (members_view members) >>= λ others. Ok (before ++ others)) (sym left)
    ∙ c.loop-name.invariant
