use Rattle.std.proofs.Common.{◌≡◌, ℕ, List, ◌++◌, ◌∷◌, [], length, map, codes, string_bytes}
use Rattle.std.proofs.lemmas.Result.{err_from_is_err_and}
use Rattle.std.proofs.lemmas.List.{map_push}
use Rattle.serde_json.specs.Data.{Data, Members, no_members, put}
use Rattle.serde_json.specs.View.{view, members_view}
use Rattle.serde_json.proofs.Views.{members_view-insert_entry}
use Rattle.osb_pyread.specs.Nests.{Reader, skip_comma, value_at, member_at, items_at, members_at}
use Rattle.osb_pyread.proofs.Loops.{goes_on, is_closed, breaks, is_over}
use Rattle.osb_pyread.proofs.values.+reading.Goals as goal

abbrev item_at : ℕ → Reader
item_at depth bytes = value_at depth (skip_comma bytes)

abbrev add_item : List Data → Data → List Data
add_item items d = items ++ d ∷ []

abbrev add_member : Members → List ℕ × Data → Members
add_member members m = put m.0 m.1 members

-- ---- items

pub read_items-returns-in-Some : goal.read_items-returns-in-Some
read_items-returns-in-Some t c =
    let bytes = c.args.bytes.now in
    is_closed (codes "]") (item_at c.args.depth) add_item (length bytes) c.loop.counter (map view c.loop.items.items) c.loop.rest.now (items_at (value_at c.args.depth) (length bytes) [] bytes) c.loop.invariant c.in-Some.after.now c.loop-test.true c.in-Some.ensures

pub read_items-returns-in_err-item : goal.read_items-returns-in_err-item
read_items-returns-in_err-item t c =
    let bytes = c.args.bytes.now in
    let p = err_from_is_err_and c.from_residual.result c.from_residual.ensures.1 in
    let h = rw c.skip_comma.ensures at c.in_err-item.ensures in
    rw (p.1, p.2) (breaks (codes "]") (item_at c.args.depth) add_item (length bytes) c.loop.counter (map view c.loop.items.items) c.loop.rest.now (items_at (value_at c.args.depth) (length bytes) [] bytes) c.loop.invariant c.in_err-item.field-0.0 c.loop-test.true c.in_default.ensures h)

pub read_items-loop-preserved : goal.read_items-loop-preserved
read_items-loop-preserved t c =
    let bytes = c.args.bytes.now in
    let h = rw c.skip_comma.ensures at c.in_ok-item.ensures in
    let e : map view c.push.new.self.items ≡ map view c.loop.items.items ++ view c.in_ok-item.item ∷ [] = rw c.in_ok-push.ensures.items (map_push _ c.loop.items.items c.in_ok-item.item) in
    rw e (goes_on (codes "]") (item_at c.args.depth) add_item (length bytes) c.loop.counter (map view c.loop.items.items) c.loop.rest.now (items_at (value_at c.args.depth) (length bytes) [] bytes) c.loop.invariant (view c.in_ok-item.item) c.in_ok-item.after.now c.loop-test.true c.in_default.ensures h)

pub read_items-returns : goal.read_items-returns
read_items-returns t c =
    let bytes = c.args.bytes.now in
    is_over (codes "]") (item_at c.args.depth) add_item (length bytes) c.loop.counter (map view c.loop.items.items) c.loop.rest.now (items_at (value_at c.args.depth) (length bytes) [] bytes) c.loop.invariant c.loop-test.false

-- ---- members

pub read_members-returns-in-Some : goal.read_members-returns-in-Some
read_members-returns-in-Some t c =
    let bytes = c.args.bytes.now in
    is_closed (codes "}") (member_at (value_at c.args.depth)) add_member (length bytes) c.loop.counter (members_view c.loop.members.entries) c.loop.rest.now (members_at (value_at c.args.depth) (length bytes) no_members bytes) c.loop.invariant c.in-Some.after.now c.loop-test.true c.in-Some.ensures

pub read_members-returns-in_err-key : goal.read_members-returns-in_err-key
read_members-returns-in_err-key t c =
    let bytes = c.args.bytes.now in
    let p = err_from_is_err_and c.from_residual.result c.from_residual.ensures.1 in
    rw (p.1, p.2) (breaks (codes "}") (member_at (value_at c.args.depth)) add_member (length bytes) c.loop.counter (members_view c.loop.members.entries) c.loop.rest.now (members_at (value_at c.args.depth) (length bytes) no_members bytes) c.loop.invariant c.in_err-key.field-0.0 c.loop-test.true c.in_default.ensures c.in_err-key.ensures)

pub read_members-loop-preserved : goal.read_members-loop-preserved
read_members-loop-preserved t c =
    let bytes = c.args.bytes.now in
    let e : members_view c.insert.new.self.entries ≡ put (string_bytes c.in_ok-key.key) (view c.in_ok-key.value) (members_view c.loop.members.entries) =
    rw c.in_ok-insert.ensures.entries (members_view-insert_entry c.loop.members.entries c.in_ok-key.key c.in_ok-key.value) in
    rw e (goes_on (codes "}") (member_at (value_at c.args.depth)) add_member (length bytes) c.loop.counter (members_view c.loop.members.entries) c.loop.rest.now (members_at (value_at c.args.depth) (length bytes) no_members bytes) c.loop.invariant (string_bytes c.in_ok-key.key, view c.in_ok-key.value) c.in_ok-key.after.now c.loop-test.true c.in_default.ensures c.in_ok-key.ensures)

pub read_members-returns : goal.read_members-returns
read_members-returns t c =
    let bytes = c.args.bytes.now in
    is_over (codes "}") (member_at (value_at c.args.depth)) add_member (length bytes) c.loop.counter (members_view c.loop.members.entries) c.loop.rest.now (members_at (value_at c.args.depth) (length bytes) no_members bytes) c.loop.invariant c.loop-test.false
