use Rattle.std.proofs.Common.{◌≡◌, true, drop, string_bytes}
use Rattle.serde_json.specs.View.{items_view, members_view}
use Rattle.serde_json.specs.Written.{items_have_float, members_have_float}
use Rattle.osb_pyjson.specs.Written.{after}
use Rattle.osb_pyjson.proofs.Writing.{items_text, members_text}
use Rattle.osb_pyjson.proofs.writers.+py.Given as goal

-- what is written, and then the rest, is what was to be written at first
abbrev pub invariant-write_items-loop-item : goal.invariant-write_items-loop-item
invariant-write_items-loop-item l = record {
  text : after (string_bytes l.out) (items_text l.is_first (items_view (drop l.item-index l.items)))
      ≡ after (string_bytes l.initial.out) (items_text true (items_view l.items));
  float : items_have_float (items_view (drop l.item-index l.items)) ≡ true → items_have_float (items_view l.items) ≡ true;
}

abbrev pub invariant-write_members-loop-key : goal.invariant-write_members-loop-key
invariant-write_members-loop-key l = record {
  text : after (string_bytes l.out) (members_text l.is_first (members_view l.key-iterator))
      ≡ after (string_bytes l.initial.out) (members_text true (members_view l.members.entries));
  float : members_have_float (members_view l.key-iterator) ≡ true → members_have_float (members_view l.members.entries) ≡ true;
}
