use Rattle.std.proofs.Common.{[], string_bytes, drop, ◌≡◌, ◌∷◌, sym, ap, ◌∙◌, arith}
use Rattle.std.proofs.lemmas.List.{drop_all}
use Rattle.serde_json.specs.View.{view, items_view, members_view}
use Rattle.serde_json.proofs.Views.{Entry}
use Rattle.osb_pyjson.specs.Written.{after}
use Rattle.osb_pyjson.proofs.Writing.{items_text, members_text, member_text, items_text-ends, members_text-ends, members_text-turn, members_have_float-turn}
use Rattle.osb_pyjson.proofs.writers.+py.Goals as goal

pub write_items-returns-clause-text : goal.write_items-returns-clause-text
write_items-returns-clause-text t c =
    let l = c.loop-item in
    let xs = c.args.items.now in
    let none : drop l.item-index xs ≡ [] = drop_all l.item-index xs (omega arith) in
    let kept = ap (λ vs. after (string_bytes l.out) (items_text l.is_first (items_view vs))) (sym none) ∙ l.invariant.text in
    items_text-ends (string_bytes c.args.out.now) (string_bytes c.push_str.new.self) (string_bytes l.out) (string_bytes c.push_str-2.new.self) l.is_first (items_view xs) c.in_ok-push_str.ensures.bytes kept c.in_ok-push_str-2.ensures.bytes

pub write_members-loop-key-preserved : goal.write_members-loop-key-preserved
write_members-loop-key-preserved t c =
    let l = c.loop-key in
    let e : Entry = (c.in-Some.key.now, c.in-Some.member.now) in
    let taken : l.key-iterator ≡ e ∷ c.next.new.self = c.in-Some.ensures.steps in
    let written = ap (λ k. after (string_bytes c.write_separator.new.out) (member_text k (view c.in-Some.member.now))) (sym c.as_str.ensures.value) ∙ c.in_ok-write_member.ensures.text in
    let turn = members_text-turn l.key-iterator c.next.new.self e l.is_first (string_bytes l.out) (string_bytes c.write_separator.new.out) (string_bytes c.write_member.new.out) taken c.in_ok-write_separator.ensures written in
    record {
      text = turn ∙ l.invariant.text;
      float = λ h. l.invariant.float (members_have_float-turn l.key-iterator c.next.new.self e taken h);
    }

pub write_members-returns-clause-text : goal.write_members-returns-clause-text
write_members-returns-clause-text t c =
    let l = c.loop-key in
    let kept = ap (λ es. after (string_bytes l.out) (members_text l.is_first (members_view es))) (sym c.in-None.ensures.steps.0) ∙ l.invariant.text in
    members_text-ends (string_bytes c.args.out.now) (string_bytes c.push_str.new.self) (string_bytes l.out) (string_bytes c.push_str-2.new.self) l.is_first c.args.members.now.entries c.iter-key-items.ensures.ordered c.in_ok-push_str.ensures.bytes kept c.in_ok-push_str-2.ensures.bytes
