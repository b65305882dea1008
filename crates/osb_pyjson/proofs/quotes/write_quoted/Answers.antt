use Rattle.std.proofs.Common.{lit<, ◌++◌, string_bytes, ap, ◌∙◌}
use Rattle.std.specs.List.{flat_map}
use Rattle.std.specs.Str.{chars}
use Rattle.osb_pyjson.specs.PyText.{py_char}
use Rattle.osb_pyjson.proofs.Writing.{quoted_after}
use Rattle.osb_pyjson.proofs.quotes.write_quoted.Goals as goal

pub returns : goal.returns
returns c =
    let inside = c.in_ok-write_chars.ensures ∙ ap (λ begun. begun ++ flat_map py_char (chars c.args.text.now)) (c.in_ok-push.ensures.bytes ∙ ap (λ q. string_bytes c.args.out.now ++ q) (c.in_ok-push.ensures.ascii (lit< tt))) in
    quoted_after (string_bytes c.args.out.now) (string_bytes c.write_chars.new.out) (string_bytes c.push-2.new.self) c.args.text.now c.utf8.text inside (c.in_ok-push-2.ensures.bytes ∙ ap (λ q. string_bytes c.write_chars.new.out ++ q) (c.in_ok-push-2.ensures.ascii (lit< tt)))
