-- Which kinds of verdicts came so far.
use Rattle.std.specs.Prelude.{ℕ, true, List, if◌then◌else◌}
use Rattle.std.specs.List.{list_any}
use Rattle.osb_sources.specs.declared.answers.SourceAnswer.{SourceAnswer}
use Rattle.osb_sources.specs.declared.answers.SourceAnswer.TheVariants.{Missing, Wrong as IsWrong, Fault, ItemTooLarge}
use Rattle.osb_sources.specs.declared.notes.Notes.{Notes}
use Rattle.osb_sources.specs.declared.replies.Reply.{Reply}
use Rattle.osb_sources.specs.declared.replies.Reply.TheVariants.{Failed, TooLarge, Wrong}
use Rattle.osb_sources.specs.Verdicts.{Verdict, is_failed, is_too_large, is_wrong}

abbrev pub notes_of : List Verdict → Notes
notes_of verdicts =
    record { failed = list_any is_failed verdicts; too_large = list_any is_too_large verdicts; wrong = list_any is_wrong verdicts }

abbrev pub with_reply : Notes → Reply → Notes
with_reply notes Failed = record notes { failed = true }
with_reply notes TooLarge = record notes { too_large = true }
with_reply notes Wrong = record notes { wrong = true }
with_reply notes reply = notes

abbrev pub lack_by : Notes → List ℕ → SourceAnswer
lack_by notes digest =
    if notes.failed then Fault digest
    else if notes.too_large then ItemTooLarge digest
    else if notes.wrong then IsWrong digest
    else Missing digest
