use Rattle.std.proofs.Common.{List, [], ◌∷◌, ◌++◌, ◌+◌, take, ℕ, sym, ap, ◌∙◌, subst}
use Rattle.std.specs.Bool.{if◌then◌else◌}
use Rattle.std.specs.Result.{is_ok}
use Rattle.trace_props.specs.Recorded.{Recorded}
use Rattle.trace_merge.specs.Merges.{lists_of}
use Rattle.vsync_text.specs.Texts.{IsUnread}
use Rattle.commands.specs.MemberTexts.{member_trace_of}
use Rattle.commands.specs.Processes.{texts_of, AreTracesOf, IsUnreadIn}
use Rattle.commands.proofs.ProcessesWrite.{one-more-read, is-unread}
use Rattle.commands.proofs.processes.read_traces.Goals as goal

pub loop-text-preserved : goal.loop-text-preserved
loop-text-preserved c =
    subst (λ (l : List Recorded). AreTracesOf (take (c.loop-text.text + 1) (texts_of c.args.texts.now)) (lists_of l))
    (sym (c.push.ensures.items ∙ ap (λ r. if is_ok r then c.loop-text.traces.items ++ c.in-Ok.trace ∷ [] else c.loop-text.traces.items) c.in-Ok-push.is))
    (one-more-read c.args.texts.now c.loop-text.text c.index-texts-text.result c.loop-text-test.true c.index-texts-text.is c.loop-text.traces.items c.in-Ok.trace c.loop-text.invariant
    (ap member_trace_of (sym c.as_slice.ensures.value) ∙ c.in-Ok.ensures))

pub returns-in-Err : goal.returns-in-Err
returns-in-Err c =
    subst (IsUnreadIn (texts_of c.args.texts.now)) (sym c.unread_at.ensures)
    (is-unread c.args.texts.now c.loop-text.text c.index-texts-text.result c.loop-text-test.true c.index-texts-text.is c.loop-text.traces.items c.in-Err.unread c.loop-text.invariant
    (subst (λ (b : List ℕ). IsUnread (member_trace_of b) c.in-Err.unread) c.as_slice.ensures.value c.in-Err.ensures))
