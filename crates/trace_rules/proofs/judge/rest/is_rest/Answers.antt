use Rattle.std.proofs.Common.{◌∙◌, sym, ap, refl, arith, true≢false, length}
use Rattle.std.proofs.lemmas.Option.{slice_get_read}
use Rattle.std.specs.Option.{option_copied}
use Rattle.trace_rules.specs.Judged.{is_numbered}
use Rattle.trace_rules.specs.Known.{sent_kept}
use Rattle.trace_rules.proofs.TestsOfViewChanges.{rest-differs, rest-more, rest-all}
use Rattle.trace_rules.proofs.judge.rest.is_rest.Goals as goal

-- a message is another
pub returns-then-not-is_numbered : goal.returns-then-not-is_numbered
returns-then-not-is_numbered c = (
  (λ e. absurd (true≢false (sym e))),
  rest-differs c.args.messages.now (sent_kept (option_copied c.args.kept)) c.args.start c.loop-index.index c.index-messages-index.result c.is_numbered.result
      (slice_get_read c.args.messages.now (length c.args.messages.now) c.loop-index.index c.index-messages-index.result refl (omega arith) c.index-messages-index.is)
      (c.is_numbered.ensures ∙ ap (λ o. is_numbered o c.index-messages-index.result) c.sent_at.ensures)
      c.if-not-is_numbered.true,
)

-- one more message
pub loop-index-preserved : goal.loop-index-preserved
loop-index-preserved c =
    rest-more c.args.messages.now (sent_kept (option_copied c.args.kept)) c.args.start c.loop-index.index c.index-messages-index.result c.is_numbered.result
    (slice_get_read c.args.messages.now (length c.args.messages.now) c.loop-index.index c.index-messages-index.result refl (omega arith) c.index-messages-index.is)
    (c.is_numbered.ensures ∙ ap (λ o. is_numbered o c.index-messages-index.result) c.sent_at.ensures)
    c.if-not-is_numbered.false c.loop-index.invariant

-- all of them
pub returns : goal.returns
returns c = ((λ e. rest-all c.args.messages.now (sent_kept (option_copied c.args.kept)) c.args.start c.loop-index.index (omega arith) (omega arith) c.loop-index.invariant), (λ e. refl))
