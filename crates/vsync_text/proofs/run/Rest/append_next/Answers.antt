use Rattle.std.proofs.Common.{◌<◌, ◌∷◌, [], ◌++◌, ◌∙◌, ap, sym, length, get_or, append-nil, arith}
use Rattle.std.proofs.lemmas.Bool.Decides.{nat_tests}
use Rattle.vsync_text.specs.TraceText.{line_of}
use Rattle.vsync_text.specs.Runs.{answer_lines}
use Rattle.vsync_text.proofs.LinesWritten.{next_event, answer_next, steps_fall}
use Rattle.vsync_text.proofs.run.Rest.append_next.Goals as goal

-- the line of an event
pub returns-then-self-place-clause-next : goal.returns-then-self-place-clause-next
returns-then-self-place-clause-next c =
    let rises : c.args.self.now.from < c.in-Some-split_first.reply.now.place = grind (arith, nat_tests) in
    let inside : c.args.self.now.from < length c.args.self.now.events.now = grind (arith, nat_tests) in
    λ more. record {
      these = line_of (get_or c.args.self.now.events.now c.args.self.now.from c.index-self-self.result) ∷ [];
      appended = c.in_ok-append_event.ensures.text ∙ ap (λ t. c.args.out.now.items ++ t) (sym (append-nil _));
      split = next_event _ _ _ _ _ _ _ _ _ c.in-Some.ensures.cases.0 c.in-Some-split_first.ensures.cases.0 rises inside;
      less = omega arith;
    }

-- the answer behind the events
pub returns-clause-next : goal.returns-clause-next
returns-clause-next c = λ more. record {
  these = answer_lines c.in-Some.line.now c.in-Some-split_first.reply.now.answer;
  appended = c.in_ok-append_answer.ensures.text;
  split = answer_next _ _ _ _ _ _ _ _ c.in-Some.ensures.cases.0 c.in-Some-split_first.ensures.cases.0 (λ rises inside. grind (arith, nat_tests));
  less = steps_fall _ _ _ _ _ (ap length c.in-Some.ensures.cases.0);
}
