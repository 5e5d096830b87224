use Rattle.std.proofs.Common.{◌∙◌, sym, ap, cond, Some, rules}
use Rattle.std.specs.HashMap.{get}
use Rattle.std.proofs.lemmas.Result.{on_ok_weaker}
use Rattle.address.specs.Ids.{same_view_id}
use Rattle.trace_drawing.specs.Layout.{same_message, sends, installs}
use Rattle.trace_drawing.proofs.KeepKnown.{lasts-noted}
use Rattle.trace_drawing.proofs.FirstAndLast.{last-miss}
use Rattle.trace_drawing.proofs.known.note_origin.Goals as goal

-- the message is sent last in this row
pub returns-in-Sent : goal.returns-in-Sent
returns-in-Sent c = on_ok_weaker c.put_row.result (λ is t at sent installed. (
  lasts-noted sends (get same_message c.args.sends.now) (get same_message c.put_row.new.table) t c.args.event.now c.args.number at
      (λ q. is q ∙ ap (λ e. cond (sends q e) (Some c.args.number) (get same_message c.args.sends.now q)) (sym c.in-Sent.is)) sent,
  λ q. installed q ∙ sym (last-miss (installs q) t c.args.event.now (ap (installs q) c.in-Sent.is)),
)) c.put_row.ensures

-- the view is installed last in this row
pub returns-in-Installed : goal.returns-in-Installed
returns-in-Installed c = on_ok_weaker c.put_row-in-Installed.result (λ is t at sent installed. (
  λ q. sent q ∙ sym (last-miss (sends q) t c.args.event.now (ap (sends q) c.in-Installed.is)),
  lasts-noted installs (get same_view_id c.args.installs.now) (get same_view_id c.put_row-in-Installed.new.table) t c.args.event.now c.args.number at
      (λ q. is q ∙ ap (λ v. cond (same_view_id v q) (Some c.args.number) (get same_view_id c.args.installs.now q)) (c.id.ensures ∙ ap (λ i. i.view.id) c.get.ensures)
      ∙ ap (λ e. cond (installs q e) (Some c.args.number) (get same_view_id c.args.installs.now q)) (sym c.in-Installed.is)) installed,
)) c.put_row-in-Installed.ensures

-- neither
pub returns-in_default : goal.returns-in_default
returns-in_default c = λ t at sent installed. (
  λ q. sent q ∙ sym (last-miss (sends q) t c.args.event.now (search rules)),
  λ q. installed q ∙ sym (last-miss (installs q) t c.args.event.now (search rules)),
)
