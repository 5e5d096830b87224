use Rattle.std.proofs.Common.{rules}
use Rattle.next_view.proofs.notes.ViewNotes.leads.Goals as goal

pub returns : goal.returns
returns c = search rules
