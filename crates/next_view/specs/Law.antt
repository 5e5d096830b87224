-- The candidates of one who leads its view are a view's members.
use Rattle.std.specs.Prelude.{◌≡◌, true, false, List, None}
use Rattle.address.specs.Ids.{Address, ViewId}
use Rattle.view.specs.Members.{stands_in}
use Rattle.view.specs.View.{view_refusal}
use Rattle.suspicion.specs.Suspicion.{leads}
use Rattle.next_view.specs.ViewNotes.{NotesModel}
use Rattle.next_view.specs.Candidates.{candidates}

-- whoever leads its members and does not suspect itself has candidates that are a view of each id that it makes
abbrev pub CandidatesAreAView : Type 0
CandidatesAreAView = (id : ViewId) (members : List Address) (b : NotesModel) → leads b.suspects members id.creator ≡ true
    → stands_in id.creator b.suspects ≡ false → view_refusal id (candidates id.creator members b) ≡ None
