-- What a member notes beside its view, and how the notes change.
use Rattle.std.specs.Prelude.{ℕ, Bool, not, ◌&&◌, List, [], ◌∷◌, filter, fold, max, nat_eq, nat_lt, if◌then◌else◌}
use Rattle.address.specs.Ids.{Address, same_address}
use Rattle.view.specs.Members.{stands_in}
use Rattle.suspicion.specs.Suspicion.{suspected_too}

-- whom it suspects, who asked to be let in, who of other views may come in, and the greatest counter that it heard of
pub record NotesModel : Type 0 where
  pub suspects : List Address
  pub joiners : List Address
  pub merging : List Address
  pub heard : ℕ

-- nothing is noted
abbrev pub no_notes : NotesModel
no_notes = record { suspects = []; joiners = []; merging = []; heard = 0 }

-- those of a list who are not in another
abbrev pub others_than : List Address → List Address → List Address
others_than members list = filter (λ p. not (stands_in p members)) list

-- after a view of its own making: nobody is suspected, nothing was heard of, and who is in the view is no longer noted
abbrev pub settled : List Address → NotesModel → NotesModel
settled members b = record { suspects = []; joiners = others_than members b.joiners; merging = others_than members b.merging; heard = 0 }

-- a counter was heard of
abbrev pub having_heard : ℕ → NotesModel → NotesModel
having_heard n b = record b { heard = max b.heard n }

-- an address is suspected, and no longer noted
abbrev pub suspecting : Address → NotesModel → NotesModel
suspecting p b = record {
  suspects = suspected_too p b.suspects;
  joiners = others_than (p ∷ []) b.joiners;
  merging = others_than (p ∷ []) b.merging;
  heard = b.heard;
}

-- whether the first is a later incarnation of the second's node
abbrev pub is_later : Address → Address → Bool
is_later p q = nat_eq p.node q.node && nat_lt q.incarnation p.incarnation

-- a member is suspected where p is a later incarnation of its node, but never `me`
abbrev pub outdates : Address → Address → NotesModel → Address → NotesModel
outdates me p b q = if is_later p q && not (same_address q me) then suspecting q b else b

-- each member of which p is a later incarnation is suspected, but never `me`
abbrev pub outdating : Address → List Address → Address → NotesModel → NotesModel
outdating me members p b = fold (outdates me p) b members
