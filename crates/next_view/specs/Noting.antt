-- Whom a member notes for its next view.
use Rattle.std.specs.Prelude.{Bool, not, ◌||◌, List, [], ◌∷◌, ◌++◌, filter, length, max, nat_eq, if◌then◌else◌}
use Rattle.std.specs.List.{list_any}
use Rattle.address.specs.Ids.{Address}
use Rattle.view.specs.Members.{View, stands_in}
use Rattle.next_view.specs.ViewNotes.{NotesModel, is_later}
use Rattle.next_view.specs.Candidates.{has_room}

-- ---- one who asks to be let in

-- whether an address, or a later incarnation of its node, stands in a list
abbrev pub is_known : Address → List Address → Bool
is_known p list = stands_in p list || list_any (λ q. is_later q p) list

-- whether it is known in the view, in the list of the own flush, or among those noted
abbrev pub is_known_here : Address → List Address → List Address → NotesModel → Bool
is_known_here p members listed b = (is_known p members || is_known p listed) || (is_known p b.joiners || is_known p b.merging)

-- one more joiner
abbrev pub with_joiner : Address → NotesModel → NotesModel
with_joiner p b = record b { joiners = b.joiners ++ p ∷ [] }

-- a joiner is noted, unless it is known or the candidates would be more than `MEMBERS`
abbrev pub noting : Address → List Address → List Address → Address → NotesModel → NotesModel
noting me members listed p b =
    if is_known_here p members listed b then b
    else if has_room me members (with_joiner p b) then with_joiner p b
    else b

-- ---- those of another view

-- whether an address is neither in the view nor suspected nor noted
abbrev pub is_new : List Address → NotesModel → Address → Bool
is_new members b p = not ((stands_in p members || stands_in p b.suspects) || (stands_in p b.joiners || stands_in p b.merging))

-- those of a list who are new
abbrev pub new_of : List Address → List Address → NotesModel → List Address
new_of members list b = filter (is_new members b) list

-- more who merge
abbrev pub with_merging : List Address → NotesModel → NotesModel
with_merging list b = record b { merging = b.merging ++ list }

-- the new ones of another view are noted and its counter is heard of, unless none is new or the candidates would be more than `MEMBERS`
abbrev pub noting_view : Address → List Address → View → NotesModel → NotesModel
noting_view me members u b =
    let more = with_merging (new_of members u.members b) b in
    if nat_eq (length (new_of members u.members b)) 0 then b
    else if has_room me members more then record more { heard = max b.heard u.id.counter }
    else b
