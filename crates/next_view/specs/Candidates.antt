-- Who may be in the next view, and when a next view is due.
use Rattle.std.specs.Prelude.{ℕ, ◌+◌, Bool, not, ◌||◌, Option, None, Some, List, [], ◌∷◌, ◌++◌, filter, fold, find, length, take, max, nat_lt, nat_le, if◌then◌else◌}
use Rattle.std.specs.List.{list_any}
use Rattle.std.specs.Cmp.Lexicographic.{pointwise}
use Rattle.address.specs.Ids.{Address, same_address}
use Rattle.address.specs.declared.limits.TheConstants.{GREATEST_NUMBER, MEMBERS}
use Rattle.view.specs.Members.{stands_in}
use Rattle.next_view.specs.ViewNotes.{NotesModel, is_later}

-- one more, unless suspected or there already
abbrev pub with_one : List Address → List Address → Address → List Address
with_one suspects list p = if stands_in p suspects || stands_in p list then list else list ++ p ∷ []

-- those of a list who are not suspected, each once, in order
abbrev pub unsuspected : List Address → List Address → List Address
unsuspected suspects list = fold (with_one suspects) [] list

-- whether no later incarnation of an address's node is in the list, or it is `me`
abbrev pub is_current : Address → List Address → Address → Bool
is_current me list p = same_address p me || not (list_any (λ q. is_later q p) list)

-- who could be in the next view, were there room: the members, then who asked to be let in, then who merges
abbrev pub all_candidates : Address → List Address → NotesModel → List Address
all_candidates me members b =
    let list = unsuspected b.suspects (members ++ b.joiners ++ b.merging) in
    filter (is_current me list) list

-- who may be in the next view: the first `MEMBERS` of them
abbrev pub candidates : Address → List Address → NotesModel → List Address
candidates me members b = take MEMBERS (all_candidates me members b)

-- whether all who could be in the next view may be
abbrev pub has_room : Address → List Address → NotesModel → Bool
has_room me members b = nat_le (length (all_candidates me members b)) MEMBERS

-- the counter of the next proposal, past the promised one and what was heard of; none past the greatest number
abbrev pub next_counter : ℕ → NotesModel → Option ℕ
next_counter promised b = if nat_lt (max promised b.heard) GREATEST_NUMBER then Some (max promised b.heard + 1) else None

-- the member of the lowest rank that is not suspected
abbrev pub first_unsuspected : List Address → List Address → Option Address
first_unsuspected suspects members = find (λ m. not (stands_in m suspects)) members

-- ---- when a next view is due

-- the candidates are not the members
abbrev pub is_changed : Address → List Address → NotesModel → Bool
is_changed me members b = not (pointwise same_address (candidates me members b) members)

-- one of a proposal's list is suspected
abbrev pub is_broken : List Address → NotesModel → Bool
is_broken listed b = list_any (λ m. stands_in m b.suspects) listed

-- the creator of a proposal is suspected
abbrev pub is_abandoned : Address → NotesModel → Bool
is_abandoned creator b = stands_in creator b.suspects
