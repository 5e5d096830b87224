-- The conditions on the next event as tests, over what is known of the past.
use Rattle.std.specs.Prelude.{Bool, true, false, ◌&&◌, not, Option, None, Some, List, length, nat_eq, is_some}
use Rattle.std.specs.List.{list_all}
use Rattle.std.specs.Option.{option_map_or}
use Rattle.std.specs.Ordering.{is_lt}
use Rattle.std.specs.Str.{bytes_eq}
use Rattle.std.specs.Cmp.Lexicographic.{pointwise}
use Rattle.address.specs.Ids.{Address, ViewId, same_address, same_view_id, view_id_cmp}
use Rattle.view.specs.Members.{stands_in}
use Rattle.trace_props.specs.declared.event.Event.{Event}
use Rattle.trace_props.specs.declared.event.Event.TheVariants.{Started, Sent, Delivered, Blocked}
use Rattle.trace_props.specs.declared.event.Numbered.{Numbered}
use Rattle.trace_props.specs.declared.event.Message.{Message}
use Rattle.trace_props.specs.declared.event.Install.{Install}
use Rattle.trace_rules.specs.declared.known.standing.Standing.{Standing}
use Rattle.trace_props.specs.Observed.{delivered_in, entry_of, first_install}
use Rattle.trace_props.specs.Agreeing.{is_view, first_from}

-- WELL PLACED

abbrev pub runs : Standing → Bool
runs s = s.started && not s.ended

-- whether an event may stand where its member stands so
abbrev pub stands : Standing → Event → Bool
stands s (Started p) = not s.started
stands s (Sent m) = runs s && is_view m.view s.view && not s.blocked
stands s (Delivered d) = runs s && is_view d.view s.view
stands s (Blocked p) = runs s && is_some s.view && not s.blocked
stands s h = runs s

-- RISING VIEWS

abbrev pub same_previous : Option ViewId → Option ViewId → Bool
same_previous None None = true
same_previous None (Some v) = false
same_previous (Some u) None = false
same_previous (Some u) (Some v) = same_view_id u v

abbrev pub is_below : Option ViewId → ViewId → Bool
is_below from w = option_map_or (λ v. is_lt (view_id_cmp v w)) from true

abbrev pub has_members : Option Install → List Address → Bool
has_members first members = option_map_or (λ f. pointwise same_address f.view.members members) first true

abbrev pub rises : Option ViewId → Option Install → Install → Bool
rises current first i = stands_in i.member i.view.members && same_previous i.previous current && is_below i.previous i.view.id && has_members first i.view.members

-- SOUND MESSAGES AND HANDED BACK

-- equal in number and payload
abbrev pub is_numbered : Option Numbered → Numbered → Bool
is_numbered None m = false
is_numbered (Some n) m = nat_eq n.number m.number && bytes_eq n.payload m.payload

-- ONE ORDER

abbrev pub is_message : Option Message → Message → Bool
is_message None m = false
is_message (Some n) m = same_address n.sender m.sender && nat_eq n.number m.number && bytes_eq n.payload m.payload

-- SAME NEXT VIEW

-- as many messages as the first who went from the same view to the same next, if there is one
abbrev pub meets : Option ViewId → Install → List Event → Bool
meets previous i t =
    option_map_or (λ v. option_map_or (λ f. nat_eq (length (delivered_in f.member v t)) (length (delivered_in i.member v t))) (first_from v i.view.id t) true) previous true

-- TOGETHER

abbrev pub lies_within : List Address → List Address → Bool
lies_within ps qs = list_all (λ q. stands_in q qs) ps

-- in the members of the view's first install, if there is one
abbrev pub inside_previous : Option ViewId → List Address → List Event → Bool
inside_previous previous together t = option_map_or (λ v. option_map_or (λ f. lies_within together f.view.members) (first_install v t) true) previous true

-- both or neither
abbrev pub alike : Bool → Bool → Bool
alike true b = b
alike false b = not b

abbrev pub know_each_other : Option Install → Install → Bool
know_each_other entry i =
    option_map_or (λ f. alike (stands_in f.member i.together) (same_previous f.previous i.previous) && alike (stands_in i.member f.together) (same_previous f.previous i.previous)) entry true

abbrev pub knows_all : List Event → Install → Bool
knows_all t i =
    lies_within i.together i.view.members && inside_previous i.previous i.together t && stands_in i.member i.together
    && list_all (λ q. know_each_other (entry_of q i.view.id t) i) i.view.members
