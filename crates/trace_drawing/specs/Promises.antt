-- What holds of every picture: of its rows and columns, of what its lines refer to, and of its texts.
use Rattle.std.specs.Prelude.{◌≡◌, ◌≤◌, ℕ, List, [], ◌∷◌, Bool, true, ◌&&◌, ◌||◌, not, nat_eq}
use Rattle.trace_props.specs.declared.event.Event.{Event}
use Rattle.trace_props.specs.declared.event.Event.TheVariants.{Started, Sent, Delivered, Blocked, Installed, Left, Crashed}
use Rattle.trace_drawing.specs.declared.aside.Aside.{Aside}
use Rattle.trace_drawing.specs.Layout.{sends, installs}

-- an event is reached from another: a delivery from a send of its message, an install from an install of its view
abbrev pub IsReachedFrom : Event → Event → Type 0
IsReachedFrom (Started p) f = ⊥
IsReachedFrom (Sent s) f = ⊥
IsReachedFrom (Delivered d) f = sends (record { view = d.view; sender = d.message.sender; number = d.message.number }) f ≡ true
IsReachedFrom (Blocked p) f = ⊥
IsReachedFrom (Installed i) f = installs i.view.id f ≡ true
IsReachedFrom (Left p) f = ⊥
IsReachedFrom (Crashed p) f = ⊥

-- a byte that neither begins nor ends a mark: no `<` and no `>`
abbrev pub is_no_bracket : ℕ → Bool
is_no_bracket b = not (nat_eq b 60 || nat_eq b 62)

-- a byte that means itself in a text of XML: no `&` either
abbrev pub is_plain : ℕ → Bool
is_plain b = is_no_bracket b && not (nat_eq b 38)

-- asides stand in the order of their places, none of which is before a place
abbrev pub AreInOrder : ℕ → List Aside → Type 0
AreInOrder front [] = Unit {0}
AreInOrder front (r ∷ rs) = (front ≤ r.place) × AreInOrder r.place rs
