-- Whom a message has reached (docs/HTTP.md, "Stable writes").
use Rattle.std.specs.Prelude.{Bool, false, ◌&&◌, Option, nat_le, if◌then◌else◌}
use Rattle.std.specs.Option.{option_map_or}
use Rattle.address.specs.Ids.{ViewId, same_view_id}
use Rattle.tickets.specs.declared.reach.Place.{Place}
use Rattle.tickets.specs.declared.reach.Reach.{Reach}
use Rattle.tickets.specs.declared.reach.Reach.TheVariants.{Everybody, Pending, Unknown}

-- what is known to be stable covers a place: it is of the same view, and as far
abbrev pub covers : Place → Place → Bool
covers at known = same_view_id known.view at.view && nat_le at.count known.count

-- everybody, where what is stable covers the place; else it may become known in the same view alone
abbrev pub reach_of : Place → Option Place → Option ViewId → Reach
reach_of at stable now =
    if option_map_or (covers at) stable false then Everybody else (if option_map_or (λ v. same_view_id v at.view) now false then Pending else Unknown)
