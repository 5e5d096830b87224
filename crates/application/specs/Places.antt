-- The places of a member's deliveries in its view.
use Rattle.std.specs.Prelude.{ℕ, ◌+◌, ◌-◌, ◌^◌, min, if◌then◌else◌}
use Rattle.address.specs.Ids.{Address, same_address}
use Rattle.trace_props.specs.declared.event.Event.{Event}
use Rattle.trace_props.specs.declared.event.Event.TheVariants.{Started, Sent, Delivered, Blocked, Installed, Left, Crashed}

-- places are counted in 64 bits
abbrev pub next_place : ℕ → ℕ
next_place n = min (n + 1) (2 ^ 64 - 1)

-- how many messages a member delivered since its last install
abbrev pub place_after : Address → ℕ → Event → ℕ
place_after p n (Started q) = n
place_after p n (Sent m) = n
place_after p n (Delivered d) = if same_address d.member p then next_place n else n
place_after p n (Blocked q) = n
place_after p n (Installed i) = if same_address i.member p then 0 else n
place_after p n (Left q) = n
place_after p n (Crashed q) = n
