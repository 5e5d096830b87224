-- What a socket's net lets through, and when an address that asks to be let in is not heard.
use Rattle.std.specs.Prelude.{◌≡◌, ◌≤◌, ⊤, ℕ, ◌+◌, ◌*◌, ◌-◌, Bool, true, false, not, ◌&&◌, ◌||◌, List, map, min, max, Option, None, Some, nat_lt, nat_le, nat_eq, MatchOption, if◌then◌else◌}
use Rattle.std.specs.List.{list_any}
use Rattle.std.specs.Option.{option_map_or}
use Rattle.address.specs.Ids.{Address, ViewId}
use Rattle.view.specs.Members.{View, stands_in}
use Rattle.view.specs.View.{view_refusal}
use Rattle.wire_values.specs.declared.packet.Body.{Body}
use Rattle.wire_values.specs.declared.packet.Body.TheVariants as bodies
use Rattle.wire_values.specs.declared.packet.Packet.{Packet}
use Rattle.udp_net.specs.declared.asker.Asker.{Asker}
use Rattle.udp_net.specs.declared.asker.Stage.{Stage}
use Rattle.udp_net.specs.declared.asker.Stage.TheVariants.{Free, Window, Pause}
use Rattle.udp_net.specs.declared.TheConstants.{FIRST_PAUSE, LONGEST_PAUSE, CALM, FURTHEST}

-- ---- where the member is

-- the view that it is in, if it is in one
abbrev pub standing : Option ViewId → List Address → Option View
standing None members = None
standing (Some id) members = option_map_or (λ _. None) (view_refusal id members) (Some (record { id = id; members = members }))

-- whether it is in a view, and an address is in it; or is not
abbrev pub is_inside : Address → Option View → Bool
is_inside a view = option_map_or (λ v. stands_in a v.members) view false

abbrev pub is_outside : Address → Option View → Bool
is_outside a view = option_map_or (λ v. not (stands_in a v.members)) view false

-- ---- an address that asks

-- nobody of this node asked yet
abbrev pub unasked : ℕ → Asker
unasked node = record { node = node; latest = None; stage = Free; next_pause = FIRST_PAUSE; calm = 0 }

-- an address is of this node, and of a later incarnation than the latest one that asked
abbrev pub is_later : Address → Asker → Bool
is_later a s = option_map_or (λ last. nat_lt last.incarnation a.incarnation) s.latest true

-- whether an address that asks is not to be heard
abbrev pub in_pause : Stage → Bool
in_pause Free = false
in_pause (Window left) = false
in_pause (Pause left) = true

abbrev pub is_barred_by : Address → Asker → Bool
is_barred_by a s = nat_eq s.node a.node && (not (is_later a s) && in_pause s.stage)

abbrev pub is_barred : Address → List Asker → Bool
is_barred a askers = list_any (is_barred_by a) askers

-- it asks, and is heard: the first time that opens a window of so many rounds
abbrev pub opened : ℕ → Stage → Stage
opened silent Free = Window silent
opened silent (Window left) = Window left
opened silent (Pause left) = Pause left

abbrev pub asking : ℕ → Address → Asker → Asker
asking silent a s =
    if not (nat_eq s.node a.node) then s
    else if is_later a s then record { node = s.node; latest = Some a; stage = Window silent; next_pause = FIRST_PAUSE; calm = 0 }
    else record s { stage = opened silent s.stage }

-- a round is over in which it is not in the view: a window that ends is followed by a pause, twice as long as the last one
abbrev pub stage_after : ℕ → Stage → Stage
stage_after pause Free = Free
stage_after pause (Window left) = if nat_le left 1 then Pause pause else Window (left - 1)
stage_after pause (Pause left) = if nat_le left 1 then Free else Pause (left - 1)

abbrev pub pause_after : ℕ → Stage → ℕ
pause_after pause Free = pause
pause_after pause (Window left) = if nat_le left 1 then min (2 * pause) LONGEST_PAUSE else pause
pause_after pause (Pause left) = pause

-- for how many rounds in a row its latest address is in the view, `CALM` at most
abbrev pub calm_after : Option View → Asker → ℕ
calm_after view s = if option_map_or (λ a. is_inside a view) s.latest false then min (s.calm + 1) CALM else 0

-- a round is over; after `CALM` rounds in a row in the view it starts afresh
abbrev pub waited : Option View → Asker → Asker
waited view s =
    if nat_eq (calm_after view s) CALM
    then record s { stage = Free; next_pause = FIRST_PAUSE; calm = CALM }
    else record s { stage = stage_after s.next_pause s.stage; next_pause = pause_after s.next_pause s.stage; calm = calm_after view s }

-- ---- what goes through

-- the greatest counter of a view, a proposal or a BEHIND in a packet; 0 if there is none
abbrev pub counter_of : Body → ℕ
counter_of bodies.Join = 0
counter_of (bodies.Redirect coordinator) = 0
counter_of bodies.Leave = 0
counter_of (bodies.Forward view number payload) = view.counter
counter_of (bodies.Order view place entry) = view.counter
counter_of (bodies.Nak view missing) = view.counter
counter_of (bodies.Ack view delivered) = view.counter
counter_of (bodies.Status view progress) = view.counter
counter_of (bodies.Flush proposal) = proposal.id.counter
counter_of (bodies.Behind proposal counter) = max proposal.counter counter
counter_of (bodies.Report proposal report) = proposal.counter
counter_of (bodies.Install install) = install.view.id.counter
counter_of (bodies.Merge view) = view.id.counter
counter_of (bodies.State proposal chunk) = proposal.counter

abbrev pub is_join : Body → Bool
is_join bodies.Join = true
is_join b = false

abbrev pub is_flush : Body → Bool
is_flush (bodies.Flush proposal) = true
is_flush b = false

abbrev pub is_merge : Body → Bool
is_merge (bodies.Merge view) = true
is_merge b = false

-- where the member is, who asked, for how many rounds an address is heard that asks, and whether words are said here
pub record SieveModel : Type 0 where
  pub view : Option View
  pub askers : List Asker
  pub silent : ℕ
  pub says_words : Bool

-- it is in a view, and the packet's counter is absurdly far ahead of it
abbrev pub is_absurd : Option View → Body → Bool
is_absurd view b = option_map_or (λ v. nat_lt (v.id.counter + FURTHEST) (counter_of b)) view false

-- where words are said, views do not merge
abbrev pub would_merge : SieveModel → Packet → Bool
would_merge s p = s.says_words && (is_merge p.body || (is_flush p.body && is_outside p.source s.view))

-- an address outside of the view asks for a way in, in its pause
abbrev pub asks_too_soon : SieveModel → Packet → Bool
asks_too_soon s p = (is_join p.body || is_merge p.body) && (is_outside p.source s.view && is_barred p.source s.askers)

-- what the sieve lets through
abbrev pub lets_through : SieveModel → Packet → Bool
lets_through s p = not (is_absurd s.view p.body) && (not (would_merge s p) && not (asks_too_soon s p))

-- a packet that is always let through: no JOIN, no FLUSH and no MERGE, with a counter that is not absurd
pub record IsOrdinary (s : SieveModel) (p : Packet) : Type 0 where
  pub join : is_join p.body ≡ false
  pub flush : is_flush p.body ≡ false
  pub merge : is_merge p.body ≡ false
  pub counter : MatchOption s.view ⊤ (λ v. counter_of p.body ≤ v.id.counter + FURTHEST)

-- a packet that was let through: a JOIN of an address outside of the view opens its window
abbrev pub hearing : Packet → SieveModel → SieveModel
hearing p s = if is_join p.body && is_outside p.source s.view then record s { askers = map (asking s.silent p.source) s.askers } else s

-- a round is over, and the member is there now
abbrev pub passing : Option View → SieveModel → SieveModel
passing view s = record s { view = view; askers = map (waited view) s.askers }
