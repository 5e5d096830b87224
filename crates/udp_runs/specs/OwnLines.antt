-- The lines of the text of a node that runs by itself.
use Rattle.std.specs.Prelude.{◌≡◌, ⊤, ℕ, Bool, true, List, [], ◌++◌, map, filter_map, option_map, Option, None, Some, codes}
use Rattle.std.specs.Fmt.{decimal}
use Rattle.std.specs.Option.{option_map_or}
use Rattle.address.specs.Ids.{Address, ViewId, text_of_address, text_of_view_id}
use Rattle.trace_props.specs.declared.event.Event.{Event}
use Rattle.trace_props.specs.Observed.{member_of}
use Rattle.vsync_text.specs.TraceText.{line_of, line_with, field}
use Rattle.channel.specs.Channels.{ChannelModel, view_in, receiver_in, stable_in}

-- something happened; so many messages of its view are stable, as far as the member of an address knows; or this is its state, unless it has ended
pub data OwnLine (S : Type 0) : Type 0 where
  Happened : Event → OwnLine S
  Knows : Address → ViewId → ℕ → OwnLine S
  InState : Address → Option S → OwnLine S

abbrev pub stable_line : Address → ViewId → ℕ → List ℕ
stable_line p view count = line_with (codes "stable") (field (text_of_address p) ++ field (text_of_view_id view) ++ field (decimal count))

abbrev pub text_of : {S : Type 0} → (Address → S → List ℕ) → OwnLine S → List ℕ
text_of line_of_state (Happened event) = line_of event
text_of line_of_state (Knows p view count) = stable_line p view count
text_of line_of_state (InState p state) = option_map_or (line_of_state p) state []

abbrev pub texts_of : {S : Type 0} → (Address → S → List ℕ) → List (OwnLine S) → List (List ℕ)
texts_of line_of_state lines = map (text_of line_of_state) lines

-- what happened
abbrev pub event_in : {S : Type 0} → OwnLine S → Option Event
event_in (Happened event) = Some event
event_in (Knows p view count) = None
event_in (InState p state) = None

abbrev pub events_in : {S : Type 0} → List (OwnLine S) → List Event
events_in lines = filter_map event_in lines

-- it shows no state
abbrev pub IsPlain : {S : Type 0} → OwnLine S → Type 0
IsPlain (Happened event) = ⊤
IsPlain (Knows p view count) = ⊤
IsPlain (InState p state) = ⊥

-- it is of the member of this address
abbrev pub IsOwn : {S : Type 0} → Address → OwnLine S → Type 0
IsOwn member (Happened event) = member_of event ≡ member
IsOwn member (Knows p view count) = p ≡ member
IsOwn member (InState p state) = p ≡ member

-- it says what a channel knows: what is stable, where such lines are written; or its state
abbrev pub Says : {S : Type 0} → Bool → ChannelModel S → OwnLine S → Type 0
Says stable channel (Happened event) = ⊥
Says stable channel (Knows p view count) =
    (stable ≡ true) × (p ≡ channel.address) × (option_map (λ v. v.id) (view_in channel.stage) ≡ Some view) × (count ≡ stable_in channel.stage)
Says stable channel (InState p state) = state ≡ receiver_in channel.stage
