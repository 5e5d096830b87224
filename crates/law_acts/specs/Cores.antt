-- What a member decides by: its promise, its view and what it keeps of that view, its own flush, the state of its receiver.
use Rattle.std.specs.Prelude.{ℕ, ◌+◌, Bool, ◌&&◌, not, false, Option, None, List, [], map, length, drop, fold, is_some}
use Rattle.std.specs.Map.{lookup}
use Rattle.std.specs.Option.{option_map}
use Rattle.address.specs.Ids.{Address, ViewId, same_address}
use Rattle.view.specs.Members.{View}
use Rattle.wire_values.specs.Values.{Entry, Report}
use Rattle.wire_values.specs.Values as wire
use Rattle.state_transfer.specs.Meanings.{Meaning}
use Rattle.flush.specs.Flushes.{FlushModel}
use Rattle.trace_props.specs.declared.event.Numbered.{Numbered}
use Rattle.trace_props.specs.Observed.{own}
use Rattle.law_acts.specs.Words.{message_for}

-- what is kept of the current view: the counts of messages that are stable, delivered and sent; what is held, by number; the own messages that
-- were sent and not delivered; and at the coordinator, what each has acknowledged, how many of each were ordered, and what waits to be
pub record ViewCore : Type 0 where
  pub stable : ℕ
  pub delivered : ℕ
  pub sent : ℕ
  pub held : List (ℕ × Entry)
  pub outstanding : List Numbered
  pub acks : Address → ℕ
  pub ordered : Address → ℕ
  pub waiting : List Entry

-- at the beginning of a view
abbrev pub fresh_view_core : ViewCore
fresh_view_core = record {
  stable = 0;
  delivered = 0;
  sent = 0;
  held = [];
  outstanding = [];
  acks = λ p. 0;
  ordered = λ p. 0;
  waiting = [];
}

-- a member that runs. installed: whether the promised view is; sent_installs: what it sent to the others of the view that it made; kept_state: the state that it
-- gave to them in chunks; chunks: those that it holds, each for a proposal
pub record Core (S : Type 0) : Type 0 where
  pub me : Address
  pub connected : Bool
  pub promise : Option View
  pub installed : Bool
  pub view : Option View
  pub view_state : ViewCore
  pub flush : Option FlushModel
  pub sent_installs : List (Address × wire.Install)
  pub kept_state : Option (List ℕ)
  pub chunks : List (ViewId × wire.Chunk)
  pub state : S

-- a member that has just started
abbrev pub idle : {S : Type 0} → S → Address → Core S
idle opening p = record {
  me = p;
  connected = false;
  promise = None;
  installed = false;
  view = None;
  view_state = fresh_view_core;
  flush = None;
  sent_installs = [];
  kept_state = None;
  chunks = [];
  state = opening;
}

abbrev pub install_sent_to : Address → List (Address × wire.Install) → Option wire.Install
install_sent_to q kept = lookup (same_address q) kept

-- in a view that is the promised one
abbrev pub is_open : Option View → Bool → Bool
is_open view installed = is_some view && installed

-- in a view, with another promised
abbrev pub is_frozen : Option View → Bool → Bool
is_frozen view installed = is_some view && not installed

abbrev pub id_of : Option View → Option ViewId
id_of view = option_map (λ v. v.id) view

-- what a member reports: the view that it is in, its counts there, and what it holds
abbrev pub report_with : Option View → ViewCore → Report
report_with view view_state = record { previous = id_of view; stable = view_state.stable; delivered = view_state.delivered; held = view_state.held }

-- ---- the delivery of messages

-- what is left of the own messages when these entries are delivered: as many fewer as are its own
abbrev pub left_of : Address → List Entry → List Numbered → List Numbered
left_of p entries outstanding = drop (length (own p (map message_for entries))) outstanding

abbrev pub delivered_more : Address → List Entry → ViewCore → ViewCore
delivered_more p entries t = record t { delivered = t.delivered + length entries; outstanding = left_of p entries t.outstanding }

-- the state after these entries
abbrev pub applied : {S : Type 0} → Meaning S → S → List Entry → S
applied meaning s entries = fold (λ z e. meaning.apply z e.sender e.payload) s entries
