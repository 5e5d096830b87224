-- All packets that were ever put out, the trace, and what was put out first of each kind: registers that are written once.
use Rattle.std.specs.Prelude.{Bool, false, Option, None, Some, List, if◌then◌else◌}
use Rattle.std.specs.Option.{option_and_then, option_map, option_map_or, option_eq}
use Rattle.address.specs.Ids.{Address, ViewId, same_address, same_view_id}
use Rattle.wire_values.specs.Values.{Report}
use Rattle.wire_values.specs.Values as wire
use Rattle.wire_values.specs.declared.packet.Body.{Body}
use Rattle.wire_values.specs.Posted.{Posted}
use Rattle.wire_values.specs.Kinds.{flush_said, report_said, install_said}
use Rattle.trace_props.specs.declared.event.Event.{Event}
use Rattle.trace_props.specs.Observed.{entry_of}
use Rattle.flush.specs.Cuts.{first_of}

-- all packets that were put out, and what happened
pub record History : Type 0 where
  pub pool : List Posted
  pub trace : List Event

-- ---- what one packet says

-- the list of a proposal, in a FLUSH of it
abbrev pub flush_in : ViewId → Body → Option (List Address)
flush_in w b = option_and_then (λ v. if same_view_id v.id w then Some v.members else None) (flush_said b)

-- the report for a proposal, in a REPORT for it
abbrev pub report_in : ViewId → Body → Option Report
report_in w b = option_and_then (λ p. if same_view_id p.0 w then Some p.1 else None) (report_said b)

-- the instruction to go into a view, in an INSTALL of it
abbrev pub install_in : ViewId → Body → Option wire.Install
install_in w b = option_and_then (λ i. if same_view_id i.view.id w then Some i else None) (install_said b)

abbrev pub report_by : Address → ViewId → Posted → Option Report
report_by p w m = if same_address m.source p then report_in w m.body else None

abbrev pub install_to : Address → ViewId → Posted → Option wire.Install
install_to q w m = if same_address m.destination q then install_in w m.body else None

-- ---- registers: what was put out first

-- the list of a proposal
unfoldable pub flush_of : ViewId → List Posted → Option (List Address)
flush_of w pool = first_of (λ m. flush_in w m.body) pool

-- a member's report for a proposal
unfoldable pub report_of : Address → ViewId → List Posted → Option Report
report_of p w pool = first_of (report_by p w) pool

-- what an address was sent to go into a view
unfoldable pub install_of : ViewId → Address → List Posted → Option wire.Install
install_of w q pool = first_of (install_to q w) pool

-- the previous view with which a member goes into a view, as it reported, or as the view's coordinator installed; None where neither is there
abbrev pub goes_from : History → ViewId → Address → Option (Option ViewId)
goes_from h w q =
    if same_address q w.creator then option_map (λ e. e.previous) (entry_of q w h.trace)
    else option_map (λ r. r.previous) (report_of q w h.pool)

-- whether a member goes into a view from this one
abbrev pub goes_with : History → ViewId → Option ViewId → Address → Bool
goes_with h w v q = option_map_or (λ u. option_eq same_view_id u v) (goes_from h w q) false
