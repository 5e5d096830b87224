-- What stands between the events of a script's run, for its picture: what was refused, and the packets that were put out and handed over.
use Rattle.std.specs.Prelude.{ℕ, ◌+◌, Bool, true, false, cond, nat_eq, Option, None, Some, List, [], ◌∷◌, ◌++◌, length, drop, slice_get, unwrap_or, option_map, option_and_then}
use Rattle.std.specs.Option.{option_map_or}
use Rattle.std.specs.List.{cons_option}
use Rattle.address.specs.declared.refusal.Refusal.{Refusal}
use Rattle.address.specs.declared.refusal.Refusal.TheVariants.{Memory}
use Rattle.address.specs.Refusals.{number_of}
use Rattle.state_transfer.specs.Meanings.{Meaning}
use Rattle.world_model.specs.declared.WorldEvent.{WorldEvent}
use Rattle.world_model.specs.declared.Target.{Target}
use Rattle.world_model.specs.declared.Target.TheVariants.{Member, Packet}
use Rattle.world_model.specs.declared.Answer.{Answer}
use Rattle.world_model.specs.declared.Answer.TheVariants.{Done, Sent, Refused as IsRefused}
use Rattle.world_model.specs.declared.Reply.{Reply}
use Rattle.world_model.specs.Histories.{History, target_of}
use Rattle.world_model.specs.Packets.{destination_of, packet_numbered, recipient}
use Rattle.world.specs.Worlds.{WorldModel, no_world, WorldStep}
use Rattle.trace_drawing.specs.declared.aside.Aside.{Aside}
use Rattle.trace_drawing.specs.declared.aside.AsideKind.{AsideKind}
use Rattle.trace_drawing.specs.declared.aside.AsideKind.TheVariants.{Refused, PutOut, HandedOver}

-- what was at a node, and goes nowhere
abbrev pub aside_at : ℕ → ℕ → AsideKind → Aside
aside_at place node kind = record { place = place; node = node; towards = node; kind = kind }

-- ---- what was refused

-- a refusal by whom an event concerns: a delivery is refused for want of memory alone
abbrev pub refused_by : ℕ → ℕ → Refusal → Target → Option Aside
refused_by line place r (Member node) = Some (aside_at place node (Refused line r))
refused_by line place r (Packet k) = None

-- what was refused at a place, unless it is that memory was
abbrev pub refused_at : ℕ → ℕ → Target → Answer → Option Aside
refused_at line place target Done = None
refused_at line place target (Sent n) = None
refused_at line place target (IsRefused r) = cond (nat_eq (number_of r) (number_of Memory)) None (refused_by line place r target)

-- what was refused of the event of a line, at the place of the reply
abbrev pub refused_of : ℕ → WorldEvent → Reply → Option Aside
refused_of line event reply = refused_at line reply.place (target_of event) reply.answer

-- ---- packets

-- to whom the packet of a number goes
abbrev pub destination_in : ℕ → List (List ℕ) → Option ℕ
destination_in k pool = option_map (λ p. p.node) (option_and_then destination_of (packet_numbered k pool))

-- at which node an event is carried out: a delivery at that of its packet's destination
abbrev pub site_of : Target → List (List ℕ) → Option ℕ
site_of (Member node) pool = Some node
site_of (Packet k) pool = destination_in k pool

-- the packet that an event hands over, where a member runs to whom it goes
abbrev pub handed_over : Target → History → Option Aside
handed_over (Member node) h = None
handed_over (Packet k) h = option_map (λ p. aside_at (length h.trace) p.node (HandedOver k)) (recipient k h)

-- a packet that is put out at a node, towards that of its destination
abbrev pub put_out : ℕ → ℕ → ℕ → List ℕ → Aside
put_out place node number bytes = record { place = place; node = node; towards = option_map_or (λ p. p.node) (destination_of bytes) node; kind = PutOut number }

-- the number of the packet that is put out
abbrev pub put_out_in : AsideKind → Option ℕ
put_out_in (Refused line r) = None
put_out_in (PutOut number) = Some number
put_out_in (HandedOver number) = None

abbrev pub put_out_number : Aside → Option ℕ
put_out_number a = put_out_in a.kind

-- packets that are put out at a node, behind so many others
abbrev pub put_out_behind : ℕ → ℕ → ℕ → List (List ℕ) → List Aside
put_out_behind place node past [] = []
put_out_behind place node past (bytes ∷ packets) = put_out place node (past + 1) bytes ∷ put_out_behind place node (past + 1) packets

-- the same where the node is known
abbrev pub put_out_at : ℕ → Option ℕ → ℕ → List (List ℕ) → List Aside
put_out_at place None past packets = []
put_out_at place (Some node) past packets = put_out_behind place node past packets

-- ---- what stands beside the events of one step, between the histories before and after it

-- what was refused of the event of a line
abbrev pub refused_between : ℕ → WorldEvent → History → History → Option Aside
refused_between line e old new = option_and_then (refused_of line e) (slice_get new.replies (length old.replies))

-- the packets that were put out
abbrev pub put_out_between : WorldEvent → History → History → List Aside
put_out_between e old new = put_out_at (length new.trace) (site_of (target_of e) old.pool) (length old.pool) (drop (length old.pool) new.pool)

-- with packets: the one that is handed over stands before the step's events, those that are put out behind them; without: what was refused alone
abbrev pub asides_between : Bool → ℕ → WorldEvent → History → History → List Aside
asides_between true line e old new = cons_option (handed_over (target_of e) old) (cons_option (refused_between line e old new) (put_out_between e old new))
asides_between false line e old new = cons_option (refused_between line e old new) []

-- the line of the event of an index
abbrev pub line_at : List ℕ → ℕ → ℕ
line_at lines index = unwrap_or (slice_get lines index) 0

-- ---- a run, step by step

-- a world came from nothing by these events, of these lines, and this stands beside what happened
pub data HasAsides {S : Type 0} (meaning : Meaning S) (packets : Bool) (lines : List ℕ) : List WorldEvent → WorldModel S → List Aside → Type 0 where
  Nothing : HasAsides meaning packets lines [] no_world []
  Next : (events : List WorldEvent) (mid : WorldModel S) (asides : List Aside) (e : WorldEvent) (new : WorldModel S) → HasAsides meaning packets lines events mid asides → WorldStep meaning mid e new
      → HasAsides meaning packets lines (events ++ e ∷ []) new (asides ++ asides_between packets (line_at lines (length events)) e mid.history new.history)
