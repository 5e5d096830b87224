-- Fencing: each token is granted once, also on two sides of a partition (docs/RECEIVERS.md, "The table of locks").
use Rattle.std.specs.Prelude.{◌≡◌, ◌⊎◌, ◌<◌, ℕ, List, length, take, slice_get, None, Some}
use Rattle.address.specs.Ids.{ViewId}
use Rattle.trace_props.specs.declared.event.Event.{Event}
use Rattle.trace_props.specs.declared.event.Event.TheVariants.{Sent, Delivered, Installed}
use Rattle.trace_props.specs.declared.event.Delivery.{Delivery}
use Rattle.trace_props.specs.declared.event.Sending.{Sending}
use Rattle.trace_props.specs.declared.event.Install.{Install}
use Rattle.trace_props.specs.declared.event.Message.{Message as Carried}
use Rattle.trace_props.specs.Observed.{delivered_in}
use Rattle.trace_props.specs.Rules.{IsBelow as IsViewBelow}
use Rattle.trace_props.specs.State.{state_of}
use Rattle.trace_props.specs.Synchrony.{IsVirtuallySynchronous}
use Rattle.lock_table.specs.declared.command.Command.{Command}
use Rattle.keyed_state.specs.declared.token.Token.{Token}
use Rattle.keyed_state.specs.Tokens.{IsBelow}
use Rattle.lock_table.specs.Locks.{Lock, view_of}
use Rattle.lock_table.specs.Commands.{command_of}
use Rattle.lock_table.specs.Meanings.{table_meaning}
use Rattle.lock_table.specs.Turns.{Message, IsMessage, Grants}

-- a message as the table is given it
abbrev pub message_in : Carried → Message
message_in m = record { from = m.sender; payload = m.payload }

-- GRANT: at a place of the trace a message is delivered to a member, and its table grants a lock by it
pub record Grant (t : List Event) : Type 0 where
  pub place : ℕ
  pub delivery : Delivery
  pub happens : slice_get t place ≡ Some (Delivered delivery)
  pub name : List ℕ
  pub lock : Lock
  pub grants : Grants name (message_in delivery.message) (state_of table_meaning delivery.member (take place t)) lock

-- the view in which it is made
abbrev pub view_at : {t : List Event} → Grant t → ViewId
view_at g = g.delivery.view

abbrev pub token_at : {t : List Event} → Grant t → Token
token_at g = g.lock.token

-- how many messages of its view its member had delivered before: the grant's place in the view's one order
abbrev pub rank_of : {t : List Event} → Grant t → ℕ
rank_of {t} g = length (delivered_in g.delivery.member g.delivery.view (take g.place t))

-- ---- premises

-- each delivered message is one that a table may be given: an address sent it, and it is short
abbrev pub CarriesMessages : List Event → Type 0
CarriesMessages t = (k : ℕ) (d : Delivery) → slice_get t k ≡ Some (Delivered d) → IsMessage (message_in d.message)

-- the creator of a view enters it with its own state. No rule of a trace says so
abbrev pub CoordinatorsKeepTheirs : List Event → Type 0
CoordinatorsKeepTheirs t = (k : ℕ) (i : Install) → slice_get t k ≡ Some (Installed i) → i.member ≡ i.view.id.creator → i.given ≡ None

-- a trace of members that keep the table
pub record IsOfTables (t : List Event) : Type 0 where
  pub synchronous : IsVirtuallySynchronous table_meaning t
  pub messages : CarriesMessages t
  pub own : CoordinatorsKeepTheirs t

-- each command spells the view in which it is sent. The sender sees to that
abbrev pub SpellsViews : List Event → Type 0
SpellsViews t = (k : ℕ) (s : Sending) (c : Command) → slice_get t k ≡ Some (Sent s) → command_of s.message.payload ≡ Some c → view_of c ≡ s.view

-- ---- tokens

-- two grants are one: of the same lock, to the same holder, in the same view
pub record IsOne {t : List Event} (a b : Grant t) : Type 0 where
  pub view : view_at a ≡ view_at b
  pub name : a.name ≡ b.name
  pub lock : a.lock ≡ b.lock

-- FENCED IN A VIEW: two grants in one view with one token are one
abbrev pub FencedInViews : Type 0
FencedInViews = (t : List Event) → IsVirtuallySynchronous table_meaning t → CarriesMessages t → (a b : Grant t)
    → view_at a ≡ view_at b → token_at a ≡ token_at b → IsOne a b

-- TOKENS ARE OF THEIR VIEWS: a grant in a view has a token of that view
abbrev pub TokensOfViews : Type 0
TokensOfViews = (t : List Event) → IsOfTables t → SpellsViews t → (g : Grant t) → (token_at g).view ≡ view_at g

-- FENCED: two grants with one token are one, in any two views, also on two sides of a partition
abbrev pub Fenced : Type 0
Fenced = (t : List Event) → IsOfTables t → SpellsViews t → (a b : Grant t) → token_at a ≡ token_at b → IsOne a b

-- a grant is older than another: in a lower view, or before it in the order of their view
abbrev pub IsOlder : {t : List Event} → Grant t → Grant t → Type 0
IsOlder a b = IsViewBelow (view_at a) (view_at b) ⊎ ((view_at a ≡ view_at b) × (rank_of a < rank_of b))

-- TOKENS RISE: the older one has the lower token
abbrev pub TokensRise : Type 0
TokensRise = (t : List Event) → IsOfTables t → SpellsViews t → (a b : Grant t) → IsOlder a b → IsBelow (token_at a) (token_at b)
