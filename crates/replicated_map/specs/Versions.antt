-- Versions rise along the messages, and none comes back (docs/RECEIVERS.md, "The map's state").
use Rattle.std.specs.Prelude.{◌≡◌, ◌≢◌, true, ℕ, List, Some, fold}
use Rattle.std.specs.Ordering.{is_lt}
use Rattle.address.specs.Ids.{ViewId, view_id_cmp}
use Rattle.trace_props.specs.declared.event.Message.{Message}
use Rattle.keyed_state.specs.declared.token.Token.{Token}
use Rattle.keyed_state.specs.Tokens.{IsBelow}
use Rattle.replicated_map.specs.declared.command.Command.{Command}
use Rattle.replicated_map.specs.declared.entries.Held.{Held}
use Rattle.replicated_map.specs.Entries.{MapState, IsMap, held_of, version_in}
use Rattle.replicated_map.specs.Commands.{command_of, map_apply}
use Rattle.replicated_map.specs.Outcomes.{Asks}

abbrev pub after : MapState → Message → MapState
after s m = map_apply s m.sender m.payload

abbrev pub after_all : MapState → List Message → MapState
after_all s messages = fold after s messages

-- a message gives a key a value with its version: the key has it then, and had it not before
pub record Gives (k : List ℕ) (m : Message) (s : MapState) (h : Held) : Type 0 where
  pub stands : held_of k (after s m) ≡ Some h
  pub new : held_of k s ≢ Some h

-- ABOVE ALL BEFORE: what a message gives has a version above the last one, and so above that of each value that the map holds
abbrev pub AboveAllBefore : Type 0
AboveAllBefore = (s : MapState) (m : Message) (k l : List ℕ) (h g : Held) → IsMap s → Gives k m s h → held_of l s ≡ Some g → IsBelow s.last h.version × IsBelow g.version h.version

-- ABOVE LOWER VIEWS: it is above each version of a lower view than the one in which the message was sent, whether this map ever had it or another one
abbrev pub AboveLowerViews : Type 0
AboveLowerViews = (s : MapState) (m : Message) (c : Command) (view : ViewId) (k l v : List ℕ) (h : Held) (t : Token) → IsMap s → command_of m.payload ≡ Some c → Asks c view l v → Gives k m s h
    → is_lt (view_id_cmp t.view view) ≡ true → IsBelow t h.version

-- VERSIONS RISE: of two messages the later one gives a version above the earlier one's, whatever their keys
abbrev pub VersionsRise : Type 0
VersionsRise = (s : MapState) (m : Message) (messages : List Message) (n : Message) (k l : List ℕ) (h g : Held) → IsMap s → Gives k m s h → Gives l n (after_all (after s m) messages) g → IsBelow h.version g.version

-- NAMES ONE VALUE: if a key has a value of the same version later, it is the same value
abbrev pub NamesOneValue : Type 0
NamesOneValue = (s : MapState) (messages : List Message) (k : List ℕ) (h g : Held) → IsMap s → held_of k s ≡ Some h → held_of k (after_all s messages) ≡ Some g → h.version ≡ g.version → h ≡ g

-- GONE IS GONE: once a message took or replaced a key's value, its version is never again the one of that key
abbrev pub GoneIsGone : Type 0
GoneIsGone = (s : MapState) (m : Message) (messages : List Message) (k : List ℕ) (h : Held) → IsMap s → held_of k s ≡ Some h → held_of k (after s m) ≢ Some h
    → version_in (held_of k (after_all (after s m) messages)) ≢ Some h.version
