-- What becomes of a command at a map, and what that says of the map before and after it (docs/RECEIVERS.md, "What becomes of a command").
use Rattle.std.specs.Prelude.{◌≡◌, ◌≢◌, false, ℕ, List, Option, Some, None, if◌then◌else◌}
use Rattle.address.specs.Ids.{Address, ViewId}
use Rattle.keyed_state.specs.declared.token.Token.{Token}
use Rattle.keyed_state.specs.Tokens.{next_token}
use Rattle.replicated_map.specs.declared.command.Command.{Command}
use Rattle.replicated_map.specs.declared.command.Command.TheVariants.{Put, Remove, Replace, Clear, ReplaceAt, RemoveAt}
use Rattle.replicated_map.specs.declared.entries.Held.{Held}
use Rattle.replicated_map.specs.declared.outcome.Outcome.{Outcome}
use Rattle.replicated_map.specs.declared.outcome.Outcome.TheVariants.{Stored, Removed, Cleared, Full, Differs, Missing, NoCommand}
use Rattle.replicated_map.specs.Entries.{MapState, held, held_of, value_in, version_in, given, is_within, removed, cleared}
use Rattle.replicated_map.specs.Commands.{is_expected, has_version, command_of, map_apply}

-- a put is carried out if the state then is within its limits
abbrev pub put_outcome : ViewId → List ℕ → List ℕ → MapState → Outcome
put_outcome view k v s = if is_within (given view k v s) then Stored (next_token view s.last) else Full

-- a removal is carried out if its key has a value
abbrev pub remove_outcome : Option Held → Outcome
remove_outcome None = Missing
remove_outcome (Some h) = Removed h.version

abbrev pub outcome_of : MapState → Option Command → Outcome
outcome_of s None = NoCommand
outcome_of s (Some (Put view k v)) = put_outcome view k v s
outcome_of s (Some (Remove k)) = remove_outcome (held_of k s)
outcome_of s (Some (Replace view w k v)) = if is_expected (value_in (held_of k s)) w then put_outcome view k v s else Differs (held_of k s)
outcome_of s (Some Clear) = Cleared
outcome_of s (Some (ReplaceAt view version k v)) = if has_version (held_of k s) version then put_outcome view k v s else Differs (held_of k s)
outcome_of s (Some (RemoveAt version k)) = if has_version (held_of k s) version then remove_outcome (held_of k s) else Differs (held_of k s)

-- what becomes of a payload
abbrev pub outcome_at : MapState → List ℕ → Outcome
outcome_at s payload = outcome_of s (command_of payload)

-- ---- commands that give a value

-- the value that a command gives its key, in a view
pub data Asks : Command → ViewId → List ℕ → List ℕ → Type 0 where
  AsksPut : (view : ViewId) (k v : List ℕ) → Asks (Put view k v) view k v
  AsksReplace : (view : ViewId) (w : Option (List ℕ)) (k v : List ℕ) → Asks (Replace view w k v) view k v
  AsksReplaceAt : (view : ViewId) (version : Token) (k v : List ℕ) → Asks (ReplaceAt view version k v) view k v

-- STORED STANDS: a put or a replacement that is stored gives its key its value, of the version that is named: the next one
abbrev pub StoredStands : Type 0
StoredStands = (s : MapState) (from : Address) (payload : List ℕ) (c : Command) (view : ViewId) (k v : List ℕ) (version : Token) → command_of payload ≡ Some c → Asks c view k v → outcome_at s payload ≡ Stored version
    → (version ≡ next_token view s.last) × (map_apply s from payload ≡ given view k v s) × (held_of k (map_apply s from payload) ≡ Some (held version v))

-- REPLACE STANDS: before a replacement that is stored its key has the expected value
abbrev pub ReplaceStands : Type 0
ReplaceStands = (s : MapState) (payload : List ℕ) (view : ViewId) (w : Option (List ℕ)) (k v : List ℕ) (version : Token) → command_of payload ≡ Some (Replace view w k v) → outcome_at s payload ≡ Stored version → value_in (held_of k s) ≡ w

-- VERSION STANDS: before a replacement of a version that is stored its key has a value of that version
abbrev pub VersionStands : Type 0
VersionStands = (s : MapState) (payload : List ℕ) (view : ViewId) (t : Token) (k v : List ℕ) (version : Token) → command_of payload ≡ Some (ReplaceAt view t k v) → outcome_at s payload ≡ Stored version → version_in (held_of k s) ≡ Some t

-- REMOVAL STANDS: before a removal that is carried out its key has a value of the version that is named; it takes the entry out
abbrev pub RemovalStands : Type 0
RemovalStands = (s : MapState) (from : Address) (payload k : List ℕ) (version : Token) → command_of payload ≡ Some (Remove k) → outcome_at s payload ≡ Removed version
    → (version_in (held_of k s) ≡ Some version) × (map_apply s from payload ≡ removed k s)

-- and so does a removal of a version, which is the one that the command names
abbrev pub VersionRemovalStands : Type 0
VersionRemovalStands = (s : MapState) (from : Address) (payload k : List ℕ) (t version : Token) → command_of payload ≡ Some (RemoveAt t k) → outcome_at s payload ≡ Removed version
    → (version ≡ t) × (version_in (held_of k s) ≡ Some t) × (map_apply s from payload ≡ removed k s)

-- FULL IS KEPT OUT: a put or a replacement for which the map is full would make the state exceed its limits, and changes nothing
abbrev pub FullIsKeptOut : Type 0
FullIsKeptOut = (s : MapState) (from : Address) (payload : List ℕ) (c : Command) (view : ViewId) (k v : List ℕ) → command_of payload ≡ Some c → Asks c view k v → outcome_at s payload ≡ Full
    → (is_within (given view k v s) ≡ false) × (map_apply s from payload ≡ s)

-- DIFFERENT IS KEPT: the key of a replacement that differs has what is named, whose value is not the expected one, and nothing changes
abbrev pub DifferentIsKept : Type 0
DifferentIsKept = (s : MapState) (from : Address) (payload : List ℕ) (view : ViewId) (w : Option (List ℕ)) (k v : List ℕ) (x : Option Held) → command_of payload ≡ Some (Replace view w k v) → outcome_at s payload ≡ Differs x
    → (held_of k s ≡ x) × (value_in x ≢ w) × (map_apply s from payload ≡ s)

-- OTHER VERSION IS KEPT: the key of a replacement of a version that differs has what is named, which is not of that version, and nothing changes
abbrev pub OtherVersionIsKept : Type 0
OtherVersionIsKept = (s : MapState) (from : Address) (payload : List ℕ) (view : ViewId) (t : Token) (k v : List ℕ) (x : Option Held) → command_of payload ≡ Some (ReplaceAt view t k v) → outcome_at s payload ≡ Differs x
    → (held_of k s ≡ x) × (version_in x ≢ Some t) × (map_apply s from payload ≡ s)

-- and so does a removal of a version
abbrev pub OtherVersionIsNotRemoved : Type 0
OtherVersionIsNotRemoved = (s : MapState) (from : Address) (payload : List ℕ) (t : Token) (k : List ℕ) (x : Option Held) → command_of payload ≡ Some (RemoveAt t k) → outcome_at s payload ≡ Differs x
    → (held_of k s ≡ x) × (version_in x ≢ Some t) × (map_apply s from payload ≡ s)

-- MISSING IS KEPT: the key of a removal that is missing has no value, and nothing changes
abbrev pub MissingIsKept : Type 0
MissingIsKept = (s : MapState) (from : Address) (payload k : List ℕ) → command_of payload ≡ Some (Remove k) → outcome_at s payload ≡ Missing
    → (held_of k s ≡ None) × (map_apply s from payload ≡ s)

-- CLEARED: no key has a value afterwards
abbrev pub ClearedStands : Type 0
ClearedStands = (s : MapState) (from : Address) (payload : List ℕ) → outcome_at s payload ≡ Cleared → map_apply s from payload ≡ cleared s

-- NO COMMAND IS KEPT: a payload has this outcome if it encodes no command, and then it changes nothing
abbrev pub NoCommandIsKept : Type 0
NoCommandIsKept = (s : MapState) (from : Address) (payload : List ℕ) → outcome_at s payload ≡ NoCommand → (command_of payload ≡ None) × (map_apply s from payload ≡ s)
