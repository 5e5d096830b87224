-- What a replacement makes of a map, and which puts stay within the limits of its state (docs/RECEIVERS.md, "The map's commands").
use Rattle.std.specs.Prelude.{◌≡◌, ◌≢◌, true, false, ℕ, ◌+◌, List, length, Option, Some, None}
use Rattle.address.specs.Ids.{Address, ViewId}
use Rattle.keyed_state.specs.Entries.{put, without}
use Rattle.keyed_state.specs.declared.token.Token.{Token}
use Rattle.replicated_map.specs.declared.command.Command.TheVariants.{Put, Remove, Replace, ReplaceAt, RemoveAt}
use Rattle.replicated_map.specs.declared.entries.Held.{Held}
use Rattle.replicated_map.specs.Entries.{MapState, held_of, value_in, version_in, given, is_within, removed, map_size}
use Rattle.replicated_map.specs.Commands.{command_of, map_apply}

-- ---- replacements

-- REPLACED IF EXPECTED: if the key has the expected value, or has none and none is expected, it has the new one afterwards
abbrev pub ReplacedIfExpected : Type 0
ReplacedIfExpected = (s : MapState) (from : Address) (payload : List ℕ) (view : ViewId) (expected : Option (List ℕ)) (k v : List ℕ)
    → command_of payload ≡ Some (Replace view expected k v) → value_in (held_of k s) ≡ expected → is_within (given view k v s) ≡ true → map_apply s from payload ≡ given view k v s

-- KEPT IF NOT EXPECTED: otherwise nothing changes
abbrev pub KeptIfNotExpected : Type 0
KeptIfNotExpected = (s : MapState) (from : Address) (payload : List ℕ) (view : ViewId) (expected : Option (List ℕ)) (k v : List ℕ)
    → command_of payload ≡ Some (Replace view expected k v) → value_in (held_of k s) ≢ expected → map_apply s from payload ≡ s

-- REPLACED ONCE: right after a replacement of the expected value by another one, a second replacement that expects the same value changes nothing, whoever sent the two
abbrev pub ReplacedOnce : Type 0
ReplacedOnce = (s : MapState) (first second : Address) (payload later : List ℕ) (view other : ViewId) (expected : Option (List ℕ)) (k v w : List ℕ)
    → command_of payload ≡ Some (Replace view expected k v) → command_of later ≡ Some (Replace other expected k w) → value_in (held_of k s) ≡ expected → Some v ≢ expected → is_within (given view k v s) ≡ true
    → map_apply (map_apply s first payload) second later ≡ map_apply s first payload

-- ---- replacements and removals of a version

-- REPLACED AT ITS VERSION: if the key has a value of the version that is named, it has the new one afterwards
abbrev pub ReplacedAtItsVersion : Type 0
ReplacedAtItsVersion = (s : MapState) (from : Address) (payload : List ℕ) (view : ViewId) (t : Token) (k v : List ℕ)
    → command_of payload ≡ Some (ReplaceAt view t k v) → version_in (held_of k s) ≡ Some t → is_within (given view k v s) ≡ true → map_apply s from payload ≡ given view k v s

-- KEPT AT ANOTHER VERSION: otherwise nothing changes
abbrev pub KeptAtAnotherVersion : Type 0
KeptAtAnotherVersion = (s : MapState) (from : Address) (payload : List ℕ) (view : ViewId) (t : Token) (k v : List ℕ)
    → command_of payload ≡ Some (ReplaceAt view t k v) → version_in (held_of k s) ≢ Some t → map_apply s from payload ≡ s

-- REMOVED AT ITS VERSION: if the key has a value of the version that is named, it has none afterwards
abbrev pub RemovedAtItsVersion : Type 0
RemovedAtItsVersion = (s : MapState) (from : Address) (payload : List ℕ) (t : Token) (k : List ℕ)
    → command_of payload ≡ Some (RemoveAt t k) → version_in (held_of k s) ≡ Some t → map_apply s from payload ≡ removed k s

-- NOT REMOVED AT ANOTHER: otherwise nothing changes
abbrev pub NotRemovedAtAnother : Type 0
NotRemovedAtAnother = (s : MapState) (from : Address) (payload : List ℕ) (t : Token) (k : List ℕ)
    → command_of payload ≡ Some (RemoveAt t k) → version_in (held_of k s) ≢ Some t → map_apply s from payload ≡ s

-- ---- the limits of the state

-- PUT IF IT FITS: a put by which the state is within its limits is carried out
abbrev pub PutIfItFits : Type 0
PutIfItFits = (s : MapState) (from : Address) (payload : List ℕ) (view : ViewId) (k v : List ℕ)
    → command_of payload ≡ Some (Put view k v) → is_within (given view k v s) ≡ true → map_apply s from payload ≡ given view k v s

-- KEPT IF TOO LARGE: a put by which the state would not be within its limits changes nothing
abbrev pub PutIsKeptOut : Type 0
PutIsKeptOut = (s : MapState) (from : Address) (payload : List ℕ) (view : ViewId) (k v : List ℕ)
    → command_of payload ≡ Some (Put view k v) → is_within (given view k v s) ≡ false → map_apply s from payload ≡ s

-- and so does such a replacement, whatever it expects
abbrev pub ReplaceIsKeptOut : Type 0
ReplaceIsKeptOut = (s : MapState) (from : Address) (payload : List ℕ) (view : ViewId) (expected : Option (List ℕ)) (k v : List ℕ)
    → command_of payload ≡ Some (Replace view expected k v) → is_within (given view k v s) ≡ false → map_apply s from payload ≡ s

-- and such a replacement of a version
abbrev pub VersionIsKeptOut : Type 0
VersionIsKeptOut = (s : MapState) (from : Address) (payload : List ℕ) (view : ViewId) (t : Token) (k v : List ℕ)
    → command_of payload ≡ Some (ReplaceAt view t k v) → is_within (given view k v s) ≡ false → map_apply s from payload ≡ s

-- a new key takes 25 bytes, and its own and those of its value
abbrev pub NewKeyTakes : Type 0
NewKeyTakes = (s : MapState) (k : List ℕ) (h : Held) → held_of k s ≡ None → map_size (put k h s.entries) ≡ map_size s.entries + 25 + length k + length h.value

-- a new value takes its bytes in place of those of the old one
abbrev pub NewValueTakes : Type 0
NewValueTakes = (s : MapState) (k : List ℕ) (h old : Held) → held_of k s ≡ Some old → map_size (put k h s.entries) + length old.value ≡ map_size s.entries + length h.value

-- a removal is always carried out, and gives back what its key and value took
abbrev pub RemovalGives : Type 0
RemovalGives = (s : MapState) (from : Address) (payload k : List ℕ) (old : Held) → command_of payload ≡ Some (Remove k) → held_of k s ≡ Some old
    → (map_apply s from payload ≡ removed k s) × (map_size (without k s.entries) + 25 + length k + length old.value ≡ map_size s.entries)
