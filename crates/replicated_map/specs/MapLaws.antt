-- The laws of the map as a receiver, and of its encoding.
use Rattle.std.proofs.Common.{◌≡◌, ℕ, ◌≤◌, Bool, true, false, cond, leb, List, length, Some, refl, arith}
use Rattle.std.proofs.lemmas.Bool.{leb-true, and_parts}
use Rattle.address.specs.Ids.{ViewId}
use Rattle.address.specs.declared.limits.TheConstants.{STATE, GREATEST_NUMBER}
use Rattle.keyed_state.specs.Keys.{IsKey}
use Rattle.keyed_state.specs.Tokens.{IsViewId, next_token}
use Rattle.keyed_state.specs.TokenLaws.{up-refl, below-is-up, next-above, next-is-token}
use Rattle.keyed_state.specs.StateLaws as states
use Rattle.replicated_map.specs.Values.{IsValue, held, held_form}
use Rattle.replicated_map.specs.Entries.{MapState, map_size, IsMap, given, is_within, put_within, removed, cleared}
use Rattle.replicated_map.specs.Encoding.{map_encode, map_decode}
use Rattle.replicated_map.specs.EncodingLaws.{held_laws}
use Rattle.replicated_map.specs.Meanings.{no_entries}

pub decoded_is_map : (bytes : List ℕ) (s : MapState) → map_decode bytes ≡ Some s → IsMap s
decoded_is_map bytes s e = states.decoded_is_state held_form held_laws bytes s e

pub decoded_is_encoded : (bytes : List ℕ) (s : MapState) → map_decode bytes ≡ Some s → map_encode s ≡ bytes
decoded_is_encoded bytes s e = states.decoded_is_encoded held_form held_laws bytes s e

pub encoded_short : (s : MapState) → IsMap s → length (map_encode s) ≤ STATE
encoded_short s is = states.encoded_short held_form held_laws s is

pub encoded_is_decoded : (s : MapState) → IsMap s → map_decode (map_encode s) ≡ Some s
encoded_is_decoded s is = states.encoded_is_decoded held_form held_laws s is

-- ---- a message leaves a map a map

pub nothing_is_map : IsMap no_entries
nothing_is_map = states.none_is_state held_form

pub cleared_is_map : (s : MapState) → IsMap s → IsMap (cleared s)
cleared_is_map s is = record { last = is.last; entries = tt; tokens = tt; rises = tt; fits = omega arith }

-- a state with a value that is within its limits is a map
pub given_is_map : (view : ViewId) (k v : List ℕ) (s : MapState) → IsMap s → IsViewId view → IsKey k → IsValue v → map_size (given view k v s).entries ≤ STATE → (next_token view s.last).count ≤ GREATEST_NUMBER → IsMap (given view k v s)
given_is_map view k v s is id key value small few =
    let version = next_token view s.last in
    let token = next-is-token view s.last id is.last few in
    states.put_is_state held_form k (held version v) version s is key (record { version = token; value = value }) token (below-is-up s.last version (next-above view s.last)) (up-refl version) small

pub put_is_map : (view : ViewId) (k v : List ℕ) (s : MapState) → IsMap s → IsViewId view → IsKey k → IsValue v → IsMap (put_within view k v s)
put_is_map view k v s is id key value = by (is_within (given view k v s)) refl where
  by : (b : Bool) → is_within (given view k v s) ≡ b → IsMap (cond b (given view k v s) s)
  by true test =
      let both = and_parts (leb (map_size (given view k v s).entries) STATE) (leb (given view k v s).last.count GREATEST_NUMBER) test in
      given_is_map view k v s is id key value (leb-true _ _ both.0) (leb-true _ _ both.1)
  by false test = is

pub removed_is_map : (k : List ℕ) (s : MapState) → IsMap s → IsMap (removed k s)
removed_is_map k s is = states.without_is_state held_form k s.last s is is.last (up-refl s.last)
