-- What a value, and what a key has, are read from is their spelling, and their spelling is read as them, whatever follows.
use Rattle.std.proofs.Common.{◌≡◌, length, refl, arith}
use Rattle.std.proofs.lemmas.List.{length-append}
use Rattle.byteorder.specs.Endian.{big_bytes}
use Rattle.big_endian.proofs.PartLaws.{IsPart, sized_part}
use Rattle.keyed_state.specs.PartLaws.{two_parts}
use Rattle.keyed_state.specs.Spelling.{token_bytes}
use Rattle.keyed_state.specs.SpellingLaws.{token_part, length-token}
use Rattle.keyed_state.specs.StateLaws.{FormLaws}
use Rattle.replicated_map.specs.declared.TheConstants.{VALUE}
use Rattle.replicated_map.specs.declared.entries.Held.{Held}
use Rattle.replicated_map.specs.Values.{IsValue, IsHeld, held, value_bytes, value_at, held_bytes, held_at, held_form}

pub value_part : IsPart value_at value_bytes IsValue
value_part = sized_part VALUE (omega arith)

held_part : IsPart held_at held_bytes IsHeld
unfolding held_at
held_part = two_parts token_part value_part held (λ h. h.version) (λ h. h.value) IsHeld (λ h. refl) (λ version value p q. (refl, record { version = p; value = q })) (λ h is. (is.version, is.value))

held_sized : (h : Held) → length (held_bytes h) ≡ held_form.size_of h
held_sized h = omega (arith, length-append (token_bytes h.version) (value_bytes h.value), length-token h.version, length-append (big_bytes 2 (length h.value)) h.value)

pub held_laws : FormLaws held_form
held_laws = record { sized = held_sized; part = held_part; short = λ h is few. is; plain = λ h is. is }
