-- Why a member refuses: never with 6 while it runs; and a message of its own never for want of memory.
use Rattle.std.proofs.Common.{◌≡◌, ℕ, Bool, true, false, cond, not, Option, Some, None, List, length, nat_le, nat_lt, is_some, refl, sym, ap, ◌∙◌}
use Rattle.std.specs.Option.{option_map, option_map_or}
use Rattle.address.specs.declared.limits.TheConstants.{PAYLOAD, OUTSTANDING, GREATEST_NUMBER}
use Rattle.address.specs.declared.refusal.Refusal.{Refusal}
use Rattle.address.specs.declared.refusal.Refusal.TheVariants.{NotConnected, Blocked, Busy, TooLong, AlreadyConnected, Closed, Exhausted}
use Rattle.address.specs.Refusals as refusals
use Rattle.wire_values.specs.declared.error.WireError.{WireError}
use Rattle.wire.specs.Packets.{wire_refusal}
use Rattle.law_acts.specs.Cores.{Core, is_frozen}
use Rattle.member.specs.declared.error.Error.{Error}
use Rattle.member.specs.declared.error.Error.TheVariants.{Refused, Wire}
use Rattle.member.specs.declared.input.Input.{Input}
use Rattle.member.specs.declared.input.Input.TheVariants.{Create, Join, Send, Datagram, Tick, Suspect, MergeHint, Leave}
use Rattle.member.specs.Errors.{is_closed}
use Rattle.member.specs.Members.{refusal_in, send_refusal}

-- ---- a message of its own

either : (test : Refusal → Bool) (b : Bool) (x y : Option Refusal) → option_map_or test x false ≡ false → option_map_or test y false ≡ false → option_map_or test (cond b x y) false ≡ false
either test true x y a b = a
either test false x y a b = b

-- what is so of none of the five reasons is not so of why it is not sent
unsent-is : {S : Type 0} (test : Refusal → Bool) (c : Core S) (payload : List ℕ) → test NotConnected ≡ false → test TooLong ≡ false → test Blocked ≡ false → test Busy ≡ false → test Exhausted ≡ false
    → option_map_or test (send_refusal c payload) false ≡ false
unsent-is test c payload one four two three eight =
    either test (not (is_some c.view)) (Some NotConnected) _ one
    (either test (nat_lt PAYLOAD (length payload)) (Some TooLong) _ four
    (either test (is_frozen c.view c.installed) (Some Blocked) _ two
    (either test (nat_le OUTSTANDING (length c.view_state.outstanding)) (Some Busy) _ three
    (either test (nat_le GREATEST_NUMBER c.view_state.sent) (Some Exhausted) None eight refl))))

-- it is not refused for want of memory
pub unsent-own : {S : Type 0} (c : Core S) (payload : List ℕ) (r : Refusal) → send_refusal c payload ≡ Some r → refusals.is_memory r ≡ false
unsent-own c payload r e =
    sym (ap (λ (o : Option Refusal). option_map_or refusals.is_memory o false) e) ∙ unsent-is refusals.is_memory c payload refl refl refl refl refl

-- ---- never with 6

abbrev closes : Option Error → Bool
closes o = option_map_or is_closed o false

wired : (o : Option WireError) → closes (option_map Wire o) ≡ false
wired None = refl
wired (Some e) = refl

sent : (o : Option Refusal) → option_map_or refusals.is_closed o false ≡ false → closes (option_map Refused o) ≡ false
sent None e = refl
sent (Some r) e = e

tested : (b : Bool) → closes (cond b (Some (Refused AlreadyConnected)) None) ≡ false
tested true = refl
tested false = refl

opens : {S : Type 0} (c : Core S) (input : Input) → closes (refusal_in c input) ≡ false
opens c Create = tested c.connected
opens c (Join contact) = tested (is_some c.view)
opens c (Send payload) = sent (send_refusal c payload.now) (unsent-is refusals.is_closed c payload.now refl refl refl refl refl)
opens c (Datagram bytes) = wired (wire_refusal bytes.now)
opens c Tick = refl
opens c (Suspect q) = refl
opens c (MergeHint q) = refl
opens c Leave = refl

-- one that runs is not refused with 6
pub never-closed : {S : Type 0} (c : Core S) (input : Input) → refusal_in c input ≡ Some (Refused Closed) → ⊥
never-closed c input e = let n : true ≡ false = sym (ap closes e) ∙ opens c input in absurd (cc)
