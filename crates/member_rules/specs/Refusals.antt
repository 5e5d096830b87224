-- Why a message of the member's own is refused.
use Rattle.std.specs.Prelude.{ℕ, not, is_some, List, length, Option, None, Some, nat_lt, nat_le, if◌then◌else◌}
use Rattle.address.specs.declared.limits.TheConstants.{PAYLOAD, OUTSTANDING, GREATEST_NUMBER}
use Rattle.law_acts.specs.Cores.{Core, is_frozen}
use Rattle.address.specs.declared.refusal.Refusal.{Refusal}
use Rattle.address.specs.declared.refusal.Refusal.TheVariants.{NotConnected, TooLong, Blocked, Busy, Exhausted}

-- the first of these that applies
abbrev pub send_refusal : {S : Type 0} → Core S → List ℕ → Option Refusal
send_refusal c payload =
    if not (is_some c.view) then Some NotConnected
    else if nat_lt PAYLOAD (length payload) then Some TooLong
    else if is_frozen c.view c.installed then Some Blocked
    else if nat_le OUTSTANDING (length c.view_state.outstanding) then Some Busy
    else if nat_le GREATEST_NUMBER c.view_state.sent then Some Exhausted
    else None
