-- The code of a refusal is its number, and the limits that explanations name are those of `limits`.
use Rattle.std.proofs.Common.{◌≡◌, refl, codes}
use Rattle.std.specs.Fmt.{decimal, digits}
use Rattle.address.specs.Refusals.{number_of}
use Rattle.address.specs.declared.limits.TheConstants.{GREATEST_INCARNATION, GROUP_NAME, MEMBERS, OUTSTANDING, PAYLOAD, SCRIPT_LINE, TRACE_LINE}
use Rattle.address.specs.declared.refusal.Refusal.{Refusal}
use Rattle.view.specs.View.{error_number as view_number}
use Rattle.view.specs.declared.ViewError.{ViewError}
use Rattle.wire_values.specs.Reading.{error_number as packet_number}
use Rattle.wire_values.specs.declared.error.WireError.{WireError}
use Rattle.vsync_text.specs.Script.{fault_number}
use Rattle.vsync_text.specs.declared.fault.Fault.{Fault}
use Rattle.address.specs.declared.refusal.Refusal.TheVariants as refusal
use Rattle.wire_values.specs.declared.error.WireError.TheVariants as packet
use Rattle.view.specs.declared.ViewError.TheVariants as view
use Rattle.vsync_text.specs.declared.fault.Fault.TheVariants as line
use Rattle.vsync.specs.declared.topic.Topic.TheVariants.{Refusal as OfRefusal, Packet, View, Line}
use Rattle.vsync.specs.Topics.{code_of}

pub refusals : (e : Refusal) → code_of (OfRefusal e) ≡ decimal (number_of e)
unfolding digits
refusals refusal.NotConnected = refl
refusals refusal.Blocked = refl
refusals refusal.Busy = refl
refusals refusal.TooLong = refl
refusals refusal.AlreadyConnected = refl
refusals refusal.Closed = refl
refusals refusal.Memory = refl
refusals refusal.Exhausted = refl
refusals refusal.BadName = refl

pub packets : (e : WireError) → code_of (Packet e) ≡ decimal (packet_number e)
unfolding digits
packets packet.Short = refl
packets packet.NotOurs = refl
packets packet.Version = refl
packets packet.Kind = refl
packets packet.Length = refl
packets packet.Value = refl
packets packet.Trailing = refl

pub views : (e : ViewError) → code_of (View e) ≡ decimal (view_number e)
unfolding digits
views view.Empty = refl
views view.TooMany = refl
views view.Repeated = refl
views view.NotFirst = refl

pub lines : (e : Fault) → code_of (Line e) ≡ decimal (fault_number e)
unfolding digits
lines line.UnknownWord = refl
lines line.BadNumber = refl
lines line.MissingField = refl
lines line.LineTooLong = refl

-- the limits in the explanations of 3, 4, 8, 9, 30, 31 and 43
pub limits_said : (decimal OUTSTANDING ≡ codes "8") × (decimal PAYLOAD ≡ codes "512") × (decimal GREATEST_INCARNATION ≡ codes "4294967295") × (decimal GROUP_NAME ≡ codes "32")
    × (decimal MEMBERS ≡ codes "16") × (decimal SCRIPT_LINE ≡ codes "4096") × (decimal TRACE_LINE ≡ codes "2200000")
unfolding digits
limits_said = (refl, refl, refl, refl, refl, refl, refl)
