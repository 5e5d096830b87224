-- What a member does by a packet that it hears, and which packets it ignores.
use Rattle.std.specs.Prelude.{◌+◌, Bool, false, not, is_some, Option, None, Some, if◌then◌else◌}
use Rattle.std.specs.Option.{option_map_or, option_and_then}
use Rattle.address.specs.Ids.{Address}
use Rattle.address.specs.declared.limits.TheConstants.{WINDOW}
use Rattle.wire_values.specs.Values as wire
use Rattle.wire_values.specs.declared.packet.Body.{Body}
use Rattle.wire_values.specs.declared.packet.Body.TheVariants as bodies
use Rattle.state_transfer.specs.Meanings.{Meaning}
use Rattle.law_acts.specs.Decisions.{is_readable}
use Rattle.membership.specs.declared.member_state.MemberState.{MemberState}
use Rattle.wire_values.specs.Kinds.{install_said}
use Rattle.wire_values.specs.Posted.{Posted, packet}
use Rattle.membership.specs.MemberStates.{would_hold}
use Rattle.membership.specs.Changes.{TakesInstall, TakesChunk, would_enter}
use Rattle.membership.specs.HeldChunks.{given_in}
use Rattle.member_rules.specs.Heard.{takes_forward, takes_nak, takes_ack, takes_order, takes_status}
use Rattle.member_rules.specs.Ordered.{HearsBy}
use Rattle.member_rules.specs.Messages.{OnForward, OnAck, OnNak, OnOrder, OnStatus}
use Rattle.member_rules.specs.Views.{OnJoin, OnRedirect, OnSuspect, OnFlush, OnBehind, OnReport, OnMerge, is_suspectable, is_proposing}
use Rattle.member_rules.specs.Ignoring.{is_misdirected, is_flush_ignored, is_report_ignored, is_merge_ignored}
use Rattle.step_output.specs.Steps.{Who}
use Rattle.membership.specs.InSteps.{InStep}

-- each kind of packet by its rule; source is who put it out
abbrev pub FollowsRule : {S : Type 0} → Meaning S → Who → Address → Body → InStep S → InStep S → Type 0
FollowsRule meaning who source bodies.Join old new = OnJoin meaning who source old new
FollowsRule meaning who source (bodies.Redirect coordinator) old new = OnRedirect who coordinator old new
FollowsRule meaning who source bodies.Leave old new = OnSuspect meaning who source old new
FollowsRule meaning who source (bodies.Forward view number payload) old new = OnForward meaning who source view number payload old new
FollowsRule meaning who source (bodies.Order view place entry) old new = OnOrder meaning who source view place entry old new
FollowsRule meaning who source (bodies.Nak view missing) old new = OnNak who source view missing old new
FollowsRule meaning who source (bodies.Ack view delivered) old new = OnAck meaning who source view delivered old new
FollowsRule meaning who source (bodies.Status view progress) old new = OnStatus who source view progress old new
FollowsRule meaning who source (bodies.Flush proposal) old new = OnFlush who source proposal old new
FollowsRule meaning who source (bodies.Behind proposal counter) old new = OnBehind meaning who proposal counter old new
FollowsRule meaning who source (bodies.Report proposal report) old new = OnReport meaning who source proposal report old new
FollowsRule meaning who source (bodies.Install install) old new = TakesInstall meaning who source install old new
FollowsRule meaning who source (bodies.Merge view) old new = OnMerge meaning who source view old new
FollowsRule meaning who source (bodies.State proposal chunk) old new = TakesChunk source proposal chunk old new

-- it follows the rule of the kind by acts, and is afterwards what a member is between its calls; few events come of it
abbrev pub Hears : {S : Type 0} → Meaning S → Who → Address → Body → InStep S → InStep S → Type 0
Hears meaning who source body old new = HearsBy meaning who (Some (packet source body who.address)) (WINDOW + 3) (FollowsRule meaning who source body) old new

-- whether the rule of its kind ignores a packet
abbrev pub ignores : {S : Type 0} → Address → Address → Body → MemberState S → Bool
ignores me q bodies.Join l = not (is_some l.view_state)
ignores me q (bodies.Redirect coordinator) l = is_misdirected me coordinator l
ignores me q bodies.Leave l = not (is_suspectable me q l)
ignores me q (bodies.Forward view number payload) l = not (takes_forward q view l)
ignores me q (bodies.Order view place entry) l = not (takes_order q view place l)
ignores me q (bodies.Nak view missing) l = not (takes_nak q view l)
ignores me q (bodies.Ack view delivered) l = not (takes_ack q view delivered l)
ignores me q (bodies.Status view progress) l = not (takes_status q view progress l)
ignores me q (bodies.Flush proposal) l = is_flush_ignored q proposal l
ignores me q (bodies.Behind proposal counter) l = not (is_proposing proposal l)
ignores me q (bodies.Report proposal report) l = is_report_ignored q proposal l
ignores me q (bodies.Install install) l = not (would_enter me l q install)
ignores me q (bodies.Merge view) l = is_merge_ignored me q l
ignores me q (bodies.State proposal chunk) l = not (would_hold q proposal chunk l)

-- ---- an INSTALL that it would enter

-- the INSTALL that came, if it would enter by it
abbrev pub entry_of : {S : Type 0} → Address → MemberState S → Posted → Option wire.Install
entry_of me l m = option_and_then (λ i. if would_enter me l m.source i then Some i else None) (install_said m.body)

-- whether it would enter by a packet, and the receiver cannot read the state that it is given
abbrev pub is_unreadable_by : {S : Type 0} → Meaning S → Address → MemberState S → Posted → Bool
is_unreadable_by meaning me l m = option_map_or (λ i. not (is_readable meaning (given_in i.state l.chunks))) (entry_of me l m) false
