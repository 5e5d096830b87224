-- What a member ignores: it is as it was then, and nothing comes of it.
use Rattle.std.specs.Prelude.{Bool, not, ◌&&◌, ◌||◌, is_some, find}
use Rattle.address.specs.Ids.{Address, ViewId, same_address}
use Rattle.view.specs.Members.{View}
use Rattle.view_install.specs.Promises.{offered}
use Rattle.membership.specs.declared.member_state.MemberState.{MemberState}
use Rattle.membership.specs.MemberStates.{is_sent_to}
use Rattle.membership.specs.Changes.{is_ignored_offer}
use Rattle.member_rules.specs.Views.{leads_now, has_member, view_for, is_less, expects, is_in}

-- a hint of an address to which it may not announce its view
abbrev pub is_hint_ignored : {S : Type 0} → Address → Address → MemberState S → Bool
is_hint_ignored me p l = not (is_some (view_for me p l))

-- a REDIRECT to itself, or in a view one that is a hint which is ignored
abbrev pub is_misdirected : {S : Type 0} → Address → Address → MemberState S → Bool
is_misdirected me c l = same_address c me || (is_some l.view_state && is_hint_ignored me c l)

-- a MERGE without a view or of a member of the own one, or of a lesser address while it leads and is blocked
abbrev pub is_merge_ignored : {S : Type 0} → Address → Address → MemberState S → Bool
is_merge_ignored me q l = not (is_some l.view_state && not (has_member q l)) || (leads_now me l && is_less q me && is_hint_ignored me q l)

-- a FLUSH of another than who proposes, and one whose offer is ignored
abbrev pub is_flush_ignored : {S : Type 0} → Address → View → MemberState S → Bool
is_flush_ignored q w l = not (same_address w.id.creator q) || is_ignored_offer (offered w l.promise)

-- a REPORT that is not awaited, nor asks for an INSTALL that was kept
abbrev pub is_report_ignored : {S : Type 0} → Address → ViewId → MemberState S → Bool
is_report_ignored q w l = not (expects q w l) && (not (is_in w l) || not (is_some (find (is_sent_to q) l.sent_installs.items)))
