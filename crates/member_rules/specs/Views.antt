-- What a member does by each rule of a change of view: exactly what it puts out, what happens to it, and what is left of it.
use Rattle.std.specs.Prelude.{◌≡◌, ℕ, Bool, true, false, not, ◌&&◌, ◌||◌, is_some, List, [], ◌∷◌, map, filter, Option, None, Some, MatchBool, nat_lt, nat_eq, if◌then◌else◌}
use Rattle.std.specs.Option.{option_map_or, option_and_then}
use Rattle.address.specs.Ids.{Address, ViewId, same_address, same_view_id}
use Rattle.view.specs.Members.{View, stands_in}
use Rattle.state_transfer.specs.Meanings.{Meaning}
use Rattle.next_view.specs.ViewNotes.{outdating}
use Rattle.next_view.specs.Candidates.{first_unsuspected}
use Rattle.next_view.specs.Noting.{noting, noting_view}
use Rattle.wire_values.specs.Values as wire
use Rattle.wire_values.specs.declared.packet.Body.TheVariants as bodies
use Rattle.wire_values.specs.Posted.{Posted, packet}
use Rattle.trace_props.specs.declared.event.Event.TheVariants.{Installed, Left}
use Rattle.flush.specs.Flushes.{FlushModel, has_reported}
use Rattle.law_acts.specs.Acts.{others_of, lone_view, proposed}
use Rattle.step_output.specs.declared.output.Output.{Output}
use Rattle.step_output.specs.Outputs.{Grows}
use Rattle.traffic.specs.ViewStates.{fresh_in}
use Rattle.membership.specs.declared.member_state.MemberState.{MemberState}
use Rattle.membership.specs.MemberStates.{view_in, report_in, leads_in, is_expected}
use Rattle.membership.specs.Changes.{StaysAs, TakesFlush, TakesReport, TakesBehind, TakesSuspicion, InstallsAgain, Regroups}
use Rattle.member_rules.specs.Firsts.{lone_install}
use Rattle.step_output.specs.Steps.{Who}
use Rattle.membership.specs.InSteps.{InStep, in_step}

-- ---- it makes a group, or asks to be let into one

-- it promises and installs a first view of itself alone
pub record Creates {S : Type 0} (who : Who) (old new : InStep S) : Type 0 where
  pub member_state : new.member ≡ record (old.member) {
    view_state = Some (fresh_in who.address (lone_view who.address));
    promise = record { member = old.member.promise.member; proposal = Some (lone_view who.address); is_installed = true };
    sent_state = None;
    chunks = [];
  }
  pub grows : Grows who.group old.out new.out [] (Installed (lone_install who.address) ∷ [])

-- it asks this contact from now on, by a JOIN
pub record Asks {S : Type 0} (who : Who) (contact : Address) (old new : InStep S) : Type 0 where
  pub member_state : new.member ≡ record (old.member) { contact = Some contact }
  pub grows : Grows who.group old.out new.out (packet who.address bodies.Join contact ∷ []) []

-- ---- what it is in its view

-- whether it leads its view
abbrev pub leads_now : {S : Type 0} → Address → MemberState S → Bool
leads_now me l = option_map_or (λ v. leads_in me v l.notes) (view_in l.view_state) false

-- whether an address is in its view
abbrev pub has_member : {S : Type 0} → Address → MemberState S → Bool
has_member p l = option_map_or (λ v. stands_in p v.members) (view_in l.view_state) false

-- whether it is in this view
abbrev pub is_in : {S : Type 0} → ViewId → MemberState S → Bool
is_in w l = option_map_or (λ v. same_view_id v.id w) (view_in l.view_state) false

-- ---- JOIN

-- the list of its own flush; empty without one
abbrev pub listed_in : Option FlushModel → List Address
listed_in flush = option_map_or (λ f. f.members) flush []

-- the earlier incarnations of an address' node in its view are suspected
abbrev pub outdated : {S : Type 0} → Address → Address → MemberState S → MemberState S
outdated me q l = record l { notes = option_map_or (λ v. outdating me v.members q l.notes) (view_in l.view_state) l.notes }

-- one who asks to be let in is noted
abbrev pub joined : {S : Type 0} → Address → Address → MemberState S → MemberState S
joined me q l = record l { notes = option_map_or (λ v. noting me v.members (listed_in l.flush) q l.notes) (view_in l.view_state) l.notes }

-- the member of its view of the lowest rank that it does not suspect
abbrev pub first_in : {S : Type 0} → MemberState S → Option Address
first_in l = option_and_then (λ v. first_unsuspected l.notes.suspects v.members) (view_in l.view_state)

-- it says to an address whom to ask in its place
pub record Redirects {S : Type 0} (who : Who) (q : Address) (old new : InStep S) : Type 0 where
  pub member_state : new.member ≡ old.member
  pub grows : Grows who.group old.out new.out (option_map_or (λ p. packet who.address (bodies.Redirect p) q ∷ []) (first_in old.member) []) []

-- where it leads, who asks is noted, and what is due is begun; else it redirects
abbrev pub Admits : {S : Type 0} → Meaning S → Who → Address → InStep S → InStep S → Type 0
Admits meaning who q old new =
    MatchBool (leads_now who.address old.member) (Regroups meaning who (in_step (joined who.address q old.member) old.out) new) (Redirects who q old new)

abbrev pub OnJoin : {S : Type 0} → Meaning S → Who → Address → InStep S → InStep S → Type 0
OnJoin meaning who q old new =
    MatchBool (is_some old.member.view_state) (Admits meaning who q (in_step (outdated who.address q old.member) old.out) new) (StaysAs old new)

-- ---- a hint of another view, and REDIRECT

-- its view, if it leads it, is not blocked, and the address is not in it
abbrev pub view_for : {S : Type 0} → Address → Address → MemberState S → Option View
view_for me p l = if (l.promise.is_installed && leads_now me l) && not (has_member p l) then view_in l.view_state else None

-- it announces its view to an address, by a MERGE, where it may
pub record AnnouncesView {S : Type 0} (who : Who) (p : Address) (old new : InStep S) : Type 0 where
  pub member_state : new.member ≡ old.member
  pub grows : Grows who.group old.out new.out (option_map_or (λ v. packet who.address (bodies.Merge v) p ∷ []) (view_for who.address p old.member) []) []

-- without a view it asks the other address from now on; in a view this is a hint; its own address is ignored
abbrev pub OnRedirect : {S : Type 0} → Who → Address → InStep S → InStep S → Type 0
OnRedirect who c old new =
    MatchBool (same_address c who.address) (StaysAs old new)
    (MatchBool (is_some old.member.view_state) (AnnouncesView who c old new) (Asks who c old new))

-- ---- MERGE

-- whether the first address is less than the second
abbrev pub is_less : Address → Address → Bool
is_less p q = nat_lt p.node q.node || (nat_eq p.node q.node && nat_lt p.incarnation q.incarnation)

-- those of another view are noted
abbrev pub merged : {S : Type 0} → Address → View → MemberState S → MemberState S
merged me u l = record l { notes = option_map_or (λ v. noting_view me v.members u l.notes) (view_in l.view_state) l.notes }

-- where it leads: to a lesser address it announces its view; those of a greater one's view are noted, and what is due is begun
abbrev pub Meets : {S : Type 0} → Meaning S → Who → Address → View → InStep S → InStep S → Type 0
Meets meaning who q u old new =
    MatchBool (is_less q who.address) (AnnouncesView who q old new) (Regroups meaning who (in_step (merged who.address u old.member) old.out) new)

-- of one who is in no view or in this one it is ignored
abbrev pub OnMerge : {S : Type 0} → Meaning S → Who → Address → View → InStep S → InStep S → Type 0
OnMerge meaning who q u old new =
    MatchBool (is_some old.member.view_state && not (has_member q old.member))
    (MatchBool (leads_now who.address old.member) (Meets meaning who q u old new) (Redirects who q old new))
    (StaysAs old new)

-- ---- suspicions, and LEAVE

-- whether an address is in the list that it promised
abbrev pub has_promised : {S : Type 0} → Address → MemberState S → Bool
has_promised p l = option_map_or (λ w. stands_in p w.members) l.promise.proposal false

-- whether an address is another, in its view or in the list that it promised; none is where it has no view
abbrev pub is_suspectable : {S : Type 0} → Address → Address → MemberState S → Bool
is_suspectable me p l = is_some l.view_state && not (same_address p me) && (has_member p l || has_promised p l)

abbrev pub OnSuspect : {S : Type 0} → Meaning S → Who → Address → InStep S → InStep S → Type 0
OnSuspect meaning who p old new = MatchBool (is_suspectable who.address p old.member) (TakesSuspicion meaning who p old new) (StaysAs old new)

-- ---- FLUSH, BEHIND, REPORT

-- a FLUSH counts where its source proposes
abbrev pub OnFlush : {S : Type 0} → Who → Address → View → InStep S → InStep S → Type 0
OnFlush who q w old new = MatchBool (same_address w.id.creator q) (TakesFlush who w old new) (StaysAs old new)

-- whether this is what its own flush proposes
abbrev pub is_proposing : {S : Type 0} → ViewId → MemberState S → Bool
is_proposing w l = option_map_or (λ f. same_view_id f.proposal w) l.flush false

abbrev pub OnBehind : {S : Type 0} → Meaning S → Who → ViewId → ℕ → InStep S → InStep S → Type 0
OnBehind meaning who w counter old new = MatchBool (is_proposing w old.member) (TakesBehind meaning who counter old new) (StaysAs old new)

-- whether it awaits a report of this address for its own proposal
abbrev pub expects : {S : Type 0} → Address → ViewId → MemberState S → Bool
expects q w l = option_map_or (is_expected q w) l.flush false

-- it is as it was, and puts out again the INSTALL that it kept for that member, behind the chunks of the state that it gives
pub record SaysAgain {S : Type 0} (who : Who) (q : Address) (old new : InStep S) : Type 0 where
  pub member_state : new.member ≡ old.member
  pub again : InstallsAgain who q old new.out

-- a report that is awaited is taken; for one that asks for the current view its INSTALL is put out again, where it was kept
abbrev pub OnReport : {S : Type 0} → Meaning S → Who → Address → ViewId → wire.Report → InStep S → InStep S → Type 0
OnReport meaning who q w r old new =
    MatchBool (expects q w old.member) (TakesReport meaning who q w r old new)
    (MatchBool (is_in w old.member) (SaysAgain who q old new) (StaysAs old new))

-- ---- time passes: what may be lost is put out again

-- its report for what it promised
abbrev pub reports_again : {S : Type 0} → Address → MemberState S → List Posted
reports_again me l = option_map_or (λ w. packet me (bodies.Report w.id (report_in l)) w.id.creator ∷ []) l.promise.proposal []

-- while it asks: the JOIN to its contact, and its report
abbrev pub asks_again : {S : Type 0} → Address → MemberState S → List Posted
asks_again me l = option_map_or (λ c. packet me bodies.Join c ∷ reports_again me l) l.contact []

-- its own proposal, to those of its list who have not reported
abbrev pub proposes_again : Address → FlushModel → List Posted
proposes_again me f = map (packet me (bodies.Flush (proposed f))) (filter (λ m. not (has_reported m f.reports)) f.members)

-- while it is blocked
abbrev pub flushes_again : {S : Type 0} → Address → MemberState S → List Posted
flushes_again me l = option_map_or (proposes_again me) l.flush (reports_again me l)

-- ---- it leaves

-- a LEAVE goes to each other member of its view, by rank, and it has left
pub record Leaves {S : Type 0} (who : Who) (old : InStep S) (later : Output) : Type 0 where
  pub grows : Grows who.group old.out later (option_map_or (λ v. map (packet who.address bodies.Leave) (others_of who.address v.members)) (view_in old.member.view_state) []) (Left who.address ∷ [])
