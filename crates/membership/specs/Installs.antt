-- What a finished flush says to each of its list, and what an INSTALL does to one who enters by it.
use Rattle.std.specs.Prelude.{[], ◌∷◌, ◌++◌, ◌≡◌, ℕ, true, drop, Option, Some, None, List, map, length, unwrap_or, if◌then◌else◌}
use Rattle.std.specs.Option.{option_eq, option_map_or, option_and_then}
use Rattle.std.specs.List.{AllByRecursion, flat_map}
use Rattle.address.specs.Ids.{Address, ViewId, same_view_id}
use Rattle.wire_values.specs.Values.{Entry}
use Rattle.wire_values.specs.Values as wire
use Rattle.wire_values.specs.Lists.{is_install}
use Rattle.wire_values.specs.Fields.{IsEntry, entry_bytes}
use Rattle.state_transfer.specs.Meanings.{Meaning}
use Rattle.flush.specs.Flushes.{FlushModel, together_of, previous_of, all_come_from}
use Rattle.trace_props.specs.Observed.{own}
use Rattle.trace_props.specs.declared.event.Event.{Event}
use Rattle.trace_props.specs.declared.event.Event.TheVariants.{Installed}
use Rattle.trace_props.specs.declared.event.Numbered.{Numbered}
use Rattle.law_acts.specs.Cores.{applied, id_of}
use Rattle.law_acts.specs.Words.{message_for}
use Rattle.law_acts.specs.Acts.{others_of, delivery, deliveries, undelivered, proposed, base_for, items_for, instructing_one}
use Rattle.law_acts.specs.Decisions.{cuts_of, form_of}
use Rattle.wire_values.specs.declared.values.state.GivenState.TheVariants as forms
use Rattle.wire_values.specs.Posted.{Posted}
use Rattle.membership.specs.declared.sent_install.SentInstall.{SentInstall}
use Rattle.step_output.specs.Steps.{Who}
use Rattle.traffic.specs.declared.view_state.ViewState.{ViewState}
use Rattle.traffic.specs.ViewStates.{view_of, view_core_of}
use Rattle.membership.specs.declared.finishing.CutText.{CutText}
use Rattle.membership.specs.MemberStates.{view_in, sent_install}

-- ---- what a flush says to one of its list

-- the base of a cut, how many items it has, and their bytes
pub record SpellsCut (base : ℕ) (items : List Entry) (cut : CutText) : Type 0 where
  pub from : cut.base ≡ base
  pub count : cut.count ≡ length items
  pub bytes : cut.text.items ≡ flat_map entry_bytes items
  pub sound : AllByRecursion IsEntry items

-- the state that it gives, if not all of its list come from its creator's view
abbrev pub given_to : FlushModel → ViewId → List ℕ → Option (List ℕ)
given_to f v state = if all_come_from v f.reports then None else Some state

-- the instruction for one of the list of a flush whose creator comes from a view
abbrev pub instruction_to : FlushModel → ViewId → Option (List ℕ) → Address → wire.Install
instruction_to f v given q = record {
  view = proposed f;
  together = together_of q f;
  base = base_for (cuts_of f) (previous_of q f);
  items = items_for (cuts_of f) (previous_of q f);
  state = if option_eq same_view_id (previous_of q f) (Some v) then forms.Nothing else form_of given;
}

-- the same as packets, behind the chunks of the state that it gives
abbrev pub instructing : Address → FlushModel → ViewId → Option (List ℕ) → Address → List Posted
instructing me f v given q = instructing_one me f.proposal (unwrap_or given []) (q, instruction_to f v given q)

-- it can be said
abbrev pub IsSayable : FlushModel → ViewId → Option (List ℕ) → Address → Type 0
IsSayable f v given q = is_install (instruction_to f v given q) ≡ true

-- ---- a flush is finished

-- what its creator is delivered of its own view's cut
abbrev pub delivered_by : FlushModel → ViewState → List Entry
delivered_by f t = undelivered (view_core_of t).delivered ((cuts_of f).base (view_of t).id) ((cuts_of f).items (view_of t).id)

-- how many of these are its own
abbrev pub own_of : Address → List Entry → ℕ
own_of me entries = length (own me (map message_for entries))

-- its creator installs the view that it proposed
abbrev pub going : Address → FlushModel → ViewState → ℕ → Event
going me f t n = Installed (record {
  member = me;
  previous = Some (view_of t).id;
  view = proposed f;
  together = together_of me f;
  handed_back = drop n (view_core_of t).outstanding;
  given = None;
})

-- the state with which the view begins
abbrev pub finished_state : {S : Type 0} → Meaning S → FlushModel → ViewState → S → S
finished_state meaning f t s = applied meaning s (delivered_by f t)

-- what it gives of it
abbrev pub finished_given : {S : Type 0} → Meaning S → FlushModel → ViewState → S → Option (List ℕ)
finished_given meaning f t s = given_to f (view_of t).id (meaning.encode (finished_state meaning f t s))

-- what its creator puts out
abbrev pub finish_packets : Address → FlushModel → ViewState → Option (List ℕ) → List Posted
finish_packets me f t given = flat_map (instructing me f (view_of t).id given) (others_of me f.members)

-- and keeps of it
abbrev pub finish_sent : Who → FlushModel → ViewState → Option (List ℕ) → List SentInstall
finish_sent who f t given = map (λ q. sent_install who (q, instruction_to f (view_of t).id given q)) (others_of who.address f.members)

-- what happens to its creator
abbrev pub finish_events : Address → FlushModel → ViewState → List Event
finish_events me f t = map (delivery me (view_of t).id) (delivered_by f t) ++ going me f t (own_of me (delivered_by f t)) ∷ []

-- ---- an INSTALL is entered

-- what the one who enters lacks of its view
abbrev pub lacking : Option ViewState → wire.Install → List Entry
lacking view_state i = option_map_or (λ t. undelivered (view_core_of t).delivered i.base i.items) view_state []

-- what is left of its own messages when so many more of them were delivered
abbrev pub left_in : Option ViewState → ℕ → List Numbered
left_in view_state n = option_map_or (λ t. drop n (view_core_of t).outstanding) view_state []

-- the state with which it goes on
abbrev pub state_by : {S : Type 0} → Meaning S → Option ViewState → wire.Install → Option (List ℕ) → S → S
state_by meaning view_state i given s = unwrap_or (option_and_then meaning.decode given) (applied meaning s (lacking view_state i))

-- it installs the view
abbrev pub arriving : Address → Option ViewState → wire.Install → Option (List ℕ) → ℕ → Event
arriving me view_state i given n = Installed (record {
  member = me;
  previous = id_of (view_in view_state);
  view = i.view;
  together = i.together;
  handed_back = left_in view_state n;
  given = given;
})

-- what happens to it
abbrev pub enter_events : Address → Option ViewState → wire.Install → Option (List ℕ) → List Event
enter_events me view_state i given = deliveries me (view_in view_state) (lacking view_state i) ++ arriving me view_state i given (own_of me (lacking view_state i)) ∷ []
