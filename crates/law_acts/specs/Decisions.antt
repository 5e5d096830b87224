-- What a member decides in a change of view, by what it knows and what it notes.
use Rattle.std.specs.Prelude.{ℕ, Bool, true, false, ◌&&◌, nat_eq, nat_le, length, is_some, Option, None, Some, List, [], unwrap_or, if◌then◌else◌}
use Rattle.std.specs.Option.{option_map, option_map_or, option_and_then}
use Rattle.address.specs.Ids.{Address, same_address}
use Rattle.view.specs.Members.{View}
use Rattle.state_transfer.specs.Meanings.{Meaning}
use Rattle.suspicion.specs.Suspicion.{leads}
use Rattle.next_view.specs.ViewNotes.{NotesModel}
use Rattle.next_view.specs.Candidates.{candidates, next_counter, is_changed, is_broken, is_abandoned}
use Rattle.wire_values.specs.Values as wire
use Rattle.wire_values.specs.declared.values.state.GivenState.{GivenState}
use Rattle.wire_values.specs.declared.values.state.GivenState.TheVariants as forms
use Rattle.address.specs.declared.limits.TheConstants.{WHOLE_STATE}
use Rattle.flush.specs.Cuts.{cut_base, cut_items}
use Rattle.flush.specs.Flushes.{FlushModel, group}
use Rattle.view_install.specs.Promises.{PromiseModel, may_install}
use Rattle.law_acts.specs.Cores.{Core}
use Rattle.law_acts.specs.Acts.{Cuts, all_come_from, state_after_cut}
use Rattle.law_acts.specs.Given.{kept_bytes}

-- what it has promised
abbrev pub promise_of : {S : Type 0} → Core S → PromiseModel
promise_of c = record { member = c.me; proposal = c.promise; is_installed = c.installed }

-- ---- the next proposal

-- the counter of what it has promised, 0 for nothing
abbrev pub promised_counter : Option View → ℕ
promised_counter promise = option_map_or (λ w. w.id.counter) promise 0

-- its next proposal, with this list; none where the counters are used up
abbrev pub next_proposal : {S : Type 0} → Core S → NotesModel → List Address → Option View
next_proposal c b list =
    option_map (λ n. record { id = record { counter = n; creator = c.me }; members = list }) (next_counter (promised_counter c.promise) b)

-- its next proposal after a view, to its candidates
abbrev pub proposal_after : {S : Type 0} → Core S → NotesModel → View → Option View
proposal_after c b v = next_proposal c b (candidates c.me v.members b)

-- ---- whether it has to begin a flush

-- by a change of its candidates while it is open; while it is blocked, since one of the list of its own flush is suspected, or, without one, since
-- the creator of what it promised is
abbrev pub is_due : {S : Type 0} → Core S → NotesModel → View → Bool
is_due c b v =
    if c.installed then is_changed c.me v.members b
    else option_map_or (λ f. is_broken f.members b) c.flush (option_map_or (λ w. is_abandoned w.id.creator b) c.promise false)

-- whether it leads its view and has to begin a flush
abbrev pub regroups_in : {S : Type 0} → Core S → NotesModel → View → Bool
regroups_in c b v = leads b.suspects v.members c.me && is_due c b v

abbrev pub regroups : {S : Type 0} → Core S → NotesModel → Bool
regroups c b = option_map_or (regroups_in c b) c.view false

-- what it has to propose now, if anything
abbrev pub due_at : {S : Type 0} → Core S → NotesModel → View → Option View
due_at c b v = if regroups_in c b v then proposal_after c b v else None

abbrev pub due_proposal : {S : Type 0} → Core S → NotesModel → Option View
due_proposal c b = option_and_then (due_at c b) c.view

-- ---- the end of a flush

-- the cuts of a flush, one for each view that was reported
abbrev pub cuts_of : FlushModel → Cuts
cuts_of f = record { base = λ u. cut_base (group (Some u) f.reports); items = λ u. cut_items (group (Some u) f.reports) }

-- how a state is given, if one is: itself where it is short, else in chunks
abbrev pub form_of : Option (List ℕ) → GivenState
form_of None = forms.Nothing
form_of (Some bytes) = if nat_le (length bytes) WHOLE_STATE then forms.Whole bytes else forms.Chunked (length bytes)

-- what is kept of it: all of it where it goes in chunks
abbrev pub kept_of : Option (List ℕ) → Option (List ℕ)
kept_of given = kept_bytes (form_of given) (unwrap_or given [])

-- the state that a finished flush gives: that after its own cut, where not all come from its coordinator's view
abbrev pub given_by : {S : Type 0} → Meaning S → Core S → View → FlushModel → Option (List ℕ)
given_by meaning c v f = if all_come_from v.id f.reports then None else Some (meaning.encode (state_after_cut meaning c v (cuts_of f)))

-- ---- an INSTALL

-- whether there is no state, or one that can be read
abbrev pub is_readable : {S : Type 0} → Meaning S → Option (List ℕ) → Bool
is_readable meaning given = option_map_or (λ bytes. is_some (meaning.decode bytes)) given true

-- whether a state is given
abbrev pub gives_some : GivenState → Bool
gives_some forms.Nothing = false
gives_some (forms.Whole bytes) = true
gives_some (forms.Chunked total) = true

-- who comes from a view delivers what follows a number that it has reached; who comes from none delivers no messages and is given a state
abbrev pub is_fitting : Option View → ℕ → wire.Install → Bool
is_fitting (Some v) delivered i = nat_le i.base delivered
is_fitting None delivered i = nat_eq i.base 0 && nat_eq (length i.items) 0 && gives_some i.state

-- whether it would enter by an INSTALL: the creator of the view says so, the view is promised with its list and not installed, and it fits
abbrev pub is_entry : {S : Type 0} → Core S → Address → wire.Install → Bool
is_entry c source i = same_address source i.view.id.creator && may_install i.view (promise_of c) && is_fitting c.view c.view_state.delivered i
