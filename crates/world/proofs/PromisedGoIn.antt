-- Whoever has promised a view and did not install it goes in by the INSTALL that its creator put out for it.
use Rattle.std.proofs.Common.{◌≡◌, ◌≤◌, ℕ, Bool, true, false, cond, Option, Some, None, List, [], ◌∷◌, refl, sym, ap, ◌∙◌, subst, arith, nat_le}
use Rattle.std.specs.Prelude.{◌&&◌}
use Rattle.std.specs.Option.{option_eq, option_map}
use Rattle.std.specs.Cmp.Lexicographic.{pointwise}
use Rattle.std.proofs.lemmas.Bool.{and_from}
use Rattle.std.proofs.lemmas.Bool.Decides.{nat_tests}
use Rattle.std.proofs.lemmas.Option.{none-some}
use Rattle.address.specs.Ids.{Address, ViewId, same_address, same_view_id}
use Rattle.address.proofs.SameIds.{same_address-refl, same_address-from, same_address-sym, same_view_id-refl}
use Rattle.address.proofs.Plain.{found}
use Rattle.view.specs.Members.{View}
use Rattle.wire_values.specs.Values as wire
use Rattle.wire_values.specs.Values.{Report}
use Rattle.wire_values.specs.declared.values.state.GivenState.{GivenState}
use Rattle.wire_values.specs.declared.values.state.GivenState.TheVariants as forms
use Rattle.state_transfer.specs.Meanings.{Meaning}
use Rattle.view_install.specs.Promises.{may_install}
use Rattle.trace_props.specs.Observed.{entry_of}
use Rattle.trace_props.specs.State.{entry_state}
use Rattle.law_acts.specs.Given.{Tells}
use Rattle.law_acts.specs.Histories.{report_of}
use Rattle.law_acts.specs.Cores.{Core, id_of, report_with}
use Rattle.law_acts.specs.Decisions.{promise_of, gives_some, is_fitting, is_entry}
use Rattle.law_acts.specs.Steps.{System}
use Rattle.law_acts.specs.Packets.{IsInstruction, IsFitting}
use Rattle.law_acts.specs.Invariant.{Invariant}

-- ---- tests that hold

same-list : (l : List Address) → pointwise same_address l l ≡ true
same-list [] = refl
same-list (p ∷ l) = rw (same_address-refl p) (same-list l)

pub may-install : (w : View) (promise : Option View) (installed : Bool) (p : Address) → promise ≡ Some w → installed ≡ false
    → may_install w (record { member = p; proposal = promise; is_installed = installed }) ≡ true
may-install w promise installed p is waits = rw (is, waits, same_view_id-refl w.id, same-list w.members) refl

-- what tells of a state gives one
gives-by : (g : GivenState) (bytes : List ℕ) → Tells g (Some bytes) → gives_some g ≡ true
gives-by forms.Nothing bytes e = absurd (none-some bytes (sym e))
gives-by (forms.Whole x) bytes e = refl
gives-by (forms.Chunked total) bytes e = refl

low-fits : (base delivered : ℕ) → base ≤ delivered → nat_le base delivered ≡ true
low-fits base delivered l = grind (arith, nat_tests)

module _ {S : Type 0} (meaning : Meaning S) (s : System S) (inv : Invariant meaning s) where
  -- the INSTALL that was put out for one who waits for it
  pub record Waits (p q : Address) (d : Core S) (i : wire.Install) : Type 0 where
    pub running : s.running q ≡ Some d
    pub promise : d.promise ≡ Some i.view
    pub installed : d.installed ≡ false
    pub instruction : IsInstruction s.history p q i

  module _ (p q : Address) (d : Core S) (i : wire.Install) (x : Waits p q d i) where
    -- what it reported is what it is
    said : report_of q i.view.id s.history.pool ≡ Some (report_with d.view d.view_state)
    said =
        (inv.members q d x.running).reported x.installed i.view x.promise
        (ap (λ (a : Address). same_address a q) x.instruction.own ∙ same_address-sym p q ∙ x.instruction.other)

    fits : IsFitting s.history i.view.id q i (report_with d.view d.view_state)
    fits = x.instruction.fits (report_with d.view d.view_state) said

    -- one who comes from no view is given a state
    gives : d.view ≡ None → gives_some i.state ≡ true
    gives none =
        let e = found (entry_of i.view.id.creator i.view.id s.history.trace) x.instruction.led.entered in
        let z = found (entry_state meaning i.view.id s.history.trace) (inv.states.there i.view.id e.0 e.1) in
        let from = found e.0.previous (x.instruction.led.from e.0 e.1) in
        gives-by i.state (meaning.encode z.0)
        (subst (Tells i.state)
        (ap (λ (o : Option ViewId). cond (option_eq same_view_id o e.0.previous) None (option_map meaning.encode (entry_state meaning i.view.id s.history.trace))) (ap id_of none)
        ∙ ap (λ (o : Option ViewId). cond (option_eq same_view_id None o) None (option_map meaning.encode (entry_state meaning i.view.id s.history.trace))) from.1
        ∙ ap (option_map meaning.encode) z.1)
        (inv.states.given i.view.id q i x.instruction.one e.0 (report_with d.view d.view_state) e.1 said))

    fitting-by : (o : Option View) → d.view ≡ o → is_fitting o d.view_state.delivered i ≡ true
    fitting-by None e =
        let n = fits.newcomer (ap id_of e) in
        rw (n.0, n.1, gives e) refl
    fitting-by (Some v) e = low-fits i.base d.view_state.delivered (fits.cut v.id (ap id_of e)).low

    pub enters : is_entry d p i ≡ true
    enters =
        and_from (same_address p i.view.id.creator && may_install i.view (promise_of d)) (is_fitting d.view d.view_state.delivered i)
        (and_from (same_address p i.view.id.creator) (may_install i.view (promise_of d)) (same_address-from p i.view.id.creator (sym x.instruction.own))
        (may-install i.view d.promise d.installed d.me x.promise x.installed))
        (fitting-by d.view refl)
