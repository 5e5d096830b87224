-- A member installs a view: what is kept of the installs and the states before.
use Rattle.std.proofs.Common.{◌≡◌, Bool, true, false, cond, ◌&&◌, Option, Some, None, [], ◌∷◌, ◌++◌, refl, sym, ap, ◌∙◌, subst}
use Rattle.std.specs.List.{position_from}
use Rattle.std.specs.Option.{option_or}
use Rattle.std.proofs.lemmas.Bool.{and_parts, cond-true, cond-false}
use Rattle.std.proofs.lemmas.Option.{none-some, same_Some}
use Rattle.address.specs.Ids.{Address, ViewId, same_address, same_view_id}
use Rattle.state_transfer.specs.Meanings.{Meaning}
use Rattle.trace_props.specs.declared.event.Event.TheVariants.{Installed}
use Rattle.trace_props.specs.declared.event.Install.{Install}
use Rattle.trace_props.specs.Observed.{entry_of}
use Rattle.trace_props.specs.State.{installs, entry_state}
use Rattle.address.proofs.SameIds.{same_address-true, same_address-refl, same_view_id-true, same_view_id-refl}
use Rattle.trace_props.proofs.DeliveredGrow.{enters, register-push}
use Rattle.law_acts.specs.Histories.{History}
use Rattle.law_acts.specs.Packets.{IsEntry}
use Rattle.law_acts.specs.Invariant.{EachPacket, EachEntry, StateFact}
use Rattle.law_acts.proofs.KeepHistory.{Later}
use Rattle.law_acts.proofs.KeepPackets.{is_entry-later}
use Rattle.law_acts.proofs.KeepByMove.{states-kept}
use Rattle.law_acts.proofs.KeepWithoutInstall.{no-entry}

-- the history after an install
abbrev pub installed_on : History → Install → History
installed_on h i = record { pool = h.pool; trace = h.trace ++ Installed i ∷ [] }

-- ---- what is entered

-- it is its member's, of its view
enters-itself : (i : Install) → enters i.member i.view.id i ≡ true
enters-itself i = ap (λ b. b && same_view_id i.view.id i.view.id) (same_address-refl i.member) ∙ same_view_id-refl i.view.id

-- the new install is the member's of that view, and all others are as before
pub entry-now : (h : History) (i : Install) → entry_of i.member i.view.id h.trace ≡ None → entry_of i.member i.view.id (installed_on h i).trace ≡ Some i
entry-now h i none =
    register-push (enters i.member i.view.id) h.trace i
    ∙ ap (λ o. option_or o (cond (enters i.member i.view.id i) (Some i) None)) none
    ∙ cond-true (enters i.member i.view.id i) (Some i) None (enters-itself i)

entries-by : (o : Option Install) (b : Bool) (h : History) (i : Install) (q : Address) (w : ViewId) (e : Install) → entry_of q w h.trace ≡ o → enters q w i ≡ b
    → Later h (installed_on h i) → EachEntry h → IsEntry (installed_on h i) i.member i.view.id i → option_or o (cond b (Some i) None) ≡ Some e → IsEntry (installed_on h i) q w e
entries-by (Some f) b h i q w e was test m each new now =
    let there : entry_of q w h.trace ≡ Some e = was ∙ now in is_entry-later h (installed_on h i) q w e m there (each q w e there)
entries-by None true h i q w e was test m each new now =
    let parts = and_parts (same_address i.member q) (same_view_id i.view.id w) test in
    subst (λ (p : Address). IsEntry (installed_on h i) p w e) (same_address-true i.member q parts.0)
    (subst (λ (v : ViewId). IsEntry (installed_on h i) i.member v e) (same_view_id-true i.view.id w parts.1)
    (subst (λ (f : Install). IsEntry (installed_on h i) i.member i.view.id f) (same_Some i e now) new))
entries-by None false h i q w e was test m each new now = absurd (none-some e now)

pub entries-installed : (h : History) (i : Install) → Later h (installed_on h i) → EachEntry h → entry_of i.member i.view.id h.trace ≡ None
    → IsEntry (installed_on h i) i.member i.view.id i → EachEntry (installed_on h i)
entries-installed h i m each none new q w e there =
    entries-by (entry_of q w h.trace) (enters q w i) h i q w e refl refl m each new (sym (register-push (enters q w) h.trace i) ∙ there)

-- ---- by one who is not the view's coordinator

-- it is no coordinator's install of its view
no-coordinator : (i : Install) (v : ViewId) (b : Bool) → enters v.creator v i ≡ b → same_address i.member i.view.id.creator ≡ false → enters v.creator v i ≡ false
no-coordinator i v false test other = test
no-coordinator i v true test other =
    let parts = and_parts (same_address i.member v.creator) (same_view_id i.view.id v) test in
    let same : same_address i.member i.view.id.creator ≡ true = ap (λ (u : ViewId). same_address i.member u.creator) (same_view_id-true i.view.id v parts.1) ∙ parts.0 in
    absurd (let n : true ≡ false = sym same ∙ other in cc)

or-none : (o : Option Install) → option_or o None ≡ o
or-none None = refl
or-none (Some e) = refl

-- what coordinators installed is as before
pub coordinators-same : (h : History) (i : Install) → same_address i.member i.view.id.creator ≡ false → (w : ViewId) → entry_of w.creator w (installed_on h i).trace ≡ entry_of w.creator w h.trace
coordinators-same h i other w =
    register-push (enters w.creator w) h.trace i
    ∙ ap (option_or (entry_of w.creator w h.trace)) (cond-false (enters w.creator w i) (Some i) None (no-coordinator i w (enters w.creator w i) refl other))
    ∙ or-none (entry_of w.creator w h.trace)

module _ {S : Type 0} (meaning : Meaning S) where
  -- one who is not the view's coordinator begins no view
  pub begun-same : (h : History) (i : Install) → same_address i.member i.view.id.creator ≡ false → (v : ViewId)
      → entry_state meaning v (installed_on h i).trace ≡ entry_state meaning v h.trace
  begun-same h i other v =
      no-entry meaning v h.trace (Installed i) (no-coordinator i v (enters v.creator v i) refl other) (position_from (installs v.creator v) 0 h.trace) refl

  pub states-entered : (h : History) (i : Install) → Later h (installed_on h i) → same_address i.member i.view.id.creator ≡ false → EachPacket h
      → StateFact meaning h → StateFact meaning (installed_on h i)
  states-entered h i m other each x =
      states-kept meaning h (installed_on h i) m (begun-same h i other) (coordinators-same h i other) (λ w q. refl) each x
