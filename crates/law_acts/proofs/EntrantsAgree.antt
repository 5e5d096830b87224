-- What all who went into a view agree on: its members, who comes from where, lists under one order.
use Rattle.std.proofs.Common.{◌≡◌, ℕ, Bool, true, false, Option, Some, None, List, [], length, map, refl, sym, ap, ◌∙◌, is_some}
use Rattle.std.specs.Prelude.{slice_get}
use Rattle.std.specs.Option.{option_map, option_map_or, option_eq}
use Rattle.std.proofs.lemmas.Bool.{and_parts, cond-true, cond-false}
use Rattle.std.proofs.lemmas.Option.{none-some, same_Some}
use Rattle.address.specs.Ids.{Address, ViewId, same_address, same_view_id}
use Rattle.view.specs.Members.{stands_in}
use Rattle.wire_values.specs.Values.{Report}
use Rattle.trace_props.specs.declared.event.Event.{Event}
use Rattle.trace_props.specs.declared.event.Event.TheVariants.{Installed}
use Rattle.trace_props.specs.declared.event.Install.{Install}
use Rattle.trace_props.specs.Observed.{entry_of}
use Rattle.trace_props.specs.Rules.{HasRisingViews, HasOneOrder}
use Rattle.address.proofs.SameIds.{same_address-true, same_view_id-true}
use Rattle.trace_props.proofs.DeliveredGrow.{enters, register-stands}
use Rattle.trace_props.proofs.InstallsOfRisingViews.{came-stands}
use Rattle.trace_props.proofs.RuleOfSameNext.{same-length}
use Rattle.law_acts.specs.Words.{entry_for, list_of, members_of}
use Rattle.law_acts.specs.Histories.{History, report_of, goes_from}
use Rattle.law_acts.specs.Invariant.{EachPacket}
use Rattle.law_acts.proofs.OrderedDeliveries.{many-delivered}
use Rattle.law_acts.proofs.KeepPackets.{members-entered}
use Rattle.law_acts.proofs.RegistersHoldPackets.{report-fact}
use Rattle.law_acts.proofs.EntrantsMeet.{same-previous}
use Rattle.address.proofs.Plain.{found}

-- ---- members

-- the members of a view are those of each install of it
pub members-agree : (t : List Event) (v : ViewId) (k : ℕ) (f : Install) → HasRisingViews t → is_some (entry_of v.creator v t) ≡ true → slice_get t k ≡ Some (Installed f)
    → f.view.id ≡ v → members_of v t ≡ f.view.members
members-agree t v k f views there stands same =
    let e = found (entry_of v.creator v t) there in
    let at = register-stands (enters v.creator v) t e.0 e.1 in
    let parts = and_parts (same_address e.0.member v.creator) (same_view_id e.0.view.id v) at.passes in
    ap (λ o. option_map_or (λ (i : Install). i.view.members) o []) e.1
    ∙ views.agrees at.place k e.0 f at.stands stands (same_view_id-true e.0.view.id v parts.1 ∙ sym same)

-- ---- who comes from a view is a member of it

-- who passes comes from there
pub goes-passes : (o : Option (Option ViewId)) (v : Option ViewId) → option_map_or (λ u. option_eq same_view_id u v) o false ≡ true → o ≡ Some v
goes-passes None v e = absurd (let n : false ≡ true = e in cc)
goes-passes (Some u) v e = ap Some (same-previous u v e)

-- a coordinator that came from a view had installed it
came-entered : (o : Option Install) (k : History) (w v : ViewId) (q : Address) (f : Install) (n : ℕ) → entry_of q w k.trace ≡ o → HasRisingViews k.trace
    → option_map (λ (e : Install). e.previous) o ≡ Some (Some v) → slice_get k.trace n ≡ Some (Installed f) → f.view.id ≡ v → stands_in q f.view.members ≡ true
came-entered None k w v q f n entry views from stands same = absurd (none-some (Some v) from)
came-entered (Some e) k w v q f n entry views from stands same =
    let t = k.trace in
    let at = register-stands (enters q w) t e entry in
    let mine = same_address-true e.member q (and_parts (same_address e.member q) (same_view_id e.view.id w) at.passes).0 in
    let before = came-stands t views at.place e at.stands v (same_Some e.previous (Some v) from) in
    let g = before.install in
    let parts = and_parts (same_address g.member e.member) (same_view_id g.view.id v) before.at.passes in
    let inside : stands_in g.member g.view.members ≡ true = (views.rises before.at.place (Installed g) before.at.stands).inside in
    ap (stands_in q) (sym (views.agrees before.at.place n g f before.at.stands stands (same_view_id-true g.view.id v parts.1 ∙ sym same)))
    ∙ ap (λ z. stands_in z g.view.members) (sym (same_address-true g.member e.member parts.0 ∙ mine)) ∙ inside

-- all others said that they are members
came-reported : (o : Option Report) (k : History) (w v : ViewId) (q : Address) (f : Install) (n : ℕ) → report_of q w k.pool ≡ o → HasRisingViews k.trace → EachPacket k
    → option_map (λ (r : Report). r.previous) o ≡ Some (Some v) → slice_get k.trace n ≡ Some (Installed f) → f.view.id ≡ v → stands_in q f.view.members ≡ true
came-reported None k w v q f n report views each from stands same = absurd (none-some (Some v) from)
came-reported (Some r) k w v q f n report views each from stands same =
    let says_of = (report-fact k q w r each report).true_of v (same_Some r.previous (Some v) from) in
    ap (stands_in q) (sym (members-agree k.trace v n f views (members-entered q v k.trace says_of.member) stands same)) ∙ says_of.member

comes-by : (b : Bool) (k : History) (w v : ViewId) (q : Address) (f : Install) (n : ℕ) → same_address q w.creator ≡ b → HasRisingViews k.trace → EachPacket k
    → goes_from k w q ≡ Some (Some v) → slice_get k.trace n ≡ Some (Installed f) → f.view.id ≡ v → stands_in q f.view.members ≡ true
comes-by true k w v q f n test views each from stands same =
    came-entered (entry_of q w k.trace) k w v q f n refl views (sym (cond-true (same_address q w.creator) _ _ test) ∙ from) stands same
comes-by false k w v q f n test views each from stands same =
    came-reported (report_of q w k.pool) k w v q f n refl views each (sym (cond-false (same_address q w.creator) _ _ test) ∙ from) stands same

-- who goes from a view into another is a member of the first
pub comes-member : (k : History) (w v : ViewId) (q : Address) (f : Install) (n : ℕ) → HasRisingViews k.trace → EachPacket k
    → goes_from k w q ≡ Some (Some v) → slice_get k.trace n ≡ Some (Installed f) → f.view.id ≡ v → stands_in q f.view.members ≡ true
comes-member k w v q f n views each from stands same = comes-by (same_address q w.creator) k w v q f n refl views each from stands same

-- ---- lists

-- lists of one view that are equally long are equal
pub same-list : (t : List Event) (p q : Address) (v : ViewId) → HasOneOrder t → length (list_of p v t) ≡ length (list_of q v t) → list_of p v t ≡ list_of q v t
unfolding list_of
same-list t p q v order e = ap (map entry_for) (same-length t p q v order (sym (many-delivered p v t) ∙ e ∙ many-delivered q v t))
