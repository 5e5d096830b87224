-- Who goes into a view as its coordinator instructs it agrees with all who went there: on the members, on the messages, on who came along, on the state.
use Rattle.std.proofs.Common.{◌≡◌, ℕ, Bool, true, false, cond, Option, Some, None, List, [], ◌∷◌, ◌++◌, length, drop, refl, sym, ap, ◌∙◌, subst, is_some}
use Rattle.std.specs.Prelude.{slice_get, MatchOption, IsSome, unwrap_or}
use Rattle.std.specs.Option.{ForSome, option_map, option_and_then, option_eq}
use Rattle.std.proofs.lemmas.Bool.{and_parts, cond-true}
use Rattle.std.proofs.lemmas.Option.{same_Some}
use Rattle.std.proofs.lemmas.List.{drop_at}
use Rattle.address.specs.Ids.{Address, ViewId, same_address, same_view_id}
use Rattle.view.specs.Members.{View, stands_in}
use Rattle.wire_values.specs.Values.{Report}
use Rattle.wire_values.specs.Values as wire
use Rattle.state_transfer.specs.Meanings.{Meaning}
use Rattle.trace_props.specs.declared.event.Event.TheVariants.{Installed}
use Rattle.trace_props.specs.declared.event.Install.{Install}
use Rattle.trace_props.specs.declared.event.Numbered.{Numbered}
use Rattle.trace_props.specs.Observed.{current_view, delivered_in, sent_in, own, entry_of, first_install}
use Rattle.trace_props.specs.Rules.{IsRunning, IsBelow, EntersAbove, HasRisingViews, LiesWithin}
use Rattle.trace_props.specs.Agreeing.{goes, is_view, KnowEachOther, KnowsAll, MayMeet, MayHandBack}
use Rattle.trace_props.specs.State.{state_of, entry_state}
use Rattle.trace_props.specs.Verdicts.{GoesOn}
use Rattle.address.proofs.SameIds.{same_address-true, same_address-refl, same_view_id-true}
use Rattle.trace_props.proofs.DeliveredGrow.{enters, is_of, register-stands}
use Rattle.trace_props.proofs.InstallsOfRisingViews.{entered, not-entered}
use Rattle.trace_props.proofs.RuleOfSameNext.{is_view-true}
use Rattle.trace_props.proofs.RuleOfEntry.{state_of-push}
use Rattle.law_acts.specs.Words.{list_of}
use Rattle.law_acts.specs.Histories.{History, report_of, goes_from, goes_with}
use Rattle.law_acts.specs.Packets.{end_of, IsFitting, IsInstruction, IsEntry, state_with}
use Rattle.law_acts.specs.Invariant.{TraceFact, EachPacket, EachEntry, StateFact}
use Rattle.law_acts.specs.Members.{installed_as}
use Rattle.law_acts.proofs.TalliesGrow.{list_of-still}
use Rattle.law_acts.proofs.OrderedDeliveries.{many-delivered}
use Rattle.law_acts.proofs.KeepHistory.{Later, entered-later}
use Rattle.law_acts.proofs.KeepPackets.{goes-same, complete-later, together-later}
use Rattle.law_acts.proofs.KeepByInstall.{installed_on}
use Rattle.law_acts.proofs.KeepTrace.{rules-of}
use Rattle.law_acts.proofs.EntrantsMeet.{filter-passes, goes-reported, same-end, same-previous, together-exact}
use Rattle.view.proofs.MembersListed.{filter-within}
use Rattle.law_acts.proofs.EntrantsAgree.{members-agree, comes-member, goes-passes, same-list}
use Rattle.address.proofs.Plain.{found}

-- ---- what is so of a member that is about to go into a view as it was instructed

-- its install
abbrev pub going : Address → wire.Install → Option ViewId → List Numbered → Option (List ℕ) → Install
going p i from back given = record {
  member = p;
  previous = from;
  view = i.view;
  together = i.together;
  handed_back = back;
  given = given;
}

module _ {S : Type 0} (meaning : Meaning S) where
  -- it runs, and has delivered its last messages; the instruction is for its report
  pub record IsReady (k : History) (p : Address) (i : wire.Install) (r : Report) (back : List Numbered) (s : S) (given : Option (List ℕ)) : Type 0 where
    pub trace : TraceFact meaning k
    pub packets : EachPacket k
    pub entries : EachEntry k
    pub states : StateFact meaning k
    pub running : IsRunning p k.trace
    pub current : current_view p k.trace ≡ r.previous
    pub rises : ForSome r.previous (λ v. IsBelow v i.view.id)
    pub instruction : IsInstruction k i.view.id.creator p i
    pub report : report_of p i.view.id k.pool ≡ Some r
    pub end : ForSome r.previous (λ v. length (list_of p v k.trace) ≡ end_of i)
    pub rest : MatchOption r.previous (back ≡ []) (λ v. sent_in p v k.trace ≡ own p (delivered_in p v k.trace) ++ back)
    pub now : state_of meaning p k.trace ≡ s
    pub in_view : ForSome r.previous (λ v. state_with meaning v (list_of p v k.trace) k.trace ≡ Some s)
    pub readable : ForSome given (λ bytes. IsSome (meaning.decode bytes))
    -- the state with which the view begins, where it comes from another view than the coordinator
    pub gives : (e : Install) → entry_of i.view.id.creator i.view.id k.trace ≡ Some e
        → given ≡ cond (option_eq same_view_id r.previous e.previous) None (option_map meaning.encode (entry_state meaning i.view.id k.trace))

  module _ (k : History) (p : Address) (i : wire.Install) (r : Report) (back : List Numbered) (s : S) (given : Option (List ℕ)) (x : IsReady k p i r back s given) where
    abbrev w : ViewId
    w = i.view.id

    abbrev mine : Install
    mine = going p i r.previous back given

    fits : IsFitting k w p i r
    fits = x.instruction.fits r x.report

    views : HasRisingViews k.trace
    views = (rules-of meaning k x.trace).ordered.views

    -- its members are those of each install of the view
    view-members : (n : ℕ) (f : Install) → slice_get k.trace n ≡ Some (Installed f) → f.view.id ≡ w → f.view.members ≡ i.view.members
    view-members n f stands same = sym (members-agree k.trace w n f views x.instruction.led.entered stands same) ∙ x.instruction.led.members

    -- it goes from where it reported
    my-way : goes_from k w p ≡ Some r.previous
    my-way = goes-reported k w p r x.instruction.other x.report

    above : EntersAbove k.trace mine
    above = record { inside = x.instruction.listed; previous = sym x.current; rises = x.rises }

    rises-with : ForSome (first_install w k.trace) (λ f. f.view.members ≡ i.view.members)
    rises-with f e =
        let at = register-stands (is_of w) k.trace f e in
        view-members at.place f at.stands (same_view_id-true f.view.id w at.passes)

    -- as many messages as all who came from there
    meets : MayMeet k.trace (Installed mine)
    meets v from f e =
        let at = register-stands (goes v w) k.trace f e in
        let way = and_parts (same_view_id f.view.id w) (is_view v f.previous) at.passes in
        let there : entry_of f.member w k.trace ≡ Some f = ap (λ u. entry_of f.member u k.trace) (sym (same_view_id-true f.view.id w way.0)) ∙ entered k.trace views at.place f at.stands in
        sym (many-delivered f.member v k.trace)
        ∙ same-end k w v p f.member i r f x.instruction.led fits from x.entries there (is_view-true v f.previous way.1)
        ∙ sym (x.end v from) ∙ many-delivered p v k.trace

    -- who comes along is a member of both views
    within : LiesWithin i.together i.view.members
    within q there = filter-within (goes_with k w r.previous) q i.view.members (ap (stands_in q) (sym fits.together) ∙ there)

    within-before : ForSome r.previous (λ v. ForSome (first_install v k.trace) (λ f. LiesWithin i.together f.view.members))
    within-before v from f e q there =
        let at = register-stands (is_of v) k.trace f e in
        let passes = filter-passes (goes_with k w r.previous) q i.view.members (ap (stands_in q) (sym fits.together) ∙ there) in
        comes-member k w v q f at.place views x.packets (goes-passes (goes_from k w q) r.previous passes ∙ ap Some from) at.stands (same_view_id-true f.view.id v at.passes)

    -- it knows all who went there, and they know it
    knows : (q : Address) → stands_in q i.view.members ≡ true → ForSome (entry_of q w k.trace) (KnowEachOther mine)
    knows q listed f e =
        let at = register-stands (enters q w) k.trace f e in
        let parts = and_parts (same_address f.member q) (same_view_id f.view.id w) at.passes in
        let member = same_address-true f.member q parts.0 in
        let members = view-members at.place f at.stands (same_view_id-true f.view.id w parts.1) in
        let fact = x.entries q w f e in
        let one = together-exact k w r.previous f.previous q i.view.members listed fact.from in
        let two = together-exact k w f.previous r.previous p f.view.members (ap (stands_in p) members ∙ x.instruction.listed) my-way in
        record {
          knows = (
            (λ there. one.0 (ap (stands_in q) (sym fits.together) ∙ ap (λ z. stands_in z i.together) (sym member) ∙ there)),
            (λ same. ap (λ z. stands_in z i.together) member ∙ ap (stands_in q) fits.together ∙ one.1 same),
          );
          known = ((λ there. two.0 (ap (stands_in p) (sym fact.together) ∙ there)), (λ same. ap (stands_in p) fact.together ∙ two.1 same));
        }

    knows-all : KnowsAll k.trace mine
    knows-all = record {
      inside = within;
      before = within-before;
      itself = ap (stands_in p) fits.together ∙ (together-exact k w r.previous r.previous p i.view.members x.instruction.listed my-way).1 refl;
      others = knows;
    }

    -- it gets back what is left
    hands : MayHandBack k.trace (Installed mine)
    hands = by r.previous x.rest
      where
        by : (o : Option ViewId) → MatchOption o (back ≡ []) (λ v. sent_in p v k.trace ≡ own p (delivered_in p v k.trace) ++ back)
            → MatchOption o (back ≡ []) (λ v. back ≡ drop (length (own p (delivered_in p v k.trace))) (sent_in p v k.trace))
        by None e = e
        by (Some v) e =
            sym (drop_at (own p (delivered_in p v k.trace)) back (length (own p (delivered_in p v k.trace))) refl)
            ∙ ap (drop (length (own p (delivered_in p v k.trace)))) (sym e)

    -- ---- states

    -- the coordinator's install, and the state with which the view begins
    coordinator : (e : Install) × (entry_of w.creator w k.trace ≡ Some e)
    coordinator = found (entry_of w.creator w k.trace) x.instruction.led.entered

    begun : (z : S) × (entry_state meaning w k.trace ≡ Some z)
    begun = found (entry_state meaning w k.trace) (x.states.there w coordinator.0 coordinator.1)

    -- the state that it takes: a given one, else its own
    abbrev taken : S
    taken = unwrap_or (option_and_then meaning.decode given) s

    after-install : state_of meaning p (k.trace ++ Installed mine ∷ []) ≡ taken
    after-install =
        state_of-push meaning p k.trace (Installed mine)
        ∙ cond-true (same_address p p) (unwrap_or (option_and_then meaning.decode given) (state_of meaning p k.trace)) (state_of meaning p k.trace) (same_address-refl p)
        ∙ ap (λ z. unwrap_or (option_and_then meaning.decode given) z) x.now

    -- who comes along with the coordinator has the coordinator's state
    along : (e : Install) (v : ViewId) (z : S) → entry_of w.creator w k.trace ≡ Some e → e.previous ≡ Some v → r.previous ≡ Some v → entry_state meaning w k.trace ≡ Some z → s ≡ z
    along e v z entry theirs ours begins =
        let lists = same-list k.trace p w.creator v (rules-of meaning k x.trace).ordered.order (x.end v ours ∙ sym (fits.coordinator e v entry theirs ours)) in
        same_Some s z
        (sym (x.in_view v ours) ∙ ap (λ l. state_with meaning v l k.trace) lists ∙ x.states.begins w e entry v theirs ∙ begins)

    takes-by : (b : Bool) (e : Install) (z : S) → ((y : S) → meaning.is_state y → meaning.decode (meaning.encode y) ≡ Some y) → entry_of w.creator w k.trace ≡ Some e
        → entry_state meaning w k.trace ≡ Some z → option_eq same_view_id r.previous e.previous ≡ b
        → given ≡ cond b None (option_map meaning.encode (entry_state meaning w k.trace)) → taken ≡ z
    takes-by true e z reads entry begins same is =
        let from = found e.previous (x.instruction.led.from e entry) in
        ap (λ o. unwrap_or (option_and_then meaning.decode o) s) is
        ∙ along e from.0 z entry from.1 (same-previous r.previous e.previous same ∙ from.1) begins
    takes-by false e z reads entry begins other is =
        ap (λ o. unwrap_or (option_and_then meaning.decode o) s) (is ∙ ap (option_map meaning.encode) begins)
        ∙ ap (λ o. unwrap_or o s) (reads z (x.states.are w z begins))

    -- it takes the state with which the view begins
    takes : ((y : S) → meaning.is_state y → meaning.decode (meaning.encode y) ≡ Some y) → taken ≡ begun.0
    takes reads =
        takes-by (option_eq same_view_id r.previous coordinator.0.previous) coordinator.0 begun.0 reads coordinator.1 begun.1 refl
        (x.gives coordinator.0 coordinator.1)

    -- ---- all of it

    -- the install may follow
    pub install-goes : ((y : S) → meaning.is_state y → meaning.decode (meaning.encode y) ≡ Some y) → GoesOn meaning k.trace (Installed mine)
    install-goes reads = record {
      seven = (hands, (knows-all, (meets, (tt, (tt, ((above, rises-with), (x.running, tt)))))));
      enters = (
        x.readable,
        subst (λ (o : Option S). MatchOption o (same_address p w.creator ≡ true) (λ z. z ≡ state_of meaning p (k.trace ++ Installed mine ∷ []))) (sym begun.1)
            (sym (takes reads) ∙ sym after-install),
      );
    }

    -- it had not installed the view
    pub not-yet : entry_of p w k.trace ≡ None
    not-yet = by (entry_of p w k.trace) refl
      where
        by : (o : Option Install) → entry_of p w k.trace ≡ o → entry_of p w k.trace ≡ None
        by None e = e
        by (Some f) e = absurd (not-entered k.trace mine views above f e)

    -- and what holds of each install holds of it
    pub install-entry : Later k (installed_on k mine) → IsEntry (installed_on k mine) p w mine
    install-entry m = record {
      led = entered-later k (installed_on k mine) w.creator w m x.instruction.led.entered;
      from = goes-same k (installed_on k mine) w p m (ap is_some my-way) ∙ my-way;
      complete = complete-later k (installed_on k mine) w i.view.members m x.instruction.led.complete;
      together = fits.together ∙ together-later k (installed_on k mine) w r.previous i.view.members m x.instruction.led.complete;
      instructed = λ other. ap is_some x.instruction.one;
      end = λ j v other install from.
          ap length (list_of-still p v k.trace (Installed mine) refl) ∙ x.end v from ∙ ap end_of (same_Some i j (sym x.instruction.one ∙ install));
    }

    -- the coordinator installed the same view
    pub same-view : Later k (installed_on k mine) → installed_as w.creator w (installed_on k mine).trace ≡ Some i.view
    same-view m =
        let e = coordinator in
        let at = register-stands (enters w.creator w) k.trace e.0 e.1 in
        let parts = and_parts (same_address e.0.member w.creator) (same_view_id e.0.view.id w) at.passes in
        let id = same_view_id-true e.0.view.id w parts.1 in
        ap (option_map (λ (z : Install). z.view)) (m.entry w.creator w e.0 e.1)
        ∙ ap Some (ap {B = View} (λ (u : ViewId). record { id = u; members = e.0.view.members }) id
        ∙ ap {B = View} (λ (l : List Address). record { id = w; members = l }) (view-members at.place e.0 at.stands id))

    -- the state that it takes is one that a receiver can be in, and that with which the view begins
    pub takes-state : ((y : S) → meaning.is_state y → meaning.decode (meaning.encode y) ≡ Some y) → meaning.is_state taken
    takes-state reads = subst meaning.is_state (sym (takes reads)) (x.states.are w begun.0 begun.1)

    pub view-begins : ((y : S) → meaning.is_state y → meaning.decode (meaning.encode y) ≡ Some y) → entry_state meaning w k.trace ≡ Some taken
    view-begins reads = begun.1 ∙ ap Some (sym (takes reads))

    pub has-taken : state_of meaning p (installed_on k mine).trace ≡ taken
    has-taken = after-install
