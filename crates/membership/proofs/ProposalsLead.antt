-- What a member proposes: it may, and it leads the view in which it does.
use Rattle.std.proofs.Common.{◌≡◌, Bool, true, false, cond, Option, Some, None, refl, sym, ap, ◌∙◌, subst, arith, is_some}
use Rattle.std.specs.Prelude.{if◌then◌else◌}
use Rattle.std.specs.Option.{option_map_or, option_and_then}
use Rattle.std.specs.declared.cmp.Ordering.TheVariants.{Greater}
use Rattle.std.proofs.lemmas.Bool.Decides.{nat_tests}
use Rattle.std.proofs.lemmas.Option.{none-some}
use Rattle.address.specs.Ids.{Address, ViewId, view_id_cmp}
use Rattle.view.specs.Members.{View, stands_in}
use Rattle.view.specs.View.{view_refusal}
use Rattle.flush.specs.Flushes.{FlushModel}
use Rattle.view_install.specs.Promises.{PromiseModel, offered, is_accept, answer_past}
use Rattle.view_install.specs.declared.promise.OfferAnswer.TheVariants.{Accept, Ignore}
use Rattle.trace_props.specs.Rules.{IsBelow}
use Rattle.law_acts.specs.Acts.{IsAbovePromise}
use Rattle.law_acts.specs.Decisions.{proposal_after, due_proposal}
use Rattle.law_acts.proofs.ProposalsAreViews.{next-means, proposal-is-view, due-means}
use Rattle.membership.specs.declared.member_state.MemberState.{MemberState}
use Rattle.membership.specs.MemberStates.{core_of, view_in, leads_in, anew_proposal, IsMemberState}
use Rattle.view.proofs.MembersListed.{coordinator-in}
use Rattle.step_output.specs.Steps.{Who}

-- ---- the creator of a view stands in it

-- ---- what is above the promise, and lists the member, is accepted

below-greater : (v w : ViewId) → IsBelow v w → view_id_cmp w v ≡ Greater
below-greater v w e = grind (arith, nat_tests)

accepts-by : (promise : Option View) (installed : Bool) (w : View) → IsAbovePromise w.id promise → is_accept (option_map_or (λ v. answer_past (view_id_cmp w.id v.id) v installed) promise Accept) ≡ true
accepts-by None installed w above = refl
accepts-by (Some v) installed w above = ap (λ o. is_accept (answer_past o v installed)) (below-greater v.id w.id (above v refl))

above-accepts : (w : View) (p : PromiseModel) → IsAbovePromise w.id p.proposal → stands_in p.member w.members ≡ true → is_accept (offered w p) ≡ true
above-accepts w p above listed = ap (λ b. is_accept (cond b (option_map_or (λ v. answer_past (view_id_cmp w.id v.id) v p.is_installed) p.proposal Accept) Ignore)) listed ∙ accepts-by p.proposal p.is_installed w above

-- ---- a proposal

-- a proposal of a member, in the view that it leads
pub record IsProposal {S : Type 0} (me : Address) (l : MemberState S) (w : View) : Type 0 where
  pub before : View
  pub inside : view_in l.view_state ≡ Some before
  pub leads : leads_in me before l.notes ≡ true
  pub next : proposal_after (core_of me l) l.notes before ≡ Some w
  pub own : w.id.creator ≡ me
  pub sound : view_refusal w.id w.members ≡ None
  pub listed : stands_in me w.members ≡ true
  pub accepted : is_accept (offered w l.promise) ≡ true

module _ {S : Type 0} (who : Who) where
  pub is-proposal : (l : MemberState S) (v w : View) → IsMemberState who l → view_in l.view_state ≡ Some v → leads_in who.address v l.notes ≡ true
      → proposal_after (core_of who.address l) l.notes v ≡ Some w → IsProposal who.address l w
  is-proposal l v w kept inside leads next =
      let sound : view_refusal w.id w.members ≡ None = proposal-is-view (core_of who.address l) l.notes v w leads kept.unsuspected next in
      let x = next-means (core_of who.address l) l.notes _ w next in
      let listed : stands_in who.address w.members ≡ true = subst (λ (p : Address). stands_in p w.members ≡ true) x.own (coordinator-in w.id w.members sound) in
      record {
        before = v;
        inside = inside;
        leads = leads;
        next = next;
        own = x.own;
        sound = sound;
        listed = listed;
        accepted = above-accepts w l.promise x.above (subst (λ (p : Address). stands_in p w.members ≡ true) (sym kept.own) listed);
      }

  -- what is due is one
  pub due-is-proposal : (l : MemberState S) (w : View) → IsMemberState who l → due_proposal (core_of who.address l) l.notes ≡ Some w → IsProposal who.address l w
  due-is-proposal l w kept e = let d = due-means (core_of who.address l) l.notes w e in is-proposal l d.before w kept d.inside d.it_leads d.next

  flush-by : (flush : Option FlushModel) (l : MemberState S) (v w : View) → IsMemberState who l → l.flush ≡ flush → view_in l.view_state ≡ Some v
      → (if is_some flush then proposal_after (core_of who.address l) l.notes v else None) ≡ Some w → IsProposal who.address l w
  flush-by None l v w kept q inside e = absurd (none-some w e)
  flush-by (Some f) l v w kept q inside e = is-proposal l v w kept inside ((kept.flushing f q).leads v inside) e

  view-by : (view : Option View) (l : MemberState S) (w : View) → IsMemberState who l → view_in l.view_state ≡ view
      → option_and_then (λ v. if is_some l.flush then proposal_after (core_of who.address l) l.notes v else None) view ≡ Some w → IsProposal who.address l w
  view-by None l w kept q e = absurd (none-some w e)
  view-by (Some v) l w kept q e = flush-by l.flush l v w kept refl q e

  -- what it proposes anew is one
  pub anew-is-proposal : (l : MemberState S) (w : View) → IsMemberState who l → anew_proposal who.address l ≡ Some w → IsProposal who.address l w
  anew-is-proposal l w kept e = view-by (view_in l.view_state) l w kept refl e

  flush-by-leads : (flush : Option FlushModel) (l : MemberState S) (v : View) → IsMemberState who l → l.flush ≡ flush → is_some flush ≡ true → view_in l.view_state ≡ Some v → leads_in who.address v l.notes ≡ true
  flush-by-leads None l v kept q there inside = absurd (let n : false ≡ true = there in cc)
  flush-by-leads (Some f) l v kept q there inside = (kept.flushing f q).leads v inside

  -- whoever has a flush of its own leads its view
  pub flush-leads : (l : MemberState S) (v : View) → IsMemberState who l → is_some l.flush ≡ true → view_in l.view_state ≡ Some v → leads_in who.address v l.notes ≡ true
  flush-leads l v kept there inside = flush-by-leads l.flush l v kept refl there inside

pub anew-is : {S : Type 0} (me : Address) (l : MemberState S) (v : View) (o : Option View) → is_some l.flush ≡ true → view_in l.view_state ≡ Some v → o ≡ proposal_after (core_of me l) l.notes v
    → o ≡ anew_proposal me l
anew-is me l v o there inside is =
    is ∙ sym (ap (λ (view : Option View). option_and_then (λ u. if is_some l.flush then proposal_after (core_of me l) l.notes u else None) view) inside
    ∙ ap (λ b. if b then proposal_after (core_of me l) l.notes v else None) there)
