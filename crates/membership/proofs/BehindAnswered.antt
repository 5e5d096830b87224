-- Who offers less than what was promised is answered with the promised counter.
use Rattle.std.proofs.Common.{◌≡◌, ℕ, Bool, true, false, cond, Option, Some, List, [], ◌∷◌, refl, sym, ap, ◌∙◌, subst}
use Rattle.std.specs.Option.{option_map_or}
use Rattle.std.specs.declared.cmp.Ordering.{Ordering}
use Rattle.std.specs.declared.cmp.Ordering.TheVariants.{Less, Equal, Greater}
use Rattle.address.specs.Ids.{Address, view_id_cmp}
use Rattle.view.specs.Members.{View, stands_in}
use Rattle.wire_values.specs.declared.packet.Body.TheVariants as bodies
use Rattle.wire_values.specs.Posted.{packet}
use Rattle.view_install.specs.Promises.{PromiseModel, offered, answer_past}
use Rattle.view_install.specs.declared.promise.OfferAnswer.{OfferAnswer}
use Rattle.view_install.specs.declared.promise.OfferAnswer.TheVariants.{Accept, Behind, Ignore}
use Rattle.step_output.specs.declared.output.Output.{Output}
use Rattle.step_output.specs.Outputs.{Grows}
use Rattle.membership.specs.declared.member_state.MemberState.{MemberState}
use Rattle.membership.specs.Changes.{is_behind, TakesBy, TakesFlush}
use Rattle.step_output.specs.Steps.{who}
use Rattle.membership.specs.InSteps.{in_step}

past-by : (o : Ordering) (u : View) (installed : Bool) → is_behind (answer_past o u installed) ≡ true → answer_past o u installed ≡ Behind u.id.counter
past-by Greater u installed e = absurd (let n : false ≡ true = e in cc)
past-by Equal u true e = absurd (let n : false ≡ true = e in cc)
past-by Equal u false e = absurd (let n : false ≡ true = e in cc)
past-by Less u installed e = refl

offer-by : (b : Bool) (x : OfferAnswer) (n : ℕ) → (is_behind x ≡ true → x ≡ Behind n) → is_behind (cond b x Ignore) ≡ true → cond b x Ignore ≡ Behind n
offer-by true x n later e = later e
offer-by false x n later e = absurd (let f : false ≡ true = e in cc)

behind-is : (w u : View) (p : PromiseModel) → p.proposal ≡ Some u → is_behind (offered w p) ≡ true → offered w p ≡ Behind u.id.counter
behind-is w u p promised e =
    let past : option_map_or (λ v. answer_past (view_id_cmp w.id v.id) v p.is_installed) p.proposal Accept ≡ answer_past (view_id_cmp w.id u.id) u p.is_installed =
    ap (λ (o : Option View). option_map_or (λ v. answer_past (view_id_cmp w.id v.id) v p.is_installed) o Accept) promised in
    offer-by (stands_in p.member w.members) (option_map_or (λ v. answer_past (view_id_cmp w.id v.id) v p.is_installed) p.proposal Accept) u.id.counter
    (λ b. past ∙ past-by (view_id_cmp w.id u.id) u p.is_installed (ap is_behind (sym past) ∙ b)) e

pub answered-behind : {S : Type 0} (group : List ℕ) (me : Address) (w u : View) (l : MemberState S) (out later : Output) → l.promise.proposal ≡ Some u → is_behind (offered w l.promise) ≡ true
    → Grows group out later (packet me (bodies.Behind w.id u.id.counter) w.id.creator ∷ []) [] → TakesFlush (who me group) w (in_step l out) (in_step l later)
answered-behind group me w u l out later promised e grows =
    subst (λ (a : OfferAnswer). TakesBy (who me group) a w (in_step l out) (in_step l later)) (sym (behind-is w u l.promise promised e)) (refl, grows)
