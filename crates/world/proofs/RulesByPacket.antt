-- What a member does by a FLUSH that it accepts or that is behind, by a BEHIND for its own flush, by a REPORT that it awaits, by a STATE that is new and by an
-- INSTALL that it enters by.
use Rattle.std.proofs.Common.{◌≡◌, ℕ, true, false, Option, Some, [], ◌∷◌, ◌++◌, ap, ◌∙◌, subst}
use Rattle.std.specs.Prelude.{MatchOption}
use Rattle.std.proofs.lemmas.Option.{none-some, same_Some}
use Rattle.std.specs.Option.{option_map, option_map_or}
use Rattle.address.specs.Ids.{Address, ViewId, same_address, same_view_id}
use Rattle.address.proofs.SameIds.{same_view_id-refl}
use Rattle.view.specs.Members.{View}
use Rattle.wire_values.specs.Values as wire
use Rattle.wire_values.specs.declared.packet.Body.TheVariants as bodies
use Rattle.wire_values.specs.Posted.{packet}
use Rattle.next_view.specs.ViewNotes.{having_heard}
use Rattle.step_output.specs.Outputs.{Grows}
use Rattle.state_transfer.specs.Meanings.{Meaning}
use Rattle.flush.specs.Flushes.{FlushModel}
use Rattle.view_install.specs.Promises.{offered, is_accept}
use Rattle.view_install.specs.declared.promise.OfferAnswer.{OfferAnswer}
use Rattle.view_install.specs.declared.promise.OfferAnswer.TheVariants.{Accept, Behind, Ignore}
use Rattle.step_output.specs.Steps.{Who}
use Rattle.traffic.specs.declared.view_state.ViewState.{ViewState}
use Rattle.membership.specs.InSteps.{InStep, in_step}
use Rattle.membership.specs.declared.member_state.MemberState.{MemberState}
use Rattle.membership.specs.MemberStates.{is_complete, is_expected, recording, would_hold, anew_proposal}
use Rattle.membership.specs.Changes.{StaysAs, TakesBy, Promises, BeginsAndGoesOn, FinishesAndProposes, GoesOn, TakesReport, TakesBehind, TakesChunk, TakesInstall, Enters, would_enter}
use Rattle.membership.specs.HeldChunks.{given_in}
use Rattle.member_rules.specs.Views.{OnFlush, OnBehind, OnReport, expects, is_proposing}
use Rattle.world.proofs.InputsTaken.{when-true, when-false}
use Rattle.world.specs.LowProposals.{told}

module _ {S : Type 0} (meaning : Meaning S) (who : Who) where
  -- ---- a FLUSH

  promises-by : (a : OfferAnswer) (w : View) (old new : InStep S) → is_accept a ≡ true → TakesBy who a w old new → Promises who w old new
  promises-by Accept w old new e x = x
  promises-by (Behind n) w old new e x = absurd (let n : false ≡ true = e in cc)
  promises-by Ignore w old new e x = absurd (let n : false ≡ true = e in cc)

  pub flush-promises : (q : Address) (w : View) (old new : InStep S) → same_address w.id.creator q ≡ true → is_accept (offered w old.member.promise) ≡ true → OnFlush who q w old new → Promises who w old new
  flush-promises q w old new own accepts x = promises-by (offered w old.member.promise) w old new accepts (when-true (same_address w.id.creator q) _ _ own x)

  -- ---- a FLUSH that is behind, and the BEHIND that answers it

  tells-by : (a : OfferAnswer) (k : ℕ) (w : View) (old new : InStep S) → told a ≡ Some k → TakesBy who a w old new
      → (new.member ≡ old.member) × Grows who.group old.out new.out (packet who.address (bodies.Behind w.id k) w.id.creator ∷ []) []
  tells-by Accept k w old new e x = absurd (none-some k e)
  tells-by (Behind n) k w old new e x =
      (x.0, subst (λ (j : ℕ). Grows who.group old.out new.out (packet who.address (bodies.Behind w.id j) w.id.creator ∷ []) []) (same_Some n k e) x.1)
  tells-by Ignore k w old new e x = absurd (none-some k e)

  pub flush-behind : (q : Address) (k : ℕ) (w : View) (old new : InStep S) → same_address w.id.creator q ≡ true → told (offered w old.member.promise) ≡ Some k → OnFlush who q w old new
      → (new.member ≡ old.member) × Grows who.group old.out new.out (packet who.address (bodies.Behind w.id k) w.id.creator ∷ []) []
  flush-behind q k w old new own tells x = tells-by (offered w old.member.promise) k w old new tells (when-true (same_address w.id.creator q) _ _ own x)

  -- the member when it has heard of a counter
  abbrev pub heard : ℕ → MemberState S → MemberState S
  heard k l = record l { notes = having_heard k l.notes }

  pub behind-begins : (f : FlushModel) (k : ℕ) (w : View) (old new : InStep S) → old.member.flush ≡ Some f → anew_proposal who.address (heard k old.member) ≡ Some w
      → OnBehind meaning who f.proposal k old new → BeginsAndGoesOn meaning who w (in_step (heard k old.member) old.out) new
  behind-begins f k w old new flush anew x =
      let mine : is_proposing f.proposal old.member ≡ true =
      ap (λ (o : Option FlushModel). option_map_or (λ g. same_view_id g.proposal f.proposal) o false) flush ∙ same_view_id-refl f.proposal in
      let a : TakesBehind meaning who k old new = when-true (is_proposing f.proposal old.member) _ _ mine x in
      subst (λ (o : Option View). MatchOption o (StaysAs (in_step (heard k old.member) old.out) new) (λ v. BeginsAndGoesOn meaning who v (in_step (heard k old.member) old.out) new)) anew a

  -- ---- a REPORT

  -- the member with its flush so
  abbrev pub flushing_on : FlushModel → MemberState S → MemberState S
  flushing_on g l = record l { flush = Some g }

  pub report-taken : (q : Address) (f g : FlushModel) (r : wire.Report) (old new : InStep S) → old.member.flush ≡ Some f → is_expected q f.proposal f ≡ true → recording q f.proposal r f ≡ g
      → OnReport meaning who q f.proposal r old new → GoesOn meaning who (in_step (flushing_on g old.member) old.out) new
  report-taken q f g r old new flush expected is x =
      let a : TakesReport meaning who q f.proposal r old new = when-true (expects q f.proposal old.member) _ _ (ap (λ (o : Option FlushModel). option_map_or (is_expected q f.proposal) o false) flush ∙ expected) x in
      let b : GoesOn meaning who (in_step (record (old.member) { flush = option_map (recording q f.proposal r) (Some f) }) old.out) new =
      subst (λ (o : Option FlushModel). GoesOn meaning who (in_step (record (old.member) { flush = option_map (recording q f.proposal r) o }) old.out) new) flush a in
      subst (λ (h : FlushModel). GoesOn meaning who (in_step (flushing_on h old.member) old.out) new) is b

  -- it waits on
  pub waits : (g : FlushModel) (l : MemberState S) (old new : InStep S) → is_complete g ≡ false → GoesOn meaning who (in_step (flushing_on g l) old.out) new
      → (new.member ≡ flushing_on g l) × (new.out ≡ old.out)
  waits g l old new e x = when-false (is_complete g) _ _ e x

  -- or goes into its proposal
  pub finishes : (g : FlushModel) (t : ViewState) (l : MemberState S) (old new : InStep S) → l.view_state ≡ Some t → is_complete g ≡ true → GoesOn meaning who (in_step (flushing_on g l) old.out) new
      → FinishesAndProposes meaning who g t (in_step (flushing_on g l) old.out) new
  finishes g t l old new view complete x =
      let a : MatchOption l.view_state ⊥ (λ u. FinishesAndProposes meaning who g u (in_step (flushing_on g l) old.out) new) = when-true (is_complete g) _ _ complete x in
      subst (λ (o : Option ViewState). MatchOption o ⊥ (λ u. FinishesAndProposes meaning who g u (in_step (flushing_on g l) old.out) new)) view a

  -- ---- a STATE and an INSTALL

  pub chunk-held : (q : Address) (w : ViewId) (chunk : wire.Chunk) (old new : InStep S) → would_hold q w chunk old.member ≡ true → TakesChunk q w chunk old new
      → (new.member ≡ record (old.member) { chunks = old.member.chunks ++ chunk ∷ [] }) × (new.out ≡ old.out)
  chunk-held q w chunk old new holds x = when-true (would_hold q w chunk old.member) _ _ holds x

  pub install-enters : (q : Address) (i : wire.Install) (old new : InStep S) → would_enter who.address old.member q i ≡ true → TakesInstall meaning who q i old new
      → Enters meaning who old.member.view_state i (given_in i.state old.member.chunks) old new
  install-enters q i old new enters x = (when-true (would_enter who.address old.member q i) _ _ enters x).1
