-- Its own message is sent.
use Rattle.std.proofs.Common.{◌≡◌, ℕ, ◌+◌, ◌≤◌, Option, List, [], ◌∷◌, length, refl, sym, subst}
use Rattle.std.proofs.lemmas.List.Elements.{Contains-push}
use Rattle.address.specs.declared.limits.TheConstants.{PAYLOAD}
use Rattle.address.specs.Ids.{Address}
use Rattle.state_transfer.specs.Meanings.{Meaning}
use Rattle.trace_props.specs.declared.event.Event.TheVariants.{Sent}
use Rattle.address.proofs.SameIds.{same_address-refl}
use Rattle.wire_values.specs.Posted.{Posted}
use Rattle.law_acts.specs.Acts.{Sends}
use Rattle.traffic.specs.declared.coordinator.Coordinator.{Coordinator}
use Rattle.step_output.specs.declared.output.Output.{Output}
use Rattle.step_output.specs.Outputs.{Grows}
use Rattle.traffic.specs.Coordinators.{IsCoordinator, queued, pushing}
use Rattle.traffic.specs.Goings.{CoordinatorGoes, sending}
use Rattle.traffic.proofs.ActsOfTurns.{queue-goes}
use Rattle.traffic.proofs.ActsInTurn.{goes-then}
use Rattle.step_output.specs.Steps.{who}
use Rattle.traffic.specs.InViews.{in_view}

module _ {S : Type 0} (meaning : Meaning S) where
  pub send-goes : (came : Option Posted) (p : Address) (group : List ℕ) (m : Coordinator) (s : S) (out : Output) (x : List ℕ) (b : Coordinator) (more : Output) → IsCoordinator p m → length x ≤ PAYLOAD
      → Grows group out more [] (Sent (sending p m.view.id (m.forwards.sent + 1) x) ∷ []) → b ≡ queued p (m.forwards.sent + 1) x (pushing x m)
      → CoordinatorGoes meaning came (who p group) (in_view m s out) (in_view b s more)
  send-goes came p group m s out x b more i short grows end =
      let k = m.forwards.sent + 1 in
      let next = pushing x m in
      let coordinator : IsCoordinator p next = record { coordinator = i.coordinator; heard = i.heard; senders = i.senders; ordered = i.ordered; top = i.top } in
      let one : CoordinatorGoes meaning came (who p group) (in_view m s out) (in_view next s more) = record {
        goes = record {
          posted = [];
          happened = Sent (sending p m.view.id k x) ∷ [];
          acted = λ kept. record { acts = Sends m.view x ∷ []; chain = (record { open_in = record { view = refl; installed = refl }; short = short }, refl); puts = refl; happens = refl };
          grows = grows;
        };
        view = refl;
        coordinator = coordinator;
      } in
      let two = queue-goes meaning came p group next s more p k x coordinator (rw (same_address-refl p) (Contains-push m.forwards.rest (record { number = k; payload = x }))) in
      subst (λ (z : Coordinator). CoordinatorGoes meaning came (who p group) (in_view m s out) (in_view z s more)) (sym end)
      (goes-then meaning came (who p group) (in_view m s out) (in_view next s more) (in_view (queued p k x next) s more) one two)
