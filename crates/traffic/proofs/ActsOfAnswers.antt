-- What is asked, said again and answered is acts.
use Rattle.std.proofs.Common.{◌≡◌, ℕ, zero, suc, ◌+◌, ◌<◌, ◌≤◌, Bool, true, false, max, min, Option, Some, None, List, [], ◌∷◌, ◌++◌, map, length, refl, sym, ap, ◌∙◌, subst, arith}
use Rattle.std.specs.Prelude.{nat_lt}
use Rattle.std.specs.Option.{option_map_or}
use Rattle.std.proofs.lemmas.Bool.Decides.{nat_tests}
use Rattle.std.proofs.lemmas.Bool.{cond-true, cond-false}
use Rattle.std.proofs.lemmas.List.Elements.{Contains-push}
use Rattle.std.proofs.Math.Nat.{max-eq_right}
use Rattle.address.specs.declared.limits.TheConstants.{PAYLOAD}
use Rattle.address.specs.Ids.{Address}
use Rattle.wire_values.specs.Values.{Entry, Progress, held_at}
use Rattle.wire_values.specs.declared.packet.Body.TheVariants as bodies
use Rattle.wire_values.specs.Posted.{Posted, packet}
use Rattle.state_transfer.specs.Meanings.{Meaning}
use Rattle.trace_props.specs.declared.event.Numbered.{Numbered}
use Rattle.nak_stream.specs.Windows.{WindowModel, held_above}
use Rattle.law_acts.specs.Acts.{Sends, Collects, Puts, Announced, HoldsAbove, others_of}
use Rattle.law_acts.specs.Chains.{Acted}
use Rattle.law_acts.proofs.LawsOfActs.{nothing-acted}
use Rattle.traffic.specs.declared.coordinator.Coordinator.{Coordinator}
use Rattle.traffic.specs.declared.follower.Follower.{Follower}
use Rattle.step_output.specs.declared.output.Output.{Output}
use Rattle.step_output.specs.Outputs.{Grows}
use Rattle.traffic.specs.ViewStates.{coordinator_core, follower_core}
use Rattle.traffic.specs.Coordinators.{IsCoordinator}
use Rattle.traffic.specs.Goings.{Beside, open_core, CoordinatorGoes, FollowerGoes}
use Rattle.traffic.specs.Followers.{collected_to}
use Rattle.traffic.specs.Takes.{TakesStatus, AsksUpTo, status_packet, orders_held, forward_of, ack_of, follower_pushing, SendsForward, progress_of}
use Rattle.traffic.proofs.ActsOfCoordinator.{view_core_at, puts-acts}
use Rattle.traffic.proofs.Windows.{holds-above}
use Rattle.traffic.proofs.QueuesServe.{In, in-itself}
use Rattle.step_output.proofs.GrowthAdds.{grows-nothing}
use Rattle.traffic.proofs.ActsInTurn.{other-then}
use Rattle.traffic.proofs.OthersDeliver.{asks-goes}
use Rattle.step_output.specs.Steps.{who}
use Rattle.traffic.specs.InViews.{in_view}

module _ {S : Type 0} (meaning : Meaning S) where
  -- ---- another member

  announced-by : (b : Bool) (p : Address) (kept : Beside) (m : Follower) (s : S) (a : Progress) → nat_lt m.window.stable (min a.stable m.window.delivered) ≡ b
      → Acted meaning (status_packet p m.view a) (Some (open_core p m.view kept (follower_core m) s)) [] [] (Some (open_core p m.view kept (follower_core (collected_to a.stable m)) s))
  announced-by true p kept m s a more =
      let t = min a.stable m.window.delivered in
      let over : m.window.stable < t = grind (arith, nat_tests) in
      let next : WindowModel = record { stable = t; delivered = m.window.delivered; held = held_above t m.window.held } in
      let top : max m.window.stable t ≡ t = max-eq_right (omega arith) in
      record {
        acts = Collects m.view t (held_above t m.window.held) ∷ [];
        chain = (
          record {
            open_in = record { view = refl; installed = refl };
            reached = omega arith;
            stable = Announced a refl (omega arith);
            fewer = subst (λ (k : ℕ). HoldsAbove m.window.held k (held_above t m.window.held)) (sym top) (holds-above t m.window.held);
          },
          ap (λ (k : ℕ). Some (open_core p m.view kept (view_core_at (record next { stable = k }) m.forwards (λ q. 0) (λ q. 0) []) s)) top
              ∙ ap (λ (w : WindowModel). Some (open_core p m.view kept (view_core_at w m.forwards (λ q. 0) (λ q. 0) []) s)) (sym (cond-true (nat_lt m.window.stable t) next m.window more)),
        );
        puts = refl;
        happens = refl;
      }
  announced-by false p kept m s a more =
      let t = min a.stable m.window.delivered in
      let next : WindowModel = record { stable = t; delivered = m.window.delivered; held = held_above t m.window.held } in
      record {
        acts = [];
        chain = ap (λ (w : WindowModel). Some (open_core p m.view kept (view_core_at w m.forwards (λ q. 0) (λ q. 0) []) s)) (sym (cond-false (nat_lt m.window.stable t) next m.window more));
        puts = refl;
        happens = refl;
      }

  pub status-goes : (p : Address) (group : List ℕ) (a : Progress) (m : Follower) (s : S) (out : Output) (new : Follower) (more : Output) → TakesStatus (who p group) a m out new more
      → FollowerGoes meaning (status_packet p m.view a) (who p group) (in_view m s out) (in_view new s more)
  status-goes p group a m s out new more x =
      let next = collected_to a.stable m in
      subst (λ (n : Follower). FollowerGoes meaning (status_packet p m.view a) (who p group) (in_view m s out) (in_view n s more)) (sym x.0)
      (other-then meaning (status_packet p m.view a) (who p group) (in_view m s out) (in_view next s out) (in_view next s more)
      (record { posted = []; happened = []; acted = λ kept. announced-by _ p kept m s a refl; grows = grows-nothing group out }, refl)
      (asks-goes meaning (status_packet p m.view a) p group a.highest next s out more (subst (λ (n : Follower). AsksUpTo (who p group) a.highest n out more) x.0 x.1)))

  pub send-goes : (came : Option Posted) (p : Address) (group : List ℕ) (x : List ℕ) (m : Follower) (s : S) (out : Output) (new : Follower) (more : Output) → length x ≤ PAYLOAD → new ≡ follower_pushing x m
      → SendsForward (who p group) x m out more → FollowerGoes meaning came (who p group) (in_view m s out) (in_view new s more)
  send-goes came p group x m s out new more short now sends =
      let f : Numbered = record { number = m.forwards.sent + 1; payload = x } in
      subst (λ (n : Follower). FollowerGoes meaning came (who p group) (in_view m s out) (in_view n s more)) (sym now) (
        record {
          posted = forward_of p m.view f ∷ [];
          happened = _;
          acted = λ kept. record {
            acts = Sends m.view x ∷ Puts m.view.id.creator (bodies.Forward m.view.id f.number x) ∷ [];
            chain = (record { open_in = record { view = refl; installed = refl }; short = short }, ((refl, Contains-push m.forwards.rest f), refl));
            puts = refl;
            happens = refl;
          };
          grows = sends;
        },
        refl,
      )

  puts-forwards : (came : Option Posted) (p : Address) (kept : Beside) (m : Follower) (s : S) (fs : List Numbered) → In fs m.forwards.rest
      → Acted meaning came (Some (open_core p m.view kept (follower_core m) s)) (map (forward_of p m.view) fs ++ ack_of p m ∷ []) [] (Some (open_core p m.view kept (follower_core m) s))
  puts-forwards came p kept m s [] i = record { acts = Puts m.view.id.creator (bodies.Ack m.view.id m.window.delivered) ∷ []; chain = ((refl, omega arith), refl); puts = refl; happens = refl }
  puts-forwards came p kept m s (f ∷ fs) i =
      let rest = puts-forwards came p kept m s fs (record { each = λ k x at. i.each (suc k) x at }) in
      record {
        acts = Puts m.view.id.creator (bodies.Forward m.view.id f.number f.payload) ∷ rest.acts;
        chain = ((refl, i.each 0 f refl), rest.chain);
        puts = ap (λ l. forward_of p m.view f ∷ l) rest.puts;
        happens = rest.happens;
      }

  pub tick-goes : (came : Option Posted) (p : Address) (group : List ℕ) (m : Follower) (s : S) (out more : Output) → Grows group out more (map (forward_of p m.view) m.forwards.rest ++ ack_of p m ∷ []) []
      → FollowerGoes meaning came (who p group) (in_view m s out) (in_view m s more)
  tick-goes came p group m s out more grows =
      (record { posted = _; happened = []; acted = λ kept. puts-forwards came p kept m s m.forwards.rest (in-itself m.forwards.rest); grows = grows }, refl)

  -- ---- the coordinator

  pub status-tick-goes : (came : Option Posted) (p : Address) (group : List ℕ) (m : Coordinator) (s : S) (out more : Output) → IsCoordinator p m
      → Grows group out more (map (packet p (bodies.Status m.view.id (progress_of m.window))) (others_of p m.view.members)) [] → CoordinatorGoes meaning came (who p group) (in_view m s out) (in_view m s more)
  status-tick-goes came p group m s out more i grows = record {
    goes = record {
      posted = map (packet p (bodies.Status m.view.id (progress_of m.window))) (others_of p m.view.members);
      happened = [];
      acted = λ kept. puts-acts meaning came (open_core p m.view kept (coordinator_core m) s) (bodies.Status m.view.id (progress_of m.window)) (others_of p m.view.members)
          (λ q. (refl, i.coordinator, omega arith, omega arith));
      grows = grows;
    };
    view = refl;
    coordinator = i;
  }

  puts-held : (came : Option Posted) (p q : Address) (kept : Beside) (m : Coordinator) (s : S) (k n : ℕ) → IsCoordinator p m
      → Acted meaning came (Some (open_core p m.view kept (coordinator_core m) s)) (orders_held p m.view q m.window.held k n) [] (Some (open_core p m.view kept (coordinator_core m) s))
  puts-held came p q kept m s k zero i = nothing-acted meaning came (Some (open_core p m.view kept (coordinator_core m) s))
  puts-held came p q kept m s k (suc n) i = by (held_at k m.window.held) refl (puts-held came p q kept m s (k + 1) n i)
    where
      by : (o : Option Entry) → held_at k m.window.held ≡ o
          → Acted meaning came (Some (open_core p m.view kept (coordinator_core m) s)) (orders_held p m.view q m.window.held (k + 1) n) [] (Some (open_core p m.view kept (coordinator_core m) s))
          → Acted meaning came (Some (open_core p m.view kept (coordinator_core m) s))
          (option_map_or (λ e. packet p (bodies.Order m.view.id k e) q ∷ []) o [] ++ orders_held p m.view q m.window.held (k + 1) n) [] (Some (open_core p m.view kept (coordinator_core m) s))
      by None there rest = rest
      by (Some e) there rest = record {
        acts = Puts q (bodies.Order m.view.id k e) ∷ rest.acts;
        chain = ((refl, i.coordinator, there), rest.chain);
        puts = ap (λ l. packet p (bodies.Order m.view.id k e) q ∷ l) rest.puts;
        happens = rest.happens;
      }

  pub nak-goes : (came : Option Posted) (p q : Address) (group : List ℕ) (k n : ℕ) (m : Coordinator) (s : S) (out more : Output) → IsCoordinator p m → Grows group out more (orders_held p m.view q m.window.held k n) []
      → CoordinatorGoes meaning came (who p group) (in_view m s out) (in_view m s more)
  nak-goes came p q group k n m s out more i grows = record {
    goes = record {
      posted = orders_held p m.view q m.window.held k n;
      happened = [];
      acted = λ kept. puts-held came p q kept m s k n i;
      grows = grows;
    };
    view = refl;
    coordinator = i;
  }
