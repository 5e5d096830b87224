-- What another member of a view does is acts.
use Rattle.std.proofs.Common.{◌≡◌, ℕ, ◌+◌, ◌-◌, ◌<◌, ◌≤◌, Bool, ◌&&◌, true, false, not, max, min, Option, Some, None, List, [], ◌∷◌, refl, sym, ap, ◌∙◌, subst, arith, is_some}
use Rattle.std.specs.Prelude.{nat_lt, nat_le, MatchOption}
use Rattle.std.proofs.lemmas.Bool.Decides.{nat_tests}
use Rattle.std.proofs.lemmas.Bool.{cond-true, cond-false, and_parts}
use Rattle.std.proofs.Math.Nat.{max-eq_right}
use Rattle.address.specs.declared.limits.TheConstants.{WINDOW, GREATEST_NUMBER}
use Rattle.address.specs.Ids.{Address, same_address}
use Rattle.view.specs.Members.{View}
use Rattle.wire_values.specs.Values.{Entry, held_at}
use Rattle.wire_values.specs.declared.packet.Body.{Body}
use Rattle.wire_values.specs.Posted.{Posted, packet}
use Rattle.state_transfer.specs.Meanings.{Meaning}
use Rattle.trace_props.specs.declared.event.Numbered.{Numbered}
use Rattle.nak_stream.specs.Windows.{WindowModel, held_with, held_above, offers}
use Rattle.nak_stream.proofs.Windows.{offered}
use Rattle.sequencer.specs.Forwards.{ForwardsModel}
use Rattle.law_acts.specs.Cores.{left_of}
use Rattle.law_acts.specs.Acts.{Collects, Holds, Delivers, Puts, Ordered, HoldsAbove, Describes, delivery}
use Rattle.law_acts.specs.Chains.{Acted}
use Rattle.traffic.specs.declared.follower.Follower.{Follower}
use Rattle.step_output.specs.declared.output.Output.{Output}
use Rattle.step_output.specs.Outputs.{Grows}
use Rattle.traffic.specs.ViewStates.{after_delivery, follower_core}
use Rattle.traffic.specs.Goings.{Beside, open_core, FollowerGoes}
use Rattle.traffic.specs.Followers.{order_packet, DeliversOne, collected_to, held_too}
use Rattle.traffic.proofs.ActsOfCoordinator.{view_core_at, delivered-by}
use Rattle.traffic.proofs.Windows.{holds-more, holds-above}
use Rattle.step_output.proofs.GrowthAdds.{grows-nothing}
use Rattle.traffic.proofs.ActsInTurn.{other-nothing, other-then}
use Rattle.step_output.specs.Steps.{Who, who}
use Rattle.traffic.specs.InViews.{InView, in_view}

record Taken (g : ℕ) (w : WindowModel) : Type 0 where
  pub past : w.delivered < g
  pub near : g ≤ w.stable + WINDOW
  pub free : held_at g w.held ≡ None

none-is : (o : Option Entry) → not (is_some o) ≡ true → o ≡ None
none-is None e = refl
none-is (Some x) e = cc

taken-fact : (g : ℕ) (w : WindowModel) → offers g w ≡ true → Taken g w
taken-fact g w h =
    let free = not (is_some (held_at g w.held)) in
    let z = and_parts (nat_lt w.delivered g && nat_le g (w.stable + WINDOW) && nat_le g GREATEST_NUMBER) free h in
    let o = offered g w h in
    record { past = o.past; near = o.reach; free = none-is (held_at g w.held) z.1 }

module _ {S : Type 0} (meaning : Meaning S) where
  abbrev Does : Option Posted → Who → InView Follower S → InView Follower S → Type 0
  Does came w old new = FollowerGoes meaning came w old new

  -- ---- Delivers

  delivers-acts : (came : Option Posted) (p : Address) (kept : Beside) (m : Follower) (s : S) (e : Entry) → same_address p m.view.id.creator ≡ false
      → held_at (m.window.delivered + 1) m.window.held ≡ Some e
      → Acted meaning came (Some (open_core p m.view kept (follower_core m) s)) [] (delivery p m.view.id e ∷ [])
      (Some (open_core p m.view kept (follower_core (record m { window = record (m.window) { delivered = m.window.delivered + 1 }; forwards = after_delivery p e m.forwards })) (meaning.apply s e.sender e.payload)))
  delivers-acts came p kept m s e other there =
      let moved : WindowModel = record (m.window) { delivered = m.window.delivered + 1 } in
      let own : Numbered = record { number = e.number; payload = e.payload } in
      let left : ForwardsModel = record { sent = m.forwards.sent; rest = left_of p (e ∷ []) m.forwards.rest } in
      let forwards : left ≡ after_delivery p e m.forwards = sym (delivered-by (same_address e.sender p) own m.forwards) in
      record {
        acts = Delivers m.view e ∷ [];
        chain = (
          record { open_in = record { view = refl; installed = refl }; other = other; next = there },
          ap (λ (f : ForwardsModel). Some (open_core p m.view kept (view_core_at moved f (λ q. 0) (λ q. 0) []) (meaning.apply s e.sender e.payload))) forwards,
        );
        puts = refl;
        happens = refl;
      }

  pub delivers-goes : (came : Option Posted) (p : Address) (group : List ℕ) (m : Follower) (s : S) (out : Output) (e : Entry) (new : Follower) (t : S) (more : Output) → same_address p m.view.id.creator ≡ false
      → held_at (m.window.delivered + 1) m.window.held ≡ Some e → DeliversOne meaning (who p group) e (in_view m s out) (in_view new t more) → Does came (who p group) (in_view m s out) (in_view new t more)
  delivers-goes came p group m s out e new t more other there x =
      subst (λ (n : Follower). Does came (who p group) (in_view m s out) (in_view n t more)) (sym x.now)
      (subst (λ (z : S). Does came (who p group) (in_view m s out) (in_view (record m { window = record (m.window) { delivered = m.window.delivered + 1 }; forwards = after_delivery p e m.forwards }) z more)) (sym x.state) (
        record {
          posted = [];
          happened = delivery p m.view.id e ∷ [];
          acted = λ kept. delivers-acts came p kept m s e other there;
          grows = x.grows;
        },
        refl,
      ))

  -- ---- Collects and Holds, by an ORDER

  collects-by : (b : Bool) (p : Address) (kept : Beside) (m : Follower) (s : S) (g : ℕ) (e : Entry) → nat_lt m.window.stable (min (g - WINDOW) m.window.delivered) ≡ b
      → Acted meaning (order_packet p m.view g e) (Some (open_core p m.view kept (follower_core m) s)) [] [] (Some (open_core p m.view kept (follower_core (collected_to (g - WINDOW) m)) s))
  collects-by true p kept m s g e more =
      let t = min (g - WINDOW) m.window.delivered in
      let over : m.window.stable < t = grind (arith, nat_tests) in
      let next : WindowModel = record { stable = t; delivered = m.window.delivered; held = held_above t m.window.held } in
      let top : max m.window.stable t ≡ t = max-eq_right (omega arith) in
      record {
        acts = Collects m.view t (held_above t m.window.held) ∷ [];
        chain = (
          record {
            open_in = record { view = refl; installed = refl };
            reached = omega arith;
            stable = Ordered g e refl (omega arith);
            fewer = subst (λ (k : ℕ). HoldsAbove m.window.held k (held_above t m.window.held)) (sym top) (holds-above t m.window.held);
          },
          ap (λ (k : ℕ). Some (open_core p m.view kept (view_core_at (record next { stable = k }) m.forwards (λ q. 0) (λ q. 0) []) s)) top
              ∙ ap (λ (w : WindowModel). Some (open_core p m.view kept (view_core_at w m.forwards (λ q. 0) (λ q. 0) []) s)) (sym (cond-true (nat_lt m.window.stable t) next m.window more)),
        );
        puts = refl;
        happens = refl;
      }
  collects-by false p kept m s g e more =
      let t = min (g - WINDOW) m.window.delivered in
      let next : WindowModel = record { stable = t; delivered = m.window.delivered; held = held_above t m.window.held } in
      record {
        acts = [];
        chain = ap (λ (w : WindowModel). Some (open_core p m.view kept (view_core_at w m.forwards (λ q. 0) (λ q. 0) []) s)) (sym (cond-false (nat_lt m.window.stable t) next m.window more));
        puts = refl;
        happens = refl;
      }

  holds-by : (b : Bool) (p : Address) (kept : Beside) (m : Follower) (s : S) (g : ℕ) (e : Entry) → same_address p m.view.id.creator ≡ false → offers g m.window ≡ b
      → Acted meaning (order_packet p m.view g e) (Some (open_core p m.view kept (follower_core m) s)) [] [] (Some (open_core p m.view kept (follower_core (held_too g e m)) s))
  holds-by true p kept m s g e other new =
      let x = taken-fact g m.window new in
      let next : WindowModel = record (m.window) { held = held_with g e m.window.held } in
      record {
        acts = Holds m.view g e (held_with g e m.window.held) ∷ [];
        chain = (
          record { open_in = record { view = refl; installed = refl }; other = other; ordered = refl; new = x.past; near = x.near; more = holds-more g e m.window.held x.free },
          ap (λ (w : WindowModel). Some (open_core p m.view kept (view_core_at w m.forwards (λ q. 0) (λ q. 0) []) s)) (sym (cond-true (offers g m.window) next m.window new)),
        );
        puts = refl;
        happens = refl;
      }
  holds-by false p kept m s g e other new =
      let next : WindowModel = record (m.window) { held = held_with g e m.window.held } in
      record {
        acts = [];
        chain = ap (λ (w : WindowModel). Some (open_core p m.view kept (view_core_at w m.forwards (λ q. 0) (λ q. 0) []) s)) (sym (cond-false (offers g m.window) next m.window new));
        puts = refl;
        happens = refl;
      }

  -- an ORDER: what is stable by it is let go of, and it is held
  pub takes-goes : (p : Address) (group : List ℕ) (m : Follower) (s : S) (out : Output) (g : ℕ) (e : Entry) (more most : Follower) → same_address p m.view.id.creator ≡ false
      → more ≡ collected_to (g - WINDOW) m → most ≡ held_too g e more → Does (order_packet p m.view g e) (who p group) (in_view m s out) (in_view most s out)
  takes-goes p group m s out g e more most other now after =
      let next = collected_to (g - WINDOW) m in
      let one : Does (order_packet p m.view g e) (who p group) (in_view m s out) (in_view next s out) =
      (record { posted = []; happened = []; acted = λ kept. collects-by _ p kept m s g e refl; grows = grows-nothing group out }, refl) in
      let two : Does (order_packet p m.view g e) (who p group) (in_view next s out) (in_view (held_too g e next) s out) =
      (record { posted = []; happened = []; acted = λ kept. holds-by _ p kept next s g e other refl; grows = grows-nothing group out }, refl) in
      subst (λ (n : Follower). Does (order_packet p m.view g e) (who p group) (in_view m s out) (in_view n s out)) (sym (after ∙ ap (held_too g e) now))
      (other-then meaning (order_packet p m.view g e) (who p group) (in_view m s out) (in_view next s out) (in_view (held_too g e next) s out) one two)

  -- ---- a packet that says what is known

  pub puts-goes : (came : Option Posted) (p : Address) (group : List ℕ) (m : Follower) (s : S) (out more : Output) (q : Address) (b : Body)
      → ((kept : Beside) → Describes (open_core p m.view kept (follower_core m) s) q b) → Grows group out more (packet p b q ∷ []) [] → Does came (who p group) (in_view m s out) (in_view m s more)
  puts-goes came p group m s out more q b says puts = (
    record {
      posted = packet p b q ∷ [];
      happened = [];
      acted = λ kept. record { acts = Puts q b ∷ []; chain = (says kept, refl); puts = refl; happens = refl };
      grows = puts;
    },
    refl,
  )

  -- ---- one turn of delivering, as the code has it

  abbrev pub DeliversIf : Who → Bool → Option Entry → InView Follower S → InView Follower S → Type 0
  DeliversIf w did_deliver held old new =
      MatchOption held ((did_deliver ≡ false) × (new.part ≡ old.part) × (new.state ≡ old.state) × (new.out ≡ old.out)) (λ e. (did_deliver ≡ true) × DeliversOne meaning w e old new)

  abbrev pub next_held : Follower → Option Entry
  next_held m = held_at (m.window.delivered + 1) m.window.held

  delivery-turn : (held : Option Entry) (came : Option Posted) (w : Who) (did_deliver : Bool) (old new : InView Follower S) → same_address w.address old.part.view.id.creator ≡ false → next_held old.part ≡ held
      → DeliversIf w did_deliver held old new → Does came w old new
  delivery-turn None came w did_deliver old new other there x =
      subst (λ (n : Follower). Does came w old (in_view n new.state new.out)) (sym x.1)
      (subst (λ (z : S). Does came w old (in_view old.part z new.out)) (sym x.2) (subst (λ (o : Output). Does came w old (in_view old.part old.state o)) (sym x.3) (other-nothing meaning came w old)))
  delivery-turn (Some e) came w did_deliver old new other there x =
      delivers-goes came w.address w.group old.part old.state old.out e new.part new.state new.out other there x.1

  pub turn-goes : (came : Option Posted) (w : Who) (did_deliver : Bool) (old new : InView Follower S) → same_address w.address old.part.view.id.creator ≡ false
      → DeliversIf w did_deliver (next_held old.part) old new → Does came w old new
  turn-goes came w did_deliver old new other x = delivery-turn (next_held old.part) came w did_deliver old new other refl x

  -- how much may still be delivered
  abbrev left_in : Follower → ℕ
  left_in m = m.window.stable + WINDOW - m.window.delivered

  pub turn-then : (came : Option Posted) (w : Who) (did_deliver : Bool) (a b c : InView Follower S) → same_address w.address a.part.view.id.creator ≡ false → Does came w a b
      → DeliversIf w did_deliver (next_held b.part) b c → Does came w a c
  turn-then came w did_deliver a b c other x y = other-then meaning came w a b c x (turn-goes came w did_deliver b c (ap (λ (v : View). same_address w.address v.id.creator) x.1 ∙ other) y)

  pub order-goes : (p : Address) (group : List ℕ) (m : Follower) (s : S) (out : Output) (g : ℕ) (e : Entry) (more most last : Follower) (t : S) (end : Output) → same_address p m.view.id.creator ≡ false
      → more ≡ collected_to (g - WINDOW) m → most ≡ held_too g e more → ((came : Option Posted) → Does came (who p group) (in_view most s out) (in_view last t end))
      → Does (order_packet p m.view g e) (who p group) (in_view m s out) (in_view last t end)
  order-goes p group m s out g e more most last t end other now after rest_goes =
      other-then meaning (order_packet p m.view g e) (who p group) (in_view m s out) (in_view most s out) (in_view last t end) (takes-goes p group m s out g e more most other now after) (rest_goes (order_packet p m.view g e))
