-- Another member delivers what it holds, and answers an ORDER.
use Rattle.std.proofs.Common.{◌≡◌, ℕ, ◌+◌, ◌-◌, ◌≤◌, Bool, true, false, Option, Some, None, List, [], ◌∷◌, ◌++◌, map, length, refl, sym, ap, ◌∙◌, subst, arith, is_some, length-append, inl, inr}
use Rattle.std.specs.Prelude.{MatchOption, MatchBool, nat_lt}
use Rattle.std.proofs.lemmas.List.{append-nil, map-append, length-map}
use Rattle.std.proofs.lemmas.List.Sums.{fold-append}
use Rattle.address.specs.declared.limits.TheConstants.{WINDOW}
use Rattle.address.specs.Ids.{Address}
use Rattle.view.specs.Members.{View}
use Rattle.wire_values.specs.Values.{Entry, held_at}
use Rattle.wire_values.specs.declared.packet.Body.TheVariants as bodies
use Rattle.wire_values.specs.Posted.{Posted}
use Rattle.state_transfer.specs.Meanings.{Meaning}
use Rattle.nak_stream.specs.Windows.{IsWindow, offers}
use Rattle.law_acts.specs.Acts.{delivery}
use Rattle.traffic.specs.declared.follower.Follower.{Follower}
use Rattle.step_output.specs.declared.output.Output.{Output}
use Rattle.step_output.specs.Outputs.{Grows}
use Rattle.traffic.specs.Goings.{FollowerGoes}
use Rattle.traffic.specs.Turns.{IsFew}
use Rattle.traffic.specs.Followers.{DeliversOne, collected_to, held_too}
use Rattle.traffic.specs.Takes.{DeliversTo, Starts, DeliversMore, DeliversHeld, AsksUpTo, AnswersOrder, TakesOrder, ack_of}
use Rattle.step_output.proofs.GrowthAdds.{grows-nothing, grows-then}
use Rattle.traffic.proofs.ActsOfFollowers.{puts-goes}
use Rattle.traffic.proofs.ActsInTurn.{other-nothing, other-then}
use Rattle.step_output.specs.Steps.{Who, who}
use Rattle.traffic.specs.InViews.{InView, in_view}

pub record DeliveredFact (p : Address) (old : Follower) (entries : List Entry) (n : Follower) : Type 0 where
  pub view : n.view ≡ old.view
  pub held : n.window.held ≡ old.window.held
  pub stable : n.window.stable ≡ old.window.stable
  pub delivered : n.window.delivered ≡ old.window.delivered + length entries
  pub few : length entries ≤ WINDOW

pub delivered-fact : (p : Address) (old n : Follower) (entries : List Entry) → DeliversTo p old entries n → IsWindow old.window → DeliveredFact p old entries n
delivered-fact p old n entries (Starts m) w = record { view = refl; held = refl; stable = refl; delivered = omega arith; few = omega arith }
delivered-fact p old n entries (DeliversMore m k es e x there) w =
    let y = delivered-fact p old k es x w in
    let near : k.window.delivered + 1 ≤ old.window.stable + WINDOW =
    w.within (k.window.delivered + 1) (ap is_some (ap (held_at (k.window.delivered + 1)) (sym y.held) ∙ there)) in
    record {
      view = y.view;
      held = y.held;
      stable = y.stable;
      delivered = simp length-append (omega (arith, y.delivered));
      few = simp length-append (omega (arith, near, y.delivered, w.counts));
    }

module _ {S : Type 0} (meaning : Meaning S) where
  pub delivers-nothing : (who : Who) (a : InView Follower S) → DeliversHeld meaning who a a
  delivers-nothing who a = record { entries = []; delivers = Starts a.part; state = refl; grows = grows-nothing who.group a.out; view = refl }

  abbrev DeliversNext : Who → Bool → Option Entry → InView Follower S → InView Follower S → Type 0
  DeliversNext w did_deliver o b c = MatchOption o ((did_deliver ≡ false) × (c.part ≡ b.part) × (c.state ≡ b.state) × (c.out ≡ b.out)) (λ e. (did_deliver ≡ true) × DeliversOne meaning w e b c)

  next-by : (o : Option Entry) (w : Who) (did_deliver : Bool) (a b c : InView Follower S) → DeliversHeld meaning w a b → held_at (b.part.window.delivered + 1) b.part.window.held ≡ o
      → DeliversNext w did_deliver o b c → DeliversHeld meaning w a c
  next-by None w did_deliver a b c x there y =
      subst (λ (n : Follower). DeliversHeld meaning w a (in_view n c.state c.out)) (sym y.1) (subst (λ (z : S). DeliversHeld meaning w a (in_view b.part z c.out)) (sym y.2)
      (subst (λ (o : Output). DeliversHeld meaning w a (in_view b.part b.state o)) (sym y.3) x))
  next-by (Some e) w did_deliver a b c x there y =
      let z = y.1 in
      let p = w.address in
      record {
        entries = x.entries ++ e ∷ [];
        delivers = subst (λ (n : Follower). DeliversTo p a.part (x.entries ++ e ∷ []) n) (sym z.now) (DeliversMore a.part b.part x.entries e x.delivers there);
        state = z.state ∙ ap (λ (r : S). meaning.apply r e.sender e.payload) x.state ∙ sym (fold-append (λ r f. meaning.apply r f.sender f.payload) a.state x.entries (e ∷ []));
        grows = subst (λ l. Grows w.group a.out c.out [] l) (sym (map-append (delivery p a.part.view.id) x.entries (e ∷ [])))
            (grows-then w.group a.out b.out c.out [] [] _ _ x.grows (subst (λ (v : View). Grows w.group b.out c.out [] (delivery p v.id e ∷ [])) x.view z.grows));
        view = ap (λ (n : Follower). n.view) z.now ∙ x.view;
      }

  pub delivers-then : (w : Who) (did_deliver : Bool) (a b c : InView Follower S) → DeliversHeld meaning w a b
      → MatchOption (held_at (b.part.window.delivered + 1) b.part.window.held) ((did_deliver ≡ false) × (c.part ≡ b.part) × (c.state ≡ b.state) × (c.out ≡ b.out)) (λ e. (did_deliver ≡ true) × DeliversOne meaning w e b c)
      → DeliversHeld meaning w a c
  delivers-then w did_deliver a b c x y = next-by (held_at (b.part.window.delivered + 1) b.part.window.held) w did_deliver a b c x refl y

  pub delivers-few : (w : Who) (a b : InView Follower S) → IsWindow a.part.window → DeliversHeld meaning w a b → IsFew a.out b.out
  delivers-few w a b window x =
      let k = (delivered-fact w.address a.part b.part x.entries x.delivers window).few in
      let grown : length b.out.events.items ≡ length a.out.events.items + length x.entries =
      ap length x.grows.events ∙ length-append a.out.events.items (map (delivery w.address a.part.view.id) x.entries)
      ∙ ap (λ j. length a.out.events.items + j) (length-map x.entries (delivery w.address a.part.view.id)) in
      omega (arith, k, grown)

  -- ---- an ORDER

  pub order-taken : (p : Address) (group : List ℕ) (g : ℕ) (e : Entry) (m a b : Follower) (s : S) (out : Output) (n : Follower) (t : S) (between more : Output) (before : ℕ) (new : Bool) → before ≡ m.window.delivered
      → a ≡ collected_to (g - WINDOW) m → new ≡ offers g a.window → b ≡ held_too g e a → DeliversHeld meaning (who p group) (in_view b s out) (in_view n t between) → held_at (n.window.delivered + 1) n.window.held ≡ None
      → AnswersOrder (who p group) before new g n between more → TakesOrder meaning (who p group) g e (in_view m s out) (in_view n t more)
  order-taken p group g e m a b s out n t between more before new is now fresh after delivers ready answers = record {
    between = between;
    delivers = subst (λ (z : Follower). DeliversHeld meaning (who p group) (in_view z s out) (in_view n t between)) (after ∙ ap (held_too g e) now) delivers;
    ready = ready;
    answers = subst (λ (z : Bool). AnswersOrder (who p group) m.window.delivered z g n between more) (fresh ∙ ap (λ (z : Follower). offers g z.window) now)
        (subst (λ (z : ℕ). AnswersOrder (who p group) z new g n between more) is answers);
  }

module _ {S : Type 0} (meaning : Meaning S) where
  pub asks-goes : (came : Option Posted) (p : Address) (group : List ℕ) (g : ℕ) (m : Follower) (s : S) (out more : Output) → AsksUpTo (who p group) g m out more
      → FollowerGoes meaning came (who p group) (in_view m s out) (in_view m s more)
  asks-goes came p group g m s out more (inl x) = puts-goes meaning came p group m s out more m.view.id.creator (bodies.Nak m.view.id x.missing) (λ kept. tt) x.grows
  asks-goes came p group g m s out more (inr x) = subst (λ (o : Output). FollowerGoes meaning came (who p group) (in_view m s out) (in_view m s o)) (sym x.1) (other-nothing meaning came (who p group) (in_view m s out))

  answers-by : (b c : Bool) (came : Option Posted) (p : Address) (group : List ℕ) (g : ℕ) (m : Follower) (s : S) (out more : Output)
      → MatchBool b (Grows group out more (ack_of p m ∷ []) []) (MatchBool c (AsksUpTo (who p group) g m out more) (more ≡ out)) → FollowerGoes meaning came (who p group) (in_view m s out) (in_view m s more)
  answers-by true c came p group g m s out more x = puts-goes meaning came p group m s out more m.view.id.creator (bodies.Ack m.view.id m.window.delivered) (λ kept. (refl, omega arith)) x
  answers-by false true came p group g m s out more x = asks-goes came p group g m s out more x
  answers-by false false came p group g m s out more x = subst (λ (o : Output). FollowerGoes meaning came (who p group) (in_view m s out) (in_view m s o)) (sym x) (other-nothing meaning came (who p group) (in_view m s out))

  pub answers-goes : (came : Option Posted) (p : Address) (group : List ℕ) (before : ℕ) (new : Bool) (g : ℕ) (a m : Follower) (s t : S) (out more most : Output)
      → FollowerGoes meaning came (who p group) (in_view a s out) (in_view m t more) → AnswersOrder (who p group) before new g m more most → FollowerGoes meaning came (who p group) (in_view a s out) (in_view m t most)
  answers-goes came p group before new g a m s t out more most x y =
      other-then meaning came (who p group) (in_view a s out) (in_view m t more) (in_view m t most) x (answers-by (nat_lt before m.window.delivered) new came p group g m t more most y)

asks-few : (p : Address) (group : List ℕ) (g : ℕ) (m : Follower) (out more : Output) → AsksUpTo (who p group) g m out more → length more.events.items ≡ length out.events.items
asks-few p group g m out more (inl x) = ap length (x.grows.events ∙ append-nil out.events.items)
asks-few p group g m out more (inr x) = ap (λ (o : Output). length o.events.items) x.1

pub answers-few : (b c : Bool) (p : Address) (group : List ℕ) (g : ℕ) (m : Follower) (out more : Output)
    → MatchBool b (Grows group out more (ack_of p m ∷ []) []) (MatchBool c (AsksUpTo (who p group) g m out more) (more ≡ out)) → length more.events.items ≡ length out.events.items
answers-few true c p group g m out more x = ap length (x.events ∙ append-nil out.events.items)
answers-few false true p group g m out more x = asks-few p group g m out more x
answers-few false false p group g m out more x = ap (λ (o : Output). length o.events.items) x

pub order-few : (p : Address) (group : List ℕ) (before : ℕ) (new : Bool) (g : ℕ) (m : Follower) (out more most : Output) → IsFew out more → AnswersOrder (who p group) before new g m more most → IsFew out most
order-few p group before new g m out more most x y = let k = answers-few (nat_lt before m.window.delivered) new p group g m more most y in omega (arith, x, k)
