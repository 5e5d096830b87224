-- Acts one after another keep the invariant: what a member does in one call.
use Rattle.std.proofs.Common.{◌≡◌, ℕ, Bool, true, false, cond, Option, Some, None, List, [], ◌∷◌, ◌++◌, refl, sym, ap, ◌∙◌, subst}
use Rattle.std.specs.Prelude.{slice_get, ◌&&◌, not}
use Rattle.std.specs.Option.{option_and_then}
use Rattle.std.proofs.lemmas.Bool.{cond-true, and_parts, and_from}
use Rattle.std.proofs.lemmas.Option.{none-some, same_Some, cond_some}
use Rattle.std.proofs.lemmas.List.{append_assoc}
use Rattle.address.specs.Ids.{Address, same_address}
use Rattle.state_transfer.specs.Meanings.{Meaning}
use Rattle.trace_props.specs.declared.event.Event.{Event}
use Rattle.address.proofs.SameIds.{same_address-true}
use Rattle.trace_props.proofs.RulesAlongLists.{slice_get-before}
use Rattle.wire_values.specs.Posted.{Posted}
use Rattle.law_acts.specs.Histories.{History}
use Rattle.law_acts.specs.Cores.{Core}
use Rattle.law_acts.specs.Acts.{Act, Creates, Joins, Puts, Sends, Queues, Orders, TakesAck, Collects, Holds, Delivers, Promises, Begins, Records, Gathers, Finishes, Enters, Leaves, Allowed, after, packets_of, events_of}
use Rattle.law_acts.specs.Acts.{handed}
use Rattle.law_acts.specs.Steps.{System, put, came_of, grown, acted}
use Rattle.law_acts.specs.Chains.{Chain, packets_along, events_along}
use Rattle.law_acts.specs.Invariant.{Kept}
use Rattle.law_acts.specs.Agreement.{ActsKeep}
use Rattle.law_acts.proofs.KeepBySteps
use Rattle.law_acts.proofs.KeepChunks.{put-at}
use Rattle.law_acts.proofs.KeepWithoutInstall.{grown-none}

-- ---- the members that run

pub put-again-by : {X : Type 0} (b : Bool) (x y z : X) → cond b x (cond b y z) ≡ cond b x z
put-again-by true x y z = refl
put-again-by false x y z = refl

-- what is put last counts
put-again : {S : Type 0} (p : Address) (x y : Option (Core S)) (running : Address → Option (Core S)) → put p x (put p y running) ≡ put p x running
put-again p x y running = λ i q. put-again-by (same_address q p) x y (running q) i

put-same-by : {S : Type 0} (b : Bool) (p q : Address) (x : Option (Core S)) (running : Address → Option (Core S)) → same_address q p ≡ b → running p ≡ x → cond b x (running q) ≡ running q
put-same-by true p q x running e at = sym at ∙ ap running (sym (same_address-true q p e))
put-same-by false p q x running e at = refl

-- and what is there may be put
put-same : {S : Type 0} (p : Address) (x : Option (Core S)) (running : Address → Option (Core S)) → running p ≡ x → put p x running ≡ running
put-same p x running at = λ i q. put-same-by (same_address q p) p q x running refl at i

grown-again : (h : History) (a b : List Posted) (x y : List Event) → grown (grown h a x) b y ≡ grown h (a ++ b) (x ++ y)
grown-again h a b x y =
    ap {B = History} (λ (l : List Posted). record { pool = l; trace = h.trace ++ x ++ y }) (append_assoc h.pool a b)
    ∙ ap {B = History} (λ (t : List Event). record { pool = h.pool ++ (a ++ b); trace = t }) (append_assoc h.trace x y)

-- ---- what came is still what came

-- a member is the same after an act, and stays connected
record IsStill {S : Type 0} (c d : Core S) : Type 0 where
  itself : d.me ≡ c.me
  connected : c.connected ≡ true → d.connected ≡ true

module _ {S : Type 0} (meaning : Meaning S) where
  act-still : (c d : Core S) (a : Act) → after meaning c a ≡ Some d → IsStill c d
  act-still c d Creates e = subst (IsStill c) (same_Some _ d e) (record { itself = refl; connected = λ x. refl })
  act-still c d Joins e = subst (IsStill c) (same_Some _ d e) (record { itself = refl; connected = λ x. refl })
  act-still c d (Puts q body) e = subst (IsStill c) (same_Some _ d e) (record { itself = refl; connected = λ x. x })
  act-still c d (Sends v payload) e = subst (IsStill c) (same_Some _ d e) (record { itself = refl; connected = λ x. x })
  act-still c d (Queues v m waiting) e = subst (IsStill c) (same_Some _ d e) (record { itself = refl; connected = λ x. x })
  act-still c d (Orders v m waiting held) e = subst (IsStill c) (same_Some _ d e) (record { itself = refl; connected = λ x. x })
  act-still c d (TakesAck v q n) e = subst (IsStill c) (same_Some _ d e) (record { itself = refl; connected = λ x. x })
  act-still c d (Collects v n held) e = subst (IsStill c) (same_Some _ d e) (record { itself = refl; connected = λ x. x })
  act-still c d (Holds v g m held) e = subst (IsStill c) (same_Some _ d e) (record { itself = refl; connected = λ x. x })
  act-still c d (Delivers v m) e = subst (IsStill c) (same_Some _ d e) (record { itself = refl; connected = λ x. x })
  act-still c d (Promises w) e = subst (IsStill c) (same_Some _ d e) (record { itself = refl; connected = λ x. x })
  act-still c d (Begins w) e = subst (IsStill c) (same_Some _ d e) (record { itself = refl; connected = λ x. x })
  act-still c d (Records f q r) e = subst (IsStill c) (same_Some _ d e) (record { itself = refl; connected = λ x. x })
  act-still c d (Gathers w chunk chunks) e = subst (IsStill c) (same_Some _ d e) (record { itself = refl; connected = λ x. x })
  act-still c d (Finishes v f cuts given) e = subst (IsStill c) (same_Some _ d e) (record { itself = refl; connected = λ x. refl })
  act-still c d (Enters i given) e = subst (IsStill c) (same_Some _ d e) (record { itself = refl; connected = λ x. refl })
  act-still c d Leaves e = absurd (none-some d e)

  handed-still : (c d : Core S) (m k : Posted) → IsStill c d → handed c m ≡ Some k → handed d m ≡ Some k
  handed-still c d m k still e =
      let t = cond_some (c.connected && same_address m.destination c.me && not (same_address m.source c.me)) m k e in
      let for_it = and_parts (c.connected && same_address m.destination c.me) (not (same_address m.source c.me)) t.0 in
      let free = and_parts c.connected (same_address m.destination c.me) for_it.0 in
      let now : (d.connected && same_address m.destination c.me && not (same_address m.source c.me)) ≡ true =
      and_from (d.connected && same_address m.destination c.me) (not (same_address m.source c.me))
      (and_from d.connected (same_address m.destination c.me) (still.connected free.0) free.1) for_it.1 in
      cond-true (d.connected && same_address m.destination d.me && not (same_address m.source d.me)) (Some m) None
      (ap (λ (q : Address). d.connected && same_address m.destination q && not (same_address m.source q)) still.itself ∙ now)
      ∙ ap Some t.1

  -- what it was handed it would be handed again
  came-by : (c d : Core S) (pool more : List Posted) (n : ℕ) (o : Option Posted) (k : Posted) → IsStill c d → slice_get pool n ≡ o → Some k ≡ option_and_then (handed c) o
      → Some k ≡ option_and_then (handed d) (slice_get (pool ++ more) n)
  came-by c d pool more n None k still at e = absurd (none-some k (sym e))
  came-by c d pool more n (Some m) k still at e =
      sym (handed-still c d m k still (sym e)) ∙ ap (option_and_then (handed d)) (sym (slice_get-before pool more n m at))

  came-still : (c d : Core S) (pool more : List Posted) (which : Option ℕ) (came : Option Posted) → IsStill c d → came ≡ came_of c pool which → (came ≡ None → which ≡ None)
      → came ≡ came_of d (pool ++ more) which
  came-still c d pool more None came still e none = e
  came-still c d pool more (Some n) None still e none = absurd (none-some n (sym (none refl)))
  came-still c d pool more (Some n) (Some k) still e none = came-by c d pool more n (slice_get pool n) k still refl e

  -- ---- the acts

  abbrev Holding : System S → Type 0
  Holding s = Kept meaning s

  -- the system after acts
  abbrev along : System S → Address → Option (Core S) → List Act → Option (Core S) → System S
  along s p c acts end = record { running = put p end s.running; history = grown s.history (packets_along meaning c acts) (events_along meaning c acts) }

  nothing-more : (s : System S) (p : Address) (c end : Option (Core S)) → s.running p ≡ c → c ≡ end → along s p c [] end ≡ s
  nothing-more s p c end runs same =
      ap {B = System S} (λ (f : Address → Option (Core S)). record { running = f; history = grown s.history [] [] }) (put-same p end s.running (runs ∙ same))
      ∙ ap {B = System S} (λ (h : History). record { running = s.running; history = h }) (grown-none meaning s.history)

  one-more : (s : System S) (p : Address) (c : Core S) (a : Act) (acts : List Act) (end : Option (Core S))
      → along (acted meaning s p a c) p (after meaning c a) acts end ≡ along s p (Some c) (a ∷ acts) end
  one-more s p c a acts end =
      ap {B = System S} (λ (f : Address → Option (Core S)). record { running = f; history = grown (grown s.history (packets_of meaning c a) (events_of c a)) (packets_along meaning (after meaning c a) acts) (events_along meaning (after meaning c a) acts) })
      (put-again p end (after meaning c a) s.running)
      ∙ ap {B = System S} (λ (h : History). record { running = put p end s.running; history = h })
      (grown-again s.history (packets_of meaning c a) (packets_along meaning (after meaning c a) acts) (events_of c a) (events_along meaning (after meaning c a) acts))

  chain-keeps : KeepBySteps.Laws meaning → (acts : List Act) (s : System S) (p : Address) (c end : Option (Core S)) (which : Option ℕ) (came : Option Posted) → Holding s
      → s.running p ≡ c → ((d : Core S) → c ≡ Some d → came ≡ came_of d s.history.pool which) → (came ≡ None → which ≡ None) → Chain meaning came c acts end
      → Holding (along s p c acts end)
  chain-keeps l [] s p c end which came i runs comes none x = subst Holding (sym (nothing-more s p c end runs x)) i
  chain-keeps l (a ∷ acts) s p None end which came i runs comes none x = absurd x
  chain-keeps l (a ∷ acts) s p (Some c) end which came i runs comes none x =
      let was = comes c refl in
      let i1 = KeepBySteps.act-keeps meaning l a s p c which i runs (subst (λ (o : Option Posted). Allowed meaning o c a) was x.0) in
      subst Holding (one-more s p c a acts end)
      (chain-keeps l acts (acted meaning s p a c) p (after meaning c a) end which came i1 (put-at p (after meaning c a) s.running)
      (λ d e. came-still c d s.history.pool (packets_of meaning c a) which came (act-still c d a e) was none) none x.1)

  -- a member that acted in one call, on a packet of the pool or on none, has kept the invariant
  pub acted-keeps : KeepBySteps.Laws meaning → ActsKeep meaning
  acted-keeps l s p c end which came packets events i runs comes none x =
      subst Holding
      (ap {B = System S} (λ (m : List Posted). record { running = put p end s.running; history = grown s.history m (events_along meaning (Some c) x.acts) }) (sym x.puts)
      ∙ ap {B = System S} (λ (t : List Event). record { running = put p end s.running; history = grown s.history packets t }) (sym x.happens))
      (chain-keeps l x.acts s p (Some c) end which came i runs (λ d e. comes ∙ ap (λ (z : Core S). came_of z s.history.pool which) (same_Some c d e)) none x.chain)
