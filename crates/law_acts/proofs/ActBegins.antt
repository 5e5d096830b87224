-- The act Begins: a member proposes a view, is blocked, and announces it to the others of the list.
use Rattle.std.proofs.Common.{◌≡◌, ℕ, zero, suc, Bool, true, false, cond, not, ◌||◌, Option, Some, None, List, [], ◌∷◌, ◌++◌, map, refl, sym, ap, ◌∙◌, subst, ◌⊎◌, inl, inr}
use Rattle.std.specs.Prelude.{slice_get, MatchBool}
use Rattle.std.specs.Option.{option_or}
use Rattle.std.proofs.lemmas.Bool.{cond-true, or_left, or_right}
use Rattle.std.proofs.lemmas.Option.{none-some, same_Some}
use Rattle.address.specs.Ids.{Address, ViewId, same_address, same_view_id}
use Rattle.view.specs.Members.{View, stands_in}
use Rattle.wire_values.specs.Values.{Report}
use Rattle.wire_values.specs.declared.packet.Body.TheVariants as bodies
use Rattle.wire_values.specs.Posted.{Posted, packet}
use Rattle.state_transfer.specs.Meanings.{Meaning}
use Rattle.flush.specs.Cuts.{first_of}
use Rattle.flush.specs.Flushes.{FlushModel}
use Rattle.flush.proofs.Covers.{first-stands}
use Rattle.trace_props.specs.Rules.{IsBelow}
use Rattle.address.proofs.SameIds.{same_address-refl, same_address-true, same_address-from, same_view_id-refl, same_view_id-true}
use Rattle.trace_props.proofs.InstallsOfRisingViews.{IsBelow-irreflexive}
use Rattle.law_acts.specs.Histories.{History, flush_in, install_in, report_by, flush_of, report_of}
use Rattle.law_acts.specs.Cores.{Core, report_with}
use Rattle.law_acts.specs.Acts.{IsAbovePromise, MayBegin, others_of, promised, begun, blocking}
use Rattle.law_acts.specs.Steps.{System, put, grown}
use Rattle.law_acts.specs.Packets.{PacketFact}
use Rattle.law_acts.specs.Members.{LiesBelow, IsNotPast, IsRecorded, RunsFlush, MemberFact}
use Rattle.law_acts.specs.Invariant.{Invariant}
use Rattle.law_acts.proofs.Lists.{first_of-append, first_of-still, slice_get-one}
use Rattle.law_acts.proofs.KeepOthers.{IsFrom}
use Rattle.law_acts.proofs.KeepByMove.{Moves, moved}
use Rattle.law_acts.proofs.KeepWithoutInstall.{quiet-trans, quiet-packets, quiet-moves}
use Rattle.law_acts.proofs.PromisesBlock.{with_blocked, halts, view-below, not-past, is-past}
use Rattle.view.proofs.MembersListed.{coordinator-in}

-- ---- a packet to each of a list

-- what holds of the packet to each holds of all
pub map-each : {X Y : Type 0} (P : Y → Type 0) (f : X → Y) (l : List X) → ((x : X) → P (f x)) → (k : ℕ) (y : Y) → slice_get (map f l) k ≡ Some y → P y
map-each P f [] each k y at = absurd (none-some y at)
map-each P f (x ∷ l) each zero y at = subst P (same_Some (f x) y at) (each x)
map-each P f (x ∷ l) each (suc k) y at = map-each P f l each k y at

-- where each says the same, and there is one, that is found
pub map-first : {X Y Z : Type 0} (f : Y → Option Z) (g : X → Y) (l : List X) (z : Z) → ((x : X) → f (g x) ≡ Some z) → (k : ℕ) (y : Y) → slice_get (map g l) k ≡ Some y
    → first_of f (map g l) ≡ Some z
map-first f g [] z each k y at = absurd (none-some y at)
map-first f g (x ∷ l) z each k y at = ap (λ o. option_or o (first_of f (map g l))) (each x)

-- there is one where somebody else stands in the list
others-step : (b c : Bool) (q x : Address) (rest : List Address) → same_address q x ≡ b → (stands_in q rest ≡ true) → stands_in q (cond c (x ∷ rest) rest) ≡ true
others-step b true q x rest e there = or_right (same_address q x) (stands_in q rest) there
others-step b false q x rest e there = there

others-first : (c : Bool) (q x : Address) (rest : List Address) → same_address q x ≡ true → c ≡ true → stands_in q (cond c (x ∷ rest) rest) ≡ true
others-first true q x rest e there = or_left (same_address q x) (stands_in q rest) e
others-first false q x rest e there = absurd (let n : false ≡ true = there in cc)

-- one of two tests is passed
pub or-cases : (b c : Bool) → b || c ≡ true → (b ≡ true) ⊎ (c ≡ true)
or-cases true c e = inl refl
or-cases false c e = inr e

pub others-there : (p q : Address) (list : List Address) → stands_in q list ≡ true → same_address q p ≡ false → stands_in q (others_of p list) ≡ true
others-there p q [] there other = there
others-there p q (x ∷ list) there other = by (or-cases (same_address q x) (stands_in q list) there) (others-there p q list)
  where
    by : (same_address q x ≡ true) ⊎ (stands_in q list ≡ true) → (stands_in q list ≡ true → same_address q p ≡ false → stands_in q (others_of p list) ≡ true)
        → stands_in q (others_of p (x ∷ list)) ≡ true
    by (inl e) later =
        others-first (not (same_address x p)) q x (others_of p list) e (ap not (ap (λ z. same_address z p) (sym (same_address-true q x e)) ∙ other))
    by (inr e) later = others-step (same_address q x) (not (same_address x p)) q x (others_of p list) refl (later e other)

some-first : {Y Z : Type 0} (f : Y → Option Z) (g : Address → Y) (l : List Address) (q : Address) (z : Z) → ((x : Address) → f (g x) ≡ Some z) → stands_in q l ≡ true → first_of f (map g l) ≡ Some z
some-first f g [] q z each there = absurd (let n : false ≡ true = there in cc)
some-first f g (x ∷ l) q z each there = ap (λ o. option_or o (first_of f (map g l))) (each x)

-- ---- the registers of an announcement

-- the packets that announce a view
abbrev pub announcing : Address → View → List Posted
announcing p w = map (packet p (bodies.Flush w)) (others_of p w.members)

flush-says : (w : View) → flush_in w.id (bodies.Flush w) ≡ Some w.members
flush-says w = cond-true (same_view_id w.id w.id) (Some w.members) None (same_view_id-refl w.id)

-- a first announcement is the one
announced-new : (p : Address) (w : View) (pool : List Posted) → flush_of w.id pool ≡ None → first_of (λ (m : Posted). flush_in w.id m.body) (announcing p w) ≡ Some w.members
    → flush_of w.id (pool ++ announcing p w) ≡ Some w.members
unfolding flush_of
announced-new p w pool none found =
    first_of-append _ pool (announcing p w) ∙ ap (λ o. option_or o (first_of (λ (m : Posted). flush_in w.id m.body) (announcing p w))) none ∙ found

passes : (b : Bool) (w : View) (u : ViewId) (list : List Address) → same_view_id w.id u ≡ b → cond b (Some w.members) None ≡ Some list → w.id ≡ u
passes true w u list test e = same_view_id-true w.id u test
passes false w u list test e = absurd (none-some list e)

announced-by : (o : Option (List Address)) (p : Address) (w : View) (u : ViewId) (list : List Address)
    → option_or o (first_of (λ (m : Posted). flush_in u m.body) (announcing p w)) ≡ Some list → (o ≡ Some list) ⊎ (w.id ≡ u)
announced-by (Some l) p w u list e = inl e
announced-by None p w u list e =
    let s = first-stands (λ (m : Posted). flush_in u m.body) (announcing p w) list e in
    inr (map-each (λ (m : Posted). flush_in u m.body ≡ Some list → w.id ≡ u) (packet p (bodies.Flush w)) (others_of p w.members)
    (λ q y. passes (same_view_id w.id u) w u list refl y) s.index s.element s.stands s.gives)

announced-old-or : (p : Address) (w : View) (u : ViewId) (list : List Address) (pool : List Posted) → flush_of u (pool ++ announcing p w) ≡ Some list → (flush_of u pool ≡ Some list) ⊎ (w.id ≡ u)
unfolding flush_of
announced-old-or p w u list pool e = announced-by (first_of (λ (m : Posted). flush_in u m.body) pool) p w u list (sym (first_of-append _ pool (announcing p w)) ∙ e)

announces-no-report : (p q : Address) (w : View) (u : ViewId) (pool : List Posted) → report_of q u (pool ++ announcing p w) ≡ report_of q u pool
unfolding report_of
announces-no-report p q w u pool =
    first_of-still _ pool (announcing p w) (map-each (λ (m : Posted). report_by q u m ≡ None) (packet p (bodies.Flush w)) (others_of p w.members) (λ r. either (same_address p q)))
  where
    either : (b : Bool) → cond {A = Option Report} b None None ≡ None
    either true = refl
    either false = refl

none-by : (o : Option (List Address)) (pool : List Posted) (w : ViewId) → flush_of w pool ≡ o → ((l : List Address) → flush_of w pool ≡ Some l → ⊥) → flush_of w pool ≡ None
none-by None pool w e nothing = e
none-by (Some l) pool w e nothing = absurd (nothing l e)

-- ---- the member's own place

-- ---- the act

module _ {S : Type 0} (meaning : Meaning S) where
  abbrev Fact : History → Address → Core S → Type 0
  Fact h p c = MemberFact meaning h p c

  below-after : (h : History) (p : Address) (promise : Option View) (w : View) → LiesBelow h.pool p promise → IsAbovePromise w.id promise → LiesBelow (h.pool ++ announcing p w) p (Some w)
  below-after h p promise w x above = record {
    announced = λ u list mine e. by u list mine (announced-old-or p w u list h.pool e);
    reported = λ u s e. not-past promise w u above (x.reported u s (sym (announces-no-report p p w u h.pool) ∙ e));
  }
    where
      by : (u : ViewId) (list : List Address) → same_address u.creator p ≡ true → (flush_of u h.pool ≡ Some list) ⊎ (w.id ≡ u) → IsNotPast (Some w) u
      by u list mine (inl old) = not-past promise w u above (x.announced u list mine old)
      by u list mine (inr same) = λ b. IsBelow-irreflexive w.id (subst (λ (v : ViewId). IsBelow w.id v) (sym same) b)

  own-recorded : (b : Bool) (p : Address) (r : Report) (R : Type 0) → b ≡ true → MatchBool b (r ≡ r) R
  own-recorded true p r R e = refl
  own-recorded false p r R e = absurd (let n : false ≡ true = e in cc)

  pub begins-moves : (s : System S) (c : Core S) (w : View) → Invariant meaning s → Fact s.history c.me c → MayBegin c w
      → Moves meaning c.me s.history (grown s.history (announcing c.me w) (blocking c)) (Some (promised w (Some (begun w c)) c))
  begins-moves s c w i x a =
      let h = s.history in
      let p = c.me in
      let r = report_with c.view c.view_state in
      let more = announcing p w in
      let h1 = with_blocked h p c.view c.installed in
      let k = grown h more (blocking c) in
      let halted = halts meaning h p c.view c.installed c.view_state c.sent_installs c.state i.trace x.promise.inside x.standing x.view x.state in
      let mine : same_address w.id.creator p ≡ true = same_address-from w.id.creator p a.own in
      let none : flush_of w.id h.pool ≡ None = none-by (flush_of w.id h.pool) h.pool w.id refl (λ l e. is-past c.promise w.id a.above (x.below.announced w.id l mine e)) in
      let posted = quiet-packets meaning p h1 more halted.standing.running.started
      (map-each (IsFrom p) (packet p (bodies.Flush w)) (others_of p w.members) (λ q. record { source = refl; mine = a.own }))
      (λ n y v at. map-each (λ (z : Posted). install_in v z.body ≡ None) (packet p (bodies.Flush w)) (others_of p w.members) (λ q. refl) n y at) halted.quiet.trace in
      let quiet = quiet-trans meaning p h h1 k halted.quiet posted in
      let fact : Fact k p (promised w (Some (begun w c)) c) = record {
        standing = halted.standing;
        promise = record {
          inside = λ e. absurd (let n : false ≡ true = e in cc);
          is = λ e. absurd (let n : false ≡ true = e in cc);
          above = λ e v y. view-below c.installed p c.promise c.view c.installed w refl x.promise a.above v y;
          listed = λ u e. subst (λ (z : View). stands_in p z.members ≡ true) (same_Some w u e) (ap (λ z. stands_in z w.members) (sym a.own) ∙ coordinator-in w.id w.members a.view);
        };
        announced = λ u e other.
            absurd (let n : true ≡ false = sym mine ∙ ap (λ (z : View). same_address z.id.creator p) (same_Some w u e) ∙ other in cc);
        below = below-after h p c.promise w x.below a.above;
        reported = λ waits u e other.
            absurd (let n : true ≡ false = sym mine ∙ ap (λ (z : View). same_address z.id.creator p) (same_Some w u e) ∙ other in cc);
        flush = λ f e. subst (λ (z : FlushModel). RunsFlush k.pool p (Some w) false c.view c.view_state z) (same_Some (begun w c) f e) (record {
          promised = refl;
          waits = refl;
          own = a.own;
          list = a.view;
          announced = λ q there other.
              announced-new p w h.pool none
              (some-first (λ (m : Posted). flush_in w.id m.body) (packet p (bodies.Flush w)) (others_of p w.members) q w.members (λ z. flush-says w) (others-there p q w.members there other));
          itself = cond-true (same_address p p) (Some r) None (same_address-refl p);
          recorded = slice_get-one (IsRecorded k.pool p w.id r) (p, r) (own-recorded (same_address p p) p r (report_of p w.id k.pool ≡ Some r) (same_address-refl p));
        });
        view = λ v e. let f = halted.inside v e in record {
          inside = f.inside;
          counts = f.counts;
          mine = f.mine;
          window = f.window;
          acks = f.acks;
          waiting = f.waiting;
          ordered = f.ordered;
          keeps = λ q j there. let was = f.keeps q j there in (was.0, posted.later.install v.id q j was.1);
        };
        state = halted.own;
      } in
      quiet-moves meaning s p k more (Some (promised w (Some (begun w c)) c)) i quiet refl
      (λ n m at. map-each (λ (z : Posted). flush_of w.id k.pool ≡ Some w.members → PacketFact k z) (packet p (bodies.Flush w)) (others_of p w.members)
      (λ q one. record { own = a.own; view = a.view; one = one }) n m at
      (announced-new p w h.pool none (map-first (λ (z : Posted). flush_in w.id z.body) (packet p (bodies.Flush w)) (others_of p w.members) w.members (λ z. flush-says w) n m at)))
      (λ d e. subst (λ (z : Core S). Fact k p z) (same_Some (promised w (Some (begun w c)) c) d e) fact)

  pub begins-keep : (s : System S) (p : Address) (c : Core S) (w : View) → Invariant meaning s → s.running p ≡ Some c → MayBegin c w
      → Invariant meaning (record {
        running = put p (Some (promised w (Some (begun w c)) c)) s.running;
        history = grown s.history (announcing c.me w) (blocking c);
      })
  begins-keep s p c w i runs a =
      let x = i.members p c runs in
      let itself : c.me ≡ p = x.standing.itself in
      let mine : Fact s.history c.me c = subst (λ (q : Address). Fact s.history q c) (sym itself) x in
      subst (λ (q : Address). Invariant meaning (record {
        running = put q (Some (promised w (Some (begun w c)) c)) s.running;
        history = grown s.history (announcing c.me w) (blocking c);
      })) itself
      (moved meaning s c.me (grown s.history (announcing c.me w) (blocking c)) (Some (promised w (Some (begun w c)) c)) i (begins-moves s c w i mine a))
