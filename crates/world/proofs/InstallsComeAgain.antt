-- Lost INSTALLs come again: each member of a view that awaits its INSTALL is brought in, one after another, and then all of them are in it.
use Rattle.std.proofs.Common.{◌≡◌, ℕ, ◌+◌, ◌-◌, Bool, true, false, Option, Some, None, List, [], ◌∷◌, ◌++◌, length, nat_eq, inl, inr, ◌⊎◌, refl, sym, ap, ◌∙◌, subst, arith, length-append}
use Rattle.std.specs.Prelude.{◌&&◌, ◌||◌, MatchBool, is_some}
use Rattle.std.specs.List.{list_all, list_any}
use Rattle.std.specs.Option.{option_and_then, option_eq, option_map_or}
use Rattle.std.proofs.lemmas.Bool.{and_from, and_parts, or_right}
use Rattle.std.proofs.lemmas.Option.{none-some, same_Some, cond_some}
use Rattle.address.specs.Ids.{Address, ViewId, same_address, same_view_id}
use Rattle.address.proofs.SameIds.{same_address-refl, same_address-true, same_address-sym, same_view_id-true}
use Rattle.view.specs.Members.{View, stands_in}
use Rattle.view.proofs.MembersListed.{all-by}
use Rattle.state_transfer.specs.Meanings.{Meaning}
use Rattle.view_install.specs.Promises.{offered, is_accept}
use Rattle.law_acts.specs.Cores.{id_of}
use Rattle.wire_values.specs.declared.packet.Body.TheVariants as bodies
use Rattle.wire_values.specs.Posted.{Posted, packet}
use Rattle.law_acts.specs.Members.{installed_as}
use Rattle.law_acts.proofs.KeepBySteps
use Rattle.traffic.specs.declared.view_state.ViewState.{ViewState}
use Rattle.membership.specs.declared.member_state.MemberState.{MemberState}
use Rattle.membership.specs.MemberStates.{core_of as core_at, view_in, report_in, is_connected, is_sent_to}
use Rattle.member.specs.Members.{MemberModel}
use Rattle.world_model.specs.declared.WorldEvent.TheVariants.{Deliver, Tick}
use Rattle.world.specs.declared.node_state.NodeState.{NodeState}
use Rattle.world.specs.declared.node_state.NodeState.TheVariants.{Vacant, Ended, Running}
use Rattle.world.specs.Turns.{OthersStand}
use Rattle.world.specs.Worlds.{WorldModel}
use Rattle.world.proofs.MembersAsSystem.{system_of}
use Rattle.world.specs.Plays.{Plays, Delivers, DeliversPast}
use Rattle.world.proofs.PoolPackets.{AreNext, next-first}
use Rattle.world.proofs.Deliveries.{delivers-none, delivers-next}
use Rattle.world.proofs.Standing
use Rattle.world.proofs.Standing.{Stands}
use Rattle.world.specs.Settles.{would_follow, IsSettled}
use Rattle.world.specs.LostInstalls.{view_at, keeps_install, awaits_install, is_inside, awaited, awaited_at, BringsIn, BringsAll}
use Rattle.world.specs.LostInstalls.BringsAll.{Nobody, Next}
use Rattle.world.proofs.WhoAwaits
use Rattle.world.proofs.WhoAwaits.{Made, Awaits}
use Rattle.world.proofs.ChunksAreHeld.{has-none}
use Rattle.world.proofs.SettlingsSettle
use Rattle.world.proofs.StageOfBringing
use Rattle.world.proofs.StageOfFlushes.{Keeps}
use Rattle.world.proofs.StageOfInstalls

module _ {S : Type 0} (meaning : Meaning S) (laws : KeepBySteps.Laws meaning) where
  -- ---- one of them

  module _ (old : WorldModel S) (c q : Address) (l : MemberState S) (v : View) (m : Made meaning laws old c l v) (a : Awaits meaning laws old l v q) where
    abbrev pub k : MemberState S
    k = a.member_state

    pub install : WhoAwaits.KeepsFor meaning laws old c q l v
    install = WhoAwaits.keeps-for meaning laws old c q l v m a.kept

    pub other : same_address q c ≡ false
    other = install.instruction.other

    pub promised : WhoAwaits.HasPromised meaning laws k v
    promised = WhoAwaits.has-promised meaning laws old c q l v m a install

    pub apart : nat_eq q.node c.node ≡ false
    apart = Standing.nodes-apart meaning old q c k l a.stands m.stands (same_address-sym c q ∙ other)

    pub apart_too : nat_eq c.node q.node ≡ false
    apart_too = Standing.nodes-apart meaning old c q l k m.stands a.stands other

    -- by its tick
    pub by-tick : (asked : WorldModel S) → Plays meaning old (Tick q.node) asked → StageOfBringing.Asked meaning laws old asked q k v
    by-tick asked ticks = StageOfBringing.asked meaning laws old asked q k v m.keeps a.stands promised ticks

    pub made-still : (asked : WorldModel S) → StageOfBringing.Asked meaning laws old asked q k v → Made meaning laws asked c l v
    made-still asked x = record { keeps = x.keeps; stands = Standing.stands-still meaning old c l m.stands asked q apart x.others; view = m.view }

    pub report-next : (asked : WorldModel S) → StageOfBringing.Asked meaning laws old asked q k v → Standing.IsFor meaning asked (length asked.history.pool) c (StageOfBringing.report_packet meaning laws q k v)
    report-next asked x = StageOfBringing.report-for meaning laws old asked c q k v x install.own other

    -- by its REPORT
    pub by-report : (asked answered : WorldModel S) (x : StageOfBringing.Asked meaning laws old asked q k v) → Plays meaning asked (Deliver (length asked.history.pool)) answered
        → StageOfBringing.Answered meaning laws asked.history.pool answered c q l v × OthersStand c.node asked.node_states answered.node_states
    by-report asked answered x report =
        StageOfBringing.answered meaning laws asked answered c q l v (report_in k) (length asked.history.pool) (made-still asked x) a.kept (report-next asked x) report

    -- what it holds then
    pub holding : (asked answered : WorldModel S) (x : StageOfBringing.Asked meaning laws old asked q k v) (y : StageOfBringing.Answered meaning laws asked.history.pool answered c q l v)
        → OthersStand c.node asked.node_states answered.node_states → StageOfBringing.Holds meaning laws answered v q (meaning.encode y.begun.state) 0
    holding asked answered x y others =
        let stands = Standing.stands-still meaning asked q k x.stands answered c apart_too others in
        record {
          member_state = k;
          stands = stands;
          promise = promised.promise;
          waits = promised.waits;
          are = WhoAwaits.holds-pieces meaning laws answered v q k y.begun.state y.made.keeps stands promised.promise y.begun.is;
          has = has-none (length (meaning.encode y.begun.state)) k.chunks;
        }

    abbrev pub posted : (answered : WorldModel S) (before : List (List ℕ)) → StageOfBringing.Answered meaning laws before answered c q l v → List Posted
    posted answered before y = StageOfInstalls.state_packets c q v.id (meaning.encode y.begun.state) 1 y.count ++ packet c (bodies.Install y.install) q ∷ []

    -- so many packets come next
    pub many : (answered : WorldModel S) (before : List (List ℕ)) (y : StageOfBringing.Answered meaning laws before answered c q l v) → length answered.history.pool - length before ≡ y.count + 1
    many answered before y =
        SettlingsSettle.so-many meaning laws answered.history.pool before (posted answered before y) y.puts
        ∙ length-append (StageOfInstalls.state_packets c q v.id (meaning.encode y.begun.state) 1 y.count) (packet c (bodies.Install y.install) q ∷ [])
        ∙ ap (λ (n : ℕ). n + 1) (StageOfInstalls.long-of meaning laws c q v.id (meaning.encode y.begun.state) 1 y.count)

    pub packets-next : (answered : WorldModel S) (before : List (List ℕ)) (y : StageOfBringing.Answered meaning laws before answered c q l v)
        → AreNext (length before) (posted answered before y) answered.history.pool
    packets-next answered before y = SettlingsSettle.are-next meaning laws answered.history.pool before (posted answered before y) y.puts

    -- the chunks come, and then the INSTALL
    pub record Instructed (answered mid : WorldModel S) (before : List (List ℕ)) (y : StageOfBringing.Answered meaning laws before answered c q l v) : Type 0 where
      pub on : StageOfBringing.HoldsOn meaning laws answered mid v q (meaning.encode y.begun.state) y.count
      pub to : Standing.IsFor meaning mid (length before + y.count + 1) q (packet c (bodies.Install y.install) q)

    pub by-chunks : (answered mid : WorldModel S) (before : List (List ℕ)) (y : StageOfBringing.Answered meaning laws before answered c q l v)
        → StageOfBringing.Holds meaning laws answered v q (meaning.encode y.begun.state) 0 → Delivers meaning (length before) y.count answered mid → Instructed answered mid before y
    by-chunks answered mid before y holds all =
        let bytes = meaning.encode y.begun.state in
        let chunks = StageOfInstalls.state_packets c q v.id bytes 1 y.count in
        let last = packet c (bodies.Install y.install) q in
        let next = packets-next answered before y in
        let on = StageOfBringing.all-held meaning laws y.count 0 (length before) answered mid c q v bytes y.made.keeps holds install.own other
        (StageOfInstalls.all-front meaning laws _ chunks (last ∷ []) y.sound) (StageOfInstalls.next-front meaning laws (length before) chunks (last ∷ []) answered.history.pool next) all in
        let z : 0 + y.count ≡ y.count = omega arith in
        let behind = subst (λ (pool : List (List ℕ)). AreNext (length before + y.count) (last ∷ []) pool) (sym on.leaves.pool)
        (subst (λ (n : ℕ). AreNext (length before + n) (last ∷ []) answered.history.pool) (StageOfInstalls.long-of meaning laws c q v.id bytes 1 y.count)
        (StageOfInstalls.next-behind meaning laws (length before) chunks (last ∷ []) answered.history.pool next)) in
        record {
          on = subst (StageOfBringing.HoldsOn meaning laws answered mid v q bytes) z on;
          to = record {
            there = next-first (length before + y.count) last [] mid.history.pool behind;
            sound = (StageOfInstalls.all-behind meaning laws _ chunks (last ∷ []) y.sound).0;
            goes = refl;
            other = same_address-sym c q ∙ other;
          };
        }

    pub by-installs : (answered new : WorldModel S) (before : List (List ℕ)) (y : StageOfBringing.Answered meaning laws before answered c q l v)
        → StageOfBringing.Holds meaning laws answered v q (meaning.encode y.begun.state) 0 → DeliversPast meaning (length before) answered new → StageOfInstalls.GoesIn meaning laws answered new v q
    by-installs answered new before y holds all =
        let p = StageOfInstalls.delivers-split meaning laws y.count 1 (length before) (length answered.history.pool - length before) answered new (many answered before y) all in
        let x = by-chunks answered p.mid before y holds p.first in
        let d = delivers-next meaning (length before + y.count) 1 0 p.mid new refl p.second in
        let is : new ≡ d.mid = delivers-none meaning (length before + y.count + 1) 0 d.mid new refl d.rest in
        let g = StageOfBringing.one-enters meaning laws p.mid d.mid c q v (meaning.encode y.begun.state) y.count y.install (length before + y.count + 1) x.on.leaves.keeps x.on.holds y.view y.enough x.to d.plays in
        subst (λ (u : WorldModel S). StageOfInstalls.GoesIn meaning laws answered u v q) (sym is)
        (record { inside = g.inside; leaves = StageOfInstalls.leaves-then meaning laws answered p.mid d.mid q x.on.leaves g.leaves })

    -- so it is brought in
    pub record Brought (new : WorldModel S) : Type 0 where
      pub made : Made meaning laws new c l v
      pub inside : StageOfInstalls.Inside meaning laws new v q
      pub still : (p : Address) (n : MemberState S) → Stands meaning old p n → same_address p q ≡ false → same_address p c ≡ false → Stands meaning new p n

    pub brought : (new : WorldModel S) → BringsIn meaning q old new → Brought new
    brought new b =
        let x = by-tick b.asked b.ticks in
        let y = by-report b.asked b.answered x b.report in
        let g = by-installs b.answered new b.asked.history.pool y.0 (holding b.asked b.answered x y.0 y.1) b.installs in
        record {
          made = record { keeps = g.leaves.keeps; stands = Standing.stands-still meaning b.answered c l y.0.made.stands new q apart g.leaves.others; view = m.view };
          inside = g.inside;
          still = λ p n r elsewhere foreign.
              let here = Standing.nodes-apart meaning old q p k n a.stands r elsewhere in
              let there = Standing.nodes-apart meaning old c p l n m.stands r foreign in
              let one = Standing.stands-still meaning old p n r b.asked q here x.others in
              let two = Standing.stands-still meaning b.asked p n one b.answered c there y.1 in
              Standing.stands-still meaning b.answered p n two new q here g.leaves.others;
        }

  -- ---- the members of the view

  -- one of them is in it, or awaits its INSTALL
  abbrev pub IsOf : WorldModel S → MemberState S → View → Address → Type 0
  IsOf w l v q = StageOfInstalls.Inside meaning laws w v q ⊎ Awaits meaning laws w l v q

  -- its creator is in it, and so are those of a list
  pub record Gathered (w : WorldModel S) (c : Address) (l : MemberState S) (v : View) (qs : List Address) : Type 0 where
    pub made : Made meaning laws w c l v
    pub each : (q : Address) → stands_in q v.members ≡ true → IsOf w l v q
    pub inside : (q : Address) → stands_in q v.members ≡ true → stands_in q qs ≡ true → StageOfInstalls.Inside meaning laws w v q

  -- ---- from the tests

  connected-in : (l : MemberState S) (u : View) → view_in l.view_state ≡ Some u → is_connected l ≡ true
  connected-in l u e = by l.view_state e
    where
      by : (o : Option ViewState) → view_in o ≡ Some u → is_some o || is_some l.contact ≡ true
      by None x = absurd (none-some u x)
      by (Some t) x = refl

  -- two who are in a view of one id are in one view
  same-view : (w : WorldModel S) (c q : Address) (l k : MemberState S) (v u : View) → Made meaning laws w c l v → Stands meaning w q k → view_in k.view_state ≡ Some u → u.id ≡ v.id → u ≡ v
  same-view w c q l k v u m there is same =
      let inv = (Standing.agreed-in meaning laws w m.keeps).agreed in
      let t = (system_of w.node_states w.history.pool w.history.trace).history.trace in
      let mine = ((inv.members c (core_at c l) (Standing.runs-in meaning w c l m.stands)).view v m.view).inside.first in
      let its = ((inv.members q (core_at q k) (Standing.runs-in meaning w q k there)).view u is).inside.first in
      same_Some u v (sym its ∙ ap (λ (x : ViewId). installed_as x.creator x t) same ∙ mine)

  test-inside : (w : WorldModel S) (c q : Address) (l : MemberState S) (v : View) → Made meaning laws w c l v → is_inside v q (w.node_states q.node) ≡ true → StageOfInstalls.Inside meaning laws w v q
  test-inside w c q l v made e = by (w.node_states q.node) refl e
    where
      at-view : (m : MemberModel S) (k : MemberState S) (o : Option View) → w.node_states q.node ≡ Running m → m.address ≡ q → m.member_state ≡ Some k → view_in k.view_state ≡ o
          → option_eq same_view_id (id_of o) (Some v.id) ≡ true → StageOfInstalls.Inside meaning laws w v q
      at-view m k None there address state is t = absurd (let n : false ≡ true = t in cc)
      at-view m k (Some u) there address state is t =
          let stands : Stands meaning w q k = record {
            member = m;
            node_state = there;
            address = address;
            group = (SettlingsSettle.node-is meaning laws w q.node m made.keeps there).1;
            member_state = state;
            connected = connected-in k u is;
          } in
          let same = same-view w c q l k v u made stands is (same_view_id-true u.id v.id t) in
          record { member_state = k; stands = stands; inside = is ∙ ap Some same }

      at-state : (m : MemberModel S) (o : Option (MemberState S)) → w.node_states q.node ≡ Running m → m.address ≡ q → m.member_state ≡ o
          → option_map_or (λ k. option_eq same_view_id (id_of (view_in k.view_state)) (Some v.id)) o false ≡ true → StageOfInstalls.Inside meaning laws w v q
      at-state m None there address state t = absurd (let n : false ≡ true = t in cc)
      at-state m (Some k) there address state t = at-view m k (view_in k.view_state) there address state refl t

      by : (s : NodeState S) → w.node_states q.node ≡ s → is_inside v q s ≡ true → StageOfInstalls.Inside meaning laws w v q
      by Vacant there t = absurd (let n : false ≡ true = t in cc)
      by (Ended p) there t = absurd (let n : false ≡ true = t in cc)
      by (Running m) there t =
          let x = and_parts (same_address m.address q) _ t in
          at-state m m.member_state there (same_address-true m.address q x.0) refl x.1

  -- what the test finds at the creator's node
  kept-at : (w : WorldModel S) (n : ℕ) (c q : Address) (l : MemberState S) → c.node ≡ n → Stands meaning w c l → keeps_install q (w.node_states n) ≡ list_any (is_sent_to q) l.sent_installs.items
  kept-at w n c q l node r =
      ap (keeps_install q) (ap (λ (k : ℕ). w.node_states k) (sym node) ∙ r.node_state)
      ∙ ap (λ (o : Option (MemberState S)). option_map_or (λ k. list_any (is_sent_to q) k.sent_installs.items) o false) r.member_state

  pub test-awaits : (w : WorldModel S) (n : ℕ) (c q : Address) (l : MemberState S) (v : View) → c.node ≡ n → Made meaning laws w c l v → awaits_install w.node_states n v q ≡ true → Awaits meaning laws w l v q
  test-awaits w n c q l v node made e =
      let x = and_parts (keeps_install q (w.node_states n)) (would_follow v q (w.node_states q.node)) e in
      let y = SettlingsSettle.follower meaning laws w v q made.keeps x.1 in
      record { member_state = y.member_state; stands = y.stands; accepts = y.accepts; kept = sym (kept-at w n c q l node made.stands) ∙ x.0 }

  awaits-test : (w : WorldModel S) (n : ℕ) (c q : Address) (l : MemberState S) (v : View) → c.node ≡ n → Made meaning laws w c l v → Awaits meaning laws w l v q → awaits_install w.node_states n v q ≡ true
  awaits-test w n c q l v node made a =
      let r = a.stands in
      let k = a.member_state in
      let follows : would_follow v q (w.node_states q.node) ≡ true =
      ap (would_follow v q) r.node_state ∙ ap (λ (p : Address). same_address p q && option_map_or (λ z. is_connected z && is_accept (offered v z.promise)) r.member.member_state false) r.address
      ∙ ap (λ (o : Option (MemberState S)). same_address q q && option_map_or (λ z. is_connected z && is_accept (offered v z.promise)) o false) r.member_state
      ∙ and_from (same_address q q) _ (same_address-refl q) (and_from (is_connected k) (is_accept (offered v k.promise)) r.connected a.accepts) in
      and_from (keeps_install q (w.node_states n)) (would_follow v q (w.node_states q.node)) (kept-at w n c q l node made.stands ∙ a.kept) follows

  -- the condition
  pub record Starts (w : WorldModel S) (n : ℕ) (v : View) : Type 0 where
    pub creator : Address
    pub node : creator.node ≡ n
    pub member_state : MemberState S
    pub gathered : Gathered w creator member_state v []
    pub one : Address
    pub awaits : Awaits meaning laws w member_state v one

  any-one : {X : Type 0} (test : X → Bool) (l : List X) → list_any test l ≡ true → (x : X) × (test x ≡ true)
  any-one test [] e = absurd (let n : false ≡ true = e in cc)
  any-one {X} test (x ∷ l) e = by (test x) refl e (any-one test l)
    where
      by : (b : Bool) → test x ≡ b → b || list_any test l ≡ true → (list_any test l ≡ true → (y : X) × (test y ≡ true)) → (y : X) × (test y ≡ true)
      by true t more later = (x, t)
      by false t more later = later more

  starts-by : (w : WorldModel S) (n : ℕ) (v : View) (m : MemberModel S) (l : MemberState S) → Keeps meaning laws w → w.node_states n ≡ Running m → m.member_state ≡ Some l → view_in l.view_state ≡ Some v
      → list_all (λ q. is_inside v q (w.node_states q.node) || awaits_install w.node_states n v q) v.members ≡ true → list_any (awaits_install w.node_states n v) v.members ≡ true → Starts w n v
  starts-by w n v m l keeps there state view all some =
      let c = m.address in
      let node = SettlingsSettle.node-is meaning laws w n m keeps there in
      let stands : Stands meaning w c l = record {
        member = m;
        node_state = ap (λ (z : ℕ). w.node_states z) node.0 ∙ there;
        address = refl;
        group = node.1;
        member_state = state;
        connected = connected-in l v view;
      } in
      let made : Made meaning laws w c l v = record { keeps = keeps; stands = stands; view = view } in
      let one = any-one (awaits_install w.node_states n v) v.members some in
      record {
        creator = c;
        node = node.0;
        member_state = l;
        one = one.0;
        awaits = test-awaits w n c one.0 l v node.0 made one.1;
        gathered = record {
          made = made;
          each = λ q listed. by c node.0 made q (is_inside v q (w.node_states q.node)) refl (all-by (λ z. is_inside v z (w.node_states z.node) || awaits_install w.node_states n v z) v.members q all listed);
          inside = λ q listed none. absurd (let n : false ≡ true = none in cc);
        };
      }
    where
      by : (c : Address) → c.node ≡ n → Made meaning laws w c l v → (q : Address) (b : Bool) → is_inside v q (w.node_states q.node) ≡ b → b || awaits_install w.node_states n v q ≡ true → IsOf w l v q
      by c node made q true e x = inl (test-inside w c q l v made e)
      by c node made q false e x = inr (test-awaits w n c q l v node made x)

  pub starts : (w : WorldModel S) (n : ℕ) (v : View) → Keeps meaning laws w → awaited_at w.node_states n ≡ Some v → Starts w n v
  starts w n v keeps e = by (w.node_states n) refl e
    where
      at-view : (m : MemberModel S) (l : MemberState S) (o : Option View) → w.node_states n ≡ Running m → m.member_state ≡ Some l → view_in l.view_state ≡ o
          → option_and_then (awaited w.node_states n) o ≡ Some v → Starts w n v
      at-view m l None there state view x = absurd (none-some v x)
      at-view m l (Some u) there state view x =
          let y = cond_some _ u v x in
          let z = and_parts (list_all (λ q. is_inside u q (w.node_states q.node) || awaits_install w.node_states n u q) u.members) (list_any (awaits_install w.node_states n u) u.members) y.0 in
          subst (Starts w n) y.1 (starts-by w n u m l keeps there state view z.0 z.1)

      at-member : (m : MemberModel S) (o : Option (MemberState S)) → w.node_states n ≡ Running m → m.member_state ≡ o
          → option_and_then (awaited w.node_states n) (option_and_then (λ l. view_in l.view_state) o) ≡ Some v → Starts w n v
      at-member m None there state x = absurd (none-some v x)
      at-member m (Some l) there state x = at-view m l (view_in l.view_state) there state refl x

      by : (s : NodeState S) → w.node_states n ≡ s → option_and_then (awaited w.node_states n) (view_at s) ≡ Some v → Starts w n v
      by Vacant there x = absurd (none-some v x)
      by (Ended p) there x = absurd (none-some v x)
      by (Running m) there x = at-member m m.member_state there refl x

  -- ---- one after another

  in-more : (p q : Address) (qs : List Address) → stands_in p (qs ++ q ∷ []) ≡ true → same_address p q ≡ false → stands_in p qs ≡ true
  in-more p q [] there e = absurd (let n : false ≡ true = sym (ap (λ (b : Bool). b || false) e) ∙ there in cc)
  in-more p q (x ∷ qs) there e = by (same_address p x) there (λ t. in-more p q qs t e)
    where
      by : (b : Bool) → b || stands_in p (qs ++ q ∷ []) ≡ true → (stands_in p (qs ++ q ∷ []) ≡ true → stands_in p qs ≡ true) → b || stands_in p qs ≡ true
      by true t later = refl
      by false t later = later t

  inside-still : (old new : WorldModel S) (v : View) (p : Address) → ((n : MemberState S) → Stands meaning old p n → Stands meaning new p n) → StageOfInstalls.Inside meaning laws old v p
      → StageOfInstalls.Inside meaning laws new v p
  inside-still old new v p still x = record { member_state = x.member_state; stands = still x.member_state x.stands; inside = x.inside }

  one-still : (old new : WorldModel S) (l : MemberState S) (v : View) (p : Address) → ((n : MemberState S) → Stands meaning old p n → Stands meaning new p n) → IsOf old l v p → IsOf new l v p
  one-still old new l v p still (inl x) = inl (inside-still old new v p still x)
  one-still old new l v p still (inr x) = inr (record { member_state = x.member_state; stands = still x.member_state x.stands; accepts = x.accepts; kept = x.kept })

  -- one is brought in
  next-brought : (old new : WorldModel S) (c q : Address) (l : MemberState S) (v : View) (qs : List Address) (x : Gathered old c l v qs) (a : Awaits meaning laws old l v q) → Brought old c q l v x.made a new
      → Gathered new c l v (qs ++ q ∷ [])
  next-brought old new c q l v qs x a b = record {
    made = b.made;
    each = λ p listed. each p listed (same_address p q) (same_address p c) refl refl;
    inside = λ p listed there. inside p listed there (same_address p q) (same_address p c) refl refl;
  }
    where
      creator : StageOfInstalls.Inside meaning laws new v c
      creator = record { member_state = l; stands = b.made.stands; inside = b.made.view }

      each : (p : Address) → stands_in p v.members ≡ true → (d e : Bool) → same_address p q ≡ d → same_address p c ≡ e → IsOf new l v p
      each p listed true e is _ = inl (subst (StageOfInstalls.Inside meaning laws new v) (sym (same_address-true p q is)) b.inside)
      each p listed false true _ is = inl (subst (StageOfInstalls.Inside meaning laws new v) (sym (same_address-true p c is)) creator)
      each p listed false false elsewhere foreign = one-still old new l v p (λ n r. b.still p n r elsewhere foreign) (x.each p listed)

      inside : (p : Address) → stands_in p v.members ≡ true → stands_in p (qs ++ q ∷ []) ≡ true → (d e : Bool) → same_address p q ≡ d → same_address p c ≡ e → StageOfInstalls.Inside meaning laws new v p
      inside p listed there true e is _ = subst (StageOfInstalls.Inside meaning laws new v) (sym (same_address-true p q is)) b.inside
      inside p listed there false true _ is = subst (StageOfInstalls.Inside meaning laws new v) (sym (same_address-true p c is)) creator
      inside p listed there false false elsewhere foreign =
          inside-still old new v p (λ n r. b.still p n r elsewhere foreign) (x.inside p listed (in-more p q qs there elsewhere))

  -- one does not await its INSTALL: it is in
  next-inside : (w : WorldModel S) (n : ℕ) (c q : Address) (l : MemberState S) (v : View) (qs : List Address) → c.node ≡ n → stands_in q v.members ≡ true → Gathered w c l v qs
      → awaits_install w.node_states n v q ≡ false → Gathered w c l v (qs ++ q ∷ [])
  next-inside w n c q l v qs node listed x not_so = record {
    made = x.made;
    each = x.each;
    inside = λ p here there. by p here there (same_address p q) refl;
  }
    where
      itself : IsOf w l v q → StageOfInstalls.Inside meaning laws w v q
      itself (inl y) = y
      itself (inr a) = absurd (let bad : true ≡ false = sym (awaits-test w n c q l v node x.made a) ∙ not_so in cc)

      by : (p : Address) → stands_in p v.members ≡ true → stands_in p (qs ++ q ∷ []) ≡ true → (b : Bool) → same_address p q ≡ b → StageOfInstalls.Inside meaning laws w v p
      by p here there true e = subst (StageOfInstalls.Inside meaning laws w v) (sym (same_address-true p q e)) (itself (x.each q listed))
      by p here there false e = x.inside p here (in-more p q qs there e)

  pub next-one : (mid new : WorldModel S) (n : ℕ) (c q : Address) (l : MemberState S) (v : View) (qs : List Address) (b : Bool) → c.node ≡ n → stands_in q v.members ≡ true → Gathered mid c l v qs
      → awaits_install mid.node_states n v q ≡ b → MatchBool b (BringsIn meaning q mid new) (new ≡ mid) → Gathered new c l v (qs ++ q ∷ [])
  next-one mid new n c q l v qs true node listed x e plays =
      let a = test-awaits mid n c q l v node x.made e in
      next-brought mid new c q l v qs x a (brought mid c q l v x.made a new plays)
  next-one mid new n c q l v qs false node listed x e same = subst (λ (w : WorldModel S). Gathered w c l v (qs ++ q ∷ [])) (sym same) (next-inside mid n c q l v qs node listed x e)

  -- a list of members of the view
  abbrev pub AreListed : View → List Address → Type 0
  AreListed v qs = (q : Address) → stands_in q qs ≡ true → stands_in q v.members ≡ true

  pub in-front : (p q : Address) (qs : List Address) → stands_in p qs ≡ true → stands_in p (qs ++ q ∷ []) ≡ true
  in-front p q [] there = absurd (let n : false ≡ true = there in cc)
  in-front p q (x ∷ qs) there = by (same_address p x) there (in-front p q qs)
    where
      by : (b : Bool) → b || stands_in p qs ≡ true → (stands_in p qs ≡ true → stands_in p (qs ++ q ∷ []) ≡ true) → b || stands_in p (qs ++ q ∷ []) ≡ true
      by true t later = refl
      by false t later = later t

  pub at-last : (q : Address) (qs : List Address) → stands_in q (qs ++ q ∷ []) ≡ true
  at-last q [] = ap (λ (b : Bool). b || false) (same_address-refl q)
  at-last q (x ∷ qs) = or_right (same_address q x) (stands_in q (qs ++ q ∷ [])) (at-last q qs)

  pub all-gathered : (old : WorldModel S) (n : ℕ) (c : Address) (l : MemberState S) (v : View) → c.node ≡ n → Gathered old c l v [] → (qs : List Address) (new : WorldModel S) → AreListed v qs → BringsAll meaning n v old qs new
      → Gathered new c l v qs
  all-gathered old n c l v node x _ _ listed Nobody = x
  all-gathered old n c l v node x _ _ listed (Next qs q mid new before plays) =
      let y = all-gathered old n c l v node x qs mid (λ p there. listed p (in-front p q qs there)) before in
      next-one mid new n c q l v qs (awaits_install mid.node_states n v q) node (listed q (at-last q qs)) y refl plays

  -- LOST INSTALLS COME AGAIN
  pub settled : (old new : WorldModel S) (n : ℕ) (v : View) → Keeps meaning laws old → awaited_at old.node_states n ≡ Some v → BringsAll meaning n v old v.members new → IsSettled v new.history.trace
  settled old new n v keeps at x =
      let a = starts old n v keeps at in
      let g = all-gathered old n a.creator a.member_state v a.node a.gathered v.members new (λ q there. there) x in
      λ q listed. SettlingsSettle.inside-says meaning laws new v q g.made.keeps (g.inside q listed listed)
