-- Two members, each alone in its view: after a hint, and a delivery of the MERGE that comes of it, the lesser one has begun a change of view that can complete.
use Rattle.std.proofs.Common.{◌≡◌, ℕ, ◌+◌, ◌<◌, max, Bool, true, false, not, Option, Some, None, List, [], ◌∷◌, ◌++◌, take, length, nat_eq, nat_lt, is_some, refl, sym, ap, ◌∙◌, subst, arith}
use Rattle.std.specs.Prelude.{◌&&◌, ◌||◌, MatchBool, MatchOption}
use Rattle.std.specs.List.{list_all}
use Rattle.std.specs.Ordering.{nat_cmp}
use Rattle.std.specs.declared.cmp.Ordering.TheVariants.{Equal, Greater}
use Rattle.std.specs.Option.{IsSomeAnd, option_map, option_map_or, option_and_then}
use Rattle.std.proofs.lemmas.Bool.{and_from, cond-true}
use Rattle.std.proofs.lemmas.Bool.Decides.{nat_tests}
use Rattle.std.proofs.lemmas.Option.{none-some, same_Some}
use Rattle.address.specs.Ids.{Address, same_address}
use Rattle.address.proofs.SameIds.{same_address-refl, same_address-sym}
use Rattle.address.specs.declared.limits.TheConstants.{GREATEST_NUMBER, MEMBERS}
use Rattle.view.specs.Members.{View, stands_in}
use Rattle.suspicion.specs.Suspicion.{leads}
use Rattle.next_view.specs.ViewNotes.{NotesModel}
use Rattle.next_view.specs.Noting.{noting_view}
use Rattle.next_view.specs.Candidates.{all_candidates, candidates, next_counter, is_changed}
use Rattle.wire_values.specs.Values.{Report}
use Rattle.wire_values.specs.declared.packet.Body.TheVariants as bodies
use Rattle.wire_values.specs.Posted.{packet}
use Rattle.state_transfer.specs.Meanings.{Meaning}
use Rattle.flush.specs.Flushes.{FlushModel}
use Rattle.view_install.specs.Promises.{PromiseModel, offered, is_accept}
use Rattle.law_acts.specs.Cores.{Core}
use Rattle.law_acts.specs.Acts.{proposed}
use Rattle.law_acts.specs.Decisions.{due_proposal, due_at, regroups_in, is_due, proposal_after, next_proposal, promised_counter}
use Rattle.law_acts.proofs.KeepBySteps
use Rattle.step_output.specs.declared.output.Output.{Output}
use Rattle.step_output.specs.Outputs.{Grows}
use Rattle.step_output.specs.Steps.{who}
use Rattle.traffic.specs.declared.view_state.ViewState.{ViewState}
use Rattle.traffic.specs.ViewStates.{view_of}
use Rattle.membership.specs.InSteps.{InStep, in_step}
use Rattle.membership.specs.declared.member_state.MemberState.{MemberState}
use Rattle.membership.specs.MemberStates.{core_of as core_at, view_in, is_connected, is_complete, begun_with, report_in}
use Rattle.membership.specs.Changes.{StaysAs, Regroups, BeginsAndGoesOn, FinishesAndProposes}
use Rattle.member.specs.Members.{MemberModel}
use Rattle.member_rules.specs.Views.{OnMerge, Meets, merged, view_for, leads_now, has_member, is_less}
use Rattle.world_model.specs.declared.WorldEvent.TheVariants.{Deliver, MergeHint}
use Rattle.world_model.specs.Packets.{world_group}
use Rattle.world.specs.declared.node_state.NodeState.TheVariants.{Running}
use Rattle.world.specs.Worlds.{WorldModel}
use Rattle.world.proofs.MembersAtNodes
use Rattle.world.proofs.InputsTaken.{when-true, when-false}
use Rattle.world.proofs.KeepOfWorlds
use Rattle.law_processes.proofs.PostsAreSpelled.{bytes_for}
use Rattle.world.specs.Plays.{lacks_memory}
use Rattle.world.proofs.PoolPackets.{AreNext, put-next, next-first, put-out}
use Rattle.world.proofs.Standing
use Rattle.world.proofs.Standing.{Stands}
use Rattle.world.specs.Settles.{would_follow, followed, settling_in, settling_at, Settles, IsSettled}
use Rattle.world.specs.Meets.{StandsAlone, NotesNobody, counter_in, HintsAndDelivers}
use Rattle.world.proofs.StageOfFlushes.{Keeps, sure}
use Rattle.world.proofs.SettlingsSettle.{settled}

-- ---- numbers and ids

cmp-self : (n : ℕ) → nat_cmp n n ≡ Equal
cmp-self n = grind (arith, nat_tests)

cmp-above : (a b : ℕ) → b < a → nat_cmp a b ≡ Greater
cmp-above a b e = grind (arith, nat_tests)

lt-true : (a b : ℕ) → a < b → nat_lt a b ≡ true
lt-true a b e = grind (arith, nat_tests)

lt-self : (n : ℕ) → nat_lt n n ≡ false
lt-self n = grind (arith, nat_tests)

eq-self : (n : ℕ) → nat_eq n n ≡ true
eq-self n = grind (arith, nat_tests)

less-not : (a b x y : ℕ) → (nat_lt a b || (nat_eq a b && nat_lt x y)) ≡ true → (nat_lt b a || (nat_eq b a && nat_lt y x)) ≡ false
less-not a b x y e = grind (arith, nat_tests)

less-apart : (a b x y : ℕ) → (nat_lt a b || (nat_eq a b && nat_lt x y)) ≡ true → (nat_eq a b && nat_eq x y) ≡ false
less-apart a b x y e = grind (arith, nat_tests)

-- ---- what is noted, and who may be in the next view

-- one is noted who merges
abbrev with_other : Address → ℕ → NotesModel
with_other q n = record { suspects = []; joiners = []; merging = q ∷ []; heard = n }

module _ (p q : Address) (other : same_address q p ≡ false) (apart : nat_eq p.node q.node ≡ false) where
  two-candidates : (n : ℕ) → all_candidates p (p ∷ []) (with_other q n) ≡ p ∷ q ∷ []
  two-candidates n = rw (other, same_address-refl p, apart, eq-self q.node, lt-self q.incarnation, other) refl

  noted-so : (h : ℕ) (u : View) → u.members ≡ q ∷ [] → noting_view p (p ∷ []) u (record { suspects = []; joiners = []; merging = []; heard = h }) ≡ with_other q (max h u.id.counter)
  noted-so h u alone = rw (alone, other, two-candidates h) refl

  changed : (n : ℕ) → is_changed p (p ∷ []) (with_other q n) ≡ true
  changed n = rw (two-candidates n, same_address-refl p) refl

leads-alone : (p : Address) → leads [] (p ∷ []) p ≡ true
leads-alone p = rw (same_address-refl p) refl

-- the view of the two
abbrev meeting : Address → Address → ℕ → View
meeting p q n = record { id = record { counter = n; creator = p }; members = p ∷ q ∷ [] }

-- it is due
due-is : {S : Type 0} (c : Core S) (v : View) (q : Address) (n : ℕ) → same_address q c.me ≡ false → nat_eq c.me.node q.node ≡ false → c.view ≡ Some v → c.promise ≡ Some v → c.installed ≡ true → v.members ≡ c.me ∷ []
    → max v.id.counter n < GREATEST_NUMBER → due_proposal c (with_other q n) ≡ Some (meeting c.me q (max v.id.counter n + 1))
due-is c v q n other apart view promise installed alone room =
    let b = with_other q n in
    let first : leads b.suspects v.members c.me ≡ true = ap (λ (l : List Address). leads [] l c.me) alone ∙ leads-alone c.me in
    let due : is_due c b v ≡ true = cond-true c.installed _ _ installed ∙ ap (λ (l : List Address). is_changed c.me l b) alone ∙ changed c.me q other apart n in
    let now : regroups_in c b v ≡ true = and_from (leads b.suspects v.members c.me) (is_due c b v) first due in
    let who_may : candidates c.me v.members b ≡ c.me ∷ q ∷ [] = ap (λ (l : List Address). candidates c.me l b) alone ∙ ap (λ (l : List Address). take MEMBERS l) (two-candidates c.me q other apart n) in
    let left : next_counter v.id.counter b ≡ Some (max v.id.counter n + 1) = cond-true (nat_lt (max v.id.counter n) GREATEST_NUMBER) _ _ (lt-true (max v.id.counter n) GREATEST_NUMBER room) in
    ap (option_and_then (due_at c b)) view ∙ cond-true (regroups_in c b v) (proposal_after c b v) None now ∙ ap (next_proposal c b) who_may
    ∙ ap (λ (o : Option View). option_map (λ k. record { id = record { counter = k; creator = c.me }; members = c.me ∷ q ∷ [] }) (next_counter (promised_counter o) b)) promise
    ∙ ap (option_map (λ k. record { id = record { counter = k; creator = c.me }; members = c.me ∷ q ∷ [] })) left

-- ---- the two

viewed : (o : Option View) (list : List Address) → option_map (λ (v : View). v.members) o ≡ Some list → (v : View) × (o ≡ Some v) × (v.members ≡ list)
viewed None list e = absurd (none-some list e)
viewed (Some v) list e = (v, refl, same_Some v.members list e)

some-of : (o : Option ViewState) (v : View) → option_map view_of o ≡ Some v → is_some o ≡ true
some-of None v e = absurd (none-some v e)
some-of (Some t) v e = refl

module _ {S : Type 0} (meaning : Meaning S) (laws : KeepBySteps.Laws meaning) where
  -- one that stands alone: its view, what it promised, and that it leads
  pub record Alone (w : WorldModel S) (p : Address) (l : MemberState S) : Type 0 where
    pub stands : Stands meaning w p l
    pub view : View
    pub inside : view_in l.view_state ≡ Some view
    pub only : view.members ≡ p ∷ []
    pub some : is_some l.view_state ≡ true
    pub promise : l.promise.proposal ≡ Some view
    pub own : l.promise.member ≡ p

  alone-is : (w : WorldModel S) (p : Address) (l : MemberState S) → Keeps meaning laws w → StandsAlone w p l → Alone w p l
  alone-is w p l keeps x =
      let v = viewed (view_in l.view_state) (p ∷ []) x.alone in
      let here = MembersAtNodes.is-here meaning laws w.node_states w.history p.node x.member keeps x.node_state (ap (λ (a : Address). a.node) x.address) in
      let lives = (here.alive l x.member_state).member_state in
      let some : is_some l.view_state ≡ true = some-of l.view_state v.0 v.1 in
      record {
        stands = record {
          member = x.member;
          node_state = x.node_state;
          address = x.address;
          group = here.group_is;
          member_state = x.member_state;
          connected = ap (λ (b : Bool). b || is_some l.contact) some;
        };
        view = v.0;
        inside = v.1;
        only = v.2;
        some = some;
        promise = sym (lives.installed x.not_blocked) ∙ v.1;
        own = lives.own ∙ x.address;
      }

  leads-there : (p : Address) (l : MemberState S) (v : View) → view_in l.view_state ≡ Some v → v.members ≡ p ∷ [] → leads_now p l ≡ true
  leads-there p l v inside only = ap (λ (o : Option View). option_map_or (λ (w : View). leads l.notes.suspects w.members p) o false) inside ∙ ap (λ (m : List Address). leads l.notes.suspects m p) only ∙ rw (same_address-refl p) refl

  has-not : (p q : Address) (l : MemberState S) (v : View) → view_in l.view_state ≡ Some v → v.members ≡ p ∷ [] → same_address q p ≡ false → has_member q l ≡ false
  has-not p q l v inside only other =
      ap (λ (o : Option View). option_map_or (λ (w : View). stands_in q w.members) o false) inside ∙ ap (stands_in q) only ∙ ap (λ (b : Bool). b || false) other

  -- ---- the hint

  announced-view : (p q : Address) (k : MemberState S) (u : View) → view_in k.view_state ≡ Some u → u.members ≡ q ∷ [] → k.promise.is_installed ≡ true → same_address p q ≡ false → view_for q p k ≡ Some u
  announced-view p q k u inside only opened other =
      cond-true ((k.promise.is_installed && leads_now q k) && not (has_member p k)) (view_in k.view_state) None
      (and_from (k.promise.is_installed && leads_now q k) (not (has_member p k)) (and_from k.promise.is_installed (leads_now q k) opened (leads-there q k u inside only))
      (ap not (has-not q p k u inside only other))) ∙ inside

  -- ---- the MERGE

  -- what the lesser one is left with
  pub record Meeting (p q : Address) (l after : MemberState S) (w : View) : Type 0 where
    pub report : Report
    pub flush : after.flush ≡ Some (begun_with p w report)
    pub promise : after.promise ≡ record { member = l.promise.member; proposal = Some w; is_installed = false }

  awaits-other : (p q : Address) (w : View) (r : Report) → w.members ≡ p ∷ q ∷ [] → same_address q p ≡ false → is_complete (begun_with p w r) ≡ false
  awaits-other p q w r two other = rw (two, other, same_address-refl p) refl

  -- what a complete flush would do
  abbrev WholeFlush : Address → FlushModel → InStep S → InStep S → Type 0
  WholeFlush p f mid new = MatchOption mid.member.view_state ⊥ (λ t. FinishesAndProposes meaning (who p world_group) f t mid new)

  begins-so : (p q : Address) (l after : MemberState S) (u w : View) (start out : Output) → w.members ≡ p ∷ q ∷ [] → same_address q p ≡ false
      → BeginsAndGoesOn meaning (who p world_group) w (in_step (merged p u l) start) (in_step after out) → Meeting p q l after w
  begins-so p q l after u w start out two other x =
      let r = report_in (merged p u l) in
      let f = begun_with p w r in
      let has : x.mid.member.flush ≡ Some f = ap (λ (z : MemberState S). z.flush) x.begins.member_state in
      let on : MatchBool (is_complete f) (WholeFlush p f x.mid (in_step after out)) (StaysAs x.mid (in_step after out)) =
      subst (λ (o : Option FlushModel). MatchOption o (StaysAs x.mid (in_step after out)) (λ g. MatchBool (is_complete g) (WholeFlush p g x.mid (in_step after out)) (StaysAs x.mid (in_step after out)))) has x.goes_on in
      let stays : StaysAs x.mid (in_step after out) = when-false (is_complete f) _ _ (awaits-other p q w r two other) on in
      record {
        report = r;
        flush = ap (λ (z : MemberState S). z.flush) stays.0 ∙ has;
        promise = ap (λ (z : MemberState S). z.promise) (stays.0 ∙ x.begins.member_state);
      }

  meets : (p q : Address) (l after : MemberState S) (v u : View) (start out : Output) → view_in l.view_state ≡ Some v → v.members ≡ p ∷ [] → l.promise.proposal ≡ Some v → l.promise.is_installed ≡ true → is_some l.view_state ≡ true
      → u.members ≡ q ∷ [] → same_address q p ≡ false → nat_eq p.node q.node ≡ false → is_less q p ≡ false → NotesNobody l.notes → max v.id.counter (max l.notes.heard u.id.counter) < GREATEST_NUMBER
      → OnMerge meaning (who p world_group) q u (in_step l start) (in_step after out) → Meeting p q l after (meeting p q (max v.id.counter (max l.notes.heard u.id.counter) + 1))
  meets p q l after v u start out inside only promise opened some alone other apart greater nobody room x =
      let n = max l.notes.heard u.id.counter in
      let first : MatchBool (leads_now p l) (Meets meaning (who p world_group) q u (in_step l start) (in_step after out)) _ =
      when-true (is_some l.view_state && not (has_member q l)) _ _ (and_from (is_some l.view_state) (not (has_member q l)) some (ap not (has-not p q l v inside only other))) x in
      let second : Meets meaning (who p world_group) q u (in_step l start) (in_step after out) = when-true (leads_now p l) _ _ (leads-there p l v inside only) first in
      let third : Regroups meaning (who p world_group) (in_step (merged p u l) start) (in_step after out) = when-false (is_less q p) _ _ greater second in
      let empty : l.notes ≡ record { suspects = []; joiners = []; merging = []; heard = l.notes.heard } =
      λ i. record { suspects = nobody.suspects i; joiners = nobody.joiners i; merging = nobody.merging i; heard = l.notes.heard } in
      let notes : (merged p u l).notes ≡ with_other q n =
      ap (λ (o : Option View). option_map_or (λ (w : View). noting_view p w.members u l.notes) o l.notes) inside ∙ ap (λ (m : List Address). noting_view p m u l.notes) only ∙ ap (noting_view p (p ∷ []) u) empty
      ∙ noted-so p q other apart l.notes.heard u alone in
      let due : due_proposal (core_at p l) (merged p u l).notes ≡ Some (meeting p q (max v.id.counter n + 1)) =
      ap (due_proposal (core_at p l)) notes ∙ due-is (core_at p l) v q n other apart inside promise opened only room in
      let fourth : BeginsAndGoesOn meaning (who p world_group) (meeting p q (max v.id.counter n + 1)) (in_step (merged p u l) start) (in_step after out) =
      subst (λ (o : Option View). MatchOption o (StaysAs (in_step (merged p u l) start) (in_step after out)) (λ w. BeginsAndGoesOn meaning (who p world_group) w (in_step (merged p u l) start) (in_step after out))) due third in
      begins-so p q l after u (meeting p q (max v.id.counter n + 1)) start out refl other fourth

  -- ---- then it can complete

  follows : (w : WorldModel S) (v : View) (q : Address) (l : MemberState S) → Stands meaning w q l → is_accept (offered v l.promise) ≡ true → would_follow v q (w.node_states q.node) ≡ true
  follows w v q l x accepts =
      ap (would_follow v q) x.node_state
      ∙ and_from (same_address x.member.address q) _ (ap (λ (a : Address). same_address a q) x.address ∙ same_address-refl q)
      (ap (λ (o : Option (MemberState S)). option_map_or (λ (z : MemberState S). is_connected z && is_accept (offered v z.promise)) o false) x.member_state ∙ and_from (is_connected l) (is_accept (offered v l.promise)) x.connected accepts)

  own-offer : (p q : Address) (n : ℕ) (s : PromiseModel) → s ≡ record { member = p; proposal = Some (meeting p q n); is_installed = false } → is_accept (offered (meeting p q n) s) ≡ true
  own-offer p q n s is = ap (λ (z : PromiseModel). is_accept (offered (meeting p q n) z)) is ∙ rw (same_address-refl p, cmp-self n, cmp-self p.node, cmp-self p.incarnation) refl

  other-offer : (p q : Address) (n : ℕ) (u : View) (s : PromiseModel) → s.member ≡ q → s.proposal ≡ Some u → same_address q p ≡ false → u.id.counter < n → is_accept (offered (meeting p q n) s) ≡ true
  other-offer p q n u s own promise other above = rw (own, promise, other, same_address-refl q, cmp-above n u.id.counter above) refl

  settling-is : (w : WorldModel S) (p : Address) (m : MemberModel S) (l : MemberState S) (f : FlushModel) → w.node_states p.node ≡ Running m → m.member_state ≡ Some l → l.flush ≡ Some f
      → list_all (λ q. would_follow (proposed f) q (w.node_states q.node)) f.members ≡ true → is_complete f ≡ false → settling_at w.node_states p.node ≡ Some (proposed f)
  settling-is w p m l f there state flush all awaits =
      ap (settling_in w.node_states) there ∙ ap (λ (o : Option (MemberState S)). option_and_then (λ (z : MemberState S). option_and_then (followed w.node_states) z.flush) o) state
      ∙ ap (option_and_then (followed w.node_states)) flush
      ∙ cond-true (list_all (λ q. would_follow (proposed f) q (w.node_states q.node)) f.members && not (is_complete f)) (Some (proposed f)) None
      (and_from (list_all (λ q. would_follow (proposed f) q (w.node_states q.node)) f.members) (not (is_complete f)) all (ap not awaits))

  -- LONE VIEWS MEET
  pub lone-views-meet : (old noted : WorldModel S) (p q : Address) → Keeps meaning laws old → HintsAndDelivers meaning p q old noted → IsSomeAnd (settling_at noted.node_states p.node) (λ v. v.members ≡ p ∷ q ∷ [])
  lone-views-meet old noted p q keeps start =
      let l = start.lesser in
      let k = start.greater in
      let hinted = start.hinted in
      let x = start.first in
      let y = start.second in
      let less = start.less in
      let nobody = start.nobody in
      let room = start.room in
      let hint = start.hints in
      let merge = start.delivers in
      let a = alone-is old p l keeps x in
      let b = alone-is old q k keeps y in
      let v = a.view in
      let u = b.view in
      let foreign : same_address p q ≡ false = less-apart p.node q.node p.incarnation q.incarnation less in
      let other : same_address q p ≡ false = same_address-sym q p ∙ foreign in
      let greater : is_less q p ≡ false = less-not p.node q.node p.incarnation q.incarnation less in
      let apart : nat_eq p.node q.node ≡ false = Standing.nodes-apart meaning old p q l k a.stands b.stands other in
      let parted : nat_eq q.node p.node ≡ false = Standing.nodes-apart meaning old q p k l b.stands a.stands foreign in
      let h = Standing.hinted meaning old hinted q k p b.stands hint.step hint.whole in
      let m = packet q (bodies.Merge u) p in
      let grows : Grows world_group h.start h.out (m ∷ []) [] =
      subst (λ (o : Option View). Grows world_group h.start h.out (option_map_or (λ (w : View). packet q (bodies.Merge w) p ∷ []) o []) []) (announced-view p q k u b.inside b.only y.not_blocked foreign) h.announces.grows in
      let puts : hinted.history.pool ≡ old.history.pool ++ bytes_for world_group (m ∷ []) =
      h.puts ∙ ap (λ (ps : List (List ℕ)). old.history.pool ++ ps) (put-out h.start h.out h.nothing (m ∷ []) [] grows) in
      let next : AreNext (length old.history.pool) (m ∷ []) hinted.history.pool = subst (AreNext (length old.history.pool) (m ∷ [])) (sym puts) (put-next old.history.pool (m ∷ [])) in
      let to : Standing.IsFor meaning hinted (length old.history.pool + 1) p m =
      record { there = next-first (length old.history.pool) m [] hinted.history.pool next; sound = grows.sound.0; goes = refl; other = other } in
      let here = Standing.stands-still meaning old p l a.stands hinted q parted h.others in
      let kept = KeepOfWorlds.step-keeps meaning laws old hinted (MergeHint q.node p) hint.step keeps in
      let d = sure (lacks_memory merge.step.answer) merge.whole (Standing.heard meaning laws hinted noted kept (length old.history.pool + 1) p l here m to merge.step) in
      let counters : max v.id.counter (max l.notes.heard u.id.counter) < GREATEST_NUMBER =
      subst (λ (c : ℕ). max v.id.counter (max l.notes.heard c) < GREATEST_NUMBER) (ap (λ (o : Option View). option_map_or (λ (w : View). w.id.counter) o 0) b.inside)
      (subst (λ (c : ℕ). max c (max l.notes.heard (counter_in k)) < GREATEST_NUMBER) (ap (λ (o : Option View). option_map_or (λ (w : View). w.id.counter) o 0) a.inside) room) in
      let n = max v.id.counter (max l.notes.heard u.id.counter) + 1 in
      let z = meets p q l d.after v u d.start d.out a.inside a.only a.promise x.not_blocked a.some b.only other apart greater nobody counters d.hears in
      let f = begun_with p (meeting p q n) z.report in
      let still = Standing.stands-still meaning hinted q k h.stands noted p apart d.others in
      let mine : would_follow (meeting p q n) p (noted.node_states p.node) ≡ true =
      follows noted (meeting p q n) p d.after d.stands (own-offer p q n d.after.promise (z.promise ∙ ap (λ (c : Address). record { member = c; proposal = Some (meeting p q n); is_installed = false }) a.own)) in
      let above : u.id.counter < n = omega arith in
      let theirs : would_follow (meeting p q n) q (noted.node_states q.node) ≡ true = follows noted (meeting p q n) q k still (other-offer p q n u k.promise b.own b.promise other above) in
      let all : list_all (λ c. would_follow (proposed f) c (noted.node_states c.node)) f.members ≡ true =
      and_from (would_follow (meeting p q n) p (noted.node_states p.node)) _ mine (and_from (would_follow (meeting p q n) q (noted.node_states q.node)) true theirs refl) in
      subst (λ (o : Option View). IsSomeAnd o (λ (w : View). w.members ≡ p ∷ q ∷ []))
      (sym (settling-is noted p d.stands.member d.after f d.stands.node_state d.stands.member_state z.flush all (awaits-other p q (meeting p q n) z.report refl other))) refl

  -- and come into one view
  pub lone-views-join : (old noted new : WorldModel S) (p q : Address) → Keeps meaning laws old → HintsAndDelivers meaning p q old noted → Settles meaning p.node noted new
      → (v : View) × (v.members ≡ p ∷ q ∷ []) × IsSettled v new.history.trace
  lone-views-join old noted new p q keeps start settles = by (settling_at noted.node_states p.node) refl (lone-views-meet old noted p q keeps start)
    where
      kept : Keeps meaning laws noted
      kept = KeepOfWorlds.step-keeps meaning laws start.hinted noted (Deliver (length old.history.pool + 1)) start.delivers.step (KeepOfWorlds.step-keeps meaning laws old start.hinted (MergeHint q.node p) start.hints.step keeps)

      by : (o : Option View) → settling_at noted.node_states p.node ≡ o → IsSomeAnd o (λ v. v.members ≡ p ∷ q ∷ []) → (v : View) × (v.members ≡ p ∷ q ∷ []) × IsSettled v new.history.trace
      by None at x = absurd x
      by (Some v) at x = (v, x, settled meaning laws noted new p.node v kept at settles)
