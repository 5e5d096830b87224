-- Two rounds make a flush that is behind one that all of its list would follow: the second asks the one that has promised furthest.
use Rattle.std.proofs.Common.{◌≡◌, ◌≤◌, ℕ, ◌+◌, ◌<◌, max, Bool, true, false, cond, not, Option, Some, None, List, [], ◌∷◌, length, is_some, nat_eq, nat_lt, refl, sym, ap, ◌∙◌, subst, arith}
use Rattle.std.specs.Prelude.{◌&&◌, ◌||◌, MatchOption, fold, if◌then◌else◌}
use Rattle.std.specs.List.{list_all}
use Rattle.std.specs.Ordering.{nat_cmp}
use Rattle.std.specs.declared.cmp.Ordering.TheVariants.{Equal}
use Rattle.std.specs.Option.{ForSome, option_map, option_map_or, option_and_then}
use Rattle.std.proofs.lemmas.Bool.{and_from, cond-true, cond-false, eqb-true}
use Rattle.std.proofs.lemmas.Bool.Decides.{nat_tests}
use Rattle.std.proofs.lemmas.Option.{none-some, same_Some, cond_some, option_and_then_some}
use Rattle.address.specs.Ids.{Address, same_address}
use Rattle.address.proofs.SameIds.{same_address-refl, same_address-sym, same_address-true}
use Rattle.address.specs.declared.limits.TheConstants.{GREATEST_NUMBER}
use Rattle.view.specs.Members.{View, stands_in}
use Rattle.view.proofs.MembersListed.{all-by}
use Rattle.next_view.specs.ViewNotes.{NotesModel, having_heard}
use Rattle.next_view.specs.Candidates.{candidates, next_counter}
use Rattle.state_transfer.specs.Meanings.{Meaning}
use Rattle.flush.specs.Flushes.{FlushModel, has_reported, is_awaited}
use Rattle.view_install.specs.Promises.{PromiseModel, offered, is_accept}
use Rattle.law_acts.specs.Acts.{proposed}
use Rattle.law_acts.specs.Decisions.{proposal_after, promised_counter}
use Rattle.law_acts.proofs.KeepBySteps
use Rattle.traffic.specs.declared.view_state.ViewState.{ViewState}
use Rattle.membership.specs.declared.member_state.MemberState.{MemberState}
use Rattle.membership.specs.MemberStates.{core_of as core_at, view_in, is_connected, is_complete, begun_with, anew_proposal}
use Rattle.member.specs.Members.{MemberModel}
use Rattle.world_model.specs.declared.WorldEvent.TheVariants.{Deliver, Tick}
use Rattle.world.specs.declared.node_state.NodeState.{NodeState}
use Rattle.world.specs.declared.node_state.NodeState.TheVariants.{Running}
use Rattle.world.specs.Pools.{first_for}
use Rattle.world.specs.Turns.{OthersStand}
use Rattle.world.specs.Worlds.{WorldModel}
use Rattle.world.specs.Plays.{Plays}
use Rattle.world.proofs.Standing
use Rattle.world.proofs.Standing.{Stands}
use Rattle.world.specs.Settles.{would_follow, followed, settling_in, settling_at, Settles, IsSettled}
use Rattle.world.specs.LowProposals.{told, past_in, promised_past, raised_at, Raises, further, furthest, asked_of, asked_in, asked_at, beyond, beyond_all, followed_by_all, overtaking_at, Overtakes}
use Rattle.world.proofs.SettlingsSettle
use Rattle.world.proofs.RoundRaises
use Rattle.world.proofs.RoundRaises.{lt-from, when-there, reported-alone, begun-awaits, tells-accepts, tells-none, Anew, Low, Rose}
use Rattle.world.proofs.StageOfFlushes.{Keeps}

-- ---- the one of a list that has promised furthest

furthest-same : (one two : Address → Option ℕ) (list : List Address) (best : Option (Address × ℕ)) → ((p : Address) → stands_in p list ≡ true → one p ≡ two p) → fold (further one) best list ≡ fold (further two) best list
furthest-same one two [] best same = refl
furthest-same one two (q ∷ list) best same =
    let first : further one best q ≡ further two best q =
    ap (λ (o : Option ℕ). option_map_or (λ k. if option_map_or (λ (b : Address × ℕ). nat_lt k b.1) best false then best else Some (q, k)) o best) (same q (ap (λ (b : Bool). b || stands_in q list) (same_address-refl q))) in
    ap (λ (b : Option (Address × ℕ)). fold (further one) b list) first ∙ furthest-same one two list (further two best q) (λ p there. same p (later p (same_address p q) there))
  where
    later : (p : Address) (b : Bool) → stands_in p list ≡ true → b || stands_in p list ≡ true
    later p true there = refl
    later p false there = there

-- it stands in the list, and has promised so far
pub record IsOne (past : Address → Option ℕ) (whole : List Address) (x : Address × ℕ) : Type 0 where
  pub there : stands_in x.0 whole ≡ true
  pub tells : past x.0 ≡ Some x.1

furthest-one : (past : Address → Option ℕ) (whole list : List Address) (best : Option (Address × ℕ)) → ((p : Address) → stands_in p list ≡ true → stands_in p whole ≡ true) → ForSome best (IsOne past whole)
    → ForSome (fold (further past) best list) (IsOne past whole)
furthest-one past whole [] best within one = one
furthest-one past whole (q ∷ list) best within one =
    furthest-one past whole list (further past best q) (λ p there. within p (later p (same_address p q) there)) (next (past q) refl)
  where
    later : (p : Address) (b : Bool) → stands_in p list ≡ true → b || stands_in p list ≡ true
    later p true there = refl
    later p false there = there

    mine : (k : ℕ) → past q ≡ Some k → ForSome (Some (q, k)) (IsOne past whole)
    mine k e x at = subst (IsOne past whole) (same_Some (q, k) x at) (record { there = within q (ap (λ (b : Bool). b || stands_in q list) (same_address-refl q)); tells = e })

    pick : (b : Bool) (k : ℕ) → past q ≡ Some k → ForSome (cond b best (Some (q, k))) (IsOne past whole)
    pick true k e = one
    pick false k e = mine k e

    next : (o : Option ℕ) → past q ≡ o → ForSome (option_map_or (λ k. if option_map_or (λ (b : Address × ℕ). nat_lt k b.1) best false then best else Some (q, k)) o best) (IsOne past whole)
    next None e = one
    next (Some k) e = pick (option_map_or (λ (b : Address × ℕ). nat_lt k b.1) best false) k e

pub furthest-is : (past : Address → Option ℕ) (list : List Address) (x : Address × ℕ) → furthest past list ≡ Some x → IsOne past list x
furthest-is past list x e = furthest-one past list list None (λ p there. there) (λ y at. absurd (none-some y at)) x e

-- ---- all of a list

pub all-there : (test : Address → Bool) (list : List Address) → ((p : Address) → stands_in p list ≡ true → test p ≡ true) → list_all test list ≡ true
all-there test [] each = refl
all-there test (q ∷ list) each =
    and_from (test q) (list_all test list) (each q (ap (λ (b : Bool). b || stands_in q list) (same_address-refl q))) (all-there test list (λ p there. each p (later p (same_address p q) there)))
  where
    later : (p : Address) (b : Bool) → stands_in p list ≡ true → b || stands_in p list ≡ true
    later p true there = refl
    later p false there = there

pub lt-true : (a b : ℕ) → a < b → nat_lt a b ≡ true
lt-true a b e = grind (arith, nat_tests)

cmp-self : (n : ℕ) → nat_cmp n n ≡ Equal
cmp-self n = grind (arith, nat_tests)

-- who has promised a proposal would accept it
own-accepts : (w : View) (me : Address) → stands_in me w.members ≡ true → is_accept (offered w (record { member = me; proposal = Some w; is_installed = false })) ≡ true
own-accepts w me listed = rw (listed, cmp-self w.id.counter, cmp-self w.id.creator.node, cmp-self w.id.creator.incarnation) refl

-- ---- a proposal past a counter

pub beyond-is : (k : ℕ) (w u : View) → beyond k w ≡ Some u → (max w.id.counter k < GREATEST_NUMBER) × (record { id = record { counter = max w.id.counter k + 1; creator = w.id.creator }; members = w.members } ≡ u)
beyond-is k w u e =
    let x = cond_some (nat_lt (max w.id.counter k) GREATEST_NUMBER) (record { id = record { counter = max w.id.counter k + 1; creator = w.id.creator }; members = w.members }) u e in
    (lt-from (max w.id.counter k) GREATEST_NUMBER x.0, x.1)

module _ {S : Type 0} (meaning : Meaning S) (laws : KeepBySteps.Laws meaning) where
  -- ---- after a round, the flush can complete if all of its list would follow it

  -- the others stand as they did before
  pub record Before (before new : WorldModel S) (c : Address) : Type 0 where
    pub keeps : Keeps meaning laws before
    pub member_state : MemberState S
    pub stood : Stands meaning before c member_state
    pub others : OthersStand c.node before.node_states new.node_states

  settles-then : (before old new : WorldModel S) (n : ℕ) (q : Address) (w : View) (x : Low meaning laws old n q w) → Rose meaning laws old new n q w x → Before before new x.member.address
      → list_all (λ p. would_follow w p (before.node_states p.node)) w.members ≡ true → settling_at new.node_states n ≡ Some w
  settles-then before old new n q w x y z all =
      let whole : list_all (λ p. would_follow w p (new.node_states p.node)) w.members ≡ true =
      all-there (λ p. would_follow w p (new.node_states p.node)) w.members (λ p listed. by p (same_address p c) refl (all-by (λ a. would_follow w a (before.node_states a.node)) w.members p all listed)) in
      ap (settling_at new.node_states) (sym y.node) ∙ ap (settling_in new.node_states) y.stands.node_state
      ∙ ap (λ (o : Option (MemberState S)). option_and_then (λ (a : MemberState S). option_and_then (followed new.node_states) a.flush) o) y.stands.member_state
      ∙ ap (option_and_then (followed new.node_states)) y.flush
      ∙ cond-true (list_all (λ p. would_follow w p (new.node_states p.node)) w.members && not (is_complete (begun_with c w y.report))) (Some w) None
      (and_from (list_all (λ p. would_follow w p (new.node_states p.node)) w.members) (not (is_complete (begun_with c w y.report))) whole (ap not (begun-awaits c q w y.report x.listed y.other)))
    where
      c : Address
      c = x.member.address

      mine : would_follow w x.member.address (new.node_states x.member.address.node) ≡ true
      mine =
          let lives = Standing.lives meaning new x.member.address y.after y.stands laws y.keeps in
          let s = y.after.promise in
          let promised : s.proposal ≡ Some w = ap (λ (a : PromiseModel). a.proposal) y.promise in
          let listed : stands_in s.member w.members ≡ true = ap (λ (p : Address). stands_in p w.members) lives.own ∙ lives.listed w promised in
          let is : s ≡ record { member = s.member; proposal = Some w; is_installed = false } = λ i. record { member = s.member; proposal = promised i; is_installed = ap (λ (a : PromiseModel). a.is_installed) y.promise i } in
          RoundRaises.follows meaning laws new w x.member.address y.after y.stands (ap (λ (a : PromiseModel). is_accept (offered w a)) is ∙ own-accepts w s.member listed)

      by : (p : Address) (b : Bool) → same_address p x.member.address ≡ b → would_follow w p (before.node_states p.node) ≡ true → would_follow w p (new.node_states p.node) ≡ true
      by p true e follows = subst (λ (a : Address). would_follow w a (new.node_states a.node) ≡ true) (sym (same_address-true p x.member.address e)) mine
      by p false e follows =
          let a = SettlingsSettle.follower meaning laws before w p z.keeps follows in
          let apart = Standing.nodes-apart meaning before x.member.address p z.member_state a.member_state z.stood a.stands e in
          ap (would_follow w p) (z.others p.node apart) ∙ follows

  -- ---- whom the second round asks

  promised-none : (w : View) (p : Address) (s : NodeState S) (m : MemberModel S) → s ≡ Running m → same_address m.address p ≡ false → promised_past w p s ≡ None
  promised-none w p s m there other = ap (promised_past w p) there ∙ cond-false (same_address m.address p) (option_and_then (past_in w) m.member_state) None other

  -- its own promise is not past its own proposal
  own-none : (old : WorldModel S) (w u : View) (c : Address) (l : MemberState S) → Stands meaning old c l → l.promise.proposal ≡ Some u → u.id.counter < w.id.counter → promised_past w c (old.node_states c.node) ≡ None
  own-none old w u c l x promise above =
      ap (promised_past w c) x.node_state ∙ cond-true (same_address x.member.address c) (option_and_then (past_in w) x.member.member_state) None (ap (λ (a : Address). same_address a c) x.address ∙ same_address-refl c)
      ∙ ap (option_and_then (past_in w)) x.member_state ∙ cond-true (is_connected l) (told (offered w l.promise)) None x.connected ∙ tells-none w u l.promise promise above

  module _ (old mid : WorldModel S) (n : ℕ) (q : Address) (w : View) (x : Low meaning laws old n q w) (y : Rose meaning laws old mid n q w x) where
    abbrev creator : Address
    creator = x.member.address

    abbrev flush : FlushModel
    flush = begun_with creator w y.report

    -- what each tells of the new proposal, as it stood
    abbrev pub before : Address → Option ℕ
    before p = promised_past w p (old.node_states p.node)

    abbrev now : Address → Option ℕ
    now p = if is_awaited p flush then promised_past w p (mid.node_states p.node) else None

    counter-is : max x.flush.proposal.counter (max x.member_state.notes.heard x.counter) + 1 ≡ w.id.counter
    counter-is = ap (λ (u : View). u.id.counter) y.anew.is

    low-now : x.flush.proposal.counter < w.id.counter
    low-now = let e = counter-is in omega (arith, e)

    pub same-now : (p : Address) → stands_in p w.members ≡ true → now p ≡ before p
    same-now p listed = by (same_address p creator) refl
      where
        elsewhere : (b : Bool) → nat_eq creator.node p.node ≡ b → same_address p creator ≡ false → promised_past w p (mid.node_states p.node) ≡ promised_past w p (old.node_states p.node)
        elsewhere false e other = ap (promised_past w p) (y.others p.node e)
        elsewhere true e other =
            let node : creator.node ≡ p.node = eqb-true creator.node p.node e in
            let turned : same_address creator p ≡ false = same_address-sym creator p ∙ other in
            promised-none w p (mid.node_states p.node) y.stands.member (ap (λ (j : ℕ). mid.node_states j) (sym node) ∙ y.stands.node_state) (ap (λ (a : Address). same_address a p) y.stands.address ∙ turned)
            ∙ sym (promised-none w p (old.node_states p.node) y.stood.member (ap (λ (j : ℕ). old.node_states j) (sym node) ∙ y.stood.node_state) (ap (λ (a : Address). same_address a p) y.stood.address ∙ turned))

        by : (b : Bool) → same_address p creator ≡ b → now p ≡ before p
        by true e =
            let is : p ≡ creator = same_address-true p creator e in
            let none : is_awaited p flush ≡ false =
            ap (λ (b : Bool). b && not (has_reported p flush.reports)) listed ∙ ap not (reported-alone creator p w y.report ∙ e) in
            cond-false (is_awaited p flush) (promised_past w p (mid.node_states p.node)) None none
            ∙ sym (subst (λ (a : Address). promised_past w a (old.node_states a.node) ≡ None) (sym is) (own-none old w (proposed x.flush) creator x.member_state y.stood y.flushing.promise low-now))
        by false e =
            cond-true (is_awaited p flush) (promised_past w p (mid.node_states p.node)) None
            (and_from (stands_in p w.members) (not (has_reported p flush.reports)) listed (ap not (reported-alone creator p w y.report ∙ e)))
            ∙ elsewhere (nat_eq creator.node p.node) refl e

    pub asked-then : asked_at mid.node_states n ≡ option_map (λ a. a.0) (furthest before w.members)
    asked-then =
        let m = y.stands.member in
        let view = y.anew.view in
        let pick : Address → NotesModel → Option Address = λ p b. option_map (λ a. a.0) (furthest now (candidates p view.members b)) in
        ap (asked_at mid.node_states) (sym y.node) ∙ ap (asked_in mid.node_states) y.stands.node_state
        ∙ ap (option_and_then (λ (l : MemberState S). option_and_then (λ f. option_and_then (asked_of mid.node_states m.address l f) (view_in l.view_state)) l.flush)) y.stands.member_state
        ∙ ap (option_and_then (λ f. option_and_then (asked_of mid.node_states m.address y.after f) (view_in y.after.view_state))) y.flush
        ∙ ap (λ (t : Option ViewState). option_and_then (asked_of mid.node_states m.address y.after flush) (view_in t)) y.view_state
        ∙ ap (option_and_then (asked_of mid.node_states m.address y.after flush)) y.anew.inside
        ∙ ap (λ (p : Address). pick p y.after.notes) y.stands.address ∙ ap (pick creator) y.notes
        ∙ ap (λ (u : View). option_map (λ (a : Address × ℕ). a.0) (furthest now u.members)) y.anew.is
        ∙ ap (option_map (λ (a : Address × ℕ). a.0)) (furthest-same now before w.members None same-now)

    -- what it proposes anew then
    anew-then : (k : ℕ) (u : View) → beyond k w ≡ Some u → anew_proposal y.stands.member.address (record (y.after) { notes = having_heard k y.after.notes }) ≡ Some u
    anew-then k u e =
        let m = y.stands.member in
        let view = y.anew.view in
        let z = beyond-is k w u e in
        let l = record (y.after) { notes = having_heard k y.after.notes } in
        let go : Address → Option View → NotesModel → Option View = λ p o b.
        option_map (λ j. record { id = record { counter = j; creator = p }; members = candidates p view.members (having_heard k b) }) (next_counter (promised_counter o) (having_heard k b)) in
        let heard = max x.member_state.notes.heard x.counter in
        let more : max w.id.counter (max heard k) ≡ max w.id.counter k = let c = counter-is in omega (arith, c) in
        let room : max w.id.counter (max heard k) < GREATEST_NUMBER = subst (λ (j : ℕ). j < GREATEST_NUMBER) (sym more) z.0 in
        let make : ℕ → View = λ j. record { id = record { counter = j; creator = creator }; members = candidates creator view.members x.member_state.notes } in
        ap (option_and_then (λ v. if is_some l.flush then proposal_after (core_at m.address l) l.notes v else None)) (ap view_in y.view_state ∙ y.anew.inside)
        ∙ cond-true (is_some y.after.flush) (go m.address y.after.promise.proposal y.after.notes) None (ap is_some y.flush)
        ∙ ap (λ (p : Address). go p y.after.promise.proposal y.after.notes) y.stands.address
        ∙ ap (λ (s : PromiseModel). go creator s.proposal y.after.notes) y.promise
        ∙ ap (go creator (Some w)) y.notes
        ∙ ap (option_map make) (cond-true (nat_lt (max w.id.counter (max heard k)) GREATEST_NUMBER) (Some (max w.id.counter (max heard k) + 1)) None (lt-true (max w.id.counter (max heard k)) GREATEST_NUMBER room))
        ∙ ap (λ (j : ℕ). Some (make (j + 1))) more
        ∙ ap (λ (v : View). Some (record { id = record { counter = max w.id.counter k + 1; creator = v.id.creator }; members = v.members })) y.anew.is
        ∙ ap Some z.1

    -- its flush is behind once more
    pub low-then : (a : Address × ℕ) (u : View) → furthest before w.members ≡ Some a → beyond a.1 w ≡ Some u → (d : Low meaning laws mid n a.0 u) × (d.member.address ≡ creator)
    low-then a u top e =
        let one = furthest-is before w.members a top in
        let tells = when-there (is_awaited a.0 flush) (promised_past w a.0 (mid.node_states a.0.node)) a.1 (same-now a.0 one.there ∙ one.tells) in (
          record {
            member = y.stands.member;
            node_state = ap (λ (j : ℕ). mid.node_states j) (sym y.node) ∙ y.stands.node_state;
            member_state = y.after;
            state = y.stands.member_state;
            flush = flush;
            runs = y.flush;
            awaited = tells.0;
            counter = a.1;
            past = tells.1;
            anew = anew-then a.1 u e;
            listed = subst (λ (v : View). stands_in a.0 v.members ≡ true) (beyond-is a.1 w u e).1 one.there;
          },
          y.stands.address,
        )

  -- ---- both rounds

  -- the view that two rounds come to, from the test
  pub record Sees (w : WorldModel S) (n : ℕ) (v : View) : Type 0 where
    pub q : Address
    pub asked : asked_at w.node_states n ≡ Some q
    pub first : View
    pub raised : raised_at w.node_states n q ≡ Some first
    pub last : beyond_all w.node_states first ≡ Some v
    pub all : list_all (λ p. would_follow v p (w.node_states p.node)) v.members ≡ true

  pub sees : (w : WorldModel S) (n : ℕ) (v : View) → overtaking_at w.node_states n ≡ Some v → Sees w n v
  sees w n v e =
      let at = w.node_states in
      option_and_then_some (followed_by_all at) (option_and_then (beyond_all at) (option_and_then (raised_at at n) (asked_at at n))) v e
      (λ u some tested.
      let z = cond_some (list_all (λ p. would_follow u p (at p.node)) u.members) u v tested in
      option_and_then_some (beyond_all at) (option_and_then (raised_at at n) (asked_at at n)) u some
      (λ first there last. option_and_then_some (raised_at at n) (asked_at at n) first there
      (λ q asked raised. record {
        q = q;
        asked = asked;
        first = first;
        raised = raised;
        last = last ∙ ap Some z.1;
        all = subst (λ (a : View). list_all (λ p. would_follow a p (at p.node)) a.members ≡ true) z.1 z.0;
      })))

  -- TWO ROUNDS: then the flush can complete
  pub overtakes : (old new : WorldModel S) (n : ℕ) (v : View) → Keeps meaning laws old → overtaking_at old.node_states n ≡ Some v → Overtakes meaning n old new
      → (settling_at new.node_states n ≡ Some v) × Keeps meaning laws new
  overtakes old new n v keeps at x =
      let s = sees old n v at in
      let mid = x.raised in
      let round : Raises meaning n s.q old mid = subst (λ (o : Option Address). MatchOption o (mid ≡ old) (λ q. Raises meaning n q old mid)) s.asked x.first in
      let a = RoundRaises.low meaning laws old n s.q s.first s.raised in
      let y = RoundRaises.rises meaning laws old mid n s.q s.first keeps a round in
      by s a y (furthest (λ p. promised_past s.first p (old.node_states p.node)) s.first.members) refl
      (subst (λ (o : Option Address). MatchOption o (new ≡ mid) (λ q. Raises meaning n q mid new)) (asked-then old mid n s.q s.first a y) x.second)
    where
      by : (s : Sees old n v) (a : Low meaning laws old n s.q s.first) (y : Rose meaning laws old x.raised n s.q s.first a) (o : Option (Address × ℕ)) → furthest (λ p. promised_past s.first p (old.node_states p.node)) s.first.members ≡ o
          → MatchOption (option_map (λ (b : Address × ℕ). b.0) (furthest (λ p. promised_past s.first p (old.node_states p.node)) s.first.members)) (new ≡ x.raised) (λ q. Raises meaning n q x.raised new)
          → (settling_at new.node_states n ≡ Some v) × Keeps meaning laws new
      by s a y None top second =
          let still : new ≡ x.raised = subst (λ (o : Option (Address × ℕ)). MatchOption (option_map (λ (b : Address × ℕ). b.0) o) (new ≡ x.raised) (λ q. Raises meaning n q x.raised new)) top second in
          let is : s.first ≡ v = same_Some s.first v (sym (ap (λ (o : Option (Address × ℕ)). option_map_or (λ b. beyond b.1 s.first) o (Some s.first)) top) ∙ s.last) in
          let all = subst (λ (u : View). list_all (λ p. would_follow u p (old.node_states p.node)) u.members ≡ true) (sym is) s.all in
          let z = settles-then old old x.raised n s.q s.first a y (record { keeps = keeps; member_state = a.member_state; stood = y.stood; others = y.others }) all in
          (ap (λ (w : WorldModel S). settling_at w.node_states n) still ∙ z ∙ ap Some is, subst (Keeps meaning laws) (sym still) y.keeps)
      by s a y (Some b) top second =
          let round : Raises meaning n b.0 x.raised new =
          subst (λ (o : Option (Address × ℕ)). MatchOption (option_map (λ (d : Address × ℕ). d.0) o) (new ≡ x.raised) (λ q. Raises meaning n q x.raised new)) top second in
          let last : beyond b.1 s.first ≡ Some v = sym (ap (λ (o : Option (Address × ℕ)). option_map_or (λ d. beyond d.1 s.first) o (Some s.first)) top) ∙ s.last in
          let d = low-then old x.raised n s.q s.first a y b v top last in
          let z = RoundRaises.rises meaning laws x.raised new n b.0 v y.keeps d.0 round in
          let c : d.0.member.address ≡ a.member.address = d.1 in
          let others : OthersStand a.member.address.node old.node_states new.node_states = λ m away.
          z.others m (ap (λ (p : Address). nat_eq p.node m) c ∙ away) ∙ y.others m away in
          let now : Before old new d.0.member.address = record {
            keeps = keeps;
            member_state = a.member_state;
            stood = subst (λ (p : Address). Stands meaning old p a.member_state) (sym c) y.stood;
            others = subst (λ (p : Address). OthersStand p.node old.node_states new.node_states) (sym c) others;
          } in
          (settles-then old x.raised new n b.0 v d.0 z now s.all, z.keeps)

  -- so a settling completes it
  pub overtakes-settle : (old mid new : WorldModel S) (n : ℕ) (v : View) → Keeps meaning laws old → overtaking_at old.node_states n ≡ Some v → Overtakes meaning n old mid → Settles meaning n mid new → IsSettled v new.history.trace
  overtakes-settle old mid new n v keeps at x settles =
      let y = overtakes old mid n v keeps at x in
      SettlingsSettle.settled meaning laws mid new n v y.1 y.0 settles

  -- ---- how many events these are

  one-few : (old new : WorldModel S) (o : Option ℕ) → MatchOption o (new ≡ old) (λ k. Plays meaning old (Deliver k) new) → length new.history.events ≤ length old.history.events + 1
  one-few old new None same =
      let e : length new.history.events ≡ length old.history.events = ap (λ (w : WorldModel S). length w.history.events) same in
      omega (arith, e)
  one-few old new (Some k) plays =
      let e = SettlingsSettle.adds meaning laws old new (Deliver k) plays in
      omega (arith, e)

  round-few : (old new : WorldModel S) (n : ℕ) (q : Address) → Raises meaning n q old new → length new.history.events ≤ length old.history.events + 3
  round-few old new n q x =
      let a = SettlingsSettle.adds meaning laws old x.announced (Tick n) x.ticks in
      let b = one-few x.announced x.answered (first_for q (length old.history.pool) x.announced.history.pool) x.flush in
      let c = SettlingsSettle.adds meaning laws x.answered new (Deliver (length x.answered.history.pool)) x.behind in
      omega (arith, a, b, c)

  if-few : (old new : WorldModel S) (n : ℕ) (o : Option Address) → MatchOption o (new ≡ old) (λ q. Raises meaning n q old new) → length new.history.events ≤ length old.history.events + 3
  if-few old new n None same =
      let e : length new.history.events ≡ length old.history.events = ap (λ (w : WorldModel S). length w.history.events) same in
      omega (arith, e)
  if-few old new n (Some q) x = round-few old new n q x

  pub overtakes-brief : (old mid new : WorldModel S) (n : ℕ) (v : View) → Keeps meaning laws old → overtaking_at old.node_states n ≡ Some v → Overtakes meaning n old mid → Settles meaning n mid new
      → length new.history.events ≤ length old.history.events + 532
  overtakes-brief old mid new n v keeps at x settles =
      let y = overtakes old mid n v keeps at x in
      let a = if-few old x.raised n (asked_at old.node_states n) x.first in
      let b = if-few x.raised mid n (asked_at x.raised.node_states n) x.second in
      let c = SettlingsSettle.brief meaning laws mid new n v y.1 y.0 settles in
      omega (arith, a, b, c)
