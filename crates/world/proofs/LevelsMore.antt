-- All of a view are brought level with its coordinator, one after another.
use Rattle.std.proofs.Common.{◌≡◌, ℕ, ◌+◌, ◌*◌, ◌≤◌, Bool, true, false, List, [], ◌∷◌, ◌++◌, length, inl, inr, ◌⊎◌, refl, sym, ap, ◌∙◌, subst, arith}
use Rattle.std.proofs.lemmas.List.{length-append}
use Rattle.address.specs.Ids.{Address, ViewId, same_address}
use Rattle.view.specs.Members.{stands_in}
use Rattle.state_transfer.specs.Meanings.{Meaning}
use Rattle.law_acts.proofs.KeepBySteps
use Rattle.traffic.specs.declared.coordinator.Coordinator.{Coordinator}
use Rattle.traffic.specs.declared.follower.Follower.{Follower}
use Rattle.traffic.specs.declared.view_state.ViewState.TheVariants as kinds
use Rattle.membership.specs.declared.member_state.MemberState.{MemberState}
use Rattle.world.specs.Gaps.{CatchesUp}
use Rattle.world.specs.Calm.{pair_with, AllLevel}
use Rattle.world.specs.Calm.AllLevel.{NobodyLevels, NextLevels}
use Rattle.std.specs.Prelude.{MatchBool}
use Rattle.traffic.specs.declared.view_state.ViewState.{ViewState}
use Rattle.address.proofs.SameIds.{same_address-true}
use Rattle.world.proofs.Groups
use Rattle.world.proofs.HearsAll
use Rattle.world.proofs.HearsAll.{before-or-last, in-front, at-last}
use Rattle.world.specs.Worlds.{WorldModel}
use Rattle.world.proofs.BroughtLevel
use Rattle.world.proofs.CatchUpEnds
use Rattle.world.proofs.CatchUpLevels
use Rattle.world.proofs.RepliesPlayed
use Rattle.world.proofs.Standing

module _ {S : Type 0} (meaning : Meaning S) (laws : KeepBySteps.Laws meaning) where
  -- ---- all are brought level

  abbrev pub RunsAs : WorldModel S → Address → MemberState S → ViewState → Type 0
  RunsAs w p l t = RepliesPlayed.RunsAs meaning w p l t

  abbrev pub SentBy : WorldModel S → ViewId → Address → ℕ
  SentBy w v q = HearsAll.SentBy meaning laws w v q

  runs-kept : (w new : WorldModel S) (p : Address) (l : MemberState S) (t : ViewState) → RunsAs w p l t → new.node_states p.node ≡ w.node_states p.node → RunsAs new p l t
  runs-kept w new p l t r same = record {
    stands = record { member = r.stands.member; node_state = same ∙ r.stands.node_state; address = r.stands.address; group = r.stands.group; member_state = r.stands.member_state; connected = r.stands.connected };
    view_state = r.view_state;
    installed = r.installed;
  }

  pub record Levelled (old : WorldModel S) (c : Address) (l : MemberState S) (k : Coordinator) (qs : List Address) (w : WorldModel S) : Type 0 where
    pub group : Groups.Group meaning laws w c l k
    pub level : (p : Address) (lp : MemberState S) (kp : Follower) → stands_in p qs ≡ true → same_address p c ≡ false → RunsAs w p lp (kinds.Follower kp)
        → (k.window.delivered ≤ kp.window.delivered) × (k.window.stable ≤ kp.window.stable)
    pub sent : (p : Address) → stands_in p k.view.members ≡ true → SentBy w k.view.id p ≡ SentBy old k.view.id p
    pub brief : length w.history.events ≤ length old.history.events + 67 * length qs

  module _ (old mid new : WorldModel S) (c : Address) (l : MemberState S) (k : Coordinator) (qs : List Address) (q : Address) (s : Levelled old c l k qs mid) (there : stands_in q k.view.members ≡ true) (other : same_address q c ≡ false)
      (lq : MemberState S) (kq : Follower) (r : RunsAs mid q lq (kinds.Follower kq)) (y : BroughtLevel.Brought meaning laws mid new c q l k kq) where
    -- who is another stands as it stood
    unmoved-new : (p : Address) (lp : MemberState S) (t : ViewState) → same_address p c ≡ false → same_address p q ≡ false → RunsAs new p lp t → new.node_states p.node ≡ mid.node_states p.node
    unmoved-new p lp t a b x =
        y.others p.node (Standing.nodes-apart meaning new c p l lp y.couple.first.stands x.stands a) (Standing.nodes-apart meaning new q p y.after lp y.couple.other.stands x.stands b)

    unmoved-mid : (p : Address) (lp : MemberState S) (t : ViewState) → same_address p c ≡ false → same_address p q ≡ false → RunsAs mid p lp t → new.node_states p.node ≡ mid.node_states p.node
    unmoved-mid p lp t a b x =
        y.others p.node (Standing.nodes-apart meaning mid c p l lp s.group.first.stands x.stands a) (Standing.nodes-apart meaning mid q p lq lp r.stands x.stands b)

    group-new : Groups.Group meaning laws new c l k
    group-new = record {
      keeps = y.couple.keeps;
      first = y.couple.first;
      own = s.group.own;
      sound = s.group.sound;
      others = λ p listed apart. by p apart (same_address p q) refl (s.group.others p listed apart);
    }
      where
        by : (p : Address) → same_address p c ≡ false → (b : Bool) → same_address p q ≡ b → Groups.Another meaning laws mid k.view p → Groups.Another meaning laws new k.view p
        by p apart true e a = subst (λ (z : Address). Groups.Another meaning laws new k.view z) (sym (same_address-true p q e)) (record { member_state = y.after; follows = y.now; runs = y.couple.other; view = y.couple.same })
        by p apart false e a = record {
          member_state = a.member_state;
          follows = a.follows;
          runs = runs-kept mid new p a.member_state (kinds.Follower a.follows) a.runs (unmoved-mid p a.member_state (kinds.Follower a.follows) apart e a.runs);
          view = a.view;
        }

    sent-other : (p : Address) → stands_in p k.view.members ≡ true → same_address p c ≡ false → (b : Bool) → same_address p q ≡ b → SentBy new k.view.id p ≡ SentBy mid k.view.id p
    sent-other p listed apart true e =
        subst (λ (z : Address). SentBy new k.view.id z ≡ SentBy mid k.view.id z) (sym (same_address-true p q e))
        ((Groups.facts-other meaning laws new c l k group-new q there other y.after y.now y.couple.other y.couple.same).count ∙ y.sent
        ∙ sym (Groups.facts-other meaning laws mid c l k s.group q there other lq kq r ((same-view r))).count)
      where
        same-view : RunsAs mid q lq (kinds.Follower kq) → kq.view ≡ k.view
        same-view r =
            let a = s.group.others q there other in
            ap (λ (z : Follower). z.view) (HearsAll.one-follower meaning laws mid q lq a.member_state kq a.follows r a.runs) ∙ a.view
    sent-other p listed apart false e =
        let a = s.group.others p listed apart in
        let kept = runs-kept mid new p a.member_state (kinds.Follower a.follows) a.runs (unmoved-mid p a.member_state (kinds.Follower a.follows) apart e a.runs) in
        (Groups.facts-other meaning laws new c l k group-new p listed apart a.member_state a.follows kept a.view).count
        ∙ sym (Groups.facts-other meaning laws mid c l k s.group p listed apart a.member_state a.follows a.runs a.view).count

    sent-any : (p : Address) → stands_in p k.view.members ≡ true → (b : Bool) → same_address p c ≡ b → SentBy new k.view.id p ≡ SentBy mid k.view.id p
    sent-any p listed true e =
        subst (λ (z : Address). SentBy new k.view.id z ≡ SentBy mid k.view.id z) (sym (same_address-true p c e))
        ((Groups.facts meaning laws new c l (kinds.Coordinator k) y.couple.keeps y.couple.first).count ∙ sym (Groups.facts meaning laws mid c l (kinds.Coordinator k) s.group.keeps s.group.first).count)
    sent-any p listed false e = sent-other p listed e (same_address p q) refl

    level-new : (p : Address) (lp : MemberState S) (kp : Follower) → same_address p c ≡ false → RunsAs new p lp (kinds.Follower kp) → (stands_in p qs ≡ true) ⊎ (same_address p q ≡ true) → (b : Bool) → same_address p q ≡ b
        → (k.window.delivered ≤ kp.window.delivered) × (k.window.stable ≤ kp.window.stable)
    level-new p lp kp apart x where_it true e =
        let is : p ≡ q = same_address-true p q e in
        let one : y.now ≡ kp = HearsAll.one-follower meaning laws new q y.after lp y.now kp y.couple.other (subst (λ (z : Address). RunsAs new z lp (kinds.Follower kp)) is x) in
        (subst (λ (z : Follower). k.window.delivered ≤ z.window.delivered) one y.level, subst (λ (z : Follower). k.window.stable ≤ z.window.stable) one y.stable)
    level-new p lp kp apart x (inl before) false e =
        s.level p lp kp before apart (runs-kept new mid p lp (kinds.Follower kp) x (sym (unmoved-new p lp (kinds.Follower kp) apart e x)))
    level-new p lp kp apart x (inr same) false e = absurd (let bad : true ≡ false = sym same ∙ e in cc)

    pub levelled-new : Levelled old c l k (qs ++ q ∷ []) new
    levelled-new = record {
      group = group-new;
      level = λ p lp kp listed apart x. level-new p lp kp apart x (before-or-last p q qs listed) (same_address p q) refl;
      sent = λ p listed. sent-any p listed (same_address p c) refl ∙ s.sent p listed;
      brief = let a = s.brief in let z = y.brief in let e = length-append qs (q ∷ []) in omega (arith, a, z, e);
    }

  -- another member and the coordinator are two whom a catch-up is about
  abbrev pub pair-found : (w : WorldModel S) (c : Address) (l : MemberState S) (k : Coordinator) → Groups.Group meaning laws w c l k → (q : Address) → same_address q c ≡ false → Groups.Another meaning laws w k.view q
      → CatchUpEnds.Found meaning laws w (pair_with meaning k.view.id q)
  pair-found w c l k g q other a = record {
    first = l;
    other = a.member_state;
    leads = k;
    follows = a.follows;
    couple = subst (λ (p : Address). CatchUpLevels.Couple meaning laws w p q l a.member_state k a.follows) (sym g.own) (Groups.couple meaning laws w c l k g q other a);
    id = refl;
  }

  levelled-next : (old mid new : WorldModel S) (c : Address) (l : MemberState S) (k : Coordinator) (qs : List Address) (q : Address) (b : Bool) → same_address q c ≡ b → stands_in q k.view.members ≡ true
      → Levelled old c l k qs mid → MatchBool b (new ≡ mid) (CatchesUp meaning (pair_with meaning k.view.id q) mid new) → Levelled old c l k (qs ++ q ∷ []) new
  levelled-next old mid new c l k qs q true is there s same = subst (λ (z : WorldModel S). Levelled old c l k (qs ++ q ∷ []) z) (sym same) (record {
    group = s.group;
    level = λ p lp kp listed apart x. by p apart (before-or-last p q qs listed) (λ before. s.level p lp kp before apart x);
    sent = s.sent;
    brief = let a = s.brief in let e = length-append qs (q ∷ []) in omega (arith, a, e);
  })
    where
      by : {A : Type 0} (p : Address) → same_address p c ≡ false → (stands_in p qs ≡ true) ⊎ (same_address p q ≡ true) → (stands_in p qs ≡ true → A) → A
      by p other (inl before) f = f before
      by p other (inr e) f = absurd (let bad : true ≡ false = sym is ∙ ap (λ (z : Address). same_address z c) (sym (same_address-true p q e)) ∙ other in cc)
  levelled-next old mid new c l k qs q false is there s catches =
      let a = s.group.others q there is in
      let y = BroughtLevel.brought meaning laws mid new (pair_with meaning k.view.id q) (pair-found mid c l k s.group q is a) catches in
      levelled-new old mid new c l k qs q s there is a.member_state a.follows a.runs (subst (λ (p : Address). BroughtLevel.Brought meaning laws mid new p q l k a.follows) s.group.own y)

  pub all-levelled : (old : WorldModel S) (c : Address) (l : MemberState S) (k : Coordinator) → Groups.Group meaning laws old c l k → (qs : List Address) (new : WorldModel S)
      → ((q : Address) → stands_in q qs ≡ true → stands_in q k.view.members ≡ true) → AllLevel meaning k.view.id old qs new → Levelled old c l k qs new
  all-levelled old c l k g _ _ listed NobodyLevels = record { group = g; level = λ p lp kp in_list apart x. absurd (let bad : false ≡ true = in_list in cc); sent = λ p there. refl; brief = omega arith }
  all-levelled old c l k g _ new listed (NextLevels qs q mid _ before catches) =
      levelled-next old mid new c l k qs q (same_address q c) refl (listed q (at-last q qs)) (all-levelled old c l k g qs mid (λ p there. listed p (in-front p q qs there)) before)
      (subst (λ (z : Address). MatchBool (same_address q z) (new ≡ mid) (CatchesUp meaning (pair_with meaning k.view.id q) mid new)) g.own catches)
