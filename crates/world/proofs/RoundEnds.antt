-- A round that ends in an error: the creator or the one that was asked has crashed for want of memory, or a step was not begun, and all who stood stand still.
use Rattle.std.proofs.Common.{◌≡◌, ℕ, true, false, Option, length, nat_eq, inl, inr, sym, ap, ◌∙◌, subst}
use Rattle.std.specs.Prelude.{MatchOption}
use Rattle.std.specs.List.{list_all}
use Rattle.std.specs.Option.{IsSomeAnd}
use Rattle.address.specs.Ids.{Address, ViewId, same_address}
use Rattle.address.proofs.SameIds.{same_address-sym}
use Rattle.view.specs.Members.{View, stands_in}
use Rattle.view.proofs.MembersListed.{all-by, coordinator-in}
use Rattle.wire_values.specs.declared.packet.Body.TheVariants as bodies
use Rattle.wire_values.specs.Posted.{packet}
use Rattle.state_transfer.specs.Meanings.{Meaning}
use Rattle.next_view.specs.Candidates.{candidates}
use Rattle.next_view.proofs.LeadersStandFirst.{candidates-are-a-view}
use Rattle.law_acts.specs.Acts.{proposed}
use Rattle.law_acts.proofs.KeepBySteps
use Rattle.world_model.specs.declared.WorldEvent.TheVariants.{Deliver, Tick}
use Rattle.world.specs.Pools.{first_for}
use Rattle.world.specs.Worlds.{WorldModel}
use Rattle.world.specs.Plays.{lacks_memory, Plays, Fails}
use Rattle.world.proofs.Standing
use Rattle.world.specs.Settles.{would_follow, EndsSettling}
use Rattle.world.specs.LowProposals.{RaisesShort}
use Rattle.world.specs.LowProposals.RaisesShort.{AtTick, AtFlush, AtBehind}
use Rattle.world.proofs.SettlingsSettle
use Rattle.world.proofs.RoundRaises
use Rattle.world.proofs.RoundRaises.{Low, Ahead, Announces}
use Rattle.world.proofs.SettlingEnds
use Rattle.world.proofs.SettlingEnds.{AllStand, lost}
use Rattle.world.proofs.StageOfFlushes.{Keeps}

module _ {S : Type 0} (meaning : Meaning S) (laws : KeepBySteps.Laws meaning) where
  -- where all of a view would follow it, all of them stand
  pub all-follow : (w : WorldModel S) (v : View) → Keeps meaning laws w → list_all (λ q. would_follow v q (w.node_states q.node)) v.members ≡ true → AllStand meaning laws w v
  all-follow w v keeps all q listed =
      let a = SettlingsSettle.follower meaning laws w v q keeps (all-by (λ p. would_follow v p (w.node_states p.node)) v.members q all listed) in
      record { member_state = a.member_state; stands = a.stands }

  module _ (old : WorldModel S) (n : ℕ) (q : Address) (w : View) (keeps : Keeps meaning laws old) (x : Low meaning laws old n q w) where
    abbrev c : Address
    c = x.member.address

    abbrev there : RoundRaises.Stood meaning laws old n q w x
    there = RoundRaises.stood-there meaning laws old n q w keeps x

    -- the creator stands in the list to which it proposes
    pub creator-listed : stands_in c w.members ≡ true
    creator-listed =
        let l = x.member_state in
        let y = RoundRaises.anew-is c l x.flush x.counter w there.flushing.promise x.anew in
        let free : stands_in c l.notes.suspects ≡ false = subst (λ (a : Address). stands_in a l.notes.suspects ≡ false) there.stands.address (Standing.lives meaning old c l there.stands laws keeps).unsuspected in
        let id : ViewId = record { counter = w.id.counter; creator = c } in
        let sound = candidates-are-a-view id y.view.members l.notes (there.flushing.leads y.view y.inside) free in
        ap (λ (u : View). stands_in c u.members) (sym y.is) ∙ coordinator-in id (candidates c y.view.members l.notes) sound

    abbrev one : Ahead meaning laws old (proposed x.flush) q x.counter
    one = RoundRaises.ahead meaning laws old (proposed x.flush) q x.counter keeps x.past

    other : same_address q c ≡ false
    other = RoundRaises.awaited-other meaning laws c q x.flush there.flushing.reported x.awaited

    apart : nat_eq q.node c.node ≡ false
    apart = Standing.nodes-apart meaning old q c one.member_state x.member_state one.stands there.stands (same_address-sym c q ∙ other)

    apart-too : nat_eq c.node q.node ≡ false
    apart-too = Standing.nodes-apart meaning old c q x.member_state one.member_state there.stands one.stands other

    announced-by : (announced : WorldModel S) → Plays meaning old (Tick n) announced → Announces meaning laws old announced c q x.member_state x.flush
    announced-by announced ticks =
        RoundRaises.announces meaning laws old announced c q x.member_state x.flush keeps there.stands there.flushing x.runs x.awaited other
        (subst (λ (j : ℕ). Plays meaning old (Tick j) announced) (sym there.node) ticks)

    module _ (v : View) (all : AllStand meaning laws old v) (mine : stands_in c v.members ≡ true) (theirs : stands_in q v.members ≡ true) where
      at-tick : (new : WorldModel S) → Fails meaning old (Tick c.node) new → EndsSettling v new
      at-tick new (inl same) = SettlingEnds.not-begun meaning laws old new v keeps all same
      at-tick new (inr f) = SettlingEnds.crashed meaning laws old new v c mine (lost (lacks_memory f.0.answer) f.1 (Standing.ticked meaning old new c x.member_state there.stands f.0))

      module _ (announced : WorldModel S) (a : Announces meaning laws old announced c q x.member_state x.flush) where
        still : Ahead meaning laws announced (proposed x.flush) q x.counter
        still = record { member_state = one.member_state; stands = Standing.stands-still meaning old q one.member_state one.stands announced c apart-too a.others; tells = one.tells }

        all-announced : AllStand meaning laws announced v
        all-announced = SettlingEnds.all-still meaning laws old announced v c x.member_state all there.stands a.others (record { member_state = x.member_state; stands = a.stands })

        at-flush : (new : WorldModel S) → IsSomeAnd (first_for q (length old.history.pool) announced.history.pool) (λ k. Fails meaning announced (Deliver k) new) → EndsSettling v new
        at-flush new fails =
            SettlingEnds.fails-at meaning laws announced new v q still.member_state a.number (packet c (bodies.Flush (proposed x.flush)) q) a.keeps all-announced theirs still.stands a.flush
            (subst (λ (o : Option ℕ). IsSomeAnd o (λ k. Fails meaning announced (Deliver k) new)) a.found fails)

        at-behind : (answered new : WorldModel S) → MatchOption (first_for q (length old.history.pool) announced.history.pool) (answered ≡ announced) (λ k. Plays meaning announced (Deliver k) answered)
            → Fails meaning answered (Deliver (length answered.history.pool)) new → EndsSettling v new
        at-behind answered new flush fails =
            let hands : Plays meaning announced (Deliver a.number) answered =
            subst (λ (o : Option ℕ). MatchOption o (answered ≡ announced) (λ j. Plays meaning announced (Deliver j) answered)) a.found flush in
            let b = RoundRaises.answers meaning laws announced answered c q (proposed x.flush) x.counter a.number a.keeps still there.flushing.own other a.flush hands in
            let s = still.stands in
            let here = Standing.stands-still meaning announced c x.member_state a.stands answered q apart b.others in
            let then : AllStand meaning laws answered v =
            SettlingEnds.all-still meaning laws announced answered v q still.member_state all-announced s b.others (record {
              member_state = still.member_state;
              stands = record { member = s.member; node_state = b.same ∙ s.node_state; address = s.address; group = s.group; member_state = s.member_state; connected = s.connected };
            }) in
            SettlingEnds.fails-at meaning laws answered new v c x.member_state (length answered.history.pool) (packet q (bodies.Behind x.flush.proposal x.counter) c) b.keeps then mine here b.behind fails

      pub round-ends : (new : WorldModel S) → RaisesShort meaning n q old new → EndsSettling v new
      round-ends _ (AtTick new fails) = at-tick new (subst (λ (j : ℕ). Fails meaning old (Tick j) new) (sym there.node) fails)
      round-ends _ (AtFlush announced new ticks fails) = at-flush announced (announced-by announced ticks) new fails
      round-ends _ (AtBehind announced answered new ticks flush fails) = at-behind announced (announced-by announced ticks) answered new flush fails
