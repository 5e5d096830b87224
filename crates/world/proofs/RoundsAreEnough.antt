-- When two rounds are enough: where all to whom the first proposes are present, and a counter is left past all that they have promised.
use Rattle.std.proofs.Common.{◌≡◌, ◌≤◌, ℕ, ◌+◌, ◌<◌, max, Bool, true, false, cond, Option, Some, None, List, [], ◌∷◌, is_some, nat_lt, refl, sym, ap, ◌∙◌, subst, arith}
use Rattle.std.specs.Prelude.{◌&&◌, ◌||◌, fold, if◌then◌else◌}
use Rattle.std.specs.List.{list_all}
use Rattle.std.specs.Ordering.{nat_cmp, ordering_then}
use Rattle.std.specs.declared.cmp.Ordering.{Ordering}
use Rattle.std.specs.declared.cmp.Ordering.TheVariants.{Less, Equal, Greater}
use Rattle.std.specs.Option.{ForSome, IsSomeAnd, option_map_or, option_and_then}
use Rattle.std.proofs.lemmas.Bool.{and_parts, cond-true}
use Rattle.std.proofs.lemmas.Bool.Decides.{nat_tests}
use Rattle.std.proofs.lemmas.Option.{none-some, same_Some}
use Rattle.address.specs.Ids.{Address, ViewId, same_address, view_id_cmp}
use Rattle.address.proofs.SameIds.{same_address-true, same_address-refl, same_address-sym}
use Rattle.address.specs.declared.limits.TheConstants.{GREATEST_NUMBER}
use Rattle.view.specs.Members.{View, stands_in}
use Rattle.view.proofs.MembersListed.{all-by}
use Rattle.view_install.specs.Promises.{PromiseModel, answer_past, offered, is_accept}
use Rattle.view_install.specs.declared.promise.OfferAnswer.{OfferAnswer}
use Rattle.view_install.specs.declared.promise.OfferAnswer.TheVariants.{Accept, Behind, Ignore}
use Rattle.trace_props.specs.Rules.{IsBelow}
use Rattle.state_transfer.specs.Meanings.{Meaning}
use Rattle.law_acts.specs.Acts.{proposed}
use Rattle.law_acts.specs.Members.{IsNotPast}
use Rattle.law_acts.proofs.KeepBySteps
use Rattle.membership.specs.declared.member_state.MemberState.{MemberState}
use Rattle.membership.specs.MemberStates.{core_of as core_at, is_connected}
use Rattle.member.specs.Members.{MemberModel}
use Rattle.world.specs.declared.node_state.NodeState.{NodeState}
use Rattle.world.specs.declared.node_state.NodeState.TheVariants.{Vacant, Ended, Running}
use Rattle.world.specs.Worlds.{WorldModel}
use Rattle.world.proofs.Standing
use Rattle.world.proofs.Standing.{Stands}
use Rattle.world.specs.Settles.{would_follow}
use Rattle.world.specs.LowProposals.{told, past_in, promised_past, raised_at, asked_at, further, furthest, beyond, beyond_all, followed_by_all, overtaking_at, is_present, CanOvertake}
use Rattle.world.proofs.WhoFollows
use Rattle.world.proofs.SettlingsSettle
use Rattle.world.proofs.RoundRaises.{offered_by, past-accepts, anew-is, Low, low, stood-there}
use Rattle.world.proofs.StageOfFlushes.{Keeps}
use Rattle.world.proofs.TwoRounds.{all-there, lt-true}

-- ---- the one that has promised furthest has promised as much as any

-- one is there that has promised so much
abbrev Reaches : ℕ → Option (Address × ℕ) → Type 0
Reaches k best = IsSomeAnd best (λ (b : Address × ℕ). k ≤ b.1)

ge-from : (a b : ℕ) → nat_lt a b ≡ false → b ≤ a
ge-from a b e = grind (arith, nat_tests)

-- one more leaves it
reaches-on : (past : Address → Option ℕ) (q : Address) (k : ℕ) (best : Option (Address × ℕ)) → Reaches k best → Reaches k (further past best q)
reaches-on past q k None x = absurd x
reaches-on past q k (Some b) x = by (past q)
  where
    pick : (j : ℕ) (d : Bool) → nat_lt j b.1 ≡ d → Reaches k (cond d (Some b) (Some (q, j)))
    pick j true e = x
    pick j false e = let low = ge-from j b.1 e in omega (arith, x, low)

    by : (o : Option ℕ) → Reaches k (option_map_or (λ j. if option_map_or (λ (d : Address × ℕ). nat_lt j d.1) (Some b) false then Some b else Some (q, j)) o (Some b))
    by None = x
    by (Some j) = pick j (nat_lt j b.1) refl

reaches-one : (past : Address → Option ℕ) (q : Address) (k : ℕ) (best : Option (Address × ℕ)) → past q ≡ Some k → Reaches k (further past best q)
reaches-one past q k best e =
    subst (λ (o : Option ℕ). Reaches k (option_map_or (λ j. if option_map_or (λ (d : Address × ℕ). nat_lt j d.1) best false then best else Some (q, j)) o best)) (sym e) (by best)
  where
    pick : (b : Address × ℕ) (d : Bool) → nat_lt k b.1 ≡ d → Reaches k (cond d (Some b) (Some (q, k)))
    pick b true e = let low : k < b.1 = grind (arith, nat_tests) in omega (arith, low)
    pick b false e = omega arith

    by : (best : Option (Address × ℕ)) → Reaches k (if option_map_or (λ (d : Address × ℕ). nat_lt k d.1) best false then best else Some (q, k))
    by None = omega arith
    by (Some b) = pick b (nat_lt k b.1) refl

reaches-all : (past : Address → Option ℕ) (k : ℕ) (list : List Address) (best : Option (Address × ℕ)) → Reaches k best → Reaches k (fold (further past) best list)
reaches-all past k [] best x = x
reaches-all past k (q ∷ list) best x = reaches-all past k list (further past best q) (reaches-on past q k best x)

reaches-listed : (past : Address → Option ℕ) (p : Address) (k : ℕ) (list : List Address) (best : Option (Address × ℕ)) → past p ≡ Some k → stands_in p list ≡ true → Reaches k (fold (further past) best list)
reaches-listed past p k [] best e there = absurd (let n : false ≡ true = there in cc)
reaches-listed past p k (q ∷ list) best e there = by (same_address p q) refl there (λ later. reaches-listed past p k list (further past best q) e later)
  where
    by : (b : Bool) → same_address p q ≡ b → b || stands_in p list ≡ true → (stands_in p list ≡ true → Reaches k (fold (further past) (further past best q) list))
        → Reaches k (fold (further past) (further past best q) list)
    by true x there rest = reaches-all past k list (further past best q) (reaches-one past q k best (ap past (sym (same_address-true p q x)) ∙ e))
    by false x there rest = rest there

-- ---- who would follow, or has promised no more than is left behind, would follow a greater proposal

no-greater : (a b x y m n : ℕ) → ordering_then (nat_cmp a b) (ordering_then (nat_cmp x y) (nat_cmp m n)) ≡ Greater → b ≤ a
no-greater a b x y m n e = grind (arith, nat_tests)

no-other : (a b x y m n : ℕ) → ordering_then (nat_cmp a b) (ordering_then (nat_cmp x y) (nat_cmp m n)) ≡ Equal → b ≤ a
no-other a b x y m n e = grind (arith, nat_tests)

cmp-above : (a b : ℕ) → b < a → nat_cmp a b ≡ Greater
cmp-above a b e = grind (arith, nat_tests)

accepts-above : (w u : View) (me : Address) (promise : Option View) (installed : Bool) → u.members ≡ w.members → w.id.counter < u.id.counter → is_accept (offered_by w me promise installed) ≡ true
    → is_accept (offered_by u me promise installed) ≡ true
accepts-above w u me None installed same above e = ap (λ (l : List Address). is_accept (cond (stands_in me l) Accept Ignore)) same ∙ e
accepts-above w u me (Some v) installed same above e =
    by (stands_in me w.members) (view_id_cmp w.id v.id) refl refl e
  where
    higher : v.id.counter ≤ w.id.counter → stands_in me w.members ≡ true → is_accept (offered_by u me (Some v) installed) ≡ true
    higher low listed =
        let there : stands_in me u.members ≡ true = ap (stands_in me) same ∙ listed in
        let less : v.id.counter < u.id.counter = omega (arith, low, above) in
        rw (there, cmp-above u.id.counter v.id.counter less) refl

    by : (b : Bool) (o : Ordering) → stands_in me w.members ≡ b → view_id_cmp w.id v.id ≡ o → is_accept (cond b (answer_past o v installed) Ignore) ≡ true → is_accept (offered_by u me (Some v) installed) ≡ true
    by true Greater there is e = higher (no-greater w.id.counter v.id.counter w.id.creator.node v.id.creator.node w.id.creator.incarnation v.id.creator.incarnation is) there
    by true Equal there is e = higher (no-other w.id.counter v.id.counter w.id.creator.node v.id.creator.node w.id.creator.incarnation v.id.creator.incarnation is) there
    by true Less there is e = absurd (let n : false ≡ true = e in cc)
    by false o there is e = absurd (let n : false ≡ true = e in cc)

-- who is told of stands in the list
told-listed : (b : Bool) (a : OfferAnswer) (k : ℕ) → told (cond b a Ignore) ≡ Some k → b ≡ true
told-listed true a k e = refl
told-listed false a k e = absurd (none-some k e)

reach-accepts : (w u : View) (s : PromiseModel) → u.members ≡ w.members → w.id.counter < u.id.counter → ((k : ℕ) → told (offered w s) ≡ Some k → k < u.id.counter)
    → is_accept (offered w s) || is_some (told (offered w s)) ≡ true → is_accept (offered u s) ≡ true
reach-accepts w u s same above past reach = by (offered w s) refl reach
  where
    by : (a : OfferAnswer) → offered w s ≡ a → is_accept a || is_some (told a) ≡ true → is_accept (offered u s) ≡ true
    by Accept is e = accepts-above w u s.member s.proposal s.is_installed same above (ap is_accept is)
    by (Behind k) is e =
        let tells : told (offered w s) ≡ Some k = ap told is in
        let listed = told-listed (stands_in s.member w.members) _ k tells in
        past-accepts w u s.member s.proposal s.is_installed k tells (past k tells) (ap (stands_in s.member) same ∙ listed)
    by Ignore is e = absurd (let n : false ≡ true = e in cc)

none-of : (o : Option ℕ) → ((k : ℕ) → o ≡ Some k → ⊥) → o ≡ None
none-of None none = refl
none-of (Some k) none = absurd (none k refl)

-- whether the member of an address would follow a proposal, or has promised a greater one
abbrev is_within_reach : {S : Type 0} → View → Address → NodeState S → Bool
is_within_reach w q s = would_follow w q s || is_some (promised_past w q s)

module _ {S : Type 0} where
  follows-at : (w u : View) (p : Address) (s : NodeState S) → u.members ≡ w.members → w.id.counter < u.id.counter → ((k : ℕ) → promised_past w p s ≡ Some k → k < u.id.counter) → is_within_reach w p s ≡ true
      → would_follow u p s ≡ true
  follows-at w u p Vacant same above past reach = reach
  follows-at w u p (Ended q) same above past reach = reach
  follows-at w u p (Running m) same above past reach = at-address (same_address m.address p) past reach
    where
      at-connected : (l : MemberState S) (b : Bool) → ((k : ℕ) → cond b (told (offered w l.promise)) None ≡ Some k → k < u.id.counter)
          → (b && is_accept (offered w l.promise)) || is_some (cond b (told (offered w l.promise)) None) ≡ true → b && is_accept (offered u l.promise) ≡ true
      at-connected l true past reach = reach-accepts w u l.promise same above past reach
      at-connected l false past reach = reach

      at-state : (o : Option (MemberState S)) → ((k : ℕ) → option_and_then (past_in w) o ≡ Some k → k < u.id.counter)
          → option_map_or (λ l. is_connected l && is_accept (offered w l.promise)) o false || is_some (option_and_then (past_in w) o) ≡ true → option_map_or (λ l. is_connected l && is_accept (offered u l.promise)) o false ≡ true
      at-state None past reach = reach
      at-state (Some l) past reach = at-connected l (is_connected l) past reach

      at-address : (b : Bool) → ((k : ℕ) → cond b (option_and_then (past_in w) m.member_state) None ≡ Some k → k < u.id.counter)
          → (b && option_map_or (λ l. is_connected l && is_accept (offered w l.promise)) m.member_state false) || is_some (cond b (option_and_then (past_in w) m.member_state) None) ≡ true
          → b && option_map_or (λ l. is_connected l && is_accept (offered u l.promise)) m.member_state false ≡ true
      at-address true past reach = at-state m.member_state past reach
      at-address false past reach = reach

  -- nobody has promised past it: then all would follow it
  follows-same : (w : View) (p : Address) (s : NodeState S) → promised_past w p s ≡ None → is_within_reach w p s ≡ true → would_follow w p s ≡ true
  follows-same w p s none reach = by (would_follow w p s) (sym (ap (λ (o : Option ℕ). would_follow w p s || is_some o) none) ∙ reach)
    where
      by : (b : Bool) → b || false ≡ true → b ≡ true
      by true e = refl
      by false e = e

  -- all to whom the first round proposes are within reach
  pub record CanReach (at : ℕ → NodeState S) (n : ℕ) : Type 0 where
    pub q : Address
    pub asked : asked_at at n ≡ Some q
    pub w : View
    pub raised : raised_at at n q ≡ Some w
    pub reached : list_all (λ p. is_within_reach w p (at p.node)) w.members ≡ true
    pub room : ForSome (furthest (λ p. promised_past w p (at p.node)) w.members) (λ y. max w.id.counter y.1 < GREATEST_NUMBER)

  module _ (at : ℕ → NodeState S) (n : ℕ) (x : CanReach at n) where
    abbrev past : Address → Option ℕ
    past p = promised_past x.w p (at p.node)

    ends : (v : View) → beyond_all at x.w ≡ Some v → list_all (λ p. would_follow v p (at p.node)) v.members ≡ true → is_some (overtaking_at at n) ≡ true
    ends v last all =
        ap (λ (o : Option Address). is_some (option_and_then (followed_by_all at) (option_and_then (beyond_all at) (option_and_then (raised_at at n) o)))) x.asked
        ∙ ap (λ (o : Option View). is_some (option_and_then (followed_by_all at) (option_and_then (beyond_all at) o))) x.raised
        ∙ ap (λ (o : Option View). is_some (option_and_then (followed_by_all at) o)) last
        ∙ ap is_some (cond-true (list_all (λ p. would_follow v p (at p.node)) v.members) (Some v) None all)

    enough-for : is_some (overtaking_at at n) ≡ true
    enough-for = by (furthest past x.w.members) refl
      where
        reach : (p : Address) → stands_in p x.w.members ≡ true → is_within_reach x.w p (at p.node) ≡ true
        reach p listed = all-by (λ z. is_within_reach x.w z (at z.node)) x.w.members p x.reached listed

        by : (o : Option (Address × ℕ)) → furthest past x.w.members ≡ o → is_some (overtaking_at at n) ≡ true
        by None top =
            let none : (p : Address) (k : ℕ) → stands_in p x.w.members ≡ true → past p ≡ Some k → ⊥ = λ p k listed e.
            subst (λ (o : Option (Address × ℕ)). Reaches k o) top (reaches-listed past p k x.w.members None e listed) in
            let last : beyond_all at x.w ≡ Some x.w = ap (λ (o : Option (Address × ℕ)). option_map_or (λ b. beyond b.1 x.w) o (Some x.w)) top in
            ends x.w last (all-there (λ p. would_follow x.w p (at p.node)) x.w.members (λ p listed. follows-same x.w p (at p.node) (none-of (past p) (λ k e. none p k listed e)) (reach p listed)))
        by (Some b) top =
            let room = x.room b top in
            let u : View = record { id = record { counter = max x.w.id.counter b.1 + 1; creator = x.w.id.creator }; members = x.w.members } in
            let last : beyond_all at x.w ≡ Some u =
            ap (λ (o : Option (Address × ℕ)). option_map_or (λ d. beyond d.1 x.w) o (Some x.w)) top
            ∙ cond-true (nat_lt (max x.w.id.counter b.1) GREATEST_NUMBER) (Some u) None (lt-true (max x.w.id.counter b.1) GREATEST_NUMBER room) in
            let above : x.w.id.counter < max x.w.id.counter b.1 + 1 = omega arith in
            let low : (p : Address) (k : ℕ) → stands_in p x.w.members ≡ true → past p ≡ Some k → k < max x.w.id.counter b.1 + 1 = λ p k listed e.
            let most : k ≤ b.1 = subst (λ (o : Option (Address × ℕ)). Reaches k o) top (reaches-listed past p k x.w.members None e listed) in
            omega (arith, most) in
            ends u last (all-there (λ p. would_follow u p (at p.node)) x.w.members (λ p listed. follows-at x.w u p (at p.node) refl above (λ k e. low p k listed e) (reach p listed)))

-- ---- in a world who is present is within reach: nobody has promised what the round proposes

-- an offer is accepted or is behind, unless it is what was promised
reach-by : (v : View) (me : Address) (promise : Option View) (installed : Bool) → stands_in me v.members ≡ true → ((u : View) → promise ≡ Some u → view_id_cmp v.id u.id ≡ Equal → ⊥)
    → is_accept (offered_by v me promise installed) || is_some (told (offered_by v me promise installed)) ≡ true
reach-by v me None installed listed none = rw listed refl
reach-by v me (Some u) installed listed none =
    ap (λ (b : Bool). is_accept (cond b (answer_past (view_id_cmp v.id u.id) u installed) Ignore) || is_some (told (cond b (answer_past (view_id_cmp v.id u.id) u installed) Ignore))) listed
    ∙ by (view_id_cmp v.id u.id) refl
  where
    by : (o : Ordering) → view_id_cmp v.id u.id ≡ o → is_accept (answer_past o u installed) || is_some (told (answer_past o u installed)) ≡ true
    by Greater e = refl
    by Equal e = absurd (none u refl e)
    by Less e = refl

module _ {S : Type 0} (meaning : Meaning S) (laws : KeepBySteps.Laws meaning) where
  -- who is present
  present : (w : WorldModel S) (p : Address) → Keeps meaning laws w → is_present p (w.node_states p.node) ≡ true → (l : MemberState S) × Stands meaning w p l
  present w p keeps e = by (w.node_states p.node) refl e
    where
      at-state : (m : MemberModel S) (o : Option (MemberState S)) → w.node_states p.node ≡ Running m → m.address ≡ p → m.member_state ≡ o → option_map_or is_connected o false ≡ true
          → (l : MemberState S) × Stands meaning w p l
      at-state m None there address state e = absurd (let n : false ≡ true = e in cc)
      at-state m (Some l) there address state e =
          (l, record { member = m; node_state = there; address = address; group = (SettlingsSettle.node-is meaning laws w p.node m keeps there).1; member_state = state; connected = e })

      by : (s : NodeState S) → w.node_states p.node ≡ s → is_present p s ≡ true → (l : MemberState S) × Stands meaning w p l
      by Vacant there e = absurd (let n : false ≡ true = e in cc)
      by (Ended q) there e = absurd (let n : false ≡ true = e in cc)
      by (Running m) there e =
          let x = and_parts (same_address m.address p) (option_map_or is_connected m.member_state false) e in
          at-state m m.member_state there (same_address-true m.address p x.0) refl x.1

  -- what the tests say of it
  reach-is : (w : WorldModel S) (v : View) (p : Address) (l : MemberState S) → Stands meaning w p l
      → is_within_reach v p (w.node_states p.node) ≡ is_accept (offered v l.promise) || is_some (told (offered v l.promise))
  reach-is w v p l x =
      let here : same_address x.member.address p ≡ true = ap (λ (a : Address). same_address a p) x.address ∙ same_address-refl p in
      ap (is_within_reach v p) x.node_state
      ∙ ap (λ (b : Bool). (b && option_map_or (λ (z : MemberState S). is_connected z && is_accept (offered v z.promise)) x.member.member_state false) || is_some (cond b (option_and_then (past_in v) x.member.member_state) None)) here
      ∙ ap (λ (o : Option (MemberState S)). option_map_or (λ (z : MemberState S). is_connected z && is_accept (offered v z.promise)) o false || is_some (option_and_then (past_in v) o)) x.member_state
      ∙ ap (λ (b : Bool). (b && is_accept (offered v l.promise)) || is_some (cond b (told (offered v l.promise)) None)) x.connected

  module _ (w : WorldModel S) (n : ℕ) (q : Address) (v : View) (keeps : Keeps meaning laws w) (x : Low meaning laws w n q v) where
    abbrev c : Address
    c = x.member.address

    low-now : x.flush.proposal.counter < v.id.counter
    low-now =
        let y = anew-is c x.member_state x.flush x.counter v (stood-there meaning laws w n q v keeps x).flushing.promise x.anew in
        let e : max x.flush.proposal.counter (max x.member_state.notes.heard x.counter) + 1 ≡ v.id.counter = ap (λ (u : View). u.id.counter) y.is in
        omega (arith, e)

    creator-is : v.id.creator ≡ c
    creator-is = ap (λ (u : View). u.id.creator) (sym (anew-is c x.member_state x.flush x.counter v (stood-there meaning laws w n q v keeps x).flushing.promise x.anew).is)

    above : view_id_cmp v.id x.flush.proposal ≡ Greater
    above = rw (cmp-above v.id.counter x.flush.proposal.counter low-now) refl

    -- another has not promised it
    unpromised : (p : Address) (l : MemberState S) → Stands meaning w p l → same_address p c ≡ false → (u : View) → l.promise.proposal ≡ Some u → view_id_cmp v.id u.id ≡ Equal → ⊥
    unpromised p l there other u promise e =
        let s = stood-there meaning laws w n q v keeps x in
        let agreed = (Standing.agreed-in meaning laws w keeps).agreed in
        let theirs = agreed.members p (core_at p l) (Standing.runs-in meaning w p l there) in
        let mine = agreed.members c (core_at c x.member_state) (Standing.runs-in meaning w c x.member_state s.stands) in
        let same : v.id ≡ u.id = WhoFollows.equal-ids v.id u.id e in
        let creator : u.id.creator ≡ c = ap (λ (i : ViewId). i.creator) (sym same) ∙ creator-is in
        let foreign : same_address u.id.creator p ≡ false = ap (λ (a : Address). same_address a p) creator ∙ same_address-sym c p ∙ other in
        let put = theirs.announced u promise foreign in
        let own : same_address u.id.creator c ≡ true = ap (λ (a : Address). same_address a c) creator ∙ same_address-refl c in
        let past = subst (λ (o : Option View). IsNotPast o u.id) s.flushing.promise (mine.below.announced u.id u.members own put) in
        past (subst (λ (i : ViewId). IsBelow x.flush.proposal i) same (WhoFollows.below-greater v.id x.flush.proposal above))

    reaches : (p : Address) → stands_in p v.members ≡ true → is_present p (w.node_states p.node) ≡ true → is_within_reach v p (w.node_states p.node) ≡ true
    reaches p listed here = by (same_address p c) refl
      where
        -- its own promise is less
        itself : stands_in c v.members ≡ true → is_within_reach v c (w.node_states c.node) ≡ true
        itself there =
            let s = stood-there meaning laws w n q v keeps x in
            let l = x.member_state in
            let own : l.promise.member ≡ c = (Standing.lives meaning w c l s.stands laws keeps).own ∙ s.stands.address in
            reach-is w v c l s.stands ∙ reach-by v l.promise.member l.promise.proposal l.promise.is_installed (ap (λ (a : Address). stands_in a v.members) own ∙ there) (λ u promise e.
            let is : u ≡ proposed x.flush = same_Some u (proposed x.flush) (sym promise ∙ s.flushing.promise) in
            let bad : Greater ≡ Equal = sym above ∙ ap (λ (z : View). view_id_cmp v.id z.id) (sym is) ∙ e in
            absurd cc)

        by : (b : Bool) → same_address p c ≡ b → is_within_reach v p (w.node_states p.node) ≡ true
        by true e =
            let is : p ≡ c = same_address-true p c e in
            subst (λ (a : Address). is_within_reach v a (w.node_states a.node) ≡ true) (sym is) (itself (ap (λ (a : Address). stands_in a v.members) (sym is) ∙ listed))
        by false e =
            let l = present w p keeps here in
            let own : l.0.promise.member ≡ p = (Standing.lives meaning w p l.0 l.1 laws keeps).own ∙ l.1.address in
            reach-is w v p l.0 l.1 ∙ reach-by v l.0.promise.member l.0.promise.proposal l.0.promise.is_installed (ap (λ (a : Address). stands_in a v.members) own ∙ listed)
            (λ u promise same. unpromised p l.0 l.1 e u promise same)

  -- TWO ROUNDS ARE ENOUGH
  pub enough : (w : WorldModel S) (n : ℕ) → Keeps meaning laws w → CanOvertake w.node_states n → is_some (overtaking_at w.node_states n) ≡ true
  enough w n keeps x =
      let at = w.node_states in
      let y = low meaning laws w n x.q x.w x.raised in
      enough-for at n (record {
        q = x.q;
        asked = x.asked;
        w = x.w;
        raised = x.raised;
        reached = all-there (λ p. is_within_reach x.w p (at p.node)) x.w.members (λ p listed. reaches w n x.q x.w keeps y p listed (all-by (λ a. is_present a (at a.node)) x.w.members p x.present listed));
        room = x.room;
      })
