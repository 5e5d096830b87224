-- The acts that change only what a member keeps: Joins, Gathers, Queues, TakesAck, Collects, Holds, Records.
use Rattle.std.proofs.Common.{◌≡◌, ℕ, ◌+◌, ◌<◌, ◌≤◌, Bool, true, false, cond, Option, Some, None, List, [], ◌∷◌, ◌++◌, length, refl, sym, ap, ◌∙◌, subst, arith, is_some, nat_eq, eqb-true}
use Rattle.std.specs.Prelude.{slice_get, max, nat_lt, MatchBool}
use Rattle.std.specs.List.{Contains}
use Rattle.std.specs.Option.{option_map, option_map_or}
use Rattle.std.proofs.lemmas.Bool.{cond-true, cond-false}
use Rattle.std.proofs.lemmas.Bool.Decides.{nat_tests}
use Rattle.std.proofs.lemmas.Option.{none-some, same_Some}
use Rattle.address.specs.Ids.{Address, ViewId, same_address}
use Rattle.view.specs.Members.{View, stands_in}
use Rattle.address.specs.declared.limits.TheConstants.{WINDOW}
use Rattle.wire_values.specs.Values.{Entry, held_at, Report}
use Rattle.wire_values.specs.Values as wire
use Rattle.wire_values.specs.declared.packet.Body.TheVariants as bodies
use Rattle.wire_values.specs.Posted.{Posted, packet}
use Rattle.state_transfer.specs.Meanings.{Meaning}
use Rattle.flush.specs.Flushes.{FlushModel}
use Rattle.trace_props.specs.declared.event.Event.{Event}
use Rattle.trace_props.specs.declared.event.Install.{Install}
use Rattle.trace_props.specs.declared.event.Numbered.{Numbered}
use Rattle.trace_props.specs.Observed.{delivered_in, sent_in, own, entry_of}
use Rattle.address.proofs.SameIds.{same_address-true}
use Rattle.law_acts.specs.Words.{Tally, members_of, open_count}
use Rattle.law_acts.specs.Histories.{History, report_of}
use Rattle.law_acts.specs.Cores.{ViewCore, Core}
use Rattle.law_acts.specs.Acts.{IsStable, All, Ordered, Announced, IsOpenIn, MayQueue, MayTakeAck, MayCollect, MayHold, MayRecord, HoldsMore, HoldsAbove, heard, with_view_core}
use Rattle.law_acts.specs.Steps.{came_of}
use Rattle.law_acts.specs.Packets.{IsOrdered, IsSent, AllHave, HoldsOrder}
use Rattle.law_acts.specs.Members.{installed_as, HasAcks, IsRecorded, RunsFlush, ViewFact, MemberFact}
use Rattle.law_acts.specs.Invariant.{TraceFact, EachPacket}
use Rattle.law_acts.proofs.Lists.{slice_get-split, slice_get-one, slice_get-right, place-of, lookup-kept}
use Rattle.law_acts.proofs.KeepTrace.{rules-of}
use Rattle.law_acts.proofs.InputsWerePut.{said-of}

-- ---- a member that is open

-- while open nothing is owed of a flush and a report
pub open-fact : {S : Type 0} (meaning : Meaning S) (h : History) (p : Address) (c : Core S) (v : View)
    (t : ViewCore) → MemberFact meaning h p c → IsOpenIn c v → ViewFact h p c.installed t c.sent_installs v
    → MemberFact meaning h p (with_view_core t c)
open-fact meaning h p c v t x o fact = record {
  standing = x.standing;
  promise = x.promise;
  announced = x.announced;
  below = x.below;
  reported = λ waits. absurd (let n : true ≡ false = sym o.installed ∙ waits in cc);
  flush = λ f e. absurd (let n : true ≡ false = sym o.installed ∙ (x.flush f e).waits in cc);
  view = λ u e. subst (λ (w : View). ViewFact h p c.installed t c.sent_installs w) (same_Some v u (sym o.view ∙ e)) fact;
  state = x.state;
}

-- the members of the view are those of its coordinator's install
pub members-are : (t : List Event) (v : View) → installed_as v.id.creator v.id t ≡ Some v → members_of v.id t ≡ v.members
members-are t v x = by (entry_of v.id.creator v.id t) x
  where
    by : (o : Option Install) → option_map (λ e. e.view) o ≡ Some v → option_map_or (λ (e : Install). e.view.members) o [] ≡ v.members
    by None y = absurd (none-some v y)
    by (Some e) y = ap (λ (u : View). u.members) (same_Some e.view v y)

-- ---- Joins

pub joins-fact : {S : Type 0} (meaning : Meaning S) (h : History) (p : Address) (c : Core S)
    → MemberFact meaning h p c → MemberFact meaning h p (record c { connected = true })
joins-fact meaning h p c x = record {
  standing = x.standing;
  promise = x.promise;
  announced = x.announced;
  below = x.below;
  reported = x.reported;
  flush = x.flush;
  view = x.view;
  state = x.state;
}

-- ---- Gathers

pub gathers-fact : {S : Type 0} (meaning : Meaning S) (h : History) (p : Address) (c : Core S) (chunks : List (ViewId × wire.Chunk))
    → MemberFact meaning h p c → MemberFact meaning h p (record c { chunks = chunks })
gathers-fact meaning h p c chunks x = record {
  standing = x.standing;
  promise = x.promise;
  announced = x.announced;
  below = x.below;
  reported = x.reported;
  flush = x.flush;
  view = x.view;
  state = x.state;
}

-- ---- Queues

-- an outstanding message was sent under its number
pub outstanding-sent : (t : List Event) (p : Address) (v : ViewId) (rest : List Numbered) (m : Numbered) → ((k : ℕ) (n : Numbered) → slice_get (sent_in p v t) k ≡ Some n → n.number ≡ k + 1)
    → sent_in p v t ≡ own p (delivered_in p v t) ++ rest → (j : ℕ) → slice_get rest j ≡ Some m → (k : ℕ) → m.number ≡ k + 1 → slice_get (sent_in p v t) k ≡ Some m
outstanding-sent t p v rest m numbers sent j at k number =
    let before = own p (delivered_in p v t) in
    let there : slice_get (sent_in p v t) (length before + j) ≡ Some m = ap (λ l. slice_get l (length before + j)) sent ∙ slice_get-right before rest j ∙ at in
    let n = numbers (length before + j) m there in
    let same : length before + j ≡ k = omega arith in
    subst (λ i. slice_get (sent_in p v t) i ≡ Some m) same there

queued-by : {S : Type 0} (b : Bool) (h : History) (c : Core S) (which : Option ℕ) (v : View) (e : Entry) → same_address e.sender c.me ≡ b → EachPacket h
    → ((k : ℕ) (n : Numbered) → slice_get (sent_in c.me v.id h.trace) k ≡ Some n → n.number ≡ k + 1)
    → sent_in c.me v.id h.trace ≡ own c.me (delivered_in c.me v.id h.trace) ++ c.view_state.outstanding
    → MatchBool b (Contains c.view_state.outstanding (record { number = e.number; payload = e.payload })) (came_of c h.pool which ≡ Some (packet e.sender (bodies.Forward v.id e.number e.payload) c.me))
    → IsSent h.trace v.id e
queued-by true h c which v e test each numbers sent out k number =
    let at = place-of c.view_state.outstanding (record { number = e.number; payload = e.payload }) out in
    ap (λ q. slice_get (sent_in q v.id h.trace) k) (same_address-true e.sender c.me test)
    ∙ outstanding-sent h.trace c.me v.id c.view_state.outstanding (record { number = e.number; payload = e.payload }) numbers sent at.0 at.1 k number
queued-by false h c which v e test each numbers sent came k number = (said-of h c which e.sender (bodies.Forward v.id e.number e.payload) each came).fact k number

pub queues-fact : {S : Type 0} (meaning : Meaning S) (h : History) (c : Core S) (which : Option ℕ) (v : View)
    (e : Entry) (waiting : List Entry) → TraceFact meaning h → EachPacket h → MemberFact meaning h c.me c
    → MayQueue (came_of c h.pool which) c v e waiting → MemberFact meaning h c.me (with_view_core (record c.view_state { waiting = waiting }) c)
queues-fact meaning h c which v e waiting trace each x a =
    let f = x.view v a.open_in.view in
    let sent = queued-by (same_address e.sender c.me) h c which v e refl each ((rules-of meaning h trace).ordered.messages.numbers c.me v.id) f.mine.sent a.sent in
    let all = slice_get-split (IsSent h.trace v.id) c.view_state.waiting (e ∷ []) f.waiting (slice_get-one (IsSent h.trace v.id) e sent) in
    open-fact meaning h c.me c v (record c.view_state { waiting = waiting }) x a.open_in (record {
      inside = f.inside;
      counts = f.counts;
      mine = f.mine;
      window = f.window;
      acks = f.acks;
      waiting = λ n z at. let was = place-of (c.view_state.waiting ++ e ∷ []) z (a.fewer n z at) in all was.0 z was.1;
      ordered = f.ordered;
      keeps = f.keeps;
    })

-- ---- Hears

heard-by : (b : Bool) (t : List Event) (v : ViewId) (q r : Address) (n m : ℕ) → same_address r q ≡ b → m ≤ open_count r v t → n ≤ open_count q v t
    → cond b (max m n) m ≤ open_count r v t
heard-by true t v q r n m test old new =
    let here : n ≤ open_count r v t = subst (λ (z : Address). n ≤ open_count z v t) (sym (same_address-true r q test)) new in grind (arith, nat_tests)
heard-by false t v q r n m test old new = old

pub hears-fact : {S : Type 0} (meaning : Meaning S) (h : History) (c : Core S) (which : Option ℕ) (v : View)
    (q : Address) (n : ℕ) → EachPacket h → MemberFact meaning h c.me c → MayTakeAck (came_of c h.pool which) c v q n
    → MemberFact meaning h c.me (with_view_core (record c.view_state { acks = heard q n c.view_state.acks }) c)
hears-fact meaning h c which v q n each x a =
    let f = x.view v a.open_in.view in
    let counts : open_count c.me v.id h.trace ≡ c.view_state.delivered = ap (λ (s : Tally). s.count) f.counts.tally in
    let new : n ≤ open_count q v.id h.trace = by (same_address q c.me) refl counts a.acked in
    open-fact meaning h c.me c v (record c.view_state { acks = heard q n c.view_state.acks }) x a.open_in (record {
      inside = f.inside;
      counts = f.counts;
      mine = f.mine;
      window = f.window;
      acks = λ r. heard-by (same_address r q) h.trace v.id q r n (c.view_state.acks r) refl (f.acks r) new;
      waiting = f.waiting;
      ordered = f.ordered;
      keeps = f.keeps;
    })
  where
    by : (b : Bool) → same_address q c.me ≡ b → open_count c.me v.id h.trace ≡ c.view_state.delivered
        → MatchBool b (n ≤ c.view_state.delivered) (came_of c h.pool which ≡ Some (packet q (bodies.Ack v.id n) c.me)) → n ≤ open_count q v.id h.trace
    by true test counts so_many =
        subst (λ (z : Address). n ≤ open_count z v.id h.trace) (sym (same_address-true q c.me test)) (subst (λ k. n ≤ k) (sym counts) so_many)
    by false test counts came = (said-of h c which q (bodies.Ack v.id n) each came).fact

-- ---- Collects

stable-by : {S : Type 0} (h : History) (c : Core S) (which : Option ℕ) (v : View) (t : ℕ) → EachPacket h → HasAcks h.trace v.id c.view_state.acks
    → members_of v.id h.trace ≡ v.members → IsStable (came_of c h.pool which) c v t → AllHave h.trace v.id t 0
stable-by h c which v t each acks members (All first all) q there =
    let known : t ≤ c.view_state.acks q = all q (ap (stands_in q) (sym members) ∙ there) in
    let so_many = acks q in
    omega arith
stable-by h c which v t each acks members (Ordered g e came far) q there =
    let so_many = (said-of h c which v.id.creator (bodies.Order v.id g e) each came).fact.near q there in omega arith
stable-by h c which v t each acks members (Announced p came low) q there =
    let so_many = (said-of h c which v.id.creator (bodies.Status v.id p) each came).fact.all q there in omega arith

-- what lies past the new stable count is held as before
collected-at : (held new : List (ℕ × Entry)) (n g : ℕ) (e : Entry) (b : Bool) → nat_lt n g ≡ b → HoldsAbove held n new → held_at g new ≡ Some e → held_at g held ≡ Some e
collected-at held new n g e true test x at = let past : n < g = grind (arith, nat_tests) in sym (x.above g past) ∙ at
collected-at held new n g e false test x at = let low : g ≤ n = grind (arith, nat_tests) in absurd (none-some e (sym (x.below g low) ∙ at))

collected-there : (held new : List (ℕ × Entry)) (n g : ℕ) (o : Option Entry) → held_at g new ≡ o → HoldsAbove held n new → is_some o ≡ true → is_some (held_at g held) ≡ true
collected-there held new n g None e x there = absurd (let f : false ≡ true = there in cc)
collected-there held new n g (Some y) e x there = ap is_some (collected-at held new n g y (nat_lt n g) refl x e)

most : (a b c : ℕ) → a ≤ c → b ≤ c → max a b ≤ c
most a b c p q = grind (arith, nat_tests)

at-least : (a b c d : ℕ) → c ≤ a + d → c ≤ max a b + d
at-least a b c d p = grind (arith, nat_tests)

above-max : (a b g : ℕ) → max a b < g → a < g
above-max a b g p = grind (arith, nat_tests)

pub collects-fact : {S : Type 0} (meaning : Meaning S) (h : History) (c : Core S) (which : Option ℕ) (v : View)
    (n : ℕ) (held : List (ℕ × Entry)) → EachPacket h → MemberFact meaning h c.me c → MayCollect (came_of c h.pool which) c v n held
    → MemberFact meaning h c.me (with_view_core (record c.view_state { stable = max c.view_state.stable n; held = held }) c)
collects-fact meaning h c which v n held each x a =
    let f = x.view v a.open_in.view in
    let members = members-are h.trace v f.inside.first in
    let new = stable-by h c which v n each f.acks members a.stable in
    open-fact meaning h c.me c v (record c.view_state { stable = max c.view_state.stable n; held = held }) x a.open_in (record {
      inside = f.inside;
      counts = f.counts;
      mine = f.mine;
      window = record {
        order = λ g e at. f.window.order g e (collected-at c.view_state.held held (max c.view_state.stable n) g e (nat_lt (max c.view_state.stable n) g) refl a.fewer at);
        all = λ g past within. ap is_some (a.fewer.above g past) ∙ f.window.all g (above-max c.view_state.stable n g past) within;
        near = λ g there.
            at-least c.view_state.stable n g WINDOW
            (f.window.near g (collected-there c.view_state.held held (max c.view_state.stable n) g (held_at g held) refl a.fewer there));
        all_have = λ q there. most c.view_state.stable n (open_count q v.id h.trace + 0) (f.window.all_have q there) (new q there);
      };
      acks = f.acks;
      waiting = f.waiting;
      ordered = f.ordered;
      keeps = f.keeps;
    })

-- ---- Holds

pub held-order : (b : Bool) (t : List Event) (v : ViewId) (held new : List (ℕ × Entry)) (g k : ℕ) (e x : Entry) → nat_eq k g ≡ b → HoldsMore held g e new → HoldsOrder t v held → IsOrdered t v g e
    → held_at k new ≡ Some x → IsOrdered t v k x
held-order true t v held new g k e x test more old is at =
    let same : k ≡ g = eqb-true k g test in
    let here : e ≡ x = same_Some e x (sym (cond-true (nat_eq k g) (Some e) (held_at k held) test) ∙ sym (more.now k) ∙ at) in
    subst (λ n. IsOrdered t v n x) (sym same) (subst (λ (y : Entry). IsOrdered t v g y) here is)
held-order false t v held new g k e x test more old is at = old k x (sym (cond-false (nat_eq k g) (Some e) (held_at k held) test) ∙ sym (more.now k) ∙ at)

held-all : (b : Bool) (held new : List (ℕ × Entry)) (g k : ℕ) (e : Entry) → nat_eq k g ≡ b → HoldsMore held g e new → is_some (held_at k held) ≡ true → is_some (held_at k new) ≡ true
held-all true held new g k e test more old = ap is_some (more.now k ∙ cond-true (nat_eq k g) (Some e) (held_at k held) test)
held-all false held new g k e test more old = ap is_some (more.now k ∙ cond-false (nat_eq k g) (Some e) (held_at k held) test) ∙ old

pub held-near : (b : Bool) (held new : List (ℕ × Entry)) (g k n : ℕ) (e : Entry) → nat_eq k g ≡ b → HoldsMore held g e new → g ≤ n → (is_some (held_at k held) ≡ true → k ≤ n)
    → is_some (held_at k new) ≡ true → k ≤ n
held-near true held new g k n e test more here old there = let same : k ≡ g = eqb-true k g test in omega arith
held-near false held new g k n e test more here old there =
    old (sym (ap is_some (more.now k ∙ cond-false (nat_eq k g) (Some e) (held_at k held) test)) ∙ there)

pub holds-fact : {S : Type 0} (meaning : Meaning S) (h : History) (c : Core S) (which : Option ℕ) (v : View)
    (g : ℕ) (e : Entry) (held : List (ℕ × Entry)) → EachPacket h → MemberFact meaning h c.me c → MayHold (came_of c h.pool which) c v g e held
    → MemberFact meaning h c.me (with_view_core (record c.view_state { held = held }) c)
holds-fact meaning h c which v g e held each x a =
    let f = x.view v a.open_in.view in
    let said = (said-of h c which v.id.creator (bodies.Order v.id g e) each a.ordered).fact in
    open-fact meaning h c.me c v (record c.view_state { held = held }) x a.open_in (record {
      inside = f.inside;
      counts = f.counts;
      mine = f.mine;
      window = record {
        order = λ k y at. held-order (nat_eq k g) h.trace v.id c.view_state.held held g k e y refl a.more f.window.order said.order at;
        all = λ k past within. held-all (nat_eq k g) c.view_state.held held g k e refl a.more (f.window.all k past within);
        near = λ k there. held-near (nat_eq k g) c.view_state.held held g k (c.view_state.stable + WINDOW) e refl a.more a.near (λ y. f.window.near k y) there;
        all_have = f.window.all_have;
      };
      acks = f.acks;
      waiting = f.waiting;
      ordered = f.ordered;
      keeps = f.keeps;
    })

-- ---- Records

recorded-new : (b : Bool) (pool : List Posted) (p q : Address) (w : ViewId) (mine r : Report) → same_address q p ≡ b → same_address q p ≡ false → report_of q w pool ≡ Some r
    → MatchBool b (r ≡ mine) (report_of q w pool ≡ Some r)
recorded-new true pool p q w mine r test other one = absurd (let n : true ≡ false = sym test ∙ other in cc)
recorded-new false pool p q w mine r test other one = one

pub records-fact : {S : Type 0} (meaning : Meaning S) (h : History) (c : Core S) (which : Option ℕ)
    (f : FlushModel) (q : Address) (r : Report) → EachPacket h → MemberFact meaning h c.me c → MayRecord (came_of c h.pool which) c f q r
    → MemberFact meaning h c.me (record c { flush = Some (record f { reports = f.reports ++ (q, r) ∷ [] }) })
records-fact meaning h c which f q r each x a =
    let old = x.flush f a.flush in
    let said = said-of h c which q (bodies.Report f.proposal r) each a.received in
    record {
      standing = x.standing;
      promise = x.promise;
      announced = x.announced;
      below = x.below;
      reported = x.reported;
      flush = λ g e. subst (λ (z : FlushModel). RunsFlush h.pool c.me c.promise c.installed c.view c.view_state z) (same_Some _ g e) (record {
        promised = old.promised;
        waits = old.waits;
        own = old.own;
        list = old.list;
        announced = old.announced;
        itself = lookup-kept (same_address c.me) f.reports ((q, r) ∷ []) _ old.itself;
        recorded = slice_get-split (IsRecorded h.pool c.me f.proposal _) f.reports ((q, r) ∷ []) old.recorded
            (slice_get-one (IsRecorded h.pool c.me f.proposal _) (q, r) (recorded-new (same_address q c.me) h.pool c.me q f.proposal _ r refl said.other said.fact.one));
      });
      view = x.view;
      state = x.state;
    }
