-- What holds of a packet and of an install holds later.
use Rattle.std.proofs.Common.{◌≡◌, ℕ, ◌+◌, ◌≤◌, Bool, true, false, Option, Some, None, List, [], length, filter, refl, sym, ap, ◌∙◌, arith, is_some}
use Rattle.std.specs.Option.{option_map, option_map_or, option_eq}
use Rattle.std.proofs.lemmas.Bool.{cond-true, cond-false}
use Rattle.address.specs.Ids.{Address, ViewId, same_address, same_view_id}
use Rattle.view.specs.Members.{View, stands_in}
use Rattle.wire_values.specs.Values.{Entry, Report}
use Rattle.wire_values.specs.Values as wire
use Rattle.wire_values.specs.declared.packet.Body.{Body}
use Rattle.wire_values.specs.declared.packet.Body.TheVariants as bodies
use Rattle.wire_values.specs.Posted.{Posted}
use Rattle.trace_props.specs.declared.event.Event.{Event}
use Rattle.trace_props.specs.declared.event.Install.{Install}
use Rattle.trace_props.specs.Observed.{entry_of}
use Rattle.law_acts.specs.Words.{Tally, members_of, open_count}
use Rattle.law_acts.specs.Histories.{History, report_of, goes_from, goes_with}
use Rattle.law_acts.specs.Packets.{IsOrdered, IsSent, AllHave, HoldsOrder, IsProposal, SaysOf, IsAnswer, IsCutOf, AllAnswered, IsLed, IsFitting, IsInstruction, IsCoordinator, IsOrder, IsStatus, BodyFact, PacketFact, IsEntry}
use Rattle.law_acts.proofs.Lists.{filter-same}
use Rattle.law_acts.proofs.KeepHistory.{Later, entered-later}

-- ---- registers that are written

-- what was there is still there
pub there-later : {X : Type 0} (o b : Option X) → ((x : X) → o ≡ Some x → b ≡ Some x) → is_some o ≡ true → is_some b ≡ true
there-later None b kept there = absurd (let n : false ≡ true = there in cc)
there-later (Some x) b kept there = ap is_some (kept x refl)

-- and is what it was
pub same-later : {X : Type 0} (o b : Option X) → ((x : X) → o ≡ Some x → b ≡ Some x) → is_some o ≡ true → b ≡ o
same-later None b kept there = absurd (let n : false ≡ true = there in cc)
same-later (Some x) b kept there = kept x refl

-- ---- entries, members

pub entry-same : (h k : History) (p : Address) (w : ViewId) → Later h k → is_some (entry_of p w h.trace) ≡ true → entry_of p w k.trace ≡ entry_of p w h.trace
entry-same h k p w m there = same-later (entry_of p w h.trace) (entry_of p w k.trace) (λ e x. m.entry p w e x) there

pub report-same : (h k : History) (p : Address) (w : ViewId) → Later h k → is_some (report_of p w h.pool) ≡ true → report_of p w k.pool ≡ report_of p w h.pool
report-same h k p w m there = same-later (report_of p w h.pool) (report_of p w k.pool) (λ r x. m.report p w r x) there

pub members-same : (h k : History) (v : ViewId) → Later h k → is_some (entry_of v.creator v h.trace) ≡ true → members_of v k.trace ≡ members_of v h.trace
members-same h k v m there = ap (λ o. option_map_or (λ (i : Install). i.view.members) o []) (entry-same h k v.creator v m there)

in-members : (q : Address) (o : Option Install) → stands_in q (option_map_or (λ (i : Install). i.view.members) o []) ≡ true → is_some o ≡ true
in-members q None s = absurd (let n : false ≡ true = s in cc)
in-members q (Some e) s = refl

-- who is among the members of a view is so because its coordinator installed it
pub members-entered : (q : Address) (v : ViewId) (t : List Event) → stands_in q (members_of v t) ≡ true → is_some (entry_of v.creator v t) ≡ true
members-entered q v t s = in-members q (entry_of v.creator v t) s

-- ---- from where one goes

goes-same-by : (b : Bool) (h k : History) (w : ViewId) (q : Address) → same_address q w.creator ≡ b → Later h k → is_some (goes_from h w q) ≡ true → goes_from k w q ≡ goes_from h w q
goes-same-by true h k w q test m there =
    let now : goes_from h w q ≡ option_map (λ (e : Install). e.previous) (entry_of q w h.trace) = cond-true (same_address q w.creator) _ _ test in
    let then : goes_from k w q ≡ option_map (λ (e : Install). e.previous) (entry_of q w k.trace) = cond-true (same_address q w.creator) _ _ test in
    then ∙ ap (option_map (λ (e : Install). e.previous)) (entry-same h k q w m (map-there (entry_of q w h.trace) (sym (ap is_some now) ∙ there))) ∙ sym now
  where
    map-there : (o : Option Install) → is_some (option_map (λ (e : Install). e.previous) o) ≡ true → is_some o ≡ true
    map-there None s = s
    map-there (Some e) s = refl
goes-same-by false h k w q test m there =
    let now : goes_from h w q ≡ option_map (λ (r : Report). r.previous) (report_of q w h.pool) = cond-false (same_address q w.creator) _ _ test in
    let then : goes_from k w q ≡ option_map (λ (r : Report). r.previous) (report_of q w k.pool) = cond-false (same_address q w.creator) _ _ test in
    then ∙ ap (option_map (λ (r : Report). r.previous)) (report-same h k q w m (map-there (report_of q w h.pool) (sym (ap is_some now) ∙ there))) ∙ sym now
  where
    map-there : (o : Option Report) → is_some (option_map (λ (r : Report). r.previous) o) ≡ true → is_some o ≡ true
    map-there None s = s
    map-there (Some e) s = refl

pub goes-same : (h k : History) (w : ViewId) (q : Address) → Later h k → is_some (goes_from h w q) ≡ true → goes_from k w q ≡ goes_from h w q
goes-same h k w q m there = goes-same-by (same_address q w.creator) h k w q refl m there

pub complete-later : (h k : History) (w : ViewId) (members : List Address) → Later h k → AllAnswered h w members → AllAnswered k w members
complete-later h k w members m all q s = ap is_some (goes-same h k w q m (all q s)) ∙ all q s

pub together-later : (h k : History) (w : ViewId) (v : Option ViewId) (members : List Address) → Later h k → AllAnswered h w members
    → filter (goes_with h w v) members ≡ filter (goes_with k w v) members
together-later h k w v members m all =
    filter-same (goes_with h w v) (goes_with k w v) members (λ q s. ap (λ o. option_map_or (λ u. option_eq same_view_id u v) o false) (sym (goes-same h k w q m (all q s))))

-- ---- numbers of the order

pub ordered-later : (h k : History) (v : ViewId) (g : ℕ) (e : Entry) → Later h k → IsOrdered h.trace v g e → IsOrdered k.trace v g e
ordered-later h k v g e m x n at = m.list v.creator v n e (x n at)

pub sent-later : (h k : History) (v : ViewId) (e : Entry) → Later h k → IsSent h.trace v e → IsSent k.trace v e
sent-later h k v e m x n at = m.sent e.sender v n _ (x n at)

pub all_have-later : (h k : History) (v : ViewId) (n less : ℕ) → Later h k → is_some (entry_of v.creator v h.trace) ≡ true → AllHave h.trace v n less → AllHave k.trace v n less
all_have-later h k v n less m there all q s =
    let was : n ≤ open_count q v h.trace + less = all q (sym (ap (stands_in q) (members-same h k v m there)) ∙ s) in
    let more = m.count q v in
    omega arith

pub holds_order-later : (h k : History) (v : ViewId) (held : List (ℕ × Entry)) → Later h k → HoldsOrder h.trace v held → HoldsOrder k.trace v held
holds_order-later h k v held m x g e at = ordered-later h k v g e m (x g e at)

-- ---- FLUSH, REPORT

pub proposal-later : (h k : History) (p : Address) (w : View) → Later h k → IsProposal h p w → IsProposal k p w
proposal-later h k p w m x = record { own = x.own; view = x.view; one = m.flush w.id w.members x.one }

pub says-later : (h k : History) (p : Address) (r : Report) (v : ViewId) → Later h k → SaysOf h.trace p r v → SaysOf k.trace p r v
says-later h k p r v m x =
    let there = members-entered p v h.trace x.member in
    record {
      closed = ap (λ (s : Tally). s.phase) (m.closed p v x.closed) ∙ x.closed;
      entered = entered-later h k p v m x.entered;
      member = ap (stands_in p) (members-same h k v m there) ∙ x.member;
      delivered = x.delivered ∙ sym (ap (λ (s : Tally). s.count) (m.closed p v x.closed));
      all = x.all;
      order = holds_order-later h k v r.held m x.order;
      stable = all_have-later h k v r.stable 0 m there x.stable;
    }

pub answer-later : (h k : History) (p : Address) (w : ViewId) (r : Report) → Later h k → IsAnswer h p w r → IsAnswer k p w r
answer-later h k p w r m x = record {
  other = x.other;
  one = m.report p w r x.one;
  true_of = λ v e. says-later h k p r v m (x.true_of v e);
}

-- ---- INSTALL

pub led-later : (h k : History) (w : ViewId) (i : wire.Install) → Later h k → IsLed h w i → IsLed k w i
led-later h k w i m x = record {
  announced = m.flush w i.view.members x.announced;
  entered = entered-later h k w.creator w m x.entered;
  members = members-same h k w m x.entered ∙ x.members;
  from = λ e y. x.from e (sym (entry-same h k w.creator w m x.entered) ∙ y);
  complete = complete-later h k w i.view.members m x.complete;
  answered = λ q j y. there-later (report_of q w h.pool) (report_of q w k.pool) (λ r z. m.report q w r z) (x.answered q j (sym (m.installs w q x.entered) ∙ y));
}

cut-later : (h k : History) (base : ℕ) (items : List Entry) (r : Report) (v : ViewId) → Later h k → IsCutOf h.trace base items r v → IsCutOf k.trace base items r v
cut-later h k base items r v m x = record { low = x.low; high = x.high; order = λ j e at. m.list v.creator v (base + j) e (x.order j e at) }

pub fitting-later : (h k : History) (w : ViewId) (q : Address) (i : wire.Install) (r : Report) → Later h k → IsLed h w i → IsFitting h w q i r → IsFitting k w q i r
fitting-later h k w q i r m led x = record {
  cut = λ v from. cut-later h k i.base i.items r v m (x.cut v from);
  newcomer = x.newcomer;
  together = x.together ∙ together-later h k w r.previous i.view.members m led.complete;
  same = λ n j s install report from.
      let was = sym (m.installs w n led.entered) ∙ install in
      x.same n j s was (sym (report-same h k n w m (led.answered n j was)) ∙ report) from;
  coordinator = λ e v entry from came.
      let was = sym (entry-same h k w.creator w m led.entered) ∙ entry in
      ap length (m.left w.creator v w e was from) ∙ x.coordinator e v was from came;
}

pub instruction-later : (h k : History) (p q : Address) (i : wire.Install) → Later h k → IsInstruction h p q i → IsInstruction k p q i
instruction-later h k p q i m x =
    let w = i.view.id in
    record {
      own = x.own;
      other = x.other;
      one = m.install w q i x.one;
      listed = x.listed;
      led = led-later h k w i m x.led;
      fits = λ r y. fitting-later h k w q i r m x.led (x.fits r (sym (report-same h k q w m (x.led.answered q i x.one)) ∙ y));
    }

-- ---- the order's packets

pub coordinator-later : (h k : History) (p : Address) (v : ViewId) → Later h k → IsCoordinator h.trace p v → IsCoordinator k.trace p v
coordinator-later h k p v m x = record { own = x.own; entered = entered-later h k p v m x.entered }

coordinator-entered : (t : List Event) (p : Address) (v : ViewId) → IsCoordinator t p v → is_some (entry_of v.creator v t) ≡ true
coordinator-entered t p v x = ap (λ q. is_some (entry_of q v t)) x.own ∙ x.entered

pub order-later : (h k : History) (p : Address) (v : ViewId) (g : ℕ) (e : Entry) → Later h k → IsOrder h.trace p v g e → IsOrder k.trace p v g e
order-later h k p v g e m x = record {
  coordinator = coordinator-later h k p v m x.coordinator;
  order = ordered-later h k v g e m x.order;
  near = all_have-later h k v g _ m (coordinator-entered h.trace p v x.coordinator) x.near;
}

pub status-later : (h k : History) (p : Address) (v : ViewId) (n : ℕ) → Later h k → IsStatus h.trace p v n → IsStatus k.trace p v n
status-later h k p v n m x = record {
  coordinator = coordinator-later h k p v m x.coordinator;
  all = all_have-later h k v n 0 m (coordinator-entered h.trace p v x.coordinator) x.all;
}

ack-later : (h k : History) (p : Address) (v : ViewId) (n : ℕ) → Later h k → n ≤ open_count p v h.trace → n ≤ open_count p v k.trace
ack-later h k p v n m x = let more = m.count p v in omega arith

-- ---- all packets

pub body-later : (h k : History) (p q : Address) (b : Body) → Later h k → BodyFact h p q b → BodyFact k p q b
body-later h k p q bodies.Join m x = x
body-later h k p q (bodies.Redirect coordinator) m x = x
body-later h k p q bodies.Leave m x = x
body-later h k p q (bodies.Forward view number payload) m x = sent-later h k view (record { sender = p; number = number; payload = payload }) m x
body-later h k p q (bodies.Order view place entry) m x = order-later h k p view place entry m x
body-later h k p q (bodies.Nak view missing) m x = x
body-later h k p q (bodies.Ack view delivered) m x = ack-later h k p view delivered m x
body-later h k p q (bodies.Status view progress) m x = status-later h k p view progress.stable m x
body-later h k p q (bodies.Flush proposal) m x = proposal-later h k p proposal m x
body-later h k p q (bodies.Behind proposal counter) m x = x
body-later h k p q (bodies.Report proposal report) m x = answer-later h k p proposal report m x
body-later h k p q (bodies.Install install) m x = instruction-later h k p q install m x
body-later h k p q (bodies.Merge view) m x = x
body-later h k p q (bodies.State proposal chunk) m x = x

pub packet-later : (h k : History) (p : Posted) → Later h k → PacketFact h p → PacketFact k p
packet-later h k p m x = body-later h k p.source p.destination p.body m x

-- ---- installs

pub is_entry-later : (h k : History) (q : Address) (w : ViewId) (e : Install) → Later h k → entry_of q w h.trace ≡ Some e → IsEntry h q w e → IsEntry k q w e
is_entry-later h k q w e m entry x = record {
  led = entered-later h k w.creator w m x.led;
  from = goes-same h k w q m (ap is_some x.from) ∙ x.from;
  complete = complete-later h k w e.view.members m x.complete;
  together = x.together ∙ together-later h k w e.previous e.view.members m x.complete;
  instructed = λ other. ap is_some (m.installs w q x.led) ∙ x.instructed other;
  end = λ i v other install from. ap length (m.left q v w e entry from) ∙ x.end i v other (sym (m.installs w q x.led) ∙ install) from;
}
