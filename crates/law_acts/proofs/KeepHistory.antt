-- What a history keeps when it goes on: what was said first stays, lists grow at their ends, lists of views that their member left stay.
use Rattle.std.proofs.Common.{◌≡◌, ℕ, ◌≤◌, Bool, true, false, Option, Some, None, List, [], ◌∷◌, ◌++◌, refl, sym, ap, ◌∙◌, subst, arith, is_some}
use Rattle.std.specs.Prelude.{slice_get}
use Rattle.address.specs.Ids.{Address, ViewId, same_address, same_view_id}
use Rattle.wire_values.specs.Values.{Entry, Report}
use Rattle.wire_values.specs.Values as wire
use Rattle.wire_values.specs.Posted.{Posted}
use Rattle.trace_props.specs.declared.event.Event.{Event}
use Rattle.trace_props.specs.declared.event.Event.TheVariants.{Started, Sent, Delivered, Blocked, Installed, Left, Crashed}
use Rattle.trace_props.specs.declared.event.Delivery.{Delivery}
use Rattle.trace_props.specs.declared.event.Sending.{Sending}
use Rattle.trace_props.specs.declared.event.Numbered.{Numbered}
use Rattle.trace_props.specs.declared.event.Install.{Install}
use Rattle.trace_props.specs.Observed.{current_view, sent_in, entry_of}
use Rattle.trace_props.specs.Rules.{MayStand, HasRisingViews}
use Rattle.trace_props.proofs.RulesAlongLists.{slice_get-before}
use Rattle.address.proofs.SameIds.{same_address-true}
use Rattle.trace_props.proofs.InstallsOfRisingViews.{gone}
use Rattle.trace_props.proofs.DeliveredGrow.{enters, is_delivery_to, is_delivery_to-true, said_by, sent_in-still, sent_in-miss, sent_in-hit, register-stands, register-stays}
use Rattle.std.proofs.lemmas.Bool.{and_parts}
use Rattle.law_acts.specs.Words.{entry_for, list_of, tally_of, open_count, IsClosed}
use Rattle.law_acts.specs.Histories.{History, flush_of, report_of, install_of}
use Rattle.law_acts.proofs.Lists.{first_of-kept}
use Rattle.law_acts.proofs.TalliesGrow.{list_of-still, list_of-miss, list_of-hit, tally_of-closed, open_count-grows}

-- ---- registers

pub flush_of-kept : (w : ViewId) (pool more : List Posted) (l : List Address) → flush_of w pool ≡ Some l → flush_of w (pool ++ more) ≡ Some l
unfolding flush_of
flush_of-kept w pool more l e = first_of-kept _ pool more l e

pub report_of-kept : (p : Address) (w : ViewId) (pool more : List Posted) (r : Report) → report_of p w pool ≡ Some r → report_of p w (pool ++ more) ≡ Some r
unfolding report_of
report_of-kept p w pool more r e = first_of-kept _ pool more r e

pub install_of-kept : (w : ViewId) (q : Address) (pool more : List Posted) (i : wire.Install) → install_of w q pool ≡ Some i → install_of w q (pool ++ more) ≡ Some i
unfolding install_of
install_of-kept w q pool more i e = first_of-kept _ pool more i e

pub entry_of-kept : (p : Address) (v : ViewId) (t u : List Event) (e : Install) → entry_of p v t ≡ Some e → entry_of p v (t ++ u) ≡ Some e
entry_of-kept p v t u e x = register-stays (enters p v) t u e x

-- ---- later

pub record Later (h k : History) : Type 0 where
  -- what was said first is what was said first
  pub flush : (w : ViewId) (l : List Address) → flush_of w h.pool ≡ Some l → flush_of w k.pool ≡ Some l
  pub report : (p : Address) (w : ViewId) (r : Report) → report_of p w h.pool ≡ Some r → report_of p w k.pool ≡ Some r
  pub install : (w : ViewId) (q : Address) (i : wire.Install) → install_of w q h.pool ≡ Some i → install_of w q k.pool ≡ Some i
  pub entry : (p : Address) (v : ViewId) (e : Install) → entry_of p v h.trace ≡ Some e → entry_of p v k.trace ≡ Some e
  -- what was delivered and sent stays at its place
  pub list : (p : Address) (v : ViewId) (n : ℕ) (e : Entry) → slice_get (list_of p v h.trace) n ≡ Some e → slice_get (list_of p v k.trace) n ≡ Some e
  pub sent : (p : Address) (v : ViewId) (n : ℕ) (m : Numbered) → slice_get (sent_in p v h.trace) n ≡ Some m → slice_get (sent_in p v k.trace) n ≡ Some m
  -- who left a view delivers nothing more there
  pub left : (p : Address) (v w : ViewId) (e : Install) → entry_of p w h.trace ≡ Some e → e.previous ≡ Some v → list_of p v k.trace ≡ list_of p v h.trace
  pub count : (p : Address) (v : ViewId) → open_count p v h.trace ≤ open_count p v k.trace
  pub closed : (p : Address) (v : ViewId) → IsClosed p v h.trace → tally_of p v k.trace ≡ tally_of p v h.trace
  -- once a view's coordinator has installed it nobody else is instructed to
  pub installs : (w : ViewId) (q : Address) → is_some (entry_of w.creator w h.trace) ≡ true → install_of w q k.pool ≡ install_of w q h.pool

pub later-refl : (h : History) → Later h h
later-refl h = record {
  flush = λ w l x. x;
  report = λ p w r x. x;
  install = λ w q i x. x;
  entry = λ p v e x. x;
  list = λ p v n e x. x;
  sent = λ p v n m x. x;
  left = λ p v w e x y. refl;
  count = λ p v. omega arith;
  closed = λ p v c. refl;
  installs = λ w q x. refl;
}

still-some : {X : Type 0} (P : X → Type 0) (o : Option X) (b : Option X) → ((x : X) → o ≡ Some x → b ≡ Some x) → is_some o ≡ true → is_some b ≡ true
still-some P None b kept there = absurd (let n : false ≡ true = there in cc)
still-some P (Some x) b kept there = ap is_some (kept x refl)

-- what is there is there later
pub entered-later : (h k : History) (p : Address) (w : ViewId) → Later h k → is_some (entry_of p w h.trace) ≡ true → is_some (entry_of p w k.trace) ≡ true
entered-later h k p w m there = still-some (λ e. Unit {0}) (entry_of p w h.trace) (entry_of p w k.trace) (λ e x. m.entry p w e x) there

pub later-trans : (h k l : History) → Later h k → Later k l → Later h l
later-trans h k l a b = record {
  flush = λ w x y. b.flush w x (a.flush w x y);
  report = λ p w r x. b.report p w r (a.report p w r x);
  install = λ w q i x. b.install w q i (a.install w q i x);
  entry = λ p v e x. b.entry p v e (a.entry p v e x);
  list = λ p v n e x. b.list p v n e (a.list p v n e x);
  sent = λ p v n m x. b.sent p v n m (a.sent p v n m x);
  left = λ p v w e x y. b.left p v w e (a.entry p w e x) y ∙ a.left p v w e x y;
  count = λ p v. let x = a.count p v in let y = b.count p v in omega arith;
  closed = λ p v c. b.closed p v (ap (λ s. s.phase) (a.closed p v c) ∙ c) ∙ a.closed p v c;
  installs = λ w q x. b.installs w q (entered-later h k w.creator w a x) ∙ a.installs w q x;
}

-- ---- packets more

-- no packet instructs one to go into a view that its coordinator has installed
pub record InstructsNobodyNew (h : History) (more : List Posted) : Type 0 where
  pub same : (w : ViewId) (q : Address) → is_some (entry_of w.creator w h.trace) ≡ true → install_of w q (h.pool ++ more) ≡ install_of w q h.pool

pub later-packets : (h : History) (more : List Posted) → InstructsNobodyNew h more → Later h (record { pool = h.pool ++ more; trace = h.trace })
later-packets h more none = record {
  flush = λ w l x. flush_of-kept w h.pool more l x;
  report = λ p w r x. report_of-kept p w h.pool more r x;
  install = λ w q i x. install_of-kept w q h.pool more i x;
  entry = λ p v e x. x;
  list = λ p v n e x. x;
  sent = λ p v n m x. x;
  left = λ p v w e x y. refl;
  count = λ p v. omega arith;
  closed = λ p v c. refl;
  installs = λ w q x. none.same w q x;
}

-- ---- one event more

list-delivered : (b : Bool) (p : Address) (v : ViewId) (t : List Event) (d : Delivery) (n : ℕ) (e : Entry) → is_delivery_to p v d ≡ b
    → slice_get (list_of p v t) n ≡ Some e → slice_get (list_of p v (t ++ Delivered d ∷ [])) n ≡ Some e
list-delivered true p v t d n e test x =
    subst (λ l. slice_get l n ≡ Some e) (sym (list_of-hit p v t d test)) (slice_get-before (list_of p v t) (entry_for d.message ∷ []) n e x)
list-delivered false p v t d n e test x = subst (λ l. slice_get l n ≡ Some e) (sym (list_of-miss p v t d test)) x

pub list_of-grows : (p : Address) (v : ViewId) (t : List Event) (h : Event) (n : ℕ) (e : Entry) → slice_get (list_of p v t) n ≡ Some e
    → slice_get (list_of p v (t ++ h ∷ [])) n ≡ Some e
list_of-grows p v t (Started q) n e x = subst (λ l. slice_get l n ≡ Some e) (sym (list_of-still p v t (Started q) refl)) x
list_of-grows p v t (Sent m) n e x = subst (λ l. slice_get l n ≡ Some e) (sym (list_of-still p v t (Sent m) refl)) x
list_of-grows p v t (Delivered d) n e x = list-delivered (is_delivery_to p v d) p v t d n e refl x
list_of-grows p v t (Blocked q) n e x = subst (λ l. slice_get l n ≡ Some e) (sym (list_of-still p v t (Blocked q) refl)) x
list_of-grows p v t (Installed i) n e x = subst (λ l. slice_get l n ≡ Some e) (sym (list_of-still p v t (Installed i) refl)) x
list_of-grows p v t (Left q) n e x = subst (λ l. slice_get l n ≡ Some e) (sym (list_of-still p v t (Left q) refl)) x
list_of-grows p v t (Crashed q) n e x = subst (λ l. slice_get l n ≡ Some e) (sym (list_of-still p v t (Crashed q) refl)) x

sent-said : (b : Bool) (p : Address) (v : ViewId) (t : List Event) (s : Sending) (n : ℕ) (m : Numbered) → said_by p v s ≡ b
    → slice_get (sent_in p v t) n ≡ Some m → slice_get (sent_in p v (t ++ Sent s ∷ [])) n ≡ Some m
sent-said true p v t s n m test x = subst (λ l. slice_get l n ≡ Some m) (sym (sent_in-hit p v t s test)) (slice_get-before (sent_in p v t) (s.message ∷ []) n m x)
sent-said false p v t s n m test x = subst (λ l. slice_get l n ≡ Some m) (sym (sent_in-miss p v t s test)) x

pub sent_in-grows : (p : Address) (v : ViewId) (t : List Event) (h : Event) (n : ℕ) (m : Numbered) → slice_get (sent_in p v t) n ≡ Some m
    → slice_get (sent_in p v (t ++ h ∷ [])) n ≡ Some m
sent_in-grows p v t (Started q) n m x = subst (λ l. slice_get l n ≡ Some m) (sym (sent_in-still p v t (Started q) refl)) x
sent_in-grows p v t (Sent s) n m x = sent-said (said_by p v s) p v t s n m refl x
sent_in-grows p v t (Delivered d) n m x = subst (λ l. slice_get l n ≡ Some m) (sym (sent_in-still p v t (Delivered d) refl)) x
sent_in-grows p v t (Blocked q) n m x = subst (λ l. slice_get l n ≡ Some m) (sym (sent_in-still p v t (Blocked q) refl)) x
sent_in-grows p v t (Installed i) n m x = subst (λ l. slice_get l n ≡ Some m) (sym (sent_in-still p v t (Installed i) refl)) x
sent_in-grows p v t (Left q) n m x = subst (λ l. slice_get l n ≡ Some m) (sym (sent_in-still p v t (Left q) refl)) x
sent_in-grows p v t (Crashed q) n m x = subst (λ l. slice_get l n ≡ Some m) (sym (sent_in-still p v t (Crashed q) refl)) x

-- a delivery is in no view that its member left
left-delivered : (b : Bool) (t : List Event) (d : Delivery) (p : Address) (v w : ViewId) (e : Install) → is_delivery_to p v d ≡ b → HasRisingViews t → MayStand t (Delivered d)
    → entry_of p w t ≡ Some e → e.previous ≡ Some v → list_of p v (t ++ Delivered d ∷ []) ≡ list_of p v t
left-delivered false t d p v w e test views stands x came = list_of-miss p v t d test
left-delivered true t d p v w e test views stands x came =
    let at = register-stands (enters p w) t e x in
    let same = is_delivery_to-true p v d test in
    let itself = same_address-true e.member p (and_parts (same_address e.member p) (same_view_id e.view.id w) at.passes).0 in
    absurd (gone t views at.place e at.stands v came (ap (λ q. current_view q t) itself ∙ ap (λ q. current_view q t) (sym same.0) ∙ stands.1 ∙ ap Some same.1))

left-stays : (t : List Event) (h : Event) (p : Address) (v w : ViewId) (e : Install) → HasRisingViews t → MayStand t h → entry_of p w t ≡ Some e → e.previous ≡ Some v
    → list_of p v (t ++ h ∷ []) ≡ list_of p v t
left-stays t (Started q) p v w e views stands x came = list_of-still p v t (Started q) refl
left-stays t (Sent m) p v w e views stands x came = list_of-still p v t (Sent m) refl
left-stays t (Delivered d) p v w e views stands x came = left-delivered (is_delivery_to p v d) t d p v w e refl views stands x came
left-stays t (Blocked q) p v w e views stands x came = list_of-still p v t (Blocked q) refl
left-stays t (Installed i) p v w e views stands x came = list_of-still p v t (Installed i) refl
left-stays t (Left q) p v w e views stands x came = list_of-still p v t (Left q) refl
left-stays t (Crashed q) p v w e views stands x came = list_of-still p v t (Crashed q) refl

pub later-event : (h : History) (x : Event) → HasRisingViews h.trace → MayStand h.trace x → Later h (record { pool = h.pool; trace = h.trace ++ x ∷ [] })
later-event h x views stands = record {
  flush = λ w l y. y;
  report = λ p w r y. y;
  install = λ w q i y. y;
  entry = λ p v e y. entry_of-kept p v h.trace (x ∷ []) e y;
  list = λ p v n e y. list_of-grows p v h.trace x n e y;
  sent = λ p v n m y. sent_in-grows p v h.trace x n m y;
  left = λ p v w e y z. left-stays h.trace x p v w e views stands y z;
  count = λ p v. open_count-grows p v h.trace x;
  closed = λ p v c. tally_of-closed p v h.trace x c;
  installs = λ w q y. refl;
}
