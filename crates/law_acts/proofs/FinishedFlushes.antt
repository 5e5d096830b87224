-- What each of the list of a flush reported, and what is so of the instructions once its coordinator has installed the proposal.
use Rattle.std.proofs.Common.{◌≡◌, ℕ, zero, suc, ◌+◌, Bool, true, false, cond, not, Option, Some, None, List, [], ◌∷◌, length, map, filter, refl, sym, ap, ◌∙◌, subst, is_some, unwrap_or}
use Rattle.std.specs.Prelude.{slice_get, MatchBool}
use Rattle.std.specs.Option.{ForSome, option_map_or, option_eq}
use Rattle.std.proofs.lemmas.Option.{none-some, same_Some}
use Rattle.address.specs.Ids.{Address, ViewId, same_address, same_view_id}
use Rattle.view.specs.Members.{View, stands_in}
use Rattle.wire_values.specs.Values.{Report}
use Rattle.wire_values.specs.Values as wire
use Rattle.wire_values.specs.declared.values.state.GivenState.{GivenState}
use Rattle.flush.specs.Flushes.{FlushModel, report_from, comes_from, has_come_from, group, together_of}
use Rattle.trace_props.specs.declared.event.Install.{Install}
use Rattle.trace_props.specs.Observed.{entry_of}
use Rattle.address.proofs.SameIds.{same_address-true, same_address-from}
use Rattle.law_acts.specs.Words.{list_of}
use Rattle.law_acts.specs.Histories.{History, flush_of, report_of, install_of, goes_from, goes_with}
use Rattle.law_acts.specs.Acts.{Cuts, proposed, others_of, base_for, items_for, instruction, instruction_for}
use Rattle.law_acts.specs.Packets.{end_of, IsCutOf, AllAnswered, IsFitting, IsInstruction}
use Rattle.law_acts.specs.Members.{IsRecorded}
use Rattle.law_acts.proofs.Lists.{filter-same}
use Rattle.law_acts.proofs.EntrantsMeet.{goes-reported, previous-refl}
use Rattle.law_acts.proofs.KeepByFirstInstall.{coordinator-goes}
use Rattle.law_acts.proofs.InstructionsPutOut.{others-other}
use Rattle.view.proofs.MembersListed.{filter-within}
use Rattle.address.proofs.Plain.{found}

-- ---- where a report stands

pub record Recorded (reports : List (Address × Report)) (q : Address) (r : Report) : Type 0 where
  pub place : ℕ
  pub it : Address × Report
  pub stands : slice_get reports place ≡ Some it
  pub reporter : it.0 ≡ q
  pub report : it.1 ≡ r

recorded-by : (b : Bool) (x : Address × Report) (reports : List (Address × Report)) (q : Address) (r : Report) → same_address q x.0 ≡ b → cond b (Some x.1) (report_from q reports) ≡ Some r
    → (report_from q reports ≡ Some r → Recorded reports q r) → Recorded (x ∷ reports) q r
recorded-by true x reports q r e is later = record { place = 0; it = x; stands = refl; reporter = sym (same_address-true q x.0 e); report = same_Some x.1 r is }
recorded-by false x reports q r e is later =
    let y = later is in record { place = suc y.place; it = y.it; stands = y.stands; reporter = y.reporter; report = y.report }

-- a report from an address was recorded
pub report-recorded : (reports : List (Address × Report)) (q : Address) (r : Report) → report_from q reports ≡ Some r → Recorded reports q r
report-recorded [] q r e = absurd (none-some r e)
report-recorded (x ∷ reports) q r e = recorded-by (same_address q x.0) x reports q r refl e (report-recorded reports q r)

filter-step : {X : Type 0} (c : Bool) (z x : X) (rest : List X) → ((j : ℕ) × (slice_get rest j ≡ Some x)) → (j : ℕ) × (slice_get (cond c (z ∷ rest) rest) j ≡ Some x)
filter-step true z x rest at = (suc at.0, at.1)
filter-step false z x rest at = at

filter-here : {X : Type 0} (c : Bool) (z x : X) (rest : List X) → z ≡ x → c ≡ true → (j : ℕ) × (slice_get (cond c (z ∷ rest) rest) j ≡ Some x)
filter-here true z x rest same e = (0, ap Some same)
filter-here false z x rest same e = absurd (let n : false ≡ true = e in cc)

-- what passes is kept by a filter, at some place
filter-at : {X : Type 0} (test : X → Bool) (l : List X) (k : ℕ) (x : X) → slice_get l k ≡ Some x → test x ≡ true → (j : ℕ) × (slice_get (filter test l) j ≡ Some x)
filter-at test [] k x at passes = absurd (none-some x at)
filter-at test (z ∷ l) zero x at passes = let same = same_Some z x at in filter-here (test z) z x (filter test l) same (ap test same ∙ passes)
filter-at test (z ∷ l) (suc k) x at passes = filter-step (test z) z x (filter test l) (filter-at test l k x at passes)

reports-at : (reports : List (Address × Report)) (k : ℕ) (x : Address × Report) → slice_get reports k ≡ Some x → slice_get (map (λ y. y.1) reports) k ≡ Some x.1
reports-at [] k x at = absurd (none-some x at)
reports-at (z ∷ reports) zero x at = ap Some (ap (λ (y : Address × Report). y.1) (same_Some z x at))
reports-at (z ∷ reports) (suc k) x at = reports-at reports k x at

-- a report from a view is among those of the view
pub in-group : (reports : List (Address × Report)) (q : Address) (r : Report) (v : Option ViewId) → report_from q reports ≡ Some r → r.previous ≡ v
    → (j : ℕ) × (slice_get (group v reports) j ≡ Some r)
in-group reports q r v e from =
    let y = report-recorded reports q r e in
    filter-at (comes_from v) (map (λ x. x.1) reports) y.place r (reports-at reports y.place y.it y.stands ∙ ap Some y.report)
    (ap (λ (o : Option ViewId). option_eq same_view_id o v) from ∙ previous-refl v)

-- ---- once the coordinator has installed the proposal

pub record IsFinished (k : History) (p : Address) (mine : Report) (f : FlushModel) (e : Install) : Type 0 where
  pub own : f.proposal.creator ≡ p
  pub announced : (q : Address) → stands_in q f.members ≡ true → same_address q p ≡ false → flush_of f.proposal k.pool ≡ Some f.members
  pub entry : entry_of p f.proposal k.trace ≡ Some e
  pub view : e.view ≡ proposed f
  pub previous : e.previous ≡ mine.previous
  pub itself : report_from p f.reports ≡ Some mine
  pub recorded : (n : ℕ) (x : Address × Report) → slice_get f.reports n ≡ Some x → IsRecorded k.pool p f.proposal mine x
  pub all : (q : Address) → stands_in q f.members ≡ true → is_some (report_from q f.reports) ≡ true

reported-by : (b : Bool) (k : History) (p q : Address) (w : ViewId) (mine r : Report) (x : Address × Report) → same_address q p ≡ b → x.0 ≡ q → x.1 ≡ r → IsRecorded k.pool p w mine x
    → MatchBool b (r ≡ mine) (report_of q w k.pool ≡ Some r)
reported-by b k p q w mine r x test at is fact =
    subst (λ (c : Bool). MatchBool c (r ≡ mine) (report_of q w k.pool ≡ Some r)) test
    (subst (λ (s : Report). MatchBool (same_address q p) (s ≡ mine) (report_of q w k.pool ≡ Some s)) is
    (subst (λ (a : Address). MatchBool (same_address a p) (x.1 ≡ mine) (report_of a w k.pool ≡ Some x.1)) at fact))

-- the report that a flush has of another was put out, and that of its coordinator is its own
pub reported-other : (k : History) (p q : Address) (mine r : Report) (f : FlushModel) (e : Install) → IsFinished k p mine f e → same_address q p ≡ false → report_from q f.reports ≡ Some r
    → report_of q f.proposal k.pool ≡ Some r
reported-other k p q mine r f e x other from =
    let y = report-recorded f.reports q r from in reported-by false k p q f.proposal mine r y.it other y.reporter y.report (x.recorded y.place y.it y.stands)

goes-by : (b : Bool) (k : History) (p q : Address) (mine r : Report) (f : FlushModel) (e : Install) → same_address q p ≡ b → IsFinished k p mine f e → report_from q f.reports ≡ Some r
    → goes_from k f.proposal q ≡ Some r.previous
goes-by true k p q mine r f e test x from =
    let same = same_address-true q p test in
    let is : mine ≡ r = same_Some mine r (sym x.itself ∙ ap (λ z. report_from z f.reports) (sym same) ∙ from) in
    coordinator-goes k f.proposal q e (ap (λ z. same_address z f.proposal.creator) same ∙ same_address-from p f.proposal.creator (sym x.own)) (ap (λ z. entry_of z f.proposal k.trace) same ∙ x.entry)
    ∙ ap Some x.previous ∙ ap (λ (z : Report). Some z.previous) is
goes-by false k p q mine r f e test x from =
    goes-reported k f.proposal q r (ap (same_address q) x.own ∙ test) (reported-other k p q mine r f e x test from)

-- each goes from where it reported
pub goes-as : (k : History) (p q : Address) (mine r : Report) (f : FlushModel) (e : Install) → IsFinished k p mine f e → report_from q f.reports ≡ Some r → goes_from k f.proposal q ≡ Some r.previous
goes-as k p q mine r f e x from = goes-by (same_address q p) k p q mine r f e refl x from

-- so all of the list have said from where they come
pub all-answered : (k : History) (p : Address) (mine : Report) (f : FlushModel) (e : Install) → IsFinished k p mine f e → AllAnswered k f.proposal f.members
all-answered k p mine f e x q there = let r = found (report_from q f.reports) (x.all q there) in ap is_some (goes-as k p q mine r.0 f e x r.1)

-- together are those who go from one view
pub together-as : (k : History) (p q : Address) (mine r : Report) (f : FlushModel) (e : Install) → IsFinished k p mine f e → report_from q f.reports ≡ Some r
    → together_of q f ≡ filter (goes_with k f.proposal r.previous) f.members
together-as k p q mine r f e x from =
    ap (λ o. option_map_or (λ (s : Report). filter (λ m. has_come_from s.previous m f.reports) f.members) o []) from
    ∙ filter-same (λ m. has_come_from r.previous m f.reports) (goes_with k f.proposal r.previous) f.members (λ m there. let s = found (report_from m f.reports) (x.all m there) in
    ap (λ o. option_map_or (comes_from r.previous) o false) s.1 ∙ ap (λ o. option_map_or (λ u. option_eq same_view_id u r.previous) o false) (sym (goes-as k p m mine s.0 f e x s.1)))

-- ---- the instructions

-- an instruction is that for what its address reported
pub instruction-as : (f : FlushModel) (cuts : Cuts) (v : ViewId) (state : GivenState) (q : Address) (r : Report) → report_from q f.reports ≡ Some r
    → instruction_for f cuts v state q ≡ instruction f cuts v state q r
instruction-as f cuts v state q r from = ap (λ o. instruction f cuts v state q (unwrap_or o wire.nothing_reported)) from

-- what was put out for the view is exactly the instructions to the others of the list, at cuts of the views that were reported
pub record IsPutOut (k : History) (p : Address) (mine : Report) (f : FlushModel) (cuts : Cuts) (v : ViewId) (state : GivenState) : Type 0 where
  pub each : (q : Address) → stands_in q (others_of p f.members) ≡ true → install_of f.proposal q k.pool ≡ Some (instruction_for f cuts v state q)
  pub only : (q : Address) (j : wire.Install) → install_of f.proposal q k.pool ≡ Some j → (stands_in q (others_of p f.members) ≡ true) × (j ≡ instruction_for f cuts v state q)
  pub cut : (q : Address) (r : Report) (u : ViewId) → report_from q f.reports ≡ Some r → r.previous ≡ Some u → IsCutOf k.trace (cuts.base u) (cuts.items u) r u
  -- the coordinator too has delivered its view's order up to the cut's end
  pub own_end : (u : ViewId) → mine.previous ≡ Some u → length (list_of p u k.trace) ≡ cuts.base u + length (cuts.items u)

cut-as : (k : History) (cuts : Cuts) (r : Report) (o : Option ViewId) → ((u : ViewId) → o ≡ Some u → IsCutOf k.trace (cuts.base u) (cuts.items u) r u)
    → ForSome o (IsCutOf k.trace (base_for cuts o) (items_for cuts o) r)
cut-as k cuts r None cut v from = absurd (none-some v from)
cut-as k cuts r (Some u) cut v from = subst (IsCutOf k.trace (cuts.base u) (cuts.items u) r) (same_Some u v from) (cut u refl)

abbrev end_for : Cuts → Option ViewId → ℕ
end_for cuts o = base_for cuts o + length (items_for cuts o)

-- who was instructed to go into the view has reported, and was given its own instruction
pub instructed-report : (k : History) (p q : Address) (mine : Report) (f : FlushModel) (cuts : Cuts) (v : ViewId) (state : GivenState) (e : Install) (j : wire.Install) → IsFinished k p mine f e
    → IsPutOut k p mine f cuts v state → install_of f.proposal q k.pool ≡ Some j
    → (r : Report) × (report_from q f.reports ≡ Some r) × (report_of q f.proposal k.pool ≡ Some r) × (j ≡ instruction f cuts v state q r)
instructed-report k p q mine f cuts v state e j x y install =
    let instructed_so = y.only q j install in
    let s = found (report_from q f.reports) (x.all q (filter-within (λ r. not (same_address r p)) q f.members instructed_so.0)) in
    (s.0, s.1, reported-other k p q mine s.0 f e x (others-other p q f.members instructed_so.0) s.1, instructed_so.1 ∙ instruction-as f cuts v state q s.0 s.1)

fits-as : (k : History) (p q : Address) (mine r : Report) (f : FlushModel) (cuts : Cuts) (v : ViewId) (state : GivenState) (e : Install) → IsFinished k p mine f e
    → IsPutOut k p mine f cuts v state → report_from q f.reports ≡ Some r → IsFitting k f.proposal q (instruction f cuts v state q r) r
fits-as k p q mine r f cuts v state e x y from = record {
  cut = cut-as k cuts r r.previous (λ u is. y.cut q r u from is);
  newcomer = λ none. (ap (base_for cuts) none, ap (items_for cuts) none);
  together = together-as k p q mine r f e x from;
  same = λ m j s install report came.
      let t = instructed-report k p m mine f cuts v state e j x y install in
      let is : t.0 ≡ s = same_Some t.0 s (sym t.2 ∙ report) in
      ap end_of t.3 ∙ ap (λ (z : Report). end_for cuts z.previous) is ∙ ap (end_for cuts) came;
  coordinator = λ g u entry left came.
      let owner = ap (λ z. entry_of z f.proposal k.trace) x.own in
      let is : e ≡ g = same_Some e g (sym x.entry ∙ sym owner ∙ entry) in
      let mine_from : mine.previous ≡ Some u = sym x.previous ∙ ap (λ (z : Install). z.previous) is ∙ left in
      ap (λ z. length (list_of z u k.trace)) x.own ∙ y.own_end u mine_from ∙ ap (end_for cuts) (sym came);
}

-- an instruction is what it has to be
pub instructs : (k : History) (p q : Address) (mine : Report) (f : FlushModel) (cuts : Cuts) (v : ViewId) (state : GivenState) (e : Install) (u : ViewId) → IsFinished k p mine f e
    → mine.previous ≡ Some u → IsPutOut k p mine f cuts v state → stands_in q (others_of p f.members) ≡ true → IsInstruction k p q (instruction_for f cuts v state q)
instructs k p q mine f cuts v state e u x inside y there =
    let w = f.proposal in
    let listed = filter-within (λ r. not (same_address r p)) q f.members there in
    let s = found (report_from q f.reports) (x.all q listed) in
    let said = reported-other k p q mine s.0 f e x (others-other p q f.members there) s.1 in
    let entry : entry_of w.creator w k.trace ≡ Some e = ap (λ z. entry_of z w k.trace) x.own ∙ x.entry in
    record {
      own = x.own;
      other = others-other p q f.members there;
      one = y.each q there;
      listed = listed;
      led = record {
        announced = x.announced q listed (others-other p q f.members there);
        entered = ap is_some entry;
        members = ap (λ o. option_map_or (λ (i : Install). i.view.members) o []) entry ∙ ap (λ (z : View). z.members) x.view;
        from = λ g at. ap is_some (ap (λ (z : Install). z.previous) (same_Some g e (sym at ∙ entry)) ∙ x.previous ∙ inside);
        complete = all-answered k p mine f e x;
        answered = λ m j install. ap is_some (instructed-report k p m mine f cuts v state e j x y install).2;
      };
      fits = λ r report.
          subst (λ (z : Report). IsFitting k w q (instruction_for f cuts v state q) z) (same_Some s.0 r (sym said ∙ report))
          (subst (λ (i : wire.Install). IsFitting k w q i s.0) (sym (instruction-as f cuts v state q s.0 s.1)) (fits-as k p q mine s.0 f cuts v state e x y s.1));
    }
