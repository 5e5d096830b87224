-- The cut of a flush, over reports that are real: it agrees with the order, begins at most where each reporter was and reaches at least there.
use Rattle.std.proofs.Common.{◌≡◌, ℕ, zero, suc, ◌+◌, ◌<◌, ◌≤◌, Bool, true, false, cond, Option, Some, None, List, [], ◌∷◌, length, map, filter, refl, sym, ap, ◌∙◌, subst, arith, is_some}
use Rattle.std.specs.Prelude.{slice_get, nat_lt, MatchBool}
use Rattle.std.specs.Option.{ForSome, option_eq}
use Rattle.std.proofs.lemmas.Bool.Decides.{nat_tests}
use Rattle.std.proofs.lemmas.Option.{none-some, same_Some}
use Rattle.address.specs.Ids.{Address, ViewId, same_address, same_view_id}
use Rattle.view.specs.Members.{View}
use Rattle.wire_values.specs.Values.{Entry, held_at, Report}
use Rattle.wire_values.specs.Values as wire
use Rattle.flush.specs.Cuts.{greatest_stable, IsCut}
use Rattle.flush.specs.Flushes.{FlushModel, comes_from, group}
use Rattle.flush.proofs.Covers.{first-stands, none-gives, stable-le, greatest-le}
use Rattle.trace_props.specs.declared.event.Event.{Event}
use Rattle.address.proofs.SameIds.{same_view_id-true}
use Rattle.law_acts.specs.Histories.{History, report_of}
use Rattle.law_acts.specs.Cores.{ViewCore, report_with}
use Rattle.law_acts.specs.Packets.{SaysOf, IsCutOf}
use Rattle.law_acts.specs.Members.{IsRecorded, RunsFlush, ViewFact}
use Rattle.law_acts.specs.Invariant.{EachPacket}
use Rattle.law_acts.proofs.RegistersHoldPackets.{report-fact}
use Rattle.law_acts.proofs.PromisesBlock.{says_of}

-- ---- each report of a group

pub option_eq-some : (o : Option ViewId) (v : ViewId) → option_eq same_view_id o (Some v) ≡ true → o ≡ Some v
option_eq-some None v e = absurd (let n : false ≡ true = e in cc)
option_eq-some (Some u) v e = ap Some (same_view_id-true u v e)

-- a report from a view, by somebody, that says what is so of it
pub record IsReportFrom (t : List Event) (v : ViewId) (r : Report) : Type 0 where
  pub reporter : Address
  pub says_of : SaysOf t reporter r v

-- what holds of those that pass holds of all that a filter keeps
pub filter-each : {X : Type 0} (P : X → Type 0) (test : X → Bool) (l : List X) → ((k : ℕ) (x : X) → slice_get l k ≡ Some x → test x ≡ true → P x)
    → (k : ℕ) (x : X) → slice_get (filter test l) k ≡ Some x → P x
filter-each P test [] each k x at = absurd (none-some x at)
filter-each P test (z ∷ l) each k x at = by (test z) refl k at (filter-each P test l (λ j y a p. each (suc j) y a p))
  where
    by : (b : Bool) → test z ≡ b → (k : ℕ) → slice_get (cond b (z ∷ filter test l) (filter test l)) k ≡ Some x → ((j : ℕ) (y : _) → slice_get (filter test l) j ≡ Some y → P y) → P x
    by true e zero at later = subst P (same_Some z x at) (each 0 z refl e)
    by true e (suc k) at later = later k x at
    by false e k at later = later k x at

pub map-at : {X Y : Type 0} (P : Y → Type 0) (f : X → Y) (l : List X) → ((k : ℕ) (x : X) → slice_get l k ≡ Some x → P (f x)) → (k : ℕ) (y : Y) → slice_get (map f l) k ≡ Some y → P y
map-at P f [] each k y at = absurd (none-some y at)
map-at P f (x ∷ l) each zero y at = subst P (same_Some (f x) y at) (each 0 x refl)
map-at P f (x ∷ l) each (suc k) y at = map-at P f l (λ j z a. each (suc j) z a) k y at

-- each that was recorded is real: the own one by what holds of the member, the others by what holds of their packets
recorded-by : (b : Bool) (h : History) (p : Address) (w : ViewId) (mine : Report) (x : Address × Report) → EachPacket h → ForSome mine.previous (SaysOf h.trace p mine)
    → MatchBool b (x.1 ≡ mine) (report_of x.0 w h.pool ≡ Some x.1) → (v : ViewId) → x.1.previous ≡ Some v → IsReportFrom h.trace v x.1
recorded-by true h p w mine x each own same v from =
    record { reporter = p; says_of = subst (λ (r : Report). SaysOf h.trace p r v) (sym same) (own v (ap (λ (r : Report). r.previous) (sym same) ∙ from)) }
recorded-by false h p w mine x each own one v from = record { reporter = x.0; says_of = (report-fact h x.0 w x.1 each one).true_of v from }

pub group-real : (h : History) (p : Address) (w : ViewId) (mine : Report) (reports : List (Address × Report)) (v : ViewId) → EachPacket h → ForSome mine.previous (SaysOf h.trace p mine)
    → ((k : ℕ) (x : Address × Report) → slice_get reports k ≡ Some x → IsRecorded h.pool p w mine x)
    → (k : ℕ) (r : Report) → slice_get (group (Some v) reports) k ≡ Some r → IsReportFrom h.trace v r
group-real h p w mine reports v each own recorded k r at =
    filter-each (IsReportFrom h.trace v) (comes_from (Some v)) (map (λ x. x.1) reports)
    (λ j s a passes.
    map-at (λ (y : Report). y.previous ≡ Some v → IsReportFrom h.trace v y) (λ (x : Address × Report). x.1) reports
    (λ n x b from. recorded-by (same_address x.0 p) h p w mine x each own (recorded n x b) v from)
    j s a (option_eq-some s.previous v passes))
    k r at

-- ---- the cut

reaches : (b : Bool) (t : List Event) (v : ViewId) (rs : List Report) (base : ℕ) (items : List Entry) (k : ℕ) (r : Report) → nat_lt (base + length items) r.delivered ≡ b
    → IsCut rs base items → slice_get rs k ≡ Some r → IsReportFrom t v r → r.delivered ≤ base + length items
reaches false t v rs base items k r test cut at x = grind (arith, nat_tests)
reaches true t v rs base items k r test cut at x =
    let past : base + length items < r.delivered = grind (arith, nat_tests) in
    let g = base + length items + 1 in
    let low : r.stable ≤ base = subst (λ n. r.stable ≤ n) (sym cut.base) (stable-le rs k r at) in
    let there : is_some (held_at g r.held) ≡ true = x.says_of.all g (omega arith) (omega arith) in
    let gone : held_at g r.held ≡ None = none-gives (λ (s : Report). held_at g s.held) rs cut.end k r at in
    absurd (let n : false ≡ true = sym (ap is_some gone) ∙ there in cc)

-- a cut of real reports from a view is a cut of its order for each of them
pub cut-real : (t : List Event) (v : ViewId) (rs : List Report) (base : ℕ) (items : List Entry) → ((k : ℕ) (r : Report) → slice_get rs k ≡ Some r → IsReportFrom t v r) → IsCut rs base items
    → (k : ℕ) (r : Report) → slice_get rs k ≡ Some r → IsCutOf t base items r v
cut-real t v rs base items real cut k r at =
    let x = real k r at in
    let most : greatest_stable rs ≤ r.delivered = greatest-le r.delivered rs (λ j s b.
    let y = real j s b in
    let reached = y.says_of.stable x.reporter x.says_of.member in
    let same = x.says_of.delivered in
    omega arith) in
    record {
      low = subst (λ n. n ≤ r.delivered) (sym cut.base) most;
      high = reaches (nat_lt (base + length items) r.delivered) t v rs base items k r refl cut at x;
      order = λ j e b.
          let s = first-stands (λ (z : Report). held_at (base + j + 1) z.held) rs e (cut.each j e b) in
          (real s.index s.element s.stands).says_of.order (base + j + 1) e s.gives (base + j) refl;
    }

-- the cut of a flush that a member runs, for each report of a view
pub flush-cut : (h : History) (p : Address) (promise : Option View) (view : Option View) (view_state : ViewCore) (kept : List (Address × wire.Install)) (f : FlushModel) (v : ViewId) (base : ℕ)
    (items : List Entry) → EachPacket h → RunsFlush h.pool p promise false view view_state f → ForSome view (ViewFact h p false view_state kept) → IsCut (group (Some v) f.reports) base items
    → (k : ℕ) (r : Report) → slice_get (group (Some v) f.reports) k ≡ Some r → IsCutOf h.trace base items r v
flush-cut h p promise view view_state kept f v base items each x fact cut =
    cut-real h.trace v (group (Some v) f.reports) base items
    (group-real h p f.proposal (report_with view view_state) f.reports v each (says_of h p view view_state kept fact) x.recorded) cut
