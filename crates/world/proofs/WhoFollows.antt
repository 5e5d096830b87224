-- Whoever reported for a proposal whose flush goes on, and would accept it now, has promised it, did not install it, and holds no chunk of a state for it.
use Rattle.std.proofs.Common.{◌≡◌, ℕ, Bool, true, false, Option, Some, None, List, [], ◌∷◌, refl, sym, ap, ◌∙◌, subst, arith}
use Rattle.std.specs.Prelude.{if◌then◌else◌, slice_get}
use Rattle.std.specs.Option.{ForSome, IsSomeAnd, option_map_or}
use Rattle.std.specs.Ordering.{nat_cmp, ordering_then}
use Rattle.std.specs.declared.cmp.Ordering.{Ordering}
use Rattle.std.specs.declared.cmp.Ordering.TheVariants.{Less, Equal, Greater}
use Rattle.std.proofs.lemmas.Bool.Decides.{nat_tests}
use Rattle.std.proofs.lemmas.Option.{none-some, same_Some}
use Rattle.address.specs.Ids.{Address, ViewId, view_id_cmp, same_address}
use Rattle.address.proofs.SameIds.{same_address-sym}
use Rattle.view.specs.Members.{View, stands_in}
use Rattle.wire_values.specs.Values.{Chunk, Report}
use Rattle.state_transfer.specs.Meanings.{Meaning}
use Rattle.flush.specs.Flushes.{FlushModel}
use Rattle.view_install.specs.Promises.{answer_past, offered, is_accept}
use Rattle.view_install.specs.declared.promise.OfferAnswer.{OfferAnswer}
use Rattle.view_install.specs.declared.promise.OfferAnswer.TheVariants.{Accept, Ignore}
use Rattle.trace_props.specs.Rules.{IsBelow}
use Rattle.law_acts.specs.Histories.{flush_of, report_of}
use Rattle.law_acts.specs.Cores.{Core, id_of}
use Rattle.law_acts.specs.Given.{chunk_at}
use Rattle.trace_props.specs.State.{entry_state}
use Rattle.law_acts.specs.Acts.{proposed}
use Rattle.law_acts.specs.Decisions.{promise_of}
use Rattle.law_acts.specs.Steps.{System}
use Rattle.law_acts.specs.Members.{IsNotPast}
use Rattle.law_acts.specs.Invariant.{Invariant, ChunkFact}
use Rattle.law_acts.proofs.KeepTrace.{views-of}
use Rattle.law_acts.proofs.FirstToInstall.{none-of, unbegun}
use Rattle.trace_props.proofs.InstallsOfRisingViews.{not-entered}
use Rattle.trace_props.specs.declared.event.Install.{Install}
use Rattle.trace_props.specs.Observed.{current_view, entry_of}
use Rattle.view.proofs.MembersListed.{coordinator-in}
use Rattle.membership.specs.declared.member_state.MemberState.{MemberState}
use Rattle.membership.specs.MemberStates.{core_of, labelled}

-- ---- the order of ids

turned : (a b x y m n : ℕ) → ordering_then (nat_cmp a b) (ordering_then (nat_cmp x y) (nat_cmp m n)) ≡ Greater → ordering_then (nat_cmp b a) (ordering_then (nat_cmp y x) (nat_cmp n m)) ≡ Less
turned a b x y m n e = grind (arith, nat_tests)

pub below-greater : (v u : ViewId) → view_id_cmp v u ≡ Greater → IsBelow u v
below-greater v u e = turned v.counter u.counter v.creator.node u.creator.node v.creator.incarnation u.creator.incarnation e

level : (a b x y m n : ℕ) → ordering_then (nat_cmp a b) (ordering_then (nat_cmp x y) (nat_cmp m n)) ≡ Equal → (a ≡ b) × (x ≡ y) × (m ≡ n)
level a b x y m n e = (grind (arith, nat_tests), grind (arith, nat_tests), grind (arith, nat_tests))

pub equal-ids : (v u : ViewId) → view_id_cmp v u ≡ Equal → v ≡ u
equal-ids v u e =
    let z = level v.counter u.counter v.creator.node u.creator.node v.creator.incarnation u.creator.incarnation e in
    λ j. record { counter = z.0 j; creator = record { node = z.1 j; incarnation = z.2 j } }

-- ---- an offer that is accepted

-- it is listed
pub accept-listed : (b : Bool) (a : OfferAnswer) → is_accept (if b then a else Ignore) ≡ true → (b ≡ true) × (is_accept a ≡ true)
accept-listed true a e = (refl, e)
accept-listed false a e = absurd (let n : false ≡ true = e in cc)

-- what is not past the proposal, and would accept it, has promised it
pub record HasPromised (promise : Option View) (installed : Bool) (w : ViewId) : Type 0 where
  pub promised : View
  pub is : promise ≡ Some promised
  pub same : promised.id ≡ w
  pub waits : installed ≡ false

accept-by : (o : Ordering) (w : ViewId) (u : View) (installed : Bool) → view_id_cmp w u.id ≡ o → (IsBelow u.id w → ⊥) → is_accept (answer_past o u installed) ≡ true → HasPromised (Some u) installed w
accept-by Greater w u installed e past a = absurd (past (below-greater w u.id e))
accept-by Equal w u true e past a = absurd (let n : false ≡ true = a in cc)
accept-by Equal w u false e past a = record { promised = u; is = refl; same = sym (equal-ids w u.id e); waits = refl }
accept-by Less w u installed e past a = absurd (let n : false ≡ true = a in cc)

pub accept-promised : (promise : Option View) (installed : Bool) (w : View) → IsNotPast promise w.id
    → is_accept (option_map_or (λ u. answer_past (view_id_cmp w.id u.id) u installed) promise Accept) ≡ true → HasPromised promise installed w.id
accept-promised None installed w past a = absurd past
accept-promised (Some u) installed w past a = accept-by (view_id_cmp w.id u.id) w.id u installed refl past a

-- a fact of the id of a view
for-id : (P : ViewId → Type 0) (o : Option View) → ForSome o (λ v. P v.id) → ForSome (id_of o) P
for-id P None f v e = absurd (none-some v e)
for-id P (Some u) f v e = subst P (same_Some u.id v e) (f u refl)

some-none : {X : Type 0} (P : X → Type 0) (o : Option X) → IsSomeAnd o P → o ≡ None → ⊥
some-none P None x e = x
some-none P (Some y) x e = none-some y (sym e)

module _ {S : Type 0} (meaning : Meaning S) (s : System S) (inv : Invariant meaning s) where
  -- the one whose flush goes on, and another of its list
  pub record Asks (p q : Address) (c d : Core S) (f : FlushModel) : Type 0 where
    pub first : s.running p ≡ Some c
    pub flush : c.flush ≡ Some f
    pub second : s.running q ≡ Some d
    pub other : same_address q p ≡ false
    pub accepts : is_accept (offered (proposed f) (promise_of d)) ≡ true

  -- who reported for it has promised it
  pub awaits-reported : (p q : Address) (c d : Core S) (f : FlushModel) (r : Report) → Asks p q c d f → report_of q f.proposal s.history.pool ≡ Some r
      → (d.promise ≡ Some (proposed f)) × (d.installed ≡ false)
  awaits-reported p q c d f r a said =
      let mine = inv.members p c a.first in
      let theirs = inv.members q d a.second in
      let runs = mine.flush f a.flush in
      let x = accept-listed (stands_in d.me f.members) _ a.accepts in
      let y = accept-promised d.promise d.installed (proposed f) (theirs.below.reported f.proposal r said) x.1 in
      let listed : stands_in q f.members ≡ true = ap (λ (z : Address). stands_in z f.members) (sym theirs.standing.itself) ∙ x.0 in
      let foreign : same_address y.promised.id.creator q ≡ false =
      ap (λ (w : ViewId). same_address w.creator q) y.same ∙ ap (λ (z : Address). same_address z q) runs.own ∙ same_address-sym p q ∙ a.other in
      let members : Some y.promised.members ≡ Some f.members =
      sym (theirs.announced y.promised y.is foreign) ∙ ap (λ (w : ViewId). flush_of w s.history.pool) y.same ∙ runs.announced q listed a.other in
      (y.is ∙ ap Some (λ j. record { id = y.same j; members = same_Some y.promised.members f.members members j }), y.waits)

  -- nobody has installed the proposal of a flush that goes on
  pub unentered : (p : Address) (c : Core S) (f : FlushModel) → s.running p ≡ Some c → c.flush ≡ Some f → entry_of f.proposal.creator f.proposal s.history.trace ≡ None
  unentered p c f runs flush =
      let x = inv.members p c runs in
      let g = x.flush f flush in
      let t = s.history.trace in
      let i : Install = record { member = p; previous = current_view p t; view = proposed f; together = []; handed_back = []; given = None } in
      let listed : stands_in p f.members ≡ true = ap (λ (z : Address). stands_in z f.members) (sym g.own) ∙ coordinator-in f.proposal f.members g.list in
      let rises : ForSome (current_view p t) (λ v. IsBelow v f.proposal) = subst (λ (o : Option ViewId). ForSome o (λ v. IsBelow v f.proposal)) (sym x.standing.current)
      (for-id (λ v. IsBelow v f.proposal) c.view (λ v e. subst (λ (o : Option View). IsSomeAnd o (λ w. IsBelow v.id w.id)) g.promised (x.promise.above g.waits v e))) in
      ap (λ (z : Address). entry_of z f.proposal t) g.own
      ∙ none-of (entry_of p f.proposal t) (not-entered t i (views-of meaning s.history inv.trace) (record { inside = listed; previous = refl; rises = rises }))

  -- so no chunk is held for it
  pub no-chunk : ChunkFact meaning s → (p q : Address) (c d : Core S) (f : FlushModel) → s.running p ≡ Some c → c.flush ≡ Some f → s.running q ≡ Some d
      → (k : ℕ) (chunk : Chunk) → slice_get d.chunks k ≡ Some (f.proposal, chunk) → ⊥
  no-chunk chunks p q c d f first flush second k chunk at =
      let put = chunks.held q d second k f.proposal chunk at in
      some-none (λ z. chunk ≡ chunk_at (meaning.encode z) chunk.index) (entry_state meaning f.proposal s.history.trace) (chunks.pieces put.0 put.1 f.proposal chunk put.2 put.3)
      (unbegun meaning f.proposal s.history.trace (unentered p c f first flush))

  first-none : (v w : ViewId) (chunks : List Chunk) → v ≡ w → ((k : ℕ) (chunk : Chunk) → slice_get (labelled v chunks) k ≡ Some (w, chunk) → ⊥) → chunks ≡ []
  first-none v w [] e none = refl
  first-none v w (x ∷ chunks) e none = absurd (none 0 x (ap (λ (z : ViewId). Some (z, x)) e))

  -- and a member that has promised it holds none
  pub holds-nothing : ChunkFact meaning s → (p q : Address) (c : Core S) (l : MemberState S) (f : FlushModel) → s.running p ≡ Some c → c.flush ≡ Some f → s.running q ≡ Some (core_of q l)
      → l.promise.proposal ≡ Some (proposed f) → l.chunks ≡ []
  holds-nothing chunks p q c l f first flush second is =
      first-none f.proposal f.proposal l.chunks refl (λ k chunk at. no-chunk chunks p q c (core_of q l) f first flush second k chunk
      (ap (λ (o : Option View). slice_get (option_map_or (λ w. labelled w.id l.chunks) o []) k) is ∙ at))
