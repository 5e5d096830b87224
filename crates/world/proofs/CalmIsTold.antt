-- Whether a view is calm, as the trace says.
use Rattle.std.proofs.Common.{◌≡◌, ℕ, Bool, true, false, cond, not, ◌&&◌, Option, Some, None, List, [], ◌∷◌, refl, sym, ap, ◌∙◌}
use Rattle.std.specs.Prelude.{is_some}
use Rattle.std.specs.List.{list_all}
use Rattle.std.specs.Option.{option_eq, option_and_then}
use Rattle.std.proofs.lemmas.Bool.{and_parts}
use Rattle.address.specs.Ids.{Address, ViewId, same_address, same_view_id}
use Rattle.view.specs.Members.{View, stands_in}
use Rattle.view.proofs.MembersListed.{all-by}
use Rattle.state_transfer.specs.Meanings.{Meaning}
use Rattle.trace_props.specs.Observed.{current_view, is_blocked}
use Rattle.law_acts.specs.Cores.{Core, is_frozen}
use Rattle.law_acts.specs.Members.{installed_as, IsInside}
use Rattle.law_acts.proofs.KeepBySteps
use Rattle.member.specs.Members.{MemberModel}
use Rattle.world_model.specs.Histories.{History, running}
use Rattle.world.specs.Calm.{has_numbers, is_calm, calm_of, calm_at, all_open_in, has_calm_view}
use Rattle.world.specs.Gaps.{open_view, is_open_in, runs_open_in}
use Rattle.world.specs.declared.node_state.NodeState.{NodeState}
use Rattle.world.specs.declared.node_state.NodeState.TheVariants.{Vacant, Ended, Running}
use Rattle.world.specs.Worlds.{WorldModel}
use Rattle.world.proofs.KeepByTurn
use Rattle.world.proofs.MembersAtNodes
use Rattle.world.proofs.PairsAreOpen
use Rattle.world.proofs.WorldsAfterEvents

some-if : {A : Type 0} (b : Bool) (a : A) → is_some (cond b (Some a) None) ≡ b
some-if true a = refl
some-if false a = refl

module _ {S : Type 0} (meaning : Meaning S) (laws : KeepBySteps.Laws meaning) (at : ℕ → NodeState S) (h : History) (w : KeepByTurn.World meaning at h) where
  abbrev world : WorldModel S
  world = record { history = h; node_states = at }

  -- ---- a view

  same-list : (v : ViewId) (list : List Address) → list_all (λ q. is_open_in q v (at q.node)) list ≡ list_all (λ q. runs_open_in q v h.trace) list
  same-list v [] = refl
  same-list v (q ∷ list) =
      ap (λ (b : Bool). b && list_all (λ p. is_open_in p v (at p.node)) list) (PairsAreOpen.open-at meaning laws at h w (at q.node) q v refl) ∙ ap (λ (b : Bool). runs_open_in q v h.trace && b) (same-list v list)

  abbrev told : View → Bool
  told v = all_open_in v h.trace && has_numbers (at v.id.creator.node)

  calm-told : (v : View) → is_some (calm_of at v) ≡ told v
  calm-told v = some-if (is_calm at v) v ∙ ap (λ (b : Bool). b && has_numbers (at v.id.creator.node)) (same-list v.id v.members)

  -- where one of its members is blocked, not all are open
  not-all : (p : Address) (v : View) → is_blocked p h.trace ≡ true → stands_in p v.members ≡ true → (b : Bool) → all_open_in v h.trace ≡ b → b ≡ false
  not-all p v block listed false e = refl
  not-all p v block listed true e =
      let opened : runs_open_in p v.id h.trace ≡ true = all-by (λ q. runs_open_in q v.id h.trace) v.members p e listed in
      let free = (and_parts (not (is_blocked p h.trace)) (option_eq same_view_id (current_view p h.trace) (Some v.id)) (and_parts (option_eq same_address (running p.node h.trace) (Some p)) _ opened).1).0 in
      absurd (let bad : false ≡ true = ap not (sym block) ∙ free in cc)

  -- ---- the member that runs at a node

  view-told : (n : ℕ) (p : Address) (v : View) → running n h.trace ≡ Some p → current_view p h.trace ≡ Some v.id → installed_as p v.id h.trace ≡ Some v → has_calm_view n world ≡ told v
  view-told n p v runs current own = rw (runs, current, own) refl

  calm-by : (n : ℕ) (m : MemberModel S) (c : Core S) (x : MembersAtNodes.Runs meaning h n m c) (o : Option View) → c.view ≡ o → (b : Bool) → is_frozen c.view c.installed ≡ b
      → is_some (option_and_then (calm_of at) (cond b None o)) ≡ has_calm_view n world
  calm-by n m c x None is b frozen =
      let runs = MembersAtNodes.is-running meaning h n m c x in
      let current : current_view m.address h.trace ≡ None = MembersAtNodes.view-is meaning h n m c x None is in
      rw (runs, current) (none b)
    where
      none : (b : Bool) → is_some (option_and_then (calm_of at) (cond b None None)) ≡ false
      none true = refl
      none false = refl
  calm-by n m c x (Some v) is b frozen = by b frozen ∙ sym (view-told n m.address v runs current inside.own)
    where
      runs : running n h.trace ≡ Some m.address
      runs = MembersAtNodes.is-running meaning h n m c x

      current : current_view m.address h.trace ≡ Some v.id
      current = MembersAtNodes.view-is meaning h n m c x (Some v) is

      inside : IsInside h.trace m.address v
      inside = (x.fact.view v is).inside

      by : (b : Bool) → is_frozen c.view c.installed ≡ b → is_some (option_and_then (calm_of at) (cond b None (Some v))) ≡ told v
      by false e = calm-told v
      by true e = ap (λ (d : Bool). d && has_numbers (at v.id.creator.node)) (sym (not-all m.address v (x.fact.standing.block ∙ e) inside.listed (all_open_in v h.trace) refl))

  calm-here : (n : ℕ) (s : NodeState S) → at n ≡ s → is_some (option_and_then (calm_of at) (open_view s)) ≡ has_calm_view n world
  calm-here n Vacant e = rw (← WorldsAfterEvents.nobody-yet meaning at h n w e) refl
  calm-here n (Ended p) e = rw (← WorldsAfterEvents.nobody-more meaning at h n p w e) refl
  calm-here n (Running m) e =
      let x = MembersAtNodes.running-here meaning laws at h n m w e in
      let c = x.0 in
      rw x.1.core (calm-by n m c x.1 c.view refl (is_frozen c.view c.installed) refl)

  -- it is calm exactly where the trace says so, and numbers are left
  pub calm-view-is : (n : ℕ) → is_some (calm_at at n) ≡ has_calm_view n world
  calm-view-is n = calm-here n (at n) refl
