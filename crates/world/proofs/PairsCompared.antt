-- A member of a view and the view's coordinator, compared: how far each has come.
use Rattle.std.proofs.Common.{◌≡◌, ℕ, ◌+◌, ◌<◌, ◌≤◌, Bool, true, false, Option, Some, None, List, [], length, take, refl, sym, ap, ◌∙◌, subst, arith}
use Rattle.std.specs.Prelude.{is_some, nat_lt}
use Rattle.std.specs.Option.{option_map, option_map_or}
use Rattle.std.proofs.lemmas.Bool.Decides.{nat_tests}
use Rattle.std.proofs.lemmas.Option.{none-some, same_Some}
use Rattle.std.proofs.lemmas.List.{length-take, take_all}
use Rattle.address.specs.Ids.{Address, ViewId}
use Rattle.view.specs.Members.{View, stands_in}
use Rattle.address.specs.declared.limits.TheConstants.{WINDOW}
use Rattle.wire_values.specs.Values.{held_at}
use Rattle.state_transfer.specs.Meanings.{Meaning}
use Rattle.trace_props.specs.declared.event.Install.{Install}
use Rattle.trace_props.specs.Observed.{delivered_in, entry_of}
use Rattle.law_acts.specs.Words.{members_of, open_count, Tally}
use Rattle.law_acts.specs.Cores.{Core}
use Rattle.law_acts.specs.Packets.{HoldsAll}
use Rattle.law_acts.specs.Members.{installed_as, ViewFact}
use Rattle.law_acts.specs.Invariant.{Invariant}
use Rattle.law_acts.specs.Steps.{System}
use Rattle.law_acts.proofs.OrderedDeliveries.{many-delivered}
use Rattle.law_acts.proofs.KeepTrace.{rules-of}

-- ---- lists, one of which is a beginning of the other

shorter : {X : Type 0} (xs ys : List X) → xs ≡ take (length xs) ys → length xs ≤ length ys
shorter xs ys e = let l : length xs ≡ length (take (length xs) ys) = ap length e in let m = length-take (length xs) ys in omega (arith, l, m)

as-long : {X : Type 0} (xs ys : List X) → xs ≡ take (length xs) ys → length ys ≤ length xs → xs ≡ ys
as-long xs ys e l = e ∙ take_all (length xs) ys l

-- ---- what each member of a view delivered while open

members-by : (o : Option Install) (v : View) → option_map (λ (e : Install). e.view) o ≡ Some v → option_map_or (λ (e : Install). e.view.members) o [] ≡ v.members
members-by None v e = absurd (none-some v e)
members-by (Some x) v e = ap (λ (w : View). w.members) (same_Some x.view v e)

module _ {S : Type 0} (meaning : Meaning S) (s : System S) (i : Invariant meaning s) where
  -- two members that run, in the same view, which one of them made
  pub record Both (c q : Address) (first other : Core S) (v : View) : Type 0 where
    pub coordinator : s.running c ≡ Some first
    pub member : s.running q ≡ Some other
    pub own : v.id.creator ≡ c
    pub leads : first.view ≡ Some v
    pub inside : other.view ≡ Some v

  -- how far they have come
  pub record Compared (c q : Address) (first other : Core S) (v : View) : Type 0 where
    pub stable : first.view_state.stable ≤ other.view_state.delivered
    pub reach : first.view_state.delivered ≤ first.view_state.stable + WINDOW
    pub top : other.view_state.delivered ≤ first.view_state.delivered
    pub holds : HoldsAll first.view_state.stable first.view_state.delivered first.view_state.held
    pub listed : stands_in q v.members ≡ true
    pub coordinator_listed : stands_in c v.members ≡ true
    pub level : first.view_state.delivered ≤ other.view_state.delivered → delivered_in q v.id s.history.trace ≡ delivered_in c v.id s.history.trace

  -- a view has one list of members
  pub one-view : (c q : Address) (first other : Core S) (v w : View) → s.running c ≡ Some first → s.running q ≡ Some other → first.view ≡ Some v → other.view ≡ Some w → w.id ≡ v.id → w ≡ v
  one-view c q first other v w rc rq fv ow same =
      let x : installed_as v.id.creator v.id s.history.trace ≡ Some v = ((i.members c first rc).view v fv).inside.first in
      let y : installed_as w.id.creator w.id s.history.trace ≡ Some w = ((i.members q other rq).view w ow).inside.first in
      same_Some w v (sym y ∙ ap (λ (u : ViewId). installed_as u.creator u s.history.trace) same ∙ x)

  pub compared : (c q : Address) (first other : Core S) (v : View) → Both c q first other v → Compared c q first other v
  compared c q first other v b =
      let f : ViewFact s.history c first.installed first.view_state first.sent_installs v = (i.members c first b.coordinator).view v b.leads in
      let o : ViewFact s.history q other.installed other.view_state other.sent_installs v = (i.members q other b.member).view v b.inside in
      let members : members_of v.id s.history.trace ≡ v.members = members-by (entry_of v.id.creator v.id s.history.trace) v f.inside.first in
      let one : delivered_in q v.id s.history.trace ≡ take (length (delivered_in q v.id s.history.trace)) (delivered_in v.id.creator v.id s.history.trace) =
      (rules-of meaning s.history i.trace).ordered.order q v.id in
      let mine : length (delivered_in q v.id s.history.trace) ≡ other.view_state.delivered = sym (many-delivered q v.id s.history.trace) ∙ o.counts.delivered_count in
      let all : length (delivered_in v.id.creator v.id s.history.trace) ≡ first.view_state.delivered =
      ap (λ (p : Address). length (delivered_in p v.id s.history.trace)) b.own ∙ sym (many-delivered c v.id s.history.trace) ∙ f.counts.delivered_count in
      let so_many : first.view_state.stable ≤ open_count q v.id s.history.trace + 0 = f.window.all_have q (subst (λ (l : List Address). stands_in q l ≡ true) (sym members) o.inside.listed) in
      let count : open_count q v.id s.history.trace ≡ other.view_state.delivered = ap (λ (x : Tally). x.count) o.counts.tally in
      let short : length (delivered_in q v.id s.history.trace) ≤ length (delivered_in v.id.creator v.id s.history.trace) = shorter _ _ one in
      record {
        stable = omega (arith, so_many, count);
        reach = reach-by (nat_lt first.view_state.stable first.view_state.delivered) refl f.window.all f.window.near;
        top = omega (arith, mine, all, short);
        holds = f.window.all;
        listed = o.inside.listed;
        coordinator_listed = f.inside.listed;
        level = λ l. as-long _ _ one (omega (arith, mine, all, l)) ∙ ap (λ (p : Address). delivered_in p v.id s.history.trace) b.own;
      }
    where
      reach-by : (z : Bool) → nat_lt first.view_state.stable first.view_state.delivered ≡ z → HoldsAll first.view_state.stable first.view_state.delivered first.view_state.held
          → ((g : ℕ) → is_some (held_at g first.view_state.held) ≡ true → g ≤ first.view_state.stable + WINDOW) → first.view_state.delivered ≤ first.view_state.stable + WINDOW
      reach-by true e all near = let low : first.view_state.stable < first.view_state.delivered = grind (arith, nat_tests) in near first.view_state.delivered (all first.view_state.delivered low (omega arith))
      reach-by false e all near = let low : first.view_state.delivered ≤ first.view_state.stable = grind (arith, nat_tests) in omega (arith, low)
