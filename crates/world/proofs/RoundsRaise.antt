-- What the code looks for is a round: it asks the candidates that the member's next proposal is for, and raises the proposal past the promise of one of them.
use Rattle.std.proofs.Common.{◌≡◌, ◌+◌, ℕ, max, Bool, true, false, Option, Some, None, List, is_some, nat_lt, refl, sym, ap, ◌∙◌, arith}
use Rattle.std.specs.Prelude.{if◌then◌else◌}
use Rattle.std.specs.Option.{option_map, option_map_or, option_and_then}
use Rattle.std.proofs.lemmas.Bool.{cond-true}
use Rattle.std.proofs.lemmas.Bool.Decides.{nat_tests}
use Rattle.std.proofs.lemmas.Option.{none-some, same_Some}
use Rattle.address.specs.Ids.{Address}
use Rattle.address.specs.declared.limits.TheConstants.{GREATEST_NUMBER}
use Rattle.view.specs.Members.{View, stands_in}
use Rattle.next_view.specs.Candidates.{candidates}
use Rattle.flush.specs.Flushes.{FlushModel, is_awaited}
use Rattle.law_acts.specs.Acts.{proposed}
use Rattle.law_acts.specs.Decisions.{promised_counter}
use Rattle.membership.specs.declared.member_state.MemberState.{MemberState}
use Rattle.membership.specs.MemberStates.{view_in, anew_past}
use Rattle.member.specs.Members.{MemberModel}
use Rattle.world.specs.declared.node_state.NodeState.{NodeState}
use Rattle.world.specs.declared.node_state.NodeState.TheVariants.{Running}
use Rattle.world.specs.declared.rounds.Round.{Round}
use Rattle.world.specs.LowProposals.{promised_past, anew_with, raised, furthest, asked_of, asked_at, raised_at, round_in, round_at, beyond_all, followed_by_all, overtaking_at}
use Rattle.world.proofs.RoundRaises.{when-there}
use Rattle.world.proofs.TwoRounds.{furthest-is}

-- a counter is left past more where it is left past less
fewer-left : (a b k d : ℕ) → nat_lt (max a (max b 0)) d ≡ false → nat_lt (max a (max b k)) d ≡ false
fewer-left a b k d e = grind (arith, nat_tests)

-- a round
abbrev round : Address → View → Round
round q w = record { asked = q; raised = w }

module _ {S : Type 0} (at : ℕ → NodeState S) (me : Address) (l : MemberState S) (f : FlushModel) (runs : l.flush ≡ Some f) where
  -- how far one has promised whom the flush awaits
  abbrev pub past : Address → Option ℕ
  past q = if is_awaited q f then promised_past (proposed f) q (at q.node) else None

  -- the round of this flush
  abbrev pub its_round : Option Round
  its_round = option_and_then (λ q. option_map (round q) (raised at me l q f)) (option_and_then (asked_of at me l f) (view_in l.view_state))

  abbrev room : ℕ → Bool
  room k = nat_lt (max (promised_counter l.promise.proposal) (max l.notes.heard k)) GREATEST_NUMBER

  abbrev with_counter : View → ℕ → View
  with_counter v n = record { id = record { counter = n; creator = me }; members = candidates me v.members l.notes }

  -- what it proposes anew
  anew-at : (v : View) (k : ℕ) → view_in l.view_state ≡ Some v
      → anew_past me l k ≡ option_map (with_counter v) (if room k then Some (max (promised_counter l.promise.proposal) (max l.notes.heard k) + 1) else None)
  anew-at v k inside =
      let made : Option View = option_map (with_counter v) (if room k then Some (max (promised_counter l.promise.proposal) (max l.notes.heard k) + 1) else None) in
      ap (option_and_then (λ (u : View). if is_some l.flush then option_map (with_counter u) (if room k then Some (max (promised_counter l.promise.proposal) (max l.notes.heard k) + 1) else None) else None)) inside
      ∙ ap (λ (o : Option FlushModel). if is_some o then made else None) runs

  -- to its candidates
  anew-members : (v u : View) (k : ℕ) → view_in l.view_state ≡ Some v → anew_past me l k ≡ Some u → u.members ≡ candidates me v.members l.notes
  anew-members v u k inside e = by (room k) (sym (anew-at v k inside) ∙ e)
    where
      by : (b : Bool) → option_map (with_counter v) (if b then Some (max (promised_counter l.promise.proposal) (max l.notes.heard k) + 1) else None) ≡ Some u → u.members ≡ candidates me v.members l.notes
      by true x = ap (λ (w : View). w.members) (sym (same_Some _ u x))
      by false x = absurd (none-some u x)

  -- if it proposes nothing past 0, then past nothing
  anew-none : (v : View) (k : ℕ) → view_in l.view_state ≡ Some v → anew_past me l 0 ≡ None → anew_past me l k ≡ None
  anew-none v k inside e = anew-at v k inside ∙ ap (λ (b : Bool). option_map (with_counter v) (if b then Some (max (promised_counter l.promise.proposal) (max l.notes.heard k) + 1) else None)) (by (room 0) refl (sym (anew-at v 0 inside) ∙ e))
    where
      by : (b : Bool) → room 0 ≡ b → option_map (with_counter v) (if b then Some (max (promised_counter l.promise.proposal) (max l.notes.heard 0) + 1) else None) ≡ None → room k ≡ false
      by true x none = absurd (none-some _ (sym none))
      by false x none = fewer-left (promised_counter l.promise.proposal) l.notes.heard k GREATEST_NUMBER x

  -- the round in its view
  abbrev round_with : (Option (Address × ℕ)) → Option Round
  round_with o = option_and_then (λ x. option_map (round x.0) (anew_past me l x.1)) o

  raised-is : (v : View) (q : Address) (k : ℕ) → view_in l.view_state ≡ Some v → furthest past (candidates me v.members l.notes) ≡ Some (q, k) → raised at me l q f ≡ anew_past me l k
  raised-is v q k inside top =
      let one = furthest-is past (candidates me v.members l.notes) (q, k) top in
      let tells = when-there (is_awaited q f) (promised_past (proposed f) q (at q.node)) k one.tells in
      cond-true (is_awaited q f) (option_and_then (anew_with me l q) (promised_past (proposed f) q (at q.node))) None tells.0 ∙ ap (option_and_then (anew_with me l q)) tells.1 ∙ by (anew_past me l k) refl one.there
    where
      by : (o : Option View) → anew_past me l k ≡ o → stands_in q (candidates me v.members l.notes) ≡ true → option_and_then (λ w. if stands_in q w.members then Some w else None) o ≡ o
      by None e there = refl
      by (Some u) e there = cond-true (stands_in q u.members) (Some u) None (ap (stands_in q) (anew-members v u k inside e) ∙ there)

  round-in-view : (v : View) → view_in l.view_state ≡ Some v → its_round ≡ round_with (furthest past (candidates me v.members l.notes))
  round-in-view v inside =
      ap (λ (o : Option View). option_and_then (λ q. option_map (round q) (raised at me l q f)) (option_and_then (asked_of at me l f) o)) inside ∙ by (furthest past (candidates me v.members l.notes)) refl
    where
      by : (o : Option (Address × ℕ)) → furthest past (candidates me v.members l.notes) ≡ o
          → option_and_then (λ q. option_map (round q) (raised at me l q f)) (option_map (λ (x : Address × ℕ). x.0) (furthest past (candidates me v.members l.notes))) ≡ round_with (furthest past (candidates me v.members l.notes))
      by None top = ap (λ (t : Option (Address × ℕ)). option_and_then (λ q. option_map (round q) (raised at me l q f)) (option_map (λ (x : Address × ℕ). x.0) t)) top ∙ sym (ap round_with top)
      by (Some x) top =
          ap (λ (t : Option (Address × ℕ)). option_and_then (λ q. option_map (round q) (raised at me l q f)) (option_map (λ (y : Address × ℕ). y.0) t)) top ∙ ap (option_map (round x.0)) (raised-is v x.0 x.1 inside top) ∙ sym (ap round_with top)

  -- by what it would propose
  pub by-list : (u : View) → anew_past me l 0 ≡ Some u → its_round ≡ round_with (furthest past u.members)
  by-list u e = by (view_in l.view_state) refl
    where
      by : (o : Option View) → view_in l.view_state ≡ o → its_round ≡ round_with (furthest past u.members)
      by None inside =
          absurd (none-some u (sym (ap (option_and_then (λ (v : View). if is_some l.flush then option_map (with_counter v) (if room 0 then Some (max (promised_counter l.promise.proposal) (max l.notes.heard 0) + 1) else None) else None)) inside) ∙ e))
      by (Some v) inside = round-in-view v inside ∙ ap (λ (list : List Address). round_with (furthest past list)) (sym (anew-members v u 0 inside e))

  pub no-list : anew_past me l 0 ≡ None → its_round ≡ None
  no-list e = by (view_in l.view_state) refl
    where
      none-with : (v : View) → view_in l.view_state ≡ Some v → (o : Option (Address × ℕ)) → round_with o ≡ None
      none-with v inside None = refl
      none-with v inside (Some x) = ap (option_map (round x.0)) (anew-none v x.1 inside e)

      by : (o : Option View) → view_in l.view_state ≡ o → its_round ≡ None
      by None inside = ap (λ (o : Option View). option_and_then (λ q. option_map (round q) (raised at me l q f)) (option_and_then (asked_of at me l f) o)) inside
      by (Some v) inside = round-in-view v inside ∙ none-with v inside (furthest past (candidates me v.members l.notes))

module _ {S : Type 0} (at : ℕ → NodeState S) (m : MemberModel S) where
  -- as the code asks the member
  abbrev pub told_of : View → Address → Option ℕ
  told_of p q = if option_map_or (λ l. option_map_or (is_awaited q) l.flush false) m.member_state false then promised_past p q (at q.node) else None

  abbrev pub own_proposal : Option View
  own_proposal = option_and_then (λ l. option_map proposed l.flush) m.member_state

  abbrev pub anew : ℕ → Option View
  anew k = option_and_then (λ l. anew_past m.address l k) m.member_state

  -- its own flush
  record Proposes (p : View) : Type 0 where
    member_state : MemberState S
    state : m.member_state ≡ Some member_state
    flush : FlushModel
    runs : member_state.flush ≡ Some flush
    is : proposed flush ≡ p

  proposes : (p : View) → own_proposal ≡ Some p → Proposes p
  proposes p e = by m.member_state refl e
    where
      at-flush : (l : MemberState S) (o : Option FlushModel) → m.member_state ≡ Some l → l.flush ≡ o → option_map proposed o ≡ Some p → Proposes p
      at-flush l None state runs e = absurd (none-some p e)
      at-flush l (Some f) state runs e = record { member_state = l; state = state; flush = f; runs = runs; is = same_Some (proposed f) p e }

      by : (o : Option (MemberState S)) → m.member_state ≡ o → option_and_then (λ l. option_map proposed l.flush) o ≡ Some p → Proposes p
      by None state e = absurd (none-some p e)
      by (Some l) state e = at-flush l l.flush state refl e

  module _ (p : View) (own : own_proposal ≡ Some p) where
    abbrev x : Proposes p
    x = proposes p own

    round-is : round_in at (Running m) ≡ its_round at m.address x.member_state x.flush x.runs
    round-is =
        ap (λ (o : Option (MemberState S)). option_and_then (λ q. option_map (round q) (option_and_then (λ (l : MemberState S). option_and_then (raised at m.address l q) l.flush) o))
        (option_and_then (λ (l : MemberState S). option_and_then (λ f. option_and_then (asked_of at m.address l f) (view_in l.view_state)) l.flush) o)) x.state
        ∙ ap (λ (o : Option FlushModel). option_and_then (λ q. option_map (round q) (option_and_then (raised at m.address x.member_state q) o))
        (option_and_then (λ f. option_and_then (asked_of at m.address x.member_state f) (view_in x.member_state.view_state)) o)) x.runs

    anew-is : (k : ℕ) → anew k ≡ anew_past m.address x.member_state k
    anew-is k = ap (option_and_then (λ (l : MemberState S). anew_past m.address l k)) x.state

    furthest-same : (list : List Address) → furthest (told_of p) list ≡ furthest (past at m.address x.member_state x.flush x.runs) list
    furthest-same list =
        ap (λ (o : Option (MemberState S)). furthest (λ q. if option_map_or (λ (l : MemberState S). option_map_or (is_awaited q) l.flush false) o false then promised_past p q (at q.node) else None) list) x.state
        ∙ ap (λ (o : Option FlushModel). furthest (λ q. if option_map_or (is_awaited q) o false then promised_past p q (at q.node) else None) list) x.runs
        ∙ ap (λ (v : View). furthest (λ q. if is_awaited q x.flush then promised_past v q (at q.node) else None) list) (sym x.is)

    -- it would propose nothing anew
    pub no-candidates : anew 0 ≡ None → round_in at (Running m) ≡ None
    no-candidates none = round-is ∙ no-list at m.address x.member_state x.flush x.runs (sym (anew-is 0) ∙ none)

    module _ (u : View) (some : anew 0 ≡ Some u) where
      whole : round_in at (Running m) ≡ option_and_then (λ (y : Address × ℕ). option_map (round y.0) (anew_past m.address x.member_state y.1)) (furthest (told_of p) u.members)
      whole =
          round-is ∙ by-list at m.address x.member_state x.flush x.runs u (sym (anew-is 0) ∙ some)
          ∙ ap (option_and_then (λ (y : Address × ℕ). option_map (round y.0) (anew_past m.address x.member_state y.1))) (sym (furthest-same u.members))

      -- nobody is to be asked
      pub nobody : furthest (told_of p) u.members ≡ None → round_in at (Running m) ≡ None
      nobody none = whole ∙ ap (option_and_then (λ (y : Address × ℕ). option_map (round y.0) (anew_past m.address x.member_state y.1))) none

      -- somebody is
      pub somebody : (q : Address) (k : ℕ) → furthest (told_of p) u.members ≡ Some (q, k) → (o : Option View) → anew k ≡ o → round_in at (Running m) ≡ option_map (round q) o
      somebody q k top o e =
          whole ∙ ap (option_and_then (λ (y : Address × ℕ). option_map (round y.0) (anew_past m.address x.member_state y.1))) top ∙ ap (option_map (round q)) (sym (anew-is k) ∙ e)

-- what a round raises the proposal to
pub raised-by : {S : Type 0} (at : ℕ → NodeState S) (n : ℕ) → option_map (λ (r : Round). r.raised) (round_at at n) ≡ option_and_then (raised_at at n) (asked_at at n)
raised-by at n = by (asked_at at n)
  where
    at-raised : (q : Address) (o : Option View) → option_map (λ (r : Round). r.raised) (option_map (round q) o) ≡ o
    at-raised q None = refl
    at-raised q (Some w) = refl

    by : (o : Option Address) → option_map (λ (r : Round). r.raised) (option_and_then (λ q. option_map (round q) (raised_at at n q)) o) ≡ option_and_then (raised_at at n) o
    by None = refl
    by (Some q) = at-raised q (raised_at at n q)

-- the view after two rounds, and whom they ask, as the code finds them
pub view-by : {S : Type 0} (at : ℕ → NodeState S) (n : ℕ) (r : Round) (o : Option View) → Some r ≡ round_at at n → o ≡ option_and_then (followed_by_all at) (beyond_all at r.raised) → o ≡ overtaking_at at n
view-by at n r o found is = is ∙ ap (λ (x : Option View). option_and_then (followed_by_all at) (option_and_then (beyond_all at) x)) (ap (option_map (λ (d : Round). d.raised)) found ∙ raised-by at n)

pub none-by : {S : Type 0} (at : ℕ → NodeState S) (n : ℕ) → None ≡ round_at at n → None ≡ overtaking_at at n
none-by at n found = ap (λ (x : Option View). option_and_then (followed_by_all at) (option_and_then (beyond_all at) x)) (ap (option_map (λ (d : Round). d.raised)) found ∙ raised-by at n)
