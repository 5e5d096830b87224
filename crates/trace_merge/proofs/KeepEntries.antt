-- The state of entry in another order that is in order: the coordinator has installed the view before, and had the same state.
use Rattle.std.proofs.Common.{◌≡◌, ℕ, suc, Bool, true, false, not, List, [], ◌∷◌, ◌++◌, take, drop, Option, Some, None, MatchOption, IsSome, slice_get, sym, refl, ap, ◌∙◌}
use Rattle.std.specs.Option.{ForSome}
use Rattle.std.specs.List.{list_all}
use Rattle.std.proofs.lemmas.Bool.{cond-false, and_parts}
use Rattle.std.proofs.lemmas.List.{take-append-drop}
use Rattle.std.proofs.lemmas.Option.{same_Some}
use Rattle.address.specs.Ids.{Address, ViewId, same_address}
use Rattle.state_transfer.specs.Meanings.{Meaning}
use Rattle.trace_props.specs.declared.event.Event.{Event}
use Rattle.trace_props.specs.declared.event.Event.TheVariants as event
use Rattle.trace_props.specs.declared.event.Install.{Install}
use Rattle.trace_props.specs.State.{state_of, entry_state, EntersWithState}
use Rattle.trace_props.specs.Agreeing.{MayEnter}
use Rattle.trace_props.proofs.RulesAlongLists.{take-next}
use Rattle.trace_merge.specs.declared.fact.Fact.{Fact}
use Rattle.trace_merge.specs.declared.fact.Fact.TheVariants.{Installed}
use Rattle.trace_merge.specs.Facts.{is_shown, is_awaited, IsInOrder}
use Rattle.trace_merge.proofs.MembersOwnTraces.{happened_to, state_of-own, state_of-goes}
use Rattle.trace_merge.proofs.EntryStatesKnown.{entry_state-own, entry_state-later, installed-found, installed-known}
use Rattle.trace_merge.proofs.MergesKeepMembers.{StandsToo, stands-too}
use Rattle.trace_merge.proofs.EventsShow.{install-found, install-shown, not-awaited}

module _ {S : Type 0} (meaning : Meaning S) (t u : List Event) (same : (p : Address) → happened_to p t ≡ happened_to p u) (in_order : IsInOrder u) (r : EntersWithState meaning t) where
  module _ (k : ℕ) (i : Install) (s : slice_get u k ≡ Some (event.Installed i)) where
    abbrev at : StandsToo t u k (event.Installed i)
    at = stands-too t u same k (event.Installed i) s

    abbrev past : List Event
    past = take at.place t

    abbrev now : List Event
    now = take k u

    abbrev v : ViewId
    v = i.view.id

    -- the state with which the member enters is the same
    abbrev entered : S
    entered = state_of meaning i.member (now ++ event.Installed i ∷ [])

    same-state : state_of meaning i.member (past ++ event.Installed i ∷ []) ≡ entered
    same-state = state_of-goes meaning i.member past now (event.Installed i) (state_of-own meaning i.member past now at.past)

    -- and is the view's state of entry in the whole trace
    in-whole : entry_state meaning v u ≡ Some entered
    in-whole =
        sym (entry_state-own meaning v t u (same v.creator))
        ∙ entry_state-later meaning v t (past ++ event.Installed i ∷ []) (state_of meaning i.member (past ++ event.Installed i ∷ [])) (drop (suc at.place) t)
        (ap (λ (l : List Event). l ++ drop (suc at.place) t) (sym (take-next at.place t (event.Installed i) at.stands)) ∙ take-append-drop (suc at.place) t)
        (r at.place (event.Installed i) at.stands).1
        ∙ ap Some same-state

    -- who is not the coordinator enters behind it
    coordinator-came : same_address i.member v.creator ≡ false → is_shown now (Installed v.creator v) ≡ true
    coordinator-came other =
        let f : Fact = Installed v.creator v in
        let one : list_all (λ g. not (is_awaited (is_shown u) now g)) (f ∷ []) ≡ true =
        ap (list_all (λ g. not (is_awaited (is_shown u) now g))) (sym (cond-false (same_address i.member v.creator) [] (f ∷ []) other)) ∙ in_order k (event.Installed i) s in
        not-awaited (is_shown u) now f (and_parts (not (is_awaited (is_shown u) now f)) true one).0 (install-shown u v.creator v (installed-found meaning v u entered in-whole))

    by-first : (b : Bool) → same_address i.member v.creator ≡ b → entry_state meaning v now ≡ None → same_address i.member v.creator ≡ true
    by-first true is none = is
    by-first false is none =
        let found = install-found now v.creator v (coordinator-came is) in
        absurd (installed-known meaning v now found.there.0 found.it found.there.1 found.is none)

    by-known : (o : Option S) → entry_state meaning v now ≡ o → MatchOption o (same_address i.member v.creator ≡ true) (λ x. x ≡ entered)
    by-known None none = by-first (same_address i.member v.creator) refl none
    by-known (Some x) is = same_Some x entered (sym (entry_state-later meaning v u now x (drop k u) (take-append-drop k u) is) ∙ in-whole)

    -- it may enter
    pub enters : ForSome i.given (λ g. IsSome (meaning.decode g)) → MayEnter meaning now (event.Installed i)
    enters given = (given, by-known (entry_state meaning v now) refl)
