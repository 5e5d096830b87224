-- What is kept of the events, one event further.
use Rattle.std.proofs.Common.{◌≡◌, ℕ, Bool, true, false, cond, List, [], ◌∷◌, ◌++◌, length, Option, Some, None, is_some, unwrap_or, option_map, sym, refl, ap, ◌∙◌}
use Rattle.std.proofs.lemmas.List.Sums.{fold-append}
use Rattle.address.specs.Ids.{Address, same_address}
use Rattle.address.proofs.SameIds.{same_address-true, same_address-refl, same_address-sym}
use Rattle.trace_props.specs.declared.event.Event.{Event}
use Rattle.trace_props.specs.declared.event.Event.TheVariants.{Started, Sent, Delivered, Blocked, Installed, Left, Crashed}
use Rattle.trace_props.specs.Observed.{member_of, is_blocked, has_ended, is_end}
use Rattle.trace_props.proofs.ObservedGrow.{is_blocked-push, is_blocked-other, is_blocked-now, is_blocked-open, has_ended-still, has_ended-other, has_ended-now}
use Rattle.trace_drawing.specs.declared.known.Lifeline.{Lifeline}
use Rattle.trace_drawing.specs.Layout.{first_place, last_place, rank_in, come_up, members_in, column_of, happens_to}
use Rattle.trace_drawing.specs.Known.{blocked_after, lifeline_after, KnowsMembers}
use Rattle.trace_drawing.proofs.FirstAndLast.{last_place-push, last-hit, last-miss, first-hit, first-miss}

-- TABLES OF LAST PLACES

-- what is noted of one event serves all keys
pub lasts-noted : {K : Type 0} (tests : K → Event → Bool) (m n : K → Option ℕ) (t : List Event) (e : Event) (row : ℕ) → row ≡ length t → ((q : K) → n q ≡ cond (tests q e) (Some row) (m q))
    → ((q : K) → m q ≡ last_place (tests q) t) → (q : K) → n q ≡ last_place (tests q) (t ++ e ∷ [])
lasts-noted tests m n t e row at updates was q =
    updates q ∙ ap (λ r. cond (tests q e) (Some r) (m q)) at ∙ ap (λ o. cond (tests q e) (Some (length t)) o) (was q) ∙ sym (last_place-push (tests q) t e)

-- MEMBERS

-- what is read of a member, one event further: of the member of the event, and of the others
noted-at : {X : Type 0} (f : Option Lifeline → X) (g h : Address → X) (m n : Address → Option Lifeline) (p q : Address) (new : Lifeline) (b : Bool) → same_address p q ≡ b
    → n q ≡ cond b (Some new) (m q) → f (m q) ≡ g q → f (Some new) ≡ h p → (same_address p q ≡ false → h q ≡ g q) → f (n q) ≡ h q
noted-at f g h m n p q new true e update was now other = ap f update ∙ now ∙ ap h (same_address-true p q e)
noted-at f g h m n p q new false e update was now other = ap f update ∙ was ∙ sym (other e)

noted : {X : Type 0} (f : Option Lifeline → X) (g h : Address → X) (m n : Address → Option Lifeline) (p : Address) (new : Lifeline)
    → ((q : Address) → n q ≡ cond (same_address p q) (Some new) (m q)) → ((q : Address) → f (m q) ≡ g q) → f (Some new) ≡ h p → ((q : Address) → same_address p q ≡ false → h q ≡ g q)
    → (q : Address) → f (n q) ≡ h q
noted f g h m n p new updates was now other q = noted-at f g h m n p q new (same_address p q) refl (updates q) (was q) now (other q)

pub members-push : (t : List Event) (e : Event) → members_in (t ++ e ∷ []) ≡ come_up (members_in t) e
members-push t e = fold-append come_up [] t (e ∷ [])

ranked-at : (p : Address) (ms : List Address) (o : Option ℕ) → rank_in p ms ≡ o → rank_in p (cond (is_some o) ms (ms ++ p ∷ [])) ≡ Some (unwrap_or o (length ms))
ranked-at p ms (Some c) e = e
ranked-at p ms None e = first-hit (same_address p) ms p (same_address-refl p) ∙ ap (λ o. Some (unwrap_or o (length ms))) e

-- the member of the next event has its column
pub rank-now : (t : List Event) (e : Event) → rank_in (member_of e) (members_in (t ++ e ∷ [])) ≡ Some (column_of (member_of e) t)
rank-now t e = ap (rank_in (member_of e)) (members-push t e) ∙ ranked-at (member_of e) (members_in t) (rank_in (member_of e) (members_in t)) refl

other-at : (p q : Address) (ms : List Address) (b : Bool) → same_address q p ≡ false → rank_in q (cond b ms (ms ++ p ∷ [])) ≡ rank_in q ms
other-at p q ms true e = refl
other-at p q ms false e = first-miss (same_address q) ms p e

-- the others keep theirs
rank-other : (t : List Event) (e : Event) (q : Address) → same_address (member_of e) q ≡ false → rank_in q (members_in (t ++ e ∷ [])) ≡ rank_in q (members_in t)
rank-other t e q other = ap (rank_in q) (members-push t e)
    ∙ other-at (member_of e) q (members_in t) (is_some (rank_in (member_of e) (members_in t))) (same_address-sym q (member_of e) ∙ other)

some-map : {X Y : Type 0} (f : X → Y) (o : Option X) → is_some (option_map f o) ≡ is_some o
some-map f None = refl
some-map f (Some x) = refl

-- whether a member is blocked after an event of its own
blocked-now : (t : List Event) (e : Event) → blocked_after (is_blocked (member_of e) t) e ≡ is_blocked (member_of e) (t ++ e ∷ [])
blocked-now t (Started p) = sym (is_blocked-push p t (Started p))
blocked-now t (Sent s) = sym (is_blocked-push s.member t (Sent s))
blocked-now t (Delivered d) = sym (is_blocked-push d.member t (Delivered d))
blocked-now t (Blocked p) = sym (is_blocked-now p t)
blocked-now t (Installed i) = sym (is_blocked-open t i)
blocked-now t (Left p) = sym (is_blocked-push p t (Left p))
blocked-now t (Crashed p) = sym (is_blocked-push p t (Crashed p))

ended-at : (t : List Event) (e : Event) (b : Bool) → is_end e ≡ b → cond b true (has_ended (member_of e) t) ≡ has_ended (member_of e) (t ++ e ∷ [])
ended-at t e true is = sym (has_ended-now t e is)
ended-at t e false is = sym (has_ended-still (member_of e) t e is)

map-or : (at : ℕ → ℕ) (o : Option ℕ) (n : ℕ) → unwrap_or (option_map at o) (at n) ≡ at (unwrap_or o n)
map-or at None n = refl
map-or at (Some k) n = refl

-- what is kept of members serves one event further
pub members-noted : (at : ℕ → ℕ) (ms ns : List Address) (m n : Address → Option Lifeline) (t : List Event) (e : Event) (level column : ℕ) → level ≡ at (length t) → column ≡ column_of (member_of e) t
    → ns ≡ cond (is_some (m (member_of e))) ms (ms ++ member_of e ∷ [])
    → ((q : Address) → n q ≡ cond (same_address (member_of e) q) (Some (lifeline_after (m (member_of e)) column level e)) (m q))
    → KnowsMembers at ms m t → KnowsMembers at ns n (t ++ e ∷ [])
members-noted at ms ns m n t e level column here stands comes updates was =
    let p = member_of e in
    let new = lifeline_after (m p) column level e in
    record {
      come_up = comes ∙ ap (λ b. cond b ms (ms ++ p ∷ [])) (sym (some-map (λ l. l.column) (m p)) ∙ ap is_some (was.columns p))
          ∙ ap (λ xs. cond (is_some (rank_in p (members_in t))) xs (xs ++ p ∷ [])) was.come_up ∙ sym (members-push t e);
      columns = noted (option_map (λ l. l.column)) (λ q. rank_in q (members_in t)) (λ q. rank_in q (members_in (t ++ e ∷ []))) m n p new updates was.columns
          (ap Some stands ∙ sym (rank-now t e)) (rank-other t e);
      firsts = noted (option_map (λ l. l.first)) (λ q. option_map at (first_place (happens_to q) t)) (λ q. option_map at (first_place (happens_to q) (t ++ e ∷ []))) m n p new updates was.firsts
          (ap (λ r. Some (unwrap_or (option_map (λ l. l.first) (m p)) r)) here ∙ ap (λ o. Some (unwrap_or o (at (length t)))) (was.firsts p)
          ∙ ap Some (map-or at (first_place (happens_to p) t) (length t)) ∙ sym (ap (option_map at) (first-hit (happens_to p) t e (same_address-refl p))))
          (λ q other. ap (option_map at) (first-miss (happens_to q) t e other));
      lasts = noted (option_map (λ l. l.last)) (λ q. option_map at (last_place (happens_to q) t)) (λ q. option_map at (last_place (happens_to q) (t ++ e ∷ []))) m n p new updates was.lasts
          (ap Some here ∙ sym (ap (option_map at) (last-hit (happens_to p) t e (same_address-refl p))))
          (λ q other. ap (option_map at) (last-miss (happens_to q) t e other));
      blocked = noted (λ o. unwrap_or (option_map (λ l. l.blocked) o) false) (λ q. is_blocked q t) (λ q. is_blocked q (t ++ e ∷ [])) m n p new updates was.blocked
          (ap (λ b. blocked_after b e) (was.blocked p) ∙ blocked-now t e)
          (λ q. is_blocked-other q t e);
      ended = noted (λ o. unwrap_or (option_map (λ l. l.ended) o) false) (λ q. has_ended q t) (λ q. has_ended q (t ++ e ∷ [])) m n p new updates was.ended
          (ap (λ b. cond (is_end e) true b) (was.ended p) ∙ ended-at t e (is_end e) refl)
          (λ q. has_ended-other q t e);
    }

-- what is kept of one member is what is kept of the event's
pub noted-of : (m n : Address → Option Lifeline) (e : Event) (p : Address) (o : Option Lifeline) (new : Lifeline) (level column : ℕ) → p ≡ member_of e → o ≡ m p → new ≡ lifeline_after o column level e
    → ((q : Address) → n q ≡ cond (same_address p q) (Some new) (m q)) → (q : Address) → n q ≡ cond (same_address (member_of e) q) (Some (lifeline_after (m (member_of e)) column level e)) (m q)
noted-of m n e p o new level column of is made updates q =
    updates q ∙ ap (λ l. cond (same_address p q) (Some l) (m q)) (made ∙ ap (λ x. lifeline_after x column level e) is)
    ∙ ap (λ r. cond (same_address r q) (Some (lifeline_after (m r) column level e)) (m q)) of
