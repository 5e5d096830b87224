-- The story of the leave of the first plays: each of its steps is allowed after those before, and the trace is the one that is written.
use Rattle.std.proofs.Common.{◌≡◌, ℕ, zero, suc, ◌≤◌, ◌<◌, max, Bool, true, false, cond, ◌||◌, Some, List, [], ◌∷◌, ◌++◌, refl, arith, inl}
use Rattle.std.specs.Prelude.{IsSome}
use Rattle.std.proofs.lemmas.Bool.Decides.{nat_tests}
use Rattle.address.specs.Ids.{Address, same_address}
use Rattle.view.specs.Members.{stands_in}
use Rattle.wire_values.specs.Values.{held_at}
use Rattle.state_transfer.specs.Meanings.{Meaning}
use Rattle.flush.specs.Cuts.{IsCut}
use Rattle.flush.specs.Flushes.{group}
use Rattle.trace_props.specs.Rules.{IsBelow}
use Rattle.law_acts.specs.Acts.{HoldsAbove, All, Announced, heard}
use Rattle.law_acts.specs.Steps.{System, Step}
use Rattle.law_acts.specs.Stories.{one, two, three, view_of_three, view_of_rest, held_first, delivered_first}
use Rattle.law_acts.specs.LeaveStory.{entry_of_two, delivered_stable, rest_reports, stable_cuts, stable_chapter, leave_chapter, LeavePlays}
use Rattle.law_acts.proofs.StoriesPlay as playing
use Rattle.law_acts.proofs.StoriesPlay.{all-wait, ◌▸◌, for-none, for-some, holds-first, keeps-all, at-least-none, none-waits, all-reported, Each, HasCut, cuts-of, no-items}

-- ---- what is stable

-- an acknowledgement of one message, by the one that is asked for or by another
abbrev once : Bool → ℕ → ℕ
once b n = cond b (max n 1) n

once-by : (a b c : Bool) → (a || (b || (c || false))) ≡ true → 1 ≤ once c (once b (once a 0))
once-by true true true e = omega arith
once-by true true false e = omega arith
once-by true false true e = omega arith
once-by true false false e = omega arith
once-by false true true e = omega arith
once-by false true false e = omega arith
once-by false false true e = omega arith
once-by false false false e = absurd (let n : false ≡ true = e in cc)

-- all three have acknowledged one message
all-heard : (q : Address) → stands_in q view_of_three.members ≡ true → 1 ≤ heard three 1 (heard two 1 (heard one 1 (λ p. 0))) q
all-heard q listed = once-by (same_address q one) (same_address q two) (same_address q three) listed

past-first : (k : ℕ) → 1 < k → held_at k [] ≡ held_at k (held_first entry_of_two)
past-first zero past = absurd (omega arith)
past-first (suc zero) past = absurd (omega arith)
past-first (suc (suc k)) past = grind (arith, nat_tests)

-- the one message that was held is let go of
lets-go : HoldsAbove (held_first entry_of_two) 1 []
lets-go = record { above = past-first; below = λ k low. refl }

-- ---- the flush of those who are left

rest-cuts : Each (HasCut rest_reports stable_cuts) rest_reports
rest-cuts =
    let cut = no-items (delivered_stable ∷ delivered_first view_of_three entry_of_two ∷ []) 1 refl refl in
    let cut = for-some (λ u. IsCut (group (Some u) rest_reports) 1 []) view_of_three.id cut in
    (cut, (cut, tt))

module _ {S : Type 0} (meaning : Meaning S) where
  abbrev Runs : System S → List Step → Type 0
  Runs s steps = playing.Runs meaning s steps

  abbrev fourth_system : System S
  fourth_system = playing.fourth_system meaning

  abbrev fifth_system : System S
  fifth_system = playing.After meaning fourth_system stable_chapter

  stable-run : Runs fourth_system stable_chapter
  stable-run =
      record { open_in = record { view = refl; installed = refl }; short = omega arith }
      ▸ (refl, (0, omega arith, refl))
      ▸ record { open_in = record { view = refl; installed = refl }; first = refl; member = refl; new = omega arith; sent = refl; fewer = all-wait (entry_of_two ∷ []) }
      ▸ record { open_in = record { view = refl; installed = refl }; first = refl; waits = (0, omega arith, refl); next = refl; room = omega arith; fewer = none-waits (entry_of_two ∷ []); more = holds-first entry_of_two }
      ▸ (refl, refl, refl)
      ▸ (refl, refl, refl)
      ▸ record { open_in = record { view = refl; installed = refl }; first = refl; member = refl; acked = omega arith }
      ▸ record { open_in = record { view = refl; installed = refl }; reached = omega arith; stable = All refl (λ q listed. at-least-none _); fewer = keeps-all (held_first entry_of_two) refl }
      ▸ record { open_in = record { view = refl; installed = refl }; other = refl; ordered = refl; new = omega arith; near = omega arith; more = holds-first entry_of_two }
      ▸ record { open_in = record { view = refl; installed = refl }; other = refl; next = refl }
      ▸ (refl, omega arith)
      ▸ record { open_in = record { view = refl; installed = refl }; other = refl; ordered = refl; new = omega arith; near = omega arith; more = holds-first entry_of_two }
      ▸ record { open_in = record { view = refl; installed = refl }; other = refl; next = refl }
      ▸ (refl, omega arith)
      ▸ record { open_in = record { view = refl; installed = refl }; first = refl; member = refl; acked = refl }
      ▸ record { open_in = record { view = refl; installed = refl }; reached = omega arith; stable = All refl (λ q listed. at-least-none _); fewer = keeps-all (held_first entry_of_two) refl }
      ▸ record { open_in = record { view = refl; installed = refl }; first = refl; member = refl; acked = refl }
      ▸ record { open_in = record { view = refl; installed = refl }; reached = omega arith; stable = All refl all-heard; fewer = lets-go }
      ▸ (refl, refl, omega arith, omega arith)
      ▸ (refl, refl, omega arith, omega arith)
      ▸ record { open_in = record { view = refl; installed = refl }; reached = omega arith; stable = Announced (record { highest = 1; stable = 1 }) refl (omega arith); fewer = lets-go }
      ▸ tt

  leave-runs : Runs fifth_system leave_chapter
  leave-runs =
      record { open_in = record { view = refl; installed = refl }; short = omega arith }
      ▸ (refl, (0, omega arith, refl))
      ▸ tt
      ▸ tt
      ▸ tt
      ▸ record { inside = refl; own = refl; above = for-some (λ p. IsBelow p.id view_of_rest.id) view_of_three refl; view = refl }
      ▸ record { asked = refl; listed = refl; connected = refl; above = inl (for-some (λ p. IsBelow p.id view_of_rest.id) view_of_three refl) }
      ▸ record { flush = refl; received = refl; listed = refl; new = refl }
      ▸ record { view = refl; flush = refl; all = all-reported rest_reports; cut = cuts-of rest_reports stable_cuts rest-cuts; gives = tt }
      ▸ record { asked = refl; promised = refl; waiting = refl; fits = omega arith; gives = refl; readable = for-none (λ bytes. IsSome (meaning.decode bytes)) }
      ▸ tt

  pub leave-plays : meaning.decode (meaning.encode meaning.opening) ≡ Some meaning.opening → LeavePlays meaning
  leave-plays reads =
      let rest = playing.run-then meaning fourth_system stable_chapter leave_chapter stable-run leave-runs in
      (playing.joined-then meaning reads (stable_chapter ++ leave_chapter) rest, refl)
