-- The story of the crash of the first plays: each of its steps is allowed after those before, and the trace is the one that is written.
use Rattle.std.proofs.Common.{◌≡◌, ℕ, zero, suc, ◌+◌, cond, Some, None, List, [], ◌∷◌, ◌++◌, refl, sym, ◌∙◌, arith, inl}
use Rattle.std.specs.Prelude.{IsSome, slice_get, nat_eq}
use Rattle.std.proofs.lemmas.Option.{none-some}
use Rattle.std.proofs.lemmas.Bool.Decides.{nat_tests}
use Rattle.wire_values.specs.Values.{Entry, held_at, Report}
use Rattle.state_transfer.specs.Meanings.{Meaning}
use Rattle.flush.specs.Cuts.{held_among, greatest_stable, IsCut}
use Rattle.flush.specs.Flushes.{group}
use Rattle.trace_props.specs.Rules.{IsBelow}
use Rattle.law_acts.specs.Acts.{HoldsMore, All}
use Rattle.law_acts.specs.Steps.{System, Step}
use Rattle.law_acts.specs.Stories.{view_of_three, view_of_rest, held_first, delivered_first}
use Rattle.law_acts.specs.CrashStory.{entry_a, entry_b, held_both, delivered_both, rest_reports, both_cuts, messages_chapter, crash_chapter, CrashPlays}
use Rattle.law_acts.proofs.StoriesPlay as playing
use Rattle.law_acts.proofs.StoriesPlay.{all-wait, ◌▸◌, for-none, for-some, holds-first, keeps-all, at-least-none, none-waits, all-reported, Each, HasCut, cuts-of}

both-now : (k : ℕ) → held_at k held_both ≡ cond (nat_eq k 2) (Some entry_b) (held_at k (held_first entry_a))
both-now zero = refl
both-now (suc zero) = refl
both-now (suc (suc zero)) = refl
both-now (suc (suc (suc k))) = grind (arith, nat_tests)

holds-both : HoldsMore (held_first entry_a) 2 entry_b held_both
holds-both = record { free = refl; now = both-now }

-- two messages are held, and nothing stable
two-each : (reports : List Report) (e f : Entry) → held_among reports 1 ≡ Some e → held_among reports 2 ≡ Some f → (j : ℕ) (x : Entry) → slice_get (e ∷ f ∷ []) j ≡ Some x
    → held_among reports (0 + j + 1) ≡ Some x
two-each reports e f first second zero x at = first ∙ at
two-each reports e f first second (suc zero) x at = second ∙ at
two-each reports e f first second (suc (suc j)) x at = absurd (none-some x at)

two-items : (reports : List Report) (e f : Entry) → greatest_stable reports ≡ 0 → held_among reports 1 ≡ Some e → held_among reports 2 ≡ Some f → held_among reports 3 ≡ None
    → IsCut reports 0 (e ∷ f ∷ [])
two-items reports e f stable first second end = record { base = sym stable; each = two-each reports e f first second; end = end }

rest-cuts : Each (HasCut rest_reports both_cuts) rest_reports
rest-cuts =
    let cut = two-items (delivered_first view_of_three entry_a ∷ delivered_both ∷ []) entry_a entry_b refl refl refl refl in
    let cut = for-some (λ u. IsCut (group (Some u) rest_reports) 0 (entry_a ∷ entry_b ∷ [])) view_of_three.id cut in
    (cut, (cut, tt))

module _ {S : Type 0} (meaning : Meaning S) where
  abbrev Runs : System S → List Step → Type 0
  Runs s steps = playing.Runs meaning s steps

  abbrev fourth_system : System S
  fourth_system = playing.fourth_system meaning

  abbrev fifth_system : System S
  fifth_system = playing.After meaning fourth_system messages_chapter

  messages-run : Runs fourth_system messages_chapter
  messages-run =
      record { open_in = record { view = refl; installed = refl }; short = omega arith }
      ▸ record { open_in = record { view = refl; installed = refl }; first = refl; member = refl; new = omega arith; sent = (0, omega arith, refl); fewer = all-wait (entry_a ∷ []) }
      ▸ record { open_in = record { view = refl; installed = refl }; first = refl; waits = (0, omega arith, refl); next = refl; room = omega arith; fewer = none-waits (entry_a ∷ []); more = holds-first entry_a }
      ▸ (refl, refl, refl)
      ▸ (refl, refl, refl)
      ▸ record { open_in = record { view = refl; installed = refl }; first = refl; member = refl; acked = omega arith }
      ▸ record { open_in = record { view = refl; installed = refl }; reached = omega arith; stable = All refl (λ q listed. at-least-none _); fewer = keeps-all (held_first entry_a) refl }
      ▸ record { open_in = record { view = refl; installed = refl }; short = omega arith }
      ▸ record { open_in = record { view = refl; installed = refl }; first = refl; member = refl; new = omega arith; sent = (0, omega arith, refl); fewer = all-wait (entry_b ∷ []) }
      ▸ record { open_in = record { view = refl; installed = refl }; first = refl; waits = (0, omega arith, refl); next = refl; room = omega arith; fewer = none-waits (entry_b ∷ []); more = holds-both }
      ▸ (refl, refl, refl)
      ▸ (refl, refl, refl)
      ▸ record { open_in = record { view = refl; installed = refl }; first = refl; member = refl; acked = omega arith }
      ▸ record { open_in = record { view = refl; installed = refl }; reached = omega arith; stable = All refl (λ q listed. at-least-none _); fewer = keeps-all held_both refl }
      ▸ record { open_in = record { view = refl; installed = refl }; other = refl; ordered = refl; new = omega arith; near = omega arith; more = holds-first entry_a }
      ▸ record { open_in = record { view = refl; installed = refl }; other = refl; next = refl }
      ▸ (refl, omega arith)
      ▸ record { open_in = record { view = refl; installed = refl }; other = refl; ordered = refl; new = omega arith; near = omega arith; more = holds-first entry_a }
      ▸ record { open_in = record { view = refl; installed = refl }; other = refl; next = refl }
      ▸ (refl, omega arith)
      ▸ record { open_in = record { view = refl; installed = refl }; other = refl; ordered = refl; new = omega arith; near = omega arith; more = holds-both }
      ▸ record { open_in = record { view = refl; installed = refl }; other = refl; next = refl }
      ▸ (refl, omega arith)
      ▸ tt

  crash-runs : Runs fifth_system crash_chapter
  crash-runs =
      refl
      ▸ record { inside = refl; own = refl; above = for-some (λ p. IsBelow p.id view_of_rest.id) view_of_three refl; view = refl }
      ▸ record { asked = refl; listed = refl; connected = refl; above = inl (for-some (λ p. IsBelow p.id view_of_rest.id) view_of_three refl) }
      ▸ record { flush = refl; received = refl; listed = refl; new = refl }
      ▸ record { view = refl; flush = refl; all = all-reported rest_reports; cut = cuts-of rest_reports both_cuts rest-cuts; gives = tt }
      ▸ record { asked = refl; promised = refl; waiting = refl; fits = omega arith; gives = refl; readable = for-none (λ bytes. IsSome (meaning.decode bytes)) }
      ▸ tt

  pub crash-plays : meaning.decode (meaning.encode meaning.opening) ≡ Some meaning.opening → CrashPlays meaning
  crash-plays reads =
      let rest = playing.run-then meaning fourth_system messages_chapter crash_chapter messages-run crash-runs in
      (playing.joined-then meaning reads (messages_chapter ++ crash_chapter) rest, refl)
