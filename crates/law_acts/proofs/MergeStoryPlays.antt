-- The story of the two halves plays: each of its steps is allowed after those before, and the trace is the one that is written.
use Rattle.std.proofs.Common.{◌≡◌, ℕ, zero, suc, ◌+◌, Some, None, List, [], ◌∷◌, ◌++◌, refl, sym, ap, ◌∙◌, is_some, arith, inl}
use Rattle.std.specs.Prelude.{IsSome, slice_get, length, ◌≤◌}
use Rattle.std.proofs.lemmas.Option.{none-some}
use Rattle.address.specs.Ids.{IsAddress}
use Rattle.wire_values.specs.Values.{Entry, Report}
use Rattle.address.specs.declared.limits.TheConstants.{PAYLOAD}
use Rattle.state_transfer.specs.Meanings.{Meaning}
use Rattle.flush.specs.Cuts.{held_among, greatest_stable, IsCut}
use Rattle.flush.specs.Flushes.{group}
use Rattle.trace_props.specs.Rules.{IsBelow}
use Rattle.law_acts.specs.Acts.{All}
use Rattle.law_acts.specs.Steps.{System, Step}
use Rattle.law_acts.specs.Stories.{one, view_of_three, message_a, held_first, delivered_nothing, delivered_first, empty_cuts}
use Rattle.law_acts.specs.MergeStory.{four, view_of_four, view_given_up, first_half, second_half, view_of_all, entry_of_one, entry_of_three, four_reports, first_reports, second_reports, all_reports, half_cuts, fourth_chapter, parting_chapter, apart_chapter, merge_chapter, MergePlays}
use Rattle.law_acts.proofs.StoriesPlay as playing
use Rattle.law_acts.proofs.StoriesPlay.{all-wait, ◌▸◌, for-none, for-some, holds-first, keeps-all, at-least-none, none-waits, all-reported, Each, HasCut, cuts-of, no-items}

four-is : IsAddress four
four-is = record { node = omega arith; node_fits = omega arith; incarnation = omega arith; incarnation_fits = omega arith }

-- one message is held, and nothing stable
one-each : (reports : List Report) (e : Entry) → held_among reports 1 ≡ Some e → (j : ℕ) (f : Entry) → slice_get (e ∷ []) j ≡ Some f → held_among reports (0 + j + 1) ≡ Some f
one-each reports e first zero f at = first ∙ at
one-each reports e first (suc j) f at = absurd (none-some f at)

one-item : (reports : List Report) (e : Entry) → greatest_stable reports ≡ 0 → held_among reports 1 ≡ Some e → held_among reports 2 ≡ None → IsCut reports 0 (e ∷ [])
one-item reports e stable first end = record { base = sym stable; each = one-each reports e first; end = end }

-- ---- the four flushes

four-cuts : Each (HasCut four_reports empty_cuts) four_reports
four-cuts =
    let cut = no-items (delivered_nothing view_of_three ∷ delivered_nothing view_of_three ∷ delivered_nothing view_of_three ∷ []) 0 refl refl in
    let cut = for-some (λ u. IsCut (group (Some u) four_reports) 0 []) view_of_three.id cut in
    (cut, (cut, (cut, (for-none (λ u. IsCut (group (Some u) four_reports) 0 []), tt))))

first-cuts : Each (HasCut first_reports empty_cuts) first_reports
first-cuts =
    let cut = no-items (delivered_nothing view_of_four ∷ delivered_nothing view_of_four ∷ []) 0 refl refl in
    let cut = for-some (λ u. IsCut (group (Some u) first_reports) 0 []) view_of_four.id cut in
    (cut, (cut, tt))

second-cuts : Each (HasCut second_reports empty_cuts) second_reports
second-cuts =
    let cut = no-items (delivered_nothing view_of_four ∷ delivered_nothing view_of_four ∷ []) 0 refl refl in
    let cut = for-some (λ u. IsCut (group (Some u) second_reports) 0 []) view_of_four.id cut in
    (cut, (cut, tt))

-- each half has a cut of its own
all-cuts : Each (HasCut all_reports half_cuts) all_reports
all-cuts =
    let first = one-item (delivered_first first_half entry_of_one ∷ delivered_first first_half entry_of_one ∷ []) entry_of_one refl refl refl in
    let first = for-some (λ u. IsCut (group (Some u) all_reports) 0 (half_cuts.items u)) first_half.id first in
    let second = one-item (delivered_first second_half entry_of_three ∷ delivered_nothing second_half ∷ []) entry_of_three refl refl refl in
    let second = for-some (λ u. IsCut (group (Some u) all_reports) 0 (half_cuts.items u)) second_half.id second in
    (first, (first, (second, (second, tt))))

-- the message that is in the state which is given
pub is-short : length message_a ≤ PAYLOAD
is-short = omega arith

module _ {S : Type 0} (meaning : Meaning S) where
  abbrev Runs : System S → List Step → Type 0
  Runs s steps = playing.Runs meaning s steps

  abbrev After : System S → List Step → System S
  After s steps = playing.After meaning s steps

  -- the state of the first half
  abbrev half : S
  half = meaning.apply meaning.opening one message_a

  abbrev fourth_system : System S
  fourth_system = playing.fourth_system meaning

  abbrev fifth_system : System S
  fifth_system = After fourth_system (fourth_chapter (meaning.encode meaning.opening))

  abbrev sixth_system : System S
  sixth_system = After fifth_system parting_chapter

  abbrev seventh_system : System S
  seventh_system = After sixth_system apart_chapter

  fourth-runs : meaning.decode (meaning.encode meaning.opening) ≡ Some meaning.opening → Runs fourth_system (fourth_chapter (meaning.encode meaning.opening))
  fourth-runs reads =
      (four-is, refl)
      ▸ refl
      ▸ tt
      ▸ record { inside = refl; own = refl; above = for-some (λ p. IsBelow p.id view_of_four.id) view_of_three refl; view = refl }
      ▸ record { asked = refl; listed = refl; connected = refl; above = inl (for-some (λ p. IsBelow p.id view_of_four.id) view_of_three refl) }
      ▸ record { asked = refl; listed = refl; connected = refl; above = inl (for-some (λ p. IsBelow p.id view_of_four.id) view_of_three refl) }
      ▸ record { asked = refl; listed = refl; connected = refl; above = inl (for-none (λ p. IsBelow p.id view_of_four.id)) }
      ▸ record { flush = refl; received = refl; listed = refl; new = refl }
      ▸ record { flush = refl; received = refl; listed = refl; new = refl }
      ▸ record { flush = refl; received = refl; listed = refl; new = refl }
      ▸ record { view = refl; flush = refl; all = all-reported four_reports; cut = cuts-of four_reports empty_cuts four-cuts; gives = refl }
      ▸ record { asked = refl; promised = refl; waiting = refl; fits = omega arith; gives = refl; readable = for-none (λ bytes. IsSome (meaning.decode bytes)) }
      ▸ record { asked = refl; promised = refl; waiting = refl; fits = omega arith; gives = refl; readable = for-none (λ bytes. IsSome (meaning.decode bytes)) }
      ▸ record { asked = refl; promised = refl; waiting = refl; fits = record { base = refl; items = refl; state = refl }; gives = refl; readable = for-some (λ bytes. IsSome (meaning.decode bytes)) (meaning.encode meaning.opening) (ap is_some reads) }
      ▸ tt

  parting-runs : Runs fifth_system parting_chapter
  parting-runs =
      record { inside = refl; own = refl; above = for-some (λ p. IsBelow p.id view_given_up.id) view_of_four refl; view = refl }
      ▸ record { inside = refl; own = refl; above = for-some (λ p. IsBelow p.id first_half.id) view_given_up refl; view = refl }
      ▸ record { inside = refl; own = refl; above = for-some (λ p. IsBelow p.id second_half.id) view_of_four refl; view = refl }
      ▸ record { asked = refl; listed = refl; connected = refl; above = inl (for-some (λ p. IsBelow p.id first_half.id) view_of_four refl) }
      ▸ record { flush = refl; received = refl; listed = refl; new = refl }
      ▸ record { view = refl; flush = refl; all = all-reported first_reports; cut = cuts-of first_reports empty_cuts first-cuts; gives = tt }
      ▸ record { asked = refl; promised = refl; waiting = refl; fits = omega arith; gives = refl; readable = for-none (λ bytes. IsSome (meaning.decode bytes)) }
      ▸ record { asked = refl; listed = refl; connected = refl; above = inl (for-some (λ p. IsBelow p.id second_half.id) view_of_four refl) }
      ▸ record { flush = refl; received = refl; listed = refl; new = refl }
      ▸ record { view = refl; flush = refl; all = all-reported second_reports; cut = cuts-of second_reports empty_cuts second-cuts; gives = tt }
      ▸ record { asked = refl; promised = refl; waiting = refl; fits = omega arith; gives = refl; readable = for-none (λ bytes. IsSome (meaning.decode bytes)) }
      ▸ tt

  apart-runs : Runs sixth_system apart_chapter
  apart-runs =
      record { open_in = record { view = refl; installed = refl }; short = omega arith }
      ▸ record { open_in = record { view = refl; installed = refl }; first = refl; member = refl; new = omega arith; sent = (0, omega arith, refl); fewer = all-wait (entry_of_one ∷ []) }
      ▸ record { open_in = record { view = refl; installed = refl }; first = refl; waits = (0, omega arith, refl); next = refl; room = omega arith; fewer = none-waits (entry_of_one ∷ []); more = holds-first entry_of_one }
      ▸ (refl, refl, refl)
      ▸ record { open_in = record { view = refl; installed = refl }; first = refl; member = refl; acked = omega arith }
      ▸ record { open_in = record { view = refl; installed = refl }; reached = omega arith; stable = All refl (λ q listed. at-least-none _); fewer = keeps-all (held_first entry_of_one) refl }
      ▸ record { open_in = record { view = refl; installed = refl }; other = refl; ordered = refl; new = omega arith; near = omega arith; more = holds-first entry_of_one }
      ▸ record { open_in = record { view = refl; installed = refl }; other = refl; next = refl }
      ▸ (refl, omega arith)
      ▸ record { open_in = record { view = refl; installed = refl }; short = omega arith }
      ▸ record { open_in = record { view = refl; installed = refl }; first = refl; member = refl; new = omega arith; sent = (0, omega arith, refl); fewer = all-wait (entry_of_three ∷ []) }
      ▸ record { open_in = record { view = refl; installed = refl }; first = refl; waits = (0, omega arith, refl); next = refl; room = omega arith; fewer = none-waits (entry_of_three ∷ []); more = holds-first entry_of_three }
      ▸ (refl, refl, refl)
      ▸ record { open_in = record { view = refl; installed = refl }; first = refl; member = refl; acked = omega arith }
      ▸ record { open_in = record { view = refl; installed = refl }; reached = omega arith; stable = All refl (λ q listed. at-least-none _); fewer = keeps-all (held_first entry_of_three) refl }
      ▸ tt

  merge-runs : meaning.decode (meaning.encode half) ≡ Some half → Runs seventh_system (merge_chapter (meaning.encode half))
  merge-runs reads =
      tt
      ▸ record { inside = refl; own = refl; above = for-some (λ p. IsBelow p.id view_of_all.id) first_half refl; view = refl }
      ▸ record { asked = refl; listed = refl; connected = refl; above = inl (for-some (λ p. IsBelow p.id view_of_all.id) first_half refl) }
      ▸ record { asked = refl; listed = refl; connected = refl; above = inl (for-some (λ p. IsBelow p.id view_of_all.id) second_half refl) }
      ▸ record { asked = refl; listed = refl; connected = refl; above = inl (for-some (λ p. IsBelow p.id view_of_all.id) second_half refl) }
      ▸ record { flush = refl; received = refl; listed = refl; new = refl }
      ▸ record { flush = refl; received = refl; listed = refl; new = refl }
      ▸ record { flush = refl; received = refl; listed = refl; new = refl }
      ▸ record { view = refl; flush = refl; all = all-reported all_reports; cut = cuts-of all_reports half_cuts all-cuts; gives = refl }
      ▸ record { asked = refl; promised = refl; waiting = refl; fits = omega arith; gives = refl; readable = for-none (λ bytes. IsSome (meaning.decode bytes)) }
      ▸ record { asked = refl; promised = refl; waiting = refl; fits = omega arith; gives = refl; readable = for-some (λ bytes. IsSome (meaning.decode bytes)) (meaning.encode half) (ap is_some reads) }
      ▸ record { asked = refl; promised = refl; waiting = refl; fits = omega arith; gives = refl; readable = for-some (λ bytes. IsSome (meaning.decode bytes)) (meaning.encode half) (ap is_some reads) }
      ▸ tt

  pub merge-plays : meaning.decode (meaning.encode meaning.opening) ≡ Some meaning.opening → meaning.decode (meaning.encode half) ≡ Some half → MergePlays meaning
  merge-plays reads reads_half =
      let apart : List Step = apart_chapter ++ merge_chapter (meaning.encode half) in
      let parting : List Step = parting_chapter ++ apart in
      let fourth : List Step = fourth_chapter (meaning.encode meaning.opening) ++ parting in
      let rest = playing.run-then meaning sixth_system apart_chapter (merge_chapter (meaning.encode half)) apart-runs (merge-runs reads_half) in
      let rest = playing.run-then meaning fifth_system parting_chapter apart parting-runs rest in
      let rest = playing.run-then meaning fourth_system (fourth_chapter (meaning.encode meaning.opening)) parting (fourth-runs reads) rest in
      (playing.joined-then meaning reads fourth rest, refl)
