-- A member leaves or crashes; an act changes nothing but the member.
use Rattle.std.proofs.Common.{◌≡◌, Some, None, List, [], ◌∷◌, ◌++◌, refl, sym, ◌∙◌, subst}
use Rattle.std.proofs.lemmas.Option.{none-some, same_Some}
use Rattle.std.proofs.lemmas.List.{append-nil}
use Rattle.address.specs.Ids.{Address}
use Rattle.state_transfer.specs.Meanings.{Meaning}
use Rattle.trace_props.specs.declared.event.Event.{Event}
use Rattle.trace_props.specs.declared.event.Event.TheVariants.{Left, Crashed}
use Rattle.trace_props.specs.Rules.{IsRunning}
use Rattle.trace_props.specs.Verdicts.{GoesOn}
use Rattle.law_acts.specs.Histories.{History}
use Rattle.law_acts.specs.Cores.{Core}
use Rattle.law_acts.specs.Steps.{System, put, grown}
use Rattle.law_acts.specs.Members.{MemberFact}
use Rattle.law_acts.specs.Invariant.{Invariant}
use Rattle.law_acts.proofs.KeepByMove.{moved}
use Rattle.law_acts.proofs.KeepWithoutInstall.{Quiet, quiet-refl, quiet-event, quiet-moves, grown-none, grown-trace}

module _ {S : Type 0} (meaning : Meaning S) where
  abbrev Holds : System S → Type 0
  Holds s = Invariant meaning s

  -- NOTHING HAPPENS

  -- an act that puts out nothing, and by which nothing happens, keeps all where it keeps what holds of the member
  pub still-keeps : (s : System S) (p : Address) (c : Core S) → Holds s → MemberFact meaning s.history p c
      → Holds (record { running = put p (Some c) s.running; history = grown s.history [] [] })
  still-keeps s p c i fact =
      subst (λ (k : History). Holds (record { running = put p (Some c) s.running; history = k })) (sym (grown-none meaning s.history))
      (moved meaning s p s.history (Some c) i
      (quiet-moves meaning s p s.history [] (Some c) i
      (quiet-refl meaning p s.history i.trace)
      (sym (append-nil s.history.pool))
      (λ n m at. absurd (none-some m at))
      (λ d e. subst (λ (x : Core S). MemberFact meaning s.history p x) (same_Some c d e) fact)))

  -- THE END

  -- what ends a running member may follow
  pub left-goes : (t : List Event) (p : Address) → IsRunning p t → GoesOn meaning t (Left p)
  left-goes t p r = record { seven = (tt, (tt, (tt, (tt, (tt, (tt, (r, tt))))))); enters = tt }

  pub crashed-goes : (t : List Event) (p : Address) → IsRunning p t → GoesOn meaning t (Crashed p)
  crashed-goes t p r = record { seven = (tt, (tt, (tt, (tt, (tt, (tt, (r, tt))))))); enters = tt }

  -- of a member that no longer runs nothing is owed
  ends-keeps : (s : System S) (p : Address) (k : History) → Holds s → Quiet meaning p s.history k → k.pool ≡ s.history.pool
      → Holds (record { running = put p None s.running; history = k })
  ends-keeps s p k i quiet pool =
      moved meaning s p k None i
      (quiet-moves meaning s p k [] None i quiet (pool ∙ sym (append-nil s.history.pool)) (λ n m at. absurd (none-some m at)) (λ c e. absurd (none-some c e)))

  pub leaves-keeps : (s : System S) (c : Core S) → Holds s → MemberFact meaning s.history c.me c
      → Holds (record { running = put c.me None s.running; history = grown s.history [] (Left c.me ∷ []) })
  leaves-keeps s c i x =
      subst (λ (k : History). Holds (record { running = put c.me None s.running; history = k })) (sym (grown-trace meaning s.history (Left c.me ∷ [])))
      (ends-keeps s c.me (record { pool = s.history.pool; trace = s.history.trace ++ Left c.me ∷ [] }) i
      (quiet-event meaning c.me s.history (Left c.me) refl refl i.trace (left-goes s.history.trace c.me x.standing.running) tt) refl)

  pub crashed-keeps : (s : System S) (p : Address) (c : Core S) → Holds s → s.running p ≡ Some c
      → Holds (record { running = put p None s.running; history = grown s.history [] (Crashed p ∷ []) })
  crashed-keeps s p c i runs =
      subst (λ (k : History). Holds (record { running = put p None s.running; history = k })) (sym (grown-trace meaning s.history (Crashed p ∷ [])))
      (ends-keeps s p (record { pool = s.history.pool; trace = s.history.trace ++ Crashed p ∷ [] }) i
      (quiet-event meaning p s.history (Crashed p) refl refl i.trace (crashed-goes s.history.trace p (i.members p c runs).standing.running) tt) refl)
