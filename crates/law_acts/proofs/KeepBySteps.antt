-- All steps keep the invariant, so it holds after any list of steps.
use Rattle.std.proofs.Common.{◌≡◌, ℕ, ◌≤◌, true, false, length, Option, Some, None, List, [], ◌∷◌, refl}
use Rattle.std.specs.Prelude.{IsSome}
use Rattle.std.specs.Option.{IsSomeAnd, option_map_or}
use Rattle.address.specs.Ids.{Address, IsAddress}
use Rattle.address.specs.declared.limits.TheConstants.{PAYLOAD}
use Rattle.state_transfer.specs.Meanings.{Meaning}
use Rattle.law_acts.specs.Cores.{Core}
use Rattle.law_acts.specs.Acts.{Act, Creates, Joins, Puts, Sends, Queues, Orders, TakesAck, Collects, Holds, Delivers, Promises, Begins, Records, Gathers, Finishes, Enters, Leaves, Allowed}
use Rattle.law_acts.specs.Steps.{System, Step, Start, Crash, Does, MayStep, MayRun, nothing_yet, came_of, acted, stepped, after_steps}
use Rattle.law_acts.specs.Invariant.{Invariant, Kept}
use Rattle.law_acts.specs.Agreement.{KeepsInvariant, IsAlwaysSynchronous}
use Rattle.law_acts.proofs.KeepByAct
use Rattle.law_acts.proofs.KeepChunks.{act-chunks, start-chunks, crash-chunks}
use Rattle.law_acts.proofs.KeepAtFirst.{nothing-holds}

module _ {S : Type 0} (meaning : Meaning S) where
  -- what a receiver promises
  pub record Laws : Type 0 where
    pub opens : meaning.is_state meaning.opening
    pub applies : (s : S) (from : Address) (payload : List ℕ) → meaning.is_state s → IsAddress from → length payload ≤ PAYLOAD → meaning.is_state (meaning.apply s from payload)
    pub decodes : (bytes : List ℕ) (s : S) → meaning.decode bytes ≡ Some s → meaning.is_state s
    pub reads_back : (s : S) → meaning.is_state s → meaning.decode (meaning.encode s) ≡ Some s

  abbrev Holding : System S → Type 0
  Holding s = Kept meaning s

  -- each act keeps the invariant
  abbrev Agrees : Act → Type 0
  Agrees act = (s : System S) (p : Address) (c : Core S) (which : Option ℕ) → Holding s → s.running p ≡ Some c → Allowed meaning (came_of c s.history.pool which) c act
      → Invariant meaning (acted meaning s p act c)

  act-agrees : Laws → (act : Act) → Agrees act
  act-agrees l Creates s p c which x runs a = KeepByAct.creates-keeps meaning s p c which x.agreed runs a
  act-agrees l Joins s p c which x runs a = KeepByAct.joins-keeps meaning s p c which x.agreed runs a
  act-agrees l (Puts q body) s p c which x runs a = KeepByAct.puts-keeps meaning q body s p c which x.agreed runs a
  act-agrees l (Sends v payload) s p c which x runs a = KeepByAct.sends-keeps meaning v payload s p c which x.agreed runs a
  act-agrees l (Queues v e waiting) s p c which x runs a = KeepByAct.queues-keeps meaning v e waiting s p c which x.agreed runs a
  act-agrees l (Orders v e waiting held) s p c which x runs a = KeepByAct.orders-keeps meaning l.applies v e waiting held s p c which x.agreed runs a
  act-agrees l (TakesAck v q n) s p c which x runs a = KeepByAct.hears-keeps meaning v q n s p c which x.agreed runs a
  act-agrees l (Collects v n held) s p c which x runs a = KeepByAct.collects-keeps meaning v n held s p c which x.agreed runs a
  act-agrees l (Holds v g e held) s p c which x runs a = KeepByAct.holds-keeps meaning v g e held s p c which x.agreed runs a
  act-agrees l (Delivers v e) s p c which x runs a = KeepByAct.delivers-keeps meaning l.applies v e s p c which x.agreed runs a
  act-agrees l (Promises w) s p c which x runs a = KeepByAct.promises-keeps meaning w s p c which x.agreed runs a
  act-agrees l (Begins w) s p c which x runs a = KeepByAct.begins-keeps meaning w s p c which x.agreed runs a
  act-agrees l (Records f q r) s p c which x runs a = KeepByAct.records-keeps meaning f q r s p c which x.agreed runs a
  act-agrees l (Gathers w chunk chunks) s p c which x runs a = KeepByAct.gathers-keeps meaning w chunk chunks s p c which x.agreed runs a
  act-agrees l (Finishes v f cuts given) s p c which x runs a = KeepByAct.finishes-keeps meaning l.applies v f cuts given s p c which x.agreed runs a
  act-agrees l (Enters i given) s p c which x runs a = KeepByAct.enters-keeps meaning l.applies l.reads_back i given s p c which x.chunks.pieces (x.chunks.held p c runs) x.agreed runs a
  act-agrees l Leaves s p c which x runs a = KeepByAct.leaves-act-keeps meaning s p c which x.agreed runs a

  -- and what holds of chunks
  pub act-keeps : Laws → (act : Act) (s : System S) (p : Address) (c : Core S) (which : Option ℕ) → Holding s → s.running p ≡ Some c
      → Allowed meaning (came_of c s.history.pool which) c act → Holding (acted meaning s p act c)
  act-keeps l act s p c which x runs a =
      let agreed = act-agrees l act s p c which x runs a in
      record { agreed = agreed; chunks = act-chunks meaning act s p c which x.chunks runs a agreed }

  -- each step
  does-keeps : Laws → (s : System S) (p : Address) (which : Option ℕ) (act : Act) (o : Option (Core S)) → s.running p ≡ o → Holding s
      → IsSomeAnd o (λ c. Allowed meaning (came_of c s.history.pool which) c act) → Holding (option_map_or (acted meaning s p act) o s)
  does-keeps l s p which act None runs i a = i
  does-keeps l s p which act (Some c) runs i a = act-keeps l act s p c which i runs a

  crash-by : (s : System S) (p : Address) (o : Option (Core S)) → s.running p ≡ o → Holding s → IsSome o → Holding (stepped meaning s (Crash p))
  crash-by s p None runs i a = absurd (let n : false ≡ true = a in cc)
  crash-by s p (Some c) runs i a = record { agreed = KeepByAct.crash-keeps meaning s p c i.agreed runs; chunks = crash-chunks meaning s p i.chunks }

  pub step-keeps : Laws → (s : System S) (x : Step) → Holding s → MayStep meaning s x → Holding (stepped meaning s x)
  step-keeps l s (Start p) i a = record { agreed = KeepByAct.start-keeps meaning s p l.opens i.agreed a.0 a.1; chunks = start-chunks meaning s p i.chunks }
  step-keeps l s (Crash p) i a = crash-by s p (s.running p) refl i a
  step-keeps l s (Does p which act) i a = does-keeps l s p which act (s.running p) refl i a

  -- any number of steps
  pub steps-keep : Laws → (s : System S) (steps : List Step) → Holding s → MayRun meaning s steps → Holding (after_steps meaning s steps)
  steps-keep l s [] i a = i
  steps-keep l s (x ∷ steps) i a = steps-keep l (stepped meaning s x) steps (step-keeps l s x i a.0) a.1

  pub keeps-invariant : Laws → KeepsInvariant meaning
  keeps-invariant l steps a = steps-keep l nothing_yet steps (nothing-holds meaning) a

  pub always-synchronous : Laws → IsAlwaysSynchronous meaning
  always-synchronous l steps a = (keeps-invariant l steps a).agreed.trace.synchronous
