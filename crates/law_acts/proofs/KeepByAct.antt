-- Each of the seventeen acts keeps the invariant, as a step of a member that runs; and so do a start and a crash.
use Rattle.std.proofs.Common.{◌≡◌, ℕ, ◌≤◌, length, false, Option, Some, List, subst, sym}
use Rattle.address.specs.Ids.{Address, ViewId, IsAddress}
use Rattle.view.specs.Members.{View}
use Rattle.address.specs.declared.limits.TheConstants.{PAYLOAD}
use Rattle.wire_values.specs.Values.{Entry, Report}
use Rattle.wire_values.specs.Values as wire
use Rattle.wire_values.specs.declared.values.state.GivenState.{GivenState}
use Rattle.wire_values.specs.declared.packet.Body.{Body}
use Rattle.state_transfer.specs.Meanings.{Meaning}
use Rattle.flush.specs.Flushes.{FlushModel}
use Rattle.trace_props.specs.Observed.{has_started}
use Rattle.law_acts.specs.Histories.{History}
use Rattle.law_acts.specs.Cores.{Core}
use Rattle.law_acts.specs.Acts.{Cuts, Act, Creates, Joins, Puts, Sends, Queues, Orders, TakesAck, Collects, Holds, Delivers, Promises, Begins, Records, Gathers, Finishes, Enters, Leaves, Allowed}
use Rattle.law_acts.specs.Steps.{System, Start, Crash, came_of, acted, stepped}
use Rattle.law_acts.specs.Members.{MemberFact}
use Rattle.law_acts.specs.Invariant.{EachPiece, HoldsPutOut, Invariant}
use Rattle.law_acts.proofs.ActChangesOwn.{joins-fact, gathers-fact, queues-fact, hears-fact, collects-fact, holds-fact, records-fact}
use Rattle.law_acts.proofs.ActLeaves.{still-keeps, leaves-keeps, crashed-keeps}
use Rattle.law_acts.proofs.KeepByStart.{starts-keep}
use Rattle.law_acts.proofs.ActSends.{sends-keep}
use Rattle.law_acts.proofs.ActDelivers.{delivers-keep}
use Rattle.law_acts.proofs.ActOrders.{orders-keep}
use Rattle.law_acts.proofs.ActEnters.{enters-keep}
use Rattle.law_acts.proofs.ActCreates.{creates-keep}
use Rattle.law_acts.proofs.ActFinishes.{finishes-keep}
use Rattle.law_acts.proofs.ActPuts.{puts-keep}
use Rattle.law_acts.proofs.ActPromises.{promises-keep}
use Rattle.law_acts.proofs.ActBegins.{begins-keep}

module _ {S : Type 0} (meaning : Meaning S) where
  abbrev Holding : System S → Type 0
  Holding s = Invariant meaning s

  abbrev Fact : History → Address → Core S → Type 0
  Fact h p c = MemberFact meaning h p c

  -- the act of a running member, allowed on what it was handed, keeps the invariant
  abbrev pub Keeps : Act → Type 0
  Keeps act = (s : System S) (p : Address) (c : Core S) (which : Option ℕ) → Holding s → s.running p ≡ Some c → Allowed meaning (came_of c s.history.pool which) c act
      → Holding (acted meaning s p act c)

  -- shown of a member at its own address, it is shown
  at-own : (act : Act) → ((s : System S) (c : Core S) (which : Option ℕ) → Holding s → Fact s.history c.me c → Allowed meaning (came_of c s.history.pool which) c act
      → Holding (acted meaning s c.me act c)) → Keeps act
  at-own act shown s p c which i runs a =
      let x = i.members p c runs in
      subst (λ (q : Address). Holding (acted meaning s q act c)) x.standing.itself
      (shown s c which i (subst (λ (q : Address). Fact s.history q c) (sym x.standing.itself) x) a)

  pub creates-keeps : Keeps Creates
  creates-keeps = at-own Creates (λ s c which i x a. creates-keep meaning s c i x a)

  pub joins-keeps : Keeps Joins
  joins-keeps = at-own Joins (λ s c which i x a. still-keeps meaning s c.me _ i (joins-fact meaning s.history c.me c x))

  pub gathers-keeps : (w : ViewId) (chunk : wire.Chunk) (chunks : List (ViewId × wire.Chunk)) → Keeps (Gathers w chunk chunks)
  gathers-keeps w chunk chunks = at-own (Gathers w chunk chunks) (λ s c which i x a. still-keeps meaning s c.me _ i (gathers-fact meaning s.history c.me c chunks x))

  pub puts-keeps : (q : Address) (b : Body) → Keeps (Puts q b)
  puts-keeps q b = at-own (Puts q b) (λ s c which i x a. puts-keep meaning s c q b i x a)

  pub sends-keeps : (v : View) (payload : List ℕ) → Keeps (Sends v payload)
  sends-keeps v payload = at-own (Sends v payload) (λ s c which i x a. sends-keep meaning s c v payload i x a)

  pub queues-keeps : (v : View) (e : Entry) (waiting : List Entry) → Keeps (Queues v e waiting)
  queues-keeps v e waiting = at-own (Queues v e waiting) (λ s c which i x a.
      still-keeps meaning s c.me _ i (queues-fact meaning s.history c which v e waiting i.trace i.packets x a))

  pub hears-keeps : (v : View) (q : Address) (n : ℕ) → Keeps (TakesAck v q n)
  hears-keeps v q n = at-own (TakesAck v q n) (λ s c which i x a.
      still-keeps meaning s c.me _ i (hears-fact meaning s.history c which v q n i.packets x a))

  pub collects-keeps : (v : View) (n : ℕ) (held : List (ℕ × Entry)) → Keeps (Collects v n held)
  collects-keeps v n held = at-own (Collects v n held) (λ s c which i x a.
      still-keeps meaning s c.me _ i (collects-fact meaning s.history c which v n held i.packets x a))

  pub holds-keeps : (v : View) (g : ℕ) (e : Entry) (held : List (ℕ × Entry)) → Keeps (Holds v g e held)
  holds-keeps v g e held = at-own (Holds v g e held) (λ s c which i x a.
      still-keeps meaning s c.me _ i (holds-fact meaning s.history c which v g e held i.packets x a))

  pub records-keeps : (f : FlushModel) (q : Address) (r : Report) → Keeps (Records f q r)
  records-keeps f q r = at-own (Records f q r) (λ s c which i x a.
      still-keeps meaning s c.me _ i (records-fact meaning s.history c which f q r i.packets x a))

  pub promises-keeps : (w : View) → Keeps (Promises w)
  promises-keeps w s p c which i runs a = promises-keep meaning s p c which w i runs a

  pub begins-keeps : (w : View) → Keeps (Begins w)
  begins-keeps w s p c which i runs a = begins-keep meaning s p c w i runs a

  pub leaves-act-keeps : Keeps Leaves
  leaves-act-keeps = at-own Leaves (λ s c which i x a. leaves-keeps meaning s c i x)

  -- by the receiver's law on what a message does to a state
  pub delivers-keeps : ((z : S) (from : Address) (payload : List ℕ) → meaning.is_state z → IsAddress from → length payload ≤ PAYLOAD → meaning.is_state (meaning.apply z from payload))
      → (v : View) (e : Entry) → Keeps (Delivers v e)
  delivers-keeps law v e = at-own (Delivers v e) (λ s c which i x a. delivers-keep meaning s c v e law i x a)

  pub orders-keeps : ((z : S) (from : Address) (payload : List ℕ) → meaning.is_state z → IsAddress from → length payload ≤ PAYLOAD → meaning.is_state (meaning.apply z from payload))
      → (v : View) (e : Entry) (waiting : List Entry) (held : List (ℕ × Entry)) → Keeps (Orders v e waiting held)
  orders-keeps law v e waiting held = at-own (Orders v e waiting held) (λ s c which i x a. orders-keep meaning s c v e waiting held law i x a)

  pub finishes-keeps : ((z : S) (from : Address) (payload : List ℕ) → meaning.is_state z → IsAddress from → length payload ≤ PAYLOAD → meaning.is_state (meaning.apply z from payload))
      → (v : View) (f : FlushModel) (cuts : Cuts) (given : GivenState) → Keeps (Finishes v f cuts given)
  finishes-keeps law v f cuts given = at-own (Finishes v f cuts given) (λ s c which i x a. finishes-keep meaning s c v f cuts given law i x a)

  -- by that law, and by the law that an encoded state is read back
  pub enters-keeps : ((z : S) (from : Address) (payload : List ℕ) → meaning.is_state z → IsAddress from → length payload ≤ PAYLOAD → meaning.is_state (meaning.apply z from payload))
      → ((z : S) → meaning.is_state z → meaning.decode (meaning.encode z) ≡ Some z) → (i : wire.Install) (given : Option (List ℕ)) (s : System S) (p : Address) (c : Core S) (which : Option ℕ)
      → EachPiece meaning s.history → HoldsPutOut s.history.pool c.chunks → Holding s → s.running p ≡ Some c → Allowed meaning (came_of c s.history.pool which) c (Enters i given)
      → Holding (acted meaning s p (Enters i given) c)
  enters-keeps law reads i given s p c which each held inv runs a =
      let x = inv.members p c runs in
      subst (λ (q : Address). Holding (acted meaning s q (Enters i given) c)) x.standing.itself
      (enters-keep meaning s c which i given each held law reads inv (subst (λ (q : Address). Fact s.history q c) (sym x.standing.itself) x) a)

  -- a start and a crash keep it
  pub start-keeps : (s : System S) (p : Address) → meaning.is_state meaning.opening → Holding s → IsAddress p → has_started p s.history.trace ≡ false
      → Holding (stepped meaning s (Start p))
  start-keeps s p opens i proper fresh = starts-keep meaning s p opens i proper fresh

  pub crash-keeps : (s : System S) (p : Address) (c : Core S) → Holding s → s.running p ≡ Some c → Holding (stepped meaning s (Crash p))
  crash-keeps s p c i runs = crashed-keeps meaning s p c i runs
