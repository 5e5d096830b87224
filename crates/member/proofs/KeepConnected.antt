-- By acts alone a member that is connected stays so.
use Rattle.std.proofs.Common.{◌≡◌, true, Option, Some, None, List, [], ◌∷◌, refl, sym, ap, ◌∙◌}
use Rattle.std.proofs.lemmas.Option.{none-some, same_Some}
use Rattle.state_transfer.specs.Meanings.{Meaning}
use Rattle.trace_props.specs.declared.event.Event.{Event}
use Rattle.wire_values.specs.Posted.{Posted}
use Rattle.law_acts.specs.Cores.{Core}
use Rattle.law_acts.specs.Acts.{Act, Creates, Joins, Puts, Sends, Queues, Orders, TakesAck, Collects, Holds, Delivers, Promises, Begins, Records, Gathers, Finishes, Enters, Leaves, after}
use Rattle.law_acts.specs.Chains.{Chain, Acted}

module _ {S : Type 0} (meaning : Meaning S) where
  so : (c d : Core S) (o : Core S) → ◌≡◌ {A = Option (Core S)} (Some o) (Some d) → o.connected ≡ true → d.connected ≡ true
  so c d o e on = sym (ap (λ (k : Core S). k.connected) (same_Some o d e)) ∙ on

  act-connected : (c d : Core S) (a : Act) → after meaning c a ≡ Some d → c.connected ≡ true → d.connected ≡ true
  act-connected c d Creates e on = so c d _ e refl
  act-connected c d Joins e on = so c d _ e refl
  act-connected c d (Puts q body) e on = so c d _ e on
  act-connected c d (Sends v payload) e on = so c d _ e on
  act-connected c d (Queues v m waiting) e on = so c d _ e on
  act-connected c d (Orders v m waiting held) e on = so c d _ e on
  act-connected c d (TakesAck v q n) e on = so c d _ e on
  act-connected c d (Collects v n held) e on = so c d _ e on
  act-connected c d (Holds v g m held) e on = so c d _ e on
  act-connected c d (Delivers v m) e on = so c d _ e on
  act-connected c d (Promises w) e on = so c d _ e on
  act-connected c d (Begins w) e on = so c d _ e on
  act-connected c d (Records f q r) e on = so c d _ e on
  act-connected c d (Gathers w chunk chunks) e on = so c d _ e on
  act-connected c d (Finishes v f cuts given) e on = so c d _ e refl
  act-connected c d (Enters i given) e on = so c d _ e refl
  act-connected c d Leaves e on = absurd (none-some d e)

  ended : (came : Option Posted) (d : Core S) (acts : List Act) → Chain meaning came None acts (Some d) → ⊥
  ended came d [] x = none-some d x
  ended came d (a ∷ acts) x = x

  chain-connected : (came : Option Posted) (c d : Core S) (acts : List Act) → Chain meaning came (Some c) acts (Some d) → c.connected ≡ true → d.connected ≡ true
  chain-connected came c d [] x on = so c d c x on
  chain-connected came c d (a ∷ acts) x on = by (λ k y z. chain-connected came k d acts y z) (after meaning c a) refl x.1
    where
      by : ((k : Core S) → Chain meaning came (Some k) acts (Some d) → k.connected ≡ true → d.connected ≡ true) → (o : Option (Core S)) → after meaning c a ≡ o
          → Chain meaning came o acts (Some d) → d.connected ≡ true
      by rest None e y = absurd (ended came d acts y)
      by rest (Some k) e y = rest k y (act-connected c k a e on)

  pub acted-connected : (came : Option Posted) (c d : Core S) (packets : List Posted) (happened : List Event) → Acted meaning came (Some c) packets happened (Some d) → c.connected ≡ true
      → d.connected ≡ true
  acted-connected came c d packets happened x on = chain-connected came c d x.acts x.chain on
