-- The three laws of acts one after another.
use Rattle.std.proofs.Common.{◌≡◌, Option, None, Some, List, [], ◌∷◌, ◌++◌, refl, sym, ap, ◌∙◌, subst}
use Rattle.std.proofs.lemmas.List.{append-nil, append_assoc}
use Rattle.state_transfer.specs.Meanings.{Meaning}
use Rattle.wire_values.specs.Posted.{Posted}
use Rattle.law_acts.specs.Cores.{Core}
use Rattle.law_acts.specs.Acts.{Act, after, packets_of, events_of}
use Rattle.law_acts.specs.Chains.{Chain, packets_along, events_along, NothingActed, OneActed, ThenActed}

module _ {S : Type 0} (meaning : Meaning S) where
  pub nothing-acted : NothingActed meaning
  nothing-acted came c = record { acts = []; chain = refl; puts = refl; happens = refl }

  pub one-acted : OneActed meaning
  one-acted came c a allowed = record {
    acts = a ∷ [];
    chain = (allowed, refl);
    puts = sym (append-nil (packets_of meaning c a));
    happens = sym (append-nil (events_of c a));
  }

  -- acts after acts
  chain-then : (came : Option Posted) (c d e : Option (Core S)) (acts more : List Act) → Chain meaning came c acts d → Chain meaning came d more e
      → Chain meaning came c (acts ++ more) e
  chain-then came c d e [] more x y = subst (λ (z : Option (Core S)). Chain meaning came z more e) (sym x) y
  chain-then came None d e (a ∷ acts) more x y = x
  chain-then came (Some c) d e (a ∷ acts) more x y = (x.0, chain-then came (after meaning c a) d e acts more x.1 y)

  packets-then : (came : Option Posted) (c d : Option (Core S)) (acts more : List Act) → Chain meaning came c acts d
      → packets_along meaning c acts ++ packets_along meaning d more ≡ packets_along meaning c (acts ++ more)
  packets-then came c d [] more x = ap (λ (z : Option (Core S)). packets_along meaning z more) (sym x)
  packets-then came None d (a ∷ acts) more x = absurd x
  packets-then came (Some c) d (a ∷ acts) more x =
      append_assoc (packets_of meaning c a) (packets_along meaning (after meaning c a) acts) (packets_along meaning d more)
      ∙ ap (λ l. packets_of meaning c a ++ l) (packets-then came (after meaning c a) d acts more x.1)

  events-then : (came : Option Posted) (c d : Option (Core S)) (acts more : List Act) → Chain meaning came c acts d
      → events_along meaning c acts ++ events_along meaning d more ≡ events_along meaning c (acts ++ more)
  events-then came c d [] more x = ap (λ (z : Option (Core S)). events_along meaning z more) (sym x)
  events-then came None d (a ∷ acts) more x = absurd x
  events-then came (Some c) d (a ∷ acts) more x =
      append_assoc (events_of c a) (events_along meaning (after meaning c a) acts) (events_along meaning d more)
      ∙ ap (λ l. events_of c a ++ l) (events-then came (after meaning c a) d acts more x.1)

  pub then-acted : ThenActed meaning
  then-acted came c d e packets more events later x y = record {
    acts = x.acts ++ y.acts;
    chain = chain-then came c d e x.acts y.acts x.chain y.chain;
    puts = ap (λ l. l ++ more) x.puts ∙ ap (λ l. packets_along meaning c x.acts ++ l) y.puts ∙ packets-then came c d x.acts y.acts x.chain;
    happens = ap (λ l. l ++ later) x.happens ∙ ap (λ l. events_along meaning c x.acts ++ l) y.happens ∙ events-then came c d x.acts y.acts x.chain;
  }
