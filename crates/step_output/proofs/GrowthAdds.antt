-- What grows twice, and what does not grow.
use Rattle.std.proofs.Common.{◌≡◌, ℕ, List, [], ◌∷◌, ◌++◌, map, refl, sym, ap, ◌∙◌, append_assoc}
use Rattle.std.proofs.lemmas.List.{append-nil}
use Rattle.std.specs.List.{AllByRecursion}
use Rattle.wire.specs.Packets.{IsPacket}
use Rattle.trace_props.specs.declared.event.Event.{Event}
use Rattle.trace_props.specs.Recorded.{IsShort}
use Rattle.wire_values.specs.Posted.{Posted}
use Rattle.step_output.specs.declared.output.Output.{Output}
use Rattle.step_output.specs.Outputs.{packet_in, spelled, Grows}

map-append : {X Y : Type 0} (f : X → Y) (xs ys : List X) → map f (xs ++ ys) ≡ map f xs ++ map f ys
map-append f [] ys = refl
map-append f (x ∷ xs) ys = ap (λ l. f x ∷ l) (map-append f xs ys)

pub all-then : {X : Type 0} (P : X → Type 0) (xs ys : List X) → AllByRecursion P xs → AllByRecursion P ys → AllByRecursion P (xs ++ ys)
all-then P [] ys a b = b
all-then P (x ∷ xs) ys a b = (a.0, all-then P xs ys a.1 b)

pub grows-nothing : (group : List ℕ) (out : Output) → Grows group out out [] []
grows-nothing group out = record { packets = sym (append-nil out.packets.items); sound = tt; events = sym (append-nil out.events.items); short = tt }

pub grows-then : (group : List ℕ) (a b c : Output) (ps qs : List Posted) (hs js : List Event) → Grows group a b ps hs → Grows group b c qs js → Grows group a c (ps ++ qs) (hs ++ js)
grows-then group a b c ps qs hs js x y = record {
  packets = y.packets ∙ ap (λ l. l ++ map (spelled group) qs) x.packets ∙ append_assoc a.packets.items (map (spelled group) ps) (map (spelled group) qs)
      ∙ ap (λ l. a.packets.items ++ l) (sym (map-append (spelled group) ps qs));
  sound = all-then (λ m. IsPacket (packet_in group m)) ps qs x.sound y.sound;
  events = y.events ∙ ap (λ l. l ++ js) x.events ∙ append_assoc a.events.items hs js;
  short = all-then IsShort hs js x.short y.short;
}
