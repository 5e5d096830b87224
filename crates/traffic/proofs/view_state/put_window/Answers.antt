use Rattle.std.proofs.Common.{◌≡◌, ℕ, List, ◌∷◌, Option, Some, length, sym, ap, ◌∙◌, subst}
use Rattle.address.specs.declared.limits.TheConstants.{WINDOW}
use Rattle.wire_values.specs.Values.{Entry}
use Rattle.nak_stream.specs.Rings.{numbered}
use Rattle.traffic.proofs.SlotsPutOut.{IsPut, put-none, put-one}
use Rattle.traffic.proofs.view_state.put_window.Goals as goal

pub loop-slot-init : goal.loop-slot-init
loop-slot-init c =
    let left : List (Option Entry) = c.into_iter-slot-iterator.result in
    let e : left ≡ c.slots-slot-items.result = c.into_iter-slot-iterator.ensures.into_iter_gives in
    let held : numbered c.args.window.now.stable left ≡ c.args.window.now.held = ap (numbered c.args.window.now.stable) e ∙ c.slots-slot-items.ensures.held in
    let all : length left ≡ WINDOW = ap (λ (l : List (Option Entry)). length l) e ∙ c.slots-slot-items.ensures.all in
    subst (λ (n : ℕ). IsPut c.args.out.now.items c.args.window.now.held n left c.args.out.now.items) (sym c.stable-number.ensures)
    (put-none c.args.window.now left c.args.out.now.items c.kept.ensures held all)

pub loop-slot-preserved-in-Continue-1 : goal.loop-slot-preserved-in-Continue-1
loop-slot-preserved-in-Continue-1 c =
    let left : List (Option Entry) = c.next.new.self in
    let at : c.loop-slot.slot-iterator ≡ Some c.in-Some-slot.entry ∷ left = c.in-Some.ensures.steps ∙ ap (λ (o : Option Entry). o ∷ left) c.in-Some-slot.is in
    put-one _ _ c.loop-slot.number c.in-Some-slot.entry left c.loop-slot.out.items _
    (subst (λ (l : List (Option Entry)). IsPut c.args.out.now.items c.args.window.now.held c.loop-slot.number l c.loop-slot.out.items) at c.loop-slot.invariant)
    c.in_ok-put_placed.ensures.placed c.in_ok-put_placed.ensures.bytes
