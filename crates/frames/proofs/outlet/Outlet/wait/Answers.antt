use Rattle.std.proofs.Common.{◌≡◌, true, ◌≤◌, ◌+◌, ℕ, List, [], ◌∷◌, ◌++◌, length, ap, refl, subst, sym, ◌∙◌, arith}
use Rattle.std.proofs.lemmas.Bool.{leb-true}
use Rattle.std.specs.List.{AllByRecursion}
use Rattle.frames.specs.Frames.{bytes_behind, last_behind, packed, shared_front, IsShort}
use Rattle.frames.specs.Outlets.{OutletModel, has_place}
use Rattle.frames.specs.Arrivals.{StandsIn}
use Rattle.frames.specs.Sendings.{AreOf}
use Rattle.frames.proofs.Shared.{length-packed-more, packed-more}
use Rattle.frames.proofs.PiecesCome.{all-push}
use Rattle.frames.proofs.outlet.Outlet.wait.Goals as goal

pub invariant_of-self-2 : goal.invariant_of-self-2
invariant_of-self-2 c =
    let w = c.self.inside.waiting in
    let packet = c.args.packet.now in
    let is : record { node = c.self.inside.node; frames = c.self.inside.frames; longs = c.self.inside.longs; waiting = w } ≡ c.args.self.now = c.self.view_is in
    let waits : c.push.new.self ≡ w ++ packet ∷ [] = c.in_ok-push.ensures.ok in
    let shared : c.shared_front-shared.result ≡ shared_front (last_behind [] w) packet = c.shared_front-shared.ensures.is ∙ ap (λ (l : List ℕ). shared_front l packet) c.last.ensures in
    let content : c.put_packet.new.out.items ≡ packed (w ++ packet ∷ []) =
    c.put_packet.ensures.items ∙ ap (λ (l : List ℕ). l ++ bytes_behind c.shared_front-shared.result packet) (c.reserve.ensures.items ∙ c.self.invariant.1)
    ∙ ap (λ (n : ℕ). packed w ++ bytes_behind n packet) shared ∙ sym (packed-more [] w packet) in
    let place : length packet + 3 + length (packed w) ≤ 1356 = leb-true _ _ (subst (λ (o : OutletModel). has_place packet o ≡ true) (sym is) c.requires) in (
      subst (AllByRecursion IsShort) (sym waits) (all-push IsShort w packet c.self.invariant.0 (omega (arith, place))),
      content ∙ ap packed (sym waits),
      omega (arith, ap length content, length-packed-more w packet, place),
    )

pub returns : goal.returns
returns c =
    let made : List (List ℕ) → OutletModel =
    λ w. record { node = c.self.inside.node; frames = c.self.inside.frames; longs = c.self.inside.longs; waiting = w } in
    rw (← c.self.view_is) (record {
      ok = ap made c.in_ok-push.ensures.ok;
      node = refl;
      longs = refl;
      err = tt;
      of = λ sent of stands. subst (AreOf sent) (sym c.in_ok-push.ensures.ok) (all-push (StandsIn sent) c.self.inside.waiting c.args.packet.now of stands);
    })
