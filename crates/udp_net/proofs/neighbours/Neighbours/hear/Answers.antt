use Rattle.std.proofs.Common.{◌≡◌, false, List, [], ◌∷◌, map, refl, sym, ap, ◌∙◌}
use Rattle.std.specs.List.{list_any}
use Rattle.std.proofs.lemmas.Bool.{or_parts}
use Rattle.std.proofs.lemmas.List.{with_items_is}
use Rattle.udp_net.specs.declared.word.Word.{Word}
use Rattle.udp_net.specs.declared.word.Neighbour.{Neighbour}
use Rattle.udp_net.specs.Neighbours.{NeighboursModel, is_news, hearing}
use Rattle.udp_net.proofs.neighbours.Neighbours.hear.Goals as goal

-- what is no news changes nothing
unchanged : (w : Word) (told : List Neighbour) → list_any (is_news w) told ≡ false → map (hearing w) told ≡ told
unchanged w [] none = refl
unchanged w (n ∷ told) none = let parts = or_parts (is_news w n) (list_any (is_news w) told) none in rw (parts.0, unchanged w told parts.1) refl

pub returns-else-hear_all : goal.returns-else-hear_all
returns-else-hear_all c =
    let slice = c.as_mut_slice.ensures.value in
    let none = ap (list_any (is_news c.args.word.now)) (sym slice) ∙ sym c.if-hear_all.ensures.news in
    let same = with_items_is c.self.inside.told c.hear_all.new.told (c.hear_all.auto.told ∙ c.as_mut_slice.ensures.len) ∙ c.hear_all.ensures.heard ∙ ap (map (hearing c.args.word.now)) slice ∙ unchanged c.args.word.now _ none in
    rw (sym c.self.view_is, none) (ap {B = NeighboursModel} (λ (t : List Neighbour). record { told = t; ages = c.self.inside.ages.items }) same)
