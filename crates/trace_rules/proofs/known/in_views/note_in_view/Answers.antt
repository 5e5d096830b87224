use Rattle.std.proofs.Common.{Option, false, is_some, sym, ap, ◌∙◌, subst}
use Rattle.std.specs.HashMap.{get}
use Rattle.std.specs.Option.{option_map_or}
use Rattle.std.proofs.lemmas.Result.{on_ok_weaker}
use Rattle.trace_rules.specs.declared.known.in_views.InView.{InView}
use Rattle.trace_rules.specs.Known.{same_in_view, Says}
use Rattle.trace_rules.proofs.KeepInViews.{noted, elsewhere}
use Rattle.trace_rules.proofs.known.in_views.note_in_view.Goals as goal

-- nothing is done in a view
pub returns-in_default : goal.returns-in_default
returns-in_default c = λ t may r s.
    elsewhere (get same_in_view c.args.in_views.now s) s t c.args.event.now (ap (λ o. option_map_or (λ key. same_in_view key s) o false) (sym c.place_of.ensures ∙ c.in_default.is)) (r s)

-- something is kept of the member there
pub returns-in-Some-get_mut : goal.returns-in-Some-get_mut
returns-in-Some-get_mut c = on_ok_weaker c.add.result (λ follows t may.
    noted (get same_in_view c.args.in_views.now) (get same_in_view (c.get_mut.follows.lender c.add.new.self)) t c.args.event.now c.in-Some.in_view c.in-Some-get_mut.kept.now c.add.new.self
    (sym c.in-Some.is ∙ c.place_of.ensures)
    (λ says. subst (λ (o : Option InView). Says o c.in-Some.in_view.member c.in-Some.in_view.view t) (sym c.in-Some-get_mut.ensures.value) says) (follows t may)
    ((c.get_mut.follows.holds c.add.new.self).3 (ap is_some (sym c.in-Some-get_mut.ensures.value))).0) c.add.ensures

-- nothing is
pub returns-in_ok-add-in-None : goal.returns-in_ok-add-in-None
returns-in_ok-add-in-None c = on_ok_weaker c.begin.result (λ is t may.
    noted (get same_in_view c.args.in_views.now) (get same_in_view c.begin.new.in_views) t c.args.event.now c.in-Some.in_view c.new-first.result c.add-in-None.new.self
    (sym c.in-Some.is ∙ c.place_of.ensures)
    (λ says. c.new-first.ensures c.in-Some.in_view.member c.in-Some.in_view.view t (subst (λ (o : Option InView). Says o c.in-Some.in_view.member c.in-Some.in_view.view t) (sym c.in-None.ensures.value) says))
    (c.in_ok-add-in-None.ensures t may) is) (rw c.get_mut.follows.holds-at-none at c.begin.ensures)
