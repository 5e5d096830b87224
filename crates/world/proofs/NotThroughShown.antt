-- A view where somebody has not delivered a message, or does not know that it is stable, is refuted.
use Rattle.std.proofs.Common.{◌≡◌, ◌<◌, List, length, refl, sym, ap, ◌∙◌, subst, arith}
use Rattle.std.proofs.lemmas.Option.{same_Some}
use Rattle.trace_props.specs.declared.event.Event.{Event}
use Rattle.trace_props.specs.declared.event.Message.{Message}
use Rattle.trace_props.specs.Observed.{delivered_in, sent_in, own}
use Rattle.law_acts.specs.Stories.{one, two, view_of_two}
use Rattle.world.specs.NotThrough.{one_is_missing, MissingIsRefuted, UnstableIsRefuted, StoryIsRefuted}

pub missing : (S : Type 0) → MissingIsRefuted S
missing S v w p q first second few x =
    let level = x.level q second in
    let all : length (own p (delivered_in q v.id w.history.trace)) ≡ length (sent_in p v.id w.history.trace) = ap (λ (l : List Message). length (own p l)) level ∙ ap length (x.all p first) in
    omega (arith, all, few)

pub unstable : (S : Type 0) → UnstableIsRefuted S
unstable S v w q n listed knows few x =
    let same : n ≡ length (delivered_in v.id.creator v.id w.history.trace) = same_Some n (length (delivered_in v.id.creator v.id w.history.trace)) (sym knows ∙ x.stable q listed) in
    omega (arith, same, few)

pub story : (S : Type 0) → StoryIsRefuted S
story S h at state is x =
    let none : length (own one (delivered_in two view_of_two.id (one_is_missing state))) ≡ 0 = refl in
    let some : length (sent_in one view_of_two.id (one_is_missing state)) ≡ 1 = refl in
    missing S view_of_two (record { history = h; node_states = at }) one two refl refl
    (subst (λ (t : List Event). length (own one (delivered_in two view_of_two.id t)) < length (sent_in one view_of_two.id t)) (sym is) (omega (arith, none, some))) x
