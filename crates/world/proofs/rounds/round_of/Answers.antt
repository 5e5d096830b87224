use Rattle.std.proofs.Common.{List, sym, ap, ◌∙◌}
use Rattle.std.specs.Ordering.{nat_cmp}
use Rattle.std.specs.BTreeMap.{get}
use Rattle.address.specs.Ids.{Address}
use Rattle.world.specs.NodeStates.{node_states_in}
use Rattle.world.specs.LowProposals.{furthest}
use Rattle.world.proofs.RoundsRaise.{told_of, no-candidates, nobody, somebody}
use Rattle.world.proofs.rounds.round_of.Goals as goal

-- the counters are used up
pub returns-in_default-2 : goal.returns-in_default-2
returns-in_default-2 g c =
    sym (no-candidates (node_states_in (get nat_cmp c.args.node_states.now)) c.args.member.now c.in-Some.proposal (sym c.proposal.ensures ∙ c.in-Some.is) (sym c.in_ok-candidates.ensures ∙ c.in_default-2.is))

-- nobody is to be asked
pub returns-in_default-furthest_awaited : goal.returns-in_default-furthest_awaited
returns-in_default-furthest_awaited g c =
    let at = node_states_in (get nat_cmp c.args.node_states.now) in
    let list = c.as_slice-list.ensures.items ∙ c.members.ensures.members in
    sym (nobody at c.args.member.now c.in-Some.proposal (sym c.proposal.ensures ∙ c.in-Some.is) c.in-Some-2.candidates (sym c.in_ok-candidates.ensures ∙ c.in-Some-2.is)
    (sym (c.furthest_awaited.ensures ∙ ap (λ (l : List Address). furthest (told_of at c.args.member.now c.in-Some.proposal) l) list) ∙ c.in_default-furthest_awaited.is))

-- nothing is left past the promise of who is
pub returns-in-None : goal.returns-in-None
returns-in-None g c =
    let at = node_states_in (get nat_cmp c.args.node_states.now) in
    let list = c.as_slice-list.ensures.items ∙ c.members.ensures.members in
    sym (somebody at c.args.member.now c.in-Some.proposal (sym c.proposal.ensures ∙ c.in-Some.is) c.in-Some-2.candidates (sym c.in_ok-candidates.ensures ∙ c.in-Some-2.is) c.in-Some-furthest_awaited.most.0 c.in-Some-furthest_awaited.most.1
    (sym (c.furthest_awaited.ensures ∙ ap (λ (l : List Address). furthest (told_of at c.args.member.now c.in-Some.proposal) l) list) ∙ c.in-Some-furthest_awaited.is) _ (sym c.in_ok-anew_past.ensures ∙ c.in-None.is))

-- who is, and what it raises the proposal to
pub returns-in-Some-3 : goal.returns-in-Some-3
returns-in-Some-3 g c =
    let at = node_states_in (get nat_cmp c.args.node_states.now) in
    let list = c.as_slice-list.ensures.items ∙ c.members.ensures.members in
    sym (somebody at c.args.member.now c.in-Some.proposal (sym c.proposal.ensures ∙ c.in-Some.is) c.in-Some-2.candidates (sym c.in_ok-candidates.ensures ∙ c.in-Some-2.is) c.in-Some-furthest_awaited.most.0 c.in-Some-furthest_awaited.most.1
    (sym (c.furthest_awaited.ensures ∙ ap (λ (l : List Address). furthest (told_of at c.args.member.now c.in-Some.proposal) l) list) ∙ c.in-Some-furthest_awaited.is) _ (sym c.in_ok-anew_past.ensures ∙ c.in-Some-3.is))
