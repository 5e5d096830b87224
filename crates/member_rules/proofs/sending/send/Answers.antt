use Rattle.std.proofs.Common.{None, refl, sym, subst}
use Rattle.traffic.specs.declared.follower.Follower.{Follower}
use Rattle.traffic.specs.declared.view_state.ViewState.TheVariants as kinds
use Rattle.traffic.proofs.ActsOfAnswers.{send-goes}
use Rattle.member_rules.specs.Ordered.{IsOrderly}
use Rattle.member_rules.proofs.MembersAreOpen.{there-is, orderly-in, ordered-by, member_state-kept, goes-did}
use Rattle.member_rules.proofs.OwnMessagesGo.{promised-in, sends-first, sends-other, delivers-first}
use Rattle.member_rules.proofs.sending.send.Goals as goal

pub send-requires-clause-coordinator : goal.send-requires-clause-coordinator
send-requires-clause-coordinator g c =
    (orderly-in _ _ _ c.requires.ordered (there-is _ _ _ c.in-Some-Coordinator.is c.in-Some-Coordinator.field-0-is)).0

pub send-requires-clause-settled : goal.send-requires-clause-settled
send-requires-clause-settled g c =
    (orderly-in _ _ _ c.requires.ordered (there-is _ _ _ c.in-Some-Coordinator.is c.in-Some-Coordinator.field-0-is)).1

pub send-requires-clause-rested : goal.send-requires-clause-rested
send-requires-clause-rested g c =
    (orderly-in _ _ _ c.requires.ordered (there-is _ _ _ c.in-Some-Coordinator.is c.in-Some-Coordinator.field-0-is)).2

pub returns-in_ok-send-in-Some-Coordinator-clause-member_state : goal.returns-in_ok-send-in-Some-Coordinator-clause-member_state
returns-in_ok-send-in-Some-Coordinator-clause-member_state g c =
    let there = there-is _ _ _ c.in-Some-Coordinator.is c.in-Some-Coordinator.field-0-is in
    let promised = promised-in c.args.who.now.address c.args.member_state.now c.args.payload.now _ c.requires.free there in
    let does = c.in_ok-send-in-Some-Coordinator.ensures in
    member_state-kept _ _ _ _ _ _ c.requires.member_state promised there (does.goes None).view

pub returns-in_ok-send-in-Some-Coordinator-clause-ordered : goal.returns-in_ok-send-in-Some-Coordinator-clause-ordered
returns-in_ok-send-in-Some-Coordinator-clause-ordered g c =
    let does = c.in_ok-send-in-Some-Coordinator.ensures in
    ordered-by _ _ ((does.goes None).coordinator, does.settled, does.done)

pub returns-in_ok-send-in-Some-Coordinator-clause-does : goal.returns-in_ok-send-in-Some-Coordinator-clause-does
returns-in_ok-send-in-Some-Coordinator-clause-does g c =
    let there = there-is _ _ _ c.in-Some-Coordinator.is c.in-Some-Coordinator.field-0-is in
    (refl, rw there c.in_ok-send-in-Some-Coordinator.ensures.orders)

pub returns-in_ok-send-in-Some-Coordinator-clause-did : goal.returns-in_ok-send-in-Some-Coordinator-clause-did
returns-in_ok-send-in-Some-Coordinator-clause-did g c =
    let there = there-is _ _ _ c.in-Some-Coordinator.is c.in-Some-Coordinator.field-0-is in
    let promised = promised-in c.args.who.now.address c.args.member_state.now c.args.payload.now _ c.requires.free there in
    let does = c.in_ok-send-in-Some-Coordinator.ensures in
    λ came. goes-did g.R.Receiver.meaning came _ _ _ _ _ _ _ _ c.requires.member_state promised there (does.goes came).view (does.goes came).goes

pub returns-in_ok-send-in-Some-Coordinator-clause-calm : goal.returns-in_ok-send-in-Some-Coordinator-clause-calm
returns-in_ok-send-in-Some-Coordinator-clause-calm g c =
    let there = there-is _ _ _ c.in-Some-Coordinator.is c.in-Some-Coordinator.field-0-is in
    let does = c.in_ok-send-in-Some-Coordinator.ensures in
    sends-first g.R.Receiver.meaning _ _ _ _ c.args.member_state.now _ _ _ _ _ refl there does.orders does.few

pub returns-in_ok-send-in-Some-Coordinator-clause-prompt : goal.returns-in_ok-send-in-Some-Coordinator-clause-prompt
returns-in_ok-send-in-Some-Coordinator-clause-prompt g c =
    let there = there-is _ _ _ c.in-Some-Coordinator.is c.in-Some-Coordinator.field-0-is in
    let does = c.in_ok-send-in-Some-Coordinator.ensures in
    λ room. delivers-first _ _ _ c.args.member_state.now _ _ _ refl there (orderly-in _ _ _ c.requires.ordered there).0 does.prompt does.few room

pub returns-in_ok-send-in-Some-Follower-clause-member_state : goal.returns-in_ok-send-in-Some-Follower-clause-member_state
returns-in_ok-send-in-Some-Follower-clause-member_state g c =
    let there = there-is _ _ _ c.in-Some-Follower.is c.in-Some-Follower.field-0-is in
    let promised = promised-in c.args.who.now.address c.args.member_state.now c.args.payload.now _ c.requires.free there in
    let does = c.in_ok-send-in-Some-Follower.ensures in
    let goes = send-goes g.R.Receiver.meaning None c.args.who.now.address c.args.who.now.group c.args.payload.now c.in-Some-Follower.follower c.args.member_state.now.receiver
    c.args.out.now c.send-in-Some-Follower.new.self c.send-in-Some-Follower.new.out does.short does.now does.sends in
    member_state-kept _ _ _ _ _ _ c.requires.member_state promised there goes.1

pub returns-in_ok-send-in-Some-Follower-clause-ordered : goal.returns-in_ok-send-in-Some-Follower-clause-ordered
returns-in_ok-send-in-Some-Follower-clause-ordered g c =
    let there = there-is _ _ _ c.in-Some-Follower.is c.in-Some-Follower.field-0-is in
    let does = c.in_ok-send-in-Some-Follower.ensures in
    ordered-by _ _ (subst (λ (o : Follower). IsOrderly c.args.who.now.address (kinds.Follower o)) (sym does.now) (orderly-in _ _ _ c.requires.ordered there))

pub returns-in_ok-send-in-Some-Follower-clause-does : goal.returns-in_ok-send-in-Some-Follower-clause-does
returns-in_ok-send-in-Some-Follower-clause-does g c =
    let there = there-is _ _ _ c.in-Some-Follower.is c.in-Some-Follower.field-0-is in
    let does = c.in_ok-send-in-Some-Follower.ensures in
    sends-other g.R.Receiver.meaning _ _ _ _ _ _ _ _ _ refl there does.now does.sends

pub returns-in_ok-send-in-Some-Follower-clause-did : goal.returns-in_ok-send-in-Some-Follower-clause-did
returns-in_ok-send-in-Some-Follower-clause-did g c =
    let there = there-is _ _ _ c.in-Some-Follower.is c.in-Some-Follower.field-0-is in
    let promised = promised-in c.args.who.now.address c.args.member_state.now c.args.payload.now _ c.requires.free there in
    let does = c.in_ok-send-in-Some-Follower.ensures in
    λ came.
    let goes = send-goes g.R.Receiver.meaning came c.args.who.now.address c.args.who.now.group c.args.payload.now c.in-Some-Follower.follower c.args.member_state.now.receiver
    c.args.out.now c.send-in-Some-Follower.new.self c.send-in-Some-Follower.new.out does.short does.now does.sends in
    goes-did g.R.Receiver.meaning came _ _ _ _ _ _ _ _ c.requires.member_state promised there goes.1 goes.0
