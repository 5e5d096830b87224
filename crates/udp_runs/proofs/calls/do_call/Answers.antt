use Rattle.std.proofs.Common.{refl}
use Rattle.law_runners.specs.Runs.{Create, Join, Hand}
use Rattle.udp_runs.proofs.ProcessesTurn.{left-so}
use Rattle.udp_runs.proofs.calls.do_call.Goals as goal

pub returns-in-Create : goal.returns-in-Create
returns-in-Create g c =
    let made = rw c.channel.ensures.value at c.connect_new.ensures.connects in let left = left-so _ _ _ (rw c.channel.ensures.value at c.connect_new.ensures.left) in
    record { makes = rw c.in-Create.is (made, left, refl); called = record { call = Create _ _ made left; no_offer = refl; says = tt }; uncalled = tt; plain = λ _. refl }

pub returns-in-Join : goal.returns-in-Join
returns-in-Join g c =
    let made = rw c.channel-in-Join.ensures.value at c.connect_to.ensures.connects in let left = left-so _ _ _ (rw c.channel-in-Join.ensures.value at c.connect_to.ensures.left) in
    record { makes = rw c.in-Join.is (made, left, refl); called = record { call = Join _ _ _ made left; no_offer = refl; says = tt }; uncalled = tt; plain = λ _. refl }

pub returns-in-Tick : goal.returns-in-Tick
returns-in-Tick g c =
    let made = rw c.channel-in-Tick.ensures.value at c.tick.ensures.calls in let left = left-so _ _ _ (rw c.channel-in-Tick.ensures.value at c.tick.ensures.left) in
    record { makes = rw c.in-Tick.is (made, left, refl); called = record { call = Hand _ _ _ refl made left; no_offer = refl; says = (λ v at. tt) }; uncalled = tt; plain = λ _. refl }

pub returns-in-Suspect : goal.returns-in-Suspect
returns-in-Suspect g c =
    let made = rw c.channel-in-Suspect.ensures.value at c.suspect.ensures.calls in let left = left-so _ _ _ (rw c.channel-in-Suspect.ensures.value at c.suspect.ensures.left) in
    record { makes = rw c.in-Suspect.is (made, left, refl); called = record { call = Hand _ _ _ refl made left; no_offer = refl; says = (λ v at. tt) }; uncalled = tt; plain = λ _. refl }

pub returns-in-MergeHint : goal.returns-in-MergeHint
returns-in-MergeHint g c =
    let made = rw c.channel-in-MergeHint.ensures.value at c.merge_hint.ensures.calls in let left = left-so _ _ _ (rw c.channel-in-MergeHint.ensures.value at c.merge_hint.ensures.left) in
    record { makes = rw c.in-MergeHint.is (made, left, refl); called = record { call = Hand _ _ _ refl made left; no_offer = refl; says = (λ v at. tt) }; uncalled = tt; plain = λ _. refl }

pub returns-in-Leave : goal.returns-in-Leave
returns-in-Leave g c =
    let made = rw c.channel-in-Leave.ensures.value at c.disconnect.ensures.calls in let left = left-so _ _ _ (rw c.channel-in-Leave.ensures.value at c.disconnect.ensures.left) in
    record { makes = rw c.in-Leave.is (made, left, refl); called = record { call = Hand _ _ _ refl made left; no_offer = refl; says = (λ v at. tt) }; uncalled = tt; plain = λ _. refl }

pub returns-in-Send-clause-makes : goal.returns-in-Send-clause-makes
returns-in-Send-clause-makes g c = rw c.in-Send.is c.send.ensures.makes

pub returns-in-Send-clause-called : goal.returns-in-Send-clause-called
returns-in-Send-clause-called g c = rw c.in-Send.is (c.send.ensures.called c.args.group.now)
