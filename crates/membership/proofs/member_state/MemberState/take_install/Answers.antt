use Rattle.std.proofs.Common.{rules, ◌≡◌, true}
use Rattle.std.proofs.lemmas.Bool.{and_parts}
use Rattle.std.proofs.lemmas.Result.{on_ok_weaker}
use Rattle.law_acts.specs.Decisions.{is_entry}
use Rattle.membership.specs.HeldChunks.{is_there, given_in}
use Rattle.step_output.specs.Steps.{who_of}
use Rattle.membership.specs.MemberStates.{core_of}
use Rattle.membership.specs.Changes.{would_enter}
use Rattle.membership.proofs.KeepMemberState.{entered-member_state}
use Rattle.membership.proofs.member_state.MemberState.take_install.Goals as goal

pub returns-clause-member_state : goal.returns-clause-member_state
returns-clause-member_state g c =
    let would : would_enter c.args.who.now.address c.args.self.now c.args.source c.args.install.now ≡ true = search rules in
    let entry = (and_parts (is_entry (core_of c.args.who.now.address c.args.self.now) c.args.source c.args.install.now) (is_there c.args.install.now.state c.args.self.now.chunks) would).0 in
    on_ok_weaker c.enter.result (λ is. entered-member_state (who_of c.args.who.now) g.R.Receiver.meaning c.args.source c.args.install.now (given_in c.args.install.now.state c.args.self.now.chunks) c.args.self.now c.enter.new.self c.args.out.now c.enter.new.out
    c.requires.member_state entry is) c.enter.ensures.enters
