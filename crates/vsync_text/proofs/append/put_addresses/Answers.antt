use Rattle.std.proofs.Common.{◌∙◌, sym}
use Rattle.address.specs.Ids.{text_of_address}
use Rattle.vsync_text.proofs.KeepFront.{goes_on, none_joined, one_joined, all_joined}
use Rattle.vsync_text.proofs.append.put_addresses.Goals as goal

pub loop-member-preserved : goal.loop-member-preserved
loop-member-preserved c =
    one_joined text_of_address _ _ _ _ _ _ _ _ _ c.member-item.is c.loop-member-test.true c.loop-member.invariant c.in_ok-put_address.ensures.text c.in_ok-put_address.ensures.kept

pub loop-member-init : goal.loop-member-init
loop-member-init c = none_joined text_of_address c.args.before c.args.out.now.items c.args.members.now

pub returns : goal.returns
returns c = record {
  text = all_joined text_of_address _ _ _ _ _ _ (sym c.is_empty.ensures ∙ c.if-is_empty.false) c.loop-member-test.false c.loop-member.invariant;
  kept = c.loop-member.invariant.kept;
}

pub returns-in_err-put_address-clause-kept : goal.returns-in_err-put_address-clause-kept
returns-in_err-put_address-clause-kept c = goes_on _ _ _ c.loop-member.invariant.kept c.put_address.ensures.kept
