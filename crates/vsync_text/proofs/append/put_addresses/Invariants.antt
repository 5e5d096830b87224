use Rattle.address.specs.Ids.{text_of_address}
use Rattle.vsync_text.proofs.KeepFront.{Joined}
use Rattle.vsync_text.proofs.append.put_addresses.Given as goal

abbrev pub invariant-loop-member : goal.invariant-loop-member
invariant-loop-member l = Joined text_of_address l.before l.initial.out.items l.out.items l.members l.member-index l.mark
