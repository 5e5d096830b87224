use Rattle.std.proofs.Common.{◌∙◌, refl, sym}
use Rattle.vsync.proofs.udp_words.MemberWords.plan.Goals as goal

pub returns : goal.returns
returns c = record { address = refl; rounds = refl; contact = sym c.contact_in.ensures ∙ c.in_ok-contact.was; send = c.in_ok-send.ensures; keeps = sym c.if-are_two.ensures }
