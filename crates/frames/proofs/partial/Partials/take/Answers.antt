use Rattle.std.proofs.Common.{List, ℕ, Option, subst, sym}
use Rattle.std.specs.Prelude.{IfSome}
use Rattle.frames.specs.Arrivals.{ArrivedInPieces, GivenIn}
use Rattle.frames.specs.Openers.{AreParts, IsPartOf}
use Rattle.frames.proofs.PiecesCome.{all-push, of-others}
use Rattle.frames.proofs.partial.Partials.take.Goals.{then-len-ge-MOST_PARTIALS, else-len-ge-MOST_PARTIALS}
use Rattle.frames.proofs.partial.Partials.take.Goals as goal

pub returns-in_err-partial-clause-parts : goal.returns-in_err-partial-clause-parts
returns-in_err-partial-clause-parts c = λ l key node x parts. (c.begin.ensures.parts l key node parts).0

pub returns-in_err-put-clause-parts : goal.returns-in_err-put-clause-parts
returns-in_err-put-clause-parts c = λ l key node x parts. (c.begin.ensures.parts l key node parts).0

pub returns-in_err-packet-clause-parts : goal.returns-in_err-packet-clause-parts
returns-in_err-packet-clause-parts c = λ l key node x parts. (c.begin.ensures.parts l key node parts).0

pub returns-in_err-push-clause-parts : goal.returns-in_err-push-clause-parts
returns-in_err-push-clause-parts c = λ l key node x parts.
    let before = subst (AreParts l key node) (sym c.self.view_is) (c.begin.ensures.parts l key node parts).0 in
    let left : AreParts l key node c.if-len-ge-MOST_PARTIALS.self-inside.partials.items =
    elim c.if-len-ge-MOST_PARTIALS.branch [
      | then-len-ge-MOST_PARTIALS w ↦ rw w.self-inside-is (subst (AreParts l key node) (sym w.remove.ensures.items) (of-others (IsPartOf l key node) _ 0 before))
      | else-len-ge-MOST_PARTIALS w ↦ rw w.self-inside-is before
    ] in
    subst (AreParts l key node) (sym c.in_err-push.ensures.items) left

pub returns-in_default-clause-parts : goal.returns-in_default-clause-parts
returns-in_default-clause-parts c = λ l key node x parts.
    let before = subst (AreParts l key node) (sym c.self.view_is) (c.begin.ensures.parts l key node parts).0 in
    let left : AreParts l key node c.if-len-ge-MOST_PARTIALS.self-inside.partials.items =
    elim c.if-len-ge-MOST_PARTIALS.branch [
      | then-len-ge-MOST_PARTIALS w ↦ rw w.self-inside-is (subst (AreParts l key node) (sym w.remove.ensures.items) (of-others (IsPartOf l key node) _ 0 before))
      | else-len-ge-MOST_PARTIALS w ↦ rw w.self-inside-is before
    ] in
    subst (AreParts l key node) (sym c.in_ok-push.ensures.items)
    (all-push (IsPartOf l key node) _ _ left (c.put.ensures l key node c.args.boot.now c.in_ok-partial.ensures.its x (c.in_ok-partial.ensures.parts l key node parts).1))

pub returns-clause-parts : goal.returns-clause-parts
returns-clause-parts c = λ l key node x parts. (c.begin.ensures.parts l key node parts).0

pub returns-clause-whole : goal.returns-clause-whole
returns-clause-whole c = λ l key node x parts.
    subst (λ (o : Option (List ℕ)). IfSome o (ArrivedInPieces (GivenIn l) key node)) c.in-Some.is
    (c.in_ok-packet.ensures l key node (c.put.ensures l key node c.args.boot.now c.in_ok-partial.ensures.its x (c.in_ok-partial.ensures.parts l key node parts).1))
