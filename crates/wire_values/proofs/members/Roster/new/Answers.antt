use Rattle.std.proofs.Common.{◌≡◌, ◌+◌, ◌++◌, ◌∷◌, List, [], true, false, take, sym, ap, subst, ◌∙◌}
use Rattle.address.specs.Ids.{Address}
use Rattle.wire_values.specs.Lists.{may_follow}
use Rattle.wire_values.proofs.MemberLaws.{Sound, sound_view, sound_push, sound_at, take_one}
use Rattle.wire_values.proofs.members.Roster.new.Goals as goal

pub returns-then-not-may_follow : goal.returns-then-not-may_follow
returns-then-not-may_follow c = λ none.
    let s = sound_view c.args.id c.args.members.now none in
    let here = c.as_slice.ensures.items ∙ c.loop-address.invariant.same in
    let wrong : may_follow c.args.id (take c.loop-address.address-index c.args.members.now) c.address-item.result ≡ false =
    ap (λ (m : List Address). may_follow c.args.id m c.address-item.result) (sym here) ∙ sym c.if-not-may_follow.ensures in
    let right = sound_at c.args.id c.args.members.now c.loop-address.address-index c.address-item.result c.loop-address-test.true c.address-item.is s.2 in
    let f : false ≡ true = sym wrong ∙ right in cc

pub loop-address-preserved : goal.loop-address-preserved
loop-address-preserved c =
    let i = c.loop-address.address-index in
    let a = c.address-item.result in
    let here = c.as_slice.ensures.items ∙ c.loop-address.invariant.same in
    let ok : may_follow c.args.id (take i c.args.members.now) a ≡ true = ap (λ (m : List Address). may_follow c.args.id m a) (sym here) ∙ sym c.if-not-may_follow.ensures in
    let more : take (i + 1) c.args.members.now ≡ take i c.args.members.now ++ a ∷ [] = take_one c.args.members.now i a c.loop-address-test.true c.address-item.is in
    record {
      same = c.push.ensures ∙ ap (λ (m : List Address). m ++ a ∷ []) c.loop-address.invariant.same ∙ sym more;
      sound = subst (λ (m : List Address). Sound c.args.id m) (sym more) (sound_push c.args.id (take i c.args.members.now) a c.loop-address.invariant.sound ok);
    }
