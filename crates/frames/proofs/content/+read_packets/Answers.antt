use Rattle.std.proofs.Common.{◌≡◌, ◌≤◌, ◌++◌, ◌∷◌, [], ℕ, List, length, take, drop, ap, arith, refl, subst, sym, ◌∙◌}
use Rattle.std.proofs.lemmas.List.{take-append-drop}
use Rattle.std.proofs.lemmas.Result.{IfOk-weaker}
use Rattle.byteorder.specs.Endian.{big_bytes}
use Rattle.frames.specs.Frames.{IsRead, shared_front}
use Rattle.frames.proofs.Shared.{front-is, reads-more}
use Rattle.frames.proofs.content.+read_packets.Goals as goal

pub returns : goal.returns
returns t c =
    let last = c.args.last.now.items in
    let shared = c.in-Some.shared in
    let count = c.in-Some.count in
    let behind = c.split_at.result.1.now in
    let others = c.split_at-2.result.0.now in
    let rest = c.split_at-2.result.1.now in
    let packet = c.extend_from_slice.new.self.items in
    let joined : drop 3 c.args.content.now ≡ others ++ rest =
    sym c.split_at.ensures.back ∙ sym (take-append-drop count behind) ∙ ap (λ (l : List ℕ). l ++ drop count behind) (sym c.split_at-2.ensures.front)
    ∙ ap (λ (l : List ℕ). others ++ l) (sym c.split_at-2.ensures.back) in
    let content : c.args.content.now ≡ big_bytes 1 shared ++ (big_bytes 2 (length others) ++ (others ++ rest)) =
    front-is c.args.content.now shared count (λ i. omega (arith, c.type_inv.content i)) c.in-Some.ensures.stands
    ∙ ap (λ (n : ℕ). big_bytes 1 shared ++ (big_bytes 2 n ++ drop 3 c.args.content.now)) (sym c.split_at-2.ensures.front_len)
    ∙ ap (λ (l : List ℕ). big_bytes 1 shared ++ (big_bytes 2 (length others) ++ l)) joined in
    let is : packet ≡ take shared last ++ others = c.in_ok-extend_from_slice.ensures.items ∙ ap (λ (l : List ℕ). l ++ others) c.truncate.ensures.items in
    let pushed : c.push.new.self ≡ c.args.packets.now ++ (take shared last ++ others) ∷ [] =
    c.in_ok-push.ensures.ok ∙ ap (λ (p : List ℕ). c.args.packets.now ++ p ∷ []) (c.as_slice-2.ensures.value ∙ is) in
    let last_is = c.as_slice.ensures.value in
    let good = c.if-not-shares_no_more.ensures in
    let within : shared ≤ length last = subst (λ (l : List ℕ). shared ≤ length l) last_is (good.within refl) in
    let most : shared_front last (take shared last ++ others) ≡ shared = subst (λ (l : List ℕ). shared_front l (take shared l ++ others) ≡ shared) last_is (good.most refl) in
    IfOk-weaker c.read_packets.result _ _
    (λ good read yes.
    reads-more last c.args.packets.now c.push.new.self c.read_packets.new.packets shared others rest c.args.content.now c.in-Some.ensures.most.0 within
    (omega (arith, c.split_at-2.ensures.front_len, c.in-Some.ensures.most.1)) most pushed content
    (subst (λ (l : List ℕ). IsRead l c.push.new.self rest c.read_packets.new.packets) is (read yes)))
    c.read_packets.ensures
