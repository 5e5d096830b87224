use Rattle.std.proofs.Common.{◌≡◌, ◌∙◌, ◌++◌, ℕ, List, ap, arith, drop, length, rules, sym, take}
use Rattle.std.proofs.lemmas.List.{take-append-drop, take_rest}
use Rattle.frames.specs.Frames.{sealed}
use Rattle.frames.specs.Hmac.{hmac_sha256}
use Rattle.frames.proofs.seal.open.Goals as goal

sealed-at : (key frame body tag : List ℕ) (n : ℕ) → body ≡ take n frame → tag ≡ drop n frame → length tag ≡ 16 → take (length tag) (hmac_sha256 key body) ≡ tag → frame ≡ sealed key body
sealed-at key frame body tag n front back long right =
    sym (take-append-drop n frame) ∙ ap (λ (f : List ℕ). f ++ drop n frame) (sym front)
    ∙ ap (λ (t : List ℕ). body ++ t) (sym back ∙ sym right ∙ ap (λ (m : ℕ). take m (hmac_sha256 key body)) long)

pub returns : goal.returns
returns c = record {
  body = c.split_at.result.0.now;
  seal = sealed-at _ _ _ c.split_at.result.1.now _ c.split_at.ensures.front c.split_at.ensures.back (search (arith, rules)) (search rules);
  head = c.in_ok-head.ensures;
  content_is = take_rest c.split_at.result.0.now 28;
}
