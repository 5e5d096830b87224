use Rattle.std.proofs.Common.{◌≡◌, ℕ, List, Some, None, length, nat_eq, sym, arith}
use Rattle.std.specs.List.{position_or_len}
use Rattle.std.proofs.lemmas.Bool.{false_from_ne_true}
use Rattle.std.proofs.lemmas.List.Sums.{position_or_len_is}
use Rattle.memchr.specs.Find.{IsFirstByte, is_byte}
use Rattle.vsync_text.proofs.field.length_until.Goals as goal

-- no byte is this one
none : (byte : ℕ) (text : List ℕ) → IsFirstByte (is_byte byte) text None → length text ≡ position_or_len (λ b. nat_eq b byte) text
none byte text h = sym (position_or_len_is (λ b. nat_eq b byte) text (length text) 0 (omega arith) (λ k lt. false_from_ne_true _ (h k (omega arith) lt)) (λ lt. absurd (omega arith)))

-- the first that is
first : (byte : ℕ) (text : List ℕ) (k : ℕ) → IsFirstByte (is_byte byte) text (Some k) → k ≡ position_or_len (λ b. nat_eq b byte) text
first byte text k h = sym (position_or_len_is (λ b. nat_eq b byte) text k 0 (omega (arith, h.0.high)) (λ j lt. false_from_ne_true _ (h.0.before j (omega arith) lt)) (λ lt. h.1))

pub returns-in-None-clause-value : goal.returns-in-None-clause-value
returns-in-None-clause-value c = none _ _ c.in-None.ensures

pub returns-in-Some-clause-value : goal.returns-in-Some-clause-value
returns-in-Some-clause-value c = first _ _ _ c.in-Some.ensures
