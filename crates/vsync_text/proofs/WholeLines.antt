-- The first line that ends in a text, whatever stands behind the text.
use Rattle.std.proofs.Common.{◌≡◌, ℕ, ◌+◌, Bool, true, false, List, [], ◌∷◌, ◌++◌, take, drop, cond, not, suc, nat_eq, sym, ◌∙◌, ap, subst, arith, if◌then◌else◌}
use Rattle.std.specs.List.{position_or_len}
use Rattle.vsync_text.specs.Lines.{lines_of, in_front}
use Rattle.vsync_text.proofs.ScriptsRead.{is_feed, tail_of}

whole_step : (c p b : ℕ) (cs behind more : List ℕ) (t : Bool) → drop (cond (not t) (1 + p) 0) (c ∷ cs) ≡ b ∷ behind
    → (drop p cs ≡ b ∷ behind → lines_of (cs ++ more) ≡ take p cs ∷ lines_of (behind ++ more))
    → (if t then [] ∷ lines_of (cs ++ more) else in_front c (lines_of (cs ++ more))) ≡ take (cond (not t) (1 + p) 0) (c ∷ cs) ∷ lines_of (behind ++ more)
whole_step c p b cs behind more true e h = ap (λ xs. [] ∷ lines_of (tail_of xs ++ more)) e
whole_step c p b cs behind more false e h =
    let s : 1 + p ≡ suc p = omega arith in
    rw s (ap (in_front c) (h (subst (λ n. drop n (c ∷ cs) ≡ b ∷ behind) s e)))

whole_first : (text more behind : List ℕ) (b : ℕ) → drop (position_or_len is_feed text) text ≡ b ∷ behind
    → lines_of (text ++ more) ≡ take (position_or_len is_feed text) text ∷ lines_of (behind ++ more)
whole_first [] more behind b e = absurd cc
whole_first (c ∷ cs) more behind b e = whole_step c (position_or_len is_feed cs) b cs behind more (nat_eq c 10) e (whole_first cs more behind b)

-- a text in which a line ends is that line, and the lines behind it
pub whole_line : (text front back behind : List ℕ) (b mid : ℕ) → mid ≡ position_or_len is_feed text → front ≡ take mid text → back ≡ drop mid text → back ≡ b ∷ behind
    → (more : List ℕ) → lines_of (text ++ more) ≡ front ∷ lines_of (behind ++ more)
whole_line text front back behind b mid m f k s more =
    whole_first text more behind b (ap (λ n. drop n text) (sym m) ∙ sym k ∙ s)
    ∙ ap (λ n. take n text ∷ lines_of (behind ++ more)) (sym m) ∙ ap (λ l. l ∷ lines_of (behind ++ more)) (sym f)
