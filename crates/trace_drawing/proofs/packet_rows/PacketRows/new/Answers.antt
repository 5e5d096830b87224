use Rattle.std.proofs.Common.{◌≡◌, ◌∙◌, ℕ, ◌+◌, ◌-◌, List, [], ◌∷◌, ◌++◌, length, take, replicate, Option, None, slice_get, unwrap_or, zero, suc, refl, nat_eq, ap, arith, rules}
use Rattle.std.specs.HashMap.{get}
use Rattle.trace_drawing.proofs.packet_rows.PacketRows.new.Goals as goal

abbrev none : Option ℕ
none = None

-- each place of a list of nothing has nothing
none-at : (m n : ℕ) → unwrap_or (slice_get (replicate m none) n) none ≡ none
none-at zero n = refl
none-at (suc m) zero = refl
none-at (suc m) (suc n) = none-at m n

-- an empty list is made longer by nothing
of-none : (m k : ℕ) (old : List (Option ℕ)) → old ≡ [] → k ≡ 0 → take m old ++ replicate (m - k) none ≡ replicate m none
of-none zero k [] e f = let all : 0 - k ≡ 0 = omega arith in ap (λ n. replicate n none) all
of-none (suc m) k [] e f = let all : suc m - k ≡ suc m = omega (arith, f) in ap (λ n. replicate n none) all
of-none m k (x ∷ xs) e f = absurd (let n : suc (length xs) ≡ 0 = ap length e in omega (arith, n))

-- no row is near, and none is far
pub returns : goal.returns
returns c = λ n. (let far : get nat_eq c.new.result n ≡ None = search rules in
    ap (λ o. unwrap_or (slice_get c.resize.new.self.items n) o) far
    ∙ ap (λ xs. unwrap_or (slice_get xs n) none) (c.in_ok-resize.ensures.items ∙ of-none (length c.args.packets.now + 1) _ c.new-near.result.items c.new-near.ensures.items c.new-near.ensures.len)
    ∙ none-at (length c.args.packets.now + 1) n)
