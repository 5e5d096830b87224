-- A text at the front of zeros is a key's block.
use Rattle.std.proofs.Common.{◌≡◌, ◌≤◌, ◌-◌, ℕ, List, ◌++◌, length, drop, replicate, arith}
use Rattle.std.proofs.lemmas.List.{drop-replicate}
use Rattle.std.proofs.lemmas.Bool.Decides.{nat_tests}
use Rattle.frames.specs.Hmac.{block_key}

pub short-block : (key block : List ℕ) → length key ≤ 64 → block ≡ key ++ drop (length key) (replicate 64 0) → block ≡ block_key key
short-block key block h e =
    let d : drop {A = ℕ} (length key) (replicate 64 0) ≡ replicate (64 - length key) 0 = drop-replicate (length key) 64 0 in
    grind (arith, nat_tests, d, e, h)
