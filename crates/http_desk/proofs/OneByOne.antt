-- One more answer, and what is known by it.
use Rattle.std.proofs.Common.{◌≡◌, ℕ, ◌+◌, ◌<◌, List, [], ◌∷◌, ◌++◌, suc, get_or, length, take, sym, ap, ◌∙◌, arith}
use Rattle.std.proofs.Math.Seq.{take-suc}
use Rattle.replicated_map.specs.declared.waiting.Answer.{Answer as MapAnswer}
use Rattle.lock_table.specs.declared.answer.Answer.{Answer as LockAnswer}
use Rattle.http_desk.specs.declared.known.Known.{Known}
use Rattle.http_desk.specs.Replies.{IsKnownOfMap, AreKnownOfMap, IsKnownOfLock, AreKnownOfLocks}

pushed-map : (xs : List MapAnswer) (ks : List Known) (x : MapAnswer) (k : Known) → AreKnownOfMap xs ks → IsKnownOfMap x k → AreKnownOfMap (xs ++ x ∷ []) (ks ++ k ∷ [])
pushed-map [] [] x k all one = (one, tt)
pushed-map [] (j ∷ ks) x k all one = absurd all
pushed-map (w ∷ xs) [] x k all one = absurd all
pushed-map (w ∷ xs) (j ∷ ks) x k all one = (all.0, pushed-map xs ks x k all.1 one)

pub next-map : (xs : List MapAnswer) (ks js : List Known) (i : ℕ) (x d : MapAnswer) (k : Known) → x ≡ get_or xs i d → i < length xs
    → AreKnownOfMap (take i xs) ks → js ≡ ks ++ k ∷ [] → IsKnownOfMap x k → AreKnownOfMap (take (i + 1) xs) js
next-map xs ks js i x d k at inside all more one =
    let e : i + 1 ≡ suc i = omega arith in
    let front : take (i + 1) xs ≡ take i xs ++ x ∷ [] = ap (λ n. take n xs) e ∙ take-suc xs i d inside ∙ ap (λ w. take i xs ++ w ∷ []) (sym at) in
    rw (front, more) (pushed-map (take i xs) ks x k all one)

pushed-lock : (xs : List LockAnswer) (ks : List Known) (x : LockAnswer) (k : Known) → AreKnownOfLocks xs ks → IsKnownOfLock x k → AreKnownOfLocks (xs ++ x ∷ []) (ks ++ k ∷ [])
pushed-lock [] [] x k all one = (one, tt)
pushed-lock [] (j ∷ ks) x k all one = absurd all
pushed-lock (w ∷ xs) [] x k all one = absurd all
pushed-lock (w ∷ xs) (j ∷ ks) x k all one = (all.0, pushed-lock xs ks x k all.1 one)

pub next-lock : (xs : List LockAnswer) (ks js : List Known) (i : ℕ) (x d : LockAnswer) (k : Known) → x ≡ get_or xs i d → i < length xs
    → AreKnownOfLocks (take i xs) ks → js ≡ ks ++ k ∷ [] → IsKnownOfLock x k → AreKnownOfLocks (take (i + 1) xs) js
next-lock xs ks js i x d k at inside all more one =
    let e : i + 1 ≡ suc i = omega arith in
    let front : take (i + 1) xs ≡ take i xs ++ x ∷ [] = ap (λ n. take n xs) e ∙ take-suc xs i d inside ∙ ap (λ w. take i xs ++ w ∷ []) (sym at) in
    rw (front, more) (pushed-lock (take i xs) ks x k all one)
