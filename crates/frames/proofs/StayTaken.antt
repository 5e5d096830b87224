-- A counter that was taken stays taken.
use Rattle.std.proofs.Common.{◌≡◌, ◌≢◌, ◌∙◌, sym, true, false, ℕ, List, [], ◌∷◌, ◌++◌, inl, inr}
use Rattle.std.specs.Prelude.{◌⊎◌}
use Rattle.std.specs.List.{remove}
use Rattle.frames.specs.declared.peers.Peer.{Peer}
use Rattle.frames.specs.Windows.{is_used}
use Rattle.frames.specs.Taken.{IsFirst, StayTaken, WasTaken}

pub taken-push : (boot : List ℕ) (counter : ℕ) (peers : List Peer) (p : Peer) → WasTaken boot counter peers → WasTaken boot counter (peers ++ p ∷ [])
taken-push boot counter [] p was = absurd was
taken-push boot counter (x ∷ peers) p (inl was) = inl was
taken-push boot counter (x ∷ peers) p (inr was) = inr (was.0, taken-push boot counter peers p was.1)

pub taken-without : (peers : List Peer) → StayTaken peers (remove peers 0)
taken-without [] boot counter was = absurd was
taken-without (x ∷ peers) boot counter (inl was) = inr was.0
taken-without (x ∷ peers) boot counter (inr was) = inl was.1

pub stay-push : (old new : List Peer) (p : Peer) → StayTaken old new → StayTaken old (new ++ p ∷ [])
stay-push old new p stay boot counter was = pushed (stay boot counter was)
  where
    pushed : WasTaken boot counter new ⊎ IsFirst boot old → WasTaken boot counter (new ++ p ∷ []) ⊎ IsFirst boot old
    pushed (inl x) = inl (taken-push boot counter new p x)
    pushed (inr x) = inr x

pub stay-on : (one two three : List Peer) → StayTaken one two → ((boot : List ℕ) (counter : ℕ) → WasTaken boot counter two → WasTaken boot counter three) → StayTaken one three
stay-on one two three stay still boot counter was = on (stay boot counter was)
  where
    on : WasTaken boot counter two ⊎ IsFirst boot one → WasTaken boot counter three ⊎ IsFirst boot one
    on (inl x) = inl (still boot counter x)
    on (inr x) = inr x

pub stay-same : (old : List Peer) → StayTaken old old
stay-same old boot counter was = inl was

pub rest-stays : (boot : List ℕ) (counter : ℕ) (first : Peer) (old new : List Peer) → (WasTaken boot counter old → WasTaken boot counter new) → WasTaken boot counter (first ∷ old)
    → WasTaken boot counter (first ∷ new)
rest-stays boot counter first old new stay (inl was) = inl was
rest-stays boot counter first old new stay (inr was) = inr (was.0, stay was.1)

-- what a window does not have was not taken, if it is that of the first sender with a boot id
pub first-fresh : (boot : List ℕ) (counter : ℕ) (first : Peer) (rest : List Peer) → first.boot ≡ boot
    → is_used counter first.window.least ≡ false → WasTaken boot counter (first ∷ rest) → ⊥
first-fresh boot counter first rest is unused (inl was) = cc
first-fresh boot counter first rest is unused (inr was) = was.0 is

pub rest-fresh : (boot : List ℕ) (counter : ℕ) (first : Peer) (rest : List Peer) → first.boot ≢ boot
    → (WasTaken boot counter rest → ⊥) → WasTaken boot counter (first ∷ rest) → ⊥
rest-fresh boot counter first rest differs fresh (inl was) = differs was.0
rest-fresh boot counter first rest differs fresh (inr was) = fresh was.1

pub first-stays : (boot : List ℕ) (counter : ℕ) (first new : Peer) (rest : List Peer) → new.boot ≡ first.boot
    → (is_used counter first.window.least ≡ true → is_used counter new.window.least ≡ true)
    → WasTaken boot counter (first ∷ rest) → WasTaken boot counter (new ∷ rest)
first-stays boot counter first new rest same on (inl was) = inl (same ∙ was.0, on was.1)
first-stays boot counter first new rest same on (inr was) = inr (λ is. was.0 (sym same ∙ is), was.1)
