use Rattle.std.proofs.Common.{◌≡◌, ◌++◌, ◌∙◌, ap, drop, length, sym, subst, take, ℕ, List}
use Rattle.std.proofs.Math.Seq.{take-append_seam}
use Rattle.frames.specs.declared.peers.Peer.{Peer}
use Rattle.frames.specs.Taken.{WasTaken}
use Rattle.frames.proofs.peers.Peers.take_known.Goals as goal

pub returns-clause-same : goal.returns-clause-same
returns-clause-same c = λ none.
    let new : List Peer = c.take_in.new.peers in
    let rest : List Peer = drop (length new) c.args.self.now.peers.items in
    let whole : take c.args.self.now.peers.len (new ++ rest) ≡ new =
    ap (λ (n : ℕ). take n (new ++ rest)) (sym (c.take_in.auto.peers ∙ c.as_mut_slice.ensures.len)) ∙ take-append_seam new rest in
    whole ∙ c.take_in.ensures.same none ∙ c.as_mut_slice.ensures.value

pub returns-clause-stay : goal.returns-clause-stay
returns-clause-stay c = λ other earlier was.
    let new : List Peer = c.take_in.new.peers in
    let rest : List Peer = drop (length new) c.args.self.now.peers.items in
    let whole : take c.args.self.now.peers.len (new ++ rest) ≡ new =
    ap (λ (n : ℕ). take n (new ++ rest)) (sym (c.take_in.auto.peers ∙ c.as_mut_slice.ensures.len)) ∙ take-append_seam new rest in
    subst (λ (ps : List Peer). WasTaken other earlier ps) (sym whole)
    (c.take_in.ensures.stay other earlier (subst (λ (ps : List Peer). WasTaken other earlier ps) (sym c.as_mut_slice.ensures.value) was))
