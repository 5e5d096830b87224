use Rattle.std.proofs.Common.{◌≡◌, ◌≢◌, ◌∙◌, ◌∷◌, ℕ, List, Bool, Some, None, true, false, not, ap, inl, inr, refl, subst, sym}
use Rattle.std.proofs.lemmas.Slice.Eq.{bytes_eq-Decides}
use Rattle.frames.specs.declared.peers.Peer.{Peer}
use Rattle.frames.specs.Taken.{WasTaken}
use Rattle.frames.proofs.StayTaken.{first-fresh, first-stays, rest-fresh, rest-stays}
use Rattle.frames.proofs.peers.+take_in.Goals as goal

unused : (used answer : Bool) → answer ≡ not used → Some answer ≡ Some true → used ≡ false
unused true answer e is = cc
unused false answer e is = refl

no-answer : (answer : Bool) → Some answer ≡ None → ⊥
no-answer answer e = cc

differ : (same : Bool) → false ≡ same → same ≡ true → ⊥
differ same e f = cc

pub returns-then-eq : goal.returns-then-eq
returns-then-eq t c =
    let first : Peer = c.in_ok-peers.first.now in
    let rest : List Peer = c.in_ok-peers.rest.now in
    let boot : List ℕ = c.args.boot.now in
    let is : first.boot ≡ boot = (bytes_eq-Decides first.boot boot).0 (sym c.if-eq.ensures) in
    record {
      fresh = λ yes was.
          first-fresh boot c.args.counter first rest is (unused _ c.take.result c.take.ensures.answer yes)
          (subst (λ (ps : List Peer). WasTaken boot c.args.counter ps) c.in_ok-peers.ensures.cases.0 was);
      taken = λ yes. inl (is, c.take.ensures.taken);
      unknown = λ none was. absurd (no-answer c.take.result none);
      same = λ none. absurd (no-answer c.take.result none);
      stay = λ other earlier was.
          first-stays other earlier first (record { boot = first.boot; window = c.take.new.self }) rest refl (c.take.ensures.stay earlier)
          (subst (λ (ps : List Peer). WasTaken other earlier ps) c.in_ok-peers.ensures.cases.0 was);
    }

pub returns : goal.returns
returns t c =
    let first : Peer = c.in_ok-peers.first.now in
    let rest : List Peer = c.in_ok-peers.rest.now in
    let boot : List ℕ = c.args.boot.now in
    let old : c.args.peers.now ≡ first ∷ rest = c.in_ok-peers.ensures.cases.0 in
    let no : first.boot ≢ boot = λ is. differ _ c.if-eq.ensures ((bytes_eq-Decides first.boot boot).1 is) in
    record {
      fresh = λ yes was.
          rest-fresh boot c.args.counter first rest no (c.take_in.ensures.fresh yes) (subst (λ (ps : List Peer). WasTaken boot c.args.counter ps) old was);
      taken = λ yes. inr (no, c.take_in.ensures.taken yes);
      unknown = λ none was.
          rest-fresh boot c.args.counter first rest no (c.take_in.ensures.unknown none) (subst (λ (ps : List Peer). WasTaken boot c.args.counter ps) old was);
      same = λ none. ap (λ (ps : List Peer). first ∷ ps) (c.take_in.ensures.same none) ∙ sym old;
      stay = λ other earlier was.
          rest-stays other earlier first rest c.take_in.new.peers (c.take_in.ensures.stay other earlier)
          (subst (λ (ps : List Peer). WasTaken other earlier ps) old was);
    }
