-- Where nothing happened the invariant holds.
use Rattle.std.proofs.Common.{◌≡◌, true, false, None, [], refl, sym, ◌∙◌}
use Rattle.std.proofs.lemmas.Option.{none-some}
use Rattle.address.specs.Ids.{Address, ViewId}
use Rattle.state_transfer.specs.Meanings.{Meaning}
use Rattle.trace_props.proofs.KeepEightRules.{synchronous-nil}
use Rattle.law_acts.specs.Words.{tally_of, no_tally}
use Rattle.law_acts.specs.Histories.{install_of}
use Rattle.law_acts.specs.Steps.{nothing_yet}
use Rattle.law_acts.specs.Invariant.{Invariant, Kept}

no-tally : (p : Address) (v : ViewId) → tally_of p v [] ≡ no_tally
unfolding tally_of
no-tally p v = refl

no-install : (w : ViewId) (q : Address) → install_of w q [] ≡ None
unfolding install_of
no-install w q = refl

module _ {S : Type 0} (meaning : Meaning S) where
  nothing-agreed : Invariant meaning nothing_yet
  nothing-agreed = record {
    trace = record {
      synchronous = synchronous-nil meaning;
      before = λ p v none. record { none_delivered = refl; sent = refl; tally = no-tally p v };
      short = λ p v k m at. absurd (none-some m at);
      proper = λ p started. absurd (let n : false ≡ true = started in cc);
      senders = λ k m at. absurd (none-some m at);
    };
    packets = λ k m at. absurd (none-some m at);
    entries = λ q w e at. absurd (none-some e at);
    states = record {
      there = λ w e at. absurd (none-some e at);
      given = λ w q i at. absurd (none-some i (sym (no-install w q) ∙ at));
      begins = λ w e at. absurd (none-some e at);
      are = λ w s at. absurd (none-some s at);
    };
    members = λ p c at. absurd (none-some c at);
  }

  pub nothing-holds : Kept meaning nothing_yet
  nothing-holds = record {
    agreed = nothing-agreed;
    chunks = record {
      pieces = λ k m w chunk at. absurd (none-some m at);
      gives = λ p c there. absurd (none-some c there);
      held = λ p c at. absurd (none-some c at);
      kept = λ p c at. absurd (none-some c at);
    };
  }
