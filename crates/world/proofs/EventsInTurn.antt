-- Events one after another.
use Rattle.std.proofs.Common.{◌≡◌, ℕ, ◌+◌, ◌<◌, List, [], ◌∷◌, ◌++◌, take, length, get_or, sym, ap, ◌∙◌, subst}
use Rattle.std.proofs.lemmas.List.{take_more}
use Rattle.state_transfer.specs.Meanings.{Meaning}
use Rattle.trace_props.specs.Places.{IsBeginningOf}
use Rattle.trace_props.proofs.RulesAlongLists.{IsBeginningOf-same, IsBeginningOf-grow}
use Rattle.world_model.specs.declared.WorldEvent.{WorldEvent}
use Rattle.world_model.specs.Histories.{History}
use Rattle.world.specs.declared.node_state.NodeState.{NodeState}
use Rattle.world.specs.Turns.{SameNodeStates}
use Rattle.world.specs.Worlds.{WorldModel, WorldStep, Runs, IsReached, IsLonger}
use Rattle.world.specs.Worlds.Runs.{Still, Next}

module _ {S : Type 0} (meaning : Meaning S) where
  -- one more event of a list
  pub runs-on : (from mid new : WorldModel S) (events : List WorldEvent) (i : ℕ) (e : WorldEvent) → i < length events → e ≡ get_or events i e → Runs meaning from (take i events) mid
      → WorldStep meaning mid e new → Runs meaning from (take (i + 1) events) new
  runs-on from mid new events i e inside is so step =
      subst (λ (l : List WorldEvent). Runs meaning from l new) (ap (λ (d : WorldEvent). take i events ++ d ∷ []) is ∙ sym (take_more events i e inside))
      (Next (take i events) mid e new so step)

  -- a world that was reached goes on, or stays
  pub reached-on : (old new : WorldModel S) (e : WorldEvent) → IsReached meaning old → WorldStep meaning old e new → IsReached meaning new
  reached-on old new e r step = record { events = r.events ++ e ∷ []; runs = Next r.events old e new r.runs step }

  pub reached-same : (h : History) (at new : ℕ → NodeState S) → SameNodeStates at new → IsReached meaning (record { history = h; node_states = at })
      → IsReached meaning (record { history = h; node_states = new })
  reached-same h at new same r = subst (λ (w : WorldModel S). IsReached meaning w) (λ i. record { history = h; node_states = λ n. sym (same n) i }) r

  -- what goes on has the same beginnings
  longer-than : {X : Type 0} (xs ys zs all : List X) → IsBeginningOf xs ys → all ≡ ys ++ zs → IsBeginningOf xs all
  longer-than xs ys zs all old e = subst (IsBeginningOf xs) (sym e) (IsBeginningOf-grow xs ys zs old)

  -- the history of before is a beginning of the one after
  pub runs-longer : (from new : WorldModel S) (events : List WorldEvent) → Runs meaning from events new → IsLonger from.history new.history
  runs-longer from _ _ Still = record { events = IsBeginningOf-same from.history.events; replies = IsBeginningOf-same from.history.replies; pool = IsBeginningOf-same from.history.pool; trace = IsBeginningOf-same from.history.trace }
  runs-longer from _ _ (Next events mid e new so step) =
      let x = runs-longer from mid events so in
      record {
        events = longer-than _ _ _ _ x.events (ap (λ (h : History). h.events) step.goes_on);
        replies = longer-than _ _ _ _ x.replies (ap (λ (h : History). h.replies) step.goes_on);
        pool = longer-than _ _ _ _ x.pool (ap (λ (h : History). h.pool) step.goes_on);
        trace = longer-than _ _ _ _ x.trace (ap (λ (h : History). h.trace) step.goes_on);
      }
