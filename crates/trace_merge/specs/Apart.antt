-- When the traces of several processes tell of members of their own, and when their events keep the rules.
use Rattle.std.specs.Prelude.{◌≡◌, ℕ, List}
use Rattle.std.specs.List.{Contains}
use Rattle.state_transfer.specs.Meanings.{Meaning}
use Rattle.trace_props.specs.Observed.{member_of}
use Rattle.trace_props.specs.Synchrony.{IsVirtuallySynchronous}
use Rattle.trace_props.specs.declared.event.Event.{Event}
use Rattle.trace_merge.specs.Merges.{events_at, IsMerge}

-- no address has events in two of the traces
abbrev pub AreApart : List (List Event) → Type 0
AreApart processes =
    (j k : ℕ) (e f : Event) → Contains (events_at processes j) e → Contains (events_at processes k) f → member_of e ≡ member_of f → j ≡ k

-- in some order, in which those of each process are in its order, all their events together keep the rules
abbrev pub CanBeSynchronous : {S : Type 0} → Meaning S → List (List Event) → Type 0
CanBeSynchronous meaning processes = (t : List Event) × IsMerge processes t × IsVirtuallySynchronous meaning t

-- the same traces in another order: each stands at one place of both
pub record AreReordered (processes others : List (List Event)) : Type 0 where
  pub to : ℕ → ℕ
  pub from : ℕ → ℕ
  pub back : (k : ℕ) → from (to k) ≡ k
  pub forth : (k : ℕ) → to (from k) ≡ k
  pub same : (k : ℕ) → events_at others k ≡ events_at processes (to k)
