use Rattle.std.proofs.Common.{◌≡◌, ℕ, ◌+◌, ◌<◌, slice_get}
use Rattle.std.specs.Option.{option_copied}
use Rattle.trace_rules.specs.Known.{sent_kept}
use Rattle.trace_rules.proofs.judge.rest.is_rest.Given as goal

-- the messages so far are those sent past the index
abbrev pub invariant-loop-index : goal.invariant-loop-index
invariant-loop-index l = (k : ℕ) → k < l.index → slice_get l.messages k ≡ slice_get (sent_kept (option_copied l.kept)) (l.start + k)
