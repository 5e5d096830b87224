use Rattle.std.proofs.Common.{◌≡◌, drop}
use Rattle.std.specs.List.{list_any}
use Rattle.next_view.specs.ViewNotes.{is_later}
use Rattle.next_view.proofs.lists.has_later.Given as goal

-- none so far is a later incarnation
abbrev pub invariant-loop-other : goal.invariant-loop-other
invariant-loop-other l = list_any (λ q. is_later q l.address) l.list ≡ list_any (λ q. is_later q l.address) (drop l.other-index l.list)
