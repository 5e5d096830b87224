use Rattle.traffic.proofs.SlotsPutOut.{IsPut}
use Rattle.traffic.proofs.view_state.put_window.Given as goal

-- what stands in the slots so far is put
abbrev pub invariant-loop-slot : goal.invariant-loop-slot
invariant-loop-slot l = IsPut l.initial.out.items l.fn.window.held l.number l.slot-iterator l.out.items
