use Rattle.std.proofs.Common.{subst}
use Rattle.big_endian.specs.Reading.{IsReadOrNone}
use Rattle.keyed_state.specs.States.{state_of, state_decode}
use Rattle.replicated_map.specs.Values.{held_form}
use Rattle.replicated_map.specs.MapLaws.{decoded_is_map}
use Rattle.crate_tests.proofs.state_tests.is_written_again.Goals as goal

pub size_of_all-size-requires : goal.size_of_all-size-requires
size_of_all-size-requires c = rw (c.as_slice-entries.ensures.value) (
    let read = subst (λ r. IsReadOrNone (λ k. state_of k.last k.entries.items) r (state_decode held_form c.args.state.now)) c.in-Ok-Some.field-0-is c.in-Ok-Some.ensures in
    (decoded_is_map c.args.state.now _ read).fits)

pub put_state-requires-clause-state : goal.put_state-requires-clause-state
put_state-requires-clause-state c = rw (c.as_slice-entries.ensures.value) (
    let read = subst (λ r. IsReadOrNone (λ k. state_of k.last k.entries.items) r (state_decode held_form c.args.state.now)) c.in-Ok-Some.field-0-is c.in-Ok-Some.ensures in
    decoded_is_map c.args.state.now _ read)
