use Rattle.std.proofs.Common.{◌≡◌, ◌≤◌, Some, sym, ap, subst, ◌∙◌, rules}
use Rattle.replicated_map.specs.Entries.{state_of, map_size}
use Rattle.replicated_map.specs.Encoding.{map_decode}
use Rattle.address.specs.declared.limits.TheConstants.{STATE}
use Rattle.replicated_map.specs.MapLaws.{decoded_is_map}
use Rattle.replicated_map.proofs.EntriesChange.{Entries}
use Rattle.replicated_map.proofs.map.ReplicatedMapReceiver.set_state.Goals as goal

pub size_of_all-self-inside-requires : goal.size_of_all-self-inside-requires
size_of_all-self-inside-requires c =
    let s = state_of c.in-Some.contents.last c.in-Some.contents.entries.items in
    let e : map_decode c.args.state.now ≡ Some s = rw c.in-Some.is at c.in_ok-contents_of.ensures in
    subst (λ (es : Entries). map_size es ≤ STATE) (sym c.as_slice.ensures.value) (decoded_is_map c.args.state.now s e).fits

pub invariant_of-self : goal.invariant_of-self
invariant_of-self c =
    let s = state_of c.in-Some.contents.last c.in-Some.contents.entries.items in
    let e : map_decode c.args.state.now ≡ Some s = rw c.in-Some.is at c.in_ok-contents_of.ensures in
    (decoded_is_map c.args.state.now s e, c.size_of_all-self-inside.ensures ∙ ap map_size c.as_slice.ensures.value)

pub returns-in-None-clause-ok : goal.returns-in-None-clause-ok
returns-in-None-clause-ok c = search rules

pub returns-in-None-clause-err : goal.returns-in-None-clause-err
returns-in-None-clause-err c = search rules
