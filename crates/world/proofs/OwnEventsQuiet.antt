-- What happens to one member and is asked for by no event by itself is quiet for it.
use Rattle.std.proofs.Common.{◌≡◌, ◌&&◌, true, List, [], ◌∷◌, refl}
use Rattle.std.specs.List.{list_all}
use Rattle.std.proofs.lemmas.Bool.{and_parts, and_from}
use Rattle.address.specs.Ids.{Address, same_address}
use Rattle.address.proofs.SameIds.{same_address-from}
use Rattle.trace_props.specs.declared.event.Event.{Event}
use Rattle.trace_props.specs.Observed.{member_of}
use Rattle.law_processes.proofs.ActsAreOwn.{EachOwn}
use Rattle.world_model.specs.Faithful.{is_quiet, are_quiet}

pub own-quiet : (p : Address) (s : List Event) → EachOwn p s → list_all is_quiet s ≡ true → are_quiet p s ≡ true
own-quiet p [] own quiet = refl
own-quiet p (x ∷ s) own quiet =
    let q = and_parts (is_quiet x) (list_all is_quiet s) quiet in
    and_from (same_address (member_of x) p && is_quiet x) (are_quiet p s)
    (and_from (same_address (member_of x) p) (is_quiet x) (same_address-from (member_of x) p own.0.0) q.0) (own-quiet p s own.1 q.1)
