-- What a member promised: the greatest proposal of a view that it took, and whether that view is installed.
use Rattle.std.specs.Prelude.{Bool, true, false, not, ◌&&◌, Option, Some, if◌then◌else◌}
use Rattle.std.specs.Option.{option_map_or}
use Rattle.std.specs.Cmp.Lexicographic.{pointwise}
use Rattle.std.specs.declared.cmp.Ordering.{Ordering}
use Rattle.std.specs.declared.cmp.Ordering.TheVariants.{Less, Equal, Greater}
use Rattle.address.specs.Ids.{Address, view_id_cmp, same_address, same_view_id}
use Rattle.view.specs.Members.{View, stands_in}
use Rattle.view_install.specs.declared.promise.OfferAnswer.{OfferAnswer}
use Rattle.view_install.specs.declared.promise.OfferAnswer.TheVariants.{Accept, Behind, Ignore}

-- a member, the proposal that it promised last, and whether that is installed
pub record PromiseModel : Type 0 where
  pub member : Address
  pub proposal : Option View
  pub is_installed : Bool

-- the answer to a proposal that is less than, equal to or greater than the promised one
abbrev pub answer_past : Ordering → View → Bool → OfferAnswer
answer_past Greater promised installed = Accept
answer_past Equal promised installed = if installed then Ignore else Accept
answer_past Less promised installed = Behind promised.id.counter

-- the answer to a proposal
abbrev pub offered : View → PromiseModel → OfferAnswer
offered w p =
    if stands_in p.member w.members
    then option_map_or (λ promised. answer_past (view_id_cmp w.id promised.id) promised p.is_installed) p.proposal Accept
    else Ignore

abbrev pub is_accept : OfferAnswer → Bool
is_accept Accept = true
is_accept (Behind counter) = false
is_accept Ignore = false

-- the proposal is promised
abbrev pub promising : View → PromiseModel → PromiseModel
promising w p = record { member = p.member; proposal = Some w; is_installed = false }

-- the promise after a proposal was offered
abbrev pub after_offer : View → PromiseModel → PromiseModel
after_offer w p = if is_accept (offered w p) then promising w p else p

-- the same id and the same list
abbrev pub same_view : View → View → Bool
same_view v w = same_view_id v.id w.id && pointwise same_address v.members w.members

-- a proposal was promised that is not installed
abbrev pub is_frozen : PromiseModel → Bool
is_frozen p = option_map_or (λ _. not p.is_installed) p.proposal false

-- whether a view may be installed: it is the promised one, with its list, and was not installed
abbrev pub may_install : View → PromiseModel → Bool
may_install w p = option_map_or (λ promised. same_view w promised && not p.is_installed) p.proposal false

-- the promise is installed
abbrev pub installing : PromiseModel → PromiseModel
installing p = record p { is_installed = true }

-- the promise after an install of a view
abbrev pub after_install : View → PromiseModel → PromiseModel
after_install w p = if may_install w p then installing p else p
