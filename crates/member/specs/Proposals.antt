-- How far a member's promise is past a proposal.
use Rattle.std.specs.Prelude.{ℕ, Option, None, Some, if◌then◌else◌}
use Rattle.view.specs.Members.{View}
use Rattle.view_install.specs.Promises.{offered}
use Rattle.view_install.specs.declared.promise.OfferAnswer.{OfferAnswer}
use Rattle.view_install.specs.declared.promise.OfferAnswer.TheVariants.{Accept, Behind, Ignore}
use Rattle.membership.specs.declared.member_state.MemberState.{MemberState}
use Rattle.membership.specs.MemberStates.{is_connected}

-- the counter that the answer to a proposal tells, if it is behind
abbrev pub told : OfferAnswer → Option ℕ
told Accept = None
told (Behind counter) = Some counter
told Ignore = None

-- the counter of the greater proposal that a member has promised, with which it answers this one if it is connected
abbrev pub past_in : {S : Type 0} → View → MemberState S → Option ℕ
past_in v l = if is_connected l then told (offered v l.promise) else None
