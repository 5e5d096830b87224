-- Whom a member watches: whose silence would hold up its view.
use Rattle.std.specs.Prelude.{not, ◌||◌, is_some, List, [], ◌∷◌, ◌++◌, filter, Option, None, Some, if◌then◌else◌}
use Rattle.std.specs.Option.{option_map_or, option_and_then, option_to_list}
use Rattle.address.specs.Ids.{Address}
use Rattle.view.specs.Members.{View, stands_in}
use Rattle.next_view.specs.Candidates.{first_unsuspected}
use Rattle.flush.specs.Flushes.{FlushModel}
use Rattle.law_acts.specs.Acts.{others_of}
use Rattle.membership.specs.declared.member_state.MemberState.{MemberState}
use Rattle.membership.specs.MemberStates.{view_in, leads_in}
use Rattle.member_rules.specs.Views.{listed_in}
use Rattle.member.specs.Members.{MemberModel}

-- who proposed what it promised, while it is blocked without a flush of its own and does not suspect that one
abbrev pub awaited : {S : Type 0} → MemberState S → Option Address
awaited l = option_and_then (λ w. if (l.promise.is_installed || is_some l.flush) || stands_in w.id.creator l.notes.suspects then None else Some w.id.creator) l.promise.proposal

-- the others of its view, and those of the list of its own flush
abbrev pub others_in : Address → View → Option FlushModel → List Address
others_in me v flush = others_of me v.members ++ filter (λ p. not (stands_in p v.members)) (listed_in flush)

-- that one; else, where it leads its view, all the others; else the member of the lowest rank that it does not suspect
abbrev pub watched_in : {S : Type 0} → Address → MemberState S → View → List Address
watched_in me l v = option_map_or (λ p. p ∷ []) (awaited l) (if leads_in me v l.notes then others_in me v l.flush else option_to_list (first_unsuspected l.notes.suspects v.members))

-- nobody without a view
abbrev pub watched : {S : Type 0} → MemberModel S → List Address
watched m = option_map_or (λ l. option_map_or (watched_in m.address l) (view_in l.view_state) []) m.member_state []
