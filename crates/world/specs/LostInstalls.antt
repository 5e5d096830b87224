-- INSTALLs that were lost: the creator of a view is in it, and members of it await it still. Whom this is about, and which events bring them in.
use Rattle.std.specs.Prelude.{◌≡◌, ℕ, Bool, true, false, ◌&&◌, ◌||◌, List, [], ◌∷◌, ◌++◌, length, take, slice_get, Option, None, Some, MatchBool, if◌then◌else◌}
use Rattle.std.specs.List.{list_all, list_any}
use Rattle.std.specs.Option.{option_eq, option_map_or, option_and_then}
use Rattle.address.specs.Ids.{Address, same_address, same_view_id}
use Rattle.view.specs.Members.{View}
use Rattle.state_transfer.specs.Meanings.{Meaning}
use Rattle.law_acts.specs.Cores.{id_of}
use Rattle.membership.specs.MemberStates.{view_in, is_sent_to}
use Rattle.world_model.specs.declared.WorldEvent.TheVariants.{Deliver, Tick}
use Rattle.world.specs.declared.node_state.NodeState.{NodeState}
use Rattle.world.specs.declared.node_state.NodeState.TheVariants.{Vacant, Ended, Running}
use Rattle.world.specs.Worlds.{WorldModel}
use Rattle.world.specs.Plays.{Plays, Fails, DeliversPast, BreaksPast}
use Rattle.world.specs.Settles.{would_follow}

-- ---- whom it is about

-- the view of the member that runs there
abbrev pub view_at : {S : Type 0} → NodeState S → Option View
view_at Vacant = None
view_at (Ended p) = None
view_at (Running m) = option_and_then (λ l. view_in l.view_state) m.member_state

-- whether the member there keeps an INSTALL of its view for an address
abbrev pub keeps_install : {S : Type 0} → Address → NodeState S → Bool
keeps_install q Vacant = false
keeps_install q (Ended p) = false
keeps_install q (Running m) = option_map_or (λ l. list_any (is_sent_to q) l.sent_installs.items) m.member_state false

-- whether the member of an address awaits its INSTALL of the view of the member at a node: it was sent one, and would follow that view still
abbrev pub awaits_install : {S : Type 0} → (ℕ → NodeState S) → ℕ → View → Address → Bool
awaits_install at n v q = keeps_install q (at n) && would_follow v q (at q.node)

-- whether the member of an address runs there, in this view
abbrev pub is_inside : {S : Type 0} → View → Address → NodeState S → Bool
is_inside v q Vacant = false
is_inside v q (Ended p) = false
is_inside v q (Running m) = same_address m.address q && option_map_or (λ l. option_eq same_view_id (id_of (view_in l.view_state)) (Some v.id)) m.member_state false

-- a view, if each of its members is in it or awaits its INSTALL, and one does that
abbrev pub awaited : {S : Type 0} → (ℕ → NodeState S) → ℕ → View → Option View
awaited at n v = if list_all (λ q. is_inside v q (at q.node) || awaits_install at n v q) v.members && list_any (awaits_install at n v) v.members then Some v else None

-- the view of the member at a node, if its other members can be brought in
abbrev pub awaited_at : {S : Type 0} → (ℕ → NodeState S) → ℕ → Option View
awaited_at at n = option_and_then (awaited at n) (view_at (at n))

-- ---- what brings them in

module _ {S : Type 0} (meaning : Meaning S) where
  -- ONE: a tick of that member, a delivery of the last packet that it puts out, its REPORT, and of each STATE and INSTALL that is put out by that
  pub record BringsIn (q : Address) (old new : WorldModel S) : Type 0 where
    pub asked : WorldModel S
    pub answered : WorldModel S
    pub ticks : Plays meaning old (Tick q.node) asked
    pub report : Plays meaning asked (Deliver (length asked.history.pool)) answered
    pub installs : DeliversPast meaning (length asked.history.pool) answered new

  -- ALL OF A LIST, one after another, each that awaits its INSTALL
  pub data BringsAll (n : ℕ) (v : View) (old : WorldModel S) : List Address → WorldModel S → Type 0 where
    Nobody : BringsAll n v old [] old
    Next : (qs : List Address) (q : Address) (mid new : WorldModel S) → BringsAll n v old qs mid
        → MatchBool (awaits_install mid.node_states n v q) (BringsIn q mid new) (new ≡ mid) → BringsAll n v old (qs ++ q ∷ []) new

  -- one of them, ended in an error
  pub data BringsInShort (q : Address) (old : WorldModel S) : WorldModel S → Type 0 where
    AtTick : (new : WorldModel S) → Fails meaning old (Tick q.node) new → BringsInShort q old new
    AtReport : (asked new : WorldModel S) → Plays meaning old (Tick q.node) asked → Fails meaning asked (Deliver (length asked.history.pool)) new → BringsInShort q old new
    AtInstall : (asked answered new : WorldModel S) → Plays meaning old (Tick q.node) asked → Plays meaning asked (Deliver (length asked.history.pool)) answered
        → BreaksPast meaning (length asked.history.pool) answered new → BringsInShort q old new

  -- those of the view before one, and that one with an error
  pub record BringsShort (n : ℕ) (v : View) (old new : WorldModel S) : Type 0 where
    pub place : ℕ
    pub last : Address
    pub stands : slice_get v.members place ≡ Some last
    pub mid : WorldModel S
    pub before : BringsAll n v old (take place v.members) mid
    pub awaits : awaits_install mid.node_states n v last ≡ true
    pub short : BringsInShort last mid new
