-- A change of view that completes where it can, and a view that delivers everything where it can.
use Rattle.std.specs.Prelude.{◌≡◌, ℕ, Option, None, MatchOption, if◌then◌else◌}
use Rattle.view.specs.Members.{View}
use Rattle.state_transfer.specs.Meanings.{Meaning}
use Rattle.world.specs.declared.node_state.NodeState.{NodeState}
use Rattle.world.specs.Worlds.{WorldModel}
use Rattle.world.specs.Settles.{IsSettled}
use Rattle.world.specs.Completing.{completing_at, Completes}
use Rattle.world.specs.Calm.{calm_at, coordinates, DeliversAll, IsThrough}

-- the change of view of the member at a node completes, if it can: all of the view's members are in it then; else nothing is done
abbrev pub SettlesAt : {S : Type 0} → Meaning S → ℕ → WorldModel S → WorldModel S → Type 0
SettlesAt meaning n old new = MatchOption (completing_at old.node_states n) (new ≡ old) (λ v. Completes meaning n v old new × IsSettled v new.history.trace)

-- the calm view that the member at a node coordinates
abbrev pub led_at : {S : Type 0} → (ℕ → NodeState S) → ℕ → Option View
led_at at n = if coordinates n (at n) then calm_at at n else None

-- everything that was sent in that view is delivered; without such a view nothing is done
abbrev pub DeliversAt : {S : Type 0} → Meaning S → ℕ → WorldModel S → WorldModel S → Type 0
DeliversAt meaning n old new = MatchOption (led_at old.node_states n) (new ≡ old) (λ v. DeliversAll meaning v old new × IsThrough v new)
