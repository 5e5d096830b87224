-- What one hand does next, whatever happened at its nets.
use Rattle.std.proofs.Common.{◌≡◌, Bool, false, ℕ, Option, Some, None, List, [], ◌∷◌, ◌++◌}
use Rattle.std.specs.Option.{ForSome}
use Rattle.address.specs.Ids.{Address, IsAddress}
use Rattle.state_transfer.specs.Meanings.{Meaning}
use Rattle.trace_props.specs.declared.event.Event.{Event}
use Rattle.trace_props.specs.declared.event.Event.TheVariants.{Started}
use Rattle.trace_props.specs.Observed.{has_started}
use Rattle.udp_net.specs.Logs.{Log}
use Rattle.udp_member.specs.Turns.{Driven}
use Rattle.law_runners.specs.Plays.{crash_of}
use Rattle.law_runners.specs.Items.{net_events}
use Rattle.law_runners.specs.Runs.{Drives, new_channel}
use Rattle.law_runners.specs.Systems.{Gone, with_runner, Played, Nothing, Begins, Turns}
use Rattle.law_runners.proofs.HandsPlay.{runner-is}
use Rattle.law_runners.proofs.ItemsOfCalls.{drives-adds}

module _ {N S : Type 0} (log : N → Option Log) (failed : N → ℕ) (meaning : Meaning S) (group : List ℕ) where
  pub nothing-played : Played log failed meaning group (λ p. None) [] []
  nothing-played = ([], Nothing)

  module _ (at : Address → Option (Driven N S)) (gone : List (Gone N)) (events : List Event) (p : Address) (so : Played log failed meaning group at gone events) where
    pub begin-played : (r : Driven N S) → IsAddress p → has_started p events ≡ false → r.channel ≡ new_channel meaning p → ForSome (log r.net) (λ l. l ≡ [])
        → Played log failed meaning group (with_runner p (Some r) at) gone (events ++ Started p ∷ [])
    begin-played r real unstarted fresh lists = (so.0, Begins at gone events so.0 p r so.1 real unstarted fresh lists)

    -- what its net lists more is what its calls add
    pub turn-played : (old : Driven N S) (taken : List Event) (fell : Bool) (new : Driven N S) → at p ≡ Some old → Drives log failed meaning group old taken fell new
        → new.channel.happened ≡ [] → Played log failed meaning group (with_runner p (Some new) at) gone (events ++ taken ++ crash_of p fell)
    turn-played old taken fell new there drives told =
        let r = runner-is log failed meaning group at gone events so.0 so.1 p old there in
        let x = drives-adds log failed meaning group old taken fell new r.0 r.1 drives in
        (so.0 ++ net_events x.items, Turns at gone events so.0 p old taken fell new (net_events x.items) so.1 there drives told x.lists)
