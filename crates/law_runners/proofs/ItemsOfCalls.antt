-- What each call adds, and any number of calls.
use Rattle.std.proofs.Common.{◌≡◌, ℕ, Bool, false, Option, None, Some, List, [], ◌++◌, map, refl, sym, ap, ◌∙◌, subst}
use Rattle.std.proofs.lemmas.List.{append-nil}
use Rattle.address.specs.Ids.{Address, IsAddress}
use Rattle.state_transfer.specs.Meanings.{Meaning}
use Rattle.trace_props.specs.declared.event.Event.{Event}
use Rattle.member.specs.declared.error.Error.{Error}
use Rattle.member.specs.declared.input.Input.TheVariants as input
use Rattle.channel.specs.Channels.{ChannelModel}
use Rattle.channel.specs.Queues.{TakesFirst}
use Rattle.udp_net.specs.Logs.{Log, Lists}
use Rattle.udp_member.specs.Turns.{Driven}
use Rattle.law_processes.specs.Deployments.{IsNew, bytes_of}
use Rattle.law_processes.specs.Processes.{all_told}
use Rattle.law_runners.specs.Plays.{IsReady, falls, crash_of}
use Rattle.law_runners.proofs.CallIsStep.{lent-calls-are, creates-are, joins-are}
use Rattle.law_runners.specs.Items.{Follow, stands_after, steps_in}
use Rattle.law_runners.specs.Runs.{listed, with_channel, Makes, Listen, Round, Seek, Offer, Wait, Create, Join, Send, Hand, Take, Drives, Begun, Further, running_in, happened_by, Adds, CallsAddItems, new_channel, IsRun, RunsAreProcesses}
use Rattle.law_runners.proofs.StepsOfCalls.{call-does, connect-does, again-does}
use Rattle.law_processes.proofs.NewMembers.{new_member, is-new}
use Rattle.law_runners.proofs.ItemsOfRounds

module _ {N S : Type 0} (log : N → Option Log) (failed : N → ℕ) (meaning : Meaning S) (group : List ℕ) where
  -- ---- each call

  taken-first : (event : Option Event) (old new : List Event) → TakesFirst event old new → listed event ++ new ≡ old
  taken-first None old new t = t.1 ∙ sym t.0
  taken-first (Some event) old new t = sym t

  lists-none : (l : Option Log) → Lists l (λ k. k ++ []) l
  lists-none None = tt
  lists-none (Some l) = sym (append-nil l)

  take-adds : (old : Driven N S) (event : Option Event) (channel : ChannelModel S) → TakesFirst event old.channel.happened channel.happened
      → channel ≡ record old.channel { happened = channel.happened } → IsReady meaning old.channel.stage → Adds log meaning group old (listed event) false (with_channel old channel)
  take-adds old event channel t same ready =
      ItemsOfRounds.quiet-adds log meaning group old (with_channel old channel) (listed event) [] (ap (λ (c : ChannelModel S). c.stage) same) refl (λ r. tt) (λ r. refl)
      (λ r. sym (ap (λ (c : ChannelModel S). map bytes_of c.outgoing) same)) (lists-none (log old.net)) (taken-first event old.channel.happened channel.happened t)
      (ap (λ (c : ChannelModel S). c.address) same) ready

  -- nothing ends it where no error is answered
  none-adds : (old : Driven N S) (taken : List Event) (new : Driven N S) → Adds log meaning group old taken false new → Adds log meaning group old taken (falls old.channel.stage None) new
  none-adds old taken new x = subst (λ (f : Bool). Adds log meaning group old taken f new) (sym (ItemsOfRounds.falls-none log meaning group old)) x

  call-adds : (old : Driven N S) (taken : List Event) (failure : Option Error) (new : Driven N S) → IsAddress old.channel.address → IsReady meaning old.channel.stage
      → Makes log failed meaning group old taken failure new → Adds log meaning group old taken (falls old.channel.stage failure) new
  call-adds old _ _ _ real ready (Listen answer new h) = ItemsOfRounds.hears-on log meaning group failed old answer new h ready
  call-adds old _ _ _ real ready (Round failure new r) = ItemsOfRounds.round-on log meaning group failed old new failure r ready
  call-adds old _ _ _ real ready (Seek failure new s) = ItemsOfRounds.seek-on log meaning group failed old new failure s ready
  call-adds old _ _ _ real ready (Offer new o) = none-adds old [] new (ItemsOfRounds.offers-on log meaning group failed old new o ready)
  call-adds old _ _ _ real ready (Wait new lists same) = none-adds old [] new (ItemsOfRounds.still log meaning group old new same lists ready)
  call-adds old _ _ _ real ready (Create failure channel c left) =
      let x = creates-are meaning group old.channel channel failure real ready c left in
      ItemsOfRounds.steps-on log meaning group old (with_channel old channel) (falls old.channel.stage failure)
      (connect-does meaning group None old.channel failure channel left input.Create tt x.0 x.2 x.3 x.1) (ItemsOfRounds.lists-self log meaning group (log old.net))
  call-adds old _ _ _ real ready (Join contact failure channel c left) =
      let x = joins-are meaning group contact old.channel channel failure real ready c left in
      ItemsOfRounds.steps-on log meaning group old (with_channel old channel) (falls old.channel.stage failure)
      (again-does meaning group None old.channel failure channel left (input.Join contact) tt x.0 x.2 x.3 x.1) (ItemsOfRounds.lists-self log meaning group (log old.net))
  call-adds old _ _ _ real ready (Send payload failure channel c left) =
      let x = lent-calls-are meaning group input.Send payload old.channel channel failure ready c left in
      ItemsOfRounds.steps-on log meaning group old (with_channel old channel) (falls old.channel.stage failure)
      (call-does meaning group None old.channel failure channel left (input.Send x.0) tt x.2.0 x.2.2 x.2.3 x.2.1) (ItemsOfRounds.lists-self log meaning group (log old.net))
  call-adds old _ _ _ real ready (Hand i failure channel none c left) =
      ItemsOfRounds.call-on log meaning group i old (with_channel old channel) failure none (ItemsOfRounds.lists-self log meaning group (log old.net)) c left ready
  call-adds old _ _ _ real ready (Take event channel t same) = none-adds old (listed event) (with_channel old channel) (take-adds old event channel t same ready)

  -- ---- any number of them

  pub drives-adds : (first : Driven N S) (taken : List Event) (fell : Bool) (now : Driven N S) → IsAddress first.channel.address → IsReady meaning first.channel.stage
      → Drives log failed meaning group first taken fell now → Adds log meaning group first taken fell now
  drives-adds first _ _ _ real ready Begun = (ItemsOfRounds.same-goes log meaning group first first refl ready).adds
  drives-adds first _ _ _ real ready (Further taken more fell failure mid new d m) =
      let x = drives-adds first taken fell mid real ready d in
      ItemsOfRounds.then-adds log meaning group first mid new taken more fell (falls mid.channel.stage failure) x (call-adds mid more failure new (subst IsAddress (sym x.address) real) x.ready m)

  -- from the beginning
  run-of : (p : Address) (first : Driven N S) (taken : List Event) (fell : Bool) (now : Driven N S) → IsAddress p → first.channel ≡ new_channel meaning p
      → Adds log meaning group first taken fell now → IsRun log meaning group p first taken fell now
  run-of p first taken fell now real fresh x =
      let m = new_member meaning group p in
      let at = ap (λ (c : ChannelModel S). c.address) fresh in
      let n = subst (λ (q : Address). IsNew meaning group q m) (sym at) (is-new meaning group p real) in
      record {
        member = x.before m;
        items = x.items;
        process = (
          (refl, subst (λ (q : Address). IsNew meaning group q (x.before m)) at (x.is_new m n), tt),
          subst (λ (c : ChannelModel S). Follow meaning group c.address (record { running = running_in (x.before m) c.stage; waiting = map bytes_of c.outgoing; given = None }) x.items) fresh (x.follow m n),
        );
        stands = record {
          member = m;
          is_new = is-new meaning group p real;
          ready = x.ready;
          running = subst (λ (c : ChannelModel S). (stands_after (record { running = running_in (x.before m) c.stage; waiting = map bytes_of c.outgoing; given = None }) x.items).running
              ≡ running_in m now.channel.stage) fresh (x.running m n);
        };
        lists = x.lists;
        tells = subst (λ (c : ChannelModel S). taken ++ now.channel.happened ≡ c.happened ++ all_told (steps_in x.items)) fresh x.tells;
        happens = subst (λ (q : Address). happened_by x.items ≡ all_told (steps_in x.items) ++ crash_of q fell) at x.happens;
      }

pub calls-add : {N S : Type 0} (log : N → Option Log) (failed : N → ℕ) (meaning : Meaning S) → CallsAddItems log failed meaning
calls-add log failed meaning group old taken failure new real ready m = call-adds log failed meaning group old taken failure new real ready m

pub runs-are : {N S : Type 0} (log : N → Option Log) (failed : N → ℕ) (meaning : Meaning S) → RunsAreProcesses log failed meaning
runs-are log failed meaning group p first taken fell now real fresh d =
    let ready = subst (λ c. IsReady meaning c.stage) (sym fresh) refl in
    run-of log failed meaning group p first taken fell now real fresh
    (drives-adds log failed meaning group first taken fell now (subst (λ c. IsAddress c.address) (sym fresh) real) ready d)
