-- What runners know: what their channels do, by the law of deployments.
use Rattle.std.proofs.Common.{◌≡◌, ℕ, true, false, Option, Some, List, refl, sym, ◌∙◌, subst}
use Rattle.std.specs.Option.{IsSomeAnd}
use Rattle.std.proofs.lemmas.Option.{none-some, same_Some}
use Rattle.address.specs.Ids.{Address}
use Rattle.state_transfer.specs.Meanings.{Meaning}
use Rattle.trace_props.specs.declared.event.Event.{Event}
use Rattle.trace_props.proofs.RulesAlongLists.{EachPlace-whole}
use Rattle.law_processes.specs.Replicas.{ReplicasAgree}
use Rattle.law_acts.specs.Cores.{Core, idle}
use Rattle.law_acts.specs.Known.{Knows}
use Rattle.member.specs.Members.{MemberModel, core_of}
use Rattle.channel.specs.declared.stage.Stage.{Stage}
use Rattle.channel.specs.declared.stage.Stage.TheVariants.{Apart, Connected, Ended}
use Rattle.law_processes.specs.Deployments.{IsNew, trace_of}
use Rattle.law_processes.specs.Known.{MembersKnow, CopiesAgree}
use Rattle.law_runners.specs.Plays.{IsReady}
use Rattle.law_runners.specs.KnownOfChannels.{ChannelKnows}
use Rattle.law_runners.proofs.WhatChannelsKnow.{connected-knows}
use Rattle.law_runners.specs.Items.{Item, steps_in}
use Rattle.law_runners.specs.Runs.{running_in, StandsWith}
use Rattle.law_runners.specs.Merged.{items_of}
use Rattle.law_runners.specs.Known.{KnowsAmong, RunnersKnow, RunnersAgree, ReceiversAgree}
use Rattle.law_runners.proofs.ProcessesMerged.{history, members-are}

module _ {S : Type 0} (meaning : Meaning S) (group : List ℕ) (t : List Event) (p : Address) where
  -- a channel that is not connected yet: its process has started, and its receiver is in its opening state
  apart-knows : (m : MemberModel S) (s : S) → IsNew meaning group p m → s ≡ meaning.opening → IsSomeAnd (core_of m) (Knows meaning t p) → ChannelKnows meaning t p (Apart s)
  apart-knows m s fresh opens k =
      let is : Knows meaning t p (idle meaning.opening p) = subst (λ (o : Option (Core S)). IsSomeAnd o (Knows meaning t p)) fresh.core k in
      record {
        receiver = λ z e. sym (same_Some s z e) ∙ opens ∙ sym is.state;
        view = λ v e. absurd (none-some v e);
        blocked = λ e. absurd (let bad : false ≡ true = e in cc);
        stable = λ v e. absurd (none-some v e);
      }

  stage-knows : (m : MemberModel S) (stage : Stage S) → IsNew meaning group p m → IsReady meaning stage
      → ((n : MemberModel S) → running_in m stage ≡ Some n → IsSomeAnd (core_of n) (Knows meaning t p)) → ChannelKnows meaning t p stage
  stage-knows m (Apart s) fresh ready k = apart-knows m s fresh ready (k m refl)
  stage-knows m (Connected n) fresh ready k = connected-knows meaning t p n (k n refl)
  stage-knows m Ended fresh ready k = record {
    receiver = λ z e. absurd (none-some z e);
    view = λ v e. absurd (none-some v e);
    blocked = λ e. absurd (let bad : false ≡ true = e in cc);
    stable = λ v e. absurd (none-some v e);
  }

module _ {S : Type 0} (meaning : Meaning S) where
  pub runners-know : MembersKnow meaning → RunnersKnow meaning
  runners-know known group all merged p stage x =
      stage-knows meaning group (trace_of (steps_in (items_of all))) p x.member stage x.is_new x.ready
      (λ n runs. known group (steps_in (items_of all)) (history meaning group all merged) p n (members-are meaning group all merged.processes p ∙ x.running ∙ runs))

  -- a process that a channel stands with, wherever it stands
  pub knows-among : RunnersKnow meaning → (group : List ℕ) (p : Address) (own : List (Item S)) (stage : Stage S) → StandsWith meaning group p own stage → KnowsAmong meaning group p own stage
  knows-among know group p own stage stands all merged same =
      know group all merged p stage (subst (λ (l : List (Item S)). StandsWith meaning group p l stage) (sym same) stands)

  pub runners-agree : CopiesAgree meaning → RunnersAgree meaning
  runners-agree copies group all merged = copies group (steps_in (items_of all)) (history meaning group all merged)

  pub receivers-agree : RunnersKnow meaning → RunnersAgree meaning → ReceiversAgree meaning
  receivers-agree know agree group all merged p q stage other v n s z at there has does shown seen =
      (know group all merged p stage at).receiver s shown
      ∙ (EachPlace-whole (ReplicasAgree meaning) (trace_of (steps_in (items_of all))) (agree group all merged)).level p q v n has does
      ∙ sym ((know group all merged q other there).receiver z seen)
