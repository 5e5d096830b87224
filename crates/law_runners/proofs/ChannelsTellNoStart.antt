-- What channels tell is no start.
use Rattle.std.proofs.Common.{◌≡◌, ℕ, Bool, true, false, ◌||◌, Option, Ok, Err, List, [], ◌∷◌, ◌++◌, refl, sym, ap, ◌∙◌}
use Rattle.std.specs.List.{list_any}
use Rattle.std.proofs.lemmas.List.{append-nil}
use Rattle.std.proofs.lemmas.List.Folds.{list_any-append}
use Rattle.address.specs.Ids.{Address}
use Rattle.state_transfer.specs.Meanings.{Meaning}
use Rattle.trace_props.specs.declared.event.Event.{Event}
use Rattle.trace_props.specs.declared.event.Event.TheVariants.{Started, Sent, Delivered, Blocked, Installed, Left, Crashed}
use Rattle.trace_props.specs.Observed.{is_start}
use Rattle.member.specs.Members.{MemberModel, core_of}
use Rattle.udp_net.specs.Logs.{Log}
use Rattle.law_processes.specs.Deployments.{Step, Start, Call, Crash, told_by}
use Rattle.law_processes.specs.Processes.{StepsSo, all_told}
use Rattle.law_processes.specs.Law.{but_starts_and_crashes}
use Rattle.law_processes.proofs.MembersTell.{reply-told}
use Rattle.law_runners.specs.Items.{Item, OfNet, OfMember, Standing, then_stands, Follow, steps_in}
use Rattle.law_runners.specs.Systems.{PlayedTellNoStart}
use Rattle.law_runners.proofs.HandsPlay.{runner-is}
use Rattle.law_runners.proofs.ItemsOfCalls.{drives-adds}
use Rattle.law_processes.proofs.NewMembers.{new_member, is-new}

told-none : (events : List Event) → list_any is_start (but_starts_and_crashes events) ≡ false
told-none [] = refl
told-none (Started p ∷ events) = told-none events
told-none (Sent s ∷ events) = told-none events
told-none (Delivered d ∷ events) = told-none events
told-none (Blocked p ∷ events) = told-none events
told-none (Installed i ∷ events) = told-none events
told-none (Left p ∷ events) = told-none events
told-none (Crashed p ∷ events) = told-none events

both-none : (a b : Bool) → a ≡ false → b ≡ false → (a || b) ≡ false
both-none true b x y = absurd (let bad : true ≡ false = x in cc)
both-none false b x y = y

module _ {S : Type 0} (meaning : Meaning S) (group : List ℕ) where
  step-none : (running : Option (MemberModel S)) (x : Step S) → StepsSo meaning group running x → list_any is_start (told_by x) ≡ false
  step-none running (Start p m) so = refl
  step-none running (Call p input (Ok out) left) so =
      ap (list_any is_start) (sym (reply-told meaning group (core_of so.member) input out.events.items (core_of left) so.handled.reply)) ∙ told-none out.events.items
  step-none running (Call p input (Err e) left) so = refl
  step-none running (Crash p) so = refl

  follow-none : (p : Address) (s : Standing S) (items : List (Item S)) → Follow meaning group p s items → list_any is_start (all_told (steps_in items)) ≡ false
  follow-none p s [] f = refl
  follow-none p s (OfNet event ∷ items) f = follow-none p (then_stands s (OfNet event)) items f.1
  follow-none p s (OfMember x ∷ items) f =
      list_any-append is_start (told_by x) (all_told (steps_in items))
      ∙ both-none (list_any is_start (told_by x)) (list_any is_start (all_told (steps_in items))) (step-none s.running x f.0.1) (follow-none p (then_stands s (OfMember x)) items f.1)

pub starts-none : {N S : Type 0} (log : N → Option Log) (failed : N → ℕ) (meaning : Meaning S) → PlayedTellNoStart log failed meaning
starts-none log failed meaning group at gone events p old taken fell new (seen, played) there drives told =
    let r = runner-is log failed meaning group at gone events seen played p old there in
    let x = drives-adds log failed meaning group old taken fell new r.0 r.1 drives in
    let q = old.channel.address in
    let same : taken ≡ all_told (steps_in x.items) =
    sym (append-nil taken) ∙ ap (λ (l : List Event). taken ++ l) (sym told) ∙ x.tells ∙ ap (λ (l : List Event). l ++ all_told (steps_in x.items)) r.2 in
    ap (list_any is_start) same ∙ follow-none meaning group q _ x.items (x.follow (new_member meaning group q) (is-new meaning group q r.0))
