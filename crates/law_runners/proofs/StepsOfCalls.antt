-- What a call of a channel does, where its process had started before.
use Rattle.std.proofs.Common.{◌≡◌, ℕ, Bool, true, false, cond, Option, None, Some, List, [], ◌∷◌, ◌++◌, map, flat_map, refl, sym, ap, ◌∙◌, subst}
use Rattle.std.specs.Prelude.{IfSome, MatchBool}
use Rattle.std.specs.List.{AllByRecursion}
use Rattle.std.proofs.lemmas.Option.{none-some}
use Rattle.address.specs.Ids.{Address}
use Rattle.wire_values.specs.Names.{is_group_name}
use Rattle.state_transfer.specs.Meanings.{Meaning}
use Rattle.trace_props.specs.declared.event.Event.{Event}
use Rattle.member.specs.declared.error.Error.{Error}
use Rattle.member.specs.declared.input.Input.{Input}
use Rattle.member.specs.Members.{MemberModel}
use Rattle.channel.specs.declared.stage.Stage.{Stage}
use Rattle.channel.specs.declared.stage.Stage.TheVariants.{Apart, Connected, Ended}
use Rattle.channel.specs.Errors.{is_end}
use Rattle.channel.specs.Channels.{ChannelModel, member_in, is_in}
use Rattle.law_processes.specs.Deployments.{Step, Start, Call, Crash, IsNew, bytes_of, left_with, happens_by}
use Rattle.law_processes.specs.Processes.{StepsSo, RunsFrom, member_after, all_put_out, all_told}
use Rattle.law_runners.specs.Plays.{IsReady, is_apart_after, Plays, IsStepBy, AreByCall, AreByConnect, AreByReconnect, falls, crash_of, happens_then, Happens, LeftBy}
use Rattle.law_runners.proofs.CallIsStep.{ends_by, is_over, ended-after}
use Rattle.law_runners.specs.Items.{datagram_in}
use Rattle.law_runners.specs.Runs.{is_start, running_in}
use Rattle.law_runners.proofs.ItemsJoin.{MayHand, step-hands}

-- ---- stages

never : (b : Bool) → cond b false false ≡ false
never true = refl
never false = refl

module _ {S : Type 0} where
  pub falls-is : (s : Stage S) (failure : Option Error) → falls s failure ≡ cond (is_over s) false (ends_by failure)
  falls-is (Apart s) failure = refl
  falls-is (Connected m) failure = refl
  falls-is Ended failure = refl

  pub falls-as : (s t : Stage S) (failure : Option Error) → is_over s ≡ is_over t → falls s failure ≡ falls t failure
  falls-as s t failure e = falls-is s failure ∙ ap (λ b. cond b false (ends_by failure)) e ∙ sym (falls-is t failure)

  pub falls-not : (s : Stage S) (failure : Option Error) → ends_by failure ≡ false → falls s failure ≡ false
  falls-not s failure e = falls-is s failure ∙ ap (λ b. cond (is_over s) false b) e ∙ never (is_over s)

  falls-so : (s : Stage S) (failure : Option Error) → falls s failure ≡ true → ends_by failure ≡ true
  falls-so (Apart s) failure e = e
  falls-so (Connected m) failure e = e
  falls-so Ended failure e = absurd (let bad : false ≡ true = e in cc)

  over-so : (s : Stage S) → s ≡ Ended → is_over s ≡ true
  over-so s e = ap (λ (t : Stage S). is_over t) e

  -- the member that runs in a process is the channel's, where that is connected or has ended
  running-joined : (m : MemberModel S) (s : Stage S) → is_apart_after s [] ≡ false → running_in m s ≡ member_in s
  running-joined m (Apart s) e = absurd (let bad : true ≡ false = e in cc)
  running-joined m (Connected n) e = refl
  running-joined m Ended e = refl

  running-as : (m : MemberModel S) (s t : Stage S) → member_in s ≡ member_in t → is_apart_after t [] ≡ is_apart_after s [] → running_in m s ≡ running_in m t
  running-as m (Apart s) (Apart t) e a = refl
  running-as m (Apart s) (Connected n) e a = absurd (let bad : false ≡ true = a in cc)
  running-as m (Apart s) Ended e a = absurd (let bad : false ≡ true = a in cc)
  running-as m (Connected n) (Apart t) e a = absurd (let bad : true ≡ false = a in cc)
  running-as m (Connected n) (Connected k) e a = e
  running-as m (Connected n) Ended e a = e
  running-as m Ended (Apart t) e a = absurd (let bad : true ≡ false = a in cc)
  running-as m Ended (Connected k) e a = e
  running-as m Ended Ended e a = refl

  ended-is : (s : Stage S) → is_apart_after s [] ≡ false → member_in s ≡ None → s ≡ Ended
  ended-is (Apart s) a e = absurd (let bad : true ≡ false = a in cc)
  ended-is (Connected m) a e = absurd (none-some m (sym e))
  ended-is Ended a e = refl

  -- ---- a step

  happens-as : (p : Address) (i : Input) (x : Step S) → IsStepBy p i x → happens_then x ≡ happens_by x
  happens-as p i (Start q m) by = absurd by
  happens-as p i (Call q other result left) by = refl
  happens-as p i (Crash q) by = refl

  starts-not : (p : Address) (i : Input) (x : Step S) → IsStepBy p i x → is_start x ≡ false
  starts-not p i (Start q m) by = absurd by
  starts-not p i (Call q other result left) by = refl
  starts-not p i (Crash q) by = refl

-- ---- what is done

-- DOES: steps, none of them a start, that lead from one channel to the other; before it is connected it stands for the member with which it will be
pub record Does {S : Type 0} (meaning : Meaning S) (group : List ℕ) (given : Option (List ℕ)) (old : ChannelModel S) (fell : Bool) (new : ChannelModel S) : Type 0 where
  pub own : List (Step S)
  pub before : MemberModel S → MemberModel S
  pub is_new : (m : MemberModel S) → IsNew meaning group old.address m → IsNew meaning group old.address (before m)
  pub runs : (m : MemberModel S) → IsNew meaning group old.address m → RunsFrom meaning group (running_in (before m) old.stage) own
  pub left : (m : MemberModel S) → IsNew meaning group old.address m → member_after (running_in (before m) old.stage) own ≡ running_in m new.stage
  pub may : MayHand old.address given own
  pub puts : map bytes_of new.outgoing ≡ map bytes_of old.outgoing ++ all_put_out own
  pub tells : new.happened ≡ old.happened ++ all_told own
  pub happens : flat_map happens_by own ≡ all_told own ++ crash_of old.address fell
  pub no_start : AllByRecursion (λ x. is_start x ≡ false) own
  pub address : new.address ≡ old.address
  pub ready : IsReady meaning new.stage
  pub fallen : fell ≡ true → new.stage ≡ Ended
  pub over : old.stage ≡ Ended → (own ≡ []) × (new.stage ≡ Ended)

module _ {S : Type 0} (meaning : Meaning S) (group : List ℕ) (given : Option (List ℕ)) (old : ChannelModel S) (failure : Option Error) (new : ChannelModel S)
    (is : LeftBy failure old new) where
  ends-so : (o : Option Error) → LeftBy o old new → ends_by o ≡ true → new.stage ≡ Ended
  ends-so None l e = absurd (let bad : false ≡ true = e in cc)
  ends-so (Some k) l e = ap (λ (c : ChannelModel S). c.stage) l ∙ ended-after meaning (is_end k) old e

  fall-ends : falls old.stage failure ≡ true → new.stage ≡ Ended
  fall-ends e = ends-so failure is (falls-so old.stage failure e)

  -- nothing
  does-nothing : Plays meaning group [] old new → Happens [] old failure → Does meaning group given old (falls old.stage failure) new
  does-nothing p h = record {
    own = [];
    before = λ m. m;
    is_new = λ m n. n;
    runs = λ m n. tt;
    left = λ m n. running-as m old.stage new.stage p.left p.apart;
    may = tt;
    puts = p.puts;
    tells = p.tells;
    happens = h;
    no_start = tt;
    address = p.address;
    ready = p.ready;
    fallen = fall-ends;
    over = λ e. (refl, ended-is new.stage (p.apart ∙ ap (λ (s : Stage S). is_apart_after s []) e) (sym p.left ∙ ap (λ (s : Stage S). member_in s) e));
  }

  -- one step, from the member that runs before it
  does-one : (i : Input) (x : Step S) → IfSome (datagram_in i) (λ bytes. given ≡ Some bytes) → IsStepBy old.address i x → is_over old.stage ≡ false → (before : MemberModel S → MemberModel S)
      → ((m : MemberModel S) → IsNew meaning group old.address m → IsNew meaning group old.address (before m))
      → ((m : MemberModel S) → StepsSo meaning group (running_in (before m) old.stage) x)
      → left_with x ≡ member_in new.stage → is_apart_after new.stage [] ≡ false → map bytes_of new.outgoing ≡ map bytes_of old.outgoing ++ all_put_out (x ∷ [])
      → new.happened ≡ old.happened ++ all_told (x ∷ []) → Happens (x ∷ []) old failure → new.address ≡ old.address → IsReady meaning new.stage
      → Does meaning group given old (falls old.stage failure) new
  does-one i x hands by going before fresh so left apart puts tells h address ready = record {
    own = x ∷ [];
    before = before;
    is_new = fresh;
    runs = λ m n. (so m, tt);
    left = λ m n. left ∙ sym (running-joined m new.stage apart);
    may = step-hands old.address i given x hands by;
    puts = puts;
    tells = tells;
    happens = ap (λ (l : List Event). l ++ []) (sym (happens-as old.address i x by)) ∙ h;
    no_start = (starts-not old.address i x by, tt);
    address = address;
    ready = ready;
    fallen = fall-ends;
    over = λ e. absurd (let bad : true ≡ false = sym (over-so old.stage e) ∙ going in cc);
  }

  -- ---- a call

  abbrev Done : Type 0
  Done = Does meaning group given old (falls old.stage failure) new

  none-by : (own : List (Step S)) → own ≡ [] → Plays meaning group own old new → Happens own old failure → Done
  none-by own none p h = does-nothing (subst (λ (l : List (Step S)). Plays meaning group l old new) none p) (subst (λ (l : List (Step S)). Happens l old failure) none h)

  one-by : (i : Input) (m : MemberModel S) (x : Step S) → IfSome (datagram_in i) (λ bytes. given ≡ Some bytes) → IsStepBy old.address i x → old.stage ≡ Connected m
      → Plays meaning group (x ∷ []) old new → Happens (x ∷ []) old failure → Done
  one-by i m x hands by at p h =
      does-one i x hands by (ap (λ (s : Stage S). is_over s) at) (λ n. n) (λ n fresh. fresh)
      (λ n. subst (λ (o : Option (MemberModel S)). StepsSo meaning group o x) (ap (λ (s : Stage S). member_in s) at ∙ sym (ap (λ (s : Stage S). running_in n s) at)) p.runs.0)
      p.left (p.apart ∙ ap (λ (s : Stage S). is_apart_after s (x ∷ [])) at) p.puts p.tells h p.address p.ready

  module _ (i : Input) (hands : IfSome (datagram_in i) (λ bytes. given ≡ Some bytes)) (own : List (Step S)) (p : Plays meaning group own old new) (h : Happens own old failure) where
    call-at : (s : Stage S) → old.stage ≡ s → AreByCall old.address i (member_in s) own → Done
    call-at (Apart s) at by = none-by own by p h
    call-at (Connected m) at by =
        one-by i m by.0 hands by.2 at (subst (λ (l : List (Step S)). Plays meaning group l old new) by.1 p) (subst (λ (l : List (Step S)). Happens l old failure) by.1 h)
    call-at Ended at by = none-by own by p h

    pub call-does : AreByCall old.address i (member_in old.stage) own → Done
    call-does by = call-at old.stage refl by

    -- ---- a connect

    two-by : (s : S) (m : MemberModel S) (x : Step S) → IsStepBy old.address i x → old.stage ≡ Apart s → Plays meaning group (Start old.address m ∷ x ∷ []) old new
        → Happens (Start old.address m ∷ x ∷ []) old failure → Done
    two-by s m x by at q g =
        does-one i x hands by (ap (λ (t : Stage S). is_over t) at) (λ n. m) (λ n fresh. q.runs.0)
        (λ n. subst (λ (o : Option (MemberModel S)). StepsSo meaning group o x) (sym (ap (λ (t : Stage S). running_in m t) at)) q.runs.1.0)
        q.left (q.apart ∙ ap (λ (t : Stage S). is_apart_after t (Start old.address m ∷ x ∷ [])) at) q.puts q.tells g q.address q.ready

    connect-by : (s : S) (b : Bool) → old.stage ≡ Apart s
        → MatchBool b ((m : MemberModel S) × (x : Step S) × (own ≡ Start old.address m ∷ x ∷ []) × IsStepBy old.address i x) (own ≡ []) → Done
    connect-by s true at by =
        two-by s by.0 by.1 by.3 at (subst (λ (l : List (Step S)). Plays meaning group l old new) by.2 p) (subst (λ (l : List (Step S)). Happens l old failure) by.2 h)
    connect-by s false at by = none-by own by p h

    connect-at : (s : Stage S) → old.stage ≡ s → AreByConnect old.address i group s own → Done
    connect-at (Apart s) at by = connect-by s (is_group_name group) at by
    connect-at (Connected m) at by = none-by own by p h
    connect-at Ended at by = none-by own by p h

    pub connect-does : AreByConnect old.address i group old.stage own → Done
    connect-does by = connect-at old.stage refl by

    again-by : (b : Bool) → MatchBool b (AreByCall old.address i (member_in old.stage) own) (AreByConnect old.address i group old.stage own) → Done
    again-by true by = call-does by
    again-by false by = connect-does by

    pub again-does : AreByReconnect old.address i group old.stage own → Done
    again-does by = again-by (is_in group old.stage) by
