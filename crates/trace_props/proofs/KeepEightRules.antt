-- All eight rules, one event further: they go on, or break first there.
use Rattle.std.proofs.Common.{◌≡◌, ◌↔◌, ℕ, ◌+◌, ◌<◌, ◌≤◌, List, [], ◌∷◌, ◌++◌, length, take, Option, Some, None, slice_get, sym, refl, ap, ◌∙◌, subst, take-take, take_all, MatchOption, add-one, arith}
use Rattle.std.proofs.lemmas.Option.{none-some, slice_get_within}
use Rattle.state_transfer.specs.Meanings.{Meaning}
use Rattle.trace_props.specs.declared.event.Event.{Event}
use Rattle.trace_props.specs.declared.verdict.Rule.{Rule}
use Rattle.trace_props.specs.declared.verdict.Rule.TheVariants.{WellPlaced, RisingViews, SoundMessages, OneOrder, SameNext, Together, HandedBack, StateOfEntry}
use Rattle.trace_props.specs.declared.verdict.Verdict.{Verdict}
use Rattle.trace_props.specs.declared.verdict.Verdict.TheVariants.{Holds, Breaks}
use Rattle.trace_props.specs.Rules.{MayStand, GivesBack}
use Rattle.trace_props.specs.State.{EntersAlike}
use Rattle.trace_props.specs.Synchrony.{KeepsRules, IsVirtuallySynchronous}
use Rattle.trace_props.specs.Verdicts.{KeepsRule, rules_before, KeepsEach, BreaksFirst, IsVerdict, MayEach, MayRule, BreaksNext, GoesOn}
use Rattle.trace_props.proofs.RulesAlongLists.{EachEvent-nil, EachEvent-push, EachPlace-nil, EachPlace-push, EachPlace-whole, EachPlace-before, take-next}
use Rattle.trace_props.proofs.KeepFourRules.{views-push, messages-push, order-push, well_ordered-none}
use Rattle.trace_props.proofs.FourRulesNeed.{placed-needed, views-needed, messages-needed, order-needed}
use Rattle.trace_props.proofs.RuleOfSameNext.{meets-push, meets-needed}
use Rattle.trace_props.proofs.RuleOfTogether.{knows-push, knows-needed}
use Rattle.trace_props.proofs.RuleOfHandedBack.{hands-push, hands-needed}
use Rattle.trace_props.proofs.RuleOfEntry.{enters-push, enters-needed}

module _ {S : Type 0} (meaning : Meaning S) where
  abbrev Keeps : List Event → Type 0
  Keeps t = KeepsRules meaning t

  -- THE RULES BEFORE A RULE

  before-2 : (t : List Event) (h : Event) → Keeps t → MayEach (rules_before RisingViews) t h → KeepsEach meaning (rules_before RisingViews) (t ++ h ∷ [])
  before-2 t h r m = (EachEvent-push MayStand t h r.ordered.placed m.0, tt)

  before-3 : (t : List Event) (h : Event) → Keeps t → MayEach (rules_before SoundMessages) t h → KeepsEach meaning (rules_before SoundMessages) (t ++ h ∷ [])
  before-3 t h r m = (views-push t h r.ordered.views m.0, before-2 t h r m.1)

  before-4 : (t : List Event) (h : Event) → Keeps t → MayEach (rules_before OneOrder) t h → KeepsEach meaning (rules_before OneOrder) (t ++ h ∷ [])
  before-4 t h r m = (messages-push t h r.ordered.messages m.0, before-3 t h r m.1)

  before-5 : (t : List Event) (h : Event) → Keeps t → MayEach (rules_before SameNext) t h → KeepsEach meaning (rules_before SameNext) (t ++ h ∷ [])
  before-5 t h r m = (order-push t h r.ordered.order m.0, before-4 t h r m.1)

  before-6 : (t : List Event) (h : Event) → Keeps t → MayEach (rules_before Together) t h → KeepsEach meaning (rules_before Together) (t ++ h ∷ [])
  before-6 t h r m = (meets-push t h r.ordered.views r.ordered.order m.1.1.1.1.0 r.same_next m.0, before-5 t h r m.1)

  before-7 : (t : List Event) (h : Event) → Keeps t → MayEach (rules_before HandedBack) t h → KeepsEach meaning (rules_before HandedBack) (t ++ h ∷ [])
  before-7 t h r m =
      let lesser = before-6 t h r m.1 in
      (knows-push t h lesser.1.1.1.0 r.together m.0, lesser)

  before-8 : (t : List Event) (h : Event) → Keeps t → MayEach (rules_before StateOfEntry) t h → KeepsEach meaning (rules_before StateOfEntry) (t ++ h ∷ [])
  before-8 t h r m = (hands-push t h r.ordered.messages r.handed_back m.0, before-7 t h r m.1)

  -- the rules before a rule go one event further where their conditions hold
  lesser-kept : (rule : Rule) (t : List Event) (h : Event) → Keeps t → MayEach (rules_before rule) t h → KeepsEach meaning (rules_before rule) (t ++ h ∷ [])
  lesser-kept WellPlaced t h r m = tt
  lesser-kept RisingViews t h r m = before-2 t h r m
  lesser-kept SoundMessages t h r m = before-3 t h r m
  lesser-kept OneOrder t h r m = before-4 t h r m
  lesser-kept SameNext t h r m = before-5 t h r m
  lesser-kept Together t h r m = before-6 t h r m
  lesser-kept HandedBack t h r m = before-7 t h r m
  lesser-kept StateOfEntry t h r m = before-8 t h r m

  -- a rule that holds one event further gives its condition
  pub rule-needed : (rule : Rule) (t : List Event) (h : Event) → KeepsRule meaning rule (t ++ h ∷ []) → MayRule meaning rule t h
  rule-needed WellPlaced t h r = placed-needed t h r
  rule-needed RisingViews t h r = views-needed t h r
  rule-needed SoundMessages t h r = messages-needed t h r
  rule-needed OneOrder t h r = order-needed t h r
  rule-needed SameNext t h r = meets-needed t h r
  rule-needed Together t h r = knows-needed t h r
  rule-needed HandedBack t h r = hands-needed t h r
  rule-needed StateOfEntry t h r = enters-needed meaning t h r

  -- ALL RULES

  -- all rules go one event further where all conditions hold
  pub keeps-next : (t : List Event) (h : Event) → Keeps t → GoesOn meaning t h → Keeps (t ++ h ∷ [])
  keeps-next t h r m =
      let seven = before-8 t h r m.seven in
      record {
        ordered = record { placed = seven.1.1.1.1.1.1.0; views = seven.1.1.1.1.1.0; messages = seven.1.1.1.1.0; order = seven.1.1.1.0 };
        same_next = seven.1.1.0;
        together = seven.1.0;
        handed_back = seven.0;
        state = enters-push meaning t h r.state m.enters;
      }

  -- and only there
  pub keeps-needed : (t : List Event) (h : Event) → Keeps (t ++ h ∷ []) → GoesOn meaning t h
  keeps-needed t h r = record {
    seven = (
      hands-needed t h r.handed_back,
      (
        knows-needed t h r.together,
        (
          meets-needed t h r.same_next,
          (
            order-needed t h r.ordered.order,
            (messages-needed t h r.ordered.messages, (views-needed t h r.ordered.views, (placed-needed t h r.ordered.placed, tt))),
          ),
        ),
      ),
    );
    enters = enters-needed meaning t h r.state;
  }

  -- where nothing happened all rules hold
  keeps-none : Keeps []
  keeps-none = record {
    ordered = well_ordered-none;
    same_next = λ j k e f a. absurd (none-some _ a);
    together = record {
      within_view = λ k e a. absurd (none-some _ a);
      within_previous = λ j k e f a. absurd (none-some _ a);
      exact = λ j k e f a. absurd (none-some _ a);
    };
    handed_back = EachEvent-nil GivesBack;
    state = EachEvent-nil (EntersAlike meaning);
  }

  -- where nothing happened the trace is virtually synchronous
  pub synchronous-nil : IsVirtuallySynchronous meaning []
  synchronous-nil = EachPlace-nil Keeps keeps-none

  -- a trace stays virtually synchronous where all conditions hold
  pub synchronous-push : (t : List Event) (h : Event) → IsVirtuallySynchronous meaning t → GoesOn meaning t h → IsVirtuallySynchronous meaning (t ++ h ∷ [])
  synchronous-push t h r m = EachPlace-push Keeps t h r (keeps-next t h (EachPlace-whole Keeps t r) m)

  -- it is so one event further exactly where it was so and all conditions hold
  pub synchronous-exactly : (t : List Event) (h : Event) → IsVirtuallySynchronous meaning (t ++ h ∷ []) ↔ (IsVirtuallySynchronous meaning t × GoesOn meaning t h)
  synchronous-exactly t h = (
    (λ r. (EachPlace-before Keeps t h r, keeps-needed t h (EachPlace-whole Keeps (t ++ h ∷ []) r))),
    (λ r. synchronous-push t h r.0 r.1),
  )

  -- THE FIRST BREAK

  -- one element further in a list
  one-further : {X : Type 0} → (t : List X) (i : ℕ) (x : X) → slice_get t i ≡ Some x → take (i + 1) t ≡ take i t ++ x ∷ []
  one-further t i x e = ap (λ n. take n t) (add-one i) ∙ take-next i t x e

  -- one event further in a trace
  pub synchronous-next : (t : List Event) (i : ℕ) (h : Event) → slice_get t i ≡ Some h → IsVirtuallySynchronous meaning (take i t) → GoesOn meaning (take i t) h → IsVirtuallySynchronous meaning (take (i + 1) t)
  synchronous-next t i h e r m = subst (λ (s : List Event). IsVirtuallySynchronous meaning s) (sym (one-further t i h e)) (synchronous-push (take i t) h r m)

  -- an event whose condition fails breaks the rule first, at its place
  pub breaks-first : (t : List Event) (i : ℕ) (h : Event) (rule : Rule) → slice_get t i ≡ Some h → IsVirtuallySynchronous meaning (take i t) → BreaksNext meaning rule (take i t) h → BreaksFirst meaning t rule (i + 1)
  breaks-first t i h rule e r b =
      let within : i < length t = slice_get_within t i h e in
      record {
        within = omega arith;
        shorter = λ k l. subst Keeps (take-take k i t (omega arith)) (r k);
        lesser = subst (λ (s : List Event). KeepsEach meaning (rules_before rule) s) (sym (one-further t i h e)) (lesser-kept rule (take i t) h (EachPlace-whole Keeps (take i t) r) b.lesser);
        broken = λ x. b.broken (rule-needed rule (take i t) h (subst (λ (s : List Event). KeepsRule meaning rule s) (one-further t i h e) x));
      }

  -- all rules together
  keeps-all : (rule : Rule) (t : List Event) → Keeps t → KeepsRule meaning rule t
  keeps-all WellPlaced t r = r.ordered.placed
  keeps-all RisingViews t r = r.ordered.views
  keeps-all SoundMessages t r = r.ordered.messages
  keeps-all OneOrder t r = r.ordered.order
  keeps-all SameNext t r = r.same_next
  keeps-all Together t r = r.together
  keeps-all HandedBack t r = r.handed_back
  keeps-all StateOfEntry t r = r.state

  -- a trace that breaks a rule is not virtually synchronous
  pub broken-not : (t : List Event) (rule : Rule) (place : ℕ) → BreaksFirst meaning t rule place → IsVirtuallySynchronous meaning t → ⊥
  broken-not t rule place b r = b.broken (keeps-all rule (take place t) (r place))

  -- so a verdict is that all holds exactly where the trace is virtually synchronous
  pub verdict-exact : (t : List Event) (v : Verdict) → IsVerdict meaning t v → (v ≡ Holds) ↔ IsVirtuallySynchronous meaning t
  verdict-exact t Holds r = ((λ e. r), (λ x. refl))
  verdict-exact t (Breaks rule place) b = ((λ e. absurd (cc)), (λ x. absurd (broken-not t rule place b x)))

  -- WHAT A CHECKER'S STEP SAYS

  -- a rule that the step names breaks first
  pub step-broken : (t : List Event) (i : ℕ) (h : Event) (past : List Event) (o : Option Rule) (rule : Rule) (K : Type 0) → slice_get t i ≡ Some h → past ≡ take i t → IsVirtuallySynchronous meaning (take i t)
      → o ≡ Some rule → MatchOption o K (λ r. BreaksNext meaning r past h) → BreaksFirst meaning t rule (i + 1)
  step-broken t i h past o rule K e so_far r is m =
      breaks-first t i h rule e r
      (subst (λ (s : List Event). BreaksNext meaning rule s h) so_far (subst (λ (x : Option Rule). MatchOption x K (λ r. BreaksNext meaning r past h)) is m))

  -- where it names none, all goes on
  pub step-on : (past : List Event) (h : Event) (o : Option Rule) (K : Type 0) → o ≡ None → MatchOption o (GoesOn meaning past h × K) (λ r. BreaksNext meaning r past h) → GoesOn meaning past h × K
  step-on past h o K is m = subst (λ (x : Option Rule). MatchOption x (GoesOn meaning past h × K) (λ r. BreaksNext meaning r past h)) is m

  -- and the events so far are one more
  pub so_far-next : (t : List Event) (i : ℕ) (h : Event) (past next : List Event) → slice_get t i ≡ Some h → past ≡ take i t → next ≡ past ++ h ∷ [] → next ≡ take (i + 1) t
  so_far-next t i h past next e so_far is = is ∙ ap (λ s. s ++ h ∷ []) so_far ∙ sym (one-further t i h e)

  pub holds-next : (t : List Event) (i : ℕ) (h : Event) (past : List Event) → slice_get t i ≡ Some h → past ≡ take i t → IsVirtuallySynchronous meaning (take i t) → GoesOn meaning past h
      → IsVirtuallySynchronous meaning (take (i + 1) t)
  holds-next t i h past e so_far r m = synchronous-next t i h e r (subst (λ (s : List Event). GoesOn meaning s h) so_far m)

  pub known-next : (K : List Event → Type 0) (t : List Event) (i : ℕ) (h : Event) (past : List Event) → slice_get t i ≡ Some h → past ≡ take i t → K (past ++ h ∷ []) → K (take (i + 1) t)
  known-next K t i h past e so_far k = subst K (ap (λ s. s ++ h ∷ []) so_far ∙ sym (one-further t i h e)) k

  -- at the end all rules hold of the whole trace
  pub holds-all : (t : List Event) (i : ℕ) → length t ≤ i → IsVirtuallySynchronous meaning (take i t) → IsVirtuallySynchronous meaning t
  holds-all t i l r = subst (λ (s : List Event). IsVirtuallySynchronous meaning s) (take_all i t l) r
