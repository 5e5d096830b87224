-- The order of what stands beside a run's events, and its packets.
use Rattle.std.proofs.Common.{◌≡◌, ◌≤◌, ℕ, ◌+◌, Bool, true, false, cond, nat_eq, List, [], ◌∷◌, ◌++◌, length, length-append, drop, slice_get, Option, Some, None, option_map, option_and_then, filter_map, refl, sym, ap, ◌∙◌, subst, arith, append-nil}
use Rattle.std.proofs.Math.Seq.{drop-append_seam}
use Rattle.std.proofs.lemmas.Option.{none-some, same_Some}
use Rattle.std.proofs.lemmas.List.Elements.{filter_map-append}
use Rattle.std.specs.List.{cons_option, range_with_len}
use Rattle.address.specs.declared.refusal.Refusal.{Refusal}
use Rattle.address.specs.declared.refusal.Refusal.TheVariants.{Memory}
use Rattle.address.specs.Refusals.{number_of}
use Rattle.state_transfer.specs.Meanings.{Meaning}
use Rattle.address.specs.Ids.{Address}
use Rattle.trace_props.specs.declared.event.Event.{Event}
use Rattle.world_model.specs.declared.WorldEvent.{WorldEvent}
use Rattle.world_model.specs.declared.Target.{Target}
use Rattle.world_model.specs.declared.Target.TheVariants.{Member, Packet}
use Rattle.world_model.specs.declared.Answer.{Answer}
use Rattle.world_model.specs.declared.Answer.TheVariants.{Done, Sent, Refused as IsRefused}
use Rattle.world_model.specs.declared.Reply.{Reply}
use Rattle.world_model.specs.Histories.{History, after, target_of}
use Rattle.world_model.specs.Packets.{destination_of, packet_numbered, recipient}
use Rattle.world.specs.declared.node_state.NodeState.{NodeState}
use Rattle.world.specs.Turns.{About, about, Carries, Delivers, HandsOver}
use Rattle.world.specs.Worlds.{WorldModel}
use Rattle.trace_drawing.specs.declared.aside.Aside.{Aside}
use Rattle.trace_drawing.specs.declared.aside.AsideKind.TheVariants.{HandedOver}
use Rattle.trace_drawing.specs.Promises.{AreInOrder}
use Rattle.commands.specs.Asides.{aside_at, refused_by, refused_at, refused_of, site_of, handed_over, put_out_number, put_out_behind, put_out_at, refused_between, put_out_between, asides_between, line_at, HasAsides}
use Rattle.commands.specs.Asides.HasAsides.{Nothing, Next}
use Rattle.commands.proofs.StateLinesFollow.{range-split}

-- LISTS IN ORDER

-- none is behind a place
abbrev AreUpTo : ℕ → List Aside → Type 0
AreUpTo most [] = Unit {0}
AreUpTo most (r ∷ rs) = (r.place ≤ most) × AreUpTo most rs

up-to-more : (n m : ℕ) (xs : List Aside) → n ≤ m → AreUpTo n xs → AreUpTo m xs
up-to-more n m [] less all = tt
up-to-more n m (x ∷ xs) less all = (omega (arith, all.0, less), up-to-more n m xs less all.1)

up-to-append : (n : ℕ) (xs ys : List Aside) → AreUpTo n xs → AreUpTo n ys → AreUpTo n (xs ++ ys)
up-to-append n [] ys a b = b
up-to-append n (x ∷ xs) ys a b = (a.0, up-to-append n xs ys a.1 b)

order-before : (n front : ℕ) (xs : List Aside) → front ≤ n → AreInOrder n xs → AreInOrder front xs
order-before n front [] less all = tt
order-before n front (x ∷ xs) less all = (omega (arith, all.0, less), all.1)

order-append : (n front : ℕ) (xs ys : List Aside) → front ≤ n → AreInOrder front xs → AreUpTo n xs → AreInOrder n ys → AreInOrder front (xs ++ ys)
order-append n front [] ys less a up b = order-before n front ys less b
order-append n front (x ∷ xs) ys less a up b = (a.0, order-append n x.place xs ys up.0 a.1 up.1 b)

-- one more in front, at this place, if there is one
order-cons : (p : ℕ) (o : Option Aside) (ys : List Aside) → ((a : Aside) → o ≡ Some a → a.place ≡ p) → AreInOrder p ys → AreInOrder p (cons_option o ys)
order-cons p None ys at all = all
order-cons p (Some a) ys at all =
    let here : a.place ≡ p = at a refl in
    (omega (arith, here), subst (λ n. AreInOrder n ys) (sym here) all)

up-to-cons : (p n : ℕ) (o : Option Aside) (ys : List Aside) → p ≤ n → ((a : Aside) → o ≡ Some a → a.place ≡ p) → AreUpTo n ys → AreUpTo n (cons_option o ys)
up-to-cons p n None ys less at all = all
up-to-cons p n (Some a) ys less at all = let here : a.place ≡ p = at a refl in (omega (arith, here, less), all)

-- WHERE ASIDES OF ONE STEP STAND

refused_by-place : (line place : ℕ) (r : Refusal) (t : Target) (a : Aside) → refused_by line place r t ≡ Some a → a.place ≡ place
refused_by-place line place r (Member node) a is = sym (ap (λ (x : Aside). x.place) (same_Some _ a is))
refused_by-place line place r (Packet k) a is = absurd (none-some a is)

refused-cond : (b : Bool) (line place : ℕ) (r : Refusal) (t : Target) (a : Aside) → cond b None (refused_by line place r t) ≡ Some a → a.place ≡ place
refused-cond true line place r t a is = absurd (none-some a is)
refused-cond false line place r t a is = refused_by-place line place r t a is

refused_at-place : (line place : ℕ) (t : Target) (answer : Answer) (a : Aside) → refused_at line place t answer ≡ Some a → a.place ≡ place
refused_at-place line place t Done a is = absurd (none-some a is)
refused_at-place line place t (Sent n) a is = absurd (none-some a is)
refused_at-place line place t (IsRefused r) a is = refused-cond (nat_eq (number_of r) (number_of Memory)) line place r t a is

slice_last : {X : Type 0} (xs : List X) (x : X) → slice_get (xs ++ x ∷ []) (length xs) ≡ Some x
slice_last [] x = refl
slice_last (y ∷ ys) x = slice_last ys x

-- what is refused in a step stands at its end
refused-place : (line : ℕ) (e : WorldEvent) (h : History) (answer : Answer) (packets : List (List ℕ)) (stretch : List Event) (a : Aside)
    → refused_between line e h (after h e answer packets stretch) ≡ Some a → a.place ≡ length (h.trace ++ stretch)
refused-place line e h answer packets stretch a is =
    refused_at-place line (length (h.trace ++ stretch)) (target_of e) answer a
    (sym (ap (option_and_then (refused_of line e)) (slice_last h.replies (record { answer = answer; place = length (h.trace ++ stretch) }))) ∙ is)

handed-at : (k : ℕ) (h : History) (o : Option Address) (a : Aside) → option_map (λ p. aside_at (length h.trace) p.node (HandedOver k)) o ≡ Some a → a.place ≡ length h.trace
handed-at k h None a is = absurd (none-some a is)
handed-at k h (Some p) a is = sym (ap (λ (x : Aside). x.place) (same_Some _ a is))

-- what is handed over in a step stands at its beginning
handed-place : (t : Target) (h : History) (a : Aside) → handed_over t h ≡ Some a → a.place ≡ length h.trace
handed-place (Member node) h a is = absurd (none-some a is)
handed-place (Packet k) h a is = handed-at k h (recipient k h) a is

behind-order : (place node past : ℕ) (packets : List (List ℕ)) → AreInOrder place (put_out_behind place node past packets)
behind-order place node past [] = tt
behind-order place node past (x ∷ xs) = (omega arith, behind-order place node (past + 1) xs)

behind-up-to : (place node past : ℕ) (packets : List (List ℕ)) → AreUpTo place (put_out_behind place node past packets)
behind-up-to place node past [] = tt
behind-up-to place node past (x ∷ xs) = (omega arith, behind-up-to place node (past + 1) xs)

at-order : (place : ℕ) (site : Option ℕ) (past : ℕ) (packets : List (List ℕ)) → AreInOrder place (put_out_at place site past packets)
at-order place None past packets = tt
at-order place (Some node) past packets = behind-order place node past packets

at-up-to : (place : ℕ) (site : Option ℕ) (past : ℕ) (packets : List (List ℕ)) → AreUpTo place (put_out_at place site past packets)
at-up-to place None past packets = tt
at-up-to place (Some node) past packets = behind-up-to place node past packets

-- what stands beside a step's events stands from its beginning to its end, in order
abbrev IsBetween : ℕ → ℕ → List Aside → Type 0
IsBetween from to asides = AreInOrder from asides × AreUpTo to asides

step-between : (packets : Bool) (line : ℕ) (e : WorldEvent) (h : History) (answer : Answer) (out : List (List ℕ)) (stretch : List Event)
    → IsBetween (length h.trace) (length (h.trace ++ stretch)) (asides_between packets line e h (after h e answer out stretch))
step-between true line e h answer out stretch =
    let end = length (h.trace ++ stretch) in
    let grows : length h.trace ≤ end = omega (arith, length-append h.trace stretch) in
    let puts = put_out_between e h (after h e answer out stretch) in
    let refused = refused-place line e h answer out stretch in
    let handed = handed-place (target_of e) h in (
      order-cons (length h.trace) (handed_over (target_of e) h) _ handed
          (order-before end (length h.trace) _ grows (order-cons end (refused_between line e h (after h e answer out stretch)) puts refused (at-order end (site_of (target_of e) h.pool) (length h.pool) _))),
      up-to-cons (length h.trace) end (handed_over (target_of e) h) _ grows handed
          (up-to-cons end end (refused_between line e h (after h e answer out stretch)) puts (omega arith) refused (at-up-to end (site_of (target_of e) h.pool) (length h.pool) _)),
    )
step-between false line e h answer out stretch =
    let end = length (h.trace ++ stretch) in
    let grows : length h.trace ≤ end = omega (arith, length-append h.trace stretch) in
    let refused = refused-place line e h answer out stretch in (
      order-before end (length h.trace) _ grows (order-cons end (refused_between line e h (after h e answer out stretch)) [] refused tt),
      up-to-cons end end (refused_between line e h (after h e answer out stretch)) [] (omega arith) refused tt,
    )

module _ {S : Type 0} (meaning : Meaning S) where
  run-between : (packets : Bool) (lines : List ℕ) (events : List WorldEvent) (w : WorldModel S) (asides : List Aside) → HasAsides meaning packets lines events w asides → IsBetween 0 (length w.history.trace) asides
  run-between packets lines _ _ _ Nothing = (tt, tt)
  run-between packets lines _ _ _ (Next events mid asides e new so step) =
      let before = run-between packets lines events mid asides so in
      let h = mid.history in
      let line = line_at lines (length events) in
      let here = subst (λ (n : History). IsBetween (length h.trace) (length n.trace) (asides_between packets line e h n)) (sym step.goes_on) (step-between packets line e h step.answer step.packets step.stretch) in
      let grows : length h.trace ≤ length new.history.trace = omega (arith, length-append h.trace step.stretch, ap (λ (n : History). length n.trace) step.goes_on) in (
        order-append (length h.trace) 0 asides (asides_between packets line e h new.history) (omega arith) before.0 before.1 here.0,
        up-to-append (length new.history.trace) asides (asides_between packets line e h new.history) (up-to-more (length h.trace) (length new.history.trace) asides grows before.1) here.1,
      )

  -- what stands beside a run's events stands in the order of its places
  pub run-order : (packets : Bool) (lines : List ℕ) (events : List WorldEvent) (w : WorldModel S) (asides : List Aside) → HasAsides meaning packets lines events w asides → AreInOrder 0 asides
  run-order packets lines events w asides so = (run-between packets lines events w asides so).0

-- PACKETS

-- one more in front that is no packet put out, if there is one
number-cons : (o : Option Aside) (ys : List Aside) → ((a : Aside) → o ≡ Some a → put_out_number a ≡ None) → filter_map put_out_number (cons_option o ys) ≡ filter_map put_out_number ys
number-cons None ys none = refl
number-cons (Some a) ys none = ap (λ n. cons_option n (filter_map put_out_number ys)) (none a refl)

refused_by-number : (line place : ℕ) (r : Refusal) (t : Target) (a : Aside) → refused_by line place r t ≡ Some a → put_out_number a ≡ None
refused_by-number line place r (Member node) a is = sym (ap put_out_number (same_Some _ a is))
refused_by-number line place r (Packet k) a is = absurd (none-some a is)

number-cond : (b : Bool) (line place : ℕ) (r : Refusal) (t : Target) (a : Aside) → cond b None (refused_by line place r t) ≡ Some a → put_out_number a ≡ None
number-cond true line place r t a is = absurd (none-some a is)
number-cond false line place r t a is = refused_by-number line place r t a is

refused_at-number : (line place : ℕ) (t : Target) (answer : Answer) (a : Aside) → refused_at line place t answer ≡ Some a → put_out_number a ≡ None
refused_at-number line place t Done a is = absurd (none-some a is)
refused_at-number line place t (Sent n) a is = absurd (none-some a is)
refused_at-number line place t (IsRefused r) a is = number-cond (nat_eq (number_of r) (number_of Memory)) line place r t a is

between-number : (line : ℕ) (e : WorldEvent) (o : Option Reply) (a : Aside) → option_and_then (refused_of line e) o ≡ Some a → put_out_number a ≡ None
between-number line e None a is = absurd (none-some a is)
between-number line e (Some r) a is = refused_at-number line r.place (target_of e) r.answer a is

handed-none : (k : ℕ) (h : History) (o : Option Address) (a : Aside) → option_map (λ p. aside_at (length h.trace) p.node (HandedOver k)) o ≡ Some a → put_out_number a ≡ None
handed-none k h None a is = absurd (none-some a is)
handed-none k h (Some p) a is = sym (ap put_out_number (same_Some _ a is))

handed-number : (t : Target) (h : History) (a : Aside) → handed_over t h ≡ Some a → put_out_number a ≡ None
handed-number (Member node) h a is = absurd (none-some a is)
handed-number (Packet k) h a is = handed-none k h (recipient k h) a is

behind-numbers : (place node past : ℕ) (packets : List (List ℕ)) → filter_map put_out_number (put_out_behind place node past packets) ≡ range_with_len (past + 1) (length packets)
behind-numbers place node past [] = refl
behind-numbers place node past (x ∷ xs) = ap (λ (ns : List ℕ). (past + 1) ∷ ns) (behind-numbers place node (past + 1) xs)

some-none : {X : Type 0} (x : X) → Some x ≡ None → ⊥
some-none x e = none-some x (sym e)

-- where no node is known, nothing is put out
unsited-to : {S : Type 0} (meaning : Meaning S) (bytes : List ℕ) (o : Option Address) (answer : Answer) (old new : About (ℕ → NodeState S)) → option_map (λ p. p.node) o ≡ None → HandsOver meaning bytes o answer old new → new.pool ≡ old.pool
unsited-to meaning bytes None answer old new none does = does.puts
unsited-to meaning bytes (Some p) answer old new none does = absurd (some-none p.node none)

unsited-of : {S : Type 0} (meaning : Meaning S) (o : Option (List ℕ)) (answer : Answer) (old new : About (ℕ → NodeState S)) → option_map (λ p. p.node) (option_and_then destination_of o) ≡ None → Delivers meaning o answer old new → new.pool ≡ old.pool
unsited-of meaning None answer old new none does = does.puts
unsited-of meaning (Some bytes) answer old new none does = unsited-to meaning bytes (destination_of bytes) answer old new none does

unsited : {S : Type 0} (meaning : Meaning S) (t : Target) (e : WorldEvent) (answer : Answer) (old new : About (ℕ → NodeState S)) → site_of t old.pool ≡ None → Carries meaning t e answer old new → new.pool ≡ old.pool
unsited meaning (Member node) e answer old new none does = absurd (some-none node none)
unsited meaning (Packet k) e answer old new none does = unsited-of meaning (packet_numbered k old.pool) answer old new none does

-- the numbers of the packets that are put out in a step
sited-numbers : (place : ℕ) (site : Option ℕ) (pool new out : List (List ℕ)) → new ≡ pool ++ out → (site ≡ None → new ≡ pool)
    → range_with_len 1 (length pool) ++ filter_map put_out_number (put_out_at place site (length pool) (drop (length pool) new)) ≡ range_with_len 1 (length new)
sited-numbers place None pool new out more none = append-nil (range_with_len 1 (length pool)) ∙ ap (λ (p : List (List ℕ)). range_with_len 1 (length p)) (sym (none refl))
sited-numbers place (Some node) pool new out more none =
    let behind : 1 + length pool ≡ length pool + 1 = omega arith in
    ap (λ (p : List (List ℕ)). range_with_len 1 (length pool) ++ filter_map put_out_number (put_out_behind place node (length pool) p)) (ap (drop (length pool)) more ∙ drop-append_seam pool out)
    ∙ ap (λ ns. range_with_len 1 (length pool) ++ ns) (behind-numbers place node (length pool) out ∙ ap (λ n. range_with_len n (length out)) (sym behind))
    ∙ sym (range-split 1 (length pool) (length out)) ∙ ap (range_with_len 1) (sym (length-append pool out) ∙ ap length (sym more))

module _ {S : Type 0} (meaning : Meaning S) where
  -- each packet of a run is put out once
  pub run-numbers : (lines : List ℕ) (events : List WorldEvent) (w : WorldModel S) (asides : List Aside) → HasAsides meaning true lines events w asides → filter_map put_out_number asides ≡ range_with_len 1 (length w.history.pool)
  run-numbers lines _ _ _ Nothing = refl
  run-numbers lines _ _ _ (Next events mid asides e new so step) =
      let h = mid.history in
      let line = line_at lines (length events) in
      let puts = put_out_between e h new.history in
      filter_map-append put_out_number asides (asides_between true line e h new.history)
      ∙ ap (λ ns. filter_map put_out_number asides ++ ns)
      (number-cons (handed_over (target_of e) h) (cons_option (refused_between line e h new.history) puts) (handed-number (target_of e) h)
      ∙ number-cons (refused_between line e h new.history) puts (between-number line e (slice_get new.history.replies (length h.replies))))
      ∙ ap (λ ns. ns ++ filter_map put_out_number puts) (run-numbers lines events mid asides so)
      ∙ sited-numbers (length new.history.trace) (site_of (target_of e) h.pool) h.pool new.history.pool step.packets (ap (λ (n : History). n.pool) step.goes_on)
      (λ none. unsited meaning (target_of e) e step.answer (about mid.node_states h.trace h.pool) (about new.node_states new.history.trace new.history.pool) none step.does)
