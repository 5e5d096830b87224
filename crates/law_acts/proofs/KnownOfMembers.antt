-- What the invariant says of what a member knows that runs.
use Rattle.std.proofs.Common.{◌≡◌, ℕ, suc, ◌+◌, ◌≤◌, Bool, true, false, cond, ◌&&◌, Option, Some, None, List, [], ◌∷◌, length, take, drop, fold, filter_map, sym, refl, ap, ◌∙◌, subst, arith}
use Rattle.std.specs.Option.{option_map, option_map_or}
use Rattle.std.specs.List.{cons_option}
use Rattle.std.proofs.lemmas.Option.{none-some, same_Some}
use Rattle.std.proofs.lemmas.List.{length-map, take-append-le, take-append-drop}
use Rattle.std.proofs.lemmas.List.Elements.{filter_map-append}
use Rattle.address.specs.Ids.{Address, ViewId, same_address, same_view_id}
use Rattle.view.specs.Members.{View, stands_in}
use Rattle.state_transfer.specs.Meanings.{Meaning}
use Rattle.trace_props.specs.declared.event.Event.{Event}
use Rattle.trace_props.specs.declared.event.Event.TheVariants.{Started, Sent, Delivered, Blocked, Installed, Left, Crashed}
use Rattle.trace_props.specs.declared.event.Install.{Install}
use Rattle.trace_props.specs.declared.event.Message.{Message}
use Rattle.trace_props.specs.Observed.{delivered_message, delivered_in, entry_of}
use Rattle.trace_props.specs.Places.{IsBeginningOf}
use Rattle.trace_props.specs.Synchrony.{KeepsRules}
use Rattle.trace_props.specs.Rules.{HasOneOrder}
use Rattle.trace_props.proofs.RulesAlongLists.{EachPlace-whole}
use Rattle.law_acts.specs.Words.{entry_for, list_of, members_of, Phase, Before, Open, Past, Tally, tally_of, tally_after, no_tally, counted, open_count}
use Rattle.law_acts.specs.Packets.{AllHave}
use Rattle.law_acts.specs.Known.{AllDelivered, MembersKnow, StableStays}

-- ---- counts

-- what a member delivered in a view before it was blocked it delivered there
counted-at : (f : Phase) (n k : ℕ) → counted f n + k ≤ n + suc k
counted-at Before n k = omega arith
counted-at Open n k = omega arith
counted-at Past n k = omega arith

abbrev Fits : Address → ViewId → List Event → Type 0
Fits p v t = (s : Tally) → (fold (tally_after p v) s t).count ≤ s.count + length (filter_map (delivered_message p v) t)

fits-hit : (p : Address) (v : ViewId) (t : List Event) (f : Phase) (n : ℕ) → Fits p v t
    → (fold (tally_after p v) (record { phase = f; count = counted f n }) t).count ≤ n + suc (length (filter_map (delivered_message p v) t))
fits-hit p v t f n fits = omega (arith, fits (record { phase = f; count = counted f n }), counted-at f n (length (filter_map (delivered_message p v) t)))

-- an event that counts nothing
fits-same : (p : Address) (v : ViewId) (t : List Event) (s z : Tally) → z.count ≡ s.count → Fits p v t → (fold (tally_after p v) z t).count ≤ s.count + length (filter_map (delivered_message p v) t)
fits-same p v t s z same fits = subst (λ n. (fold (tally_after p v) z t).count ≤ n + length (filter_map (delivered_message p v) t)) same (fits z)

fits-either : (p : Address) (v : ViewId) (t : List Event) (s : Tally) (m : Message) (b : Bool) → Fits p v t
    → (fold (tally_after p v) (cond {A = Tally} b (record { phase = s.phase; count = counted s.phase s.count }) s) t).count
    ≤ s.count + length (cons_option (cond b (Some m) None) (filter_map (delivered_message p v) t))
fits-either p v t s m true all = fits-hit p v t s.phase s.count all
fits-either p v t s m false all = all s

count-either : (b : Bool) (f : Phase) (s : Tally) → (cond {A = Tally} b (record { phase = f; count = s.count }) s).count ≡ s.count
count-either true f s = refl
count-either false f s = refl

fits : (p : Address) (v : ViewId) (t : List Event) → Fits p v t
fits p v [] s = omega arith
fits p v (Started q ∷ t) s = fits p v t s
fits p v (Sent m ∷ t) s = fits p v t s
fits p v (Delivered d ∷ t) s = fits-either p v t s d.message (same_address d.member p && same_view_id d.view v) (fits p v t)
fits p v (Blocked q ∷ t) s = fits-same p v t s (tally_after p v s (Blocked q)) (count-either (same_address q p) _ s) (fits p v t)
fits p v (Installed i ∷ t) s = fits-same p v t s (tally_after p v s (Installed i)) (count-either (same_address i.member p && same_view_id i.view.id v) _ s) (fits p v t)
fits p v (Left q ∷ t) s = fits p v t s
fits p v (Crashed q ∷ t) s = fits p v t s

pub open-delivered : (p : Address) (v : ViewId) (t : List Event) → open_count p v t ≤ length (delivered_in p v t)
unfolding tally_of
open-delivered p v t =
    let few : (fold (tally_after p v) no_tally t).count ≤ 0 + length (delivered_in p v t) = fits p v t no_tally in
    omega (arith, few)

many : (p : Address) (v : ViewId) (t : List Event) → length (list_of p v t) ≡ length (delivered_in p v t)
unfolding list_of
many p v t = length-map (delivered_in p v t) entry_for

-- ---- beginnings

-- the first so many of a beginning are those of the whole
first-of : {X : Type 0} (n : ℕ) (xs ys : List X) → IsBeginningOf xs ys → n ≤ length xs → take n xs ≡ take n ys
first-of {X} n xs ys b le =
    let within : n ≤ length (take (length xs) ys) = subst (λ (l : List X). n ≤ length l) b le in
    ap (take n) b ∙ sym (take-append-le n (take (length xs) ys) (drop (length xs) ys) within) ∙ ap (take n) (take-append-drop (length xs) ys)

members-by : (o : Option Install) (v : View) → option_map (λ e. e.view) o ≡ Some v → option_map_or (λ i. i.view.members) o [] ≡ v.members
members-by None v e = absurd (none-some v e)
members-by (Some i) v e = ap (λ (w : View). w.members) (same_Some i.view v e)

-- where each delivered so many before it was blocked, each has delivered the first so many of the order
stable-is : (t : List Event) (v : View) (n : ℕ) → HasOneOrder t → members_of v.id t ≡ v.members → AllHave t v.id n 0 → AllDelivered t v n
stable-is t v n order same all q s =
    let opened : n ≤ open_count q v.id t + 0 = all q (ap (stands_in q) same ∙ s) in
    let le : n ≤ length (delivered_in q v.id t) = omega (arith, opened, open-delivered q v.id t) in
    (le, first-of n (delivered_in q v.id t) (delivered_in v.id.creator v.id t) (order q v.id) le)

pub stable-stays : StableStays
stable-stays t more v n all q s =
    let now = all q s in
    ap (take n) (filter_map-append (delivered_message q v.id) t more) ∙ take-append-le n (delivered_in q v.id t) (delivered_in q v.id more) now.0 ∙ now.1

-- ---- what a member knows

pub members-know : {S : Type 0} (meaning : Meaning S) → MembersKnow meaning
members-know meaning s p c kept runs =
    let f = kept.agreed.members p c runs in
    let whole = EachPlace-whole (KeepsRules meaning) s.history.trace kept.agreed.trace.synchronous in
    record {
      state = f.state.now;
      current = f.standing.current;
      installed = λ v e. (f.view v e).inside.own;
      blocked = f.standing.block;
      delivered = λ v e. sym (many p v.id s.history.trace) ∙ (f.view v e).counts.delivered_count;
      stable = λ v e. let w = f.view v e in
          stable-is s.history.trace v c.view_state.stable whole.ordered.order (members-by (entry_of v.id.creator v.id s.history.trace) v w.inside.first) w.window.all_have;
    }
