-- The next proposal is above what was promised; and that of one who leads its view, to its candidates, is a view.
use Rattle.std.proofs.Common.{◌≡◌, ℕ, ◌+◌, ◌<◌, Bool, true, false, cond, max, Option, Some, None, List, refl, sym, ap, ◌∙◌, subst, arith, nat_lt}
use Rattle.std.specs.Prelude.{if◌then◌else◌}
use Rattle.std.specs.Option.{option_map, option_and_then}
use Rattle.std.proofs.lemmas.Bool.{and_parts}
use Rattle.std.proofs.lemmas.Bool.Decides.{nat_tests}
use Rattle.std.proofs.lemmas.Option.{none-some, same_Some}
use Rattle.address.specs.Ids.{Address, ViewId}
use Rattle.address.specs.declared.limits.TheConstants.{GREATEST_NUMBER}
use Rattle.view.specs.Members.{View, stands_in}
use Rattle.view.specs.View.{view_refusal}
use Rattle.suspicion.specs.Suspicion.{leads}
use Rattle.next_view.specs.ViewNotes.{NotesModel}
use Rattle.next_view.specs.Candidates.{candidates, next_counter}
use Rattle.next_view.proofs.LeadersStandFirst.{candidates-are-a-view}
use Rattle.trace_props.specs.Rules.{IsBelow}
use Rattle.law_acts.specs.Cores.{Core}
use Rattle.law_acts.specs.Acts.{IsAbovePromise}
use Rattle.law_acts.specs.Decisions.{promised_counter, next_proposal, proposal_after, is_due, regroups_in, due_at, due_proposal}

counter-below : (v : ViewId) (n : ℕ) (p : Address) → v.counter < n → IsBelow v (record { counter = n; creator = p })
counter-below v n p less = grind (arith, nat_tests)

less-by : (m h n : ℕ) (b : Bool) → cond b (Some (max m h + 1)) None ≡ Some n → m < n
less-by m h n true e = let s : max m h + 1 ≡ n = same_Some (max m h + 1) n e in omega (arith, s)
less-by m h n false e = absurd (none-some n e)

above-by : (promise : Option View) (n : ℕ) (p : Address) → promised_counter promise < n → IsAbovePromise (record { counter = n; creator = p }) promise
above-by None n p less v e = absurd (none-some v e)
above-by (Some u) n p less v e = subst (λ (z : View). IsBelow z.id (record { counter = n; creator = p })) (same_Some u v e) (counter-below u.id n p less)

-- what the next proposal is: above the promise, of its own making, with its list
pub record IsNext (promise : Option View) (p : Address) (list : List Address) (w : View) : Type 0 where
  pub above : IsAbovePromise w.id promise
  pub own : w.id.creator ≡ p
  pub listed : w.members ≡ list

next-by : (promise : Option View) (p : Address) (list : List Address) (o : Option ℕ) (b : NotesModel) (w : View) → next_counter (promised_counter promise) b ≡ o
    → option_map (λ n. record { id = record { counter = n; creator = p }; members = list }) o ≡ Some w → IsNext promise p list w
next-by promise p list None b w q e = absurd (none-some w e)
next-by promise p list (Some n) b w q e =
    let v : View = record { id = record { counter = n; creator = p }; members = list } in
    let made : v ≡ w = same_Some v w e in
    record {
      above = subst (λ (z : View). IsAbovePromise z.id promise) made (above-by promise n p (less-by (promised_counter promise) b.heard n (nat_lt (max (promised_counter promise) b.heard) GREATEST_NUMBER) q));
      own = ap (λ (z : View). z.id.creator) (sym made);
      listed = ap (λ (z : View). z.members) (sym made);
    }

pub next-means : {S : Type 0} (c : Core S) (b : NotesModel) (list : List Address) (w : View) → next_proposal c b list ≡ Some w → IsNext c.promise c.me list w
next-means c b list w e = next-by c.promise c.me list (next_counter (promised_counter c.promise) b) b w refl e

-- the candidates of one who leads are a view of its next id
pub proposal-is-view : {S : Type 0} (c : Core S) (b : NotesModel) (v w : View) → leads b.suspects v.members c.me ≡ true → stands_in c.me b.suspects ≡ false
    → proposal_after c b v ≡ Some w → view_refusal w.id w.members ≡ None
proposal-is-view c b v w it_leads free e =
    let x = next-means c b (candidates c.me v.members b) w e in
    let leads-it : leads b.suspects v.members w.id.creator ≡ true = subst (λ (p : Address). leads b.suspects v.members p ≡ true) (sym x.own) it_leads in
    let free-it : stands_in w.id.creator b.suspects ≡ false = subst (λ (p : Address). stands_in p b.suspects ≡ false) (sym x.own) free in
    let listed : candidates w.id.creator v.members b ≡ w.members = ap (λ p. candidates p v.members b) x.own ∙ sym x.listed in
    subst (λ (l : List Address). view_refusal w.id l ≡ None) listed (candidates-are-a-view w.id v.members b leads-it free-it)

-- ---- what is due

-- a proposal that is due is that of one who leads its view
pub record IsDueAfter {S : Type 0} (c : Core S) (b : NotesModel) (w : View) : Type 0 where
  pub before : View
  pub inside : c.view ≡ Some before
  pub it_leads : leads b.suspects before.members c.me ≡ true
  pub next : proposal_after c b before ≡ Some w

due-by : {S : Type 0} (t : Bool) (c : Core S) (b : NotesModel) (v w : View) → c.view ≡ Some v → regroups_in c b v ≡ t → (if t then proposal_after c b v else None) ≡ Some w → IsDueAfter c b w
due-by true c b v w inside q e = record { before = v; inside = inside; it_leads = (and_parts (leads b.suspects v.members c.me) (is_due c b v) q).0; next = e }
due-by false c b v w inside q e = absurd (none-some w e)

due-in : {S : Type 0} (view : Option View) (c : Core S) (b : NotesModel) (w : View) → c.view ≡ view → option_and_then (due_at c b) view ≡ Some w → IsDueAfter c b w
due-in None c b w q e = absurd (none-some w e)
due-in (Some v) c b w q e = due-by (regroups_in c b v) c b v w q refl e

pub due-means : {S : Type 0} (c : Core S) (b : NotesModel) (w : View) → due_proposal c b ≡ Some w → IsDueAfter c b w
due-means c b w e = due-in c.view c b w refl e
