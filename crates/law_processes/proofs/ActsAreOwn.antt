-- What happens by a member's acts happens to it, and is no start.
use Rattle.std.proofs.Common.{◌≡◌, ℕ, Bool, true, false, Option, Some, None, List, [], ◌∷◌, ◌++◌, map, refl, sym, ap, ◌∙◌, subst}
use Rattle.std.specs.List.{AllByRecursion}
use Rattle.std.proofs.lemmas.Option.{none-some, same_Some}
use Rattle.address.specs.Ids.{Address}
use Rattle.view.specs.Members.{View}
use Rattle.wire_values.specs.Values.{Entry}
use Rattle.wire_values.specs.Posted.{Posted}
use Rattle.state_transfer.specs.Meanings.{Meaning}
use Rattle.trace_props.specs.declared.event.Event.{Event}
use Rattle.trace_props.specs.Observed.{member_of, is_start}
use Rattle.law_acts.specs.Cores.{Core, is_open}
use Rattle.law_acts.specs.Acts.{Act, Creates, Joins, Puts, Sends, Queues, Orders, TakesAck, Collects, Holds, Delivers, Promises, Begins, Records, Gathers, Finishes, Enters, Leaves, after, events_of, deliveries, delivery, entering, blocking}
use Rattle.law_acts.specs.Chains.{Acted, Chain, events_along}

abbrev pub IsOwn : Address → Event → Type 0
IsOwn p x = (member_of x ≡ p) × (is_start x ≡ false)

abbrev pub EachOwn : Address → List Event → Type 0
EachOwn p s = AllByRecursion (IsOwn p) s

pub own-append : (p : Address) (s t : List Event) → EachOwn p s → EachOwn p t → EachOwn p (s ++ t)
own-append p [] t a b = b
own-append p (x ∷ s) t a b = (a.0, own-append p s t a.1 b)

own-delivered : (p : Address) (u : View) (entries : List Entry) → EachOwn p (map (delivery p u.id) entries)
own-delivered p u [] = tt
own-delivered p u (e ∷ entries) = ((refl, refl), own-delivered p u entries)

own-deliveries : (p : Address) (v : Option View) (entries : List Entry) → EachOwn p (deliveries p v entries)
own-deliveries p None entries = tt
own-deliveries p (Some u) entries = own-delivered p u entries

module _ {S : Type 0} (meaning : Meaning S) where
  own-entering : (c : Core S) (entries : List Entry) (w : View) (together : List Address) (given : Option (List ℕ)) → EachOwn c.me (entering c entries w together given)
  own-entering c entries w together given = own-append c.me (deliveries c.me c.view entries) _ (own-deliveries c.me c.view entries) ((refl, refl), tt)

  own-blocking : (c : Core S) (b : Bool) → is_open c.view c.installed ≡ b → EachOwn c.me (blocking c)
  own-blocking c true e = rw e ((refl, refl), tt)
  own-blocking c false e = rw e tt

  own-act : (c : Core S) (a : Act) → EachOwn c.me (events_of c a)
  own-act c Creates = own-entering c [] _ _ None
  own-act c Joins = tt
  own-act c (Puts q body) = tt
  own-act c (Sends v payload) = ((refl, refl), tt)
  own-act c (Queues v e waiting) = tt
  own-act c (Orders v e waiting held) = ((refl, refl), tt)
  own-act c (TakesAck v q n) = tt
  own-act c (Collects v n held) = tt
  own-act c (Holds v g e held) = tt
  own-act c (Delivers v e) = ((refl, refl), tt)
  own-act c (Promises w) = own-blocking c (is_open c.view c.installed) refl
  own-act c (Begins w) = own-blocking c (is_open c.view c.installed) refl
  own-act c (Records f q r) = tt
  own-act c (Gathers w chunk chunks) = tt
  own-act c (Finishes v f cuts given) = own-entering c _ _ _ None
  own-act c (Enters i given) = own-entering c _ i.view i.together given
  own-act c Leaves = ((refl, refl), tt)

  abbrev pub me_of : Core S → Address
  me_of c = c.me

  -- an act leaves a member its address
  pub me-stays : (c d : Core S) (a : Act) → after meaning c a ≡ Some d → d.me ≡ c.me
  me-stays c d Creates e = sym (ap me_of (same_Some _ d e))
  me-stays c d Joins e = sym (ap me_of (same_Some _ d e))
  me-stays c d (Puts q body) e = sym (ap me_of (same_Some _ d e))
  me-stays c d (Sends v payload) e = sym (ap me_of (same_Some _ d e))
  me-stays c d (Queues v m waiting) e = sym (ap me_of (same_Some _ d e))
  me-stays c d (Orders v m waiting held) e = sym (ap me_of (same_Some _ d e))
  me-stays c d (TakesAck v q n) e = sym (ap me_of (same_Some _ d e))
  me-stays c d (Collects v n held) e = sym (ap me_of (same_Some _ d e))
  me-stays c d (Holds v g m held) e = sym (ap me_of (same_Some _ d e))
  me-stays c d (Delivers v m) e = sym (ap me_of (same_Some _ d e))
  me-stays c d (Promises w) e = sym (ap me_of (same_Some _ d e))
  me-stays c d (Begins w) e = sym (ap me_of (same_Some _ d e))
  me-stays c d (Records f q r) e = sym (ap me_of (same_Some _ d e))
  me-stays c d (Gathers w chunk chunks) e = sym (ap me_of (same_Some _ d e))
  me-stays c d (Finishes v f cuts given) e = sym (ap me_of (same_Some _ d e))
  me-stays c d (Enters i given) e = sym (ap me_of (same_Some _ d e))
  me-stays c d Leaves e = absurd (none-some d e)

  pub own-chain : (p : Address) (came : Option Posted) (acts : List Act) (o end : Option (Core S)) → ((d : Core S) → o ≡ Some d → d.me ≡ p) → Chain meaning came o acts end
      → EachOwn p (events_along meaning o acts)
  own-chain p came [] o end me x = tt
  own-chain p came (a ∷ acts) None end me x = absurd x
  own-chain p came (a ∷ acts) (Some c) end me x =
      own-append p (events_of c a) _ (subst (λ (q : Address). EachOwn q (events_of c a)) (me c refl) (own-act c a))
      (own-chain p came acts (after meaning c a) end (λ d e. me-stays c d a e ∙ me c refl) x.1)

  pub own-acted : (p : Address) (c : Core S) (came : Option Posted) (posted : List Posted) (s : List Event) (end : Option (Core S)) → c.me ≡ p
      → Acted meaning came (Some c) posted s end → EachOwn p s
  own-acted p c came posted s end me x =
      subst (EachOwn p) (sym x.happens) (own-chain p came x.acts (Some c) end (λ d e. sym (ap me_of (same_Some c d e)) ∙ me) x.chain)
