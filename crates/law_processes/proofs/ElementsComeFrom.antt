-- Where an element that a filter keeps comes from, and so where a delivered message was sent.
use Rattle.std.proofs.Common.{◌≡◌, ℕ, zero, suc, Option, Some, None, List, [], ◌∷◌, length, take, drop, filter_map, Contains, refl, sym, ap, ◌∙◌}
use Rattle.std.specs.Prelude.{slice_get}
use Rattle.std.specs.List.{cons_option}
use Rattle.std.proofs.lemmas.Option.{none-some, slice_get_read}
use Rattle.std.proofs.lemmas.List.{take-append-drop}
use Rattle.std.proofs.lemmas.List.Elements.{filter_map-append}
use Rattle.state_transfer.specs.Meanings.{Meaning}
use Rattle.trace_props.specs.declared.event.Event.{Event}
use Rattle.trace_props.specs.declared.event.Event.TheVariants.{Delivered}
use Rattle.trace_props.specs.declared.event.Delivery.{Delivery}
use Rattle.trace_props.specs.declared.event.Numbered.{Numbered}
use Rattle.trace_props.specs.Observed.{said, sent_in, numbered}
use Rattle.trace_props.specs.Synchrony.{KeepsRules, IsVirtuallySynchronous}
use Rattle.trace_props.proofs.RulesAlongLists.{EachPlace-whole, slice_get-before, slice_get-take}

-- the place of an element by which a filter gives another
pub record Comes {X Y : Type 0} (f : X → Option Y) (xs : List X) (y : Y) : Type 0 where
  pub place : ℕ
  pub it : X
  pub stands : slice_get xs place ≡ Some it
  pub gives : f it ≡ Some y

comes-behind : {X Y : Type 0} (f : X → Option Y) (x : X) (xs : List X) (y : Y) → Comes f xs y → Comes f (x ∷ xs) y
comes-behind f x xs y c = record { place = suc c.place; it = c.it; stands = c.stands; gives = c.gives }

comes-cons : {X Y : Type 0} (f : X → Option Y) (x : X) (xs : List X) (o : Option Y) → f x ≡ o → (k : ℕ) (y : Y) → slice_get (cons_option o (filter_map f xs)) k ≡ Some y
    → ((j : ℕ) → slice_get (filter_map f xs) j ≡ Some y → Comes f xs y) → Comes f (x ∷ xs) y
comes-cons f x xs None g k y e later = comes-behind f x xs y (later k e)
comes-cons f x xs (Some z) g zero y e later = record { place = 0; it = x; stands = refl; gives = g ∙ e }
comes-cons f x xs (Some z) g (suc k) y e later = comes-behind f x xs y (later k e)

pub comes-at : {X Y : Type 0} (f : X → Option Y) (xs : List X) (k : ℕ) (y : Y) → slice_get (filter_map f xs) k ≡ Some y → Comes f xs y
comes-at f [] k y e = absurd (none-some y e)
comes-at f (x ∷ xs) k y e = comes-cons f x xs (f x) refl k y e (λ j g. comes-at f xs j y g)

-- where a delivered message was sent: its place among those that its sender sent in the view, and in the trace
pub record WasSentAt (t : List Event) (d : Delivery) : Type 0 where
  pub among : ℕ
  pub before : slice_get (sent_in d.message.sender d.view t) among ≡ Some (numbered d.message)
  pub sent : Comes (said d.message.sender d.view) t (numbered d.message)

module _ {S : Type 0} (meaning : Meaning S) (t : List Event) (keeps : IsVirtuallySynchronous meaning t) where
  pub whole : KeepsRules meaning t
  whole = EachPlace-whole (KeepsRules meaning) t keeps

  -- a delivered message was sent in its view
  pub was-sent : (k : ℕ) (d : Delivery) → slice_get t k ≡ Some (Delivered d) → WasSentAt t d
  was-sent k d at =
      let q = d.message.sender in
      let past = sent_in q d.view (take k t) in
      let was : Contains past (numbered d.message) = whole.ordered.messages.sent k (Delivered d) at in
      let there = slice_get_read past (length past) was.0 (numbered d.message) refl was.1 (sym was.2) in
      let from = comes-at (said q d.view) (take k t) was.0 (numbered d.message) there in
      record {
        among = was.0;
        before = ap (λ (l : List Numbered). slice_get l was.0) (ap (sent_in q d.view) (sym (take-append-drop k t)) ∙ filter_map-append (said q d.view) (take k t) (drop k t))
            ∙ slice_get-before past (sent_in q d.view (drop k t)) was.0 (numbered d.message) there;
        sent = record { place = from.place; it = from.it; stands = slice_get-take k t from.place from.it from.stands; gives = from.gives };
      }
