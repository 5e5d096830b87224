-- Within a view tokens rise along its one order, so a token is granted once there.
use Rattle.std.proofs.Common.{◌≡◌, ℕ, zero, suc, ◌<◌, ◌≤◌, true, false, List, [], ◌∷◌, ◌++◌, map, length, take, drop, Some, inl, inr, ⊎_elim, length-append, refl, sym, ap, subst, ◌∙◌, arith}
use Rattle.std.specs.List.{slice_get}
use Rattle.std.specs.Ordering.{nat_cmp, ordering_then, is_eq, is_lt}
use Rattle.std.specs.declared.cmp.Ordering.{Ordering}
use Rattle.std.specs.declared.cmp.Ordering.TheVariants.{Less, Equal, Greater}
use Rattle.std.proofs.lemmas.Bool.{cases_lt}
use Rattle.std.proofs.lemmas.Option.{none-some, same_Some}
use Rattle.std.proofs.lemmas.List.{append_assoc, take-append-drop, take-append-le, take_all}
use Rattle.std.proofs.lemmas.List.Sums.{fold-append}
use Rattle.address.specs.Ids.{ViewId, view_id_cmp}
use Rattle.trace_props.specs.declared.event.Event.{Event}
use Rattle.trace_props.specs.declared.event.Event.TheVariants.{Delivered}
use Rattle.trace_props.specs.declared.event.Message.{Message as Carried}
use Rattle.trace_props.specs.Observed.{current_view, delivered_message, delivered_in}
use Rattle.trace_props.specs.Places.{IsBeginningOf}
use Rattle.trace_props.specs.State.{state_of, entry_state}
use Rattle.trace_props.specs.Synchrony.{KeepsRules, IsVirtuallySynchronous}
use Rattle.trace_props.proofs.RulesAlongLists.{EachPlace-whole, take-next, slice_get-before, slice_get-last, IsBeginningOf-at}
use Rattle.trace_props.proofs.DeliveredGrow.{is_delivery_to, is_delivery_to-at, delivered_in-hit}
use Rattle.std.proofs.lemmas.List.Elements.{filter_map-append}
use Rattle.law_processes.specs.Replicas as copies
use Rattle.law_processes.proofs.StatesAreMade.{state-made, entry-later}
use Rattle.keyed_state.specs.Entries.{key_cmp}
use Rattle.keyed_state.specs.EntryLaws.{flipped}
use Rattle.keyed_state.specs.declared.token.Token.{Token}
use Rattle.keyed_state.specs.Tokens.{IsBelow, token_cmp}
use Rattle.lock_table.specs.Locks.{Lock, Table, IsTable, lock_of}
use Rattle.lock_table.specs.Meanings.{table_meaning}
use Rattle.keyed_state.specs.TokenLaws.{not-below-itself}
use Rattle.lock_table.specs.Turns.{Message, after, after_all, Grants}
use Rattle.lock_table.proofs.MessagesTurnLocks.{same-name}
use Rattle.lock_table.proofs.GrantsRise.{later-above}
use Rattle.lock_table.proofs.OneMessageGrants.{one-message-rises}
use Rattle.lock_fencing.specs.Fencing.{message_in, Grant, view_at, token_at, rank_of, CarriesMessages, FencedInViews, Fenced, TokensRise}
use Rattle.lock_fencing.proofs.TablesDelivered.{AreMessages, messages-take, messages-drop, message-at, delivered-are, states-are}
use Rattle.lock_fencing.proofs.TokensAcrossViews.{tokens-of-views}

-- ---- lists

-- a longer beginning is a shorter one, the element behind it, and more
split-at : {X : Type 0} (n k : ℕ) (xs : List X) (x : X) → slice_get xs n ≡ Some x → n < k → take k xs ≡ (take n xs ++ x ∷ []) ++ drop (suc n) (take k xs)
split-at n k [] x e less = absurd (none-some x e)
split-at zero zero (y ∷ xs) x e less = absurd (omega (arith, less))
split-at (suc n) zero (y ∷ xs) x e less = absurd (omega (arith, less))
split-at {X} zero (suc k) (y ∷ xs) x e less = ap (λ (z : X). z ∷ take k xs) (same_Some y x e)
split-at {X} (suc n) (suc k) (y ∷ xs) x e less = ap (λ (l : List X). y ∷ l) (split-at n k xs x e (omega (arith, less)))

-- the first so many of a beginning are those of the whole
first-of : {X : Type 0} (n : ℕ) (xs ys : List X) → IsBeginningOf xs ys → n ≤ length xs → take n xs ≡ take n ys
first-of {X} n xs ys b le =
    let within : n ≤ length (take (length xs) ys) = subst (λ (l : List X). n ≤ length l) b le in
    ap (take n) b ∙ sym (take-append-le n (take (length xs) ys) (drop (length xs) ys) within) ∙ ap (take n) (take-append-drop (length xs) ys)

begins : {X : Type 0} (xs ys zs ws : List X) → zs ≡ xs ++ ys → IsBeginningOf zs ws → xs ≡ take (length xs) ws
begins xs ys zs ws e b =
    let few : length xs ≤ length zs = omega (arith, ap length e, length-append xs ys) in
    sym (take_all (length xs) xs (omega arith)) ∙ sym (take-append-le (length xs) xs ys (omega arith)) ∙ ap (take (length xs)) (sym e) ∙ first-of (length xs) zs ws b few

-- the states of copies, in the table's words
same-fold : (ms : List Carried) (s : Table) → copies.after_all table_meaning s ms ≡ after_all s (map message_in ms)
same-fold [] s = refl
same-fold (m ∷ ms) s = same-fold ms (after s (message_in m))

-- ---- a grant in the order of its view

record Point (order : List Carried) (entry : Table) (name : List ℕ) (l : Lock) : Type 0 where
  place : ℕ
  message : Carried
  stands : slice_get order place ≡ Some message
  table : IsTable (copies.after_all table_meaning entry (take place order))
  grants : Grants name (message_in message) (copies.after_all table_meaning entry (take place order)) l

module _ (order : List Carried) (entry : Table) (all : AreMessages order) where
  earlier : (name other : List ℕ) (l m : Lock) (a : Point order entry name l) (b : Point order entry other m) → a.place < b.place → IsBelow l.token m.token
  earlier name other l m a b less =
      let s = copies.after_all table_meaning entry (take a.place order) in
      let between = drop (suc a.place) (take b.place order) in
      let one = message_in a.message in
      let state : copies.after_all table_meaning entry (take b.place order) ≡ after_all (after s one) (map message_in between) =
      ap (copies.after_all table_meaning entry) (split-at a.place b.place order a.message a.stands less)
      ∙ fold-append (λ (x : Table) (n : Carried). table_meaning.apply x n.sender n.payload) entry (take a.place order ++ a.message ∷ []) between
      ∙ ap (λ (x : Table). copies.after_all table_meaning x between) (fold-append (λ (x : Table) (n : Carried). table_meaning.apply x n.sender n.payload) entry (take a.place order) (a.message ∷ []))
      ∙ same-fold between (after s one) in
      later-above s one (map message_in between) (message_in b.message) name other l m a.table (message-at a.place order a.message all a.stands)
      (messages-drop (suc a.place) (take b.place order) (messages-take b.place order all)) a.grants (subst (λ (x : Table). Grants other (message_in b.message) x m) state b.grants)

  not-both : (l m : Lock) → l.token ≡ m.token → IsBelow l.token m.token → ⊥
  not-both l m same below =
      let itself : is_lt (token_cmp m.token m.token) ≡ true = subst (λ (x : Token). IsBelow x m.token) same below in
      let bad : false ≡ true = sym (not-below-itself m.token) ∙ itself in cc

  some-lock : (x y : Lock) → Some x ≡ Some y → x ≡ y
  some-lock x y e = cc

  at-once : (s : Table) (one : Message) (name other : List ℕ) (l m : Lock) → IsTable s → Grants name one s l → Grants other one s m → l.token ≡ m.token → (name ≡ other) × (l ≡ m)
  at-once s one name other l m is a b same = by (key_cmp name other) refl
    where
      by : (o : Ordering) → key_cmp name other ≡ o → (name ≡ other) × (l ≡ m)
      by Less e = absurd (not-both l m same (one-message-rises s one name other l m is a b e))
      by Greater e = absurd (not-both m l (sym same) (one-message-rises s one other name m l is b a (flipped name other e)))
      by Equal e =
          let named = same-name name other (ap is_eq e) in
          (named, some-lock l m (sym a.stands ∙ ap (λ (n : List ℕ). lock_of n (after s one)) named ∙ b.stands))

  same-place : (name other : List ℕ) (l m : Lock) (a : Point order entry name l) (b : Point order entry other m) → a.place ≡ b.place → l.token ≡ m.token → (name ≡ other) × (l ≡ m)
  same-place name other l m a b at same =
      let message : b.message ≡ a.message = same_Some b.message a.message (sym b.stands ∙ ap (slice_get order) (sym at) ∙ a.stands) in
      at-once (copies.after_all table_meaning entry (take a.place order)) (message_in a.message) name other l m a.table a.grants
      (subst (λ (x : Carried). Grants other (message_in x) (copies.after_all table_meaning entry (take a.place order)) m) message
      (subst (λ n. Grants other (message_in b.message) (copies.after_all table_meaning entry (take n order)) m) (sym at) b.grants)) same

  points-fenced : (name other : List ℕ) (l m : Lock) (a : Point order entry name l) (b : Point order entry other m) → l.token ≡ m.token → (name ≡ other) × (l ≡ m)
  points-fenced name other l m a b same =
      ⊎_elim
      (λ (x : a.place < b.place). absurd (not-both l m same (earlier name other l m a b x)))
      (λ (x : b.place ≤ a.place). ⊎_elim
      (λ (y : b.place < a.place). absurd (not-both m l (sym same) (earlier other name m l b a y)))
      (λ (y : a.place ≤ b.place). same-place name other l m a b (omega (arith, x, y)) same)
      (cases_lt b.place a.place))
      (cases_lt a.place b.place)

-- ---- in a trace

module _ (t : List Event) (keeps : IsVirtuallySynchronous table_meaning t) (carries : CarriesMessages t) (v : ViewId) where
  record Pointed (g : Grant t) : Type 0 where
    entry : Table
    entered : entry_state table_meaning v t ≡ Some entry
    point : Point (delivered_in v.creator v t) entry g.name g.lock
    at : point.place ≡ length (delivered_in g.delivery.member v (take g.place t))

  pointed : (g : Grant t) → view_at g ≡ v → Pointed g
  pointed g in_view =
      let k = g.place in
      let d = g.delivery in
      let p = d.member in
      let past = take k t in
      let was = keeps k in
      let whole = EachPlace-whole (KeepsRules table_meaning) t keeps in
      let here : current_view p past ≡ Some v = (whole.ordered.placed k (Delivered d) g.happens).1 ∙ ap Some in_view in
      let made = state-made table_meaning past (record { placed = was.ordered.placed; views = was.ordered.views; state = was.state }) p v here in
      let before = delivered_in p v past in
      let next : delivered_in p v (take (suc k) t) ≡ before ++ d.message ∷ [] =
      ap (delivered_in p v) (take-next k t (Delivered d) g.happens) ∙ delivered_in-hit p v past d (subst (λ (w : ViewId). is_delivery_to p w d ≡ true) in_view (is_delivery_to-at d)) in
      let later : delivered_in p v t ≡ (before ++ d.message ∷ []) ++ delivered_in p v (drop (suc k) t) =
      ap (delivered_in p v) (sym (take-append-drop (suc k) t)) ∙ filter_map-append (delivered_message p v) (take (suc k) t) (drop (suc k) t)
      ∙ ap (λ (l : List Carried). l ++ delivered_in p v (drop (suc k) t)) next in
      let one : IsBeginningOf (delivered_in p v t) (delivered_in v.creator v t) = whole.ordered.order p v in
      let n = length before in
      let own : slice_get (delivered_in p v t) n ≡ Some d.message =
      ap (λ (l : List Carried). slice_get l n) later ∙ slice_get-before (before ++ d.message ∷ []) (delivered_in p v (drop (suc k) t)) n d.message (slice_get-last before d.message) in
      let stands : slice_get (delivered_in v.creator v t) n ≡ Some d.message = IsBeginningOf-at (delivered_in p v t) (delivered_in v.creator v t) n d.message one own in
      let front : before ≡ take n (delivered_in v.creator v t) = begins before (d.message ∷ delivered_in p v (drop (suc k) t)) (delivered_in p v t) (delivered_in v.creator v t)
      (later ∙ append_assoc before (d.message ∷ []) (delivered_in p v (drop (suc k) t))) one in
      let state : state_of table_meaning p past ≡ copies.after_all table_meaning made.entry (take n (delivered_in v.creator v t)) =
      made.made ∙ ap (copies.after_all table_meaning made.entry) front in
      record {
        entry = made.entry;
        entered = subst (λ (l : List Event). entry_state table_meaning v l ≡ Some made.entry) (take-append-drop k t) (entry-later table_meaning v past (drop k t) made.entry made.entered);
        point = record {
          place = n;
          message = d.message;
          stands = stands;
          table = subst IsTable state (states-are t carries k p);
          grants = subst (λ (s : Table). Grants g.name (message_in d.message) s g.lock) state g.grants;
        };
        at = refl;
      }

  module _ (a b : Grant t) (first : view_at a ≡ v) (second : view_at b ≡ v) where
    x : Pointed a
    x = pointed a first

    y : Pointed b
    y = pointed b second

    same-entry : y.entry ≡ x.entry
    same-entry = same_Some y.entry x.entry (sym y.entered ∙ x.entered)

    fenced-by : token_at a ≡ token_at b → (a.name ≡ b.name) × (a.lock ≡ b.lock)
    fenced-by same =
        points-fenced (delivered_in v.creator v t) x.entry (delivered-are t carries v.creator v) a.name b.name a.lock b.lock x.point
        (subst (λ (e : Table). Point (delivered_in v.creator v t) e b.name b.lock) same-entry y.point) same

    moved : (e f : Table) → e ≡ f → (z : Point (delivered_in v.creator v t) e b.name b.lock) → (w : Point (delivered_in v.creator v t) f b.name b.lock) × (w.place ≡ z.place)
    moved e f q z = subst (λ (g : Table). (w : Point (delivered_in v.creator v t) g b.name b.lock) × (w.place ≡ z.place)) q (z, refl)

    rises-by : length (delivered_in a.delivery.member v (take a.place t)) < length (delivered_in b.delivery.member v (take b.place t)) → IsBelow a.lock.token b.lock.token
    rises-by less =
        let z = moved y.entry x.entry same-entry y.point in
        let at : z.0.place ≡ y.point.place = z.1 in
        earlier (delivered_in v.creator v t) x.entry (delivered-are t carries v.creator v) a.name b.name a.lock b.lock x.point z.0 (omega (arith, less, at, x.at, y.at))

pub fenced-in-views : FencedInViews
fenced-in-views t keeps carries a b view same =
    let both = fenced-by t keeps carries (view_at b) a b view refl same in
    record { view = view; name = both.0; lock = both.1 }

-- tokens are of the views in which they are granted, so they are fenced across views too
pub fenced : Fenced
fenced t is spells a b same =
    fenced-in-views t is.synchronous is.messages a b (sym (tokens-of-views t is spells a) ∙ ap (λ (x : Token). x.view) same ∙ tokens-of-views t is spells b) same

pub tokens-rise : TokensRise
tokens-rise t is spells a b (inl below) =
    let views : view_id_cmp (token_at a).view (token_at b).view ≡ Less =
    ap (λ (v : ViewId). view_id_cmp v (token_at b).view) (tokens-of-views t is spells a) ∙ ap (view_id_cmp (view_at a)) (tokens-of-views t is spells b) ∙ below in
    ap (λ (o : Ordering). is_lt (ordering_then o (nat_cmp (token_at a).count (token_at b).count))) views
tokens-rise t is spells a b (inr x) =
    rises-by t is.synchronous is.messages (view_at b) a b x.0 refl (subst (λ (v : ViewId). length (delivered_in a.delivery.member v (take a.place t)) < rank_of b) x.0 x.1)
