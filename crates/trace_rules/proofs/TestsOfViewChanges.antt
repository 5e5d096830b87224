-- The tests decide the conditions on the next event: the rules on members that go from view to view.
use Rattle.std.proofs.Common.{◌≡◌, ◌↔◌, ℕ, ◌+◌, ◌-◌, ◌<◌, ◌≤◌, suc, Bool, true, false, ◌&&◌, ◌||◌, not, List, [], ◌∷◌, length, drop, Option, Some, slice_get, sym, refl, ap, ◌∙◌, subst, below_more, length-drop, arith}
use Rattle.std.specs.Bool.{Decides}
use Rattle.std.specs.List.{list_all}
use Rattle.trace_props.specs.declared.event.Numbered.{Numbered}
use Rattle.std.specs.Option.{ForSome}
use Rattle.std.proofs.lemmas.Bool.{and_from, and_parts, or_left, or_right, true≢false, not-true}
use Rattle.std.proofs.lemmas.Bool.Decides.{Decides-and, Decides-eqb}
use Rattle.std.proofs.lemmas.Option.{same_Some}
use Rattle.address.specs.Ids.{Address, ViewId, same_address}
use Rattle.view.specs.Members.{stands_in}
use Rattle.trace_props.specs.declared.event.Event.{Event}
use Rattle.trace_props.specs.declared.event.Event.TheVariants.{Installed}
use Rattle.trace_props.specs.declared.event.Install.{Install}
use Rattle.trace_props.specs.Observed.{delivered_in, entry_of, first_install}
use Rattle.trace_props.specs.Rules.{LiesWithin}
use Rattle.trace_props.specs.Agreeing.{first_from, MayMeet, KnowEachOther, MayKnow}
use Rattle.trace_rules.specs.Judged.{same_previous, meets, lies_within, inside_previous, alike, know_each_other, knows_all, is_numbered}
use Rattle.trace_props.proofs.RulesAlongLists.{slice_get-drop}
use Rattle.address.proofs.SameIds.{same_address-true, same_address-refl}
use Rattle.trace_rules.proofs.TestsOfOneView.{and3-decides, same-decides, some-decides, previous-decides, numbered-decides}

-- SAME NEXT VIEW

-- the test decides whether an install may meet
pub meets-decides : (t : List Event) (i : Install) → Decides (meets i.previous i t) (MayMeet t (Installed i))
meets-decides t i =
    some-decides i.previous _ (λ v. ForSome (first_from v i.view.id t) (λ f. length (delivered_in f.member v t) ≡ length (delivered_in i.member v t)))
    (λ v. some-decides (first_from v i.view.id t) _ (λ f. length (delivered_in f.member v t) ≡ length (delivered_in i.member v t)) (λ f. Decides-eqb _ _))

-- TOGETHER

-- an address of a list is its first or stands in the rest
stands-case : (P : Address → Type 0) (q p : Address) (ms : List Address) (b : Bool) → same_address q p ≡ b → (b || stands_in q ms) ≡ true → P p → (stands_in q ms ≡ true → P q) → P q
stands-case P q p ms true same s here there = subst P (sym (same_address-true q p same)) here
stands-case P q p ms false apart s here there = there s

-- a test of each address of a list
all-true : (test : Address → Bool) (P : Address → Type 0) → ((q : Address) → Decides (test q) (P q)) → (ms : List Address) → list_all test ms ≡ true → (q : Address) → stands_in q ms ≡ true → P q
all-true test P d [] e q s = absurd (true≢false (sym s))
all-true test P d (p ∷ ms) e q s =
    let parts = and_parts (test p) (list_all test ms) e in
    stands-case P q p ms (same_address q p) refl s ((d p).0 parts.0) (all-true test P d ms parts.1 q)

all-from : (test : Address → Bool) (P : Address → Type 0) → ((q : Address) → Decides (test q) (P q)) → (ms : List Address) → ((q : Address) → stands_in q ms ≡ true → P q) → list_all test ms ≡ true
all-from test P d [] f = refl
all-from test P d (p ∷ ms) f =
    and_from (test p) (list_all test ms) ((d p).1 (f p (or_left (same_address p p) (stands_in p ms) (same_address-refl p))))
    (all-from test P d ms (λ q s. f q (or_right (same_address q p) (stands_in q ms) s)))

all-decides : (test : Address → Bool) (P : Address → Type 0) → ((q : Address) → Decides (test q) (P q)) → (ms : List Address) → Decides (list_all test ms) ((q : Address) → stands_in q ms ≡ true → P q)
all-decides test P d ms = (all-true test P d ms, all-from test P d ms)

within-decides : (ps qs : List Address) → Decides (lies_within ps qs) (LiesWithin ps qs)
within-decides ps qs = all-decides (λ q. stands_in q qs) (λ q. stands_in q qs ≡ true) (λ q. ((λ e. e), (λ e. e))) ps

inside_previous-decides : (o : Option ViewId) (ps : List Address) (t : List Event) → Decides (inside_previous o ps t) (ForSome o (λ v. ForSome (first_install v t) (λ f. LiesWithin ps f.view.members)))
inside_previous-decides o ps t =
    some-decides o _ (λ v. ForSome (first_install v t) (λ f. LiesWithin ps f.view.members))
    (λ v. some-decides (first_install v t) _ (λ f. LiesWithin ps f.view.members) (λ f. within-decides ps f.view.members))

-- both or neither
alike-decides : {P Q : Type 0} (a b : Bool) → Decides a P → Decides b Q → Decides (alike a b) (P ↔ Q)
alike-decides true b p q = ((λ e. ((λ x. q.0 e), (λ y. p.0 refl))), (λ f. q.1 (f.0 (p.0 refl))))
alike-decides false b p q = (
  (λ e. ((λ x. absurd (true≢false (sym (p.1 x)))), (λ y. absurd (true≢false (sym (q.1 y) ∙ not-true b e))))),
  (λ f. neither b (λ e. true≢false (sym (p.1 (f.1 (q.0 e)))))),
)
  where
    neither : (b : Bool) → (b ≡ true → ⊥) → not b ≡ true
    neither true g = absurd (g refl)
    neither false g = refl

stands-decides : (q : Address) (ms : List Address) → Decides (stands_in q ms) (stands_in q ms ≡ true)
stands-decides q ms = ((λ e. e), (λ e. e))

know-decides : (o : Option Install) (i : Install) → Decides (know_each_other o i) (ForSome o (KnowEachOther i))
know-decides o i = some-decides o _ (KnowEachOther i) (λ f.
    let before = previous-decides f.previous i.previous in
    same-decides _
    (Decides-and _ _ (alike-decides _ _ (stands-decides f.member i.together) before) (alike-decides _ _ (stands-decides i.member f.together) (same-decides (same_previous f.previous i.previous) before sym sym)))
    (λ x. record { knows = x.0; known = x.1 })
    (λ r. (r.knows, r.known)))

-- the test decides whether an install may know
pub knows-decides : (t : List Event) (i : Install) → Decides (knows_all t i) (MayKnow t (Installed i))
knows-decides t i =
    same-decides (knows_all t i)
    (Decides-and (lies_within i.together i.view.members && inside_previous i.previous i.together t && stands_in i.member i.together) (list_all (λ q. know_each_other (entry_of q i.view.id t) i) i.view.members)
    (and3-decides (lies_within i.together i.view.members) (inside_previous i.previous i.together t) (stands_in i.member i.together)
    (within-decides i.together i.view.members) (inside_previous-decides i.previous i.together t) (stands-decides i.member i.together))
    (all-decides (λ q. know_each_other (entry_of q i.view.id t) i) (λ q. ForSome (entry_of q i.view.id t) (KnowEachOther i)) (λ q. know-decides (entry_of q i.view.id t) i) i.view.members))
    (λ x. record { inside = x.0.0; before = x.0.1; itself = x.0.2; others = x.1 })
    (λ r. ((r.inside, r.before, r.itself), r.others))

-- HANDED BACK

-- equal at each place
pub same-places : {X : Type 0} → (xs ys : List X) → length xs ≡ length ys → ((k : ℕ) → k < length xs → slice_get xs k ≡ slice_get ys k) → xs ≡ ys
same-places [] [] e f = refl
same-places [] (y ∷ ys) e f = absurd (omega arith)
same-places (x ∷ xs) [] e f = absurd (omega arith)
same-places {X} (x ∷ xs) (y ∷ ys) e f =
    ap (λ (z : X). z ∷ xs) (same_Some x y (f 0 (omega arith))) ∙ ap (λ (l : List X). y ∷ l) (same-places xs ys (omega arith) (λ k l. f (suc k) (omega arith)))

-- one message that is another than what was sent there
pub rest-differs : (ms sent : List Numbered) (start k : ℕ) (m : Numbered) (b : Bool) → slice_get ms k ≡ Some m → b ≡ is_numbered (slice_get sent (start + k)) m → b ≡ false → ms ≡ drop start sent → false ≡ true
rest-differs ms sent start k m b s test apart e =
    sym apart ∙ test ∙ (numbered-decides (slice_get sent (start + k)) m).1 (sym (slice_get-drop start sent k) ∙ ap (λ l. slice_get l k) (sym e) ∙ s)

-- one more message that is what was sent there
pub rest-more : (ms sent : List Numbered) (start i : ℕ) (m : Numbered) (b : Bool) → slice_get ms i ≡ Some m → b ≡ is_numbered (slice_get sent (start + i)) m → b ≡ true
    → ((k : ℕ) → k < i → slice_get ms k ≡ slice_get sent (start + k)) → (k : ℕ) → k < i + 1 → slice_get ms k ≡ slice_get sent (start + k)
rest-more ms sent start i m b s test holds below =
    below_more (λ k. slice_get ms k ≡ slice_get sent (start + k)) i below (s ∙ sym ((numbered-decides (slice_get sent (start + i)) m).0 (sym test ∙ holds)))

-- all that was sent there
pub rest-all : (ms sent : List Numbered) (start i : ℕ) → length ms ≡ length sent - start → length ms ≤ i → ((k : ℕ) → k < i → slice_get ms k ≡ slice_get sent (start + k)) → ms ≡ drop start sent
rest-all ms sent start i long end below =
    same-places ms (drop start sent) (long ∙ sym (length-drop start sent)) (λ k l. below k (omega arith) ∙ sym (slice_get-drop start sent k))
