-- Whether a node's member is connected, one event further.
use Rattle.std.proofs.Common.{◌≡◌, ℕ, Bool, true, false, ◌&&◌, List, [], ◌∷◌, ◌++◌, length, nat_eq, refl, ap, ◌∙◌, arith, fold}
use Rattle.std.specs.List.{zip}
use Rattle.std.proofs.lemmas.Bool.{cond-false, and_left, and_right}
use Rattle.std.proofs.lemmas.List.Sums.{fold-append}
use Rattle.trace_props.specs.declared.event.Event.{Event}
use Rattle.world_model.specs.declared.WorldEvent.{WorldEvent}
use Rattle.world_model.specs.declared.WorldEvent.TheVariants.{Start, Create, Join, Send, Deliver, Tick, Suspect, MergeHint, Leave, Crash}
use Rattle.world_model.specs.declared.Answer.{Answer}
use Rattle.world_model.specs.declared.Answer.TheVariants.{Refused}
use Rattle.address.specs.declared.refusal.Refusal.{Refusal}
use Rattle.world_model.specs.declared.Reply.{Reply}
use Rattle.world_model.specs.Histories.{History, is_done, is_connected, connected_after, connects_after, node_of, after}
use Rattle.world_model.specs.Faithful.{SendsPromptly}

-- two lists of one length, each with one more, are paired with one more pair
zip-push : {K X : Type 0} → (ks : List K) (xs : List X) (k : K) (x : X) → length ks ≡ length xs → zip (ks ++ k ∷ []) (xs ++ x ∷ []) ≡ zip ks xs ++ (k, x) ∷ []
zip-push [] [] k x e = refl
zip-push [] (y ∷ xs) k x e = absurd (omega arith)
zip-push (j ∷ ks) [] k x e = absurd (omega arith)
zip-push (j ∷ ks) (y ∷ xs) k x e = ap (λ rows. (j, y) ∷ rows) (zip-push ks xs k x (omega arith))

-- whether a node's member is connected, one event further
pub is_connected-push : (n : ℕ) (h : History) (e : WorldEvent) (a : Answer) (ps : List (List ℕ)) (s : List Event) → length h.events ≡ length h.replies
    → is_connected n (after h e a ps s) ≡ connects_after n (is_connected n h) e a
is_connected-push n h e a ps s same =
    let reply : Reply = record { answer = a; place = length (h.trace ++ s) } in
    ap (fold (connected_after n) false) (zip-push h.events h.replies e reply same) ∙ fold-append (connected_after n) false (zip h.events h.replies) ((e, reply) ∷ [])

-- another node's event does not connect it
pub connects_after-other : (n : ℕ) (c : Bool) (e : WorldEvent) (a : Answer) → nat_eq (node_of e) n ≡ false → connects_after n c e a ≡ c
connects_after-other n c (Start m) a o = cond-false (nat_eq m n && is_done a) false c (and_left (nat_eq m n) (is_done a) o)
connects_after-other n c (Create m) a o = cond-false (nat_eq m n && is_done a) true c (and_left (nat_eq m n) (is_done a) o)
connects_after-other n c (Join m x) a o = cond-false (nat_eq m n && is_done a) true c (and_left (nat_eq m n) (is_done a) o)
connects_after-other n c (Send m x) a o = refl
connects_after-other n c (Deliver k) a o = refl
connects_after-other n c (Tick m) a o = refl
connects_after-other n c (Suspect m q) a o = refl
connects_after-other n c (MergeHint m q) a o = refl
connects_after-other n c (Leave m) a o = refl
connects_after-other n c (Crash m) a o = refl

-- a refused event leaves who is connected
pub refused-connects : (n : ℕ) (c : Bool) (e : WorldEvent) (r : Refusal) → connects_after n c e (Refused r) ≡ c
refused-connects n c (Start m) r = cond-false (nat_eq m n && false) false c (and_right (nat_eq m n) false refl)
refused-connects n c (Create m) r = cond-false (nat_eq m n && false) true c (and_right (nat_eq m n) false refl)
refused-connects n c (Join m x) r = cond-false (nat_eq m n && false) true c (and_right (nat_eq m n) false refl)
refused-connects n c (Send m x) r = refl
refused-connects n c (Deliver k) r = refl
refused-connects n c (Tick m) r = refl
refused-connects n c (Suspect m q) r = refl
refused-connects n c (MergeHint m q) r = refl
refused-connects n c (Leave m) r = refl
refused-connects n c (Crash m) r = refl

pub refused-prompt : (t : List Event) (e : WorldEvent) (r : Refusal) (s : List Event) → SendsPromptly t e (Refused r) s
refused-prompt t (Start m) r s = tt
refused-prompt t (Create m) r s = tt
refused-prompt t (Join m x) r s = tt
refused-prompt t (Send m x) r s = tt
refused-prompt t (Deliver k) r s = tt
refused-prompt t (Tick m) r s = tt
refused-prompt t (Suspect m q) r s = tt
refused-prompt t (MergeHint m q) r s = tt
refused-prompt t (Leave m) r s = tt
refused-prompt t (Crash m) r s = tt
