-- The coordinator of a view puts out an instruction to each of a list: what is then first put out for each, and what it keeps.
use Rattle.std.proofs.Common.{◌≡◌, ℕ, zero, suc, Bool, true, false, cond, not, Option, Some, None, List, [], ◌∷◌, ◌++◌, map, refl, sym, ap, ◌∙◌, subst, ◌⊎◌, inl, inr}
use Rattle.std.specs.Prelude.{slice_get, length, ◌+◌, ◌-◌, ◌/◌}
use Rattle.std.specs.List.{flat_map, range_with_len}
use Rattle.std.specs.Option.{option_or}
use Rattle.std.proofs.lemmas.Bool.{cond-true, cond-false, or_left, or_right, not-true}
use Rattle.std.proofs.lemmas.Option.{none-some, same_Some}
use Rattle.address.specs.Ids.{Address, ViewId, same_address, same_view_id}
use Rattle.view.specs.Members.{stands_in}
use Rattle.address.specs.declared.limits.TheConstants.{CHUNK}
use Rattle.wire_values.specs.Values.{Report}
use Rattle.wire_values.specs.Values as wire
use Rattle.wire_values.specs.declared.values.state.GivenState.{GivenState}
use Rattle.wire_values.specs.declared.values.state.GivenState.TheVariants as forms
use Rattle.wire_values.specs.declared.packet.Body.TheVariants as bodies
use Rattle.wire_values.specs.Posted.{Posted, packet}
use Rattle.flush.specs.Cuts.{first_of}
use Rattle.address.proofs.Plain.{option_or-none}
use Rattle.address.proofs.SameIds.{same_address-refl, same_address-true, same_address-sym, same_view_id-from}
use Rattle.law_acts.specs.Histories.{flush_in, report_by, install_to, flush_of, report_of, install_of}
use Rattle.law_acts.specs.Cores.{install_sent_to}
use Rattle.law_acts.specs.Given.{chunk_at}
use Rattle.law_acts.specs.Acts.{others_of, chunk_packets, instructing_one}
use Rattle.law_acts.proofs.Lists.{first_of-append, first_of-none, first_of-still, slice_get-split, slice_get-one}
use Rattle.law_acts.proofs.ActBegins.{or-cases}
use Rattle.law_acts.proofs.EntrantsMeet.{filter-passes}

-- an instruction for each of a list
abbrev pub kept_by : (Address → wire.Install) → List Address → List (Address × wire.Install)
kept_by g list = map (λ q. (q, g q)) list

-- and the packets with them, each behind the chunks of the state that it gives
abbrev pub instructing : Address → ViewId → List ℕ → (Address → wire.Install) → List Address → List Posted
instructing p v state g list = flat_map (instructing_one p v state) (kept_by g list)

-- what holds of the packet with each chunk of a state
pub chunk-each : (P : Posted → Type 0) (p q : Address) (v : ViewId) (state : List ℕ) (given : GivenState) → ((k : ℕ) → P (packet p (bodies.State v (chunk_at state k)) q))
    → (n : ℕ) (m : Posted) → slice_get (chunk_packets p q v state given) n ≡ Some m → P m
chunk-each P p q v state forms.Nothing each n m at = absurd (none-some m at)
chunk-each P p q v state (forms.Whole bytes) each n m at = absurd (none-some m at)
chunk-each P p q v state (forms.Chunked total) each n m at = all (range_with_len 1 ((length state + (CHUNK - 1)) / CHUNK)) n m at
  where
    all : (l : List ℕ) (i : ℕ) (y : Posted) → slice_get (map (λ chunk. packet p (bodies.State v chunk) q) (map (chunk_at state) l)) i ≡ Some y → P y
    all [] i y there = absurd (none-some y there)
    all (k ∷ l) zero y there = subst P (same_Some (packet p (bodies.State v (chunk_at state k)) q) y there) (each k)
    all (k ∷ l) (suc i) y there = all l i y there

-- ---- who stands in a filtered list

-- who is among the others of a list is another
pub others-other : (p q : Address) (list : List Address) → stands_in q (others_of p list) ≡ true → same_address q p ≡ false
others-other p q list there = not-true (same_address q p) (filter-passes (λ r. not (same_address r p)) q list there)

-- ---- what is kept

kept-by : (b : Bool) (g : Address → wire.Install) (q x : Address) (o : Option wire.Install) → same_address q x ≡ b → (b ≡ false → o ≡ Some (g q)) → cond b (Some (g x)) o ≡ Some (g q)
kept-by true g q x o e later = ap (λ r. Some (g r)) (sym (same_address-true q x e))
kept-by false g q x o e later = later refl

-- for each of the list its instruction is kept
pub kept-there : (g : Address → wire.Install) (q : Address) (list : List Address) → stands_in q list ≡ true → install_sent_to q (kept_by g list) ≡ Some (g q)
kept-there g q [] there = absurd (let n : false ≡ true = there in cc)
kept-there g q (x ∷ list) there =
    kept-by (same_address q x) g q x (install_sent_to q (kept_by g list)) refl (λ other. kept-there g q list (by (or-cases (same_address q x) (stands_in q list) there) other))
  where
    by : (same_address q x ≡ true) ⊎ (stands_in q list ≡ true) → same_address q x ≡ false → stands_in q list ≡ true
    by (inl e) other = absurd (let n : true ≡ false = sym e ∙ other in cc)
    by (inr e) other = e

which-by : (b : Bool) (g : Address → wire.Install) (q x : Address) (list : List Address) (i : wire.Install) → same_address q x ≡ b
    → (install_sent_to q (kept_by g list) ≡ Some i → (stands_in q list ≡ true) × (i ≡ g q)) → cond b (Some (g x)) (install_sent_to q (kept_by g list)) ≡ Some i → (stands_in q (x ∷ list) ≡ true) × (i ≡ g q)
which-by true g q x list i e later there =
    (or_left (same_address q x) (stands_in q list) e, sym (same_Some (g x) i there) ∙ ap g (sym (same_address-true q x e)))
which-by false g q x list i e later there = let y = later there in (or_right (same_address q x) (stands_in q list) y.0, y.1)

-- and what is kept for an address is the instruction of one of the list
pub kept-which : (g : Address → wire.Install) (q : Address) (list : List Address) (i : wire.Install) → install_sent_to q (kept_by g list) ≡ Some i → (stands_in q list ≡ true) × (i ≡ g q)
kept-which g q [] i there = absurd (none-some i there)
kept-which g q (x ∷ list) i there = which-by (same_address q x) g q x list i refl (kept-which g q list i) there

-- ---- the packets

-- what holds of the packet to each of the list, and of each chunk, holds of all
pub instructing-each : (P : Posted → Type 0) (p : Address) (v : ViewId) (state : List ℕ) (g : Address → wire.Install) (list : List Address)
    → ((q : Address) (k : ℕ) → P (packet p (bodies.State v (chunk_at state k)) q)) → ((q : Address) → stands_in q list ≡ true → P (packet p (bodies.Install (g q)) q))
    → (n : ℕ) (m : Posted) → slice_get (instructing p v state g list) n ≡ Some m → P m
instructing-each P p v state g [] chunk each n m at = absurd (none-some m at)
instructing-each P p v state g (x ∷ list) chunk each n m at =
    slice_get-split P (chunk_packets p x v state (g x).state ++ packet p (bodies.Install (g x)) x ∷ []) (instructing p v state g list)
    (slice_get-split P (chunk_packets p x v state (g x).state) (packet p (bodies.Install (g x)) x ∷ [])
    (chunk-each P p x v state (g x).state (λ k. chunk x k))
    (slice_get-one P (packet p (bodies.Install (g x)) x) (each x (or_left (same_address x x) (stands_in x list) (same_address-refl x)))))
    (instructing-each P p v state g list chunk (λ q there. each q (or_right (same_address q x) (stands_in q list) there))) n m at

found-by : (b : Bool) (w : ViewId) (q x : Address) (i : wire.Install) (o k : Option wire.Install) → same_address q x ≡ b → i.view.id ≡ w → o ≡ k
    → option_or (cond (same_address x q) (cond (same_view_id i.view.id w) (Some i) None) None) o ≡ cond b (Some i) k
found-by true w q x i o k e view same =
    ap (λ t. option_or t o) (cond-true (same_address x q) (cond (same_view_id i.view.id w) (Some i) None) None (same_address-sym x q ∙ e) ∙ cond-true (same_view_id i.view.id w) (Some i) None (same_view_id-from i.view.id w view))
found-by false w q x i o k e view same =
    ap (λ t. option_or t o) (cond-false (same_address x q) (cond (same_view_id i.view.id w) (Some i) None) None (same_address-sym x q ∙ e)) ∙ same

-- no chunk instructs
no-instruction : (b : Bool) → cond {A = Option wire.Install} b None None ≡ None
no-instruction true = refl
no-instruction false = refl

-- the first instruction that an address finds among them is what is kept for it
instructing-first : (p : Address) (v : ViewId) (state : List ℕ) (w : ViewId) (q : Address) (g : Address → wire.Install) (list : List Address) → ((r : Address) → (g r).view.id ≡ w)
    → first_of (install_to q w) (instructing p v state g list) ≡ install_sent_to q (kept_by g list)
instructing-first p v state w q g [] views = refl
instructing-first p v state w q g (x ∷ list) views =
    let front = chunk_packets p x v state (g x).state in
    let mine = packet p (bodies.Install (g x)) x in
    let rest = instructing p v state g list in
    let none : first_of (install_to q w) front ≡ None =
    first_of-none (install_to q w) front (chunk-each (λ m. install_to q w m ≡ None) p x v state (g x).state (λ k. no-instruction (same_address x q))) in
    let one : first_of (install_to q w) (front ++ mine ∷ []) ≡ option_or (install_to q w mine) None =
    first_of-append (install_to q w) front (mine ∷ []) ∙ ap (λ o. option_or o (first_of (install_to q w) (mine ∷ []))) none in
    first_of-append (install_to q w) (front ++ mine ∷ []) rest
    ∙ ap (λ o. option_or o (first_of (install_to q w) rest)) (one ∙ option_or-none (install_to q w mine))
    ∙ found-by (same_address q x) w q x (g x) (first_of (install_to q w) rest) (install_sent_to q (kept_by g list)) refl (views x) (instructing-first p v state w q g list views)

-- so where nothing was put out for the view, what is put out is what is kept
pub install-kept : (p : Address) (v : ViewId) (state : List ℕ) (w : ViewId) (q : Address) (g : Address → wire.Install) (list : List Address) (pool : List Posted) → ((r : Address) → (g r).view.id ≡ w) → install_of w q pool ≡ None
    → install_of w q (pool ++ instructing p v state g list) ≡ install_sent_to q (kept_by g list)
unfolding install_of
install-kept p v state w q g list pool views none =
    first_of-append (install_to q w) pool (instructing p v state g list) ∙ ap (λ o. option_or o (first_of (install_to q w) (instructing p v state g list))) none ∙ instructing-first p v state w q g list views

nothing-by : (b c : Bool) (i : wire.Install) → c ≡ false → cond b (cond c (Some i) None) None ≡ None
nothing-by true c i e = cond-false c (Some i) None e
nothing-by false c i e = refl

-- of other views nothing is said
pub install-still : (p : Address) (v : ViewId) (state : List ℕ) (u : ViewId) (q : Address) (g : Address → wire.Install) (list : List Address) (pool : List Posted) → ((r : Address) → same_view_id (g r).view.id u ≡ false)
    → install_of u q (pool ++ instructing p v state g list) ≡ install_of u q pool
unfolding install_of
install-still p v state u q g list pool views =
    first_of-still (install_to q u) pool (instructing p v state g list)
    (instructing-each (λ m. install_to q u m ≡ None) p v state g list (λ r k. no-instruction (same_address r q)) (λ r there. nothing-by (same_address r q) (same_view_id (g r).view.id u) (g r) (views r)))

-- nothing is reported by them
pub instructing-reports : (p : Address) (v : ViewId) (state : List ℕ) (q : Address) (u : ViewId) (g : Address → wire.Install) (list : List Address) (pool : List Posted)
    → report_of q u (pool ++ instructing p v state g list) ≡ report_of q u pool
unfolding report_of
instructing-reports p v state q u g list pool =
    first_of-still (report_by q u) pool (instructing p v state g list) (instructing-each (λ m. report_by q u m ≡ None) p v state g list (λ r k. by (same_address p q)) (λ r there. by (same_address p q)))
  where
    by : (b : Bool) → cond {A = Option Report} b None None ≡ None
    by true = refl
    by false = refl

-- and nothing announced
pub instructing-announces : (p : Address) (v : ViewId) (state : List ℕ) (u : ViewId) (g : Address → wire.Install) (list : List Address) (pool : List Posted) → flush_of u (pool ++ instructing p v state g list) ≡ flush_of u pool
unfolding flush_of
instructing-announces p v state u g list pool =
    first_of-still (λ (m : Posted). flush_in u m.body) pool (instructing p v state g list) (instructing-each (λ m. flush_in u m.body ≡ None) p v state g list (λ r k. refl) (λ r there. refl))
