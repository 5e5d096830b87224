-- Who goes into a view as it was instructed: it meets all who came from the same view at one end of its order, and knows who they are.
use Rattle.std.proofs.Common.{◌≡◌, Bool, true, false, cond, Option, Some, None, List, [], ◌∷◌, length, filter, refl, sym, ap, ◌∙◌, ◌⊎◌, inl, inr}
use Rattle.std.specs.Prelude.{◌↔◌}
use Rattle.std.specs.Option.{option_map, option_map_or, option_eq}
use Rattle.std.proofs.lemmas.Bool.{cond-false, or_left, or_right}
use Rattle.std.proofs.lemmas.Option.{same_Some}
use Rattle.address.specs.Ids.{Address, ViewId, same_address, same_view_id}
use Rattle.view.specs.Members.{stands_in}
use Rattle.wire_values.specs.Values.{Report}
use Rattle.wire_values.specs.Values as wire
use Rattle.trace_props.specs.declared.event.Install.{Install}
use Rattle.trace_props.specs.Observed.{entry_of}
use Rattle.address.proofs.SameIds.{same_address-true, same_view_id-true, same_view_id-refl}
use Rattle.law_acts.specs.Words.{list_of}
use Rattle.law_acts.specs.Histories.{History, report_of, install_of, goes_from, goes_with}
use Rattle.law_acts.specs.Packets.{end_of, IsLed, IsFitting, IsEntry}
use Rattle.law_acts.specs.Invariant.{EachEntry}
use Rattle.law_acts.proofs.ActBegins.{or-cases}
use Rattle.address.proofs.Plain.{found}

-- ---- what is there

-- who is no coordinator goes from where it reported
pub goes-reported : (h : History) (w : ViewId) (q : Address) (r : Report) → same_address q w.creator ≡ false → report_of q w h.pool ≡ Some r → goes_from h w q ≡ Some r.previous
goes-reported h w q r other report = cond-false (same_address q w.creator) _ _ other ∙ ap (option_map (λ (z : Report). z.previous)) report

-- ---- one end

-- two who come from one view into another delivered its order up to one end
same-end-by : (b : Bool) (h : History) (w v : ViewId) (p q : Address) (i : wire.Install) (r : Report) (f : Install) → same_address q w.creator ≡ b → IsLed h w i → IsFitting h w p i r
    → r.previous ≡ Some v → IsEntry h q w f → entry_of q w h.trace ≡ Some f → f.previous ≡ Some v → length (list_of q v h.trace) ≡ end_of i
same-end-by true h w v p q i r f test led fits mine x entry from =
    let coordinator = same_address-true q w.creator test in
    ap (λ z. length (list_of z v h.trace)) coordinator ∙ fits.coordinator f v (ap (λ z. entry_of z w h.trace) (sym coordinator) ∙ entry) from mine
same-end-by false h w v p q i r f test led fits mine x entry from =
    let j = found (install_of w q h.pool) (x.instructed test) in
    let s = found (report_of q w h.pool) (led.answered q j.0 j.1) in
    let came : s.0.previous ≡ f.previous = same_Some s.0.previous f.previous (sym (goes-reported h w q s.0 test s.1) ∙ x.from) in
    x.end j.0 v test j.1 from ∙ fits.same q j.0 s.0 j.1 s.1 (came ∙ from ∙ sym mine)

pub same-end : (h : History) (w v : ViewId) (p q : Address) (i : wire.Install) (r : Report) (f : Install) → IsLed h w i → IsFitting h w p i r → r.previous ≡ Some v → EachEntry h
    → entry_of q w h.trace ≡ Some f → f.previous ≡ Some v → length (list_of q v h.trace) ≡ end_of i
same-end h w v p q i r f led fits mine each entry from = same-end-by (same_address q w.creator) h w v p q i r f refl led fits mine (each q w f entry) entry from

-- ---- who is together

both-ways : (b c : Bool) (test : Address → Bool) (q x : Address) (rest : List Address) → same_address q x ≡ b → test x ≡ c → stands_in q (cond c (x ∷ rest) rest) ≡ true
    → ((stands_in q rest ≡ true) → (test q ≡ true)) → test q ≡ true
both-ways true true test q x rest e t there later = ap test (same_address-true q x e) ∙ t
both-ways false true test q x rest e t there later = later (by (or-cases (same_address q x) (stands_in q rest) there))
  where
    by : (same_address q x ≡ true) ⊎ (stands_in q rest ≡ true) → stands_in q rest ≡ true
    by (inl y) = absurd (let n : true ≡ false = sym y ∙ e in cc)
    by (inr y) = y
both-ways b false test q x rest e t there later = later there

-- who is kept by a filter passes
pub filter-passes : (test : Address → Bool) (q : Address) (l : List Address) → stands_in q (filter test l) ≡ true → test q ≡ true
filter-passes test q [] there = absurd (let n : false ≡ true = there in cc)
filter-passes test q (x ∷ l) there = both-ways (same_address q x) (test x) test q x (filter test l) refl refl there (filter-passes test q l)

keeps-by : (c : Bool) (q x : Address) (rest : List Address) → (same_address q x ≡ true) ⊎ (stands_in q rest ≡ true) → (same_address q x ≡ true → c ≡ true) → stands_in q (cond c (x ∷ rest) rest) ≡ true
keeps-by true q x rest (inl e) t = or_left (same_address q x) (stands_in q rest) e
keeps-by true q x rest (inr e) t = or_right (same_address q x) (stands_in q rest) e
keeps-by false q x rest (inl e) t = absurd (let n : false ≡ true = t e in cc)
keeps-by false q x rest (inr e) t = e

-- who passes is kept
pub filter-keeps : (test : Address → Bool) (q : Address) (l : List Address) → stands_in q l ≡ true → test q ≡ true → stands_in q (filter test l) ≡ true
filter-keeps test q [] there passes = there
filter-keeps test q (x ∷ l) there passes =
    keeps-by (test x) q x (filter test l) (later (or-cases (same_address q x) (stands_in q l) there) (filter-keeps test q l)) (λ e. ap test (sym (same_address-true q x e)) ∙ passes)
  where
    later : (same_address q x ≡ true) ⊎ (stands_in q l ≡ true) → (stands_in q l ≡ true → test q ≡ true → stands_in q (filter test l) ≡ true)
        → (same_address q x ≡ true) ⊎ (stands_in q (filter test l) ≡ true)
    later (inl e) rec = inl e
    later (inr e) rec = inr (rec e passes)

pub same-previous : (a b : Option ViewId) → option_eq same_view_id a b ≡ true → a ≡ b
same-previous None None e = refl
same-previous None (Some v) e = absurd (let n : false ≡ true = e in cc)
same-previous (Some u) None e = absurd (let n : false ≡ true = e in cc)
same-previous (Some u) (Some v) e = ap Some (same_view_id-true u v e)

pub previous-refl : (a : Option ViewId) → option_eq same_view_id a a ≡ true
previous-refl None = refl
previous-refl (Some v) = same_view_id-refl v

-- among those who come from a view is exactly who comes from there
pub together-exact : (h : History) (w : ViewId) (from came : Option ViewId) (q : Address) (members : List Address) → stands_in q members ≡ true → goes_from h w q ≡ Some came
    → (stands_in q (filter (goes_with h w from) members) ≡ true) ↔ (came ≡ from)
together-exact h w from came q members listed goes =
    let test : goes_with h w from q ≡ option_eq same_view_id came from = ap (λ o. option_map_or (λ u. option_eq same_view_id u from) o false) goes in (
      λ there. same-previous came from (sym test ∙ filter-passes (goes_with h w from) q members there),
      λ same. filter-keeps (goes_with h w from) q members listed (test ∙ ap (option_eq same_view_id came) (sym same) ∙ previous-refl came),
    )
