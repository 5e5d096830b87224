-- What is kept of what is shown.
use Rattle.std.proofs.Common.{◌≡◌, Bool, true, false, cond, not, ◌||◌, ◌&&◌, List, [], ◌∷◌, Option, Some, refl, sym, ap, ◌∙◌}
use Rattle.std.specs.Option.{option_map_or}
use Rattle.std.specs.List.{list_any}
use Rattle.std.specs.HashSet.{HashSet, contains}
use Rattle.trace_merge.specs.declared.fact.Fact.{Fact}
use Rattle.trace_merge.specs.declared.fact.Fact.TheVariants.{Sent, Delivered, Installed}
use Rattle.trace_merge.specs.contracts.fact.FactPartialEq.TheImpl.{ghosts as fact_ghosts}
use Rattle.trace_merge.specs.Facts.{same_fact}

cond-or : (a b : Bool) → cond a true b ≡ (a || b)
cond-or true b = refl
cond-or false b = refl

cond-not : (a b : Bool) → cond a false b ≡ (b && not a)
cond-not true true = refl
cond-not true false = refl
cond-not false true = refl
cond-not false false = refl

-- one more is kept
pub shown-or : (f : Fact) (o : Option Fact) (fact : Fact) (b : Bool) → o ≡ Some fact → cond (same_fact fact f) true b ≡ (option_map_or (λ s. same_fact s f) o false || b)
shown-or f o fact b is = cond-or (same_fact fact f) b ∙ ap (λ (p : Option Fact). option_map_or (λ s. same_fact s f) p false || b) (sym is)

-- one is struck, or nothing
pub struck : (f : Fact) (o : Option Fact) (fact : Fact) (b : Bool) → o ≡ Some fact → cond (same_fact fact f) false b ≡ (b && not (option_map_or (λ s. same_fact s f) o false))
struck f o fact b is = cond-not (same_fact fact f) b ∙ ap (λ (p : Option Fact). b && not (option_map_or (λ s. same_fact s f) p false)) (sym is)

-- what Rust's `==` of facts is
pub fact-eq : (a b : Fact) → fact_ghosts.eq a b ≡ same_fact a b
fact-eq (Sent a) (Sent b) = refl
fact-eq (Sent a) g = refl
fact-eq (Delivered p a) (Delivered q b) = refl
fact-eq (Delivered p a) g = refl
fact-eq (Installed p v) (Installed q w) = refl
fact-eq (Installed p v) g = refl

any-same : (p q : Fact → Bool) → ((x : Fact) → p x ≡ q x) → (xs : List Fact) → list_any p xs ≡ list_any q xs
any-same p q same [] = refl
any-same p q same (x ∷ xs) = ap (λ (b : Bool). b || list_any p xs) (same x) ∙ ap (λ (b : Bool). q x || b) (any-same p q same xs)

-- so what a set of them has
pub has-same : {S : Type 0} (s : HashSet Fact S) (f : Fact) → contains fact_ghosts.eq s f ≡ contains same_fact s f
has-same s f = any-same (fact_ghosts.eq f) (same_fact f) (fact-eq f) s.keys

-- after one was kept, or struck
pub kept : {S : Type 0} (old new : HashSet Fact S) (fact f : Fact) (o : Option Fact) → o ≡ Some fact → contains fact_ghosts.eq new f ≡ cond (fact_ghosts.eq fact f) true (contains fact_ghosts.eq old f)
    → contains same_fact new f ≡ (option_map_or (λ s. same_fact s f) o false || contains same_fact old f)
kept old new fact f o is updates =
    sym (has-same new f) ∙ updates ∙ ap (λ (b : Bool). cond b true (contains fact_ghosts.eq old f)) (fact-eq fact f)
    ∙ ap (λ (b : Bool). cond (same_fact fact f) true b) (has-same old f) ∙ shown-or f o fact (contains same_fact old f) is

pub gone : {S : Type 0} (old new : HashSet Fact S) (fact f : Fact) (o : Option Fact) → o ≡ Some fact → contains fact_ghosts.eq new f ≡ cond (fact_ghosts.eq fact f) false (contains fact_ghosts.eq old f)
    → contains same_fact new f ≡ (contains same_fact old f && not (option_map_or (λ s. same_fact s f) o false))
gone old new fact f o is updates =
    sym (has-same new f) ∙ updates ∙ ap (λ (b : Bool). cond b false (contains fact_ghosts.eq old f)) (fact-eq fact f)
    ∙ ap (λ (b : Bool). cond (same_fact fact f) false b) (has-same old f) ∙ struck f o fact (contains same_fact old f) is
