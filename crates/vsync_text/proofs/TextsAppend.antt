-- Texts that are appended one behind another.
use Rattle.std.proofs.Common.{◌≡◌, ℕ, ◌+◌, ◌<◌, List, ◌++◌, length, take, get_or, sym, ap, ◌∙◌, subst, append_assoc}
use Rattle.std.specs.Prelude.{flat_map}
use Rattle.vsync_text.specs.Written.{TextModel, Appends}
use Rattle.vsync_text.proofs.KeepFront.{next_text}

-- the same bytes are appended
pub same-text : {x y : List ℕ} {a b : TextModel} → x ≡ y → Appends x a b → Appends y a b
same-text {a = a} {b = b} e f = subst (λ (t : List ℕ). Appends t a b) e f

pub appends-two : {x y : List ℕ} {a b c : TextModel} → Appends x a b → Appends y b c → Appends (x ++ y) a c
appends-two {x = x} {y = y} {a = a} f g = record {
  whole = λ e. f.whole (g.whole e);
  text = λ e. g.text e ∙ ap (λ u. u ++ y) (f.text (g.whole e)) ∙ append_assoc a.items x y;
}

pub appends-three : {x y z : List ℕ} {a b c d : TextModel} → Appends x a b → Appends y b c → Appends z c d → Appends (x ++ y ++ z) a d
appends-three f g h = appends-two (appends-two f g) h

pub appends-four : {x y z w : List ℕ} {a b c d e : TextModel} → Appends x a b → Appends y b c → Appends z c d → Appends w d e → Appends (x ++ y ++ z ++ w) a e
appends-four f g h k = appends-two (appends-three f g h) k

-- one text more of those that stand one behind another, where `d` stands for what is not there
pub appends-at : {X : Type 0} (f : X → List ℕ) (xs : List X) (i : ℕ) (x d : X) (a b c : TextModel) → x ≡ get_or xs i d → i < length xs → Appends (flat_map f (take i xs)) a b → Appends (f x) b c → Appends (flat_map f (take (i + 1) xs)) a c
appends-at f xs i x d a b c at inside so_far more = record {
  whole = λ e. so_far.whole (more.whole e);
  text = λ e.
      more.text e ∙ ap (λ t. t ++ f x) (so_far.text (more.whole e)) ∙ append_assoc a.items _ _ ∙ ap (λ t. a.items ++ t) (sym (next_text f xs i x d at inside));
}

-- one text more
pub appends-next : {X : Type 0} (f : X → List ℕ) (xs : List X) (i : ℕ) (x : X) (a b c : TextModel) → x ≡ get_or xs i x → i < length xs → Appends (flat_map f (take i xs)) a b → Appends (f x) b c → Appends (flat_map f (take (i + 1) xs)) a c
appends-next f xs i x a b c at inside so_far more = appends-at f xs i x x a b c at inside so_far more
