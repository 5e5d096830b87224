-- How many keys a table has, and whether a list may be one of nodes.
use Rattle.std.proofs.Common.{◌≡◌, suc, Bool, true, false, List, [], ◌∷◌, length, refl, ap, if◌then◌else◌}
use Rattle.std.specs.Prelude.{String}
use Rattle.std.specs.declared.alloc.Global.{Global}
use Rattle.toml.specs.declared.value.Value.{Value}
use Rattle.toml.specs.View.{members_view, items_view}
use Rattle.udp_net.specs.Settings.{key_count, item_count}

pub keys-are : (es : List (String Global × Value)) → key_count (members_view es) ≡ length es
keys-are [] = refl
keys-are (e ∷ es) = ap suc (keys-are es)

pub items-are : (vs : List Value) → item_count (items_view vs) ≡ length vs
items-are [] = refl
items-are (v ∷ vs) = ap suc (items-are vs)

pub tested : {A : Type 0} (b : Bool) (x y : A) → b ≡ true → (if b then x else y) ≡ x
tested true x y e = refl
tested false x y e = absurd (let n : false ≡ true = e in cc)

pub untested : {A : Type 0} (b : Bool) (x y : A) → b ≡ false → (if b then x else y) ≡ y
untested false x y e = refl
untested true x y e = absurd (let n : true ≡ false = e in cc)
