-- One more event of a list is recorded.
use Rattle.std.proofs.Common.{◌≡◌, ℕ, ◌+◌, ◌≤◌, List, [], ◌∷◌, ◌++◌, length, suc, sym, ap, ◌∙◌, arith, append_assoc}
use Rattle.std.specs.List.{slice_get}
use Rattle.trace_props.specs.declared.event.Event.{Event}
use Rattle.trace_props.specs.Recorded.{IsRecordable}

pub recorded-on : (t now start all left rest : List Event) (x : Event) → t ++ left ≡ start ++ all → left ≡ x ∷ rest → now ≡ t ++ x ∷ [] → now ++ rest ≡ start ++ all
recorded-on t now start all left rest x put next more =
    ap (λ (u : List Event). u ++ rest) more ∙ append_assoc t (x ∷ []) rest ∙ ap (λ (u : List Event). t ++ u) (sym next) ∙ put

pub room-on : (left rest : List Event) (x : Event) (room now : ℕ) → length left ≤ room → left ≡ x ∷ rest → now + 1 ≡ room → length rest ≤ now
room-on left rest x room now fits next more = let e : length left ≡ suc (length rest) = ap length next in omega arith

pub short-on : (left rest : List Event) (x : Event) → IsRecordable left → left ≡ x ∷ rest → IsRecordable rest
short-on left rest x short next k h at = short (suc k) h (ap (λ (l : List Event). slice_get l (suc k)) next ∙ at)
