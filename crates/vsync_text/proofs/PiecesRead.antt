-- How the text of a trace is read of a reader, piece by piece.
use Rattle.std.proofs.Common.{◌≡◌, ℕ, ◌<◌, List, [], ◌++◌, Option, None, Some, Result, IfSome, length, take, unwrap_or, sym, ◌∙◌, ap, subst, append_assoc, append-nil}
use Rattle.std.specs.Io.KnownBytes.{Keeps, Consumes, IsAtEnd}
use Rattle.std.proofs.KnownBytes.{Consumes-nil, Consumes-trans}
use Rattle.trace_props.specs.declared.event.Event.{Event}
use Rattle.vsync_text.specs.Texts.{FaultAt, IsUnread}
use Rattle.vsync_text.specs.declared.fault.Unread.{Unread}
use Rattle.vsync_text.specs.declared.fault.Unread.TheVariants as unread
use Rattle.vsync_text.specs.Traces.{trace_of}
use Rattle.vsync_text.specs.Pieces.{text_from, Told, IsUntold, untold_of, Gave}
use Rattle.vsync_text.proofs.TracesRead.{trace_is_text_from}

kept_first : (a b c : Option (List ℕ)) (bs : List ℕ) → Keeps a b → Consumes b c bs → Consumes a c bs
kept_first None b c bs p q = tt
kept_first (Some x) None c bs p q = absurd p
kept_first (Some x) (Some y) None bs p q = absurd q
kept_first (Some x) (Some y) (Some z) bs p q = sym p ∙ q

-- a read gives bytes, after some that gave nothing
pub gives : (old mid new : Option (List ℕ)) (buffer : List ℕ) (count : ℕ) → Keeps old mid → Consumes mid new (take count buffer)
    → (count ≡ 0 → 0 < length buffer → IsAtEnd new) → 0 < length buffer → Gave old new (take count buffer) count
gives old mid new buffer count k c end some = (kept_first old mid new _ k c, λ z. (ap (λ n. take n buffer) z, end z some))

-- what was seen of a reader says what was read, going on with what is not yet read
pub record SoFar (old new : Option (List ℕ)) (t : List Event) (k : ℕ) (text : List ℕ) : Type 0 where
  pub seen : List ℕ
  pub consumed : Consumes old new seen
  pub goes : (more : List ℕ) → trace_of (seen ++ more) ≡ text_from t k (text ++ more)

pub nothing_yet : (old : Option (List ℕ)) (t : List Event) (text : List ℕ) → t ≡ [] → text ≡ [] → SoFar old old t 1 text
nothing_yet old t text no_event no_text = record {
  seen = [];
  consumed = Consumes-nil old;
  goes = λ more. trace_is_text_from more ∙ ap (λ s. text_from s 1 more) (sym no_event) ∙ ap (λ l. text_from t 1 (l ++ more)) (sym no_text);
}

-- a piece was taken, behind the text
abbrev pub Taken : Option (List ℕ) → Option (List ℕ) → List ℕ → List ℕ → ℕ → Type 0
Taken mid new text items count = (piece : List ℕ) × (items ≡ text ++ piece) × Gave mid new piece count

gave_more : (old mid new : Option (List ℕ)) (t : List Event) (k : ℕ) (text piece : List ℕ) (count : ℕ) → SoFar old mid t k text → Gave mid new piece count
    → SoFar old new t k (text ++ piece)
gave_more old mid new t k text piece count s g = record {
  seen = s.seen ++ piece;
  consumed = Consumes-trans old mid new s.seen piece s.consumed g.0;
  goes = λ more. ap trace_of (append_assoc s.seen piece more) ∙ s.goes (piece ++ more) ∙ ap (text_from t k) (sym (append_assoc text piece more));
}

-- one more piece
pub taken : (old mid new : Option (List ℕ)) (t : List Event) (k : ℕ) (text items : List ℕ) (count : ℕ) → SoFar old mid t k text → Taken mid new text items count
    → SoFar old new t k items
taken old mid new t k text items count s g = subst (SoFar old new t k) (sym g.1) (gave_more old mid new t k text g.0 count s g.2)

pub at_end : (mid new : Option (List ℕ)) (text items : List ℕ) (count : ℕ) → Taken mid new text items count → count ≡ 0 → IsAtEnd new
at_end mid new text items count g z = (g.2.1 z).1

-- some lines are read
pub lines_gone : (old new : Option (List ℕ)) (t u : List Event) (k n : ℕ) (text slice left : List ℕ) → SoFar old new t k text → slice ≡ text
    → ((more : List ℕ) → text_from t k (slice ++ more) ≡ text_from u n (left ++ more)) → SoFar old new u n left
lines_gone old new t u k n text slice left s e h =
    record { seen = s.seen; consumed = s.consumed; goes = λ more. s.goes more ∙ ap (λ l. text_from t k (l ++ more)) (sym e) ∙ h more }

all_seen : (old new : Option (List ℕ)) (seen : List ℕ) → Consumes old new seen → IsAtEnd new → IfSome old (λ all. seen ≡ all)
all_seen None new seen c e = tt
all_seen (Some x) None seen c e = absurd c
all_seen (Some x) (Some y) seen c e = sym (c ∙ ap (λ l. seen ++ l) e ∙ append-nil seen)

-- the reader is at its end
pub all_told : (old new : Option (List ℕ)) (t : List Event) (k : ℕ) (text slice : List ℕ) (said : Result (List Event) FaultAt) → SoFar old new t k text → IsAtEnd new
    → slice ≡ text → text_from t k slice ≡ said → Told old said
all_told old new t k text slice said s e l h = record {
  bytes = s.seen;
  whole = all_seen old new s.seen s.consumed e;
  says = ap trace_of (sym (append-nil s.seen)) ∙ s.goes [] ∙ ap (text_from t k) (append-nil text ∙ sym l) ∙ h;
}

pub end_untold : (old new : Option (List ℕ)) (t : List Event) (k : ℕ) (text slice : List ℕ) (u : Unread) → SoFar old new t k text → IsAtEnd new
    → slice ≡ text → IsUnread (text_from t k slice) u → IsUntold old (untold_of u)
end_untold old new t k text slice (unread.Fault n f) s e l h = all_told old new t k text slice _ s e l h
end_untold old new t k text slice unread.Memory s e l h = tt

rest_seen : (old new : Option (List ℕ)) (seen : List ℕ) → Consumes old new seen → IfSome old (λ all. (seen ++ unwrap_or new []) ≡ all)
rest_seen None new seen c = tt
rest_seen (Some x) None seen c = absurd c
rest_seen (Some x) (Some y) seen c = sym c

-- a line is not read, whatever stands behind it
pub untold_at : (old new : Option (List ℕ)) (t : List Event) (k : ℕ) (text slice : List ℕ) (u : Unread) → SoFar old new t k text → slice ≡ text
    → ((more : List ℕ) → IsUnread (text_from t k (slice ++ more)) u) → IsUntold old (untold_of u)
untold_at old new t k text slice (unread.Fault n f) s l h =
    let more = unwrap_or new [] in
    record { bytes = s.seen ++ more; whole = rest_seen old new s.seen s.consumed; says = s.goes more ∙ ap (λ x. text_from t k (x ++ more)) (sym l) ∙ h more }
untold_at old new t k text slice unread.Memory s l h = tt

-- a line of a vector's text is not read, whatever stands behind it
pub unread_there : (t : List Event) (k : ℕ) (slice text : List ℕ) (u : Unread) → slice ≡ text → ((more : List ℕ) → IsUnread (text_from t k (slice ++ more)) u)
    → (more : List ℕ) → IsUnread (text_from t k (text ++ more)) u
unread_there t k slice text u l h more = subst (λ x. IsUnread (text_from t k (x ++ more)) u) l (h more)
