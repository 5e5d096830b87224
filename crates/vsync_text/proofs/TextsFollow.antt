-- Texts that a writer took one after another, and beginnings of them.
use Rattle.std.proofs.Common.{◌≡◌, ℕ, ◌+◌, ◌≤◌, List, [], ◌++◌, length, take, Bool, true, false, Result, Ok, Err, OnOk, OnErr, is_ok, IfSome, unwrap_or, Option, Some, None, refl, sym, ap, ◌∙◌, subst, arith, ◌<◌, ◌⊎◌, inl, inr}
use Rattle.std.specs.List.{concat}
use Rattle.std.proofs.lemmas.Bool.{cases_lt}
use Rattle.std.proofs.lemmas.List.{append-nil, take_all, take-append-le}
use Rattle.std.proofs.Math.Seq.{take-append-add, take-append_seam}
use Rattle.std.specs.Io.KnownBytes.{Appends, Keeps}
use Rattle.vsync_text.specs.declared.status.Status.{Status}
use Rattle.vsync_text.specs.declared.status.Status.TheVariants.{Done, Memory, Outside}
use Rattle.vsync_text.specs.declared.script.Script.{Script}
use Rattle.vsync_text.specs.declared.fault.Fault.{Fault}
use Rattle.vsync_text.specs.Script.{script_by, fault_number}
use Rattle.vsync_text.specs.Outcomes.{Ends, IsLinesText, IsFaultText, IsUnreadText, IsScriptText, IsAnswer, Written, ReadsScript, memory_line}
use Rattle.vsync_text.specs.Outcomes.IsUnreadText.{Faulty, Unread}
use Rattle.vsync_text.specs.Outcomes.IsScriptText.{Runs, Unrun}
use Rattle.vsync_text.specs.Outcomes.IsAnswer.{ReaderFails, Answers}
use Rattle.vsync_text.specs.Outcomes.IsLinesText.{Printed, Unprinted}
use Rattle.vsync_text.specs.Outcomes.Ends.{Whole, Cut}
use Rattle.vsync_text.proofs.LinesWritten.{appends_then}

-- what keeps its bytes after a text has taken that text
pub appends-kept : (a b c : Option (List ℕ)) (x : List ℕ) → Appends a b x → Keeps b c → Appends a c x
appends-kept None b c x f k = tt
appends-kept (Some p) None c x f k = absurd f
appends-kept (Some p) (Some q) None x f k = absurd k
appends-kept (Some p) (Some q) (Some r) x f k = k ∙ f

-- a text, and then another with which the command ends
pub ends-then : (a b c : Option (List ℕ)) (x y : List ℕ) (meant status : Status) → Appends a b x → Ends b c y meant status → Ends a c (x ++ y) meant status
ends-then a b c x y meant status f (Whole g) = Whole (appends_then a b c x y f g)
ends-then a b c x y meant status f (Cut count g) = Cut (length x + count) (subst (λ l. Appends a c l) (sym (take-append-add x y count)) (appends_then a b c x (take count y) f g))

-- a writer that took all it was given and then failed took a beginning
pub ends-late : (a b c : Option (List ℕ)) (x : List ℕ) (meant : Status) → Appends a b x → Keeps b c → Ends a c x meant Outside
ends-late a b c x meant f k = Cut (length x) (subst (λ l. Appends a c l) (sym (take_all (length x) x (omega arith))) (appends-kept a b c x f k))

-- a beginning of a text is a beginning of what is longer
beginning-of : (n : ℕ) (xs ys : List ℕ) → (b : (n < length xs) ⊎ (length xs ≤ n)) → (m : ℕ) × (take n xs ≡ take m (xs ++ ys))
beginning-of n xs ys (inl lt) = (n, sym (take-append-le n xs ys (omega arith)))
beginning-of n xs ys (inr le) = (length xs, take_all n xs le ∙ sym (take-append_seam xs ys))

-- the text that ends for want of memory after all lines
all-lines : (lines : List (List ℕ)) (whole : Bool) → IsLinesText lines whole Memory (concat lines ++ memory_line)
all-lines lines whole =
    subst (λ (l : List (List ℕ)). IsLinesText lines whole Memory (concat l ++ memory_line)) (take_all (length lines) lines (omega arith)) (Unprinted (length lines))

-- the writer failed within the lines
pub prints-failed : (lines : List (List ℕ)) (whole : Bool) (a b : Option (List ℕ)) (n : ℕ) → Appends a b (take n (concat lines)) → Written (IsLinesText lines whole) a b Outside
prints-failed lines whole a b n f =
    let text = concat lines in
    let longer : (m : ℕ) × (take n text ≡ take m (text ++ memory_line)) = beginning-of n text memory_line (cases_lt n (length text)) in
    record { meant = Memory; text = text ++ memory_line; says = all-lines lines whole; ends = Cut longer.0 (subst (λ l. Appends a b l) longer.1 f) }

-- memory was refused within the lines
pub prints-some : (lines : List (List ℕ)) (whole : Bool) (a b c : Option (List ℕ)) (status : Status) (n : ℕ)
    → Appends a b (concat (take n lines)) → Ends b c memory_line Memory status → Written (IsLinesText lines whole) a c status
prints-some lines whole a b c status n f e = record {
  meant = Memory;
  text = concat (take n lines) ++ memory_line;
  says = Unprinted n;
  ends = ends-then a b c (concat (take n lines)) memory_line Memory status f e;
}

-- memory was refused before there were more lines
pub prints-part : (lines : List (List ℕ)) (whole : Bool) (a b c : Option (List ℕ)) (status : Status)
    → Appends a b (concat lines) → Ends b c memory_line Memory status → Written (IsLinesText lines whole) a c status
prints-part lines whole a b c status f e = record {
  meant = Memory;
  text = concat lines ++ memory_line;
  says = all-lines lines whole;
  ends = ends-then a b c (concat lines) memory_line Memory status f e;
}

-- all is printed
pub prints-all : (lines : List (List ℕ)) (whole : Bool) (a b c : Option (List ℕ)) (status : Status) → whole ≡ true
    → Appends a b (concat lines) → Ends b c [] Done status → Written (IsLinesText lines whole) a c status
prints-all lines whole a b c status all f e = record {
  meant = Done;
  text = concat lines;
  says = Printed all;
  ends = subst (λ l. Ends a c l Done status) (append-nil (concat lines)) (ends-then a b c (concat lines) [] Done status f e);
}

-- a text of all lines ended the command
pub lines-ended : (lines : List (List ℕ)) (a c : Option (List ℕ)) (status : Status) (text : List ℕ) → text ≡ concat lines → Ends a c text Done status → Written (IsLinesText lines true) a c status
lines-ended lines a c status text all e = record { meant = Done; text = text; says = subst (λ (x : List ℕ). IsLinesText lines true Done x) (sym all) (Printed refl); ends = e }

-- the writer took the first few lines, and then there was no memory for more
pub lines-cut : (lines : List (List ℕ)) (whole : Bool) (a b c : Option (List ℕ)) (status : Status) (text : List ℕ) → (n : ℕ) × (text ≡ concat (take n lines))
    → Appends a b text → Ends b c memory_line Memory status → Written (IsLinesText lines whole) a c status
lines-cut lines whole a b c status text few f e = prints-some lines whole a b c status few.0 (subst (λ (x : List ℕ). Appends a b x) few.1 f) e

-- the writer failed within the first few lines
pub lines-failed : (lines : List (List ℕ)) (whole : Bool) (a b : Option (List ℕ)) (text : List ℕ) → (n : ℕ) × (text ≡ concat (take n lines))
    → (m : ℕ) × Appends a b (take m text) → Written (IsLinesText lines whole) a b Outside
lines-failed lines whole a b text few part =
    let front : List ℕ = concat (take few.0 lines) in
    let longer : (m : ℕ) × (take part.0 front ≡ take m (front ++ memory_line)) = beginning-of part.0 front memory_line (cases_lt part.0 (length front)) in
    record {
      meant = Memory;
      text = front ++ memory_line;
      says = Unprinted few.0;
      ends = Cut longer.0 (subst (λ (x : List ℕ). Appends a b x) (ap (take part.0) few.1 ∙ longer.1) part.1);
    }

-- a text to which all lines were appended, and nothing else
pub appended-all : {A E : Type 0} (r : Result A E) (lines : List (List ℕ)) (old text taken : List ℕ) → old ≡ [] → OnOk r (text ≡ old ++ concat lines) → taken ≡ text → OnOk r (taken ≡ concat lines)
appended-all (Ok x) lines old text taken none is same = same ∙ is ∙ ap (λ (x : List ℕ). x ++ concat lines) none
appended-all (Err e) lines old text taken none is same = tt

-- a text to which the first few lines were appended, and nothing else
pub appended-some : {A E : Type 0} (r : Result A E) (lines : List (List ℕ)) (old text taken : List ℕ) → old ≡ [] → OnErr r ((n : ℕ) × (text ≡ old ++ concat (take n lines))) → taken ≡ text
    → OnErr r ((n : ℕ) × (taken ≡ concat (take n lines)))
appended-some (Ok x) lines old text taken none is same = tt
appended-some (Err e) lines old text taken none is same = (is.0, same ∙ is.1 ∙ ap (λ (x : List ℕ). x ++ concat (take is.0 lines)) none)

-- what holds of an error, where there is one
pub of-error : {A E : Type 0} (r : Result A E) (P : Type 0) → OnErr r P → false ≡ is_ok r → P
of-error (Ok x) P p is = absurd (let bad : false ≡ true = is in cc)
of-error (Err e) P p is = p

-- what holds of a success, where there is one
pub of-success : {A E : Type 0} (r : Result A E) (P : Type 0) → OnOk r P → true ≡ is_ok r → P
of-success (Ok x) P p is = p
of-success (Err e) P p is = absurd (let bad : true ≡ false = is in cc)

-- a text of one kind is one of another
pub written-as : (P Q : Status → List ℕ → Type 0) (a b : Option (List ℕ)) (status : Status) → ((s : Status) (t : List ℕ) → P s t → Q s t) → Written P a b status → Written Q a b status
written-as P Q a b status f w = record { meant = w.meant; text = w.text; says = f w.meant w.text w.says; ends = w.ends }

-- an answer of one kind is one of another
pub answer-as : (P Q : List ℕ → Status → List ℕ → Type 0) (left a b : Option (List ℕ)) (status : Status) → ((bytes : List ℕ) (s : Status) (t : List ℕ) → P bytes s t → Q bytes s t)
    → IsAnswer P left a b status → IsAnswer Q left a b status
answer-as P Q left a b status f (ReaderFails none) = ReaderFails none
answer-as P Q left a b status f (Answers bytes _ is w) = Answers bytes status is (written-as (P bytes) (Q bytes) a b status (f bytes) w)

-- what a reader has left, if that is known
pub left-of : (left : Option (List ℕ)) → IfSome left (λ all. unwrap_or left [] ≡ all)
left-of None = tt
left-of (Some all) = refl

-- memory was refused before the script was read
pub unread-text : (payload_of : List ℕ → Result (List ℕ) Fault) (left a b : Option (List ℕ)) (status : Status) → Ends a b memory_line Memory status → IsAnswer (IsUnreadText payload_of) left a b status
unread-text payload_of left a b status e = Answers (unwrap_or left []) status (left-of left) (record { meant = Memory; text = memory_line; says = Unread; ends = e })

-- the script was read and has a fault
pub fault-text : (payload_of : List ℕ → Result (List ℕ) Fault) (left a b : Option (List ℕ)) (bytes : List ℕ) (line : ℕ) (fault : Fault) (status : Status) → IfSome left (λ all. bytes ≡ all) → script_by payload_of bytes ≡ Err (record { line = line; fault = fault })
    → Written (IsFaultText line (fault_number fault)) a b status → IsAnswer (IsUnreadText payload_of) left a b status
fault-text payload_of left a b bytes line fault status is read w =
    Answers bytes status is (written-as (IsFaultText line (fault_number fault)) (IsUnreadText payload_of bytes) a b status (λ s t says. Faulty line fault s t read says) w)

-- what was written after nothing
pub after-none : (P : Status → List ℕ → Type 0) (a b c : Option (List ℕ)) (status : Status) → Appends a b [] → Written P b c status → Written P a c status
after-none P a b c status none w = record { meant = w.meant; text = w.text; says = w.says; ends = ends-then a b c [] w.text w.meant status none w.ends }

-- the script was read, and what it comes to was printed
pub ran-text : (payload_of : List ℕ → Result (List ℕ) Fault) (Prints : Script → Status → List ℕ → Type 0) (left a b c : Option (List ℕ)) (script : Script) (status : Status) → ReadsScript payload_of left a b (Ok script) → Written (Prints script) b c status
    → IsAnswer (IsScriptText payload_of Prints) left a c status
ran-text payload_of Prints left a b c script status read w =
    let bytes : List ℕ = read.0 in
    Answers bytes status read.1
    (written-as (Prints script) (IsScriptText payload_of Prints bytes) a c status (λ s t says. Runs script s t read.2 says) (after-none (Prints script) a b c status read.3 w))

-- it was not read, and why was printed
pub unrun-text : (payload_of : List ℕ → Result (List ℕ) Fault) (Prints : Script → Status → List ℕ → Type 0) (left a b : Option (List ℕ)) (status : Status) → IsAnswer (IsUnreadText payload_of) left a b status → IsAnswer (IsScriptText payload_of Prints) left a b status
unrun-text payload_of Prints left a b status w = answer-as (IsUnreadText payload_of) (IsScriptText payload_of Prints) left a b status (λ bytes s t says. Unrun s t says) w
