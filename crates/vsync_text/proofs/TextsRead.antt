-- How a text is read: line by line, and each line on to what was read before it.
use Rattle.std.proofs.Common.{◌≡◌, ℕ, ◌+◌, List, [], ◌∷◌, ◌++◌, Option, None, Some, Result, Ok, Err, slice_get, refl, sym, ◌∙◌, ap, append_assoc, append-nil}
use Rattle.std.specs.List.{enumerate_from, cons_option, filter_map}
use Rattle.vsync_text.specs.declared.fault.Fault.{Fault}
use Rattle.vsync_text.specs.Lines.{lines_of}
use Rattle.vsync_text.specs.Texts.{FaultAt, reading_by, fault_in, said_in, unless_fault, said_in_lines, said_by, after_line, and_then}

abbrev pub then_on : {S : Type 0} → (S → Result S FaultAt) → Result S FaultAt → Result S FaultAt
then_on more (Ok s) = more s
then_on more (Err f) = Err f

-- lines from a number on are read on to what was read before them
abbrev pub going_on : {A S : Type 0} → (List ℕ → Result A Fault) → (S → ℕ → A → S) → S → ℕ → List (List ℕ) → Result S FaultAt
going_on says add s k [] = Ok s
going_on says add s k (line ∷ lines) = then_on (λ t. going_on says add t (k + 1) lines) (after_line add s k (reading_by says line))

-- what was read, with all that is said after it
abbrev pub with_more : {B S : Type 0} → (S → List B → S) → S → Result (List B) FaultAt → Result S FaultAt
with_more all s (Ok more) = Ok (all s more)
with_more all s (Err f) = Err f

-- adding what lines say one by one is adding all of it
pub record AddsAll {A B S : Type 0} (keep : ℕ → A → B) (add : S → ℕ → A → S) (all : S → List B → S) : Type 0 where
  pub none : (s : S) → all s [] ≡ s
  pub one : (s : S) (k : ℕ) (x : A) (more : List B) → all (add s k x) more ≡ all s (keep k x ∷ more)

one_first : {A B S : Type 0} (keep : ℕ → A → B) (add : S → ℕ → A → S) (all : S → List B → S) → AddsAll keep add all
    → (s : S) (k : ℕ) (x : A) (f : Option FaultAt) (more : List B)
    → with_more all (add s k x) (unless_fault f more) ≡ with_more all s (unless_fault f (keep k x ∷ more))
one_first keep add all h s k x (Some f) more = refl
one_first keep add all h s k x None more = ap Ok (h.one s k x more)

abbrev faults_from : {A : Type 0} → (List ℕ → Result A Fault) → ℕ → List (List ℕ) → List FaultAt
faults_from says k lines = filter_map (λ l. fault_in l.0 (reading_by says l.1)) (enumerate_from k lines)

abbrev kept_from : {A B : Type 0} → (List ℕ → Result A Fault) → (ℕ → A → B) → ℕ → List (List ℕ) → List B
kept_from says keep k lines = filter_map (λ l. said_in keep l.0 (reading_by says l.1)) (enumerate_from k lines)

join_step : {A B S : Type 0} (says : List ℕ → Result A Fault) (keep : ℕ → A → B) (add : S → ℕ → A → S) (all : S → List B → S) → AddsAll keep add all
    → (s : S) (k : ℕ) (lines : List (List ℕ)) (said : Result (Option A) Fault)
    → ((t : S) → going_on says add t (k + 1) lines ≡ with_more all t (said_in_lines says keep (enumerate_from (k + 1) lines)))
    → then_on (λ t. going_on says add t (k + 1) lines) (after_line add s k said)
    ≡ with_more all s (unless_fault (slice_get (cons_option (fault_in k said) (faults_from says (k + 1) lines)) 0)
    (cons_option (said_in keep k said) (kept_from says keep (k + 1) lines)))
join_step says keep add all a s k lines (Ok None) h = h s
join_step says keep add all a s k lines (Ok (Some x)) h = h (add s k x) ∙ one_first keep add all a s k x _ _
join_step says keep add all a s k lines (Err f) h = refl

-- reading lines on is adding what they say
pub going_on_is : {A B S : Type 0} (says : List ℕ → Result A Fault) (keep : ℕ → A → B) (add : S → ℕ → A → S) (all : S → List B → S) → AddsAll keep add all
    → (s : S) (k : ℕ) (lines : List (List ℕ)) → going_on says add s k lines ≡ with_more all s (said_in_lines says keep (enumerate_from k lines))
going_on_is says keep add all a s k [] = ap Ok (sym (a.none s))
going_on_is says keep add all a s k (line ∷ lines) = join_step says keep add all a s k lines (reading_by says line) (λ t. going_on_is says keep add all a t (k + 1) lines)

appends_all : {A B : Type 0} (keep : ℕ → A → B) → AddsAll keep (and_then keep) (λ s more. s ++ more)
appends_all keep = record { none = λ s. append-nil s; one = λ s k x more. append_assoc s (keep k x ∷ []) more }

nothing_first : {B : Type 0} (said : Result (List B) FaultAt) → said ≡ with_more (λ s more. s ++ more) [] said
nothing_first (Ok s) = refl
nothing_first (Err f) = refl

-- what a text says is read line by line, each behind those before it
pub text_is_going_on : {A B : Type 0} (says : List ℕ → Result A Fault) (keep : ℕ → A → B) (text : List ℕ)
    → said_by says keep text ≡ going_on says (and_then keep) [] 1 (lines_of text)
text_is_going_on says keep text =
    nothing_first (said_by says keep text) ∙ sym (going_on_is says keep (and_then keep) (λ s more. s ++ more) (appends_all keep) [] 1 (lines_of text))
