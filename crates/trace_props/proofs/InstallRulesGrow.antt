-- What one more event changes of rules on each install, and on each two.
use Rattle.std.proofs.Common.{◌≡◌, ℕ, List, [], ◌∷◌, ◌++◌, length, Some, None, slice_get, sym, ap, ◌∙◌, subst, ◌⊎◌, inl, inr, ⊎_elim}
use Rattle.std.proofs.lemmas.Option.{none-some, same_Some}
use Rattle.trace_props.specs.declared.event.Event.{Event}
use Rattle.trace_props.specs.declared.event.Event.TheVariants.{Installed}
use Rattle.trace_props.specs.declared.event.Install.{Install}
use Rattle.trace_props.specs.Observed.{install_of}
use Rattle.trace_props.specs.Rules.{EachTwoInstalls}
use Rattle.trace_props.proofs.RulesAlongLists.{slice_get-push, slice_get-before, slice_get-last}

-- an install of the longer trace stood there before, or is the newest event
pub install-push : (t : List Event) (h : Event) (k : ℕ) (e : Install) → slice_get (t ++ h ∷ []) k ≡ Some (Installed e) → (slice_get t k ≡ Some (Installed e)) ⊎ (install_of h ≡ Some e)
install-push t h k e s = ⊎_elim (λ a. inl a) (λ b. inr (ap install_of b.1)) (slice_get-push t h k (Installed e) s)

-- P of each install
abbrev pub EachInstall : (Install → Type 0) → List Event → Type 0
EachInstall P t = (k : ℕ) (e : Install) → slice_get t k ≡ Some (Installed e) → P e

-- an event that is no install keeps a rule on installs
pub EachInstall-still : (P Q : Install → Type 0) (t : List Event) (h : Event) → ((e : Install) → P e → Q e) → install_of h ≡ None → EachInstall P t → EachInstall Q (t ++ h ∷ [])
EachInstall-still P Q t h change none each k e s =
    ⊎_elim (λ (a : slice_get t k ≡ Some (Installed e)). change e (each k e a)) (λ (b : install_of h ≡ Some e). absurd (none-some e (sym none ∙ b))) (install-push t h k e s)

-- an install that meets it keeps it
pub EachInstall-push : (P Q : Install → Type 0) (t : List Event) (i : Install) → ((e : Install) → P e → Q e) → EachInstall P t → Q i → EachInstall Q (t ++ Installed i ∷ [])
EachInstall-push P Q t i change each new k e s =
    ⊎_elim (λ (a : slice_get t k ≡ Some (Installed e)). change e (each k e a)) (λ (b : Some i ≡ Some e). subst Q (same_Some i e b) new) (install-push t (Installed i) k e s)

-- an event that is no install keeps a rule on two installs
pub EachTwoInstalls-still : (P Q : Install → Install → Type 0) (t : List Event) (h : Event) → ((e f : Install) → P e f → Q e f) → install_of h ≡ None → EachTwoInstalls P t → EachTwoInstalls Q (t ++ h ∷ [])
EachTwoInstalls-still P Q t h change none each j k e f a b =
    EachInstall-still (λ g. P e g) (λ g. Q e g) t h (λ g x. change e g x) none
    (λ n g c. EachInstall-still (λ y. P y g) (λ y. P y g) t h (λ y x. x) none (λ m y x. each m n y g x c) j e a) k f b

-- an install that meets it with each that stands there and with itself keeps it
pub EachTwoInstalls-push : (P Q : Install → Install → Type 0) (t : List Event) (i : Install) → ((e f : Install) → P e f → Q e f) → EachTwoInstalls P t
    → EachInstall (λ e. Q e i) t → EachInstall (λ e. Q i e) t → Q i i → EachTwoInstalls Q (t ++ Installed i ∷ [])
EachTwoInstalls-push P Q t i change each left right new j k e f a b =
    EachInstall-push (λ g. Q e g) (λ g. Q e g) t i (λ g x. x)
    (λ n g c. EachInstall-push (λ y. P y g) (λ y. Q y g) t i (λ y x. change y g x) (λ m y x. each m n y g x c) (right n g c) j e a)
    (EachInstall-push (λ y. Q y i) (λ y. Q y i) t i (λ y x. x) left new j e a) k f b

-- what held of all installs held of those before
pub EachTwoInstalls-before : (P Q : Install → Install → Type 0) (t u : List Event) → ((e f : Install) → P e f → Q e f) → EachTwoInstalls P (t ++ u) → EachTwoInstalls Q t
EachTwoInstalls-before P Q t u change each j k e f a b = change e f (each j k e f (slice_get-before t u j (Installed e) a) (slice_get-before t u k (Installed f) b))

-- and of the newest with each
pub EachTwoInstalls-left : (P : Install → Install → Type 0) (t : List Event) (i : Install) → EachTwoInstalls P (t ++ Installed i ∷ []) → EachInstall (λ e. P e i) t
EachTwoInstalls-left P t i each k e s = each k (length t) e i (slice_get-before t (Installed i ∷ []) k (Installed e) s) (slice_get-last t (Installed i))

pub EachTwoInstalls-right : (P : Install → Install → Type 0) (t : List Event) (i : Install) → EachTwoInstalls P (t ++ Installed i ∷ []) → EachInstall (λ e. P i e) t
EachTwoInstalls-right P t i each k e s = each (length t) k i e (slice_get-last t (Installed i)) (slice_get-before t (Installed i ∷ []) k (Installed e) s)

-- and of the newest with itself
pub EachTwoInstalls-last : (P : Install → Install → Type 0) (t : List Event) (i : Install) → EachTwoInstalls P (t ++ Installed i ∷ []) → P i i
EachTwoInstalls-last P t i each = each (length t) (length t) i i (slice_get-last t (Installed i)) (slice_get-last t (Installed i))
