-- How the list of a net grows.
use Rattle.std.proofs.Common.{◌≡◌, ◌≤◌, ℕ, arith, List, [], ◌∷◌, take, length, refl, ap, ◌∙◌, Option, Some, None}
use Rattle.std.specs.Prelude.{slice_get}
use Rattle.std.specs.Prelude.{Result, Ok, Err}
use Rattle.std.specs.Result.{IsErr}
use Rattle.std.proofs.Math.Seq.{take-append_seam, take-length}
use Rattle.udp_net.specs.Logs.{Log, NetEvent, Answered, Lists, failures_after, listing, one_more, receiving}
use Rattle.udp_net.specs.declared.error.Fault.{Fault}
use Rattle.udp_net.specs.declared.net.Received.TheVariants as received
use Rattle.frames.specs.Nets.{Grows}
use Rattle.frames.specs.Arrivals.{GivenIn}
use Rattle.trace_props.proofs.RulesAlongLists.{slice_get-take, slice_get-last}

pub grows-listing : (old new : Option Log) (e : NetEvent) → Lists old (listing e) new → Grows old new
grows-listing old None e x = tt
grows-listing None (Some l) e x = x
grows-listing (Some o) (Some l) e x = rw x (take-append_seam o (e ∷ []))

pub grows-none : (log : Option Log) → Grows log log
grows-none None = tt
grows-none (Some l) = take-length l

-- a beginning of a beginning
take-take : (A : Type 0) (a b c : List A) → take (length a) b ≡ a → take (length b) c ≡ b → take (length a) c ≡ a
take-take A [] b c x y = refl
take-take A (h ∷ a) [] c x y = cc
take-take A (h ∷ a) (k ∷ b) [] x y = cc
take-take A (h ∷ a) (k ∷ b) (m ∷ c) x y =
    let front : k ≡ h = cc in
    let same : m ≡ k = cc in
    let inner : take (length a) b ≡ a = cc in
    let outer : take (length b) c ≡ b = cc in
    let rest : take (length a) c ≡ a = take-take A a b c inner outer in
    cc

pub grows-on : (one two three : Option Log) → Grows one two → Grows two three → Grows one three
grows-on one two None x y = tt
grows-on one None (Some l) x y = absurd y
grows-on None (Some k) (Some l) x y = absurd x
grows-on (Some j) (Some k) (Some l) x y = take-take NetEvent j k l x y

-- what came stays among what came
pub given-on : (o l : Log) (frame : List ℕ) → take (length o) l ≡ o → GivenIn o frame → GivenIn l frame
given-on o l frame e g = (g.0, slice_get-take (length o) l g.0 (Answered (received.Datagram frame)) (ap (λ (x : Log). slice_get x g.0) e ∙ g.1))

pub given-last : (o l : Log) (frame : List ℕ) → l ≡ receiving (received.Datagram frame) o → GivenIn l frame
given-last o l frame e = (length o, ap (λ (x : Log). slice_get x (length o)) e ∙ slice_get-last o (Answered (received.Datagram frame)))

-- what a net lists goes on twice
pub lists-none : (log : Option Log) → Lists log (λ l. l) log
lists-none None = tt
lists-none (Some l) = refl

pub lists-on : (one two three : Option Log) (f g : Log → Log) → Lists one f two → Lists two g three → Lists one (λ l. g (f l)) three
lists-on one two None f g x y = tt
lists-on one None (Some l) f g x y = absurd y
lists-on None (Some k) (Some l) f g x y = absurd x
lists-on (Some j) (Some k) (Some l) f g x y = y ∙ ap g x

-- a count that stays, and one that grows on
pub stays : (n : ℕ) → n ≤ n
stays n = omega arith

pub up : (a b c d : ℕ) → a ≤ b → c ≡ b → c ≤ d → a ≤ d
up a b c d x y z = omega arith

-- what a net failed, behind an error
pub failed-on : {A : Type 0} (one two : ℕ) (r : Result A Fault) → two ≡ one_more one → IsErr r → two ≡ failures_after one r
failed-on one two (Ok x) e is = cc
failed-on one two (Err f) e is = e
