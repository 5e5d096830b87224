-- How fields, lines and scripts are read.
use Rattle.std.proofs.Common.{◌≡◌, ℕ, ◌+◌, ◌<◌, ◌≤◌, Bool, true, false, List, [], ◌∷◌, ◌++◌, Result, Ok, Err, length, map, take, drop, nat_eq, cond, not, refl, sym, ◌∙◌, ap, arith, append_assoc, append-nil, suc, ◌-◌, ◌*◌, nat_le, get_or, if◌then◌else◌, add-one, drop-cons}
use Rattle.std.proofs.lemmas.Bool.{lt-leb}
use Rattle.std.specs.List.{position_or_len}
use Rattle.world_model.specs.declared.WorldEvent.{WorldEvent}
use Rattle.vsync_text.specs.declared.fault.Fault.{Fault}
use Rattle.vsync_text.specs.Lines.{lines_of, in_front}
use Rattle.vsync_text.specs.Numbers.{value_of, value_after}
use Rattle.vsync_text.specs.Script.{Script, script_by, as_script, event_in_line, with_event}
use Rattle.vsync_text.specs.UdpScript.{udp_script_of, udp_said, numbered}
use Rattle.vsync_text.specs.Texts.{FaultAt, said_by, and_then}
use Rattle.vsync_text.proofs.TextsRead.{AddsAll, with_more, going_on, going_on_is, text_is_going_on}

pub value_grows : (n : ℕ) (digits : List ℕ) → n ≤ value_after n digits
value_grows n [] = omega arith
value_grows n (d ∷ ds) = omega (arith, value_grows (10 * n + (d - 48)) ds)

-- more digits spell no smaller number
pub value_beyond : (digits : List ℕ) (n i high : ℕ) → i < length digits → value_of digits ≡ value_after n (drop i digits)
    → high < 10 * n + (get_or digits i 0 - 48) → nat_le (value_of digits) high ≡ false
value_beyond digits n i high inside goes beyond =
    let far : 10 * n + (get_or digits i 0 - 48) ≤ value_after (10 * n + (get_or digits i 0 - 48)) (drop (i + 1) digits) = value_grows (10 * n + (get_or digits i 0 - 48)) (drop (i + 1) digits) in
    let all : value_of digits ≡ value_after (10 * n + (get_or digits i 0 - 48)) (drop (i + 1) digits) = rw goes (rw (drop-cons digits i 0 inside) (rw add-one refl)) in
    lt-leb (value_of digits) high (omega arith)

abbrev pub is_feed : ℕ → Bool
is_feed b = nat_eq b 10

-- the text from its second byte on
abbrev pub tail_of : List ℕ → List ℕ
tail_of [] = []
tail_of (b ∷ bs) = bs

front_step : (b p : ℕ) (xs : List ℕ) (t : Bool) → lines_of xs ≡ take p xs ∷ lines_of (tail_of (drop p xs))
    → (if t then [] ∷ lines_of xs else in_front b (lines_of xs))
    ≡ take (cond (not t) (1 + p) 0) (b ∷ xs) ∷ lines_of (tail_of (drop (cond (not t) (1 + p) 0) (b ∷ xs)))
front_step b p xs true h = refl
front_step b p xs false h =
    let e : 1 + p ≡ suc p = omega arith in
    rw e (ap (in_front b) h)

-- a text that is not empty is its first line, and the lines behind the first line feed
pub first_of_lines : (text : List ℕ) → 0 < length text
    → lines_of text ≡ take (position_or_len is_feed text) text ∷ lines_of (tail_of (drop (position_or_len is_feed text) text))
first_of_lines [] h = absurd (omega arith)
first_of_lines (b ∷ []) h = elim (nat_eq b 10) as (λ t. (if t then [] ∷ [] else (b ∷ []) ∷ []) ≡ take (cond (not t) 1 0) (b ∷ []) ∷ lines_of (tail_of (drop (cond (not t) 1 0) (b ∷ [])))) [ true ↦ refl | false ↦ refl ]
first_of_lines (b ∷ c ∷ bs) h = front_step b (position_or_len is_feed (c ∷ bs)) (c ∷ bs) (nat_eq b 10) (first_of_lines (c ∷ bs) (omega arith))

-- a script, and all that is said after it
abbrev with_events : Script → List (ℕ × WorldEvent) → Script
with_events s more = record { events = s.events ++ map (λ e. e.1) more; lines = s.lines ++ map (λ e. e.0) more }

adds_events : AddsAll (λ k e. (k, e)) with_event with_events
adds_events = record {
  none = λ s. rw (append-nil s.events, append-nil s.lines) refl;
  one = λ s k e more. rw (append_assoc s.events (e ∷ []) _, append_assoc s.lines (k ∷ []) _) refl;
}

nothing_first : (said : Result (List (ℕ × WorldEvent)) FaultAt) → as_script said ≡ with_more with_events (record { events = []; lines = [] }) said
nothing_first (Ok said) = refl
nothing_first (Err f) = refl

-- a script is read line by line, each on to the script before it
pub script_is_going_on : (payload_of : List ℕ → Result (List ℕ) Fault) (text : List ℕ)
    → script_by payload_of text ≡ going_on (event_in_line payload_of) with_event (record { events = []; lines = [] }) 1 (lines_of text)
script_is_going_on payload_of text =
    nothing_first (said_by (event_in_line payload_of) (λ k e. (k, e)) text)
    ∙ sym (going_on_is (event_in_line payload_of) (λ k e. (k, e)) with_event with_events adds_events _ 1 (lines_of text))

-- and one for nodes over UDP is
pub udp_script_is_going_on : (text : List ℕ) → udp_script_of text ≡ going_on udp_said (and_then numbered) [] 1 (lines_of text)
udp_script_is_going_on text = text_is_going_on udp_said numbered text
