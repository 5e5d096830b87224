-- A word that is no flag goes to the argument whose turn it is, whatever the rules are.
use Rattle.std.proofs.Common.{◌≡◌, ◌==◌, ℕ, true, false, refl, List, [], ◌∷◌, None, eqb-true, arith, length, Bool}
use Rattle.std.specs.Str.{bytes_eq}
use Rattle.clap.specs.Kinds.{or_else}
use Rattle.clap.specs.Lexer.{long_of, short_of}
use Rattle.clap.specs.Words.{Rule, Shape, Text}
use Rattle.clap.specs.Walk.{Held, Waiting, Walk, arg_by_index, idle, is_empty, option, positional, to_positional, walked}
use Rattle.clap.specs.Walk.Step.{value}
use Rattle.clap.specs.Faults.{step_fault, walk_fault}
use Rattle.vsync.specs.Words.{is_path}

-- a word that is neither `--`, nor a long flag, nor short ones
abbrev pub IsPlain : Text → Type 0
IsPlain word = (bytes_eq word (45 ∷ 45 ∷ []) ≡ false) × (long_of word ≡ None) × (short_of word ≡ None)

-- as each path is: the empty one, `-`, and each with a first letter other than `-`
pub plain : (path : Text) → is_path path ≡ true → IsPlain path
plain [] is = (refl, refl, refl)
plain (x ∷ xs) is = go (x == 45) refl
  where
    other : (x == 45) ≡ false → IsPlain (x ∷ xs)
    other e = (simp e refl, simp e refl, simp e refl)

    go : (b : Bool) → (x == 45) ≡ b → IsPlain (x ∷ xs)
    go false e = other e
    go true e = one_dash xs (rw e at is)
      where
        one_dash : (rest : Text) → is_empty rest ≡ true → IsPlain (x ∷ rest)
        one_dash [] none = rw (eqb-true x 45 e) (refl, refl, refl)
        one_dash (y ∷ ys) none =
            let short : length (y ∷ ys) ≡ 0 = eqb-true (length (y ∷ ys)) 0 none in
            absurd (omega arith)

-- where the walk stands, waits for this, and has come to this argument
abbrev pub standing : Waiting → ℕ → Held → Walk
standing waiting i held = record { held = held; waiting = waiting; position = i; is_trailing = false; stopped = None }

-- no option waits for a value
abbrev pub IsFree : Waiting → Type 0
IsFree (option id) = ⊥
IsFree _ = Unit {0}

pub walked_plain : (c : List Rule) (waiting : Waiting) (i : ℕ) (h : Held) (word : Text) → IsFree waiting → IsPlain word
    → walked c [] (standing waiting i h) word ≡ to_positional c (arg_by_index c i) word (standing waiting i h) h
unfolding walked
walked_plain c idle i h word free p = rw (p.0, p.1, p.2) refl
walked_plain c positional i h word free p = rw (p.0, p.1, p.2) refl
walked_plain c (option id) i h word free p = absurd free

-- and nothing is wrong with it but what is wrong there
pub fault_plain : (s : Shape) (waiting : Waiting) (i : ℕ) (h : Held) (word : Text) (rest : List Text) → IsFree waiting → IsPlain word
    → walk_fault s [] (standing waiting i h) (word ∷ rest) ≡ or_else (step_fault s i h value) (walk_fault s [] (walked s.rules [] (standing waiting i h) word) rest)
unfolding walk_fault
fault_plain s idle i h word rest free p = rw (p.0, p.1, p.2) refl
fault_plain s positional i h word rest free p = rw (p.0, p.1, p.2) refl
fault_plain s (option id) i h word rest free p = absurd free
