-- What the grammar makes of `check --processes` and any number of paths, by induction over the paths.
use Rattle.std.proofs.Common.{◌≡◌, ◌∙◌, Bool, true, refl, sym, ap, ap₂, subst, codes, List, [], ◌∷◌, ◌++◌, Option, Some, None, fold, IsSomeAnd}
use Rattle.std.specs.Prelude.{unwrap_or}
use Rattle.std.specs.List.{list_all}
use Rattle.std.proofs.lemmas.List.{append_assoc}
use Rattle.clap.specs.Kinds.{Kinds, or_else}
use Rattle.clap.specs.Words.{Row, Shape, Text, all_of, subcommand_of}
use Rattle.clap.specs.Walk.{Held, Walk, arg_by_index, finished, idle, nothing_held, positional, reading_by, to_positional, walk, walk_from, walked}
use Rattle.clap.specs.Walk.Step.{value}
use Rattle.clap.specs.Simple.{new_rule}
use Rattle.clap.specs.Faults.{step_fault, walk_fault}
use Rattle.clap.specs.declared.parser.matches.ValueSource.TheVariants.{CommandLine}
use Rattle.clap.proofs.WalkLemmas.{both}
use Rattle.clap.proofs.OnLiterals.{clap_on_literals}
use Rattle.vsync.specs.declared.kept_words.Kept.{Kept}
use Rattle.vsync.specs.declared.kept_words.Kept.TheVariants as kept
use Rattle.vsync.specs.declared.kept_words.KeptFlags.{KeptFlags}
use Rattle.vsync.specs.Grammar.{program_app}
use Rattle.vsync.specs.Kept.{flags_of, flags_said, stands}
use Rattle.vsync.specs.Words.{is_path, stray_fault, words_for_processes}
use Rattle.vsync.proofs.Entering.{enters, leaf_fault, passes}
use Rattle.vsync.proofs.OnePath.{Reads, begins_check, leaf}
use Rattle.vsync.proofs.PlainWords.{fault_plain, plain, standing, walked_plain}

-- ---- the paths, one by one

abbrev check : Shape
check = leaf (codes "check")

-- what is held behind the flags
abbrev flags_held : Kept → Held
flags_held keeps = (walk check.rules [] nothing_held (words_for_processes keeps)).held

-- these paths were read
abbrev trace_row : List Text → Row
trace_row paths = record {
  id = codes "TRACE";
  values = paths;
  count = None;
  source = Some CommandLine;
  reading = reading_by (unwrap_or (arg_by_index check.rules 1) (new_rule []));
}

abbrev rows_with : Kept → List Text → List Row
rows_with keeps [] = (flags_held keeps).rows
rows_with keeps (p ∷ ps) = (flags_held keeps).rows ++ trace_row (p ∷ ps) ∷ []

-- what is held behind these paths and one more, which is read with the next
abbrev behind : Kept → List Text → Text → Held
behind keeps paths last = record { rows = rows_with keeps paths; pending = Some (codes "TRACE", last ∷ []); skip = 0 }

abbrev waits : Kept → List Text → Text → Walk
waits keeps paths last = standing positional 1 (behind keeps paths last)

-- one path more
next : (keeps : Kept) (paths : List Text) (last path : Text)
    → ◌≡◌ {A = Walk × Kinds} (to_positional check.rules (arg_by_index check.rules 1) path (waits keeps paths last) (behind keeps paths last), step_fault check 1 (behind keeps paths last) value)
    (waits keeps (paths ++ last ∷ []) path, [])
unfolding clap_on_literals
next kept.Chat [] last path = refl
next kept.Chat (p ∷ ps) last path = refl
next kept.LongChat [] last path = refl
next kept.LongChat (p ∷ ps) last path = refl
next kept.Map [] last path = refl
next kept.Map (p ∷ ps) last path = refl
next kept.Locks [] last path = refl
next kept.Locks (p ∷ ps) last path = refl

steps : (keeps : Kept) (paths : List Text) (last path : Text) → is_path path ≡ true → walked check.rules [] (waits keeps paths last) path ≡ waits keeps (paths ++ last ∷ []) path
steps keeps paths last path is = walked_plain check.rules positional 1 (behind keeps paths last) path tt (plain path is) ∙ ap (λ q. q.0) (next keeps paths last path)

-- all paths but the last, and the last
abbrev before_last : List Text → Text → List Text → List Text
before_last paths last [] = paths
before_last paths last (p ∷ ps) = before_last (paths ++ last ∷ []) p ps

abbrev last_of : Text → List Text → Text
last_of last [] = last
last_of last (p ∷ ps) = last_of p ps

all_paths : (paths : List Text) (last : Text) (more : List Text) → before_last paths last more ++ last_of last more ∷ [] ≡ paths ++ last ∷ more
all_paths paths last [] = refl
all_paths paths last (p ∷ ps) = all_paths (paths ++ last ∷ []) p ps ∙ append_assoc paths (last ∷ []) (p ∷ ps)

walks : (keeps : Kept) (paths : List Text) (last : Text) (more : List Text) → list_all is_path more ≡ true
    → fold (walked check.rules []) (waits keeps paths last) more ≡ waits keeps (before_last paths last more) (last_of last more)
walks keeps paths last [] are = refl
walks keeps paths last (p ∷ ps) are =
    let here = both _ _ are in
    ap (λ (w : Walk). fold (walked check.rules []) w ps) (steps keeps paths last p here.0) ∙ walks keeps (paths ++ last ∷ []) p ps here.1

turns : (keeps : Kept) (paths : List Text) (last : Text) (more : List Text) → list_all is_path more ≡ true → walk_fault check [] (waits keeps paths last) more ≡ []
unfolding walk_fault
turns keeps paths last [] are = refl
turns keeps paths last (p ∷ ps) are =
    let here = both _ _ are in
    fault_plain check positional 1 (behind keeps paths last) p ps tt (plain p here.0)
    ∙ ap₂ (λ (k : Kinds) (w : Walk). or_else k (walk_fault check [] w ps)) (ap (λ q. q.1) (next keeps paths last p)) (steps keeps paths last p here.0)
    ∙ turns keeps (paths ++ last ∷ []) p ps here.1

-- the flags, and the first path
begins : (keeps : Kept) (rest : List Text)
    → ◌≡◌ {A = Walk × Kinds} (walk check.rules [] nothing_held (words_for_processes keeps ++ rest), walk_fault check [] (walk_from nothing_held) (words_for_processes keeps ++ rest))
    (fold (walked check.rules []) (walk_from (flags_held keeps)) rest, walk_fault check [] (walk_from (flags_held keeps)) rest)
unfolding clap_on_literals
begins kept.Chat rest = refl
begins kept.LongChat rest = refl
begins kept.Map rest = refl
begins kept.Locks rest = refl

first : (keeps : Kept) (path : Text)
    → ◌≡◌ {A = Walk × Kinds} (to_positional check.rules (arg_by_index check.rules 1) path (walk_from (flags_held keeps)) (flags_held keeps), step_fault check 1 (flags_held keeps) value) (waits keeps [] path, [])
unfolding clap_on_literals
first kept.Chat path = refl
first kept.LongChat path = refl
first kept.Map path = refl
first kept.Locks path = refl

-- where the walk ends
abbrev said_by : Kept → List Text → Text → Text × List Row
said_by keeps paths last = (codes "check", finished check.rules (behind keeps paths last))

-- what is said of the texts of several processes
abbrev Telling : Type 0
Telling = Kinds × Kinds × Bool × KeptFlags × Option (List Text)

ends : (keeps : Kept) (paths : List Text) (last : Text)
    → ◌≡◌ {A = Telling} (leaf_fault check [] (waits keeps paths last), stray_fault (Some (said_by keeps paths last)), stands (codes "processes") (said_by keeps paths last).1, flags_said (said_by keeps paths last), all_of (codes "TRACE") (said_by keeps paths last).1)
    ([], [], true, flags_of keeps, Some (paths ++ last ∷ []))
unfolding clap_on_literals
ends kept.Chat [] last = refl
ends kept.Chat (p ∷ ps) last = refl
ends kept.LongChat [] last = refl
ends kept.LongChat (p ∷ ps) last = refl
ends kept.Map [] last = refl
ends kept.Map (p ∷ ps) last = refl
ends kept.Locks [] last = refl
ends kept.Locks (p ∷ ps) last = refl

-- ---- the words

-- the subcommand says that the texts of these paths are checked, and that their members keep this alone
pub record NamesTexts (keeps : Kept) (paths : List Text) (said : Text × List Row) : Type 0 where
  pub name : said.0 ≡ codes "check"
  pub stand : stands (codes "processes") said.1 ≡ true
  pub flags : flags_said said ≡ flags_of keeps
  pub paths_are : all_of (codes "TRACE") said.1 ≡ Some paths

pub reads_processes : (keeps : Kept) (word path : Text) (others : List Text) → list_all is_path (path ∷ others) ≡ true
    → Reads (word ∷ codes "check" ∷ words_for_processes keeps ++ path ∷ others) (NamesTexts keeps (path ∷ others))
reads_processes keeps word path others are =
    let here = both _ _ are in
    let p = plain path here.0 in
    let words : List Text = words_for_processes keeps ++ path ∷ others in
    let before : List Text = before_last [] path others in
    let last : Text = last_of path others in
    let begun = begins keeps (path ∷ others) in
    let entered : walked check.rules [] (walk_from (flags_held keeps)) path ≡ waits keeps [] path = walked_plain check.rules idle 1 (flags_held keeps) path tt p ∙ ap (λ q. q.0) (first keeps path) in
    let there : walk check.rules [] nothing_held words ≡ waits keeps before last =
    ap (λ q. q.0) begun ∙ (ap (λ (w : Walk). fold (walked check.rules []) w others) entered ∙ walks keeps [] path others here.1) in
    let clean : walk_fault check [] (walk_from nothing_held) words ≡ [] =
    ap (λ q. q.1) begun ∙ (fault_plain check idle 1 (flags_held keeps) path others tt p
    ∙ (ap₂ (λ (k : Kinds) (w : Walk). or_else k (walk_fault check [] w others)) (ap (λ q. q.1) (first keeps path)) entered ∙ turns keeps [] path others here.1)) in
    let said = ends keeps before last in
    let matches : subcommand_of program_app (word ∷ codes "check" ∷ words) ≡ Some (said_by keeps before last) =
    enters (codes "check") check begins_check word words ∙ ap (λ (w : Walk). Some (codes "check", finished check.rules w.held)) there in (
      ap₂ or_else (passes (codes "check") check begins_check word words (waits keeps before last) clean there (ap (λ (q : Telling). q.0) said)) (ap stray_fault matches ∙ ap (λ (q : Telling). q.1) said),
      subst (λ (o : Option (Text × List Row)). IsSomeAnd o (NamesTexts keeps (path ∷ others))) (sym matches) (record {
        name = refl;
        stand = ap (λ (q : Telling). q.2) said;
        flags = ap (λ (q : Telling). q.3) said;
        paths_are = ap (λ (q : Telling). q.4) said ∙ ap Some (all_paths [] path others);
      }),
    )
