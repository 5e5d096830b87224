-- A subcommand's name: behind it all words are those of the subcommand.
use Rattle.std.proofs.Common.{◌≡◌, ◌∙◌, ap, ap₂, refl, true, false, List, [], ◌∷◌, ◌++◌, Option, Some, option_map, is_some, fold, find, sym}
use Rattle.std.specs.Option.{option_map_or}
use Rattle.std.proofs.lemmas.List.{append-nil, append_assoc}
use Rattle.clap.specs.Kinds.{Kinds, or_else}
use Rattle.clap.specs.Words.{App, Row, Rule, Shape, Text, built, fault_of, is_simple_and_free, subcommand_of}
use Rattle.clap.specs.Walk.{Names, Walk, answers_to, finished, nothing_held, rows_after, settled, walk, walk_from, walked}
use Rattle.clap.specs.Simple.{entered, label_of, names_of, rows_at}
use Rattle.clap.specs.Faults.{check_fault, defaults_fault, entered_fault, level_fault, settle_fault, turn_fault, walk_fault}
use Rattle.clap.proofs.FaultLemmas.{stopped_fault}
use Rattle.clap.proofs.OnLiterals.{clap_on_literals}
use Rattle.vsync.specs.Grammar.{program_app}

pub simple : is_simple_and_free program_app ≡ true
unfolding clap_on_literals
simple = refl

-- the program as it is built
abbrev pub program : App
program = built program_app

-- this word names the subcommand of this shape
pub record Enters (name : Text) (leaf : Shape) : Type 0 where
  pub stops : walked program.top.rules (names_of program) (walk_from nothing_held) name ≡ record (walk_from nothing_held) { stopped = Some (name, []) }
  pub turns : turn_fault program.top (names_of program) (walk_from nothing_held) name ≡ []
  pub found : find (λ s. answers_to name (label_of s)) program.subs ≡ Some leaf
  pub named : leaf.name ≡ name

-- the words behind it are kept for the subcommand
stopped_walk : (c : List Rule) (names : Names) (w : Walk) (n : Text) (so_far rest : List Text)
    → fold (walked c names) (record w { stopped = Some (n, so_far) }) rest ≡ record w { stopped = Some (n, so_far ++ rest) }
unfolding walked
stopped_walk c names w n so_far [] = ap (λ (l : List Text). record w { stopped = Some (n, l) }) (sym (append-nil so_far))
stopped_walk c names w n so_far (x ∷ rest) =
    stopped_walk c names w n (so_far ++ x ∷ []) rest ∙ ap (λ (l : List Text). record w { stopped = Some (n, l) }) (append_assoc so_far (x ∷ []) rest)

-- where the walk over the program's own words stands
abbrev stopped : Text → List Text → Walk
stopped name rest = record (walk_from nothing_held) { stopped = Some (name, rest) }

stops_at : (name : Text) (leaf : Shape) → Enters name leaf → (rest : List Text) → walk program.top.rules (names_of program) nothing_held (name ∷ rest) ≡ stopped name rest
stops_at name leaf e rest =
    ap (λ (w : Walk). fold (walked program.top.rules (names_of program)) w rest) e.stops ∙ stopped_walk program.top.rules (names_of program) (walk_from nothing_held) name [] rest

turns_past : (name : Text) (leaf : Shape) → Enters name leaf → (rest : List Text) → walk_fault program.top (names_of program) (walk_from nothing_held) (name ∷ rest) ≡ []
unfolding walk_fault
turns_past name leaf e rest = rw (e.turns, e.stops) (stopped_fault program.top (names_of program) (walk_from nothing_held) (name, []) rest)

finds : (name : Text) (leaf : Shape) → Enters name leaf → (rest : List Text) → entered program (Some (name, rest)) ≡ Some (name, rows_after leaf.rules [] rest)
finds name leaf e rest = ap (option_map (λ s. rows_at s rest)) e.found ∙ ap (λ (n : Text). Some (n, rows_after leaf.rules [] rest)) e.named

-- so its matches are those of its words
pub enters : (name : Text) (leaf : Shape) → Enters name leaf → (word : Text) (rest : List Text) → subcommand_of program_app (word ∷ name ∷ rest) ≡ Some (name, rows_after leaf.rules [] rest)
enters name leaf e word rest = ap (λ (w : Walk). entered program w.stopped) (stops_at name leaf e rest) ∙ finds name leaf e rest

-- what is wrong with a subcommand's words, by their first fault and where their walk ends
abbrev pub leaf_fault : Shape → Kinds → Walk → Kinds
leaf_fault leaf first w =
    or_else first (or_else [] (or_else (settle_fault leaf.rules leaf.args_override_self w.held)
    (or_else (defaults_fault (settled leaf.rules w.held).rows leaf.rules) (check_fault leaf (finished leaf.rules w.held) false))))

-- and with those of the program, by their first fault and where the walk ends
abbrev top_fault : Kinds → Walk → Kinds
top_fault first w =
    or_else first (or_else (entered_fault program w.stopped) (or_else (settle_fault program.top.rules program.top.args_override_self w.held)
    (or_else (defaults_fault (settled program.top.rules w.held).rows program.top.rules)
    (check_fault program.top (finished program.top.rules w.held) (is_some (entered program w.stopped))))))

abbrev stopped_fault_with : Kinds → Option (Text × List Row) → Kinds
stopped_fault_with below said =
    or_else below (or_else (settle_fault program.top.rules program.top.args_override_self nothing_held)
    (or_else (defaults_fault (settled program.top.rules nothing_held).rows program.top.rules)
    (check_fault program.top (finished program.top.rules nothing_held) (is_some said))))

top_is_fine : (said : Text × List Row) → stopped_fault_with [] (Some said) ≡ []
unfolding clap_on_literals
top_is_fine said = refl

below_is : (name : Text) (leaf : Shape) → Enters name leaf → (rest : List Text) → entered_fault program (Some (name, rest)) ≡ level_fault leaf [] nothing_held rest false []
below_is name leaf e rest = ap (λ (o : Option Shape). option_map_or (λ s. level_fault s [] nothing_held rest false []) o []) e.found

-- nothing is wrong where nothing is wrong with its words
pub passes : (name : Text) (leaf : Shape) → Enters name leaf → (word : Text) (rest : List Text) (w : Walk)
    → walk_fault leaf [] (walk_from nothing_held) rest ≡ [] → walk leaf.rules [] nothing_held rest ≡ w → leaf_fault leaf [] w ≡ [] → fault_of program_app (word ∷ name ∷ rest) ≡ []
passes name leaf e word rest w turns ends none =
    let below : entered_fault program (Some (name, rest)) ≡ [] = below_is name leaf e rest ∙ (ap₂ (leaf_fault leaf) turns ends ∙ none) in
    ap₂ top_fault (turns_past name leaf e rest) (stops_at name leaf e rest)
    ∙ (ap₂ stopped_fault_with below (finds name leaf e rest) ∙ top_is_fine (name, rows_after leaf.rules [] rest))
