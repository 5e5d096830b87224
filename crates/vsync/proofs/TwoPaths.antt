-- What the grammar makes of `udp` and two paths.
use Rattle.std.proofs.Common.{◌≡◌, ◌∙◌, true, refl, sym, ap, ap₂, subst, codes, List, [], ◌∷◌, Option, Some, IsSomeAnd}
use Rattle.clap.specs.Kinds.{Kinds, or_else}
use Rattle.clap.specs.Words.{Row, Shape, Text, first_of, subcommand_of}
use Rattle.clap.specs.Walk.{Walk, arg_by_index, finished, idle, nothing_held, to_positional, walk, walk_from, walked}
use Rattle.clap.specs.Walk.Step.{value}
use Rattle.clap.specs.Faults.{step_fault, walk_fault}
use Rattle.clap.proofs.OnLiterals.{clap_on_literals}
use Rattle.vsync.specs.Grammar.{program_app}
use Rattle.vsync.specs.Words.{is_path, stray_fault}
use Rattle.vsync.proofs.Entering.{Enters, enters, leaf_fault, passes}
use Rattle.vsync.proofs.OnePath.{Reads, leaf}
use Rattle.vsync.proofs.PlainWords.{fault_plain, plain, standing, walked_plain}

abbrev udp : Shape
udp = leaf (codes "udp")

begins : Enters (codes "udp") udp
unfolding clap_on_literals
begins = record { stops = refl; turns = refl; found = refl; named = refl }

-- what is held behind the first path, and where the walk ends behind the second
abbrev first : Text → Walk
first config = to_positional udp.rules (arg_by_index udp.rules 1) config (walk_from nothing_held) nothing_held

abbrev end : Text → Text → Walk
end config script = to_positional udp.rules (arg_by_index udp.rules 2) script (standing idle 2 (first config).held) (first config).held

abbrev said_by : Text → Text → Text × List Row
said_by config script = (codes "udp", finished udp.rules (end config script).held)

-- the subcommand, with the first values of both arguments
abbrev pub Names : Text → Text → Text × List Row → Type 0
Names config script said = (said.0 ≡ codes "udp") × (first_of (codes "CONFIG") said.1 ≡ Some config) × (first_of (codes "SCRIPT") said.1 ≡ Some script)

second : (config : Text) → first config ≡ standing idle 2 (first config).held
unfolding clap_on_literals
second config = refl

faults : (config script : Text) → ◌≡◌ {A = Kinds × Kinds × Kinds × Kinds} (step_fault udp 1 nothing_held value, step_fault udp 2 (first config).held value, leaf_fault udp [] (end config script), stray_fault (Some (said_by config script))) ([], [], [], [])
unfolding clap_on_literals
faults config script = refl

names : (config script : Text) → Names config script (said_by config script)
unfolding clap_on_literals
names config script = (refl, refl, refl)

pub reads_udp : (word config script : Text) → is_path config ≡ true → is_path script ≡ true → Reads (word ∷ codes "udp" ∷ config ∷ script ∷ []) (Names config script)
unfolding walk_fault
reads_udp word config script one two =
    let none = faults config script in
    let p = plain config one in
    let q = plain script two in
    let there : walked udp.rules [] (walk_from nothing_held) config ≡ standing idle 2 (first config).held = walked_plain udp.rules idle 1 nothing_held config tt p ∙ second config in
    let last = walked_plain udp.rules idle 2 (first config).held script tt q in
    let walks : walk udp.rules [] nothing_held (config ∷ script ∷ []) ≡ end config script = ap (λ (w : Walk). walked udp.rules [] w script) there ∙ last in
    let behind : walk_fault udp [] (standing idle 2 (first config).held) (script ∷ []) ≡ [] =
    fault_plain udp idle 2 (first config).held script [] tt q ∙ ap (λ t. or_else t.1 []) none in
    let clean : walk_fault udp [] (walk_from nothing_held) (config ∷ script ∷ []) ≡ [] =
    fault_plain udp idle 1 nothing_held config (script ∷ []) tt p ∙ ap₂ (λ (t : Kinds × Kinds × Kinds × Kinds) (w : Walk). or_else t.0 (walk_fault udp [] w (script ∷ []))) none there ∙ behind in
    let said : subcommand_of program_app (word ∷ codes "udp" ∷ config ∷ script ∷ []) ≡ Some (said_by config script) =
    enters (codes "udp") udp begins word (config ∷ script ∷ []) ∙ ap (λ (w : Walk). Some (codes "udp", finished udp.rules w.held)) walks in (
      ap₂ or_else (passes (codes "udp") udp begins word (config ∷ script ∷ []) (end config script) clean walks (ap (λ t. t.2) none)) (ap stray_fault said ∙ ap (λ t. t.3) none),
      subst (λ (o : Option (Text × List Row)). IsSomeAnd o (Names config script)) (sym said) (names config script),
    )
