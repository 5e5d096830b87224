-- What the grammar makes of a subcommand, its flags and one path.
use Rattle.std.proofs.Common.{◌≡◌, ◌∙◌, Bool, true, false, refl, sym, ap, ap₂, subst, codes, List, [], ◌∷◌, ◌++◌, Option, Some, IfSome, IsSomeAnd, fold, find}
use Rattle.std.specs.Prelude.{unwrap_or}
use Rattle.clap.specs.Kinds.{Kinds, or_else}
use Rattle.clap.specs.Words.{Row, Shape, Text, first_of, subcommand_of}
use Rattle.clap.specs.Walk.{Held, Walk, answers_to, arg_by_index, finished, idle, nothing_held, to_positional, walk, walk_from, walked}
use Rattle.clap.specs.Walk.Step.{value}
use Rattle.clap.specs.Simple.{label_of, new_shape}
use Rattle.clap.specs.Faults.{step_fault, walk_fault}
use Rattle.clap.proofs.OnLiterals.{clap_on_literals}
use Rattle.vsync.specs.declared.kept_words.Kept.{Kept}
use Rattle.vsync.specs.declared.kept_words.Kept.TheVariants as kept
use Rattle.vsync.specs.declared.kept_words.KeptFlags.{KeptFlags}
use Rattle.vsync.specs.declared.text_words.Task.{Task}
use Rattle.vsync.specs.declared.text_words.Task.TheVariants.{World, States, Packets, Settle, SettleDeliver, Check, Draw, DrawPackets, DrawTrace}
use Rattle.vsync.specs.Kept.{flags_of, flags_said}
use Rattle.vsync.specs.Grammar.{program_app}
use Rattle.vsync.specs.Words.{faults_of, is_path, is_stray, stray_fault, task_said, text_argument, words_for}
use Rattle.vsync.proofs.Entering.{Enters, enters, leaf_fault, passes, program}
use Rattle.vsync.proofs.PlainWords.{fault_plain, plain, walked_plain}

-- the shape of the subcommand of this name
abbrev pub leaf : Text → Shape
leaf name = unwrap_or (find (λ s. answers_to name (label_of s)) program.subs) (new_shape [])

-- what it holds behind these flags, where its walk ends behind a path, and its matches then
abbrev pub held : Text → List Text → Held
held name flags = (walk (leaf name).rules [] nothing_held flags).held

abbrev pub end : Text → List Text → Text → Walk
end name flags path = to_positional (leaf name).rules (arg_by_index (leaf name).rules 1) path (walk_from (held name flags)) (held name flags)

abbrev pub said_by : Text → List Text → Text → Text × List Row
said_by name flags path = (name, finished (leaf name).rules (end name flags path).held)

-- the subcommand takes these flags and each path, and its matches tell this
pub record TakesPath {X : Type 0} (name : Text) (flags : List Text) (tells : Text × List Row → X) (wanted : Text → X) : Type 0 where
  pub begins : Enters name (leaf name)
  pub walks : (rest : List Text) → walk (leaf name).rules [] nothing_held (flags ++ rest) ≡ fold (walked (leaf name).rules []) (walk_from (held name flags)) rest
  pub turns : (rest : List Text) → walk_fault (leaf name) [] (walk_from nothing_held) (flags ++ rest) ≡ walk_fault (leaf name) [] (walk_from (held name flags)) rest
  pub ends : (path : Text)
      → ◌≡◌ {A = Kinds × Kinds × Bool × X} (step_fault (leaf name) 1 (held name flags) value, leaf_fault (leaf name) [] (end name flags path), is_stray (said_by name flags path), tells (said_by name flags path))
      ([], [], false, wanted path)

-- the words pass, and this holds of the subcommand that was said
abbrev pub Reads : List Text → (Text × List Row → Type 0) → Type 0
Reads words Holds = (faults_of words ≡ []) × IsSomeAnd (subcommand_of program_app words) Holds

-- so the words pass, and what is said tells this
pub reads_path : {X : Type 0} (name : Text) (flags : List Text) (tells : Text × List Row → X) (wanted : Text → X) → TakesPath name flags tells wanted → (word path : Text) → is_path path ≡ true
    → Reads (word ∷ name ∷ flags ++ path ∷ []) (λ said. (said.0 ≡ name) × (tells said ≡ wanted path))
unfolding walk_fault
reads_path name flags tells wanted t word path is =
    let p = plain path is in
    let ends = t.ends path in
    let there : walk (leaf name).rules [] nothing_held (flags ++ path ∷ []) ≡ end name flags path = t.walks (path ∷ []) ∙ walked_plain (leaf name).rules idle 1 (held name flags) path tt p in
    let clean : walk_fault (leaf name) [] (walk_from nothing_held) (flags ++ path ∷ []) ≡ [] =
    t.turns (path ∷ []) ∙ (fault_plain (leaf name) idle 1 (held name flags) path [] tt p ∙ ap (λ q. or_else q.0 []) ends) in
    let said : subcommand_of program_app (word ∷ name ∷ flags ++ path ∷ []) ≡ Some (said_by name flags path) =
    enters name (leaf name) t.begins word (flags ++ path ∷ []) ∙ ap (λ (w : Walk). Some (name, finished (leaf name).rules w.held)) there in
    let stray : is_stray (said_by name flags path) ≡ false = ap (λ q. q.2) ends in
    let none : stray_fault (Some (said_by name flags path)) ≡ [] = rw stray refl in (
      ap₂ or_else (passes name (leaf name) t.begins word (flags ++ path ∷ []) (end name flags path) clean there (ap (λ q. q.1) ends)) (ap stray_fault said ∙ none),
      subst (λ (o : Option (Text × List Row)). IsSomeAnd o (λ s. (s.0 ≡ name) × (tells s ≡ wanted path))) (sym said) (refl, ap (λ q. q.3) ends),
    )

-- ---- the subcommands over one text

-- what is said of a text
abbrev pub Telling : Type 0
Telling = Option Task × KeptFlags × Option Text

abbrev pub text_told : Task → Text × List Row → Telling
text_told task said = (task_said said, flags_said said, first_of (text_argument task) said.1)

abbrev pub text_wanted : Task → Kept → Text → Telling
text_wanted task keeps path = (Some task, flags_of keeps, Some path)

-- the subcommand with these flags asks for this
abbrev Asks : Task → Kept → Text × List Text → Type 0
Asks task keeps words = TakesPath words.0 words.1 (text_told task) (text_wanted task keeps)

begins_world : Enters (codes "world") (leaf (codes "world"))
unfolding clap_on_literals
begins_world = record { stops = refl; turns = refl; found = refl; named = refl }

begins_chat : Enters (codes "chat") (leaf (codes "chat"))
unfolding clap_on_literals
begins_chat = record { stops = refl; turns = refl; found = refl; named = refl }

begins_map : Enters (codes "map") (leaf (codes "map"))
unfolding clap_on_literals
begins_map = record { stops = refl; turns = refl; found = refl; named = refl }

begins_locks : Enters (codes "locks") (leaf (codes "locks"))
unfolding clap_on_literals
begins_locks = record { stops = refl; turns = refl; found = refl; named = refl }

begins_packets : Enters (codes "packets") (leaf (codes "packets"))
unfolding clap_on_literals
begins_packets = record { stops = refl; turns = refl; found = refl; named = refl }

begins_settle : Enters (codes "settle") (leaf (codes "settle"))
unfolding clap_on_literals
begins_settle = record { stops = refl; turns = refl; found = refl; named = refl }

pub begins_check : Enters (codes "check") (leaf (codes "check"))
unfolding clap_on_literals
begins_check = record { stops = refl; turns = refl; found = refl; named = refl }

begins_draw : Enters (codes "draw") (leaf (codes "draw"))
unfolding clap_on_literals
begins_draw = record { stops = refl; turns = refl; found = refl; named = refl }

asks : (task : Task) (keeps : Kept) → IfSome (words_for task keeps) (Asks task keeps)
unfolding clap_on_literals
asks World kept.Chat = record { begins = begins_world; walks = λ rest. refl; turns = λ rest. refl; ends = λ path. refl }
asks World kept.LongChat = record { begins = begins_world; walks = λ rest. refl; turns = λ rest. refl; ends = λ path. refl }
asks World kept.Map = tt
asks World kept.Locks = tt
asks States kept.Chat = record { begins = begins_chat; walks = λ rest. refl; turns = λ rest. refl; ends = λ path. refl }
asks States kept.LongChat = record { begins = begins_chat; walks = λ rest. refl; turns = λ rest. refl; ends = λ path. refl }
asks States kept.Map = record { begins = begins_map; walks = λ rest. refl; turns = λ rest. refl; ends = λ path. refl }
asks States kept.Locks = record { begins = begins_locks; walks = λ rest. refl; turns = λ rest. refl; ends = λ path. refl }
asks Packets kept.Chat = record { begins = begins_packets; walks = λ rest. refl; turns = λ rest. refl; ends = λ path. refl }
asks Packets kept.LongChat = record { begins = begins_packets; walks = λ rest. refl; turns = λ rest. refl; ends = λ path. refl }
asks Packets kept.Map = tt
asks Packets kept.Locks = tt
asks Settle kept.Chat = record { begins = begins_settle; walks = λ rest. refl; turns = λ rest. refl; ends = λ path. refl }
asks Settle kept.LongChat = record { begins = begins_settle; walks = λ rest. refl; turns = λ rest. refl; ends = λ path. refl }
asks Settle kept.Map = tt
asks Settle kept.Locks = tt
asks SettleDeliver kept.Chat = record { begins = begins_settle; walks = λ rest. refl; turns = λ rest. refl; ends = λ path. refl }
asks SettleDeliver kept.LongChat = record { begins = begins_settle; walks = λ rest. refl; turns = λ rest. refl; ends = λ path. refl }
asks SettleDeliver kept.Map = tt
asks SettleDeliver kept.Locks = tt
asks Check kept.Chat = record { begins = begins_check; walks = λ rest. refl; turns = λ rest. refl; ends = λ path. refl }
asks Check kept.LongChat = record { begins = begins_check; walks = λ rest. refl; turns = λ rest. refl; ends = λ path. refl }
asks Check kept.Map = record { begins = begins_check; walks = λ rest. refl; turns = λ rest. refl; ends = λ path. refl }
asks Check kept.Locks = record { begins = begins_check; walks = λ rest. refl; turns = λ rest. refl; ends = λ path. refl }
asks Draw kept.Chat = record { begins = begins_draw; walks = λ rest. refl; turns = λ rest. refl; ends = λ path. refl }
asks Draw kept.LongChat = record { begins = begins_draw; walks = λ rest. refl; turns = λ rest. refl; ends = λ path. refl }
asks Draw kept.Map = record { begins = begins_draw; walks = λ rest. refl; turns = λ rest. refl; ends = λ path. refl }
asks Draw kept.Locks = record { begins = begins_draw; walks = λ rest. refl; turns = λ rest. refl; ends = λ path. refl }
asks DrawPackets kept.Chat = record { begins = begins_draw; walks = λ rest. refl; turns = λ rest. refl; ends = λ path. refl }
asks DrawPackets kept.LongChat = record { begins = begins_draw; walks = λ rest. refl; turns = λ rest. refl; ends = λ path. refl }
asks DrawPackets kept.Map = record { begins = begins_draw; walks = λ rest. refl; turns = λ rest. refl; ends = λ path. refl }
asks DrawPackets kept.Locks = record { begins = begins_draw; walks = λ rest. refl; turns = λ rest. refl; ends = λ path. refl }
asks DrawTrace kept.Chat = record { begins = begins_draw; walks = λ rest. refl; turns = λ rest. refl; ends = λ path. refl }
asks DrawTrace kept.LongChat = record { begins = begins_draw; walks = λ rest. refl; turns = λ rest. refl; ends = λ path. refl }
asks DrawTrace kept.Map = record { begins = begins_draw; walks = λ rest. refl; turns = λ rest. refl; ends = λ path. refl }
asks DrawTrace kept.Locks = record { begins = begins_draw; walks = λ rest. refl; turns = λ rest. refl; ends = λ path. refl }

pub reads_text : (task : Task) (keeps : Kept) (subcommand : Text) (flags : List Text) (word path : Text) → words_for task keeps ≡ Some (subcommand, flags) → is_path path ≡ true
    → Reads (word ∷ subcommand ∷ flags ++ path ∷ []) (λ said. (said.0 ≡ subcommand) × (text_told task said ≡ text_wanted task keeps path))
reads_text task keeps subcommand flags word path has is =
    reads_path subcommand flags (text_told task) (text_wanted task keeps) (subst (λ (o : Option (Text × List Text)). IfSome o (Asks task keeps)) has (asks task keeps)) word path is

-- ---- `explain`

pub explains : TakesPath (codes "explain") [] (λ said. first_of (codes "CODE") said.1) (λ code. Some code)
unfolding clap_on_literals
explains = record { begins = record { stops = refl; turns = refl; found = refl; named = refl }; walks = λ rest. refl; turns = λ rest. refl; ends = λ path. refl }
