-- From the subcommand that was said to the command that it is, and the errors of words.
use Rattle.std.proofs.Common.{◌≡◌, ◌∙◌, true, false, refl, sym, ap, subst, codes, List, [], ◌∷◌, Option, Some, None, Result, Ok, Err, IfOk, IsSomeAnd, inl, inr}
use Rattle.std.specs.Prelude.{unwrap_or, option_and_then, find}
use Rattle.std.specs.Result.{IsErrAnd}
use Rattle.std.specs.Str.{bytes_eq}
use Rattle.std.proofs.lemmas.Slice.Eq.{bytes_eq-Decides}
use Rattle.clap.specs.Kinds.{or_else}
use Rattle.clap.specs.Words.{FailsBy, HasKind, Kinds, Row, Text, first_of, kind_of, subcommand_of}
use Rattle.clap.specs.declared.error.Error.{Error}
use Rattle.clap.specs.declared.error.kind.ErrorKind.TheVariants.{OutOfMemory}
use Rattle.vsync.specs.declared.kept_words.Kept.{Kept}
use Rattle.vsync.specs.declared.text_words.Task.{Task}
use Rattle.vsync.specs.declared.words.Invocation.{Invocation}
use Rattle.vsync.specs.declared.words.Invocation.TheVariants.{Text as TextOf, Processes, Udp, Member, Explain}
use Rattle.vsync.specs.Grammar.{program_app}
use Rattle.vsync.specs.Kept.{flags_said, stands}
use Rattle.vsync.specs.Words.{faults_of, task_said, tasks, text_argument, AreProcessesOn, IsExplainOn, IsOrNoMemory, IsSaid, IsTextOn, IsUdpOn}
use Rattle.vsync.proofs.OnePath.{Reads, Telling, text_told, text_wanted}
use Rattle.vsync.proofs.SeveralPaths.{NamesTexts}
use Rattle.vsync.proofs.TwoPaths.{Names}

-- a subcommand that was said with one name was not said with another
other_name : (said : Text × List Row) (name other : Text) → said.0 ≡ name → said.0 ≡ other → bytes_eq name other ≡ false → ⊥
other_name said name other is was differs =
    let same : bytes_eq name other ≡ true = (bytes_eq-Decides name other).1 (sym is ∙ was) in
    absurd cc

-- a value that is there is one alone
one_value : {X : Type 0} (o : Option X) (x y : X) → o ≡ Some x → o ≡ Some y → y ≡ x
one_value o x y is was = cc

-- a subcommand of this name does nothing with one text
no_text : (said : Text × List Row) (task : Task) (name : Text) → said.0 ≡ name → option_and_then (λ row. row.1) (find (λ row. bytes_eq name row.0) (tasks said.1)) ≡ None → task_said said ≡ Some task → ⊥
no_text said task name is none some =
    let gone : task_said said ≡ None = ap (λ (n : Text). option_and_then (λ row. row.1) (find (λ row. bytes_eq n row.0) (tasks said.1))) is ∙ none in
    absurd cc

no_single : (rows : List Row) → stands (codes "processes") rows ≡ true → option_and_then (λ row. row.1) (find (λ row. bytes_eq (codes "check") row.0) (tasks rows)) ≡ None
no_single rows stand = rw stand refl

pub said_text : (task : Task) (keeps : Kept) (path name : Text) (said : Text × List Row) (i : Invocation) → (said.0 ≡ name) × (text_told task said ≡ text_wanted task keeps path) → IsSaid said i
    → IsTextOn task keeps path i
said_text task keeps path name said (TextOf command) told is =
    let same : command.task ≡ task = one_value (task_said said) task command.task (ap (λ (q : Telling). q.0) told.1) is.task in
    let first : first_of (text_argument command.task) said.1 ≡ Some path = ap (λ (t : Task). first_of (text_argument t) said.1) same ∙ ap (λ (q : Telling). q.2) told.1 in
    (same, is.flags ∙ ap (λ (q : Telling). q.1) told.1, one_value (first_of (text_argument command.task) said.1) path command.path.now first is.path)
said_text task keeps path name said (Processes words) told is = absurd (no_text said task (codes "check") is.0 (no_single said.1 is.1) (ap (λ (q : Telling). q.0) told.1))
said_text task keeps path name said (Udp words) told is = absurd (no_text said task (codes "udp") is.0 refl (ap (λ (q : Telling). q.0) told.1))
said_text task keeps path name said (Member words) told is = absurd (no_text said task (codes "member") is.0 refl (ap (λ (q : Telling). q.0) told.1))
said_text task keeps path name said (Explain code) told is = absurd (no_text said task (codes "explain") is.0 refl (ap (λ (q : Telling). q.0) told.1))

pub said_processes : (keeps : Kept) (paths : List Text) (said : Text × List Row) (i : Invocation) → NamesTexts keeps paths said → IsSaid said i → AreProcessesOn keeps paths i
said_processes keeps paths said (TextOf command) told is = absurd (no_text said command.task (codes "check") told.name (no_single said.1 told.stand) is.task)
said_processes keeps paths said (Processes words) told is = (
  is.2.paths ∙ ap (λ (o : Option (List Text)). unwrap_or o []) told.paths_are,
  is.2.flags ∙ (ap (λ (n : Text). flags_said (n, said.1)) (sym told.name) ∙ told.flags),
)
said_processes keeps paths said (Udp words) told is = absurd (other_name said (codes "check") (codes "udp") told.name is.0 refl)
said_processes keeps paths said (Member words) told is = absurd (other_name said (codes "check") (codes "member") told.name is.0 refl)
said_processes keeps paths said (Explain code) told is = absurd (other_name said (codes "check") (codes "explain") told.name is.0 refl)

pub said_udp : (config script : Text) (said : Text × List Row) (i : Invocation) → Names config script said → IsSaid said i → IsUdpOn config script i
said_udp config script said (TextOf command) told is = absurd (no_text said command.task (codes "udp") told.0 refl is.task)
said_udp config script said (Processes words) told is = absurd (other_name said (codes "udp") (codes "check") told.0 is.0 refl)
said_udp config script said (Udp words) told is = (one_value _ config words.config.now told.1 is.1.config, one_value _ script words.script.now told.2 is.1.script)
said_udp config script said (Member words) told is = absurd (other_name said (codes "udp") (codes "member") told.0 is.0 refl)
said_udp config script said (Explain code) told is = absurd (other_name said (codes "udp") (codes "explain") told.0 is.0 refl)

pub said_explain : (code : Text) (said : Text × List Row) (i : Invocation) → (said.0 ≡ codes "explain") × (first_of (codes "CODE") said.1 ≡ Some code) → IsSaid said i → IsExplainOn code i
said_explain code said (TextOf command) told is = absurd (no_text said command.task (codes "explain") told.0 refl is.task)
said_explain code said (Processes words) told is = absurd (other_name said (codes "explain") (codes "check") told.0 is.0 refl)
said_explain code said (Udp words) told is = absurd (other_name said (codes "explain") (codes "udp") told.0 is.0 refl)
said_explain code said (Member words) told is = absurd (other_name said (codes "explain") (codes "member") told.0 is.0 refl)
said_explain code said (Explain asked) told is = one_value _ code asked.now told.1 is.1

-- where the words have no fault, an error is for want of memory
by_memory : (e : Error) → HasKind [] e → kind_of e ≡ OutOfMemory
by_memory e (inl memory) = memory
by_memory e (inr other) = absurd other

-- so a command that passes is this one, or memory was refused
pub answered : (r : Result Invocation Error) (words was : List Text) (Told : Text × List Row → Type 0) (IsIt : Invocation → Type 0) → was ≡ words → Reads words Told
    → ((said : Text × List Row) (i : Invocation) → Told said → IsSaid said i → IsIt i) → IfOk r (λ i. IsSomeAnd (subcommand_of program_app was) (λ said. IsSaid said i))
    → FailsBy (faults_of was) r → IsOrNoMemory IsIt r
answered (Ok i) words was Told IsIt same reads is said fails =
    both (subcommand_of program_app words) reads.1 (subst (λ (w : List Text). IsSomeAnd (subcommand_of program_app w) (λ s. IsSaid s i)) same said)
  where
    both : (o : Option (Text × List Row)) → IsSomeAnd o Told → IsSomeAnd o (λ s. IsSaid s i) → IsIt i
    both None told was_said = absurd told
    both (Some s) told was_said = is s i told was_said
answered (Err e) words was Told IsIt same reads is said fails = by_memory e (subst (λ (k : Kinds). HasKind k e) (ap faults_of same ∙ reads.0) fails)

-- clap's errors are errors of the words
pub by_clap : (kinds more : Kinds) (e : Error) → HasKind kinds e → HasKind (or_else kinds more) e
by_clap [] more e (inl memory) = inl memory
by_clap [] more e (inr other) = absurd other
by_clap (k ∷ ks) more e has = has

-- an error that is handed on keeps its kind
pub fails_as : (kinds : Kinds) (r : Result Invocation Error) (e : Error) → IsErrAnd r (λ x. x ≡ e) → HasKind kinds e → FailsBy kinds r
fails_as kinds (Ok i) e is has = absurd is
fails_as kinds (Err x) e is has = subst (HasKind kinds) (sym is) has
