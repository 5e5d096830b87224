-- What words ask for: by the subcommand that they name, with its matches, and by the words themselves.
use Rattle.std.specs.Prelude.{◌≡◌, ◌==◌, ◌||◌, ◌&&◌, ℕ, Bool, true, false, not, List, [], ◌∷◌, Option, None, Some, Result, MatchResult, map, length, nat_lt, unwrap_or, codes, find, option_map, option_and_then, IsSomeAnd, if◌then◌else◌}
use Rattle.std.specs.Option.{option_map_or}
use Rattle.std.specs.Str.{bytes_eq}
use Rattle.std.specs.Str.Parse.{digits_value, without_leading_plus}
use Rattle.clap.specs.Walk.{is_empty}
use Rattle.clap.specs.Kinds.{or_else}
use Rattle.clap.specs.Words.{IsUnsignedIn, Kinds, Row, Text, all_of, fault_of, first_of, kind_of, one_of, subcommand_of}
use Rattle.clap.specs.declared.error.Error.{Error}
use Rattle.clap.specs.declared.error.kind.ErrorKind.TheVariants.{OutOfMemory, UnknownArgument}
use Rattle.vsync_text.specs.declared.udp_script.TheConstants.{ROUNDS}
use Rattle.address.specs.declared.limits.TheConstants.{GREATEST_INCARNATION, GREATEST_NODE}
use Rattle.vsync.specs.declared.check_words.ProcessesWords.{ProcessesWords}
use Rattle.vsync.specs.declared.udp_words.UdpWords.{UdpWords}
use Rattle.vsync.specs.declared.udp_words.MemberWords.{MemberWords}
use Rattle.vsync.specs.declared.member_options.MemberOptions.{MemberOptions}
use Rattle.vsync.specs.declared.member_options.TheConstants.{MOST_TICK, MOST_MERGE, MOST_QUORUM}
use Rattle.vsync.specs.declared.kept_words.Kept.{Kept}
use Rattle.vsync.specs.declared.kept_words.Kept.TheVariants as kept
use Rattle.vsync.specs.declared.text_words.Task.{Task}
use Rattle.vsync.specs.declared.text_words.Task.TheVariants.{World, States, Packets, Settle, SettleDeliver, Check, Draw, DrawPackets, DrawTrace}
use Rattle.vsync.specs.declared.text_words.TextCommand.{TextCommand}
use Rattle.vsync.specs.declared.words.Invocation.{Invocation}
use Rattle.vsync.specs.declared.words.Invocation.TheVariants.{Text as TextOf, Processes, Udp, Member, Explain}
use Rattle.vsync.specs.Grammar.{program_app}
use Rattle.vsync.specs.Kept.{flags_of, flags_said, stands}

-- ---- a subcommand with its matches

-- what `draw` draws by its flags
abbrev pub drawing_said : List Row → Task
drawing_said rows = if stands (codes "trace") rows then DrawTrace else if stands (codes "packets") rows then DrawPackets else Draw

-- what `settle` does by its flags
abbrev pub settling_said : List Row → Task
settling_said rows = if stands (codes "deliver") rows then SettleDeliver else Settle

-- the subcommands over one text, with what each does; `check --processes` has several
abbrev pub tasks : List Row → List (Text × Option Task)
tasks rows =
    (codes "world", Some World)
    ∷ (codes "chat", Some States)
    ∷ (codes "map", Some States)
    ∷ (codes "locks", Some States)
    ∷ (codes "packets", Some Packets)
    ∷ (codes "settle", Some (settling_said rows))
    ∷ (codes "check", if stands (codes "processes") rows then None else Some Check)
    ∷ (codes "draw", Some (drawing_said rows))
    ∷ []

abbrev pub task_said : Text × List Row → Option Task
task_said said = option_and_then (λ row. row.1) (find (λ row. bytes_eq said.0 row.0) (tasks said.1))

-- the argument with the path of the text
abbrev pub text_argument : Task → Text
text_argument World = codes "SCRIPT"
text_argument States = codes "SCRIPT"
text_argument Packets = codes "SCRIPT"
text_argument Settle = codes "SCRIPT"
text_argument SettleDeliver = codes "SCRIPT"
text_argument Check = codes "TRACE"
text_argument Draw = codes "INPUT"
text_argument DrawPackets = codes "INPUT"
text_argument DrawTrace = codes "INPUT"

-- it is this command over a text: the subcommand's task, on the path that its argument has, and with its flags
pub record IsTextSaid (said : Text × List Row) (command : TextCommand) : Type 0 where
  pub task : task_said said ≡ Some command.task
  pub path : first_of (text_argument command.task) said.1 ≡ Some command.path.now
  pub flags : command.flags ≡ flags_said said

-- the words of `check --processes` are all values of its argument, and what the members keep
pub record AreProcessesWords (rows : List Row) (words : ProcessesWords) : Type 0 where
  pub paths : map (λ s. s.now) words.paths.items ≡ unwrap_or (all_of (codes "TRACE") rows) []
  pub flags : words.flags ≡ flags_said (codes "check", rows)

-- the words of `udp` are the first values of its arguments
pub record AreUdpWords (rows : List Row) (words : UdpWords) : Type 0 where
  pub config : first_of (codes "CONFIG") rows ≡ Some words.config.now
  pub script : first_of (codes "SCRIPT") rows ≡ Some words.script.now

-- the value of an argument is this number, in decimal digits, from low to high
abbrev pub IsNumberIn : ℕ → ℕ → Option Text → ℕ → Type 0
IsNumberIn low high value n =
    IsSomeAnd value (λ t. IsUnsignedIn low high t × (digits_value 10 (without_leading_plus t) ≡ n))

-- an option stands there with this number, or does not
abbrev pub IsOptionalIn : ℕ → ℕ → Text → List Row → Option ℕ → Type 0
IsOptionalIn low high name rows None = first_of name rows ≡ None
IsOptionalIn low high name rows (Some n) = IsNumberIn low high (one_of name rows) n

-- how a member runs by its options
pub record AreMemberOptions (rows : List Row) (options : MemberOptions) : Type 0 where
  pub tick : IsOptionalIn 1 MOST_TICK (codes "tick") rows options.tick
  pub merge : IsOptionalIn 0 MOST_MERGE (codes "merge") rows options.merge
  pub incarnation_file : first_of (codes "incarnation-file") rows ≡ option_map (λ s. s.now) options.incarnation_file
  pub say : first_of (codes "say") rows ≡ option_map (λ s. s.now) options.say
  pub bind : first_of (codes "bind") rows ≡ option_map (λ s. s.now) options.bind
  pub peers : map (λ s. s.now) options.peers.items ≡ unwrap_or (all_of (codes "peer") rows) []
  pub http : first_of (codes "http") rows ≡ option_map (λ s. s.now) options.http
  pub forever : options.forever ≡ stands (codes "forever") rows
  pub leave : options.leave ≡ stands (codes "leave") rows
  pub text : options.text ≡ stands (codes "text") rows
  pub stats : options.stats ≡ stands (codes "stats") rows
  pub flags : options.flags ≡ flags_said (codes "member", rows)
  pub find : options.find ≡ stands (codes "find") rows
  pub any_source : options.any_source ≡ stands (codes "any-source") rows
  pub stable : options.stable ≡ stands (codes "stable") rows
  pub quorum : IsOptionalIn 1 MOST_QUORUM (codes "quorum") rows options.quorum
  pub status : first_of (codes "status") rows ≡ option_map (λ s. s.now) options.status
  pub key_file : first_of (codes "key-file") rows ≡ option_map (λ s. s.now) options.key_file

-- the words of `member` are the first values of its arguments and options: its numbers in their ranges
pub record AreMemberWords (rows : List Row) (words : MemberWords) : Type 0 where
  pub config : first_of (codes "CONFIG") rows ≡ Some words.config.now
  pub node : IsNumberIn 1 GREATEST_NODE (one_of (codes "NODE") rows) words.address.node
  pub incarnation : IsNumberIn 1 GREATEST_INCARNATION (one_of (codes "INCARNATION") rows) words.address.incarnation
  pub rounds : IsNumberIn 0 ROUNDS (one_of (codes "ROUNDS") rows) words.rounds
  pub contact : first_of (codes "contact") rows ≡ option_map (λ s. s.now) words.contact
  pub send : first_of (codes "send") rows ≡ option_map (λ s. s.now) words.send
  pub options : AreMemberOptions rows words.options

-- a subcommand that was said, with its matches, is this command
abbrev pub IsSaid : Text × List Row → Invocation → Type 0
IsSaid said (TextOf command) = IsTextSaid said command
IsSaid said (Processes words) = (said.0 ≡ codes "check") × (stands (codes "processes") said.1 ≡ true) × AreProcessesWords said.1 words
IsSaid said (Udp words) = (said.0 ≡ codes "udp") × AreUdpWords said.1 words
IsSaid said (Member words) = (said.0 ≡ codes "member") × AreMemberWords said.1 words
IsSaid said (Explain code) = (said.0 ≡ codes "explain") × (first_of (codes "CODE") said.1 ≡ Some code.now)

-- ---- errors

-- `check` has several traces, and no `--processes`: nothing reads the second
abbrev pub has_stray_trace : List Row → Bool
has_stray_trace rows = not (stands (codes "processes") rows) && nat_lt 1 (length (unwrap_or (all_of (codes "TRACE") rows) []))

abbrev pub is_stray : Text × List Row → Bool
is_stray said = bytes_eq said.0 (codes "check") && has_stray_trace said.1

-- the kinds of error of words: those that clap finds, and else that of a trace that nothing reads
abbrev pub stray_fault : Option (Text × List Row) → Kinds
stray_fault said = if option_map_or is_stray said false then UnknownArgument ∷ [] else []

abbrev pub faults_of : List Text → Kinds
faults_of words = or_else (fault_of program_app words) (stray_fault (subcommand_of program_app words))

-- this command, or an error that says that memory was refused
abbrev pub IsOrNoMemory : (Invocation → Type 0) → Result Invocation Error → Type 0
IsOrNoMemory IsIt result = MatchResult result IsIt (λ e. kind_of e ≡ OutOfMemory)

-- ---- words, and the commands that they are

-- the word is no flag: it is `-`, or does not begin with `-`
abbrev pub is_path : Text → Bool
is_path [] = true
is_path (first ∷ rest) = not (first == 45) || is_empty rest

-- the flag for what members keep; the chat has none
abbrev pub kept_words : Kept → List Text
kept_words kept.Chat = []
kept_words kept.LongChat = codes "--long" ∷ []
kept_words kept.Map = codes "--map" ∷ []
kept_words kept.Locks = codes "--locks" ∷ []

-- a subcommand whose members keep the chat or the long chat
abbrev pub words_of_chats : Text → Kept → Option (Text × List Text)
words_of_chats subcommand kept.Chat = Some (subcommand, [])
words_of_chats subcommand kept.LongChat = Some (subcommand, codes "--long" ∷ [])
words_of_chats subcommand kept.Map = None
words_of_chats subcommand kept.Locks = None

abbrev pub words_of_states : Kept → Option (Text × List Text)
words_of_states kept.Chat = words_of_chats (codes "chat") kept.Chat
words_of_states kept.LongChat = words_of_chats (codes "chat") kept.LongChat
words_of_states kept.Map = Some (codes "map", [])
words_of_states kept.Locks = Some (codes "locks", [])

-- the subcommand and its flags that ask for this, where members keep this
abbrev pub words_for : Task → Kept → Option (Text × List Text)
words_for World keeps = words_of_chats (codes "world") keeps
words_for States keeps = words_of_states keeps
words_for Packets keeps = words_of_chats (codes "packets") keeps
words_for Settle keeps = words_of_chats (codes "settle") keeps
words_for SettleDeliver keeps = option_map (λ w. (w.0, codes "--deliver" ∷ w.1)) (words_of_chats (codes "settle") keeps)
words_for Check keeps = Some (codes "check", kept_words keeps)
words_for Draw keeps = Some (codes "draw", kept_words keeps)
words_for DrawPackets keeps = Some (codes "draw", codes "--packets" ∷ kept_words keeps)
words_for DrawTrace keeps = Some (codes "draw", codes "--trace" ∷ kept_words keeps)

-- this is done with the text of this path, and its members keep this alone
abbrev pub IsTextOn : Task → Kept → List ℕ → Invocation → Type 0
IsTextOn task keeps path (TextOf command) = (command.task ≡ task) × (command.flags ≡ flags_of keeps) × (command.path.now ≡ path)
IsTextOn task keeps path (Processes words) = ⊥
IsTextOn task keeps path (Udp words) = ⊥
IsTextOn task keeps path (Member words) = ⊥
IsTextOn task keeps path (Explain code) = ⊥

-- the flags of `check` that ask for the check of the texts of several processes
abbrev pub words_for_processes : Kept → List Text
words_for_processes kept.Chat = codes "--processes" ∷ []
words_for_processes kept.LongChat = codes "--long" ∷ codes "--processes" ∷ []
words_for_processes kept.Map = codes "--map" ∷ codes "--processes" ∷ []
words_for_processes kept.Locks = codes "--locks" ∷ codes "--processes" ∷ []

-- the texts of several processes, of these paths in their order, are checked
abbrev pub AreProcessesOn : Kept → List (List ℕ) → Invocation → Type 0
AreProcessesOn keeps paths (TextOf command) = ⊥
AreProcessesOn keeps paths (Processes words) = (map (λ s. s.now) words.paths.items ≡ paths) × (words.flags ≡ flags_of keeps)
AreProcessesOn keeps paths (Udp words) = ⊥
AreProcessesOn keeps paths (Member words) = ⊥
AreProcessesOn keeps paths (Explain code) = ⊥

-- nodes run over datagrams by the settings and the script of these paths
abbrev pub IsUdpOn : List ℕ → List ℕ → Invocation → Type 0
IsUdpOn config script (TextOf command) = ⊥
IsUdpOn config script (Processes words) = ⊥
IsUdpOn config script (Udp words) = (words.config.now ≡ config) × (words.script.now ≡ script)
IsUdpOn config script (Member words) = ⊥
IsUdpOn config script (Explain code) = ⊥

-- what this code means is printed
abbrev pub IsExplainOn : List ℕ → Invocation → Type 0
IsExplainOn code (TextOf command) = ⊥
IsExplainOn code (Processes words) = ⊥
IsExplainOn code (Udp words) = ⊥
IsExplainOn code (Member words) = ⊥
IsExplainOn code (Explain asked) = asked.now ≡ code

-- a script from the standard input is run
abbrev pub RunsStandardInput : Invocation → Type 0
RunsStandardInput = IsTextOn World kept.Chat (codes "-")
