use Rattle.std.proofs.Common.{◌≡◌, ◌≤◌, ◌∷◌, [], List, length, suc, codes, map, string_bytes, ap, arith}
use Rattle.vsync.specs.Words.{AreProcessesOn, IsExplainOn, IsTextOn, IsUdpOn}
use Rattle.vsync.proofs.Answering.{answered, said_explain, said_processes, said_text, said_udp}
use Rattle.vsync.proofs.OnePath.{explains, reads_path, reads_text}
use Rattle.vsync.proofs.SeveralPaths.{reads_processes}
use Rattle.vsync.proofs.TwoPaths.{reads_udp}
use Rattle.vsync.proofs.words.command.Goals as goal

pub returns-clause-text : goal.returns-clause-text
returns-clause-text c = λ task keeps subcommand flags name path has is words.
    answered c.parsed.result _ (map string_bytes c.args.words.now) _ (IsTextOn task keeps path) words (reads_text task keeps subcommand flags name path has is)
    (said_text task keeps path subcommand) c.parsed.ensures.said c.parsed.ensures.refused

pub returns-clause-processes : goal.returns-clause-processes
returns-clause-processes c = λ keeps name path others are words.
    answered c.parsed.result _ (map string_bytes c.args.words.now) _ (AreProcessesOn keeps _) words (reads_processes keeps name path others are)
    (said_processes keeps _) c.parsed.ensures.said c.parsed.ensures.refused

pub returns-clause-udp : goal.returns-clause-udp
returns-clause-udp c = λ name config script one two words.
    answered c.parsed.result _ (map string_bytes c.args.words.now) _ (IsUdpOn config script) words (reads_udp name config script one two)
    (said_udp config script) c.parsed.ensures.said c.parsed.ensures.refused

pub returns-clause-explain : goal.returns-clause-explain
returns-clause-explain c = λ name code is words.
    answered c.parsed.result _ (map string_bytes c.args.words.now) _ (IsExplainOn code) words (reads_path (codes "explain") [] _ _ explains name code is)
    (said_explain code) c.parsed.ensures.said c.parsed.ensures.refused

-- fewer than two words are none of these
few : {X Y : Type 0} (f : X → Y) (words : List X) (first second : Y) (others : List Y) → length words ≤ 1 → map f words ≡ first ∷ second ∷ others → ⊥
few f [] first second others less is = let n : 0 ≡ suc (suc (length others)) = ap length is in omega (arith, n)
few f (w ∷ []) first second others less is = let n : 1 ≡ suc (suc (length others)) = ap length is in omega (arith, n)
few f (w ∷ v ∷ words) first second others less is = omega (arith, less)

pub returns-then-words-le1-clause-text : goal.returns-then-words-le1-clause-text
returns-then-words-le1-clause-text c = λ task keeps subcommand flags name path has is words. absurd (few string_bytes _ _ _ _ c.if-words-le1.true words)

pub returns-then-words-le1-clause-processes : goal.returns-then-words-le1-clause-processes
returns-then-words-le1-clause-processes c = λ keeps name path others are words. absurd (few string_bytes _ _ _ _ c.if-words-le1.true words)

pub returns-then-words-le1-clause-udp : goal.returns-then-words-le1-clause-udp
returns-then-words-le1-clause-udp c = λ name config script one two words. absurd (few string_bytes _ _ _ _ c.if-words-le1.true words)

pub returns-then-words-le1-clause-explain : goal.returns-then-words-le1-clause-explain
returns-then-words-le1-clause-explain c = λ name code is words. absurd (few string_bytes _ _ _ _ c.if-words-le1.true words)
