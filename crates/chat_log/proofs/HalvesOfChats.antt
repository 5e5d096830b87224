-- The lines of a chat in two halves, as they stand in memory.
use Rattle.std.proofs.Common.{◌≡◌, ℕ, ◌+◌, ◌≤◌, List, [], ◌∷◌, ◌++◌, length, sym, subst, ap, arith}
use Rattle.std.specs.List.{flat_map, AllByRecursion}
use Rattle.std.proofs.lemmas.List.{length-append}
use Rattle.address.specs.declared.limits.TheConstants.{STATE}
use Rattle.chat_log.specs.declared.lines.Line.{Line}
use Rattle.chat_log.specs.Sizes.{IsSize}
use Rattle.chat_log.specs.Chat.{IsLine, IsChat}
use Rattle.chat_log.specs.Encoding.{line_bytes}
use Rattle.chat_log.specs.ChatLaws.{length-lines}

all-halves : {A : Type 0} (P : A → Type 0) (xs ys : List A) → AllByRecursion P (xs ++ ys) → AllByRecursion P xs × AllByRecursion P ys
all-halves P [] ys all = (tt, all)
all-halves P (x ∷ xs) ys all = let rest = all-halves P xs ys all.1 in ((all.0, rest.0), rest.1)

-- both halves are lines, and the whole encoding is short
pub record Halves (width : ℕ) (older newer : List Line) : Type 0 where
  pub of_older : AllByRecursion IsLine older
  pub of_newer : AllByRecursion IsLine newer
  pub short : width + length (flat_map line_bytes older) + length (flat_map line_bytes newer) ≤ STATE

pub halves : (lines width : ℕ) → IsSize lines width → (s older newer : List Line) → IsChat lines s → older ++ newer ≡ s → Halves width older newer
halves lines width size s older newer is e =
    let all = all-halves IsLine older newer (subst (AllByRecursion IsLine) (sym e) is.each) in
    let few : length older + length newer ≤ lines = omega (arith, ap length e, length-append older newer, is.few) in
    record { of_older = all.0; of_newer = all.1; short = omega (arith, few, size.short, length-lines older all.0, length-lines newer all.1) }
