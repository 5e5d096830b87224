-- The sizes of chats: the most lines that are kept, and in how many bytes their number is written.
use Rattle.std.specs.Prelude.{◌≡◌, ◌⊎◌, ℕ, ◌+◌, ◌*◌, ◌^◌, ◌<◌, ◌≤◌}
use Rattle.address.specs.declared.limits.TheConstants.{PAYLOAD, STATE}

-- the most bytes of a state: the number of lines, and of each line the sender in six, the length of the payload in two, and the payload
abbrev pub longest : ℕ → ℕ → ℕ
longest lines width = width + lines * (8 + PAYLOAD)

-- the sizes that there may be: the number of lines fits into its bytes, and the longest state into a state
pub record IsSize (lines width : ℕ) : Type 0 where
  pub wide : (width ≡ 1) ⊎ (width ≡ 2)
  pub fits : lines < 256 ^ width
  pub short : longest lines width ≤ STATE
