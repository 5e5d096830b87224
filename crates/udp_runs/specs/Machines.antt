-- What a machine keeps of the nets that were given back to it.
use Rattle.std.specs.Prelude.{◌≡◌, ⊤, List, ◌++◌, Option, None, Some}
use Rattle.std.specs.Option.{IsSomeAnd}
use Rattle.law_runners.specs.Systems.{Gone}

-- it keeps no list of them, or those that it kept before and these
abbrev pub GivesBack : {N : Type 0} → Option (List (Gone N)) → List (Gone N) → Option (List (Gone N)) → Type 0
GivesBack old more None = ⊤
GivesBack old more (Some all) = IsSomeAnd old (λ o. all ≡ o ++ more)
