-- What waits for several nodes, and goes in one frame.
use Rattle.std.specs.Prelude.{◌≡◌, ℕ, List, [], ◌∷◌, ◌++◌, ◌⊎◌, length}
use Rattle.std.specs.List.{AllByRecursion}
use Rattle.udp_net.specs.Logs.{Log, offering}
use Rattle.frames.specs.declared.head.Kind.TheVariants.{Several}
use Rattle.frames.specs.declared.outlet.Seal.{Seal}
use Rattle.frames.specs.declared.several.Variant.{Variant}
use Rattle.frames.specs.Frames.{head_bytes, packed, sealed, IsShort}
use Rattle.frames.specs.Parts.{several_bytes, varied}
use Rattle.frames.specs.Outlets.{OutletModel}
use Rattle.frames.specs.Arrivals.{StandsIn}
use Rattle.frames.specs.Carried.{ArePacked}

-- what waits on a way is a content, but for six bytes at a place
pub record IsVariant (place : ℕ) (content : List ℕ) (o : OutletModel) (v : Variant) : Type 0 where
  pub node_is : v.node ≡ o.node
  pub six : length v.bytes ≡ 6
  pub content_is : varied place v.bytes content ≡ packed o.waiting
  pub short : AllByRecursion IsShort o.waiting

-- either all stays, or what waits on a way is taken, and is the next variant of a content
abbrev pub Takes : ℕ → List ℕ → List Variant → OutletModel → List Variant → OutletModel → Type 0
Takes place content before old after new =
    ((after ≡ before) × (new ≡ old)) ⊎ ((v : Variant) × IsVariant place content old v × (after ≡ before ++ v ∷ []) × (new ≡ record old { waiting = [] }))

-- of each of some ways
abbrev pub Gathers : ℕ → List ℕ → List Variant → List OutletModel → List Variant → List OutletModel → Type 0
Gathers place content before [] after [] = after ≡ before
Gathers place content before [] after (n ∷ new) = ⊥
Gathers place content before (o ∷ old) after [] = ⊥
Gathers place content before (o ∷ old) after (n ∷ new) = (mid : List Variant) × Takes place content before o mid n × Gathers place content mid old after new

-- each of some nodes is offered a frame
abbrev pub offering_each : List Variant → List ℕ → Log → Log
offering_each [] frame l = l
offering_each (v ∷ variants) frame l = offering_each variants frame (offering v.node frame l)

-- the frame of what waits on a way, for its node and for those of its variants
abbrev pub several_frame : Seal → ℕ → ℕ → List Variant → OutletModel → List ℕ
several_frame s counter place variants o =
    sealed s.key (head_bytes (record { kind = Several; to = o.node; boot = s.boot; counter = counter }) ++ several_bytes place variants (packed o.waiting))

-- each variant of a content, in its place, is packets of a list
abbrev pub AreVariantsOf : List (List ℕ) → ℕ → List ℕ → List Variant → Type 0
AreVariantsOf sent place content variants = AllByRecursion (λ v. (length v.bytes ≡ 6) × ArePacked (StandsIn sent) (varied place v.bytes content)) variants
