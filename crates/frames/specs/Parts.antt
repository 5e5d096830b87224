-- What of a frame is for a node, also if it is for several of them.
use Rattle.std.specs.Prelude.{◌≡◌, ℕ, zero, suc, ◌+◌, ◌*◌, List, [], ◌∷◌, ◌++◌, length, take, drop, get_or, nat_eq, Option, None, Some, if◌then◌else◌}
use Rattle.byteorder.specs.Endian.{big_bytes, big_number}
use Rattle.frames.specs.declared.head.Kind.{Kind}
use Rattle.frames.specs.declared.head.Kind.TheVariants.{Packets, Piece, Several}
use Rattle.frames.specs.declared.several.Variant.{Variant}

-- some bytes with six others at a place
abbrev pub varied : ℕ → List ℕ → List ℕ → List ℕ
varied place bytes content = take place content ++ bytes ++ drop (place + 6) content

-- a row for each further node: the node, and its six bytes
abbrev pub rows_of : List Variant → List ℕ
rows_of [] = []
rows_of (v ∷ variants) = big_bytes 2 v.node ++ v.bytes ++ rows_of variants

-- the content of a frame for several nodes: the place, how many rows there are, these, and what is for the first node
abbrev pub several_bytes : ℕ → List Variant → List ℕ → List ℕ
several_bytes place variants content = big_bytes 1 place ++ big_bytes 1 (length variants) ++ rows_of variants ++ content

-- the six bytes of the first of so many rows that is a node's
abbrev pub bytes_for : ℕ → ℕ → List ℕ → Option (List ℕ)
bytes_for node zero rows = None
bytes_for node (suc n) rows = if nat_eq (big_number 2 rows) node then Some (take 6 (drop 2 rows)) else bytes_for node n (drop 8 rows)

abbrev pub varied_by : ℕ → List ℕ → Option (List ℕ) → Option (List ℕ)
varied_by place content None = None
varied_by place content (Some bytes) = Some (varied place bytes content)

-- what is for the first node
abbrev pub first_part : List ℕ → List ℕ
first_part content = drop (8 * get_or content 1 0) (drop 2 content)

-- what is for a node: that, with the six bytes of its row if it is not the first one
abbrev pub part_of : ℕ → ℕ → List ℕ → Option (List ℕ)
part_of node first content =
    if nat_eq first node then Some (first_part content) else varied_by (get_or content 0 0) (first_part content) (bytes_for node (get_or content 1 0) (drop 2 content))

-- what is for a node, in a frame of some kind
abbrev pub IsPart : Kind → ℕ → ℕ → List ℕ → List ℕ → Type 0
IsPart Packets node to content part = (part ≡ content) × (to ≡ node)
IsPart Piece node to content part = (part ≡ content) × (to ≡ node)
IsPart Several node to content part = part_of node to content ≡ Some part
