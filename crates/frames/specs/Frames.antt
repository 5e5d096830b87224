-- The format of frames.
use Rattle.std.specs.Prelude.{◌≡◌, ◌≤◌, ◌<◌, ◌-◌, ◌^◌, ℕ, zero, suc, List, [], ◌∷◌, ◌++◌, length, take, drop, get_or, nat_eq, if◌then◌else◌}
use Rattle.std.specs.List.{AllByRecursion}
use Rattle.byteorder.specs.Endian.{big_bytes, big_number}
use Rattle.frames.specs.Hmac.{hmac_sha256}
use Rattle.frames.specs.declared.head.Kind.{Kind}
use Rattle.frames.specs.declared.head.Kind.TheVariants.{Packets, Piece, Several}
use Rattle.frames.specs.declared.head.Head.{Head}
use Rattle.frames.specs.Parts.{IsPart}

abbrev pub kind_number : Kind → ℕ
kind_number Packets = 0
kind_number Piece = 1
kind_number Several = 2

-- the head of a frame: `F`, the kind, the node that it is for, the boot id, the counter
abbrev pub head_bytes : Head → List ℕ
head_bytes h = big_bytes 1 0x46 ++ big_bytes 1 (kind_number h.kind) ++ big_bytes 2 h.to ++ h.boot ++ big_bytes 8 h.counter

-- bytes that begin with a head
pub record IsHeadOf (body : List ℕ) (h : Head) : Type 0 where
  pub long : 28 ≤ length body
  pub first : get_or body 0 0 ≡ 0x46
  pub kind : get_or body 1 0 ≡ kind_number h.kind
  pub to : h.to ≡ big_number 2 (drop 2 body)
  pub boot : h.boot ≡ take 16 (drop 4 body)
  pub counter : h.counter ≡ big_number 8 (drop 20 body)

-- how many bytes two texts have in common at the front, at most so many
abbrev pub shared_within : ℕ → List ℕ → List ℕ → ℕ
shared_within zero one other = 0
shared_within (suc n) [] other = 0
shared_within (suc n) (x ∷ one) [] = 0
shared_within (suc n) (x ∷ one) (y ∷ other) = if nat_eq x y then suc (shared_within n one other) else 0

abbrev pub shared_front : List ℕ → List ℕ → ℕ
shared_front last packet = shared_within 255 last packet

-- a packet behind another one: how many bytes they have in common at the front, how many others it has, and these
abbrev pub bytes_behind : ℕ → List ℕ → List ℕ
bytes_behind shared packet = big_bytes 1 shared ++ (big_bytes 2 (length packet - shared) ++ drop shared packet)

abbrev pub entry_bytes : List ℕ → List ℕ → List ℕ
entry_bytes last packet = bytes_behind (shared_front last packet) packet

-- packets, each behind the one before it
abbrev pub packed_behind : List ℕ → List (List ℕ) → List ℕ
packed_behind last [] = []
packed_behind last (p ∷ packets) = entry_bytes last p ++ packed_behind p packets

abbrev pub packed : List (List ℕ) → List ℕ
packed packets = packed_behind [] packets

-- the last of some packets, or the one before them
abbrev pub last_behind : List ℕ → List (List ℕ) → List ℕ
last_behind last [] = last
last_behind last (p ∷ packets) = last_behind p packets

-- the first bytes of the tag of a body, under a key of one block
abbrev pub tag_of : List ℕ → List ℕ → List ℕ
tag_of key body = take 16 (hmac_sha256 key body)

-- a body and its tag
abbrev pub sealed : List ℕ → List ℕ → List ℕ
sealed key body = body ++ tag_of key body

-- a packet that goes with others: two bytes spell how long it is
abbrev pub IsShort : List ℕ → Type 0
IsShort packet = length packet < 2 ^ 16

-- the first packet of a content shares so many bytes with the one before it, and has so many others, which stand there whole
abbrev pub StandsFirst : ℕ → ℕ → List ℕ → Type 0
StandsFirst shared n content = (3 ≤ length content) × (shared ≡ get_or content 0 0) × (n ≡ big_number 2 (drop 1 content)) × (n ≤ length (drop 3 content))

-- the packets of a content, each behind the one before it, stand behind others
pub record IsRead (last : List ℕ) (old : List (List ℕ)) (content : List ℕ) (new : List (List ℕ)) : Type 0 where
  pub more : List (List ℕ)
  pub behind : new ≡ old ++ more
  pub content_is : content ≡ packed_behind last more
  pub short : AllByRecursion IsShort more

-- a frame of somebody who has the key: its head, and what stands behind that
pub record IsSealed (key : List ℕ) (frame : List ℕ) (h : Head) (content : List ℕ) : Type 0 where
  pub body : List ℕ
  pub seal : frame ≡ sealed key body
  pub head : IsHeadOf body h
  pub content_is : content ≡ drop 28 body

-- and what of this is for a node
pub record Opens (key : List ℕ) (node : ℕ) (frame : List ℕ) (h : Head) (part : List ℕ) : Type 0 where
  pub content : List ℕ
  pub sealed_is : IsSealed key frame h content
  pub part_is : IsPart h.kind node h.to content part
