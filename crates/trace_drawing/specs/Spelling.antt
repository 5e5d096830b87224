-- How marks are spelled: paths and texts of an SVG.
use Rattle.std.specs.Prelude.{ℕ, ◌-◌, cond, List, [], ◌∷◌, ◌++◌, codes, nat_eq}
use Rattle.std.specs.Fmt.{decimal}
use Rattle.trace_drawing.specs.declared.marks.Place.{Place}
use Rattle.trace_drawing.specs.declared.marks.Mark.{Mark}
use Rattle.trace_drawing.specs.declared.marks.Mark.TheVariants.{Lifeline, Hatch, Message, Band, Start, Send, Delivery, Block, View, Leave, Crash, Packet, Lost, Way, Broken}

-- a number behind some bytes
abbrev pub number_behind : List ℕ → ℕ → List ℕ
number_behind before n = before ++ decimal n

-- a place of a path, behind a letter or more
abbrev pub point : List ℕ → ℕ → ℕ → List ℕ
point before x y = before ++ decimal x ++ 32 ∷ [] ++ decimal y

-- a path of a class, from a place on
abbrev pub path : List ℕ → Place → List ℕ → List ℕ
path class at shape = point (codes "<path class='" ++ class ++ codes "' d='M") at.x at.y ++ shape ++ codes "'/>"

abbrev pub straight : List ℕ → Place → Place → List ℕ
straight class from to = path class from (point (codes "L") to.x to.y)

-- a bow to the left, down to a place
abbrev pub bow : Place → Place → List ℕ
bow from to = number_behind (codes "c-30 0-30 ") (to.y - from.y) ++ number_behind (codes " 0 ") (to.y - from.y)

-- a mark: lines go from end to end, a message's to its own sender is bowed; each other shape is drawn around its place
abbrev pub mark_text : Mark → List ℕ
mark_text (Lifeline from to) = straight (codes "s") from to
mark_text (Hatch from to) = straight (codes "h") from to
mark_text (Message from to) = cond (nat_eq from.x to.x) (path (codes "m") from (bow from to)) (straight (codes "m") from to)
mark_text (Band from to) = straight (codes "v") from to
mark_text (Start at) = path (codes "k") at (codes "m-8 0h16")
mark_text (Send at) = path (codes "u") at (codes "h0")
mark_text (Delivery at) = path (codes "d") at (codes "h0")
mark_text (Block at) = path (codes "k") at (codes "m-6-2h12m0 4h-12")
mark_text (View at) = path (codes "p") at (codes "m-30-9h60a9 9 0 0 1 0 18h-60a9 9 0 0 1 0-18z")
mark_text (Leave at) = path (codes "o") at (codes "m-6 0a6 6 0 1 0 12 0a6 6 0 1 0-12 0")
mark_text (Packet at) = path (codes "y") at (codes "m-4-4h8v8h-8z")
mark_text (Lost from to) = straight (codes "l") from to
mark_text (Way from to) = straight (codes "a") from to
mark_text (Broken at) = path (codes "f") at (codes "m-60-10h165v20h-165z")
mark_text (Crash at) = path (codes "x") at (codes "m-7-7l14 14m0-14l-14 14")

abbrev pub group_end : List ℕ
group_end = codes "</g>" ++ 10 ∷ []

-- how a text begins, behind all but how far from the top it stands
abbrev pub start_down : List ℕ → ℕ → List ℕ
start_down before y = number_behind before y ++ codes "'>"

-- how a text at a place begins, behind some bytes
abbrev pub start_behind : List ℕ → ℕ → ℕ → List ℕ
start_behind before x y = number_behind before x ++ start_down (codes "' y='") y

-- a text at a place, behind some bytes
abbrev pub text_behind : List ℕ → ℕ → ℕ → List ℕ → List ℕ
text_behind before x y content = start_behind before x y ++ content ++ codes "</text>"

-- a text of a class at a place
abbrev pub text_at : List ℕ → ℕ → ℕ → List ℕ → List ℕ
text_at class x y content = text_behind (codes "<text class='" ++ class ++ codes "' x='") x y content
