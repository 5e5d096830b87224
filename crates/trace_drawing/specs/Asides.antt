-- What is drawn of asides: of what was refused, and of packets.
use Rattle.std.specs.Prelude.{ℕ, List, [], ◌∷◌, ◌++◌, flat_map}
use Rattle.trace_drawing.specs.declared.asides.TheConstants.{ASIDE_STYLE}
use Rattle.trace_drawing.specs.declared.aside.AsideKind.{AsideKind}
use Rattle.trace_drawing.specs.declared.aside.AsideKind.TheVariants.{Refused, PutOut, HandedOver}
use Rattle.trace_drawing.specs.declared.aside.AsideRow.{AsideRow}
use Rattle.trace_drawing.specs.Refused.{refused_group}
use Rattle.trace_drawing.specs.Packets.{bytes_numbered, packet_group, handed_group}

-- all that is drawn of an aside of a kind, among rows and packets
abbrev pub kind_group : List AsideRow → List (List ℕ) → AsideRow → AsideKind → List ℕ
kind_group rows packets r (Refused line refusal) = refused_group r line refusal
kind_group rows packets r (PutOut n) = packet_group rows r n (bytes_numbered n packets)
kind_group rows packets r (HandedOver n) = handed_group rows r n

-- all that is drawn of an aside
abbrev pub aside_group : List AsideRow → List (List ℕ) → AsideRow → List ℕ
aside_group rows packets r = kind_group rows packets r r.kind

-- all that is drawn of asides, where there are any
abbrev pub asides_text : List AsideRow → List (List ℕ) → List ℕ
asides_text [] packets = []
asides_text (r ∷ rs) packets = ASIDE_STYLE.now ++ flat_map (aside_group (r ∷ rs) packets) (r ∷ rs)
