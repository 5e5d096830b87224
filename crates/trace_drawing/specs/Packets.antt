-- The marks of packets: where each is put out, where it is handed over, and its way between.
use Rattle.std.specs.Prelude.{◌≡◌, ℕ, ◌+◌, ◌-◌, Bool, false, cond, nat_eq, nat_lt, is_some, List, [], ◌++◌, codes, Option, None, Some, slice_get, unwrap_or, option_map, option_and_then, option_to_list, flat_map}
use Rattle.std.specs.List.{list_any}
use Rattle.std.specs.Fmt.{decimal}
use Rattle.std.specs.HashMap.{get}
use Rattle.world_model.specs.Packets.{packet_numbered}
use Rattle.vsync_text.specs.TraceText.{field, line_with}
use Rattle.vsync_text.specs.PacketText.{kind_in, packet_line}
use Rattle.trace_drawing.specs.declared.aside.AsideKind.{AsideKind}
use Rattle.trace_drawing.specs.declared.aside.AsideKind.TheVariants.{Refused, PutOut, HandedOver}
use Rattle.trace_drawing.specs.declared.aside.AsideRow.{AsideRow}
use Rattle.trace_drawing.specs.declared.packet_rows.PacketRows.{PacketRows}
use Rattle.trace_drawing.specs.declared.marks.Place.{Place}
use Rattle.trace_drawing.specs.declared.marks.Mark.{Mark}
use Rattle.trace_drawing.specs.declared.marks.Mark.TheVariants as marks
use Rattle.trace_drawing.specs.Layout.{last_place}
use Rattle.trace_drawing.specs.Marks.{x_in, y_of, aside_place}
use Rattle.trace_drawing.specs.Spelling.{text_at, mark_text, group_end}

-- whether the packet of a number is put out
abbrev pub is_put_out : ℕ → AsideKind → Bool
is_put_out n (Refused line r) = false
is_put_out n (PutOut m) = nat_eq m n
is_put_out n (HandedOver m) = false

-- whether the packet of a number is handed over
abbrev pub is_handed_over : ℕ → AsideKind → Bool
is_handed_over n (Refused line r) = false
is_handed_over n (PutOut m) = false
is_handed_over n (HandedOver m) = nat_eq m n

-- the last row in which the packet of a number is put out
abbrev pub put_out_in : List AsideRow → ℕ → Option ℕ
put_out_in rows n = last_place (λ r. is_put_out n r.kind) rows

-- whether the packet of a number is handed over in some row
abbrev pub arrives : List AsideRow → ℕ → Bool
arrives rows n = list_any (λ r. is_handed_over n r.kind) rows

-- a little way from one place towards another
abbrev pub towards : ℕ → ℕ → ℕ
towards from to = cond (nat_lt to from) (from - 34) (cond (nat_lt from to) (from + 34) from)

-- where a lost packet ends: in the air, a little way towards the column to which it goes
abbrev pub in_the_air : AsideRow → Place
in_the_air r = record { x = towards (x_in r.column) (x_in r.towards); y = y_of r.level + 16 }

-- the way of a packet that is lost: it is never handed over
abbrev pub lost_way : List AsideRow → AsideRow → ℕ → Option Mark
lost_way rows r n = cond (arrives rows n) None (Some (marks.Lost (aside_place r) (in_the_air r)))

-- the way of a packet to where it is handed over, from where it was put out
abbrev pub way_to : List AsideRow → AsideRow → ℕ → Option Mark
way_to rows r n = option_map (λ from. marks.Way (aside_place from) (aside_place r)) (option_and_then (slice_get rows) (put_out_in rows n))

-- the bytes of the packet of a number
abbrev pub bytes_numbered : ℕ → List (List ℕ) → List ℕ
bytes_numbered n packets = unwrap_or (packet_numbered n packets) []

-- how the group of a packet begins: its title, the line that `packets` prints of it
abbrev pub packet_start : ℕ → List ℕ → List ℕ
packet_start n bytes = codes "<g><title>" ++ packet_line n bytes ++ codes "</title>"

-- the number of a packet and its kind, beside its mark
abbrev pub packet_name : AsideRow → ℕ → List ℕ → List ℕ
packet_name r n kind = text_at (codes "j") (x_in r.column + 11) (y_of r.level + 4) (decimal n ++ field kind)

-- all that is drawn of a packet where it is put out: its mark, its way where it is lost, and its name
abbrev pub packet_group : List AsideRow → AsideRow → ℕ → List ℕ → List ℕ
packet_group rows r n bytes =
    packet_start n bytes ++ (mark_text (marks.Packet (aside_place r)) ++ flat_map mark_text (option_to_list (lost_way rows r n))) ++ packet_name r n (kind_in bytes) ++ group_end

-- how the group of a packet that is handed over begins: its title, the script's line
abbrev pub handed_start : ℕ → List ℕ
handed_start n = codes "<g><title>" ++ line_with (codes "deliver") (field (decimal n)) ++ codes "</title>"

-- the number of a packet, beside its way's end
abbrev pub handed_name : AsideRow → ℕ → List ℕ
handed_name r n = text_at (codes "j") (x_in r.column + 11) (y_of r.level + 4) (decimal n)

-- all that is drawn of a packet where it is handed over: its way, and its number
abbrev pub handed_group : List AsideRow → AsideRow → ℕ → List ℕ
handed_group rows r n = handed_start n ++ flat_map mark_text (option_to_list (way_to rows r n)) ++ handed_name r n ++ group_end

-- the row that a table has for a packet
abbrev pub row_in : PacketRows → ℕ → Option ℕ
row_in table n = unwrap_or (slice_get table.near.items n) (get nat_eq table.far n)

-- what is kept of rows says where each packet is put out last, and whether it is handed over
pub record KnowsWays (put_out handed_over : ℕ → Option ℕ) (rows : List AsideRow) : Type 0 where
  pub sources : (n : ℕ) → put_out n ≡ put_out_in rows n
  pub ends : (n : ℕ) → is_some (handed_over n) ≡ arrives rows n
