-- The labels of payloads: text where they are printable, else hexadecimal; cut, and escaped.
use Rattle.std.specs.Prelude.{ℕ, Bool, ◌&&◌, cond, List, [], ◌∷◌, ◌++◌, length, take, codes, nat_eq, nat_lt, nat_le, flat_map}
use Rattle.std.specs.List.{list_all}
use Rattle.vsync_text.specs.TraceText.{hex_of}
use Rattle.trace_drawing.specs.declared.labels.TheConstants.{LETTERS, BYTES}

-- a byte as text of XML: those that would begin or end something else are spelled out
abbrev pub escaped_byte : ℕ → List ℕ
escaped_byte b = cond (nat_eq b 60) (codes "&lt;") (cond (nat_eq b 62) (codes "&gt;") (cond (nat_eq b 38) (codes "&amp;") (b ∷ [])))

abbrev pub escaped : List ℕ → List ℕ
escaped bytes = flat_map escaped_byte bytes

-- whether a byte is a printable letter of ASCII, a space among them
abbrev pub is_printable : ℕ → Bool
is_printable b = nat_le 32 b && nat_le b 126

abbrev pub is_text : List ℕ → Bool
is_text bytes = list_all is_printable bytes

-- three dots where there are more than so many
abbrev pub dots : ℕ → List ℕ → List ℕ
dots most bytes = cond (nat_lt most (length bytes)) (codes "&#8230;") []

-- what is shown of a payload: its first letters where it is text, else its first bytes in hexadecimal
abbrev pub label : List ℕ → List ℕ
label payload = cond (is_text payload) (escaped (take LETTERS payload) ++ dots LETTERS payload) (codes "0x" ++ hex_of (take BYTES payload) ++ dots BYTES payload)
