-- The text of a part.
use Rattle.std.specs.Prelude.{ℕ, List}
use Rattle.std.specs.Fmt.{decimal}
use Rattle.address.specs.Ids.{text_of_address, text_of_view_id}
use Rattle.vsync_text.specs.declared.part.Part.{Part}
use Rattle.vsync_text.specs.declared.part.Part.TheVariants as part

-- what a part says
abbrev pub text_of_part : Part → List ℕ
text_of_part (part.Text bytes) = bytes.now
text_of_part (part.Number number) = decimal number
text_of_part (part.Address member) = text_of_address member
text_of_part (part.View view) = text_of_view_id view
