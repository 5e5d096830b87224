-- The settings of a file's bytes.
use Rattle.std.proofs.Common.{◌≡◌, ℕ, Bool, true, false, List, Option, None, refl, ap, sym, ◌∙◌}
use Rattle.std.proofs.lemmas.Str.{IsUtf8-from_is_utf8, is_utf8-from_IsUtf8}
use Rattle.std.specs.Option.{option_and_then}
use Rattle.std.specs.Str.{IsUtf8, is_utf8}
use Rattle.toml.specs.Parse.{parse_document}
use Rattle.udp_net.specs.Settings.{SettingsModel, settings_in}
use Rattle.vsync.specs.Settings.{settings_of_bytes}

-- none, where they are no UTF-8
pub none_of : (bytes : List ℕ) → (IsUtf8 bytes → ⊥) → settings_of_bytes bytes ≡ None
none_of bytes none = go (is_utf8 bytes) refl
  where
    go : (b : Bool) → is_utf8 bytes ≡ b → settings_of_bytes bytes ≡ None
    go true e = absurd (none (IsUtf8-from_is_utf8 bytes e))
    go false e = rw e refl

-- those of the text, where they are one
pub those_of : (bytes text : List ℕ) (o : Option SettingsModel) → IsUtf8 bytes → text ≡ bytes → option_and_then settings_in (parse_document text) ≡ o
    → settings_of_bytes bytes ≡ o
those_of bytes text o is same read =
    let utf8 = is_utf8-from_IsUtf8 bytes is in
    rw utf8 (ap (λ (t : List ℕ). option_and_then settings_in (parse_document t)) (sym same) ∙ read)
