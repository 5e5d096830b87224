-- The law of words: each is read from its spelling, whatever follows.
use Rattle.std.proofs.Common.{◌≡◌, ◌≤◌, ℕ, zero, suc, Bool, true, false, List, [], ◌∷◌, ◌++◌, Option, Some, None, Ok, refl, sym, ap, ◌∙◌, append_assoc, arith, nat_eq}
use Rattle.std.specs.Prelude.{IfSome}
use Rattle.std.specs.Cmp.Lexicographic.{pointwise}
use Rattle.std.proofs.lemmas.List.{append-nil}
use Rattle.std.proofs.lemmas.Bool.{eq-eqb}
use Rattle.byteorder.specs.Endian.{big_bytes}
use Rattle.address.specs.Ids.{ViewId}
use Rattle.address.specs.declared.limits.TheConstants.{MEMBERS}
use Rattle.wire_values.specs.declared.error.WireError.TheVariants.{NotOurs, Version, Value}
use Rattle.wire_values.specs.Fields.{IsNumber, address_bytes, number_bytes, view_id_bytes}
use Rattle.wire_values.specs.Texts.{group_bytes}
use Rattle.wire_values.specs.Names.{is_group_name}
use Rattle.wire_values.proofs.FieldLaws.{number_again, address_part, view_id_part}
use Rattle.wire.proofs.PacketLaws.{group_part}
use Rattle.udp_net.specs.declared.word.Word.{Word}
use Rattle.udp_net.specs.declared.word.Echo.{Echo}
use Rattle.udp_net.specs.declared.word.Place.{Place}
use Rattle.udp_net.specs.declared.word.WordVersion.{WordVersion}
use Rattle.udp_net.specs.declared.word.WordVersion.TheVariants.{First, Second}
use Rattle.udp_net.specs.declared.word.TheConstants.{WORD_MAGIC, FIRST_VERSION, WORD_VERSION, GREATEST_CLOCK}
use Rattle.udp_net.specs.Words.{IsEcho, IsPlace, IsWord, greatest_history, echo_bytes, history_bytes, place_bytes, version_number, word_head, said_bytes, word_bytes, version_at, echo_at, history_at, place_at, said_at, word_at, word_of}

three : (a b c rest : List ℕ) → (a ++ b ++ c) ++ rest ≡ a ++ (b ++ (c ++ rest))
three a b c rest = append_assoc (a ++ b) c rest ∙ append_assoc a b (c ++ rest)

echo_again : (o : Option Echo) (rest : List ℕ) → IfSome o IsEcho → echo_at (echo_bytes o ++ rest) ≡ Ok (o, rest)
unfolding echo_at
echo_again None rest is = rw (number_again 1 0 1 Value 0 rest (omega arith) (omega arith) (omega arith)) refl
echo_again (Some e) rest is =
    let said = number_bytes e.said ++ rest in
    ap echo_at (three (big_bytes 1 1) (address_bytes e.address) (number_bytes e.said) rest)
    ∙ rw (number_again 1 0 1 Value 1 (address_bytes e.address ++ said) (omega arith) (omega arith) (omega arith), address_part.again e.address said is.address, number_again 8 0 GREATEST_CLOCK Value e.said rest (omega (arith, is.said)) (omega arith) is.said) refl

history_again : (x : WordVersion) (v : ViewId) (h : ℕ) (rest : List ℕ) → IsNumber v.counter → h ≤ greatest_history x v → history_at x v (history_bytes x h ++ rest) ≡ Ok (h, rest)
unfolding history_at
history_again First v zero rest is few = refl
history_again First v (suc h) rest is few = absurd (omega (arith, few))
history_again Second v h rest is few = number_again 8 0 v.counter Value h rest (omega (arith, few, is)) (omega arith) few

abbrev placed : ViewId → ℕ → Bool → ℕ → Place
placed view members stays history = record { view = view; members = members; stays = stays; history = history }

four : (a b c d rest : List ℕ) → (a ++ b ++ c ++ d) ++ rest ≡ a ++ (b ++ (c ++ (d ++ rest)))
four a b c d rest = append_assoc (a ++ b ++ c) d rest ∙ three a b c (d ++ rest)

-- of each flag, 1 and 2
placed_again : (x : WordVersion) (v : ViewId) (n : ℕ) (stays : Bool) (h : ℕ) (rest : List ℕ) → IsPlace x (placed v n stays h)
    → place_at x (place_bytes x (Some (placed v n stays h)) ++ rest) ≡ Ok (Some (placed v n stays h), rest)
unfolding place_at
placed_again x v n false h rest is =
    let history = history_bytes x h ++ rest in
    let members = big_bytes 1 n ++ history in
    ap (place_at x) (four (big_bytes 1 1) (view_id_bytes v) (big_bytes 1 n) (history_bytes x h) rest)
    ∙ rw (number_again 1 0 2 Value 1 (view_id_bytes v ++ members) (omega arith) (omega arith) (omega arith), view_id_part.again v members is.view, number_again 1 1 MEMBERS Value n history (omega (arith, is.few)) is.some is.few, history_again x v h rest is.view.counter is.history) refl
placed_again x v n true h rest is =
    let history = history_bytes x h ++ rest in
    let members = big_bytes 1 n ++ history in
    ap (place_at x) (four (big_bytes 1 2) (view_id_bytes v) (big_bytes 1 n) (history_bytes x h) rest)
    ∙ rw (number_again 1 0 2 Value 2 (view_id_bytes v ++ members) (omega arith) (omega arith) (omega arith), view_id_part.again v members is.view, number_again 1 1 MEMBERS Value n history (omega (arith, is.few)) is.some is.few, history_again x v h rest is.view.counter is.history) refl

place_again : (x : WordVersion) (o : Option Place) (rest : List ℕ) → IfSome o (IsPlace x) → place_at x (place_bytes x o ++ rest) ≡ Ok (o, rest)
unfolding place_at
place_again x None rest is = rw (number_again 1 0 2 Value 0 rest (omega arith) (omega arith) (omega arith)) refl
place_again x (Some p) rest is = placed_again x p.view p.members p.stays p.history rest is

said_again : (w : Word) (rest : List ℕ) → IsWord w → said_at w.version (said_bytes w ++ rest) ≡ Ok (w, rest)
unfolding said_at
said_again w rest is =
    let place = place_bytes w.version w.place ++ rest in
    let echo = echo_bytes w.echo ++ place in
    let said = number_bytes w.said ++ echo in
    ap (said_at w.version) (four (address_bytes w.source) (number_bytes w.said) (echo_bytes w.echo) (place_bytes w.version w.place) rest)
    ∙ rw (address_part.again w.source said is.source, number_again 8 0 GREATEST_CLOCK Value w.said echo (omega (arith, is.said)) (omega arith) is.said, echo_again w.echo place is.echo, place_again w.version w.place rest is.place) refl

same_again : (name : List ℕ) → pointwise nat_eq name name ≡ true
same_again [] = refl
same_again (b ∷ name) = rw (eq-eqb b b refl) (same_again name)

version_again : (x : WordVersion) (rest : List ℕ) → version_at (big_bytes 2 WORD_MAGIC ++ (big_bytes 1 (version_number x) ++ rest)) ≡ Ok (x, rest)
unfolding version_at
version_again First rest =
    rw (number_again 2 WORD_MAGIC WORD_MAGIC NotOurs WORD_MAGIC (big_bytes 1 FIRST_VERSION ++ rest) (omega arith) (omega arith) (omega arith), number_again 1 FIRST_VERSION WORD_VERSION Version FIRST_VERSION rest (omega arith) (omega arith) (omega arith)) refl
version_again Second rest =
    rw (number_again 2 WORD_MAGIC WORD_MAGIC NotOurs WORD_MAGIC (big_bytes 1 WORD_VERSION ++ rest) (omega arith) (omega arith) (omega arith), number_again 1 FIRST_VERSION WORD_VERSION Version WORD_VERSION rest (omega arith) (omega arith) (omega arith)) refl

word_again : (group : List ℕ) (w : Word) (rest : List ℕ) → is_group_name group ≡ true → IsWord w → word_at group (word_bytes group w ++ rest) ≡ Ok (w, rest)
unfolding word_at
word_again group w rest named is =
    let said = said_bytes w ++ rest in
    let name = group_bytes group ++ said in
    ap (word_at group) (append_assoc (word_head w.version group) (said_bytes w) rest ∙ three (big_bytes 2 WORD_MAGIC) (big_bytes 1 (version_number w.version)) (group_bytes group) said)
    ∙ rw (version_again w.version name, group_part.again group said named, same_again group) (said_again w rest is)

-- what spells a word is read as it
pub spelled_is_read : (group : List ℕ) (w : Word) (bytes : List ℕ) → is_group_name group ≡ true → IsWord w → bytes ≡ word_bytes group w → word_of group bytes ≡ Ok w
unfolding word_of
spelled_is_read group w bytes named is e =
    ap (word_of group) (e ∙ sym (append-nil (word_bytes group w))) ∙ rw (word_again group w [] named is) refl
