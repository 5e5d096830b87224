-- What a net of frames keeps came, also when the list of the net below has grown.
use Rattle.std.proofs.Common.{◌≡◌, ℕ, suc, List, [], ◌∷◌, sym, subst, inl, inr, Option, Some, None, Bool, true, false, cond}
use Rattle.std.specs.Prelude.{length, take, nat_le, ◌⊎◌, Ok}
use Rattle.udp_net.specs.declared.net.Received.TheVariants as received
use Rattle.udp_net.specs.Logs.{Log, Lists, receiving, answer_of, Answered}
use Rattle.frames.specs.Arrivals.{Arrived, ArrivedPiece, GivenIn, PiecesCame}
use Rattle.frames.specs.declared.opener.Opener.{Opener}
use Rattle.frames.specs.declared.partial.Partial.{Partial}
use Rattle.frames.specs.Openers.{AllArrived, AreParts, Stands, OpensTo}
use Rattle.frames.specs.Rows.{Gives}
use Rattle.frames.specs.Nets.{Grows, Keeps, GivesArrived}
use Rattle.frames.proofs.Logs.{given-on, given-last, grows-listing}

module _ (o l : Log) (e : take (length o) l ≡ o) (key : List ℕ) (node : ℕ) where
  piece-on : (boot : List ℕ) (number count index : ℕ) (bytes : List ℕ) → ArrivedPiece (GivenIn o) key node boot number count index bytes
      → ArrivedPiece (GivenIn l) key node boot number count index bytes
  piece-on boot number count index bytes x = record {
    frame = x.frame;
    head = x.head;
    content = x.content;
    given = given-on o l x.frame e x.given;
    opens = x.opens;
    kind = x.kind;
    boot_is = x.boot_is;
    piece = x.piece;
  }

  pieces-on : (boot : List ℕ) (number count index : ℕ) (pieces : List (Option (List ℕ))) → PiecesCame (GivenIn o) key node boot number count index pieces
      → PiecesCame (GivenIn l) key node boot number count index pieces
  pieces-on boot number count index [] x = tt
  pieces-on boot number count index (None ∷ pieces) x = (tt, pieces-on boot number count (suc index) pieces x.1)
  pieces-on boot number count index (Some bytes ∷ pieces) x = (piece-on boot number count index bytes x.0, pieces-on boot number count (suc index) pieces x.1)

  arrived-on : (packet : List ℕ) → Arrived (GivenIn o) key node packet → Arrived (GivenIn l) key node packet
  arrived-on packet (inl x) = inl (record {
    frame = x.frame;
    head = x.head;
    content = x.content;
    packets = x.packets;
    given = given-on o l x.frame e x.given;
    opens = x.opens;
    kind = x.kind;
    short = x.short;
    packed_is = x.packed_is;
    among = x.among;
  })
  arrived-on packet (inr x) = inr (record {
    boot = x.boot;
    number = x.number;
    pieces = x.pieces;
    came = pieces-on x.boot x.number (length x.pieces) 0 x.pieces x.came;
    whole = x.whole;
    joined_is = x.joined_is;
  })

  all-on : (opened : List (List ℕ)) → AllArrived o key node opened → AllArrived l key node opened
  all-on [] x = tt
  all-on (p ∷ opened) x = (arrived-on p x.0, all-on opened x.1)

  parts-on : (partials : List Partial) → AreParts o key node partials → AreParts l key node partials
  parts-on [] x = tt
  parts-on (p ∷ partials) x = (pieces-on p.boot p.number (length p.pieces.items) 0 p.pieces.items x.0, parts-on partials x.1)

stands-on : (o l : Log) (key : List ℕ) (opener : Opener) → take (length o) l ≡ o → Stands o key opener → Stands l key opener
stands-on o l key opener e x = (parts-on o l e key opener.node opener.partials x.0, all-on o l e key opener.node opener.opened x.1)

pub keeps-on : (old new : Option Log) (key : List ℕ) (opener : Opener) → Grows old new → Keeps old key opener → Keeps new key opener
keeps-on old None key opener g x = tt
keeps-on None (Some l) key opener g x = absurd g
keeps-on (Some o) (Some l) key opener g x = stands-on o l key opener g x

pub keeps-new : (log : Option Log) (key : List ℕ) (opener : Opener) → ((l : Log) (k : List ℕ) → Stands l k opener) → Keeps log key opener
keeps-new None key opener x = tt
keeps-new (Some l) key opener x = x l key

-- a frame came and was opened
pub keeps-opening : (old new : Option Log) (key frame : List ℕ) (opener after : Opener) → Lists old (receiving (received.Datagram frame)) new → Grows old new → OpensTo key frame opener after
    → Keeps old key opener → Keeps new key after
keeps-opening old None key frame opener after ls g o x = tt
keeps-opening None (Some l) key frame opener after ls g o x = absurd g
keeps-opening (Some k) (Some l) key frame opener after ls g o x = o l (given-last k l frame ls) (stands-on k l key opener g x)

pub keeps-receiving : (old new : Option Log) (key : List ℕ) (opener after : Opener) (found : Option ℕ) (n : ℕ) (buffer frame : List ℕ) → found ≡ Some n → frame ≡ take n buffer
    → Lists old (receiving (answer_of (Ok found) buffer)) new → OpensTo key frame opener after → Keeps old key opener → Keeps new key after
keeps-receiving old new key opener after found n buffer frame f e ls o x =
    let some : Lists old (receiving (received.Datagram (take n buffer))) new = subst (λ (y : Option ℕ). Lists old (receiving (answer_of (Ok y) buffer)) new) f ls in
    let came : Lists old (receiving (received.Datagram frame)) new = subst (λ (y : List ℕ). Lists old (receiving (received.Datagram y)) new) (sym e) some in
    keeps-opening old new key frame opener after came (grows-listing old new (Answered (received.Datagram frame)) came) o x

-- a packet was given
gives-rest : (l : Log) (key : List ℕ) (node : ℕ) (opened : List (List ℕ)) (result : Option ℕ) (buffer : List ℕ) (rest : List (List ℕ)) → Gives opened result buffer rest
    → AllArrived l key node opened → AllArrived l key node rest
gives-rest l key node opened None buffer rest g x = subst (λ (xs : List (List ℕ)). AllArrived l key node xs) (sym g.1) tt
gives-rest l key node [] (Some n) buffer rest g x = absurd g
gives-rest l key node (p ∷ opened) (Some n) buffer rest g x = subst (λ (xs : List (List ℕ)). AllArrived l key node xs) (sym g.0) x.1

pub keeps-giving : (log : Option Log) (key : List ℕ) (opener after : Opener) (result : Option ℕ) (buffer : List ℕ) → Gives opener.opened result buffer after.opened
    → after ≡ record opener { opened = after.opened } → Keeps log key opener → Keeps log key after
keeps-giving None key opener after result buffer g same x = tt
keeps-giving (Some l) key opener after result buffer g same x =
    subst (λ (y : Opener). Stands l key y) (sym same) (x.0, gives-rest l key opener.node opener.opened result buffer after.opened g x.1)

by-length : (l : Log) (key : List ℕ) (node : ℕ) (p given : List ℕ) (b : Bool) → given ≡ cond b p [] → Arrived (GivenIn l) key node p → (given ≡ []) ⊎ Arrived (GivenIn l) key node given
by-length l key node p given true e x = inr (subst (λ (y : List ℕ). Arrived (GivenIn l) key node y) (sym e) x)
by-length l key node p given false e x = inl e

given-came : (l : Log) (key : List ℕ) (node : ℕ) (opened : List (List ℕ)) (n : ℕ) (buffer : List ℕ) (rest : List (List ℕ)) → Gives opened (Some n) buffer rest → AllArrived l key node opened
    → (take n buffer ≡ []) ⊎ Arrived (GivenIn l) key node (take n buffer)
given-came l key node [] n buffer rest g x = absurd g
given-came l key node (p ∷ opened) n buffer rest g x = by-length l key node p (take n buffer) (nat_le (length p) (length buffer)) g.1 x.0

pub gives-came : (log : Option Log) (key : List ℕ) (opener : Opener) (result : Option ℕ) (buffer : List ℕ) (rest : List (List ℕ)) → Gives opener.opened result buffer rest
    → Keeps log key opener → GivesArrived log key opener.node result buffer
gives-came log key opener None buffer rest g x = tt
gives-came None key opener (Some n) buffer rest g x = tt
gives-came (Some l) key opener (Some n) buffer rest g x = given-came l key opener.node opener.opened n buffer rest g x.1
