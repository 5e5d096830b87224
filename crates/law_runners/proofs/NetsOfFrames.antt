-- What a process's net of frames gives and carries, at each place of the order of all.
use Rattle.std.proofs.Common.{◌≡◌, ℕ, zero, suc, Bool, true, false, List, [], ◌∷◌, ◌++◌, length, take, refl, sym, ap, ◌∙◌, subst, append_assoc, inl, inr, Option, Some, None}
use Rattle.std.specs.Prelude.{◌⊎◌, slice_get, filter_map, if◌then◌else◌}
use Rattle.std.specs.List.{AllByRecursion, cons_option}
use Rattle.std.proofs.lemmas.List.{append-nil}
use Rattle.std.proofs.lemmas.Option.{none-some, same_Some}
use Rattle.address.specs.Ids.{Address, same_address}
use Rattle.address.proofs.SameIds.{same_address-refl, same_address-true}
use Rattle.udp_net.specs.declared.net.Received.TheVariants as received
use Rattle.udp_net.specs.Logs.{Log, NetEvent, Answered, Offered}
use Rattle.frames.specs.declared.outlet.Seal.{Seal}
use Rattle.frames.specs.Arrivals.{Arrived, ArrivedPiece, GivenIn, PiecesCame, StandsIn}
use Rattle.frames.specs.Carried.{ArePacked, Carries}
use Rattle.frames.specs.Lives.{Side, Above as SideAbove, Below as SideBelow, CameBefore, CarriesSent, IsOfFrames, below, below_of, packet_of, packets_in}
use Rattle.law_runners.specs.Items.{OfNet, OfMember}
use Rattle.law_runners.specs.Sealed.{Acted, Deed, Above, Below, HasDone, side_in, side_of, sides}
use Rattle.law_runners.proofs.OrderAbove.{stands-at}

-- a net below gave its process a frame; a net of frames was offered a packet
abbrev pub Gave : {S : Type 0} → List (Acted S) → Address → List ℕ → Type 0
Gave all p frame = HasDone all p (Below (Answered (received.Datagram frame)))

abbrev pub Sent : {S : Type 0} → List (Acted S) → Address → List ℕ → Type 0
Sent all p packet = (node : ℕ) × HasDone all p (Above (OfNet (Offered (record { node = node; bytes = packet }))))

-- at each place: what it gives came before in frames of the net below (or it is empty); and what it offers that net carries packets that it was offered before
pub record IsNetOfFrames {S : Type 0} (key boot : List ℕ) (long : ℕ → ℕ → List ℕ) (all : List (Acted S)) (p : Address) : Type 0 where
  pub boot_long : length boot ≡ 16
  pub gives : (k : ℕ) (bytes : List ℕ) → slice_get all k ≡ Some (record { by = p; deed = Above (OfNet (Answered (received.Datagram bytes))) })
      → (bytes ≡ []) ⊎ Arrived (Gave (take k all) p) key p.node bytes
  pub offers : (k node : ℕ) (frame : List ℕ) → slice_get all k ≡ Some (record { by = p; deed = Below (Offered (record { node = node; bytes = frame })) })
      → Carries key boot long (Sent (take k all) p) frame

-- ---- what arrived, of fewer frames that were given

all-as : (A : Type 0) (One Other : A → Type 0) → ((x : A) → One x → Other x) → (xs : List A) → AllByRecursion One xs → AllByRecursion Other xs
all-as A One Other also [] all = tt
all-as A One Other also (x ∷ xs) all = (also x all.0, all-as A One Other also xs all.1)

packed-as : (One Other : List ℕ → Type 0) → ((p : List ℕ) → One p → Other p) → (content : List ℕ) → ArePacked One content → ArePacked Other content
packed-as One Other also content x = record { packets = x.packets; content_is = x.content_is; short = x.short; sent = all-as (List ℕ) One Other also x.packets x.sent }

pub carries-as : (key boot : List ℕ) (long : ℕ → ℕ → List ℕ) (One Other : List ℕ → Type 0) (frame : List ℕ) → ((p : List ℕ) → One p → Other p) → Carries key boot long One frame
    → Carries key boot long Other frame
carries-as key boot long One Other frame also (inl w) = inl (record {
  head = w.head;
  content = w.content;
  frame_is = w.frame_is;
  kind = w.kind;
  boot_is = w.boot_is;
  to_fits = w.to_fits;
  parts = λ node part is. packed-as One Other also part (w.parts node part is);
})
carries-as key boot long One Other frame also (inr w) = inr (record {
  head = w.head;
  number = w.number;
  index = w.index;
  frame_is = w.frame_is;
  kind = w.kind;
  boot_is = w.boot_is;
  to_fits = w.to_fits;
  number_fits = w.number_fits;
  index_fits = w.index_fits;
  count_fits = w.count_fits;
  sent = also _ w.sent;
})

module _ (One Other : List ℕ → Type 0) (also : (f : List ℕ) → One f → Other f) (key : List ℕ) (node : ℕ) where
  piece-as : (boot : List ℕ) (number count index : ℕ) (bytes : List ℕ) → ArrivedPiece One key node boot number count index bytes → ArrivedPiece Other key node boot number count index bytes
  piece-as boot number count index bytes x = record {
    frame = x.frame;
    head = x.head;
    content = x.content;
    given = also x.frame x.given;
    opens = x.opens;
    kind = x.kind;
    boot_is = x.boot_is;
    piece = x.piece;
  }

  pieces-as : (boot : List ℕ) (number count index : ℕ) (pieces : List (Option (List ℕ))) → PiecesCame One key node boot number count index pieces
      → PiecesCame Other key node boot number count index pieces
  pieces-as boot number count index [] x = tt
  pieces-as boot number count index (None ∷ pieces) x = (tt, pieces-as boot number count (suc index) pieces x.1)
  pieces-as boot number count index (Some bytes ∷ pieces) x = (piece-as boot number count index bytes x.0, pieces-as boot number count (suc index) pieces x.1)

  arrived-as : (packet : List ℕ) → Arrived One key node packet → Arrived Other key node packet
  arrived-as packet (inl x) = inl (record {
    frame = x.frame;
    head = x.head;
    content = x.content;
    packets = x.packets;
    given = also x.frame x.given;
    opens = x.opens;
    kind = x.kind;
    short = x.short;
    packed_is = x.packed_is;
    among = x.among;
  })
  arrived-as packet (inr x) = inr (record {
    boot = x.boot;
    number = x.number;
    pieces = x.pieces;
    came = pieces-as x.boot x.number (length x.pieces) 0 x.pieces x.came;
    whole = x.whole;
    joined_is = x.joined_is;
  })

-- ---- the place of an element in what is left of a list

module _ {A B : Type 0} (f : A → Option B) where
  abbrev Place : List A → ℕ → B → Type 0
  Place xs k y = (j : ℕ) × (slice_get (filter_map f xs) j ≡ Some y) × (take j (filter_map f xs) ≡ filter_map f (take k xs))

  place-by : (x : A) (xs : List A) (o : Option B) → f x ≡ o → (k : ℕ) (y : B) → Place xs k y → Place (x ∷ xs) (suc k) y
  place-by x xs None e k y h =
      let same : filter_map f (x ∷ xs) ≡ filter_map f xs = ap (λ (o : Option B). cons_option o (filter_map f xs)) e in (
        h.0,
        ap (λ (l : List B). slice_get l h.0) same ∙ h.1,
        ap (take h.0) same ∙ h.2 ∙ sym (ap (λ (o : Option B). cons_option o (filter_map f (take k xs))) e),
      )
  place-by x xs (Some z) e k y h =
      let same : filter_map f (x ∷ xs) ≡ z ∷ filter_map f xs = ap (λ (o : Option B). cons_option o (filter_map f xs)) e in (
        suc h.0,
        ap (λ (l : List B). slice_get l (suc h.0)) same ∙ h.1,
        ap (take (suc h.0)) same ∙ ap (λ (l : List B). z ∷ l) h.2 ∙ sym (ap (λ (o : Option B). cons_option o (filter_map f (take k xs))) e),
      )

  place-of : (xs : List A) (k : ℕ) (x : A) (y : B) → slice_get xs k ≡ Some x → f x ≡ Some y → Place xs k y
  place-of [] k x y at is = absurd (none-some x at)
  place-of (z ∷ xs) zero x y at is = (
    0,
    ap (λ (o : Option B). slice_get (cons_option o (filter_map f xs)) 0) (ap f (same_Some z x at) ∙ is),
    refl,
  )
  place-of (z ∷ xs) (suc k) x y at is = place-by z xs (f z) refl k y (place-of xs k x y at is)

-- ---- at a place of what happened at a net of frames

module _ (seal : Seal) (node : ℕ) (long : ℕ → ℕ → List ℕ) where
  abbrev HoldsOf : Log → List (List ℕ) → Side → Type 0
  HoldsOf before sent (SideAbove (Answered answer)) = CameBefore seal node before answer
  HoldsOf before sent (SideAbove (Offered o)) = Unit {0}
  HoldsOf before sent (SideBelow event) = CarriesSent seal long sent event

  holds-first : (before : Log) (sent : List (List ℕ)) (first e : Side) → first ≡ e → HoldsOf before sent first → HoldsOf (before ++ []) (sent ++ []) e
  holds-first before sent first e same h =
      subst (λ (s : Side). HoldsOf (before ++ []) (sent ++ []) s) same
      (subst (λ (l : Log). HoldsOf l (sent ++ []) first) (sym (append-nil before)) (subst (λ (l : List (List ℕ)). HoldsOf before l first) (sym (append-nil sent)) h))

  holds-at : (before : Log) (sent : List (List ℕ)) (ss : List Side) (j : ℕ) (e : Side) → IsOfFrames seal node long before sent ss → slice_get ss j ≡ Some e
      → HoldsOf (before ++ below (take j ss)) (sent ++ packets_in (take j ss)) e
  holds-at before sent [] j e x at = absurd (none-some e at)
  holds-at before sent (SideAbove (Offered o) ∷ ss) zero e x at = holds-first before sent (SideAbove (Offered o)) e (same_Some _ e at) tt
  holds-at before sent (SideAbove (Answered a) ∷ ss) zero e x at = holds-first before sent (SideAbove (Answered a)) e (same_Some _ e at) x.0
  holds-at before sent (SideBelow event ∷ ss) zero e x at = holds-first before sent (SideBelow event) e (same_Some _ e at) x.0
  holds-at before sent (SideAbove (Offered o) ∷ ss) (suc j) e x at =
      subst (λ (l : List (List ℕ)). HoldsOf (before ++ below (take j ss)) l e) (append_assoc sent (o.bytes ∷ []) (packets_in (take j ss)))
      (holds-at before (sent ++ o.bytes ∷ []) ss j e x at)
  holds-at before sent (SideAbove (Answered a) ∷ ss) (suc j) e x at = holds-at before sent ss j e x.1 at
  holds-at before sent (SideBelow event ∷ ss) (suc j) e x at =
      subst (λ (l : Log). HoldsOf l (sent ++ packets_in (take j ss)) e) (append_assoc before (event ∷ []) (below (take j ss)))
      (holds-at (before ++ event ∷ []) sent ss j e x.1 at)

-- ---- what stands among what happened at the nets of a process

abbrev side_event : Side → NetEvent
side_event (SideAbove e) = e
side_event (SideBelow e) = e

below-is : (s : Side) (e : NetEvent) → below_of s ≡ Some e → s ≡ SideBelow e
below-is (SideAbove other) e is = absurd (none-some e is)
below-is (SideBelow other) e is = ap (λ (x : NetEvent). SideBelow x) (same_Some other e is)

record IsPacket (s : Side) (packet : List ℕ) : Type 0 where
  node : ℕ
  is : s ≡ SideAbove (Offered (record { node = node; bytes = packet }))

packet-is : (s : Side) (packet : List ℕ) → packet_of s ≡ Some packet → IsPacket s packet
packet-is (SideAbove (Answered a)) packet is = absurd (none-some packet is)
packet-is (SideAbove (Offered o)) packet is = record {
  node = o.node;
  is = ap (λ (b : List ℕ). SideAbove (Offered (record { node = o.node; bytes = b }))) (same_Some o.bytes packet is);
}
packet-is (SideBelow event) packet is = absurd (none-some packet is)

module _ {S : Type 0} (p : Address) where
  above-in : (d : Deed S) (e : NetEvent) → side_in d ≡ Some (SideAbove e) → d ≡ Above (OfNet e)
  above-in (Above (OfNet other)) e is = ap (λ (x : NetEvent). Above (OfNet x)) (ap side_event (same_Some _ _ is))
  above-in (Above (OfMember step)) e is = absurd (none-some _ is)
  above-in (Below other) e is = absurd (let bad : SideBelow other ≡ SideAbove e = same_Some _ _ is in cc)

  below-in : (d : Deed S) (e : NetEvent) → side_in d ≡ Some (SideBelow e) → d ≡ Below e
  below-in (Above (OfNet other)) e is = absurd (let bad : SideAbove other ≡ SideBelow e = same_Some _ _ is in cc)
  below-in (Above (OfMember step)) e is = absurd (none-some _ is)
  below-in (Below other) e is = ap (λ (x : NetEvent). Below x) (ap side_event (same_Some _ _ is))

  record IsOwn (x : Acted S) (s : Side) : Type 0 where
    by_it : x.by ≡ p
    deed_is : side_in x.deed ≡ Some s

  own-by : (x : Acted S) (s : Side) (b : Bool) → same_address p x.by ≡ b → (if b then side_in x.deed else None) ≡ Some s → IsOwn x s
  own-by x s true e is = record { by_it = sym (same_address-true p x.by e); deed_is = is }
  own-by x s false e is = absurd (none-some s is)

  own-is : (x : Acted S) (s : Side) → side_of p x ≡ Some s → IsOwn x s
  own-is x s is = own-by x s (same_address p x.by) refl is

  acted-is : (x : Acted S) (d : Deed S) → x.by ≡ p → x.deed ≡ d → x ≡ record { by = p; deed = d }
  acted-is x d e f = ap (λ (a : Address). record { by = a; deed = x.deed }) e ∙ ap (λ (y : Deed S). record { by = p; deed = y }) f

  side-by : (d : Deed S) (s : Side) → side_in d ≡ Some s → side_of p (record { by = p; deed = d }) ≡ Some s
  side-by d s is = ap (λ (b : Bool). if b then side_in d else None) (same_address-refl p) ∙ is

  done-below : (all : List (Acted S)) (k : ℕ) (e : NetEvent) → slice_get (below (sides p all)) k ≡ Some e → HasDone all p (Below e)
  done-below all k e at =
      let one = stands-at below_of (sides p all) k e at in
      let two = stands-at (side_of p) all one.place one.x one.at in
      let own = own-is two.x one.x two.is in
      (two.place, two.at ∙ ap (λ (x : Acted S). Some x) (acted-is two.x (Below e) own.by_it (below-in two.x.deed e (own.deed_is ∙ ap (λ (s : Side). Some s) (below-is one.x e one.is)))))

  was-given : (all : List (Acted S)) (frame : List ℕ) → GivenIn (below (sides p all)) frame → Gave all p frame
  was-given all frame given = done-below all given.0 (Answered (received.Datagram frame)) given.1

  was-offered : (all : List (Acted S)) (packet : List ℕ) → StandsIn (packets_in (sides p all)) packet → Sent all p packet
  was-offered all packet stands =
      let one = stands-at packet_of (sides p all) stands.0 packet stands.1 in
      let what = packet-is one.x packet one.is in
      let two = stands-at (side_of p) all one.place one.x one.at in
      let own = own-is two.x one.x two.is in (
        what.node,
        (
          two.place,
          two.at
              ∙ ap (λ (x : Acted S). Some x)
              (acted-is two.x (Above (OfNet (Offered (record { node = what.node; bytes = packet })))) own.by_it
              (above-in two.x.deed (Offered (record { node = what.node; bytes = packet })) (own.deed_is ∙ ap (λ (s : Side). Some s) what.is))),
        ),
      )

  -- so it is a net of frames
  module _ (seal : Seal) (long : ℕ → ℕ → List ℕ) (key : List ℕ) (all : List (Acted S)) (k_is : seal.key ≡ key) (is : IsOfFrames seal p.node long [] [] (sides p all)) where
    holds : (k : ℕ) (d : Deed S) (s : Side) → slice_get all k ≡ Some (record { by = p; deed = d }) → side_in d ≡ Some s
        → HoldsOf seal p.node long (below (sides p (take k all))) (packets_in (sides p (take k all))) s
    holds k d s at of =
        let place = place-of (side_of p) all k (record { by = p; deed = d }) s at (side-by d s of) in
        subst (λ (l : List Side). HoldsOf seal p.node long (below l) (packets_in l) s) place.2 (holds-at seal p.node long [] [] (sides p all) place.0 s is place.1)

    or-empty : (k : ℕ) (bytes : List ℕ) → (bytes ≡ []) ⊎ Arrived (GivenIn (below (sides p (take k all)))) seal.key p.node bytes → (bytes ≡ []) ⊎ Arrived (Gave (take k all) p) key p.node bytes
    or-empty k bytes (inl e) = inl e
    or-empty k bytes (inr x) =
        inr (subst (λ (y : List ℕ). Arrived (Gave (take k all) p) y p.node bytes) k_is
        (arrived-as (GivenIn (below (sides p (take k all)))) (Gave (take k all) p) (was-given (take k all)) seal.key p.node bytes x))

    pub net-of-frames : length seal.boot ≡ 16 → IsNetOfFrames key seal.boot long all p
    net-of-frames boot_long = record {
      boot_long = boot_long;
      gives = λ k bytes at. or-empty k bytes (holds k (Above (OfNet (Answered (received.Datagram bytes)))) (SideAbove (Answered (received.Datagram bytes))) at refl);
      offers = λ k node frame at.
          subst (λ (y : List ℕ). Carries y seal.boot long (Sent (take k all) p) frame) k_is
          (carries-as seal.key seal.boot long (StandsIn (packets_in (sides p (take k all)))) (Sent (take k all) p) frame (was-offered (take k all))
          (holds k (Below (Offered (record { node = node; bytes = frame }))) (SideBelow (Offered (record { node = node; bytes = frame }))) at refl));
    }
