-- Each life of a net of frames is one of a net of frames: by induction over its calls.
use Rattle.std.proofs.Common.{◌≡◌, ◌≢◌, ◌<◌, ℕ, Bool, true, false, eqb, List, [], ◌∷◌, ◌++◌, ◌&&◌, map, length, refl, sym, ap, ◌∙◌, subst, append_assoc, inl, inr, Option, Some, None, arith}
use Rattle.std.specs.Prelude.{◌⊎◌, nat_eq, nat_lt, if◌then◌else◌, Result, Ok, Err, IfOk}
use Rattle.std.specs.List.{AllByRecursion}
use Rattle.std.specs.Cmp.Lexicographic.{pointwise, same_text}
use Rattle.std.proofs.lemmas.Bool.{eq-eqb, eqb-true}
use Rattle.std.proofs.lemmas.List.{append-nil, append_cancel_left}
use Rattle.std.proofs.lemmas.List.Elements.{filter_map-append}
use Rattle.trace_props.proofs.RulesAlongLists.{slice_get-before, slice_get-last}
use Rattle.udp_net.specs.declared.error.Fault.{Fault}
use Rattle.udp_net.specs.Logs.{Log, NetEvent, Answered, Offered, answer_of}
use Rattle.frames.specs.declared.longs.Long.{Long}
use Rattle.frames.specs.declared.outlet.Seal.{Seal}
use Rattle.frames.specs.Arrivals.{StandsIn}
use Rattle.frames.specs.Longs.{number_for, number_in}
use Rattle.frames.specs.Outlets.{OutletModel}
use Rattle.frames.specs.Sendings.{Adds, AreOf, AreSameWays, IsFrameOf, IsLongOn, KeepLongs, Sends as SendsOf, WaitOf}
use Rattle.frames.specs.Nets.{FramedModel, GivesArrived, HasFlushed, HasReceived, HasSent, IsAnswer, IsFresh, IsOver}
use Rattle.frames.specs.Lives.{Side, Above, Below, Life, Made, Sends, Flushes, Receives, below_of, below, packet_of, packets_in, CameBefore, IsOfFrames, LivesAreOfFrames}

-- ---- numbers of long packets

is-not : (a b : ℕ) → eqb a b ≡ false → a ≢ b
is-not a b e same = absurd (let bad : false ≡ true = sym e ∙ eq-eqb a b same in cc)

-- a number below the next one of the first way to a node
abbrev IsUsed : ℕ → ℕ → List OutletModel → Type 0
IsUsed m k [] = ⊥
IsUsed m k (o ∷ outlets) = ((o.node ≡ m) × (k < o.longs.next)) ⊎ ((o.node ≢ m) × IsUsed m k outlets)

-- the next one there
abbrev NextOn : ℕ → ℕ → List OutletModel → Type 0
NextOn to n [] = Unit {0}
NextOn to n (o ∷ outlets) = (o.node ≡ to → n ≡ o.longs.next) × (o.node ≢ to → NextOn to n outlets)

used-on : (m k : ℕ) (old new : List OutletModel) → AreSameWays old new → IsUsed m k old → IsUsed m k new
used-on m k [] new ways u = absurd u
used-on m k (o ∷ old) [] ways u = absurd ways
used-on m k (o ∷ old) (n ∷ new) ways (inl x) = inl (ways.0 ∙ x.0, omega (arith, x.1, ways.1))
used-on m k (o ∷ old) (n ∷ new) ways (inr x) = inr (λ e. x.0 (sym ways.0 ∙ e), used-on m k old new ways.2 x.1)

next-by : (to : ℕ) (o : OutletModel) (outlets : List OutletModel) (b : Bool) → eqb o.node to ≡ b → (n : ℕ) × NextOn to n outlets → (n : ℕ) × NextOn to n (o ∷ outlets)
next-by to o outlets true e rest = (o.longs.next, (λ same. refl, λ other. absurd (other (eqb-true o.node to e))))
next-by to o outlets false e rest = (rest.0, (λ same. absurd (is-not o.node to e same), λ other. rest.1))

next-on : (to : ℕ) (outlets : List OutletModel) → (n : ℕ) × NextOn to n outlets
next-on to [] = (0, tt)
next-on to (o ∷ outlets) = next-by to o outlets (eqb o.node to) refl (next-on to outlets)

used-before : (to n k : ℕ) (outlets : List OutletModel) → NextOn to n outlets → IsUsed to k outlets → k < n
used-before to n k [] next u = absurd u
used-before to n k (o ∷ outlets) next (inl x) = omega (arith, next.0 x.0, x.1)
used-before to n k (o ∷ outlets) next (inr x) = used-before to n k outlets (next.1 x.0) x.1

-- the packet of one more number
changed : (ℕ → ℕ → List ℕ) → ℕ → ℕ → List ℕ → ℕ → ℕ → List ℕ
changed long to n packet m k = if eqb m to && eqb k n then packet else long m k

changed-by : (long : ℕ → ℕ → List ℕ) (to n : ℕ) (packet : List ℕ) (m k : ℕ) (b c : Bool) → eqb m to ≡ b → eqb k n ≡ c → (m ≡ to → k < n)
    → (if b && c then packet else long m k) ≡ long m k
changed-by long to n packet m k true true e f before = absurd (omega (arith, before (eqb-true m to e), eqb-true k n f))
changed-by long to n packet m k true false e f before = refl
changed-by long to n packet m k false c e f before = refl

unchanged : (long : ℕ → ℕ → List ℕ) (to n : ℕ) (packet : List ℕ) (m k : ℕ) → (m ≡ to → k < n) → changed long to n packet m k ≡ long m k
unfolding changed
unchanged long to n packet m k before = changed-by long to n packet m k (eqb m to) (eqb k n) refl refl before

changed-at : (long : ℕ → ℕ → List ℕ) (to n : ℕ) (packet : List ℕ) → changed long to n packet to n ≡ packet
unfolding changed
changed-at long to n packet =
    ap (λ (b : Bool). if b && eqb n n then packet else long to n) (eq-eqb to to refl) ∙ ap (λ (c : Bool). if true && c then packet else long to n) (eq-eqb n n refl)

-- a packet has the next number, or one that is known
number-by : (long : ℕ → List ℕ) (packet : List ℕ) (next : ℕ) (k : Long) (kept : List Long) (b c : Bool) → nat_lt k.number next ≡ b → pointwise nat_eq k.packet packet ≡ c → long k.number ≡ k.packet
    → (number_in packet next kept ≡ next) ⊎ (long (number_in packet next kept) ≡ packet)
    → ((if b && c then k.number else number_in packet next kept) ≡ next) ⊎ (long (if b && c then k.number else number_in packet next kept) ≡ packet)
number-by long packet next k kept true true e f known rest = inr (known ∙ same_text k.packet packet (sym f))
number-by long packet next k kept true false e f known rest = rest
number-by long packet next k kept false c e f known rest = rest

number-known : (long : ℕ → List ℕ) (packet : List ℕ) (next : ℕ) (kept : List Long) → AllByRecursion (λ k. long k.number ≡ k.packet) kept
    → (number_in packet next kept ≡ next) ⊎ (long (number_in packet next kept) ≡ packet)
number-known long packet next [] known = inl refl
number-known long packet next (k ∷ kept) known =
    number-by long packet next k kept (nat_lt k.number next) (pointwise nat_eq k.packet packet) refl refl known.0 (number-known long packet next kept known.1)

-- so by who knows what is kept, and the packet of the next number, it is known which packet has its number
long-at : (long : ℕ → ℕ → List ℕ) (to n : ℕ) (packet : List ℕ) (o w : OutletModel) → o.node ≡ to → w.node ≡ o.node → n ≡ o.longs.next → number_for packet o.longs < w.longs.next
    → (n < w.longs.next → long to n ≡ packet) → (number_for packet o.longs ≡ o.longs.next) ⊎ (long o.node (number_for packet o.longs) ≡ packet) → long o.node (number_for packet o.longs) ≡ packet
long-at long to n packet o w e f next lt at (inl is) = ap (λ (m : ℕ). long m (number_for packet o.longs)) e ∙ ap (long to) (is ∙ sym next) ∙ at (omega (arith, is, next, lt))
long-at long to n packet o w e f next lt at (inr is) = is

long-on : (long : ℕ → ℕ → List ℕ) (to n : ℕ) (packet : List ℕ) (old new : List OutletModel) → AreSameWays old new → NextOn to n old → KeepLongs long old
    → (IsUsed to n new → long to n ≡ packet) → IsLongOn long to packet old new
long-on long to n packet [] new ways next known at = tt
long-on long to n packet (o ∷ old) [] ways next known at = tt
long-on long to n packet (o ∷ old) (w ∷ new) ways next known at = (
  λ e is_long lt. long-at long to n packet o w e ways.0 (next.0 e) lt (λ used. at (inl (ways.0 ∙ e, used))) (number-known (long o.node) packet o.longs.next o.longs.kept.items known.0),
  λ other. long-on long to n packet old new ways.2 (next.1 other) known.1 (λ used. at (inr (λ e. other (sym ways.0 ∙ e), used))),
)

-- ---- packets that were sent, when one more is

stands-more : (sent : List (List ℕ)) (packet p : List ℕ) → StandsIn sent p → StandsIn (sent ++ packet ∷ []) p
stands-more sent packet p s = (s.0, slice_get-before sent (packet ∷ []) s.0 p s.1)

of-more : (sent : List (List ℕ)) (packet : List ℕ) (waiting : List (List ℕ)) → AreOf sent waiting → AreOf (sent ++ packet ∷ []) waiting
of-more sent packet [] of = tt
of-more sent packet (p ∷ waiting) of = (stands-more sent packet p of.0, of-more sent packet waiting of.1)

wait-more : (sent : List (List ℕ)) (packet : List ℕ) (outlets : List OutletModel) → WaitOf sent outlets → WaitOf (sent ++ packet ∷ []) outlets
wait-more sent packet [] of = tt
wait-more sent packet (o ∷ outlets) of = (of-more sent packet o.waiting of.0, wait-more sent packet outlets of.1)

fresh-wait : (sent : List (List ℕ)) (outlets : List OutletModel) → AllByRecursion IsFresh outlets → WaitOf sent outlets
fresh-wait sent [] fresh = tt
fresh-wait sent (o ∷ outlets) fresh = (subst (AreOf sent) (sym fresh.0.0) tt, fresh-wait sent outlets fresh.1)

fresh-longs : (long : ℕ → ℕ → List ℕ) (outlets : List OutletModel) → AllByRecursion IsFresh outlets → KeepLongs long outlets
fresh-longs long [] fresh = tt
fresh-longs long (o ∷ outlets) fresh =
    (subst (λ (kept : List Long). AllByRecursion (λ (k : Long). long o.node k.number ≡ k.packet) kept) (sym fresh.0.1) tt, fresh-longs long outlets fresh.1)

-- ---- what is listed

below-map : (more : Log) → below (map Below more) ≡ more
below-map [] = refl
below-map (e ∷ more) = ap (λ (l : Log). e ∷ l) (below-map more)

packets-map : (more : Log) → packets_in (map Below more) ≡ []
packets-map [] = refl
packets-map (e ∷ more) = packets-map more

added : (Holds : NetEvent → Type 0) (one two : Option Log) (o more : Log) → one ≡ Some o → two ≡ Some (o ++ more) → Adds Holds one two → AllByRecursion Holds more
added Holds one two o more e f adds =
    let both : Adds Holds (Some o) (Some (o ++ more)) = subst (λ (x : Option Log). Adds Holds x (Some (o ++ more))) e (subst (λ (x : Option Log). Adds Holds one x) f adds) in
    subst (AllByRecursion Holds) (append_cancel_left o both.0 more (sym both.1)) both.2

module _ {N : Type 0} (log : N → Option Log) (node : ℕ) (seal : Seal) where
  frames-follow : (long : ℕ → ℕ → List ℕ) (before : Log) (sent : List (List ℕ)) (more : Log) → AllByRecursion (IsFrameOf seal long sent) more → IsOfFrames seal node long before sent (map Below more)
  frames-follow long before sent [] all = tt
  frames-follow long before sent (Answered a ∷ more) all = absurd all.0
  frames-follow long before sent (Offered o ∷ more) all = (all.0, frames-follow long (before ++ Offered o ∷ []) sent more all.1)

  answers-follow : (long : ℕ → ℕ → List ℕ) (before : Log) (sent : List (List ℕ)) (more : Log) → AllByRecursion IsAnswer more → IsOfFrames seal node long before sent (map Below more)
  answers-follow long before sent [] all = tt
  answers-follow long before sent (Answered a ∷ more) all = (tt, answers-follow long (before ++ Answered a ∷ []) sent more all.1)
  answers-follow long before sent (Offered o ∷ more) all = absurd all.0

  both-follow : (long : ℕ → ℕ → List ℕ) (before : Log) (sent : List (List ℕ)) (xs ys : List Side) → IsOfFrames seal node long before sent xs
      → IsOfFrames seal node long (before ++ below xs) (sent ++ packets_in xs) ys → IsOfFrames seal node long before sent (xs ++ ys)
  both-follow long before sent [] ys x y =
      subst (λ (s : List (List ℕ)). IsOfFrames seal node long before s ys) (append-nil sent)
      (subst (λ (l : Log). IsOfFrames seal node long l (sent ++ []) ys) (append-nil before) y)
  both-follow long before sent (Above (Offered o) ∷ xs) ys x y =
      both-follow long before (sent ++ o.bytes ∷ []) xs ys x
      (subst (λ (s : List (List ℕ)). IsOfFrames seal node long (before ++ below xs) s ys) (sym (append_assoc sent (o.bytes ∷ []) (packets_in xs))) y)
  both-follow long before sent (Above (Answered a) ∷ xs) ys x y = (x.0, both-follow long before sent xs ys x.1 y)
  both-follow long before sent (Below e ∷ xs) ys x y = (
    x.0,
    both-follow long (before ++ e ∷ []) sent xs ys x.1
        (subst (λ (l : Log). IsOfFrames seal node long l (sent ++ packets_in xs) ys) (sym (append_assoc before (e ∷ []) (below xs))) y),
  )

  -- ---- after some calls

  abbrev Agrees : (ℕ → ℕ → List ℕ) → (ℕ → ℕ → List ℕ) → List OutletModel → Type 0
  Agrees other long outlets = (m k : ℕ) → IsUsed m k outlets → other m k ≡ long m k

  record Goes (n : FramedModel N) (all : List Side) : Type 0 where
    long : ℕ → ℕ → List ℕ
    listed : log n.inner ≡ Some (below all)
    node_is : n.opener.node ≡ node
    seal_is : n.seal ≡ seal
    waits : WaitOf (packets_in all) n.outlets
    by : (other : ℕ → ℕ → List ℕ) → Agrees other long n.outlets → KeepLongs other n.outlets × IsOfFrames seal node other [] [] all

  made : (inner : N) (key : List ℕ) (n : FramedModel N) → IsOver inner node key seal.boot n → n.seal ≡ seal → log inner ≡ Some [] → Goes n []
  made inner key n over same e = record {
    long = λ m k. [];
    listed = ap log over.inner_is ∙ e;
    node_is = over.node_is;
    seal_is = same;
    waits = fresh-wait [] n.outlets over.fresh;
    by = λ other agrees. (fresh-longs other n.outlets over.fresh, tt);
  }

  -- what was listed then
  abbrev SentHere : List Side → ℕ → List ℕ → Log → List Side
  SentHere all to packet more = all ++ Above (Offered (record { node = to; bytes = packet })) ∷ map Below more

  sent-below : (all : List Side) (to : ℕ) (packet : List ℕ) (more : Log) → below (SentHere all to packet more) ≡ below all ++ more
  sent-below all to packet more =
      filter_map-append below_of all (Above (Offered (record { node = to; bytes = packet })) ∷ map Below more) ∙ ap (λ (l : Log). below all ++ l) (below-map more)

  sent-packets : (all : List Side) (to : ℕ) (packet : List ℕ) (more : Log) → packets_in (SentHere all to packet more) ≡ packets_in all ++ packet ∷ []
  sent-packets all to packet more =
      filter_map-append packet_of all (Above (Offered (record { node = to; bytes = packet })) ∷ map Below more) ∙ ap (λ (l : List (List ℕ)). packets_in all ++ packet ∷ l) (packets-map more)

  map-below : (all : List Side) (more : Log) → below (all ++ map Below more) ≡ below all ++ more
  map-below all more = filter_map-append below_of all (map Below more) ∙ ap (λ (l : Log). below all ++ l) (below-map more)

  map-packets : (all : List Side) (more : Log) → packets_in (all ++ map Below more) ≡ packets_in all
  map-packets all more =
      filter_map-append packet_of all (map Below more) ∙ ap (λ (l : List (List ℕ)). packets_in all ++ l) (packets-map more) ∙ append-nil (packets_in all)

  module _ (old new : FramedModel N) (all : List Side) (more : Log) (g : Goes old all) (e : log new.inner ≡ Some (below all ++ more)) where
    -- a send
    module _ (to : ℕ) (packet : List ℕ) (has : HasSent log to packet old new) where
      next : (n : ℕ) × NextOn to n old.outlets
      next = next-on to old.outlets

      more_long : ℕ → ℕ → List ℕ
      more_long = changed g.long to next.0 packet

      old-agrees : (other : ℕ → ℕ → List ℕ) → Agrees other more_long new.outlets → Agrees other g.long old.outlets
      unfolding more_long
      old-agrees other agrees m k used =
          agrees m k (used-on m k old.outlets new.outlets has.ways used)
          ∙ unchanged g.long to next.0 packet m k (λ same. used-before to next.0 k old.outlets next.1 (subst (λ (x : ℕ). IsUsed x k old.outlets) same used))

      sends : (other : ℕ → ℕ → List ℕ) → Agrees other more_long new.outlets
          → SendsOf seal other (packets_in all ++ packet ∷ []) (log old.inner) (log new.inner) new.outlets
      unfolding more_long
      sends other agrees =
          subst (λ (s : Seal). SendsOf s other (packets_in all ++ packet ∷ []) (log old.inner) (log new.inner) new.outlets) g.seal_is
          (has.sends other (packets_in all ++ packet ∷ []) (wait-more (packets_in all) packet old.outlets g.waits) (g.by other (old-agrees other agrees)).0
          (length (packets_in all), slice_get-last (packets_in all) packet)
          (long-on other to next.0 packet old.outlets new.outlets has.ways next.1 (g.by other (old-agrees other agrees)).0
          (λ used. agrees to next.0 used ∙ changed-at g.long to next.0 packet)))

      sent-follows : (other : ℕ → ℕ → List ℕ) → Agrees other more_long new.outlets → IsOfFrames seal node other [] [] (SentHere all to packet more)
      sent-follows other agrees =
          both-follow other [] [] all (Above (Offered (record { node = to; bytes = packet })) ∷ map Below more) (g.by other (old-agrees other agrees)).1
          (frames-follow other (below all) (packets_in all ++ packet ∷ []) more
          (added (IsFrameOf seal other (packets_in all ++ packet ∷ [])) (log old.inner) (log new.inner) (below all) more g.listed e (sends other agrees).0))

      sent : Goes new (SentHere all to packet more)
      sent = record {
        long = more_long;
        listed = e ∙ ap (λ (l : Log). Some l) (sym (sent-below all to packet more));
        node_is = has.same.node ∙ g.node_is;
        seal_is = has.same.seal ∙ g.seal_is;
        waits = subst (λ (s : List (List ℕ)). WaitOf s new.outlets) (sym (sent-packets all to packet more)) (sends more_long (λ m k used. refl)).1;
        by = λ other agrees. ((sends other agrees).2, sent-follows other agrees);
      }

    -- a flush
    module _ (has : HasFlushed log old new) where
      still-agrees : (other : ℕ → ℕ → List ℕ) → Agrees other g.long new.outlets → Agrees other g.long old.outlets
      still-agrees other agrees m k used = agrees m k (used-on m k old.outlets new.outlets has.ways used)

      flushes : (other : ℕ → ℕ → List ℕ) → Agrees other g.long new.outlets → SendsOf seal other (packets_in all) (log old.inner) (log new.inner) new.outlets
      flushes other agrees =
          subst (λ (s : Seal). SendsOf s other (packets_in all) (log old.inner) (log new.inner) new.outlets) g.seal_is
          (has.sends other (packets_in all) g.waits (g.by other (still-agrees other agrees)).0)

      flush-follows : (other : ℕ → ℕ → List ℕ) → Agrees other g.long new.outlets → IsOfFrames seal node other [] [] (all ++ map Below more)
      flush-follows other agrees =
          both-follow other [] [] all (map Below more) (g.by other (still-agrees other agrees)).1
          (frames-follow other (below all) (packets_in all) more
          (added (IsFrameOf seal other (packets_in all)) (log old.inner) (log new.inner) (below all) more g.listed e (flushes other agrees).0))

      flushed : Goes new (all ++ map Below more)
      flushed = record {
        long = g.long;
        listed = e ∙ ap (λ (l : Log). Some l) (sym (map-below all more));
        node_is = has.same.node ∙ g.node_is;
        seal_is = has.same.seal ∙ g.seal_is;
        waits = subst (λ (s : List (List ℕ)). WaitOf s new.outlets) (sym (map-packets all more)) (flushes g.long (λ m k used. refl)).1;
        by = λ other agrees. ((flushes other agrees).2, flush-follows other agrees);
      }

    -- a receive
    module _ (result : Result (Option ℕ) Fault) (buffer : List ℕ) (has : HasReceived log old new)
        (gives : IfOk result (λ count. GivesArrived (log new.inner) old.seal.key old.opener.node count buffer)) where
      given : (r : Result (Option ℕ) Fault) → IfOk r (λ count. GivesArrived (Some (below all ++ more)) seal.key node count buffer) → CameBefore seal node (below all ++ more) (answer_of r buffer)
      given (Ok None) x = tt
      given (Ok (Some n)) x = x
      given (Err fault) x = tt

      came : CameBefore seal node (below all ++ more) (answer_of result buffer)
      came =
          given result
          (subst (λ (m : ℕ). IfOk result (λ count. GivesArrived (Some (below all ++ more)) seal.key m count buffer)) g.node_is
          (subst (λ (s : Seal). IfOk result (λ count. GivesArrived (Some (below all ++ more)) s.key old.opener.node count buffer)) g.seal_is
          (subst (λ (l : Option Log). IfOk result (λ count. GivesArrived l old.seal.key old.opener.node count buffer)) e gives)))

      abbrev Heard : List Side
      Heard = map Below more ++ Above (Answered (answer_of result buffer)) ∷ []

      heard-below : below Heard ≡ more
      heard-below = filter_map-append below_of (map Below more) (Above (Answered (answer_of result buffer)) ∷ []) ∙ append-nil (below (map Below more)) ∙ below-map more

      heard-packets : packets_in Heard ≡ []
      heard-packets = filter_map-append packet_of (map Below more) (Above (Answered (answer_of result buffer)) ∷ []) ∙ append-nil (packets_in (map Below more)) ∙ packets-map more

      heard-follows : (other : ℕ → ℕ → List ℕ) → IsOfFrames seal node other (below all) (packets_in all) Heard
      heard-follows other =
          both-follow other (below all) (packets_in all) (map Below more) (Above (Answered (answer_of result buffer)) ∷ [])
          (answers-follow other (below all) (packets_in all) more (added IsAnswer (log old.inner) (log new.inner) (below all) more g.listed e has.answers))
          (subst (λ (l : Log). CameBefore seal node (below all ++ l) (answer_of result buffer)) (sym (below-map more)) came, tt)

      by-old : (other : ℕ → ℕ → List ℕ) → Agrees other g.long new.outlets → KeepLongs other old.outlets × IsOfFrames seal node other [] [] all
      by-old other agrees = g.by other (subst (λ (os : List OutletModel). Agrees other g.long os) has.outlets agrees)

      received : Goes new (all ++ Heard)
      received = record {
        long = g.long;
        listed = e ∙ ap (λ (l : Log). Some l) (sym (filter_map-append below_of all Heard ∙ ap (λ (l : Log). below all ++ l) heard-below));
        node_is = has.same.node ∙ g.node_is;
        seal_is = has.same.seal ∙ g.seal_is;
        waits =
            subst (λ (s : List (List ℕ)). WaitOf s new.outlets)
            (sym (filter_map-append packet_of all Heard ∙ ap (λ (l : List (List ℕ)). packets_in all ++ l) heard-packets ∙ append-nil (packets_in all)))
            (subst (λ (os : List OutletModel). WaitOf (packets_in all) os) (sym has.outlets) g.waits);
        by = λ other agrees. (
          subst (λ (os : List OutletModel). KeepLongs other os) (sym has.outlets) (by-old other agrees).0,
          both-follow other [] [] all Heard (by-old other agrees).1 (heard-follows other),
        );
      }

  goes : (n : FramedModel N) (all : List Side) → Life log node seal n all → Goes n all
  goes m none (Made inner key n over same e) = made inner key n over same e
  goes n all (Sends old new before to packet more life has e) = sent old new before more (goes old before life) e to packet has
  goes n all (Flushes old new before more life has e) = flushed old new before more (goes old before life) e has
  goes n all (Receives old new before result buffer more life has gives e) = received old new before more (goes old before life) e result buffer has gives

pub lives-are : {N : Type 0} (log : N → Option Log) → LivesAreOfFrames log
lives-are log node seal n all life =
    let g = goes log node seal n all life in
    (g.long, (g.by g.long (λ m k used. refl)).1)
