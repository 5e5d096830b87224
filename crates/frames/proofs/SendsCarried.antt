-- What is offered to the net below carries what was sent.
use Rattle.std.proofs.Common.{◌≡◌, ◌≤◌, ◌<◌, ◌^◌, ℕ, List, [], ◌∷◌, ◌++◌, length, take, drop, refl, sym, ap, ◌∙◌, subst, append_assoc, inl, inr, Option, Some, None, arith}
use Rattle.std.specs.List.{AllByRecursion}
use Rattle.std.proofs.lemmas.List.{append-nil, take_all}
use Rattle.udp_net.specs.Logs.{Log, NetEvent, Lists, Offered, listing, offering}
use Rattle.frames.specs.declared.head.Kind.TheVariants.{Packets, Piece}
use Rattle.frames.specs.declared.outlet.Seal.{Seal}
use Rattle.frames.specs.Frames.{head_bytes, packed, sealed, IsShort}
use Rattle.frames.specs.Partials.{piece_bytes}
use Rattle.frames.specs.Arrivals.{StandsIn}
use Rattle.frames.specs.Carried.{count_of, piece_at}
use Rattle.frames.specs.Outlets.{OutletModel, head_for}
use Rattle.frames.specs.declared.longs.Longs.{Longs}
use Rattle.frames.specs.Longs.{AreKnown, IsNumbered}
use Rattle.frames.specs.Nets.{FramedModel, HasFlushed, HasReceived, IsAnswer, IsSameNode}
use Rattle.frames.proofs.Logs.{stays}
use Rattle.frames.specs.Sendings.{Adds, AreLongs, AreOf, AreSameWays, IsFrameOf, KeepLongs, WaitOf}

all-both : (A : Type 0) (Holds : A → Type 0) (xs ys : List A) → AllByRecursion Holds xs → AllByRecursion Holds ys → AllByRecursion Holds (xs ++ ys)
all-both A Holds [] ys a b = b
all-both A Holds (x ∷ xs) ys a b = (a.0, all-both A Holds xs ys a.1 b)

module _ (Holds : NetEvent → Type 0) where
  pub adds-none : (log : Option Log) → Adds Holds log log
  adds-none None = tt
  adds-none (Some l) = ([], sym (append-nil l), tt)

  pub adds-on : (one two three : Option Log) → Adds Holds one two → Adds Holds two three → Adds Holds one three
  adds-on one two None x y = tt
  adds-on one None (Some l) x y = absurd y
  adds-on None (Some k) (Some l) x y = absurd x
  adds-on (Some j) (Some k) (Some l) x y =
      (x.0 ++ y.0, y.1 ∙ ap (λ (m : Log). m ++ y.0) x.1 ∙ append_assoc j x.0 y.0, all-both NetEvent Holds x.0 y.0 x.2 y.2)

  pub adds-one : (old new : Option Log) (e : NetEvent) → Lists old (listing e) new → Holds e → Adds Holds old new
  adds-one old None e ls h = tt
  adds-one None (Some l) e ls h = absurd ls
  adds-one (Some o) (Some l) e ls h = (e ∷ [], ls, (h, tt))

-- it lists no more
pub adds-same : (Holds : NetEvent → Type 0) (old new : Option Log) → Lists old (λ l. l) new → Adds Holds old new
adds-same Holds old None x = tt
adds-same Holds None (Some l) x = absurd x
adds-same Holds (Some o) (Some l) x = ([], x ∙ sym (append-nil o), tt)

-- what was received by now, and then a packet is given and a frame is taken
pub received-on : {N : Type 0} (log : N → Option Log) (old mid given new : FramedModel N) → HasReceived log old mid
    → given.inner ≡ mid.inner → given.outlets ≡ mid.outlets → IsSameNode mid given
    → Adds IsAnswer (log given.inner) (log new.inner) → new.outlets ≡ given.outlets → IsSameNode given new → HasReceived log old new
received-on {N} log old mid given new r inner outlets same more on after = record {
  answers = adds-on IsAnswer (log old.inner) (log mid.inner) (log new.inner) r.answers (subst (λ (n : N). Adds IsAnswer (log n) (log new.inner)) inner more);
  outlets = on ∙ outlets ∙ r.outlets;
  same = record { node = after.node ∙ same.node ∙ r.same.node; seal = after.seal ∙ same.seal ∙ r.same.seal };
}

pub same-ways : (outlets : List OutletModel) → AreSameWays outlets outlets
same-ways [] = tt
same-ways (o ∷ outlets) = (refl, omega arith, same-ways outlets)

-- the long packets that are kept, where only what waits has changed
pub longs-on : (long : ℕ → ℕ → List ℕ) (o n : OutletModel) → n.node ≡ o.node → n.longs ≡ o.longs → AreLongs long o → AreLongs long n
longs-on long o n e f known = subst (λ (m : ℕ). AreKnown (long m) n.longs) (sym e) (subst (AreKnown (long o.node)) (sym f) known)

pub next-on : (o n : OutletModel) → n.longs ≡ o.longs → o.longs.next ≤ n.longs.next
next-on o n e = subst (λ (l : Longs). o.longs.next ≤ l.next) (sym e) (stays o.longs.next)

pub numbered-from : (long : ℕ → ℕ → List ℕ) (packet : List ℕ) (o m n : OutletModel) → m.node ≡ o.node → m.longs ≡ o.longs → IsNumbered (long o.node) packet o.longs n.longs
    → IsNumbered (long m.node) packet m.longs n.longs
numbered-from long packet o m n e f numbered =
    subst (λ (k : ℕ). IsNumbered (long k) packet m.longs n.longs) (sym e) (subst (λ (l : Longs). IsNumbered (long o.node) packet l n.longs) (sym f) numbered)

-- a flush, and then a wait at the net below
pub waited : {N : Type 0} (log : N → Option Log) (old mid new : FramedModel N) → HasFlushed log old mid → Lists (log mid.inner) (λ l. l) (log new.inner) → new.outlets ≡ mid.outlets
    → new.opener.node ≡ mid.opener.node → new.seal ≡ mid.seal → HasFlushed log old new
waited log old mid new f lists outlets node seal = record {
  sends = λ long sent of known.
      let s = f.sends long sent of known in
      let still = adds-same (IsFrameOf old.seal long sent) (log mid.inner) (log new.inner) lists in (
        adds-on (IsFrameOf old.seal long sent) (log old.inner) (log mid.inner) (log new.inner) s.0 still,
        subst (λ (xs : List OutletModel). WaitOf sent xs) (sym outlets) s.1,
        subst (λ (xs : List OutletModel). KeepLongs long xs) (sym outlets) s.2,
      );
  ways = subst (λ (xs : List OutletModel). AreSameWays old.outlets xs) (sym outlets) f.ways;
  same = record { node = node ∙ f.same.node; seal = seal ∙ f.same.seal };
}

module _ (s : Seal) (long : ℕ → ℕ → List ℕ) (sent : List (List ℕ)) where
  -- the packets that wait, in one frame
  pub flush-adds : (o : OutletModel) (old new : Option Log) (body : List ℕ) → body ≡ head_bytes (head_for Packets o s) ++ packed o.waiting → o.node < 2 ^ 16 → AllByRecursion IsShort o.waiting
      → AreOf sent o.waiting
      → Lists old (offering o.node (sealed s.key body)) new → Adds (IsFrameOf s long sent) old new
  flush-adds o old new body e fits short of ls =
      adds-one (IsFrameOf s long sent) old new (Offered (record { node = o.node; bytes = sealed s.key body })) ls
      (inl (record {
        head = head_for Packets o s;
        content = packed o.waiting;
        frame_is = ap (sealed s.key) e;
        kind = λ e. cc;
        boot_is = refl;
        to_fits = fits;
        parts = λ node part is. record { packets = o.waiting; content_is = is.0; short = short; sent = of };
      }))

  -- a piece of a packet
  pub piece-adds : (o : OutletModel) (old new : Option Log) (body packet : List ℕ) (number index : ℕ) → body ≡ head_bytes (head_for Piece o s) ++ piece_bytes (piece_at number index packet)
      → o.node < 2 ^ 16 → number < 2 ^ 64 → index < 2 ^ 16 → count_of packet < 2 ^ 16 → long o.node number ≡ packet → StandsIn sent packet
      → Lists old (offering o.node (sealed s.key body)) new → Adds (IsFrameOf s long sent) old new
  piece-adds o old new body packet number index e node_fits number_fits index_fits count_fits same of ls =
      adds-one (IsFrameOf s long sent) old new (Offered (record { node = o.node; bytes = sealed s.key body })) ls
      (inr (record {
        head = head_for Piece o s;
        number = number;
        index = index;
        frame_is = ap (sealed s.key) (e ∙ ap (λ (p : List ℕ). head_bytes (head_for Piece o s) ++ piece_bytes (piece_at number index p)) (sym same));
        kind = refl;
        boot_is = refl;
        to_fits = node_fits;
        number_fits = number_fits;
        index_fits = index_fits;
        count_fits = subst (λ (p : List ℕ). count_of p < 2 ^ 16) (sym same) count_fits;
        sent = subst (StandsIn sent) (sym same) of;
      }))

pub all-of : (xs : List ℕ) (m : ℕ) (packet : List ℕ) → xs ≡ drop m packet → length xs ≤ 1344 → xs ≡ take 1344 (drop m packet)
all-of xs m packet e h = e ∙ sym (take_all 1344 (drop m packet) (subst (λ (y : List ℕ). length y ≤ 1344) e h))
