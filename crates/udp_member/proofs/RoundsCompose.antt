-- How the parts of a round go on, and come together.
use Rattle.std.proofs.Common.{◌≡◌, ℕ, ◌+◌, ◌<◌, ◌≤◌, ◌++◌, Bool, true, false, cond, length, take, filter, slice_index_or, take_all, List, [], ◌∷◌, Option, Some, None, Ok, Err, inl, inr, refl, sym, ap, ◌∙◌, subst, arith, length-append, append-nil}
use Rattle.std.proofs.lemmas.List.Elements.{filter_more}
use Rattle.address.specs.Ids.{Address}
use Rattle.state_transfer.specs.Meanings.{Meaning}
use Rattle.member.specs.declared.error.Error.{Error}
use Rattle.udp_net.specs.Logs.{Log, Lists, receiving, answer_of}
use Rattle.udp_member.specs.declared.runner.TheConstants.{RECEIVES}
use Rattle.udp_member.specs.Turns.{Handed, Datagram, Suspect, Tick, Driven, Takes, TakesAll, Nothing, Next, Any}
use Rattle.udp_member.specs.Rounds.{PassesOver, HandsIn, HearsOne, Receives, Cuts, Hears, IsSilent, silent_of, after_suspicions, SuspectsOf, Suspects, Rounds}
use Rattle.udp_member.specs.Detectors.{begun_anew, is_silent}
use Rattle.udp_member.specs.RunnerNotes.{RunnerNotes}

module _ {N S : Type 0} (log : N → Option Log) (failed : N → ℕ) (meaning : Meaning S) where
  -- so many datagrams were handed in
  pub record HeardSoFar (old : Driven N S) (count : ℕ) (new : Driven N S) : Type 0 where
    pub datagrams : List (List ℕ)
    pub many : length datagrams ≡ count
    pub takes : TakesAll log failed meaning Datagram Any old datagrams new

  -- the datagram that a receive gave is handed in
  pub heard : (old new : Driven N S) (buffer lent : List ℕ) (given : Option ℕ) (count : ℕ) (failure : Option Error) → given ≡ Some count → lent ≡ buffer
      → Lists (log old.net) (receiving (answer_of (Ok given) buffer)) (log new.net) → failed new.net ≡ failed old.net
      → HandsIn meaning (Datagram (take count lent)) old.channel old.notes failure new.channel new.notes → new.faults ≡ old.faults → HearsOne log failed meaning old failure new
  heard old new buffer lent given count failure is whole lists same h faults =
      let came = subst (λ (a : Option ℕ). Lists (log old.net) (receiving (answer_of (Ok a) buffer)) (log new.net)) is lists in
      let comes = subst (λ (b : List ℕ). Lists (log old.net) (receiving (answer_of (Ok (Some count)) b)) (log new.net)) (sym whole) came in
      record { bytes = take count lent; answer = h.answer; takes = record { comes = (comes, same); turn = h.turn; faults = faults; notes = h.noted }; why = h.why }

  pub heard-none : (old : Driven N S) → HeardSoFar old 0 old
  heard-none old = record { datagrams = []; many = refl; takes = Nothing }

  one-longer : (xs : List (List ℕ)) (x : List ℕ) (n : ℕ) → length xs ≡ n → length (xs ++ x ∷ []) ≡ n + 1
  one-longer xs x n is = length-append xs (x ∷ []) ∙ ap (λ k. k + 1) is

  pub heard-one : (old mid new : Driven N S) (n : ℕ) (came : Bool) → HeardSoFar old n mid → Receives log failed meaning mid (Ok came) new → came ≡ true → HeardSoFar old (n + 1) new
  heard-one old mid new n true so h is = record {
    datagrams = so.datagrams ++ h.bytes ∷ [];
    many = one-longer so.datagrams h.bytes n so.many;
    takes = Next so.datagrams mid h.bytes h.answer new so.takes tt h.takes h.why;
  }
  heard-one old mid new n false so h is = absurd (cc)

  pub heard-until : (old mid new : Driven N S) (n : ℕ) (came : Bool) → HeardSoFar old n mid → n < RECEIVES → Receives log failed meaning mid (Ok came) new → came ≡ false
      → Hears log failed meaning old (Ok n) new
  heard-until old mid new n false so few h is = record {
    datagrams = so.datagrams;
    many = so.many;
    heard = mid;
    takes = so.takes;
    until = inr (few, h);
  }
  heard-until old mid new n true so few h is = absurd (cc)

  pub heard-full : (old new : Driven N S) (n : ℕ) → HeardSoFar old n new → RECEIVES ≤ n → n ≤ RECEIVES → Hears log failed meaning old (Ok RECEIVES) new
  heard-full old new n so most few =
      let e : n ≡ RECEIVES = omega (arith, most, few) in
      record { datagrams = so.datagrams; many = so.many ∙ e; heard = new; takes = so.takes; until = inl (refl, refl) }

  -- a part that is cut short by the answer to a turn
  cut-by : {X : Type 0} (as_handed : X → Handed) (may : X → Type 0) (old mid new : Driven N S) (xs : List X) (x : X) (answer : Option Error) (e : Error)
      → TakesAll log failed meaning as_handed may old xs mid → may x → Takes log failed meaning (as_handed x) mid answer new → PassesOver answer (Some e)
      → Cuts log failed meaning as_handed may old e new
  cut-by as_handed may old mid new xs x answer e all m t why = record {
    handed = xs;
    mid = mid;
    takes = all;
    ends = why.1;
    last = x;
    may_be = m;
    answered = subst (λ (a : Option Error). Takes log failed meaning (as_handed x) mid a new) why.0 t;
  }

  pub heard-cut : (old mid new : Driven N S) (n : ℕ) (e : Error) → HeardSoFar old n mid → Receives log failed meaning mid (Err e) new → Hears log failed meaning old (Err e) new
  heard-cut old mid new n e so h = cut-by Datagram Any old mid new so.datagrams h.bytes h.answer e so.takes tt h.takes h.why

  -- ---- suspicions

  abbrev pub is_empty : List Address → Bool
  is_empty [] = true
  is_empty (x ∷ xs) = false

  -- those of the first addresses that are silent were suspected
  pub record SuspectedSoFar (watched : List Address) (count : ℕ) (old : Driven N S) (is_heard : Bool) (new : Driven N S) : Type 0 where
    pub takes : TakesAll log failed meaning Suspect (IsSilent old) old (silent_of (take count watched) old) new
    pub heard : is_heard ≡ is_empty (silent_of (take count watched) old)
    pub notes : new.notes ≡ old.notes

  pub none-suspected : (watched : List Address) (old : Driven N S) → SuspectedSoFar watched 0 old true old
  none-suspected watched old = record { takes = Nothing; heard = refl; notes = refl }

  one-more : (f : Address → Bool) (xs : List Address) (k : ℕ) (p : Address) → k < length xs → p ≡ slice_index_or xs k p
      → filter f (take (k + 1) xs) ≡ filter f (take k xs) ++ cond (f p) (p ∷ []) []
  one-more f xs k p few at = filter_more f xs k p few ∙ ap (λ (q : Address). filter f (take k xs) ++ cond (f q) (q ∷ []) []) (sym at)

  never-empty : (xs : List Address) (x : Address) → is_empty (xs ++ x ∷ []) ≡ false
  never-empty [] x = refl
  never-empty (y ∷ ys) x = refl

  pub suspected-one : (watched : List Address) (k : ℕ) (old mid new : Driven N S) (is_heard : Bool) (p : Address) → k < length watched → p ≡ slice_index_or watched k p
      → SuspectedSoFar watched k old is_heard mid → is_silent mid.notes.detector p ≡ true
      → HandsIn meaning (Suspect p) mid.channel mid.notes None new.channel new.notes → new.net ≡ mid.net → new.faults ≡ mid.faults → SuspectedSoFar watched (k + 1) old false new
  suspected-one watched k old mid new is_heard p few at so silent h net same =
      let is : is_silent old.notes.detector p ≡ true = subst (λ (n : RunnerNotes). is_silent n.detector p ≡ true) so.notes silent in
      let more : silent_of (take (k + 1) watched) old ≡ silent_of (take k watched) old ++ p ∷ [] =
      one-more (is_silent old.notes.detector) watched k p few at ∙ ap (λ (b : Bool). silent_of (take k watched) old ++ cond b (p ∷ []) []) is in
      record {
        takes = subst (λ (xs : List Address). TakesAll log failed meaning Suspect (IsSilent old) old xs new) (sym more)
            (Next (silent_of (take k watched) old) mid p h.answer new so.takes is (record { comes = net; turn = h.turn; faults = same; notes = h.noted }) h.why);
        heard = sym (ap is_empty more ∙ never-empty (silent_of (take k watched) old) p);
        notes = h.noted ∙ so.notes;
      }

  pub heard-one-more : (watched : List Address) (k : ℕ) (old mid : Driven N S) (is_heard : Bool) (p : Address) → k < length watched → p ≡ slice_index_or watched k p
      → SuspectedSoFar watched k old is_heard mid → is_silent mid.notes.detector p ≡ false → SuspectedSoFar watched (k + 1) old is_heard mid
  heard-one-more watched k old mid is_heard p few at so silent =
      let is : is_silent old.notes.detector p ≡ false = subst (λ (n : RunnerNotes). is_silent n.detector p ≡ false) so.notes silent in
      let same : silent_of (take (k + 1) watched) old ≡ silent_of (take k watched) old =
      one-more (is_silent old.notes.detector) watched k p few at ∙ ap (λ (b : Bool). silent_of (take k watched) old ++ cond b (p ∷ []) []) is ∙ append-nil (silent_of (take k watched) old) in
      record {
        takes = subst (λ (xs : List Address). TakesAll log failed meaning Suspect (IsSilent old) old xs mid) (sym same) so.takes;
        heard = so.heard ∙ ap is_empty (sym same);
        notes = so.notes;
      }

  pub suspected-cut : (watched : List Address) (k : ℕ) (old mid new : Driven N S) (is_heard : Bool) (p : Address) (e : Error) → SuspectedSoFar watched k old is_heard mid
      → is_silent mid.notes.detector p ≡ true → HandsIn meaning (Suspect p) mid.channel mid.notes (Some e) new.channel new.notes → new.net ≡ mid.net → new.faults ≡ mid.faults
      → SuspectsOf log failed meaning watched old (Some e) new
  suspected-cut watched k old mid new is_heard p e so silent h net same =
      cut-by Suspect (IsSilent old) old mid new (silent_of (take k watched) old) p h.answer e so.takes (subst (λ (n : RunnerNotes). is_silent n.detector p ≡ true) so.notes silent)
      (record { comes = net; turn = h.turn; faults = same; notes = h.noted }) h.why

  -- all of them were, and the counts begin anew where there was one
  ends-so : (xs : List Address) (is_heard : Bool) (r : Driven N S) → is_heard ≡ is_empty xs
      → cond is_heard r (record r { notes = record r.notes { detector = begun_anew r.notes.detector } }) ≡ after_suspicions xs r
  ends-so [] is_heard r e = rw e refl
  ends-so (x ∷ xs) is_heard r e = rw e refl

  whole : (watched : List Address) (k : ℕ) → k ≡ length watched → take k watched ≡ watched
  whole watched k e = ap (λ n. take n watched) e ∙ take_all (length watched) watched (omega arith)

  pub all-suspected : (watched : List Address) (k : ℕ) (old mid new : Driven N S) (is_heard : Bool) → SuspectedSoFar watched k old is_heard mid → k ≡ length watched
      → new ≡ cond is_heard mid (record mid { notes = record mid.notes { detector = begun_anew mid.notes.detector } }) → SuspectsOf log failed meaning watched old None new
  all-suspected watched k old mid new is_heard so all is =
      let e = whole watched k all in
      record {
        mid = mid;
        takes = subst (λ (xs : List Address). TakesAll log failed meaning Suspect (IsSilent old) old (silent_of xs old) mid) e so.takes;
        after = is ∙ ends-so (silent_of watched old) is_heard mid (so.heard ∙ ap (λ (xs : List Address). is_empty (silent_of xs old)) e);
      }

  -- ---- a whole round

  pub cut-while-hearing : (old new : Driven N S) (e : Error) → Hears log failed meaning old (Err e) new → Rounds log failed meaning old (Some e) new
  cut-while-hearing old new e h = record {
    heard = Err e;
    mid = new;
    hears = h;
    then_suspects = λ n is. absurd (cc);
    stops = λ k is. (cc, refl);
  }

  pub cut-while-suspecting : (old heard new : Driven N S) (count : ℕ) (e : Error) → Hears log failed meaning old (Ok count) heard → Suspects log failed meaning heard (Some e) new
      → Rounds log failed meaning old (Some e) new
  cut-while-suspecting old heard new count e h x = record {
    heard = Ok count;
    mid = heard;
    hears = h;
    then_suspects = λ n is. record { cut = Some e; mid = new; suspects = x; ticks = λ m. absurd (cc); stops = λ k is. (is, refl) };
    stops = λ k n. absurd (cc);
  }

  pub ticked : (old heard mid new : Driven N S) (count : ℕ) (failure : Option Error) → Hears log failed meaning old (Ok count) heard
      → Suspects log failed meaning heard None mid → HandsIn meaning Tick mid.channel mid.notes failure new.channel new.notes → new.net ≡ mid.net → new.faults ≡ mid.faults
      → Rounds log failed meaning old failure new
  ticked old heard mid new count failure h x t net faults_same = record {
    heard = Ok count;
    mid = heard;
    hears = h;
    then_suspects = λ n is. record {
      cut = None;
      mid = mid;
      suspects = x;
      ticks = λ m. record { answer = t.answer; takes = record { comes = net; turn = t.turn; faults = faults_same; notes = t.noted }; why = t.why };
      stops = λ k m. absurd (cc);
    };
    stops = λ k n. absurd (cc);
  }
  -- ---- who is sought
