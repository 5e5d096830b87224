-- What a node keeps of the lines that came, as it takes, sends and drops them.
use Rattle.std.proofs.Common.{◌≡◌, ℕ, zero, suc, Bool, true, false, inl, inr, nat_eq, Option, Some, None, Result, Ok, Err, List, [], ◌∷◌, ◌++◌, take, drop, refl, sym, ap, ◌∙◌, subst, is_some, append_assoc, append-nil, MatchBool, ◌||◌, unwrap_or, ◌&&◌, not, if◌then◌else◌, OnOk}
use Rattle.std.specs.Prelude.{flat_map, length}
use Rattle.std.specs.List.{list_any, AllByRecursion}
use Rattle.std.specs.Option.{option_map_or}
use Rattle.std.proofs.lemmas.Option.{none-some, same_Some}
use Rattle.address.specs.Ids.{same_address}
use Rattle.address.proofs.Plain.{found}
use Rattle.trace_props.specs.declared.event.Event.{Event}
use Rattle.trace_props.specs.declared.event.Event.TheVariants.{Started, Sent as SentEvent, Delivered, Blocked, Installed, Left, Crashed}
use Rattle.vsync_text.specs.Lines.{before_byte, behind_byte}
use Rattle.udp_runs.specs.declared.unsaid.Sent.{Sent}
use Rattle.udp_runs.specs.declared.unsaid.Sent.TheVariants as sent
use Rattle.udp_runs.specs.Outboxes.{OutboxModel, nothing_waits, is_whole, without_next, without_long}
use Rattle.udp_runs.specs.Unsaid.{UnsaidModel, line_in, coming_back, noted}
use Rattle.udp_runs.specs.Came.{Fills, IsEarlier, BeginsLine, IsOneLine, IsLine, AreLines, NoLine, OneLine, Waits, IsSentLine, Owes, IsLineOf, IsText}
use Rattle.udp_runs.proofs.FirstLines.{whole-splits, before-one}

-- ---- lists

abbrev first_of : List ℕ → Option ℕ
first_of [] = None
first_of (k ∷ l) = Some k

head-same : (m n : ℕ) (p q : List ℕ) → m ∷ p ≡ n ∷ q → m ≡ n
head-same m n p q e = same_Some m n (ap first_of e)

tail-none : (b c : Bool) → (b || c) ≡ false → c ≡ false
tail-none false c e = e
tail-none true c e = absurd (let n : true ≡ false = e in cc)

feed-not : (z : ℕ) (c : List ℕ) → IsOneLine (z ∷ c) → 10 ≡ z → ⊥
feed-not z c y e = (let n : true ≡ false = subst (λ (k : ℕ). list_any (λ b. nat_eq b 10) (k ∷ c) ≡ false) (sym e) y in cc)

nothing-not : (line rest : List ℕ) → [] ≡ line ++ 10 ∷ rest → ⊥
nothing-not [] rest e = none-some 10 (ap first_of e)
nothing-not (z ∷ line) rest e = none-some z (ap first_of e)

-- two texts that are one line each, before a line feed
pub same-line : (a c b d : List ℕ) → IsOneLine a → IsOneLine c → a ++ 10 ∷ b ≡ c ++ 10 ∷ d → (a ≡ c) × (b ≡ d)
same-line [] [] b d x y e = (refl, ap (drop 1) e)
same-line [] (z ∷ c) b d x y e = absurd (feed-not z c y (head-same 10 z b (c ++ 10 ∷ d) e))
same-line (z ∷ a) [] b d x y e = absurd (feed-not z a x (sym (head-same z 10 (a ++ 10 ∷ b) d e)))
same-line (z ∷ a) (w ∷ c) b d x y e =
    let r = same-line a c b d (tail-none (nat_eq z 10) (list_any (λ b. nat_eq b 10) a) x) (tail-none (nat_eq w 10) (list_any (λ b. nat_eq b 10) c) y) (ap (drop 1) e) in
    (ap (λ (k : ℕ). k ∷ a) (head-same z w (a ++ 10 ∷ b) (c ++ 10 ∷ d) e) ∙ ap (λ (l : List ℕ). w ∷ l) r.0, r.1)

module _ {X : Type 0} (P : X → Type 0) where
  all-drop : (n : ℕ) (l : List X) → AllByRecursion P l → AllByRecursion P (drop n l)
  all-drop zero l x = x
  all-drop (suc n) [] x = tt
  all-drop (suc n) (a ∷ l) x = all-drop n l x.1

  all-take : (n : ℕ) (l : List X) → AllByRecursion P l → AllByRecursion P (take n l)
  all-take zero l x = tt
  all-take (suc n) [] x = tt
  all-take (suc n) (a ∷ l) x = (x.0, all-take n l x.1)

all-as : {X : Type 0} (P Q : X → Type 0) → ((a : X) → P a → Q a) → (l : List X) → AllByRecursion P l → AllByRecursion Q l
all-as P Q f [] x = tt
all-as P Q f (a ∷ l) x = (f a x.0, all-as P Q f l x.1)

-- ---- lines

module _ (start came : List ℕ) where
  -- more came
  line-later : (more text : List ℕ) → IsLine start came text → IsLine start (came ++ more) text
  line-later more text x = record {
    before = x.before;
    after = x.after ++ more;
    begins = x.begins;
    one = x.one;
    stood = ap (λ (l : List ℕ). l ++ more) x.stood ∙ append_assoc start (x.before ++ (text ++ 10 ∷ x.after)) more
        ∙ ap (λ (l : List ℕ). start ++ l) (append_assoc x.before (text ++ 10 ∷ x.after) more ∙ ap (λ (l : List ℕ). x.before ++ l) (append_assoc text (10 ∷ x.after) more));
  }

  lines-later : (more lines : List ℕ) → AreLines start came lines → AreLines start (came ++ more) lines
  lines-later more [] NoLine = NoLine
  lines-later more _ (OneLine text rest x r) = OneLine text rest (line-later more text x) (lines-later more rest r)

  sent-later : (more : List ℕ) (s : Sent) → IsSentLine start came s → IsSentLine start (came ++ more) s
  sent-later more (sent.Line line) x = line-later more line.items x
  sent-later more sent.Once x = tt
  sent-later more sent.First x = tt
  sent-later more sent.Write x = tt

  -- lines, and then others
  lines-then : (a b : List ℕ) → AreLines start came a → AreLines start came b → AreLines start came (a ++ b)
  lines-then [] b NoLine y = y
  lines-then _ b (OneLine text rest x r) y = subst (AreLines start came) (sym (append_assoc text (10 ∷ rest) b)) (OneLine text (rest ++ b) x (lines-then rest b r y))

  -- those of messages
  lines-in : (l : List Sent) → AllByRecursion (IsSentLine start came) l → AreLines start came (flat_map line_in l)
  lines-in [] x = NoLine
  lines-in (sent.Line line ∷ l) x = subst (AreLines start came) (sym (append_assoc line.items (10 ∷ []) (flat_map line_in l))) (OneLine line.items (flat_map line_in l) x.0 (lines-in l x.1))
  lines-in (sent.Once ∷ l) x = lines-in l x.1
  lines-in (sent.First ∷ l) x = lines-in l x.1
  lines-in (sent.Write ∷ l) x = lines-in l x.1

  -- ---- what waits

  abbrev At : Bool → List ℕ → Type 0
  At is_cut w = Waits start came (record { waiting = w; is_cut = is_cut })

  -- the first line
  first-here : (is_cut : Bool) (rest0 line rest : List ℕ) → rest0 ≡ line ++ 10 ∷ rest → IsOneLine line
      → MatchBool is_cut ((rest0 ≡ []) × ((before : List ℕ) × (came ≡ start ++ before))) ((before : List ℕ) × BeginsLine before × (came ≡ start ++ (before ++ rest0)))
      → IsLine start came line × At is_cut rest
  first-here true rest0 line rest e one x = absurd (nothing-not line rest (sym x.0 ∙ e))
  first-here false rest0 line rest e one (before, begins, stood) = (
    record { before = before; after = rest; begins = begins; one = one; stood = stood ∙ ap (λ (l : List ℕ). start ++ (before ++ l)) e },
    record {
      back = [];
      rest = rest;
      waiting = refl;
      lines = NoLine;
      stands = (
        before ++ (line ++ 10 ∷ []),
        inr (before ++ line, sym (append_assoc before line (10 ∷ []))),
        stood ∙ ap (λ (l : List ℕ). start ++ l) (ap (λ (l : List ℕ). before ++ l) (e ∙ sym (append_assoc line (10 ∷ []) rest)) ∙ sym (append_assoc before (line ++ 10 ∷ []) rest)),
      );
    },
  )

  first-by : (is_cut : Bool) (back rest0 line rest : List ℕ) → AreLines start came back → back ++ rest0 ≡ line ++ 10 ∷ rest → IsOneLine line
      → MatchBool is_cut ((rest0 ≡ []) × ((before : List ℕ) × (came ≡ start ++ before))) ((before : List ℕ) × BeginsLine before × (came ≡ start ++ (before ++ rest0)))
      → IsLine start came line × At is_cut rest
  first-by is_cut [] rest0 line rest NoLine e one x = first-here is_cut rest0 line rest e one x
  first-by is_cut _ rest0 line rest (OneLine text more is lines) e one x =
      let r = same-line text line (more ++ rest0) rest is.one one (sym (append_assoc text (10 ∷ more) rest0) ∙ e) in
      (subst (IsLine start came) r.0 is, record { back = more; rest = rest0; waiting = sym r.1; lines = lines; stands = x })

  pub first-of : (is_cut : Bool) (w line rest : List ℕ) → At is_cut w → w ≡ line ++ 10 ∷ rest → IsOneLine line → IsLine start came line × At is_cut rest
  first-of is_cut w line rest x e one = first-by is_cut x.back x.rest line rest x.lines (sym x.waiting ∙ e) one x.stands

  -- the next line is gone
  next-gone : (is_cut : Bool) (w : List ℕ) (b : Option (List ℕ)) → behind_byte 10 w ≡ b → At is_cut w → At is_cut (unwrap_or b w)
  next-gone is_cut w None e x = x
  next-gone is_cut w (Some rest) e x = (first-of is_cut w (before_byte 10 w) rest x (whole-splits w rest e) (before-one w)).1

  -- all of a line that is not whole is gone
  all-gone : (is_cut : Bool) (w : List ℕ) → At is_cut w → At true []
  all-gone is_cut w x = record { back = []; rest = []; waiting = refl; lines = NoLine; stands = (refl, by is_cut x.rest x.stands) }
    where
      by : (is_cut : Bool) (rest : List ℕ)
          → MatchBool is_cut ((rest ≡ []) × ((before : List ℕ) × (came ≡ start ++ before))) ((before : List ℕ) × BeginsLine before × (came ≡ start ++ (before ++ rest)))
          → (before : List ℕ) × (came ≡ start ++ before)
      by true rest x = x.1
      by false rest (before, begins, stood) = (before ++ rest, stood)

  long-gone : (is_cut : Bool) (w : List ℕ) (b : Option (List ℕ)) → behind_byte 10 w ≡ b → At is_cut w
      → Waits start came (option_map_or (λ rest. record { waiting = rest; is_cut = is_cut }) b (record { waiting = []; is_cut = true }))
  long-gone is_cut w None e x = all-gone is_cut w x
  long-gone is_cut w (Some rest) e x = (first-of is_cut w (before_byte 10 w) rest x (whole-splits w rest e) (before-one w)).1

  -- lines come first
  lines-first : (is_cut : Bool) (w lines : List ℕ) → AreLines start came lines → At is_cut w → At is_cut (lines ++ w)
  lines-first is_cut w lines l x = record {
    back = lines ++ x.back;
    rest = x.rest;
    waiting = ap (λ (r : List ℕ). lines ++ r) x.waiting ∙ sym (append_assoc lines x.back x.rest);
    lines = lines-then lines x.back l x.lines;
    stands = x.stands;
  }

  -- one more piece came
  filled : (piece w : List ℕ) (is_cut : Bool) (b : Option (List ℕ)) → behind_byte 10 piece ≡ b → At is_cut w
      → Waits start (came ++ piece) (record { waiting = w ++ (if is_cut then unwrap_or b [] else piece); is_cut = is_cut && not (is_some b) })
  filled piece w false b e x =
      let (before, begins, stood) = x.stands in
      record {
        back = x.back;
        rest = x.rest ++ piece;
        waiting = ap (λ (l : List ℕ). l ++ piece) x.waiting ∙ append_assoc x.back x.rest piece;
        lines = lines-later piece x.back x.lines;
        stands = (
          before,
          begins,
          ap (λ (l : List ℕ). l ++ piece) stood ∙ append_assoc start (before ++ x.rest) piece ∙ ap (λ (l : List ℕ). start ++ l) (append_assoc before x.rest piece),
        );
      }
  filled piece w true None e x =
      let (none, (before, stood)) = x.stands in
      record {
        back = x.back;
        rest = [];
        waiting = append-nil w ∙ x.waiting ∙ ap (λ (l : List ℕ). x.back ++ l) none;
        lines = lines-later piece x.back x.lines;
        stands = (refl, (before ++ piece, ap (λ (l : List ℕ). l ++ piece) stood ∙ append_assoc start before piece));
      }
  filled piece w true (Some rest) e x =
      let (none, (before, stood)) = x.stands in
      let line = before_byte 10 piece in
      record {
        back = x.back;
        rest = rest;
        waiting = ap (λ (l : List ℕ). l ++ rest) (x.waiting ∙ ap (λ (l : List ℕ). x.back ++ l) none ∙ append-nil x.back);
        lines = lines-later piece x.back x.lines;
        stands = (
          before ++ (line ++ 10 ∷ []),
          inr (before ++ line, sym (append_assoc before line (10 ∷ []))),
          ap (λ (l : List ℕ). l ++ piece) stood ∙ append_assoc start before piece
              ∙ ap (λ (l : List ℕ). start ++ l)
              (ap (λ (l : List ℕ). before ++ l) (whole-splits piece rest e ∙ sym (append_assoc line (10 ∷ []) rest)) ∙ sym (append_assoc before (line ++ 10 ∷ []) rest)),
        );
      }

-- ---- what a node owes

-- nothing waits
pub owes-new : (came : Option (List ℕ)) → Owes came came nothing_waits (record { sent = []; back = [] })
owes-new None = tt
owes-new (Some came) = (
  record { back = []; rest = []; waiting = refl; lines = NoLine; stands = ([], inl refl, sym (append-nil came)) },
  (tt, NoLine),
)

-- what came later begins with what came earlier
pub earlier-refl : (came : Option (List ℕ)) → IsEarlier came came
earlier-refl None = refl
earlier-refl (Some came) = ([], ap Some (sym (append-nil came)))

pub earlier-trans : (a b c : Option (List ℕ)) → IsEarlier a b → IsEarlier b c → IsEarlier a c
earlier-trans None b c x y = earlier-none b c x y
  where
    earlier-none : (b c : Option (List ℕ)) → b ≡ None → IsEarlier b c → c ≡ None
    earlier-none None c x y = y
    earlier-none (Some b) c x y = absurd (none-some b (sym x))
earlier-trans (Some a) None c x y = absurd (none-some (a ++ x.0) x.1)
earlier-trans (Some a) (Some b) c x y =
    (x.0 ++ y.0, y.1 ∙ ap (λ (l : List ℕ). Some (l ++ y.0)) (same_Some b (a ++ x.0) x.1) ∙ ap Some (append_assoc a x.0 y.0))

pub fills-earlier : {E : Type 0} (came came' : Option (List ℕ)) (o o' : OutboxModel) (r : Result Unit E) → Fills came came' o o' r → IsEarlier came came'
fills-earlier None came' o o' r x = x
fills-earlier (Some came) came' o o' (Ok done) x = (x.0, x.1)
fills-earlier (Some came) came' o o' (Err why) x = (x.0, x.1)

-- a line that came is one later
pub line-of-later : (start came later : Option (List ℕ)) (text : List ℕ) → IsLineOf start came text → IsEarlier came later → IsLineOf start later text
line-of-later None came later text x y = tt
line-of-later (Some start) None later text x y = subst (λ (o : Option (List ℕ)). IsLineOf (Some start) o text) (sym y) tt
line-of-later (Some start) (Some came) later text x y = subst (λ (o : Option (List ℕ)). IsLineOf (Some start) o text) (sym y.1) (line-later start came y.0 text x)

pub text-later : (once start came later : Option (List ℕ)) (text : List ℕ) → IsText once start came text → IsEarlier came later → IsText once start later text
text-later once start came later text (inl x) y = inl x
text-later once start came later text (inr x) y = inr (line-of-later start came later text x y)

-- the next line is one
pub owes-line : (start came : Option (List ℕ)) (o : OutboxModel) (u : UnsaidModel) (line : List ℕ) → line ≡ before_byte 10 o.waiting → is_whole o.waiting ≡ true → Owes start came o u → IsLineOf start came line
owes-line None came o u line is whole x = tt
owes-line (Some start) None o u line is whole x = tt
owes-line (Some start) (Some came) o u line is whole x =
    let b = found (behind_byte 10 o.waiting) whole in
    subst (IsLine start came) (sym is) (first-of start came o.is_cut o.waiting (before_byte 10 o.waiting) b.0 x.0 (whole-splits o.waiting b.0 b.1) (before-one o.waiting)).0

-- the next line is gone
pub owes-without : (start came : Option (List ℕ)) (o : OutboxModel) (u : UnsaidModel) → Owes start came o u → Owes start came (without_next o) u
owes-without None came o u x = tt
owes-without (Some start) None o u x = tt
owes-without (Some start) (Some came) o u x = (next-gone start came o.is_cut o.waiting (behind_byte 10 o.waiting) refl x.0, x.1)

pub owes-without-long : (start came : Option (List ℕ)) (o : OutboxModel) (u : UnsaidModel) → Owes start came o u → Owes start came (without_long o) u
owes-without-long None came o u x = tt
owes-without-long (Some start) None o u x = tt
owes-without-long (Some start) (Some came) o u x = (long-gone start came o.is_cut o.waiting (behind_byte 10 o.waiting) refl x.0, x.1)

-- lines that came back come first
pub owes-back : (start came : Option (List ℕ)) (o : OutboxModel) (u : UnsaidModel) → Owes start came o u → Owes start came (record o { waiting = u.back ++ o.waiting }) (record u { back = [] })
owes-back None came o u x = tt
owes-back (Some start) None o u x = tt
owes-back (Some start) (Some came) o u x = (lines-first start came o.is_cut o.waiting u.back x.1.1 x.0, (x.1.0, NoLine))

-- some messages came back
came-back : (start came : List ℕ) (count : ℕ) (u : UnsaidModel) → AllByRecursion (IsSentLine start came) u.sent × AreLines start came u.back
    → AllByRecursion (IsSentLine start came) (coming_back count u).sent × AreLines start came (coming_back count u).back
came-back start came count u x = (
  all-drop (IsSentLine start came) count u.sent x.0,
  lines-then start came (flat_map line_in (take count u.sent)) u.back (lines-in start came (take count u.sent) (all-take (IsSentLine start came) count u.sent x.0)) x.1,
)

-- something happened
noted-so : (start came : List ℕ) (event : Event) (u : UnsaidModel) → AllByRecursion (IsSentLine start came) u.sent × AreLines start came u.back
    → AllByRecursion (IsSentLine start came) (noted event u).sent × AreLines start came (noted event u).back
noted-so start came (Started p) u x = x
noted-so start came (SentEvent s) u x = x
noted-so start came (Delivered d) u x = by (same_address d.message.sender d.member)
  where
    by : (b : Bool) → AllByRecursion (IsSentLine start came) (if b then record u { sent = drop 1 u.sent } else u).sent × AreLines start came (if b then record u { sent = drop 1 u.sent } else u).back
    by true = (all-drop (IsSentLine start came) 1 u.sent x.0, x.1)
    by false = x
noted-so start came (Blocked p) u x = x
noted-so start came (Installed i) u x = came-back start came (length i.handed_back) u x
noted-so start came (Left p) u x = x
noted-so start came (Crashed p) u x = x

pub owes-noted : (start came : Option (List ℕ)) (o : OutboxModel) (u : UnsaidModel) (event : Event) → Owes start came o u → Owes start came o (noted event u)
owes-noted None came o u event x = tt
owes-noted (Some start) None o u event x = tt
owes-noted (Some start) (Some came) o u event x = (x.0, noted-so start came event u x.1)

-- more came
pub owes-filled : {E : Type 0} (start came came' : Option (List ℕ)) (o o' : OutboxModel) (u : UnsaidModel) (r : Result Unit E) → Fills came came' o o' r → Owes start came o u → OnOk r (Owes start came' o' u)
owes-filled start came came' o o' u (Err why) f x = tt
owes-filled None came came' o o' u (Ok done) f x = tt
owes-filled (Some start) None came' o o' u (Ok done) f x = subst (λ (c : Option (List ℕ)). Owes (Some start) c o' u) (sym f) tt
owes-filled (Some start) (Some came) came' o o' u (Ok done) f x =
    subst (λ (c : Option (List ℕ)). Owes (Some start) c o' u) (sym f.1)
    (subst (λ (q : OutboxModel). Owes (Some start) (Some (came ++ f.0)) q u) (sym f.2) (
      filled start came f.0 o.waiting o.is_cut (behind_byte 10 f.0) refl x.0,
      (all-as (IsSentLine start came) (IsSentLine start (came ++ f.0)) (sent-later start came f.0) u.sent x.1.0, lines-later start came f.0 u.back x.1.1),
    ))
