-- What a node that runs by itself keeps of its lines, from one call to the next.
use Rattle.std.proofs.Common.{◌≡◌, ℕ, true, false, List, [], ◌++◌, Option, None, Some, ap, Result, Ok, Err, IfOk, IsOk, OnOk, inl, inr, refl, sym, ◌∙◌, subst}
use Rattle.std.specs.Result.{IsErr}
use Rattle.std.specs.Option.{is_some}
use Rattle.std.proofs.lemmas.Option.{same_Some}
use Rattle.address.specs.Ids.{ViewId}
use Rattle.view.specs.Members.{View}
use Rattle.vsync_text.specs.Lines.{before_byte}
use Rattle.channel.specs.declared.stage.Stage.{Stage}
use Rattle.channel.specs.Channels.{view_in}
use Rattle.udp_runs.specs.Outboxes.{OutboxModel, is_whole}
use Rattle.udp_runs.specs.Unsaid.{UnsaidModel, noted}
use Rattle.trace_props.specs.declared.event.Event.{Event}
use Rattle.udp_runs.specs.Came.{Fills, IsEarlier, IsLineOf, IsText, Keeps, KeepsUnsaid, Owes}
use Rattle.udp_runs.proofs.LinesKept.{owes-back, owes-filled, owes-line, owes-noted, text-later}
use Rattle.udp_runs.specs.declared.ends.Cut.{Cut as Why}
use Rattle.udp_runs.specs.Said.{AreSame, IsId, MaySay}

-- what is as it was is owed still
pub same-keeps : {O : Type 0} (once once' : O) (o o' : OutboxModel) (u u' : UnsaidModel) → AreSame once o u once' o' u' → Keeps o u o' u'
same-keeps once once' o o' u u' s start came x =
    subst (λ (v : UnsaidModel). Owes start came o' v) (sym s.2) (subst (λ (q : OutboxModel). Owes start came q u) (sym s.1) x)

-- lines that came back come first
pub back-keeps : (o o' : OutboxModel) (u u' : UnsaidModel) → o' ≡ record o { waiting = u.back ++ o.waiting } → u' ≡ record u { back = [] } → Keeps o u o' u'
back-keeps o o' u u' first gone start came x =
    subst (λ (v : UnsaidModel). Owes start came o' v) (sym gone) (subst (λ (q : OutboxModel). Owes start came q (record u { back = [] })) (sym first) (owes-back start came o u x))

-- what is kept, whatever is answered
pub on-any : {A E : Type 0} (P : Type 0) (r : Result A E) → P → OnOk r P
on-any P (Ok a) p = p
on-any P (Err e) p = tt

-- an error answers nothing
pub no-ok : {A E : Type 0} (P : A → Type 0) (r : Result A E) → IsErr r → IfOk r P
no-ok P (Ok a) e = absurd (let bad : false ≡ true = e in cc)
no-ok P (Err e) x = tt

-- where no list of what came is kept, any text is such a line
pub unlisted-line : (start came : Option (List ℕ)) (text : List ℕ) → came ≡ None → IsLineOf start came text
unlisted-line (Some start) None text none = tt
unlisted-line (Some start) (Some came) text none = absurd (let bad : is_some (Some came) ≡ false = ap is_some none in cc)
unlisted-line None came text none = tt

-- the next line may be said
pub line-of : (start came : Option (List ℕ)) (o o' : OutboxModel) (u : UnsaidModel) (line text : List ℕ) → o' ≡ o → line ≡ text → (text ≡ before_byte 10 o'.waiting) × (is_whole o'.waiting ≡ true)
    → Owes start came o u → IsLineOf start came line
line-of start came o o' u line text same copy next x =
    owes-line start came o' u line (copy ∙ next.0) next.1 (subst (λ (q : OutboxModel). Owes start came q u) (sym same) x)

-- a text may be said in the view where a member is
pub may-text : {S F : Type 0} (within : ViewId → List ℕ → Result (List ℕ) F) (first : View → Option (List ℕ)) (stage : Stage S) (once start came later : Option (List ℕ)) (text payload : List ℕ) (view : View)
    → view_in stage ≡ Some view → IsId view.id → within view.id text ≡ Ok payload → IsText once start came text → IsEarlier came later
    → (w : View) → view_in stage ≡ Some w → MaySay once start later within first w.id payload
may-text within first stage once start came later text payload view at id says is earlier w where_ =
    let same : view ≡ w = same_Some view w (sym at ∙ where_) in
    (subst (λ (v : View). IsId v.id) same id, inl (text, text-later once start came later text is earlier, subst (λ (v : View). within v.id text ≡ Ok payload) same says))

-- and so may what its coordinator says first
pub may-first : {S F : Type 0} (within : ViewId → List ℕ → Result (List ℕ) F) (first : View → Option (List ℕ)) (stage : Stage S) (once start later : Option (List ℕ)) (payload : List ℕ) (view : View)
    → view_in stage ≡ Some view → IsId view.id → first view ≡ Some payload → (w : View) → view_in stage ≡ Some w → MaySay once start later within first w.id payload
may-first within first stage once start later payload view at id says w where_ =
    let same : view ≡ w = same_Some view w (sym at ∙ where_) in
    (subst (λ (v : View). IsId v.id) same id, inr (w, refl, subst (λ (v : View). first v ≡ Some payload) same says))

-- what is kept, and is as it was from then on
pub keeps-same : {O : Type 0} (once once' : O) (o o' o'' : OutboxModel) (u u' u'' : UnsaidModel) → Keeps o u o' u' → AreSame once o' u' once' o'' u'' → Keeps o u o'' u''
keeps-same once once' o o' o'' u u' u'' k s start came x = same-keeps once once' o' o'' u' u'' s start came (k start came x)

-- a piece came
pub filled-owes : (start came came' : Option (List ℕ)) (o o' : OutboxModel) (u u' : UnsaidModel) → Fills {E = Why} came came' o o' (Ok tt) → u' ≡ u → Owes start came o u → Owes start came' o' u'
filled-owes start came came' o o' u u' f same x =
    subst (λ (v : UnsaidModel). Owes start came' o' v) (sym same) (owes-filled {E = Why} start came came' o o' u (Ok tt) f x)

-- the same where no error is answered
pub filled-then : (r : Result Unit Why) (start came came' : Option (List ℕ)) (o o' : OutboxModel) (u u' : UnsaidModel) → ((e : Why) → r ≡ Err e → ⊥) → Fills {E = Why} came came' o o' r → u' ≡ u
    → Owes start came o u → Owes start came' o' u'
filled-then (Ok tt) start came came' o o' u u' never f same x = filled-owes start came came' o o' u u' f same x
filled-then (Err e) start came came' o o' u u' never f same x = absurd (never e refl)

-- what holds of one answer holds of another that is none where that is none
pub on-went : {A E B F : Type 0} (P : Type 0) (r : Result A E) (went : Result B F) → OnOk r (IsOk went) → OnOk went P → OnOk r P
on-went P (Err e) went is p = tt
on-went P (Ok a) (Ok b) is p = p
on-went P (Ok a) (Err f) is p = absurd (let bad : false ≡ true = is in cc)

pub on-map : {A E : Type 0} (P Q : Type 0) (r : Result A E) → OnOk r P → (P → Q) → OnOk r Q
on-map P Q (Ok a) p f = f p
on-map P Q (Err e) p f = tt

-- something happened
pub noted-keeps : (u v w : UnsaidModel) (event : Event) → KeepsUnsaid u v → w ≡ noted event v → KeepsUnsaid u w
noted-keeps u v w event k is o start came x =
    subst (λ (z : UnsaidModel). Owes start came o z) (sym is) (owes-noted start came o v event (k o start came x))

pub unsaid-then-same : (u v w : UnsaidModel) → KeepsUnsaid u v → w ≡ v → KeepsUnsaid u w
unsaid-then-same u v w k is o start came x = subst (λ (z : UnsaidModel). Owes start came o z) (sym is) (k o start came x)
