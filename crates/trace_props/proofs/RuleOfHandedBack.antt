-- Handed back: what is handed back is what was sent past the count of the own messages that were delivered.
use Rattle.std.proofs.Common.{◌≡◌, List, [], ◌∷◌, ◌++◌, length, drop, Option, Some, None, MatchOption, sym, refl, ap, ◌∙◌}
use Rattle.std.proofs.lemmas.List.{take-append-drop, drop_at}
use Rattle.address.specs.Ids.{ViewId}
use Rattle.trace_props.specs.declared.event.Event.{Event}
use Rattle.trace_props.specs.declared.event.Event.TheVariants.{Installed}
use Rattle.trace_props.specs.declared.event.Install.{Install}
use Rattle.trace_props.specs.Observed.{delivered_in, sent_in, own}
use Rattle.trace_props.specs.Rules.{HasSoundMessages, GivesBack, HandsBack}
use Rattle.trace_props.specs.Agreeing.{MayHandBack}
use Rattle.trace_props.proofs.RulesAlongLists.{EachEvent-push, EachEvent-last}

gives-from-rest : (t : List Event) (i : Install) (o : Option ViewId) → HasSoundMessages t
    → MatchOption o (i.handed_back ≡ []) (λ v. i.handed_back ≡ drop (length (own i.member (delivered_in i.member v t))) (sent_in i.member v t))
    → MatchOption o (i.handed_back ≡ []) (λ v. sent_in i.member v t ≡ own i.member (delivered_in i.member v t) ++ i.handed_back)
gives-from-rest t i None r m = m
gives-from-rest t i (Some v) r m =
    sym (take-append-drop (length (own i.member (delivered_in i.member v t))) (sent_in i.member v t))
    ∙ ap (λ ms. ms ++ drop (length (own i.member (delivered_in i.member v t))) (sent_in i.member v t)) (sym (r.in_turn i.member i.member v))
    ∙ ap (λ ms. own i.member (delivered_in i.member v t) ++ ms) (sym m)

rest-from-gives : (t : List Event) (i : Install) (o : Option ViewId)
    → MatchOption o (i.handed_back ≡ []) (λ v. sent_in i.member v t ≡ own i.member (delivered_in i.member v t) ++ i.handed_back)
    → MatchOption o (i.handed_back ≡ []) (λ v. i.handed_back ≡ drop (length (own i.member (delivered_in i.member v t))) (sent_in i.member v t))
rest-from-gives t i None m = m
rest-from-gives t i (Some v) m =
    sym (drop_at (own i.member (delivered_in i.member v t)) i.handed_back (length (own i.member (delivered_in i.member v t))) refl)
    ∙ ap (drop (length (own i.member (delivered_in i.member v t)))) (sym m)

-- the rest of what was sent gives back under sound messages
gives-from : (t : List Event) (h : Event) → HasSoundMessages t → MayHandBack t h → GivesBack t h
gives-from t (Installed i) r m = gives-from-rest t i i.previous r m
gives-from t h r m = tt

-- handed back goes one event further
pub hands-push : (t : List Event) (h : Event) → HasSoundMessages t → HandsBack t → MayHandBack t h → HandsBack (t ++ h ∷ [])
hands-push t h messages r m = EachEvent-push GivesBack t h r (gives-from t h messages m)

hands-from : (t : List Event) (h : Event) → GivesBack t h → MayHandBack t h
hands-from t (Installed i) m = rest-from-gives t i i.previous m
hands-from t h m = tt

-- what happens under the rule may hand back
pub hands-needed : (t : List Event) (h : Event) → HandsBack (t ++ h ∷ []) → MayHandBack t h
hands-needed t h r = hands-from t h (EachEvent-last GivesBack t h r)
