-- What is kept of a member in a view, one event further.
use Rattle.std.proofs.Common.{◌≡◌, ◌+◌, Bool, true, false, cond, List, [], ◌∷◌, ◌++◌, length, Option, Some, None, Bor, MatchOption, sym, refl, ap, ◌∙◌, subst}
use Rattle.std.specs.Bool.{⊤}
use Rattle.std.specs.Option.{option_or, option_copied, option_map_or}
use Rattle.std.proofs.lemmas.Bool.{and_from, and_parts}
use Rattle.std.proofs.lemmas.List.{length_push, map-append}
use Rattle.address.specs.Ids.{Address, ViewId, same_address, same_view_id}
use Rattle.trace_props.specs.declared.event.Event.{Event}
use Rattle.trace_props.specs.declared.event.Event.TheVariants.{Sent, Delivered, Installed}
use Rattle.trace_props.specs.declared.event.Numbered.{Numbered}
use Rattle.trace_props.specs.declared.event.Message.{Message}
use Rattle.trace_props.specs.declared.event.Sending.{Sending}
use Rattle.trace_props.specs.declared.event.Delivery.{Delivery}
use Rattle.trace_props.specs.declared.event.Install.{Install}
use Rattle.trace_rules.specs.declared.known.keys.MemberInView.{MemberInView}
use Rattle.trace_rules.specs.declared.known.in_views.InView.{InView}
use Rattle.trace_props.specs.Observed.{numbered, delivered_in, sent_in, own, entry_of}
use Rattle.trace_props.specs.Following.{MayCarry}
use Rattle.trace_rules.specs.Lasts.{number_of}
use Rattle.trace_rules.specs.Known.{place_of, pointed, same_in_view, Says, Follows, KnowsInViews}
use Rattle.address.proofs.SameIds.{same_address-true, same_address-refl, same_view_id-true, same_view_id-refl}
use Rattle.trace_props.proofs.DeliveredGrow.{is_delivery_to-at, said_by-at, enters, delivered_in-still, delivered_in-miss, delivered_in-hit, sent_in-still, sent_in-miss, sent_in-hit, own-hit, own-miss, register-still, register-push}
use Rattle.address.proofs.Plain.{option_or-none}

-- WHAT THE MEMBER DOES

-- it sends a message
pub adds-sent : (k w : InView) (t : List Event) (h : Event) (s : Sending) (b : Bor Numbered) → h ≡ Sent s → b.now ≡ s.message → w.sent.items ≡ k.sent.items ++ b ∷ []
    → k.entry ≡ w.entry → k.delivered.items ≡ w.delivered.items → k.lasts.items ≡ w.lasts.items → Follows (Some k) (Some w) t h
adds-sent k w t h s b this same more entry delivered lasts = subst (λ (x : Event). Follows (Some k) (Some w) t x) (sym this) (λ says. record {
  entry = ap option_copied (sym entry) ∙ says.entry ∙ sym (register-still (enters s.member s.view) t (Sent s) refl);
  sent = ap pointed more ∙ map-append (λ (x : Bor Numbered). x.now) k.sent.items (b ∷ []) ∙ ap (λ x. pointed k.sent.items ++ x ∷ []) same ∙ ap (λ l. l ++ s.message ∷ []) says.sent ∙ sym (sent_in-hit s.member s.view t s (said_by-at s));
  delivered = ap pointed (sym delivered) ∙ says.delivered ∙ sym (delivered_in-still s.member s.view t (Sent s) refl);
  last = λ q. ap (λ ls. number_of ls q) (sym lasts) ∙ says.last q ∙ ap (λ l. length (own q l)) (sym (delivered_in-still s.member s.view t (Sent s) refl));
})

-- the number of the message that it delivers is its sender's last
last-at : (k : InView) (t : List Event) (d : Delivery) (q : Address) (b : Bool) → same_address d.message.sender q ≡ b → MayCarry t (Delivered d) → Says (Some k) d.member d.view t
    → cond b d.message.number (number_of k.lasts.items q) ≡ length (own q (delivered_in d.member d.view t ++ d.message ∷ []))
last-at k t d q false e may says = says.last q ∙ ap length (sym (own-miss q (delivered_in d.member d.view t) d.message e))
last-at k t d q true e may says =
    may.0 ∙ ap (λ p. length (own p (delivered_in d.member d.view t)) + 1) (same_address-true d.message.sender q e)
    ∙ sym (length_push (own q (delivered_in d.member d.view t)) (numbered d.message))
    ∙ ap length (sym (own-hit q (delivered_in d.member d.view t) d.message e))

-- it delivers its sender's next message
pub adds-delivered : (k w : InView) (t : List Event) (h : Event) (d : Delivery) (b : Bor Message) → MayCarry t h → h ≡ Delivered d → b.now ≡ d.message → w.delivered.items ≡ k.delivered.items ++ b ∷ []
    → ((q : Address) → number_of w.lasts.items q ≡ cond (same_address d.message.sender q) d.message.number (number_of k.lasts.items q))
    → k.entry ≡ w.entry → k.sent.items ≡ w.sent.items → Follows (Some k) (Some w) t h
adds-delivered k w t h d b may this same more last entry sent = subst (λ (x : Event). Follows (Some k) (Some w) t x) (sym this) (λ says. record {
  entry = ap option_copied (sym entry) ∙ says.entry ∙ sym (register-still (enters d.member d.view) t (Delivered d) refl);
  sent = ap pointed (sym sent) ∙ says.sent ∙ sym (sent_in-still d.member d.view t (Delivered d) refl);
  delivered = ap pointed more ∙ map-append (λ (x : Bor Message). x.now) k.delivered.items (b ∷ []) ∙ ap (λ x. pointed k.delivered.items ++ x ∷ []) same ∙ ap (λ l. l ++ d.message ∷ []) says.delivered
      ∙ sym (delivered_in-hit d.member d.view t d (is_delivery_to-at d));
  last = λ q. last q ∙ last-at k t d q (same_address d.message.sender q) refl (subst (MayCarry t) this may) says ∙ ap (λ l. length (own q l)) (sym (delivered_in-hit d.member d.view t d (is_delivery_to-at d)));
})

copied-or : (o : Option (Bor Install)) (b : Bor Install) → option_copied (option_or o (Some b)) ≡ option_or (option_copied o) (Some b.now)
copied-or None b = refl
copied-or (Some x) b = refl

-- it installs the view
pub adds-entry : (k w : InView) (t : List Event) (h : Event) (b : Bor Install) → h ≡ Installed b.now → w.entry ≡ option_or k.entry (Some b)
    → k.sent.items ≡ w.sent.items → k.delivered.items ≡ w.delivered.items → k.lasts.items ≡ w.lasts.items → Follows (Some k) (Some w) t h
adds-entry k w t h b this first sent delivered lasts =
    let i = b.now in
    subst (λ (x : Event). Follows (Some k) (Some w) t x) (sym this) (λ says. record {
      entry = ap option_copied first ∙ copied-or k.entry b ∙ ap (λ o. option_or o (Some i)) says.entry
          ∙ sym (register-push (enters i.member i.view.id) t i ∙ ap (λ b. option_or (entry_of i.member i.view.id t) (cond b (Some i) None)) (and_from (same_address i.member i.member) (same_view_id i.view.id i.view.id) (same_address-refl i.member) (same_view_id-refl i.view.id)));
      sent = ap pointed (sym sent) ∙ says.sent ∙ sym (sent_in-still i.member i.view.id t (Installed i) refl);
      delivered = ap pointed (sym delivered) ∙ says.delivered ∙ sym (delivered_in-still i.member i.view.id t (Installed i) refl);
      last = λ q. ap (λ ls. number_of ls q) (sym lasts) ∙ says.last q ∙ ap (λ l. length (own q l)) (sym (delivered_in-still i.member i.view.id t (Installed i) refl));
    })

-- WHERE IT DOES NOTHING

unchanged : (k : Option InView) (p : Address) (v : ViewId) (t : List Event) (h : Event)
    → entry_of p v (t ++ h ∷ []) ≡ entry_of p v t → sent_in p v (t ++ h ∷ []) ≡ sent_in p v t → delivered_in p v (t ++ h ∷ []) ≡ delivered_in p v t → Says k p v t → Says k p v (t ++ h ∷ [])
unchanged k p v t h a b c says = record {
  entry = says.entry ∙ sym a;
  sent = says.sent ∙ sym b;
  delivered = says.delivered ∙ sym c;
  last = λ q. says.last q ∙ ap (λ l. length (own q l)) (sym c);
}

-- what happens elsewhere leaves what is kept
pub elsewhere : (k : Option InView) (s : MemberInView) (t : List Event) (h : Event) → option_map_or (λ key. same_in_view key s) (place_of h) false ≡ false
    → Says k s.member s.view t → Says k s.member s.view (t ++ h ∷ [])
elsewhere k s t (Sent x) e = unchanged k s.member s.view t (Sent x) (register-still (enters s.member s.view) t (Sent x) refl) (sent_in-miss s.member s.view t x e) (delivered_in-still s.member s.view t (Sent x) refl)
elsewhere k s t (Delivered d) e =
    unchanged k s.member s.view t (Delivered d) (register-still (enters s.member s.view) t (Delivered d) refl) (sent_in-still s.member s.view t (Delivered d) refl) (delivered_in-miss s.member s.view t d e)
elsewhere k s t (Installed i) e =
    unchanged k s.member s.view t (Installed i)
    (register-push (enters s.member s.view) t i ∙ ap (λ b. option_or (entry_of s.member s.view t) (cond b (Some i) None)) e ∙ option_or-none (entry_of s.member s.view t))
    (sent_in-still s.member s.view t (Installed i) refl) (delivered_in-still s.member s.view t (Installed i) refl)
elsewhere k s t h e = unchanged k s.member s.view t h (register-still (enters s.member s.view) t h refl) (sent_in-still s.member s.view t h refl) (delivered_in-still s.member s.view t h refl)

-- WHAT IS KEPT OF ALL

same_in_view-true : (a b : MemberInView) → same_in_view a b ≡ true → a ≡ b
same_in_view-true a b e =
    let parts = and_parts (same_address a.member b.member) (same_view_id a.view b.view) e in
    ap {B = MemberInView} (λ (p : Address). record { member = p; view = a.view }) (same_address-true a.member b.member parts.0)
    ∙ ap {B = MemberInView} (λ (v : ViewId). record { member = b.member; view = v }) (same_view_id-true a.view b.view parts.1)

noted-at : (m : MemberInView → Option InView) (t : List Event) (h : Event) (key q : MemberInView) (w : InView) (b : Bool) → same_in_view key q ≡ b → place_of h ≡ Some key
    → Says (Some w) key.member key.view (t ++ h ∷ []) → KnowsInViews m t → Says (cond b (Some w) (m q)) q.member q.view (t ++ h ∷ [])
noted-at m t h key q w true e place says r = subst (λ (s : MemberInView). Says (Some w) s.member s.view (t ++ h ∷ [])) (same_in_view-true key q e) says
noted-at m t h key q w false e place says r = elsewhere (m q) q t h (ap (λ o. option_map_or (λ key. same_in_view key q) o false) place ∙ e) (r q)

-- the one place is written where the member does something
pub noted : (m n : MemberInView → Option InView) (t : List Event) (h : Event) (key : MemberInView) (old w : InView) → Some key ≡ place_of h
    → (Says (m key) key.member key.view t → Says (Some old) key.member key.view t) → Follows (Some old) (Some w) t h
    → ((q : MemberInView) → n q ≡ cond (same_in_view key q) (Some w) (m q)) → KnowsInViews m t → KnowsInViews n (t ++ h ∷ [])
noted m n t h key old w place before follows updates r q =
    let there = subst (λ (o : Option MemberInView). MatchOption o ⊤ (λ s. Says (Some old) s.member s.view t → Says (Some w) s.member s.view (t ++ h ∷ []))) (sym place) follows in
    subst (λ (o : Option InView). Says o q.member q.view (t ++ h ∷ [])) (sym (updates q)) (noted-at m t h key q w (same_in_view key q) refl (sym place) (there (before (r key))) r)
