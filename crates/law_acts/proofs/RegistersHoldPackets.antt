-- What stands in a register stands in a packet, so what holds of packets holds of it.
use Rattle.std.proofs.Common.{◌≡◌, ℕ, Bool, true, false, cond, Option, Some, None, List, refl, sym, ap, ◌∙◌, subst}
use Rattle.std.specs.Prelude.{slice_get}
use Rattle.std.proofs.lemmas.Option.{none-some, cond_some}
use Rattle.address.specs.Ids.{Address, ViewId, same_address, same_view_id}
use Rattle.view.specs.Members.{View}
use Rattle.wire_values.specs.Values.{Report}
use Rattle.wire_values.specs.Values as wire
use Rattle.wire_values.specs.declared.packet.Body.{Body}
use Rattle.wire_values.specs.declared.packet.Body.TheVariants as bodies
use Rattle.wire_values.specs.Posted.{Posted}
use Rattle.flush.proofs.Covers.{first-stands}
use Rattle.address.proofs.SameIds.{same_address-true, same_view_id-true}
use Rattle.law_acts.specs.Histories.{History, flush_in, report_in, install_in, report_by, install_to, flush_of, report_of, install_of}
use Rattle.law_acts.specs.Packets.{BodyFact, IsAnswer, IsInstruction}
use Rattle.law_acts.specs.Invariant.{EachPacket}

-- ---- what one packet says

-- and what is let through under a test
pub passed-to : {X : Type 0} (b : Bool) (o : Option X) (y : X) → cond b o None ≡ Some y → (b ≡ true) × (o ≡ Some y)
passed-to true o y e = (refl, e)
passed-to false o y e = absurd (none-some y e)

view-of : (proposal : View) (w : ViewId) (l : List Address) → proposal.id ≡ w → proposal.members ≡ l → proposal ≡ record { id = w; members = l }
view-of proposal w l e f = ap {B = View} (λ (i : ViewId). record { id = i; members = proposal.members }) e ∙ ap {B = View} (λ (m : List Address). record { id = w; members = m }) f

-- what announces a view is a FLUSH of it
pub flush-says : (w : ViewId) (b : Body) (l : List Address) → flush_in w b ≡ Some l → b ≡ bodies.Flush (record { id = w; members = l })
flush-says w bodies.Join l e = absurd (none-some l e)
flush-says w (bodies.Redirect coordinator) l e = absurd (none-some l e)
flush-says w bodies.Leave l e = absurd (none-some l e)
flush-says w (bodies.Forward view number payload) l e = absurd (none-some l e)
flush-says w (bodies.Order view place entry) l e = absurd (none-some l e)
flush-says w (bodies.Nak view missing) l e = absurd (none-some l e)
flush-says w (bodies.Ack view delivered) l e = absurd (none-some l e)
flush-says w (bodies.Status view progress) l e = absurd (none-some l e)
flush-says w (bodies.Flush proposal) l e =
    let x = cond_some (same_view_id proposal.id w) proposal.members l e in ap bodies.Flush (view-of proposal w l (same_view_id-true proposal.id w x.0) x.1)
flush-says w (bodies.Behind proposal counter) l e = absurd (none-some l e)
flush-says w (bodies.Report proposal report) l e = absurd (none-some l e)
flush-says w (bodies.Install install) l e = absurd (none-some l e)
flush-says w (bodies.Merge view) l e = absurd (none-some l e)
flush-says w (bodies.State proposal chunk) l e = absurd (none-some l e)

-- what reports for a proposal is a REPORT for it
pub report-says : (w : ViewId) (b : Body) (r : Report) → report_in w b ≡ Some r → b ≡ bodies.Report w r
report-says w bodies.Join r e = absurd (none-some r e)
report-says w (bodies.Redirect coordinator) r e = absurd (none-some r e)
report-says w bodies.Leave r e = absurd (none-some r e)
report-says w (bodies.Forward view number payload) r e = absurd (none-some r e)
report-says w (bodies.Order view place entry) r e = absurd (none-some r e)
report-says w (bodies.Nak view missing) r e = absurd (none-some r e)
report-says w (bodies.Ack view delivered) r e = absurd (none-some r e)
report-says w (bodies.Status view progress) r e = absurd (none-some r e)
report-says w (bodies.Flush proposal) r e = absurd (none-some r e)
report-says w (bodies.Behind proposal counter) r e = absurd (none-some r e)
report-says w (bodies.Report proposal report) r e =
    let x = cond_some (same_view_id proposal w) report r e in
    ap (λ v. bodies.Report v report) (same_view_id-true proposal w x.0) ∙ ap (bodies.Report w) x.1
report-says w (bodies.Install install) r e = absurd (none-some r e)
report-says w (bodies.Merge view) r e = absurd (none-some r e)
report-says w (bodies.State proposal chunk) r e = absurd (none-some r e)

-- what instructs to go into a view is an INSTALL of it
pub install-says : (w : ViewId) (b : Body) (i : wire.Install) → install_in w b ≡ Some i → (b ≡ bodies.Install i) × (i.view.id ≡ w)
install-says w bodies.Join i e = absurd (none-some i e)
install-says w (bodies.Redirect coordinator) i e = absurd (none-some i e)
install-says w bodies.Leave i e = absurd (none-some i e)
install-says w (bodies.Forward view number payload) i e = absurd (none-some i e)
install-says w (bodies.Order view place entry) i e = absurd (none-some i e)
install-says w (bodies.Nak view missing) i e = absurd (none-some i e)
install-says w (bodies.Ack view delivered) i e = absurd (none-some i e)
install-says w (bodies.Status view progress) i e = absurd (none-some i e)
install-says w (bodies.Flush proposal) i e = absurd (none-some i e)
install-says w (bodies.Behind proposal counter) i e = absurd (none-some i e)
install-says w (bodies.Report proposal report) i e = absurd (none-some i e)
install-says w (bodies.Install install) i e =
    let x = cond_some (same_view_id install.view.id w) install i e in
    (ap bodies.Install x.1, ap (λ (j : wire.Install). j.view.id) (sym x.1) ∙ same_view_id-true install.view.id w x.0)
install-says w (bodies.Merge view) i e = absurd (none-some i e)
install-says w (bodies.State proposal chunk) i e = absurd (none-some i e)

-- ---- where a register was written

pub record PutOut (pool : List Posted) (p q : Address) (b : Body) : Type 0 where
  pub place : ℕ
  pub posted : Posted
  pub stands : slice_get pool place ≡ Some posted
  pub source : posted.source ≡ p
  pub destination : posted.destination ≡ q
  pub says : posted.body ≡ b

pub flush-stands : (w : ViewId) (l : List Address) (pool : List Posted) → flush_of w pool ≡ Some l
    → (p q : Address) × PutOut pool p q (bodies.Flush (record { id = w; members = l }))
unfolding flush_of
flush-stands w l pool e =
    let s = first-stands (λ (m : Posted). flush_in w m.body) pool l e in (
      s.element.source,
      s.element.destination,
      record {
        place = s.index;
        posted = s.element;
        stands = s.stands;
        source = refl;
        destination = refl;
        says = flush-says w s.element.body l s.gives;
      },
    )

pub report-stands : (p : Address) (w : ViewId) (r : Report) (pool : List Posted) → report_of p w pool ≡ Some r → (q : Address) × PutOut pool p q (bodies.Report w r)
unfolding report_of
report-stands p w r pool e =
    let s = first-stands (report_by p w) pool r e in
    let x = passed-to (same_address s.element.source p) (report_in w s.element.body) r s.gives in (
      s.element.destination,
      record {
        place = s.index;
        posted = s.element;
        stands = s.stands;
        source = same_address-true s.element.source p x.0;
        destination = refl;
        says = report-says w s.element.body r x.1;
      },
    )

pub record Instructs (pool : List Posted) (w : ViewId) (q : Address) (i : wire.Install) : Type 0 where
  pub source : Address
  pub out : PutOut pool source q (bodies.Install i)
  pub view : i.view.id ≡ w

pub install-stands : (w : ViewId) (q : Address) (i : wire.Install) (pool : List Posted) → install_of w q pool ≡ Some i → Instructs pool w q i
unfolding install_of
install-stands w q i pool e =
    let s = first-stands (install_to q w) pool i e in
    let x = passed-to (same_address s.element.destination q) (install_in w s.element.body) i s.gives in
    let y = install-says w s.element.body i x.1 in
    record {
      source = s.element.source;
      out = record {
        place = s.index;
        posted = s.element;
        stands = s.stands;
        source = refl;
        destination = same_address-true s.element.destination q x.0;
        says = y.0;
      };
      view = y.1;
    }

-- ---- so what holds of packets holds of it

fact-at : (h : History) (p q : Address) (b : Body) → EachPacket h → PutOut h.pool p q b → BodyFact h p q b
fact-at h p q b each out =
    subst (λ (c : Body). BodyFact h p q c) out.says
    (subst (λ (d : Address). BodyFact h p d out.posted.body) out.destination
    (subst (λ (s : Address). BodyFact h s out.posted.destination out.posted.body) out.source
    (each out.place out.posted out.stands)))

pub report-fact : (h : History) (p : Address) (w : ViewId) (r : Report) → EachPacket h → report_of p w h.pool ≡ Some r → IsAnswer h p w r
report-fact h p w r each e = let s = report-stands p w r h.pool e in fact-at h p s.0 _ each s.1

pub record InstructedBy (h : History) (w : ViewId) (q : Address) (i : wire.Install) : Type 0 where
  pub view : i.view.id ≡ w
  pub fact : IsInstruction h w.creator q i

pub install-fact : (h : History) (w : ViewId) (q : Address) (i : wire.Install) → EachPacket h → install_of w q h.pool ≡ Some i → InstructedBy h w q i
install-fact h w q i each e =
    let s = install-stands w q i h.pool e in
    let x : IsInstruction h s.source q i = fact-at h s.source q _ each s.out in
    record { view = s.view; fact = subst (λ (p : Address). IsInstruction h p q i) (sym x.own ∙ ap (λ (v : ViewId). v.creator) s.view) x }
