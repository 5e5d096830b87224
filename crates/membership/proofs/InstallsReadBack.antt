-- What a member kept of the view that it made, read from its bytes.
use Rattle.std.proofs.Common.{◌≡◌, Bool, true, false, cond, Option, Some, None, List, [], ◌∷◌, map, refl, ap, ◌∙◌, ◌⊎◌, inl, inr}
use Rattle.std.specs.Prelude.{Ok, find}
use Rattle.std.specs.List.{AllByRecursion, cons_option}
use Rattle.address.specs.Ids.{Address, same_address}
use Rattle.view.specs.Members.{View}
use Rattle.wire_values.specs.Values as wire
use Rattle.wire.specs.Packets.{IsPacket, packet_of, spelling}
use Rattle.wire.proofs.OneSpelling.{spelled_read}
use Rattle.address.proofs.SameIds.{same_address-true, same_address-sym}
use Rattle.law_acts.specs.Cores.{install_sent_to}
use Rattle.step_output.specs.Outputs.{packet_in}
use Rattle.step_output.specs.Steps.{Who}
use Rattle.membership.specs.declared.sent_install.SentInstall.{SentInstall}
use Rattle.membership.specs.MemberStates.{said_by, sent_installs_in, is_sent_to, install_packet, sent_install}

-- what is kept is what was spelled
pub kept-are : (who : Who) (given : List (Address × wire.Install)) → AllByRecursion (λ m. IsPacket (packet_in who.group m)) (map (install_packet who.address) given)
    → sent_installs_in (map (sent_install who) given) ≡ given
kept-are who [] sound = refl
kept-are who (p ∷ given) sound =
    let m = packet_in who.group (install_packet who.address p) in
    let read : packet_of (spelling m) ≡ Ok m = spelled_read (spelling m) m (sound.0, refl) in
    ap (λ r. cons_option (said_by r) (sent_installs_in (map (sent_install who) given))) read ∙ ap (λ l. p ∷ l) (kept-are who given sound.1)

-- the packet that is found for an address gives the INSTALL that was kept for it
pub record IsAgain (who : Who) (q : Address) (view : Option View) (given : List (Address × wire.Install)) (o : Option SentInstall) : Type 0 where
  pub to : Address
  pub install : wire.Install
  pub is : o ≡ Some (sent_install who (to, install))
  pub same : to ≡ q
  pub sound : IsPacket (packet_in who.group (install_packet who.address (to, install)))
  pub current : view ≡ Some install.view
  pub first : install_sent_to q given ≡ Some install

again-by : (b : Bool) (who : Who) (q : Address) (view : Option View) (p : Address × wire.Install) (given : List (Address × wire.Install)) (rest : Option SentInstall) → same_address p.0 q ≡ b
    → IsPacket (packet_in who.group (install_packet who.address p)) → view ≡ Some p.1.view → (rest ≡ None) ⊎ IsAgain who q view given rest
    → (cond b (Some (sent_install who p)) rest ≡ None) ⊎ IsAgain who q view (p ∷ given) (cond b (Some (sent_install who p)) rest)
again-by true who q view p given rest w sound current later = inr (record {
  to = p.0;
  install = p.1;
  is = refl;
  same = same_address-true p.0 q w;
  sound = sound;
  current = current;
  first = ap (λ t. cond t (Some p.1) (install_sent_to q given)) (same_address-sym q p.0 ∙ w);
})
again-by false who q view p given rest w sound current (inl none) = inl none
again-by false who q view p given rest w sound current (inr a) = inr (record {
  to = a.to;
  install = a.install;
  is = a.is;
  same = a.same;
  sound = a.sound;
  current = a.current;
  first = ap (λ t. cond t (Some p.1) (install_sent_to q given)) (same_address-sym q p.0 ∙ w) ∙ a.first;
})

pub again-in : (who : Who) (q : Address) (view : Option View) (given : List (Address × wire.Install)) → AllByRecursion (λ m. IsPacket (packet_in who.group m)) (map (install_packet who.address) given)
    → AllByRecursion (λ p. view ≡ Some p.1.view) given
    → (find (is_sent_to q) (map (sent_install who) given) ≡ None) ⊎ IsAgain who q view given (find (is_sent_to q) (map (sent_install who) given))
again-in who q view [] sound current = inl refl
again-in who q view (p ∷ given) sound current =
    again-by (same_address p.0 q) who q view p given (find (is_sent_to q) (map (sent_install who) given)) refl sound.0 current.0 (again-in who q view given sound.1 current.1)
