-- Items, one list behind the other; and those of steps and of offers.
use Rattle.std.proofs.Common.{◌≡◌, ℕ, Option, Some, None, List, [], ◌∷◌, ◌++◌, map, flat_map, drop, refl, sym, ap, ◌∙◌, subst}
use Rattle.std.specs.Prelude.{⊤, IfSome}
use Rattle.std.proofs.lemmas.Option.{none-some}
use Rattle.std.proofs.lemmas.List.{append-nil, append_assoc}
use Rattle.std.proofs.lemmas.List.Elements.{filter_map-append}
use Rattle.std.proofs.lemmas.Grind.{flat_map-append}
use Rattle.address.specs.Ids.{Address}
use Rattle.state_transfer.specs.Meanings.{Meaning}
use Rattle.step_output.specs.declared.output.Outgoing.{Outgoing}
use Rattle.member.specs.declared.input.Input.{Input}
use Rattle.member.specs.Members.{MemberModel}
use Rattle.udp_net.specs.Logs.{Log, Lists, NetEvent, Answered, Offered}
use Rattle.udp_member.specs.Offers.{offered_as}
use Rattle.law_processes.specs.Deployments.{Step, Start, Call, Crash, whose, left_with, puts_of, bytes_of, told_by, happens_by}
use Rattle.law_processes.specs.Processes.{RunsFrom, member_after, all_put_out, all_told}
use Rattle.law_runners.specs.Plays.{IsStepBy}
use Rattle.law_runners.specs.Items.{Item, OfNet, OfMember, Standing, given_by, then_stands, stands_after, datagram_in, datagram_of, Follow, net_event, net_events, step_in, steps_in}
use Rattle.law_runners.specs.Runs.{happened_by}

-- ---- what a net lists

pub lists-as : (a b : Option Log) (f g : Log → Log) → ((l : Log) → f l ≡ g l) → Lists a f b → Lists a g b
lists-as a None f g same x = tt
lists-as None (Some l) f g same x = absurd x
lists-as (Some o) (Some l) f g same x = x ∙ same o

pub lists-then : (a b c : Option Log) (xs ys : List NetEvent) → Lists a (λ l. l ++ xs) b → Lists b (λ l. l ++ ys) c → Lists a (λ l. l ++ (xs ++ ys)) c
lists-then a b None xs ys x y = tt
lists-then a None (Some l) xs ys x y = absurd y
lists-then None (Some k) (Some l) xs ys x y = absurd x
lists-then (Some j) (Some k) (Some l) xs ys x y = y ∙ ap (λ (m : Log). m ++ ys) x ∙ append_assoc j xs ys

none-given : (o g : Option (List ℕ)) → IfSome o (λ bytes. None ≡ Some bytes) → IfSome o (λ bytes. g ≡ Some bytes)
none-given None g x = tt
none-given (Some b) g x = absurd (none-some b x)

module _ {S : Type 0} where
  abbrev pub stands : Option (MemberModel S) → List (List ℕ) → Option (List ℕ) → Standing S
  stands running waiting given = record { running = running; waiting = waiting; given = given }

  -- ---- one list behind the other

  pub after-then : (s : Standing S) (xs ys : List (Item S)) → stands_after s (xs ++ ys) ≡ stands_after (stands_after s xs) ys
  after-then s [] ys = refl
  after-then s (x ∷ xs) ys = after-then (then_stands s x) xs ys

  pub events-then : (xs ys : List (Item S)) → net_events (xs ++ ys) ≡ net_events xs ++ net_events ys
  events-then xs ys = filter_map-append net_event xs ys

  pub happened-then : (xs ys : List (Item S)) → happened_by (xs ++ ys) ≡ happened_by xs ++ happened_by ys
  happened-then xs ys = ap (flat_map happens_by) (filter_map-append step_in xs ys) ∙ flat_map-append happens_by (steps_in xs) (steps_in ys)

  pub steps-then : (xs ys : List (Item S)) → steps_in (xs ++ ys) ≡ steps_in xs ++ steps_in ys
  steps-then xs ys = filter_map-append step_in xs ys

  pub told-then : (xs ys : List (Item S)) → all_told (steps_in (xs ++ ys)) ≡ all_told (steps_in xs) ++ all_told (steps_in ys)
  told-then xs ys = ap all_told (filter_map-append step_in xs ys) ∙ flat_map-append told_by (steps_in xs) (steps_in ys)

  -- what was given before does not matter where it is not handed in
  running-given : (r : Option (MemberModel S)) (w : List (List ℕ)) (g : Option (List ℕ)) (items : List (Item S))
      → (stands_after (stands r w g) items).running ≡ (stands_after (stands r w None) items).running
  running-given r w g [] = refl
  running-given r w g (OfNet (Answered answer) ∷ items) = refl
  running-given r w g (OfNet (Offered offer) ∷ items) = refl
  running-given r w g (OfMember x ∷ items) = refl

  waiting-given : (r : Option (MemberModel S)) (w : List (List ℕ)) (g : Option (List ℕ)) (items : List (Item S))
      → (stands_after (stands r w g) items).waiting ≡ (stands_after (stands r w None) items).waiting
  waiting-given r w g [] = refl
  waiting-given r w g (OfNet (Answered answer) ∷ items) = refl
  waiting-given r w g (OfNet (Offered offer) ∷ items) = refl
  waiting-given r w g (OfMember x ∷ items) = refl

  -- which member runs does not matter for what waits
  pub waiting-ran : (r q : Option (MemberModel S)) (w : List (List ℕ)) (g : Option (List ℕ)) (items : List (Item S))
      → (stands_after (stands r w g) items).waiting ≡ (stands_after (stands q w g) items).waiting
  waiting-ran r q w g [] = refl
  waiting-ran r q w g (OfNet (Answered answer) ∷ items) = waiting-ran r q w (given_by answer) items
  waiting-ran r q w g (OfNet (Offered offer) ∷ items) = waiting-ran r q (drop 1 w) None items
  waiting-ran r q w g (OfMember x ∷ items) = refl

  module _ (meaning : Meaning S) (group : List ℕ) (p : Address) where
    pub follow-then : (s : Standing S) (xs ys : List (Item S)) → Follow meaning group p s xs → Follow meaning group p (stands_after s xs) ys → Follow meaning group p s (xs ++ ys)
    follow-then s [] ys f g = g
    follow-then s (x ∷ xs) ys f g = (f.0, follow-then (then_stands s x) xs ys f.1 g)

    follow-given : (r : Option (MemberModel S)) (w : List (List ℕ)) (g : Option (List ℕ)) (items : List (Item S)) → Follow meaning group p (stands r w None) items
        → Follow meaning group p (stands r w g) items
    follow-given r w g [] f = tt
    follow-given r w g (OfNet (Answered answer) ∷ items) f = f
    follow-given r w g (OfNet (Offered offer) ∷ items) f = f
    follow-given r w g (OfMember x ∷ items) f = ((f.0.0, f.0.1, none-given (datagram_of x) g f.0.2), f.1)

    -- from where others led
    pub follow-from : (s : Standing S) (r : Option (MemberModel S)) (w : List (List ℕ)) (items : List (Item S)) → s.running ≡ r → s.waiting ≡ w
        → Follow meaning group p (stands r w None) items → Follow meaning group p s items
    follow-from s r w items running waiting f =
        subst (λ (o : Option (MemberModel S)). Follow meaning group p (stands o s.waiting s.given) items) (sym running)
        (subst (λ (l : List (List ℕ)). Follow meaning group p (stands r l s.given) items) (sym waiting) (follow-given r w s.given items f))

  pub running-from : (s : Standing S) (r : Option (MemberModel S)) (w : List (List ℕ)) (items : List (Item S)) → s.running ≡ r → s.waiting ≡ w
      → (stands_after s items).running ≡ (stands_after (stands r w None) items).running
  running-from s r w items running waiting =
      running-given s.running s.waiting s.given items
      ∙ ap (λ (o : Option (MemberModel S)). (stands_after (stands o s.waiting None) items).running) running
      ∙ ap (λ (l : List (List ℕ)). (stands_after (stands r l None) items).running) waiting

  pub waiting-from : (s : Standing S) (r : Option (MemberModel S)) (w : List (List ℕ)) (items : List (Item S)) → s.running ≡ r → s.waiting ≡ w
      → (stands_after s items).waiting ≡ (stands_after (stands r w None) items).waiting
  waiting-from s r w items running waiting =
      waiting-given s.running s.waiting s.given items
      ∙ ap (λ (o : Option (MemberModel S)). (stands_after (stands o s.waiting None) items).waiting) running
      ∙ ap (λ (l : List (List ℕ)). (stands_after (stands r l None) items).waiting) waiting

  -- ---- steps alone

  abbrev pub items_by : List (Step S) → List (Item S)
  items_by own = map OfMember own

  pub events-by : (own : List (Step S)) → net_events (items_by own) ≡ []
  events-by [] = refl
  events-by (x ∷ own) = events-by own

  pub steps-by : (own : List (Step S)) → steps_in (items_by own) ≡ own
  steps-by [] = refl
  steps-by (x ∷ own) = ap (λ (l : List (Step S)). x ∷ l) (steps-by own)

  pub running-by : (r : Option (MemberModel S)) (w : List (List ℕ)) (g : Option (List ℕ)) (own : List (Step S)) → (stands_after (stands r w g) (items_by own)).running ≡ member_after r own
  running-by r w g [] = refl
  running-by r w g (x ∷ own) = running-by (left_with x) (w ++ puts_of x) None own

  pub waiting-by : (r : Option (MemberModel S)) (w : List (List ℕ)) (g : Option (List ℕ)) (own : List (Step S)) → (stands_after (stands r w g) (items_by own)).waiting ≡ w ++ all_put_out own
  waiting-by r w g [] = sym (append-nil w)
  waiting-by r w g (x ∷ own) = waiting-by (left_with x) (w ++ puts_of x) None own ∙ append_assoc w (puts_of x) (all_put_out own)

  -- steps of this address, of which at most the first hands a datagram in, the one that was given
  abbrev pub MayHand : Address → Option (List ℕ) → List (Step S) → Type 0
  MayHand p given [] = ⊤
  MayHand p given (x ∷ own) = (whose x ≡ p) × IfSome (datagram_of x) (λ bytes. given ≡ Some bytes) × MayHand p None own

  pub follow-by : (meaning : Meaning S) (group : List ℕ) (p : Address) (r : Option (MemberModel S)) (w : List (List ℕ)) (g : Option (List ℕ)) (own : List (Step S))
      → RunsFrom meaning group r own → MayHand p g own → Follow meaning group p (stands r w g) (items_by own)
  follow-by meaning group p r w g [] runs may = tt
  follow-by meaning group p r w g (x ∷ own) runs may = ((may.0, runs.0, may.1), follow-by meaning group p (left_with x) (w ++ puts_of x) None own runs.1 may.2)

  -- that of a call
  pub step-hands : (p : Address) (input : Input) (g : Option (List ℕ)) (x : Step S) → IfSome (datagram_in input) (λ bytes. g ≡ Some bytes) → IsStepBy p input x → MayHand p g (x ∷ [])
  step-hands p input g (Start q m) hands by = absurd by
  step-hands p input g (Call q other result left) hands by = (by.0, subst (λ (i : Input). IfSome (datagram_in i) (λ bytes. g ≡ Some bytes)) (sym by.1) hands, tt)
  step-hands p input g (Crash q) hands by = (by, tt, tt)

  -- ---- offers alone

  abbrev pub items_offered : List Outgoing → List (Item S)
  items_offered packets = map (λ packet. OfNet (offered_as packet)) packets

  pub steps-offered : (packets : List Outgoing) → steps_in (items_offered packets) ≡ []
  steps-offered [] = refl
  steps-offered (x ∷ packets) = steps-offered packets

  pub running-offered : (r : Option (MemberModel S)) (g : Option (List ℕ)) (packets : List Outgoing) → (stands_after (stands r (map bytes_of packets) g) (items_offered packets)).running ≡ r
  running-offered r g [] = refl
  running-offered r g (x ∷ packets) = running-offered r None packets

  pub waiting-offered : (r : Option (MemberModel S)) (g : Option (List ℕ)) (packets : List Outgoing) → (stands_after (stands r (map bytes_of packets) g) (items_offered packets)).waiting ≡ []
  waiting-offered r g [] = refl
  waiting-offered r g (x ∷ packets) = waiting-offered r None packets

  pub follow-offered : (meaning : Meaning S) (group : List ℕ) (p : Address) (r : Option (MemberModel S)) (g : Option (List ℕ)) (packets : List Outgoing)
      → Follow meaning group p (stands r (map bytes_of packets) g) (items_offered packets)
  follow-offered meaning group p r g [] = tt
  follow-offered meaning group p r g (x ∷ packets) = (refl, follow-offered meaning group p r None packets)

pub events-offered : (S : Type 0) (packets : List Outgoing) → net_events (items_offered {S = S} packets) ≡ map offered_as packets
events-offered S [] = refl
events-offered S (x ∷ packets) = ap (λ (l : List NetEvent). offered_as x ∷ l) (events-offered S packets)
