-- The rules of a change of view are acts that are allowed.
use Rattle.std.proofs.Common.{◌≡◌, ℕ, suc, Bool, true, false, not, ◌&&◌, Option, Some, None, List, [], ◌∷◌, ◌++◌, length, map, refl, sym, ap, ap₂, ◌∙◌, subst, arith, is_some, unwrap_or, ◌≤◌, nat_eq, nat_le}
use Rattle.std.specs.Prelude.{IsSome, MatchOption, MatchBool, if◌then◌else◌}
use Rattle.std.specs.List.{list_all, flat_map}
use Rattle.std.specs.Option.{option_map_or, option_eq, ForSome}
use Rattle.std.proofs.lemmas.Bool.{and_parts, cond-true, leb-true}
use Rattle.std.proofs.lemmas.Bool.Decides.{nat_tests}
use Rattle.std.proofs.lemmas.Option.{none-some, same_Some}
use Rattle.address.specs.Ids.{Address, ViewId, view_id_cmp, same_address, same_view_id}
use Rattle.view.specs.Members.{View, stands_in}
use Rattle.wire_values.specs.Values.{Entry, Report, nothing_reported}
use Rattle.wire_values.specs.Values as wire
use Rattle.wire_values.specs.declared.packet.Body.TheVariants as bodies
use Rattle.state_transfer.specs.Meanings.{Meaning}
use Rattle.flush.specs.Flushes.{FlushModel, report_from, has_reported, is_awaited}
use Rattle.flush.specs.declared.progress.Progress.TheVariants.{Waiting, Complete}
use Rattle.flush.proofs.CutItems.{cut-is}
use Rattle.view_install.specs.Promises.{answer_past, may_install}
use Rattle.view_install.proofs.ViewsRise.{only-the-promised}
use Rattle.view_install.specs.declared.promise.OfferAnswer.TheVariants.{Accept}
use Rattle.address.proofs.SameIds.{same_address-true}
use Rattle.law_acts.specs.Acts.{Promises, Begins, Records, Gathers, Finishes, Enters, IsForNewcomer, others_of, proposed, gone_into, after, packets_of, events_of, instruction_for, instructions, instructing_one, chunk_packets, state_after_cut, all_come_from}
use Rattle.law_acts.specs.Given.{IsGiven, Tells, kept_bytes}
use Rattle.wire_values.specs.declared.values.state.GivenState.{GivenState}
use Rattle.wire_values.specs.declared.values.state.GivenState.TheVariants as forms
use Rattle.wire_values.specs.Posted.{Posted, packet}
use Rattle.address.specs.declared.limits.TheConstants.{WHOLE_STATE}
use Rattle.law_acts.specs.Chains.{Acted}
use Rattle.law_acts.proofs.LawsOfActs.{one-acted}
use Rattle.law_acts.specs.Decisions.{promise_of, cuts_of, form_of, kept_of, given_by, gives_some, is_readable, is_fitting}
use Rattle.law_acts.specs.Laws.{PromisesActed, BeginsActed, ProposesActed, DueActed, RecordsActed, GathersActed, FinishesActed, EntersActed}
use Rattle.law_acts.proofs.OffersAccepted.{accepted-parts, offer-means}
use Rattle.law_acts.proofs.ProposalsAreViews.{next-means, proposal-is-view, due-means}
use Rattle.view.proofs.MembersListed.{all-by}

-- ---- reports

none-of : (o : Option Report) → not (is_some o) ≡ true → o ≡ None
none-of None e = refl
none-of (Some r) e = absurd (let n : false ≡ true = e in cc)

complete-means : (b : Bool) → (if b then Complete else Waiting) ≡ Complete → b ≡ true
complete-means true e = refl
complete-means false e = absurd (let n : Waiting ≡ Complete = e in cc)

-- where all of a list have reported, so has each
all-reported : (f : FlushModel) (q : Address) → list_all (λ m. has_reported m f.reports) f.members ≡ true → stands_in q f.members ≡ true → is_some (report_from q f.reports) ≡ true
all-reported f q all stands = all-by (λ m. has_reported m f.reports) f.members q all stands

-- ---- instructions

zero-is : (n : ℕ) → nat_eq n 0 ≡ true → n ≡ 0
zero-is n e = grind (arith, nat_tests)

none-left : (l : List Entry) → nat_eq (length l) 0 ≡ true → l ≡ []
none-left [] e = refl
none-left (x ∷ l) e = absurd (let n : suc (length l) ≡ 0 = zero-is (suc (length l)) e in omega (arith, n))

-- who holds what is given is given a state
some-given : (chunks : List (ViewId × wire.Chunk)) (w : ViewId) (g : GivenState) (given : Option (List ℕ)) → gives_some g ≡ true → IsGiven chunks w g given → is_some given ≡ true
some-given chunks w forms.Nothing given e is = absurd (let n : false ≡ true = e in cc)
some-given chunks w (forms.Whole bytes) given e is = ap is_some is
some-given chunks w (forms.Chunked total) None e is = absurd is
some-given chunks w (forms.Chunked total) (Some bytes) e is = refl

fits-by : (view : Option View) (delivered : ℕ) (i : wire.Install) (given : Option (List ℕ)) (chunks : List (ViewId × wire.Chunk)) → is_fitting view delivered i ≡ true → IsGiven chunks i.view.id i.state given
    → MatchOption view (IsForNewcomer i given) (λ v. i.base ≤ delivered)
fits-by None delivered i given chunks e is =
    let parts = and_parts (nat_eq i.base 0 && nat_eq (length i.items) 0) (gives_some i.state) e in
    let counts = and_parts (nat_eq i.base 0) (nat_eq (length i.items) 0) parts.0 in
    record { base = zero-is i.base counts.0; items = none-left i.items counts.1; state = some-given chunks i.view.id i.state given parts.1 is }
fits-by (Some v) delivered i given chunks e is = leb-true i.base delivered e

-- the form of a state tells it
form-tells : (b : Bool) (bytes : List ℕ) → Tells (if b then forms.Whole bytes else forms.Chunked (length bytes)) (Some bytes)
form-tells true bytes = refl
form-tells false bytes = refl

-- what is given tells the state, where not all come from one view
told-by : (b : Bool) (bytes : List ℕ) → MatchBool b (Unit {0}) (Tells (form_of (if b then None else Some bytes)) (Some bytes))
told-by true bytes = tt
told-by false bytes = form-tells (nat_le (length bytes) WHOLE_STATE) bytes

-- nothing that is given is put out in no chunk, whatever the state is
none-put : (p q : Address) (w : ViewId) (state other : List ℕ) (b : Bool) → chunk_packets p q w state (if b then forms.Nothing else forms.Nothing) ≡ chunk_packets p q w other (if b then forms.Nothing else forms.Nothing)
none-put p q w state other true = refl
none-put p q w state other false = refl

-- so it is the same whether the state is taken to be what is given or what it would be
same-instructing : (p : Address) (v : ViewId) (f : FlushModel) (bytes : List ℕ) (b : Bool) (qs : List Address) →
    let given : Option (List ℕ) = if b then None else Some bytes in
    let to_others = map {B = Address × wire.Install} (λ q. (q, instruction_for f (cuts_of f) v (form_of given) q)) qs in
    flat_map (instructing_one p f.proposal bytes) to_others ≡ flat_map (instructing_one p f.proposal (unwrap_or given [])) to_others
same-instructing p v f bytes false qs = refl
same-instructing p v f bytes true [] = refl
same-instructing p v f bytes true (q ∷ qs) =
    let i = instruction_for f (cuts_of f) v forms.Nothing q in
    ap₂ (λ (a b : List Posted). (a ++ packet p (bodies.Install i) q ∷ []) ++ b)
    (none-put p q f.proposal bytes [] (option_eq same_view_id (unwrap_or (report_from q f.reports) nothing_reported).previous (Some v)))
    (same-instructing p v f bytes true qs)

same-kept : (bytes : List ℕ) (b : Bool) → let given : Option (List ℕ) = if b then None else Some bytes in kept_bytes (form_of given) bytes ≡ kept_of given
same-kept bytes true = refl
same-kept bytes false = refl

readable-by : {S : Type 0} (meaning : Meaning S) (given : Option (List ℕ)) → is_readable meaning given ≡ true → ForSome given (λ bytes. IsSome (meaning.decode bytes))
readable-by meaning None e bytes none = absurd (none-some bytes none)
readable-by meaning (Some given) e bytes same = subst (λ (l : List ℕ). IsSome (meaning.decode l)) (same_Some given bytes same) e

module _ {S : Type 0} (meaning : Meaning S) where
  pub promises-acted : PromisesActed meaning
  promises-acted came c w asked on accepted =
      let parts = accepted-parts (stands_in c.me w.members) (option_map_or (λ v. answer_past (view_id_cmp w.id v.id) v c.installed) c.promise Accept) accepted in
      one-acted meaning came c (Promises w) (record { asked = asked; listed = parts.0; connected = on; above = offer-means c.promise c.installed w parts.1 })

  pub begins-acted : BeginsActed meaning
  begins-acted came c b list w inside next sound =
      let x = next-means c b list w next in
      one-acted meaning came c (Begins w) (record { inside = inside; own = x.own; above = x.above; view = sound })

  pub proposes-acted : ProposesActed meaning
  proposes-acted came c b v w inside it_leads free next =
      let sound = proposal-is-view c b v w it_leads free next in
      let x = next-means c b _ w next in
      (sound, one-acted meaning came c (Begins w) (record { inside = ap is_some inside; own = x.own; above = x.above; view = sound }))

  pub due-acted : DueActed meaning
  due-acted came c b w due free = let x = due-means c b w due in proposes-acted came c b x.before w x.inside x.it_leads free x.next

  pub records-acted : RecordsActed meaning
  records-acted came c f q r received flush awaited =
      let parts = and_parts (stands_in q f.members) (not (has_reported q f.reports)) awaited in
      subst (λ (g : FlushModel). Acted meaning came (Some c) [] [] (Some (record c { flush = Some g }))) (sym (cond-true (is_awaited q f) (record f { reports = f.reports ++ (q, r) ∷ [] }) f awaited))
      (one-acted meaning came c (Records f q r) (record { flush = flush; received = received; listed = parts.0; new = none-of (report_from q f.reports) parts.1 }))

  pub finishes-acted : FinishesActed meaning
  finishes-acted came c v f inside flush is complete =
      let z = state_after_cut meaning c v (cuts_of f) in
      let given = given_by meaning c v f in
      let act = Finishes v f (cuts_of f) (form_of given) in
      subst (λ (posted : List Posted). Acted meaning came (Some c) posted (events_of c act) (Some (gone_into (proposed f) z (instructions c v f (cuts_of f) (form_of given)) (kept_of given) c)))
      (same-instructing c.me v.id f (meaning.encode z) (all_come_from v.id f.reports) (others_of c.me f.members))
      (subst (λ (kept : Option (List ℕ)). Acted meaning came (Some c) (packets_of meaning c act) (events_of c act) (Some (gone_into (proposed f) z (instructions c v f (cuts_of f) (form_of given)) kept c)))
      (same-kept (meaning.encode z) (all_come_from v.id f.reports))
      (one-acted meaning came c act (record {
        view = inside;
        flush = flush;
        all = λ q stands. all-reported f q (complete-means (list_all (λ m. has_reported m f.reports) f.members) complete) stands;
        cut = λ q r u there from. cut-is f is (Some u);
        gives = told-by (all_come_from v.id f.reports) (meaning.encode z);
      })))

  pub gathers-acted : GathersActed meaning
  gathers-acted came c w chunk chunks sent promised fewer = one-acted meaning came c (Gathers w chunk chunks) (record { sent = sent; promised = promised; fewer = fewer })

  pub enters-acted : EntersActed meaning
  enters-acted came c q i given asked enters gives reads =
      let parts = and_parts (same_address q i.view.id.creator && may_install i.view (promise_of c)) (is_fitting c.view c.view_state.delivered i) enters in
      let tests = and_parts (same_address q i.view.id.creator) (may_install i.view (promise_of c)) parts.0 in
      let promised = only-the-promised i.view (promise_of c) tests.1 in
      one-acted meaning came c (Enters i given) (record {
        asked = asked ∙ ap (λ p. Some (packet p (bodies.Install i) c.me)) (same_address-true q i.view.id.creator tests.0);
        promised = promised.0;
        waiting = promised.1;
        fits = fits-by c.view c.view_state.delivered i given c.chunks parts.1 gives;
        gives = gives;
        readable = readable-by meaning given reads;
      })
