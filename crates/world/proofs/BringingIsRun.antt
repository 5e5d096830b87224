-- What brings the members of a view in is a run of events, all of them or the first few; and what the code did of it.
use Rattle.std.proofs.Common.{◌≡◌, ◌<◌, ℕ, ◌+◌, Bool, true, false, Some, List, [], ◌∷◌, ◌++◌, length, take, get_or, sym, ap, ◌∙◌, subst}
use Rattle.std.specs.Prelude.{MatchBool}
use Rattle.std.proofs.lemmas.List.{take_more}
use Rattle.std.proofs.lemmas.Option.{slice_get-get_or}
use Rattle.address.specs.Ids.{Address}
use Rattle.view.specs.Members.{View}
use Rattle.state_transfer.specs.Meanings.{Meaning}
use Rattle.world.specs.Worlds.{WorldModel, IsLonger}
use Rattle.world_model.specs.declared.WorldEvent.TheVariants.{Deliver, Tick}
use Rattle.world.specs.Plays.{Plays, Fails, DeliversPast, BreaksPast}
use Rattle.world.proofs.PlaysRun.{Ran, none-yet, stepped, failed, delivered, broken, ran-longer}
use Rattle.world.specs.LostInstalls.{awaits_install, BringsIn, BringsAll, BringsInShort, BringsShort}
use Rattle.world.specs.LostInstalls.BringsAll.{Nobody, Next}
use Rattle.world.specs.LostInstalls.BringsInShort.{AtTick, AtReport, AtInstall}

module _ {S : Type 0} (meaning : Meaning S) where
  one-ran : (from : WorldModel S) (q : Address) (old new : WorldModel S) → Ran meaning from old → BringsIn meaning q old new → Ran meaning from new
  one-ran from q old new r x =
      let asked = stepped meaning from old x.asked _ r x.ticks.step in
      let answered = stepped meaning from x.asked x.answered _ asked x.report.step in
      delivered meaning from _ _ x.answered new answered x.installs

  next-ran : (from : WorldModel S) (q : Address) (b : Bool) (old new : WorldModel S) → Ran meaning from old → MatchBool b (BringsIn meaning q old new) (new ≡ old) → Ran meaning from new
  next-ran from q true old new r x = one-ran from q old new r x
  next-ran from q false old new r same = subst (Ran meaning from) (sym same) r

  all-ran : (n : ℕ) (v : View) (old : WorldModel S) (qs : List Address) (new : WorldModel S) → BringsAll meaning n v old qs new → Ran meaning old new
  all-ran n v old _ _ Nobody = none-yet meaning old
  all-ran n v old _ _ (Next qs q mid new before x) = next-ran old q (awaits_install mid.node_states n v q) mid new (all-ran n v old qs mid before) x

  one-short-ran : (from : WorldModel S) (q : Address) (old new : WorldModel S) → Ran meaning from old → BringsInShort meaning q old new → Ran meaning from new
  one-short-ran from q old _ r (AtTick new fails) = failed meaning from old new _ r fails
  one-short-ran from q old _ r (AtReport asked new ticks fails) = failed meaning from asked new _ (stepped meaning from old asked _ r ticks.step) fails
  one-short-ran from q old _ r (AtInstall asked answered new ticks report breaks) =
      broken meaning from _ _ answered new (stepped meaning from asked answered _ (stepped meaning from old asked _ r ticks.step) report.step) breaks

  -- so what was there is the beginning of what is there
  pub brings-longer : (n : ℕ) (v : View) (old : WorldModel S) (qs : List Address) (new : WorldModel S) → BringsAll meaning n v old qs new → IsLonger old.history new.history
  brings-longer n v old qs new x = ran-longer meaning old new (all-ran n v old qs new x)

  pub short-longer : (n : ℕ) (v : View) (old new : WorldModel S) → BringsShort meaning n v old new → IsLonger old.history new.history
  short-longer n v old new x = ran-longer meaning old new (one-short-ran old x.last x.mid new (all-ran n v old (take x.place v.members) x.mid x.before) x.short)

  -- ---- from what the code did

  -- one more of a list
  pub brings-more : (n : ℕ) (v : View) (old mid new : WorldModel S) (qs : List Address) (k : ℕ) (q : Address) → k < length qs → q ≡ get_or qs k q → BringsAll meaning n v old (take k qs) mid
      → MatchBool (awaits_install mid.node_states n v q) (BringsIn meaning q mid new) (new ≡ mid) → BringsAll meaning n v old (take (k + 1) qs) new
  brings-more n v old mid new qs k q inside is before x =
      subst (λ (l : List Address). BringsAll meaning n v old l new) (ap (λ (d : Address). take k qs ++ d ∷ []) is ∙ sym (take_more qs k q inside)) (Next (take k qs) q mid new before x)

  pub one-more : (n : ℕ) (v : View) (old mid new : WorldModel S) (qs : List Address) (k : ℕ) (q : Address) (b : Bool) → k < length qs → q ≡ get_or qs k q → BringsAll meaning n v old (take k qs) mid
      → b ≡ awaits_install mid.node_states n v q → MatchBool b (BringsIn meaning q mid new) (new ≡ mid) → BringsAll meaning n v old (take (k + 1) qs) new
  one-more n v old mid new qs k q b inside is before tells x =
      brings-more n v old mid new qs k q inside is before (subst (λ (d : Bool). MatchBool d (BringsIn meaning q mid new) (new ≡ mid)) tells x)

  -- the one with an error
  pub stops-at : (n : ℕ) (v : View) (old mid new : WorldModel S) (k : ℕ) (q : Address) → k < length v.members → q ≡ get_or v.members k q → BringsAll meaning n v old (take k v.members) mid
      → awaits_install mid.node_states n v q ≡ true → BringsInShort meaning q mid new → BringsShort meaning n v old new
  stops-at n v old mid new k q inside is before awaits short =
      record { place = k; last = q; stands = slice_get-get_or v.members k q inside ∙ ap Some (sym is); mid = mid; before = before; awaits = awaits; short = short }

-- the steps of one, as the code counts packets
module _ {S : Type 0} (meaning : Meaning S) (q : Address) (old asked : WorldModel S) (ticks : Plays meaning old (Tick q.node) asked) (number : ℕ) where
  pub at-report : (new : WorldModel S) → number ≡ length asked.history.pool → Fails meaning asked (Deliver number) new → BringsInShort meaning q old new
  at-report new is x = AtReport asked new ticks (subst (λ (k : ℕ). Fails meaning asked (Deliver k) new) is x)

  module _ (answered : WorldModel S) (is : number ≡ length asked.history.pool) (report : Plays meaning asked (Deliver number) answered) where
    reports : Plays meaning asked (Deliver (length asked.history.pool)) answered
    reports = subst (λ (k : ℕ). Plays meaning asked (Deliver k) answered) is report

    pub at-install : (new : WorldModel S) → BreaksPast meaning number answered new → BringsInShort meaning q old new
    at-install new x = AtInstall asked answered new ticks reports (subst (λ (k : ℕ). BreaksPast meaning k answered new) is x)

    pub all-of-it : (new : WorldModel S) → DeliversPast meaning number answered new → BringsIn meaning q old new
    all-of-it new x = record { asked = asked; answered = answered; ticks = ticks; report = reports; installs = subst (λ (k : ℕ). DeliversPast meaning k answered new) is x }
