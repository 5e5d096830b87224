-- How the text of a command over datagrams ends.
use Rattle.std.proofs.Common.{◌≡◌, ℕ, List, [], ◌++◌, length, take, Option, Result, Ok, Err, refl, sym, ap, ◌∙◌, subst, arith}
use Rattle.std.proofs.lemmas.List.{append-nil, take_all}
use Rattle.std.specs.Io.KnownBytes.{Appends}
use Rattle.udp_net.specs.declared.error.BindError.{BindError}
use Rattle.udp_net.specs.declared.error.BindError.TheVariants as bind
use Rattle.udp_net.specs.Errors.{bind_number}
use Rattle.vsync_text.specs.declared.status.Status.{Status}
use Rattle.vsync_text.specs.declared.status.Status.TheVariants.{Done, Refused, Memory, Outside}
use Rattle.vsync_text.specs.Outcomes.{Ends, Written, memory_line, fault_line}
use Rattle.vsync_text.specs.Outcomes.Ends.{Whole, Cut}
use Rattle.vsync_text.proofs.TextsFollow.{ends-then}
use Rattle.udp_runs.specs.declared.ends.Cut.{Cut as Why}
use Rattle.udp_runs.specs.declared.ends.Cut.TheVariants as cut
use Rattle.udp_runs.specs.Ends.{TakesMore, IsEndText, IsEndOf, IsNetlessText}
use Rattle.udp_runs.specs.Ends.IsEndText.{Finished, Unfinished}
use Rattle.udp_runs.specs.Ends.IsEndOf.{Over, Lacking, Failing}
use Rattle.udp_runs.specs.Ends.IsNetlessText.{Unlisted, Unbound, Unprinted}
use Rattle.udp_runs.proofs.LinesAndEvents.{take-some}
use Rattle.vsync_text.proofs.LinesWritten.{appends_nothing, appends_then}

-- a writer took some, and then more
pub takes-then : (a b c : Option (List ℕ)) → TakesMore a b → TakesMore b c → TakesMore a c
takes-then a b c f g = record { text = f.text ++ g.text; appends = appends_then a b c f.text g.text f.appends g.appends }

-- it took nothing
pub takes-none : (a : Option (List ℕ)) → TakesMore a a
takes-none a = record { text = []; appends = appends_nothing a }

-- a writer took nothing more
took-none : (a b c : Option (List ℕ)) (text : List ℕ) → Appends a b text → Appends b c [] → Appends a c text
took-none a b c text f g = subst (λ (l : List ℕ). Appends a c l) (append-nil text) (appends_then a b c text [] f g)

-- it took a text, and nothing more is said
pub ended-so : (P : Status → List ℕ → Type 0) (text : List ℕ) (a b c : Option (List ℕ)) (status : Status) → P Done text → Appends a b text
    → Written (IsEndOf (Ok tt)) b c status → Written P a c status
ended-so P text a b c status says f w = by w.meant w.text (Ok tt) refl w.says w.ends
  where
    ends-whole : Status → Appends a c text → Written P a c Done
    ends-whole s took = record { meant = Done; text = text; says = says; ends = Whole took }

    ends-cut : Appends a c text → Written P a c Outside
    ends-cut took = record { meant = Done; text = text; says = says; ends = Cut (length text) (subst (λ (l : List ℕ). Appends a c l) (sym (take_all (length text) text (omega arith))) took) }

    over : (s : Status) → Ends b c [] Done s → Written P a c s
    over _ (Whole g) = ends-whole Done (took-none a b c text f g)
    over _ (Cut count g) = ends-cut (took-none a b c text f (subst (λ (l : List ℕ). Appends b c l) (take_all count [] (omega arith)) g))

    by : (meant : Status) (end : List ℕ) (written : Result Unit Why) → written ≡ Ok tt → IsEndOf written meant end → Ends b c end meant status → Written P a c status
    by _ _ _ is Over e = over status e
    by _ _ _ is Lacking e = absurd (let bad : Err cut.Memory ≡ Ok tt = is in cc)
    by _ _ _ is Failing e = absurd (let bad : Err cut.Failed ≡ Ok tt = is in cc)

-- memory was refused: the text so far, and a line that says it
pub lacking-so : (P : Status → List ℕ → Type 0) (text : List ℕ) (a b c : Option (List ℕ)) (status : Status) → P Memory (text ++ memory_line) → Appends a b text
    → Written (IsEndOf (Err cut.Memory)) b c status → Written P a c status
lacking-so P text a b c status says f w = by w.meant w.text (Err cut.Memory) refl w.says w.ends
  where
    by : (meant : Status) (end : List ℕ) (written : Result Unit Why) → written ≡ Err cut.Memory → IsEndOf written meant end → Ends b c end meant status → Written P a c status
    by _ _ _ is Over e = absurd (let bad : Ok tt ≡ Err cut.Memory = is in cc)
    by _ _ _ is Lacking e = record { meant = Memory; text = text ++ memory_line; says = says; ends = ends-then a b c text memory_line Memory status f e }
    by _ _ _ is Failing e = absurd (let bad : Err cut.Failed ≡ Err cut.Memory = is in cc)

-- the writer failed: a beginning of the text
pub failing-so : (P : Status → List ℕ → Type 0) (text : List ℕ) (count : ℕ) (a b c : Option (List ℕ)) (status : Status) → P Memory (text ++ memory_line) → Appends a b (take count text)
    → Written (IsEndOf (Err cut.Failed)) b c status → Written P a c status
failing-so P text count a b c status says f w = by w.meant w.text (Err cut.Failed) refl w.says w.ends
  where
    some : (n : ℕ) (l more : List ℕ) → (m : ℕ) × (take m (l ++ more) ≡ take n l)
    some n l more = take-some n l more

    cut-there : Appends a c (take count text) → Written P a c Outside
    cut-there took =
        let r = some count text memory_line in
        record { meant = Memory; text = text ++ memory_line; says = says; ends = Cut r.0 (subst (λ (l : List ℕ). Appends a c l) (sym r.1) took) }

    failed : (s : Status) → Ends b c [] Outside s → Written P a c s
    failed _ (Whole g) = cut-there (took-none a b c (take count text) f g)
    failed _ (Cut n g) = cut-there (took-none a b c (take count text) f (subst (λ (l : List ℕ). Appends b c l) (take_all n [] (omega arith)) g))

    by : (meant : Status) (end : List ℕ) (written : Result Unit Why) → written ≡ Err cut.Failed → IsEndOf written meant end → Ends b c end meant status → Written P a c status
    by _ _ _ is Over e = absurd (let bad : Ok tt ≡ Err cut.Failed = is in cc)
    by _ _ _ is Lacking e = absurd (let bad : Err cut.Memory ≡ Err cut.Failed = is in cc)
    by _ _ _ is Failing e = failed status e

-- a writer that took a text and then failed took a beginning of any text that goes on from it
pub cut-late : (P : Status → List ℕ → Type 0) (a b c : Option (List ℕ)) (text : List ℕ) → P Done (text ++ []) → Appends a b text → Appends b c [] → Written P a c Outside
cut-late P a b c text says f g = record {
  meant = Done;
  text = text ++ [];
  says = says;
  ends = Cut (length (text ++ [])) (subst (λ l. Appends a c l) (sym (take_all (length (text ++ [])) (text ++ []) (omega arith))) (appends_then a b c text [] f g));
}

ends-so : (P : Status → List ℕ → Type 0) (text : List ℕ) (a b c : Option (List ℕ)) (written : Result Unit Why) (meant status : Status) (end : List ℕ)
    → ((s : Status) (t : List ℕ) → IsEndText s t → P s (text ++ t)) → Appends a b text → IsEndOf written meant end → Ends b c end meant status → Written P a c status
ends-so P text a b c written meant status end says f Over e =
    record { meant = Done; text = text ++ []; says = says Done [] Finished; ends = ends-then a b c text [] Done status f e }
ends-so P text a b c written meant status end says f Lacking e =
    record { meant = Memory; text = text ++ memory_line; says = says Memory memory_line Unfinished; ends = ends-then a b c text memory_line Memory status f e }
ends-so P text a b c written meant status end says f Failing (Whole g) = cut-late P a b c text (says Done [] Finished) f g
ends-so P text a b c written meant status end says f Failing (Cut count g) =
    cut-late P a b c text (says Done [] Finished) f (subst (λ l. Appends b c l) (take_all count [] (omega arith)) g)

-- a writer took a text, which then ends by why it was written no further
pub ended : (P : Status → List ℕ → Type 0) (text : List ℕ) (a b c : Option (List ℕ)) (written : Result Unit Why) (status : Status)
    → ((s : Status) (t : List ℕ) → IsEndText s t → P s (text ++ t)) → Appends a b text → Written (IsEndOf written) b c status → Written P a c status
ended P text a b c written status says f w = ends-so P text a b c written w.meant status w.text says f w.says w.ends

-- memory was refused
pub end-lacking : (a b : Option (List ℕ)) (why : Why) (status : Status) → why ≡ cut.Memory → Ends a b memory_line Memory status → Written (IsEndOf (Err why)) a b status
end-lacking a b why status is e = record { meant = Memory; text = memory_line; says = rw is Lacking; ends = e }

-- the writer failed
pub end-failing : (a : Option (List ℕ)) (why : Why) → why ≡ cut.Failed → Written (IsEndOf (Err why)) a a Outside
end-failing a why is = record { meant = Outside; text = []; says = rw is Failing; ends = Whole (appends_nothing a) }

-- a node has no net, for it is not listed
pub unlisted-text : (a b : Option (List ℕ)) (line number : ℕ) (error : BindError) (meant status : Status) (text : List ℕ) → error ≡ bind.Config → meant ≡ Refused
    → number ≡ bind_number error → text ≡ fault_line line number → Ends a b text meant status → Written (IsNetlessText line error) a b status
unlisted-text a b line number error meant status text is refused same printed e =
    let all : text ≡ fault_line line 50 = printed ∙ ap (fault_line line) (same ∙ ap bind_number is) in
    record { meant = meant; text = text; says = rw (is, refused, all) Unlisted; ends = e }

-- for its socket could not be bound
pub unbound-text : (a b : Option (List ℕ)) (line number : ℕ) (error : BindError) (meant status : Status) (text : List ℕ) → error ≡ bind.Bind → meant ≡ Outside
    → number ≡ bind_number error → text ≡ fault_line line number → Ends a b text meant status → Written (IsNetlessText line error) a b status
unbound-text a b line number error meant status text is outside same printed e =
    let all : text ≡ fault_line line 51 = printed ∙ ap (fault_line line) (same ∙ ap bind_number is) in
    record { meant = meant; text = text; says = rw (is, outside, all) Unbound; ends = e }

-- memory was refused for that
pub unprinted-text : (a b : Option (List ℕ)) (line : ℕ) (error : BindError) (status : Status) → Ends a b memory_line Memory status → Written (IsNetlessText line error) a b status
unprinted-text a b line error status e = record { meant = Memory; text = memory_line; says = Unprinted error; ends = e }
