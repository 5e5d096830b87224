-- What is written of several processes.
use Rattle.std.proofs.Common.{◌≡◌, ◌∙◌, ℕ, ◌+◌, ◌<◌, List, [], ◌∷◌, ◌++◌, length, take, Option, Some, Ok, slice_index_or, sym, ap, subst, refl, add-one}
use Rattle.std.specs.Global.{Vec}
use Rattle.std.proofs.Math.Seq.{take-suc}
use Rattle.std.proofs.lemmas.List.{get_or-map, length-map, map-append}
use Rattle.std.proofs.lemmas.Option.{slice_get-get_or}
use Rattle.state_transfer.specs.Meanings.{Meaning}
use Rattle.trace_props.specs.declared.event.Event.{Event}
use Rattle.trace_props.specs.declared.verdict.Verdict.{Verdict}
use Rattle.trace_props.specs.Verdicts.{IsVerdict}
use Rattle.trace_props.specs.Recorded.{Recorded}
use Rattle.trace_merge.specs.Merges.{IsOrderedMerge, lists_of, events_in}
use Rattle.commands.specs.MemberTexts.{member_trace_of}
use Rattle.trace_merge.specs.Outcomes.{AreUnordered}
use Rattle.vsync_text.specs.declared.fault.Fault.{Fault}
use Rattle.vsync_text.specs.declared.fault.Unread.{Unread}
use Rattle.vsync_text.specs.declared.fault.Unread.TheVariants as one
use Rattle.vsync_text.specs.Texts.{IsUnread}
use Rattle.vsync_text.specs.Script.{fault_number}
use Rattle.vsync_text.specs.declared.status.Status.{Status}
use Rattle.vsync_text.specs.declared.status.Status.TheVariants.{Memory}
use Rattle.vsync_text.specs.Outcomes.{Ends, Written, memory_line}
use Rattle.commands.specs.Processes.{bytes_in, texts_of, IsTraceOf, IsPlacedText, IsUnorderedText, IsFaultyText, IsJoinedText, HasFault, AreTracesOf, IsUnreadIn, unread_at, IsProcessesText}
use Rattle.commands.specs.Processes.IsJoinedText.{Judged, Unordered, Unjudged}
use Rattle.commands.specs.Processes.IsProcessesText.{Reads, Faulty, Lacking}

module _ {S : Type 0} (meaning : Meaning S) (old new : Option (List ℕ)) (status : Status) where
  pub judged : (processes : List (List Event)) (t : List Event) (v : Verdict) → IsOrderedMerge processes t → IsVerdict meaning t v → Written (IsPlacedText t v) old new status
      → Written (IsJoinedText meaning processes) old new status
  judged processes t v merge verdict w = record { meant = w.meant; text = w.text; says = Judged t v w.meant w.text merge verdict w.says; ends = w.ends }

  pub unordered : (processes : List (List Event)) (process event : ℕ) → AreUnordered processes process event → Written (IsUnorderedText process event) old new status
      → Written (IsJoinedText meaning processes) old new status
  unordered processes process event why w = record { meant = w.meant; text = w.text; says = Unordered process event w.meant w.text why w.says; ends = w.ends }

  pub unjudged : (processes : List (List Event)) → Ends old new memory_line Memory status → Written (IsJoinedText meaning processes) old new status
  unjudged processes e = record { meant = Memory; text = memory_line; says = Unjudged; ends = e }

  pub reads : (texts : List (List ℕ)) (processes : List (List Event)) → AreTracesOf texts processes → Written (IsJoinedText meaning processes) old new status
      → Written (IsProcessesText meaning texts) old new status
  reads texts processes are w = record { meant = w.meant; text = w.text; says = Reads processes w.meant w.text are w.says; ends = w.ends }

  pub faulty : (texts : List (List ℕ)) (number line : ℕ) (fault : Fault) → HasFault texts number line fault → Written (IsFaultyText number line (fault_number fault)) old new status
      → Written (IsProcessesText meaning texts) old new status
  faulty texts number line fault has w = record { meant = w.meant; text = w.text; says = Faulty number line fault w.meant w.text has w.says; ends = w.ends }

  pub unread : (texts : List (List ℕ)) → Ends old new memory_line Memory status → Written (IsProcessesText meaning texts) old new status
  unread texts e = record { meant = Memory; text = memory_line; says = Lacking; ends = e }

-- ---- the texts so far

are-push : (texts : List (List ℕ)) (traces : List (List Event)) (bytes : List ℕ) (t : List Event) → AreTracesOf texts traces → IsTraceOf bytes t → AreTracesOf (texts ++ bytes ∷ []) (traces ++ t ∷ [])
are-push [] [] bytes t are is = (is, tt)
are-push [] (u ∷ traces) bytes t are is = absurd are
are-push (b ∷ texts) [] bytes t are is = absurd are
are-push (b ∷ texts) (u ∷ traces) bytes t are is = (are.0, are-push texts traces bytes t are.1 is)

module _ (texts : List (Vec ℕ)) (k : ℕ) (v : Vec ℕ) (within : k < length texts) (at : v ≡ slice_index_or texts k v) where
  inside : k < length (texts_of texts)
  inside = subst (λ (n : ℕ). k < n) (sym (length-map texts bytes_in)) within

  bytes-at : slice_index_or (texts_of texts) k [] ≡ v.items
  bytes-at = get_or-map bytes_in texts k v [] within ∙ ap bytes_in (sym at)

  pub one-more-read : (traces : List Recorded) (t : Recorded) → AreTracesOf (take k (texts_of texts)) (lists_of traces) → member_trace_of v.items ≡ Ok t.events
      → AreTracesOf (take (k + 1) (texts_of texts)) (lists_of (traces ++ t ∷ []))
  one-more-read traces t so is =
      subst (λ (l : List (List Event)). AreTracesOf (take (k + 1) (texts_of texts)) l) (sym (map-append events_in traces (t ∷ [])))
      (subst (λ (l : List (List ℕ)). AreTracesOf l (lists_of traces ++ t.events ∷ [])) (sym (ap (λ (n : ℕ). take n (texts_of texts)) (add-one k) ∙ take-suc (texts_of texts) k [] inside ∙ ap (λ (b : List ℕ). take k (texts_of texts) ++ b ∷ []) bytes-at))
      (are-push (take k (texts_of texts)) (lists_of traces) v.items t.events so is))

  pub is-unread : (traces : List Recorded) (why : Unread) → AreTracesOf (take k (texts_of texts)) (lists_of traces) → IsUnread (member_trace_of v.items) why
      → IsUnreadIn (texts_of texts) (unread_at (k + 1) why)
  is-unread traces (one.Fault line fault) so is = record {
    before = lists_of traces;
    k = k;
    bytes = v.items;
    number_is = refl;
    reads = so;
    there = slice_get-get_or (texts_of texts) k [] inside ∙ ap Some bytes-at;
    faulty = is;
  }
  is-unread traces one.Memory so is = tt
