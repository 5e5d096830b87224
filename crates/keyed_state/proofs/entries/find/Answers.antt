use Rattle.std.proofs.Common.{◌≡◌, ◌+◌, ◌-◌, ◌/◌, ◌<◌, ℕ, length, take, refl, sym, ap, subst, ◌∙◌, inl, inr, add-one, arith}
use Rattle.std.specs.Ordering.{ordering_reverse}
use Rattle.std.specs.Cmp.Lexicographic.{nat_list_cmp_total}
use Rattle.std.proofs.lemmas.Option.{slice_get_read}
use Rattle.std.specs.declared.cmp.Ordering.TheVariants.{Equal, Greater}
use Rattle.keyed_state.specs.Entries.{key_cmp}
use Rattle.keyed_state.specs.EntryLaws.{flipped}
use Rattle.keyed_state.proofs.KeysHavePlaces.{AllBelow, StopsAt, same-order, below-before, below-more, held-at, free-at}
use Rattle.keyed_state.proofs.entries.find.Goals as goal

pub returns-in-Equal : goal.returns-in-Equal
returns-in-Equal g c =
    let k = c.args.key.now in
    let es = c.args.entries.now in
    let m = c.loop-low.low + (c.loop-low.high - c.loop-low.low) / 2 in
    let e = c.index-entries-middle.result in
    let within : m < length es = omega arith in
    let s = slice_get_read es (length es) m e refl within c.index-entries-middle.is in
    let same : key_cmp k e.key ≡ Equal = same-order k e _ Equal c.index-entries-middle.is (ap (key_cmp k) (sym c.as_slice.ensures) ∙ sym c.key_order.ensures ∙ c.in-Equal.is) in
    let back : key_cmp e.key k ≡ Equal = nat_list_cmp_total.antisymm e.key k ∙ ap ordering_reverse same in
    held-at k es m e s (below-before k es m e c.requires s (inr back)) same

pub loop-low-preserved : goal.loop-low-preserved
loop-low-preserved g c =
    let k = c.args.key.now in
    let es = c.args.entries.now in
    let m = c.loop-low.low + (c.loop-low.high - c.loop-low.low) / 2 in
    let e = c.index-entries-middle.result in
    let within : m < length es = omega arith in
    let s = slice_get_read es (length es) m e refl within c.index-entries-middle.is in
    let above : key_cmp k e.key ≡ Greater = same-order k e _ Greater c.index-entries-middle.is (ap (key_cmp k) (sym c.as_slice.ensures) ∙ sym c.key_order.ensures ∙ c.in-Greater.is) in
    record {
      within = c.loop-low.invariant.within;
      order = omega arith;
      below = subst (λ (n : ℕ). AllBelow k (take n es)) (sym (add-one m)) (below-more k es m e s (below-before k es m e c.requires s (inl (flipped k e.key above))) above);
      stops = c.loop-low.invariant.stops;
    }

pub returns : goal.returns
returns g c =
    let k = c.args.key.now in
    let es = c.args.entries.now in
    let same : c.loop-low.high ≡ c.loop-low.low = omega arith in
    free-at k es c.loop-low.low (omega arith) c.loop-low.invariant.below (subst (λ (n : ℕ). StopsAt k es n) same c.loop-low.invariant.stops)
