use Rattle.std.proofs.Common.{◌≡◌, ◌≤◌, ◌∙◌, ap, arith, length, refl, subst, sym, ℕ, List}
use Rattle.frames.specs.declared.several.Variant.{Variant}
use Rattle.frames.specs.Arrivals.{StandsIn}
use Rattle.frames.specs.Carried.{Carries}
use Rattle.frames.specs.Frames.{packed}
use Rattle.frames.specs.Gathered.{AreVariantsOf}
use Rattle.frames.specs.Outlets.{OutletModel}
use Rattle.frames.specs.Parts.{rows_of}
use Rattle.frames.specs.Sendings.{AreLongs, AreOf, IsFrameOf}
use Rattle.frames.proofs.GatheredSends.{all-gathered, first-count, first-rows, first-variants, several-carries, ways-gathered}
use Rattle.frames.proofs.Logs.{grows-listing, grows-none, grows-on, stays}
use Rattle.frames.proofs.SendsCarried.{adds-none, adds-on, adds-one, longs-on, next-on, same-ways}
use Rattle.frames.proofs.framed_net.flush_first.Goals as goal

pub returns-in_default-clause-sends : goal.returns-in_default-clause-sends
returns-in_default-clause-sends g c = λ long sent of known.
    let f = c.flush in
    let s = f.ensures.sends long sent of.0 in
    (s.0, (s.1, of.1), (longs-on long c.args.first.now f.new.self f.ensures.node f.ensures.longs known.0, known.1))

pub returns-in_default-clause-ways : goal.returns-in_default-clause-ways
returns-in_default-clause-ways g c =
    (c.flush.ensures.node, next-on c.args.first.now c.flush.new.self c.flush.ensures.longs, same-ways c.args.rest.now)

pub returns-then-is_empty-clause-sends : goal.returns-then-is_empty-clause-sends
returns-then-is_empty-clause-sends g c = λ long sent of known.
    let f = c.flush-then-is_empty in
    let s = f.ensures.sends long sent of.0 in (
      s.0,
      (s.1, all-gathered _ _ (λ (o : OutletModel). AreOf sent o.waiting) (λ o of. tt) _ c.args.rest.now _ c.gather.new.outlets c.gather.ensures of.1),
      (
        longs-on long c.args.first.now f.new.self f.ensures.node f.ensures.longs known.0,
        all-gathered _ _ (AreLongs long) (λ o known. known) _ c.args.rest.now _ c.gather.new.outlets c.gather.ensures known.1,
      ),
    )

pub returns-then-is_empty-clause-ways : goal.returns-then-is_empty-clause-ways
returns-then-is_empty-clause-ways g c =
    let f = c.flush-then-is_empty in
    (f.ensures.node, next-on c.args.first.now f.new.self f.ensures.longs, ways-gathered _ _ _ c.args.rest.now _ c.gather.new.outlets c.gather.ensures)

-- so many that one byte counts them
few : (variants taken : List Variant) (rest : ℕ) → variants ≡ taken → length taken ≤ rest → rest ≤ 255 → length variants ≤ 255
few variants taken rest is count most = omega (arith, ap length is, count, most)

pub several_frame-frame-requires-clause-count : goal.several_frame-frame-requires-clause-count
several_frame-frame-requires-clause-count g c =
    few c.as_slice-variants.result.now c.gather.new.variants.items (length c.args.rest.now) c.as_slice-variants.ensures.value
    (first-count c.in-Some.place c.content-content.result.now c.new-variants.result.items c.args.rest.now c.gather.new.variants.items c.gather.new.outlets c.new-variants.ensures.items
    c.gather.ensures)
    c.in-Some.ensures.count

pub several_frame-frame-requires-clause-room : goal.several_frame-frame-requires-clause-room
several_frame-frame-requires-clause-room g c =
    omega (
      arith,
      first-rows c.in-Some.place c.content-content.result.now c.new-variants.result.items c.args.rest.now c.gather.new.variants.items c.gather.new.outlets c.new-variants.ensures.items
          c.gather.ensures,
      ap (λ (vs : List Variant). length (rows_of vs)) c.as_slice-variants.ensures.value,
      ap length c.content-content.ensures.is,
      c.in-Some.ensures.room,
      c.in_ok-empty.ensures.capacity,
    )

pub returns-clause-sends : goal.returns-clause-sends
returns-clause-sends g c = λ long sent of known.
    let place = c.in-Some.place in
    let first = c.args.first.now in
    let rest = c.args.rest.now in
    let new = c.gather.new.outlets in
    let content = c.content-content.result.now in
    let taken = c.gather.new.variants.items in
    let variants = c.as_slice-variants.result.now in
    let gathered : AreVariantsOf sent place content taken = first-variants place content sent c.new-variants.result.items rest taken new c.new-variants.ensures.items c.gather.ensures of.1 in
    let good : AreVariantsOf sent place (packed first.waiting) variants =
    subst (AreVariantsOf sent place (packed first.waiting)) (sym c.as_slice-variants.ensures.value) (subst (λ (l : List ℕ). AreVariantsOf sent place l taken) c.content-content.ensures.is gathered) in
    let count : length variants ≤ 255 =
    few variants taken (length rest) c.as_slice-variants.ensures.value
    (first-count place content c.new-variants.result.items rest taken new c.new-variants.ensures.items c.gather.ensures) c.in-Some.ensures.count in
    let carries : Carries c.args.seal.now.key c.args.seal.now.boot long (StandsIn sent) c.as_slice-frame.result.now =
    subst (Carries c.args.seal.now.key c.args.seal.now.boot long (StandsIn sent)) (sym (c.as_slice-frame.ensures.value ∙ c.several_frame-frame.ensures.is))
    (several-carries c.args.seal.now long sent c.args.counter.now place variants first c.several_frame-frame.ensures.fits c.in-Some.ensures.near count c.content-content.ensures.short of.0 good) in (
      adds-on (IsFrameOf c.args.seal.now long sent) (g.N.Net.log c.args.net.now) (g.N.Net.log c.send.new.self) (g.N.Net.log c.send_each.new.net)
          (adds-one (IsFrameOf c.args.seal.now long sent) (g.N.Net.log c.args.net.now) (g.N.Net.log c.send.new.self) _ c.send.ensures.lists carries)
          (c.send_each.ensures.adds c.args.seal.now long sent carries),
      (subst (λ (x : OutletModel). AreOf sent x.waiting) (sym c.clear.ensures) tt, all-gathered place content (λ (o : OutletModel). AreOf sent o.waiting) (λ o of. tt) _ rest taken new c.gather.ensures of.1),
      (subst (AreLongs long) (sym c.clear.ensures) known.0, all-gathered place content (AreLongs long) (λ o known. known) _ rest taken new c.gather.ensures known.1),
    )

pub returns-clause-grows : goal.returns-clause-grows
returns-clause-grows g c =
    grows-on (g.N.Net.log c.args.net.now) (g.N.Net.log c.send.new.self) (g.N.Net.log c.send_each.new.net)
    (grows-listing (g.N.Net.log c.args.net.now) (g.N.Net.log c.send.new.self) _ c.send.ensures.lists) c.send_each.ensures.grows

pub returns-clause-ways : goal.returns-clause-ways
returns-clause-ways g c = (
  ap (λ (x : OutletModel). x.node) c.clear.ensures,
  next-on c.args.first.now c.clear.new.self (ap (λ (x : OutletModel). x.longs) c.clear.ensures),
  ways-gathered c.in-Some.place c.content-content.result.now _ c.args.rest.now c.gather.new.variants.items c.gather.new.outlets c.gather.ensures,
)

pub returns-in_err-empty-clause-grows : goal.returns-in_err-empty-clause-grows
returns-in_err-empty-clause-grows g c = grows-none (g.N.Net.log c.args.net.now)

pub returns-in_err-empty-clause-sends : goal.returns-in_err-empty-clause-sends
returns-in_err-empty-clause-sends g c = λ long sent of known. (adds-none (IsFrameOf c.args.seal.now long sent) (g.N.Net.log c.args.net.now), of, known)

pub returns-in_err-empty-clause-ways : goal.returns-in_err-empty-clause-ways
returns-in_err-empty-clause-ways g c = (refl, stays c.args.first.now.longs.next, same-ways c.args.rest.now)
