use Rattle.std.proofs.Common.{◌≡◌, ◌≤◌, ◌<◌, ◌∙◌, ℕ, List, length, take, drop, ap, subst, sym, arith}
use Rattle.frames.proofs.Rows.{fits, gives, is-row-given, next-of}
use Rattle.frames.proofs.row.Row.give.Goals as goal

pub split_at-requires-2 : goal.split_at-requires-2
split_at-requires-2 c =
    let n : ℕ = c.index-length.result.now in
    let there : c.self.inside.given < length c.self.inside.lengths.items = omega (arith, c.self.invariant.some, c.if-self-len.false, c.len.ensures) in
    let next = next-of c.self.inside.lengths.items c.self.inside.given n there c.index-length.ensures in
    subst (λ (l : List ℕ). n ≤ length l) (sym (c.split_at.ensures.back ∙ ap (drop c.self.inside.start) c.as_slice.ensures.value))
    (fits c.self.inside.bytes.items c.self.inside.lengths.items c.self.inside.given c.self.inside.start c.self.inside.last c.self.invariant n _ next)

pub invariant_of-self : goal.invariant_of-self
invariant_of-self c =
    let n : ℕ = c.index-length.result.now in
    let there : c.self.inside.given < length c.self.inside.lengths.items = omega (arith, c.self.invariant.some, c.if-self-len.false, c.len.ensures) in
    let next = next-of c.self.inside.lengths.items c.self.inside.given n there c.index-length.ensures in
    is-row-given c.self.inside.bytes.items c.self.inside.lengths.items c.self.inside.given c.self.inside.start c.self.inside.last c.self.invariant n _ next

pub returns-clause-gives : goal.returns-clause-gives
returns-clause-gives c =
    let n : ℕ = c.index-length.result.now in
    let there : c.self.inside.given < length c.self.inside.lengths.items = omega (arith, c.self.invariant.some, c.if-self-len.false, c.len.ensures) in
    let next = next-of c.self.inside.lengths.items c.self.inside.given n there c.index-length.ensures in
    let packet : c.split_at-2.result.0.now ≡ take n (drop c.self.inside.start c.self.inside.bytes.items) =
    c.split_at-2.ensures.front ∙ ap (take n) (c.split_at.ensures.back ∙ ap (drop c.self.inside.start) c.as_slice.ensures.value) in
    rw (← c.self.view_is)
    (gives c.self.inside.bytes.items c.self.inside.lengths.items c.self.inside.given c.self.inside.start c.self.inside.last c.self.invariant n _ next
    c.split_at-2.result.0.now c.copy_to-count.new.buffer c.copy_to-count.result packet (rw (← c.copy_to-count.ensures.length) at c.copy_to-count.ensures.given))
