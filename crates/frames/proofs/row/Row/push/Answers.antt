use Rattle.std.proofs.Common.{◌≡◌, ◌++◌, ◌∷◌, [], ℕ, List, length, drop, ap, rules, subst, sym, ◌∙◌}
use Rattle.frames.specs.Rows.{cut, IsRow}
use Rattle.frames.proofs.Rows.{is-row-more, row-more}
use Rattle.frames.proofs.Ends.{on-any, on-err}
use Rattle.frames.proofs.row.Row.push.Goals as goal

pub invariant_of-self-2 : goal.invariant_of-self-2
invariant_of-self-2 c =
    let row = is-row-more c.self.inside.bytes.items c.self.inside.lengths.items c.self.inside.given c.self.inside.start c.self.inside.last c.self.invariant c.args.packet.now in
    let lengths : c.push_reserved.new.self.items ≡ c.self.inside.lengths.items ++ length c.args.packet.now ∷ [] = c.push_reserved.ensures.items ∙ ap (λ (l : List ℕ). l ++ length c.args.packet.now ∷ []) c.reserve.ensures.items in
    let last : c.len-last.result ≡ length c.self.inside.bytes.items = search rules in
    rw (c.in_ok-extend_from_slice.ensures.items, lengths, last) row

pub returns-clause-ok : goal.returns-clause-ok
returns-clause-ok c =
    let lengths : c.push_reserved.new.self.items ≡ c.self.inside.lengths.items ++ length c.args.packet.now ∷ [] = c.push_reserved.ensures.items ∙ ap (λ (l : List ℕ). l ++ length c.args.packet.now ∷ []) c.reserve.ensures.items in
    ap (λ (l : List ℕ). cut (drop c.self.inside.given l) (drop c.self.inside.start c.extend_from_slice.new.self.items)) lengths
    ∙ ap (λ (b : List ℕ). cut (drop c.self.inside.given (c.self.inside.lengths.items ++ length c.args.packet.now ∷ [])) (drop c.self.inside.start b)) c.in_ok-extend_from_slice.ensures.items
    ∙ row-more c.self.inside.bytes.items c.self.inside.lengths.items c.self.inside.given c.self.inside.start c.self.inside.last c.self.invariant c.args.packet.now
    ∙ ap (λ (l : List (List ℕ)). l ++ c.args.packet.now ∷ []) c.self.view_is

pub returns-in_err-reserve-clause-ok : goal.returns-in_err-reserve-clause-ok
returns-in_err-reserve-clause-ok c = on-err _ c.from_residual.result c.from_residual.ensures.0

pub returns-in_err-reserve-clause-err : goal.returns-in_err-reserve-clause-err
returns-in_err-reserve-clause-err c = on-any _ c.from_residual.result (ap (λ (l : List ℕ). cut (drop c.self.inside.given l) (drop c.self.inside.start c.self.inside.bytes.items)) c.reserve.ensures.items ∙ c.self.view_is)

pub returns-in_err-extend_from_slice-clause-ok : goal.returns-in_err-extend_from_slice-clause-ok
returns-in_err-extend_from_slice-clause-ok c = on-err _ c.from_residual-in_err-extend_from_slice.result c.from_residual-in_err-extend_from_slice.ensures.0

pub returns-in_err-extend_from_slice-clause-err : goal.returns-in_err-extend_from_slice-clause-err
returns-in_err-extend_from_slice-clause-err c =
    on-any _ c.from_residual-in_err-extend_from_slice.result
    (ap (λ (b : List ℕ). cut (drop c.self.inside.given c.reserve.new.self.items) (drop c.self.inside.start b)) c.in_err-extend_from_slice.ensures.items
    ∙ ap (λ (l : List ℕ). cut (drop c.self.inside.given l) (drop c.self.inside.start c.self.inside.bytes.items)) c.reserve.ensures.items ∙ c.self.view_is)

pub invariant_of-self : goal.invariant_of-self
invariant_of-self c = subst (λ (l : List ℕ). IsRow c.self.inside.bytes.items l c.self.inside.given c.self.inside.start c.self.inside.last) (sym c.reserve.ensures.items) c.self.invariant

pub invariant_of-self-in_err-extend_from_slice : goal.invariant_of-self-in_err-extend_from_slice
invariant_of-self-in_err-extend_from_slice c =
    subst (λ (b : List ℕ). IsRow b c.reserve.new.self.items c.self.inside.given c.self.inside.start c.self.inside.last) (sym c.in_err-extend_from_slice.ensures.items)
    (subst (λ (l : List ℕ). IsRow c.self.inside.bytes.items l c.self.inside.given c.self.inside.start c.self.inside.last) (sym c.reserve.ensures.items) c.self.invariant)
