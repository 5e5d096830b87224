-- What is calm twice, and what does not happen at all.
use Rattle.std.proofs.Common.{◌≡◌, ℕ, ◌+◌, ◌≤◌, true, List, [], ◌∷◌, ◌++◌, length, ◌&&◌, refl, sym, ap, ◌∙◌, append_assoc, arith}
use Rattle.std.proofs.lemmas.Bool.{and_parts}
use Rattle.std.proofs.lemmas.List.{append-nil, length-append}
use Rattle.std.specs.List.{list_all}
use Rattle.trace_props.specs.declared.event.Event.{Event}
use Rattle.wire_values.specs.Posted.{Posted}
use Rattle.step_output.specs.declared.output.Output.{Output}
use Rattle.step_output.specs.Outputs.{Grows}
use Rattle.step_output.specs.Calm.{is_quiet, IsCalm}

quiet-both : (hs js : List Event) → list_all is_quiet hs ≡ true → list_all is_quiet js ≡ true → list_all is_quiet (hs ++ js) ≡ true
quiet-both [] js x y = y
quiet-both (h ∷ hs) js x y =
    let p = and_parts (is_quiet h) (list_all is_quiet hs) x in
    ap (λ b. b && list_all is_quiet (hs ++ js)) p.0 ∙ quiet-both hs js p.1 y

pub calm-grown : (group : List ℕ) (most : ℕ) (a b : Output) (ps : List Posted) (hs : List Event) → Grows group a b ps hs → length hs ≤ most → list_all is_quiet hs ≡ true → IsCalm most a b
calm-grown group most a b ps hs g few quiet = record { more = hs; grows = g.events; few = few; quiet = quiet }

pub calm-nothing : (most : ℕ) (out : Output) → IsCalm most out out
calm-nothing most out = record { more = []; grows = sym (append-nil out.events.items); few = omega (arith); quiet = refl }

pub calm-then : (m n : ℕ) (a b c : Output) → IsCalm m a b → IsCalm n b c → IsCalm (m + n) a c
calm-then m n a b c x y = record {
  more = x.more ++ y.more;
  grows = y.grows ∙ ap (λ l. l ++ y.more) x.grows ∙ append_assoc a.events.items x.more y.more;
  few = let l : length (x.more ++ y.more) ≡ length x.more + length y.more = length-append x.more y.more in let p = x.few in let q = y.few in omega (arith, l, p, q);
  quiet = quiet-both x.more y.more x.quiet y.quiet;
}

pub calm-wider : (m n : ℕ) (a b : Output) → m ≤ n → IsCalm m a b → IsCalm n a b
calm-wider m n a b less x = record { more = x.more; grows = x.grows; few = let p = x.few in omega (arith, p, less); quiet = x.quiet }
