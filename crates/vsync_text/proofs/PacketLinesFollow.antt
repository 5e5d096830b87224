-- The lines of packets, one after another.
use Rattle.std.proofs.Common.{◌≡◌, ℕ, zero, suc, ◌+◌, ◌<◌, ◌≤◌, List, [], ◌∷◌, ◌++◌, length, take, get_or, refl, sym, ap, ◌∙◌, append_assoc, append-nil, arith}
use Rattle.std.specs.List.{concat}
use Rattle.std.proofs.lemmas.List.{take_all}
use Rattle.std.proofs.lemmas.List.Folds.{concat-append}
use Rattle.vsync_text.specs.PacketText.{packet_line, packet_lines, packet_lines_from}

-- one line more than the first few
next : (n : ℕ) (packets : List (List ℕ)) (i : ℕ) (d : List ℕ) → i < length packets
    → take (suc i) (packet_lines_from n packets) ≡ take i (packet_lines_from n packets) ++ packet_line (n + i) (get_or packets i d) ∷ []
next n [] i d inside = absurd (omega (arith, inside))
next n (p ∷ packets) zero d inside = ap (λ (m : ℕ). packet_line m p ∷ []) (let e : n ≡ n + 0 = omega arith in e)
next n (p ∷ packets) (suc i) d inside =
    ap (λ l. packet_line n p ∷ l)
    (next (n + 1) packets i d (omega (arith, inside)) ∙ ap (λ (m : ℕ). take i (packet_lines_from (n + 1) packets) ++ packet_line m (get_or packets i d) ∷ []) (let e : n + 1 + i ≡ n + suc i = omega arith in e))

-- there are as many lines as packets
all : (n : ℕ) (packets : List (List ℕ)) → length (packet_lines_from n packets) ≡ length packets
all n [] = refl
all n (p ∷ packets) = ap suc (all (n + 1) packets)

-- one packet more has its line
pub printed-next : (packets : List (List ℕ)) (i number : ℕ) (p d : List ℕ) (old now new : List ℕ) → p ≡ get_or packets i d → i < length packets → number ≡ i + 1
    → now ≡ old ++ concat (take i (packet_lines packets)) → new ≡ now ++ packet_line number p → new ≡ old ++ concat (take (i + 1) (packet_lines packets))
printed-next packets i number p d old now new at inside counted before more =
    let up : suc i ≡ i + 1 = omega arith in
    let swap : 1 + i ≡ number = omega (arith, counted) in
    let front : List (List ℕ) = take i (packet_lines packets) in
    let line : List ℕ = packet_line number p in
    let split : take (i + 1) (packet_lines packets) ≡ front ++ line ∷ [] =
    ap (λ (k : ℕ). take k (packet_lines packets)) (sym up) ∙ next 1 packets i d inside
    ∙ ap (λ (m : ℕ). front ++ packet_line m (get_or packets i d) ∷ []) swap ∙ ap (λ (q : List ℕ). front ++ packet_line number q ∷ []) (sym at) in
    more ∙ ap (λ (x : List ℕ). x ++ line) before ∙ append_assoc old (concat front) line
    ∙ ap (λ (x : List ℕ). old ++ x) (sym (concat-append front (line ∷ []) ∙ ap (λ (x : List ℕ). concat front ++ x) (append-nil line)) ∙ ap concat (sym split))

-- all packets have their lines
pub printed-all : (packets : List (List ℕ)) (i : ℕ) (old new : List ℕ) → i ≡ length packets → new ≡ old ++ concat (take i (packet_lines packets))
    → new ≡ old ++ concat (packet_lines packets)
printed-all packets i old new whole is =
    is ∙ ap (λ (l : List (List ℕ)). old ++ concat l) (take_all i (packet_lines packets) (let few : length (packet_lines packets) ≤ i = omega (arith, whole, all 1 packets) in few))
