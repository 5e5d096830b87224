-- What is put behind bytes, part by part.
use Rattle.std.proofs.Common.{◌≡◌, ℕ, List, ◌++◌, ap, ◌∙◌, append_assoc}

pub two-parts : (o a b m n : List ℕ) → m ≡ o ++ a → n ≡ m ++ b → n ≡ o ++ (a ++ b)
two-parts o a b m n p q = q ∙ ap (λ (t : List ℕ). t ++ b) p ∙ append_assoc o a b

pub three-parts : (o a b c l m n : List ℕ) → l ≡ o ++ a → m ≡ l ++ b → n ≡ m ++ c → n ≡ o ++ (a ++ (b ++ c))
three-parts o a b c l m n p q r = two-parts o a (b ++ c) l n p (two-parts l b c m n q r)

pub four-parts : (o a b c d k l m n : List ℕ) → k ≡ o ++ a → l ≡ k ++ b → m ≡ l ++ c → n ≡ m ++ d → n ≡ o ++ (a ++ (b ++ (c ++ d)))
four-parts o a b c d k l m n p q r s = two-parts o a (b ++ (c ++ d)) k n p (three-parts k b c d l m n q r s)
