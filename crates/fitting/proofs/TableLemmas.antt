-- Spans of a list that grows at its end.
use Rattle.std.proofs.Common.{◌≡◌, ℕ, zero, suc, ◌+◌, ◌≤◌, ◌==◌, Bool, true, false, cond, List, [], ◌∷◌, ◌++◌, length, take, drop, Option, Some, None, refl, ap, ap₂, ◌∙◌, arith}
use Rattle.pieces.specs.declared.node.Node.{Node}
use Rattle.fitting.specs.declared.words.Span.{Span}
use Rattle.fitting.specs.Fitters.{nodes_in}

taken_front : (c : ℕ) (xs ys : List Node) → c ≤ length xs → take c (xs ++ ys) ≡ take c xs
taken_front zero xs ys h = refl
taken_front (suc c) [] ys h = absurd (omega (arith, h))
taken_front (suc c) (x ∷ xs) ys h = ap (λ (l : List Node). x ∷ l) (taken_front c xs ys (omega (arith, h)))

part_front : (s c : ℕ) (xs ys : List Node) → s + c ≤ length xs → take c (drop s (xs ++ ys)) ≡ take c (drop s xs)
part_front zero c xs ys h = taken_front c xs ys (omega (arith, h))
part_front (suc s) c [] ys h = absurd (omega (arith, h))
part_front (suc s) c (x ∷ xs) ys h = part_front s c xs ys (omega (arith, h))

part_end : (xs ys : List Node) → take (length ys) (drop (length xs) (xs ++ ys)) ≡ ys
part_end [] ys = whole ys
  where
    whole : (zs : List Node) → take (length zs) zs ≡ zs
    whole [] = refl
    whole (z ∷ zs) = ap (λ (l : List Node). z ∷ l) (whole zs)
part_end (x ∷ xs) ys = part_end xs ys

pub put_word : (nodes nodes' rs : List Node) (spans spans' : ℕ → Option Span) (id : ℕ) (span : Span) → span.start ≡ length nodes → span.count ≡ length rs → nodes' ≡ nodes ++ rs
    → ((k : ℕ) → spans' k ≡ cond (id == k) (Some span) (spans k)) → ((k : ℕ) (s : Span) → spans k ≡ Some s → s.start + s.count ≤ length nodes)
    → (k : ℕ) → nodes_in nodes' (spans' k) ≡ cond (id == k) rs (nodes_in nodes (spans k))
put_word nodes nodes' rs spans spans' id span start count is put within k = ap₂ nodes_in is (put k) ∙ by (id == k)
  where
    old : (o : Option Span) → spans k ≡ o → nodes_in (nodes ++ rs) o ≡ nodes_in nodes o
    old None e = refl
    old (Some s) e = part_front s.start s.count nodes rs (within k s e)

    by : (b : Bool) → nodes_in (nodes ++ rs) (cond b (Some span) (spans k)) ≡ cond b rs (nodes_in nodes (spans k))
    by true = ap₂ (λ (s c : ℕ). take c (drop s (nodes ++ rs))) start count ∙ part_end nodes rs
    by false = old (spans k) refl
