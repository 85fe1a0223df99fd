-- What is open of a clause's literals, from literal to literal.
use Rattle.std.proofs.Common.{◌≡◌, ℕ, zero, suc, ◌+◌, Bool, true, false, List, [], ◌∷◌, ◌++◌, length, refl, sym, ap, subst, ◌∙◌, arith, length-append}
use Rattle.std.specs.Prelude.{if◌then◌else◌, fold}
use Rattle.base.specs.Literal.{negation}
use Rattle.drup.specs.declared.hints.Open.{Open}
use Rattle.drup.specs.declared.hints.Open.TheVariants as opening
use Rattle.drup.specs.declared.hints.Seen.{Seen}
use Rattle.drup.specs.Propagation.{Literals}
use Rattle.drup.specs.Hints.{with_seen, and_open, open_in}
use Rattle.drup.specs.Opened.{IsOpenOf, HasSeen}

fold_last : (s : Literals) (o : Open) (xs : List ℕ) (l : ℕ) → fold (with_seen s) o (xs ++ l ∷ []) ≡ with_seen s (fold (with_seen s) o xs) l
fold_last s o [] l = refl
fold_last s o (x ∷ xs) l = fold_last s (with_seen s o x) xs l

open_none : (n last : ℕ) → n + 0 ≡ 0 → IsOpenOf n last opening.Nothing
open_none zero last is = refl
open_none (suc n) last is = absurd (omega (arith, is))

pub seen_none : (s : Literals) → HasSeen s [] (record { negated = 0; last = 0 })
seen_none s = record { few = omega arith; left = λ n is. open_none n 0 is }

-- a literal more is open
open_more : (m last l : ℕ) (o : Open) → IsOpenOf m last o → IsOpenOf (suc m) l (and_open o l)
open_more zero last l o is = ap (λ (x : Open). and_open x l) is
open_more (suc zero) last l o is = tt
open_more (suc (suc m)) last l o is = tt

pub seen_negated : (s : Literals) (clause : List ℕ) (l : ℕ) (seen : Seen) → s (negation l) ≡ true → HasSeen s clause seen → HasSeen s (clause ++ l ∷ []) (record { negated = seen.negated + 1; last = seen.last })
seen_negated s clause l seen is h =
    let long : length (clause ++ l ∷ []) ≡ length clause + 1 = length-append clause (l ∷ []) in
    let same : open_in s (clause ++ l ∷ []) ≡ open_in s clause = fold_last s opening.Nothing clause l ∙ ap (λ (b : Bool). if b then open_in s clause else and_open (open_in s clause) l) is in
    record {
      few = omega (arith, long, h.few);
      left = λ n all. subst (IsOpenOf n seen.last) (sym same) (h.left n (omega (arith, all, long)));
    }

pub seen_open : (s : Literals) (clause : List ℕ) (l : ℕ) (seen : Seen) → s (negation l) ≡ false → HasSeen s clause seen → HasSeen s (clause ++ l ∷ []) (record { negated = seen.negated; last = l })
seen_open s clause l seen is h =
    record { few = omega (arith, long, h.few); left = at }
  where
    long : length (clause ++ l ∷ []) ≡ length clause + 1
    long = length-append clause (l ∷ [])

    same : open_in s (clause ++ l ∷ []) ≡ and_open (open_in s clause) l
    same = fold_last s opening.Nothing clause l ∙ ap (λ (b : Bool). if b then open_in s clause else and_open (open_in s clause) l) is

    at : (n : ℕ) → n + seen.negated ≡ length (clause ++ l ∷ []) → IsOpenOf n l (open_in s (clause ++ l ∷ []))
    at zero all = absurd (omega (arith, all, long, h.few))
    at (suc m) all = subst (IsOpenOf (suc m) l) (sym same) (open_more m seen.last l (open_in s clause) (h.left m (omega (arith, all, long))))
