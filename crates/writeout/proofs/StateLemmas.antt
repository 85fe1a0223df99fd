-- The numbers of the lines of a kind, line by line.
use Rattle.std.proofs.Common.{◌≡◌, ℕ, zero, suc, ◌<◌, Bool, true, false, cond, List, [], ◌∷◌, ◌++◌, length, take, get_or, slice_get, Some, refl, ap, arith}
use Rattle.btor2.specs.declared.item.Body.{Body}
use Rattle.full.specs.Lines.{FullLine, is_form}
use Rattle.writeout.specs.Leaves.{of_kind_lines}

-- those of a front of the lines, with one line more
pub of_kind_more : (kind : Body → Bool) (xs : List FullLine) (numbers : List ℕ) (k : ℕ) (x : FullLine) → slice_get xs k ≡ Some x → k < length numbers
    → of_kind_lines kind (take (suc k) xs) (take (suc k) numbers) ≡ of_kind_lines kind (take k xs) (take k numbers) ++ of_kind_lines kind (x ∷ []) (get_or numbers k 0 ∷ [])
of_kind_more kind [] numbers k x is within = absurd (cc)
of_kind_more kind (y ∷ xs) [] k x is within = absurd (omega (arith, within))
of_kind_more kind (y ∷ xs) (n ∷ numbers) zero x is within = let same : y ≡ x = cc (is) in ap (λ (z : FullLine). of_kind_lines kind (z ∷ []) (n ∷ [])) same
of_kind_more kind (y ∷ xs) (n ∷ numbers) (suc k) x is within = by (is_form kind y.says) (of_kind_more kind xs numbers k x is (omega (arith, within)))
  where
    more : List ℕ
    more = of_kind_lines kind (x ∷ []) (get_or numbers k 0 ∷ [])

    by : (b : Bool) → of_kind_lines kind (take (suc k) xs) (take (suc k) numbers) ≡ of_kind_lines kind (take k xs) (take k numbers) ++ more
        → cond b (n ∷ of_kind_lines kind (take (suc k) xs) (take (suc k) numbers)) (of_kind_lines kind (take (suc k) xs) (take (suc k) numbers))
        ≡ cond b (n ∷ of_kind_lines kind (take k xs) (take k numbers)) (of_kind_lines kind (take k xs) (take k numbers)) ++ more
    by true rest = ap (λ (l : List ℕ). n ∷ l) rest
    by false rest = rest
