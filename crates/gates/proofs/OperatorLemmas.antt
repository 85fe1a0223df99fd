-- The kinds of operators that one builder makes: their bounds and widths.
use Rattle.std.proofs.Common.{◌≡◌, ℕ, zero, suc, ◌-◌, ◌*◌, ◌<◌, ◌==◌, true, List, length, bit_xor, refl, ap, ◌∙◌, inl, inr, ◌⊎◌, arith}
use Rattle.std.proofs.lemmas.Bool.{false≢true}
use Rattle.base.specs.Operator.{ones, binary_value}
use Rattle.base.specs.Widths.{binary_width}
use Rattle.base.specs.Word.{bit_number}
use Rattle.base.specs.declared.operators.Binary.{Binary}
use Rattle.base.specs.declared.operators.Binary.TheVariants as binary
use Rattle.aiger.specs.Net.{Net}
use Rattle.gates.specs.Bound.{binary_bound}
use Rattle.gates.specs.Connect.{connected_words, words_bound}
use Rattle.gates.specs.declared.bitwise.Connective.TheVariants as by
use Rattle.gates.specs.Division.{MakesDivision}
use Rattle.gates.specs.Made.{MakesWord, word_value}
use Rattle.gates.specs.Tests.{is_shift, is_rotation, is_comparison, is_overflow}
use Rattle.gates.proofs.BitListLemmas.{word_value-below}

pub is_comparison-named : (op : Binary) → (op ≡ binary.Ugt) ⊎ ((op ≡ binary.Ugte) ⊎ ((op ≡ binary.Ult) ⊎ ((op ≡ binary.Ulte) ⊎ ((op ≡ binary.Sgt) ⊎ ((op ≡ binary.Sgte) ⊎ ((op ≡ binary.Slt) ⊎ (op ≡ binary.Slte))))))) → is_comparison op ≡ true
is_comparison-named op (inl e) = ap is_comparison e
is_comparison-named op (inr (inl e)) = ap is_comparison e
is_comparison-named op (inr (inr (inl e))) = ap is_comparison e
is_comparison-named op (inr (inr (inr (inl e)))) = ap is_comparison e
is_comparison-named op (inr (inr (inr (inr (inl e))))) = ap is_comparison e
is_comparison-named op (inr (inr (inr (inr (inr (inl e)))))) = ap is_comparison e
is_comparison-named op (inr (inr (inr (inr (inr (inr (inl e))))))) = ap is_comparison e
is_comparison-named op (inr (inr (inr (inr (inr (inr (inr e))))))) = ap is_comparison e

pub comparison_bound : (op : Binary) (n : ℕ) → is_comparison op ≡ true → binary_bound op n ≡ 6 * n
comparison_bound binary.Ugt n is = refl
comparison_bound binary.Ugte n is = refl
comparison_bound binary.Ult n is = refl
comparison_bound binary.Ulte n is = refl
comparison_bound binary.Sgt n is = refl
comparison_bound binary.Sgte n is = refl
comparison_bound binary.Slt n is = refl
comparison_bound binary.Slte n is = refl
comparison_bound _ n is = absurd (false≢true is)

pub comparison_width : (op : Binary) (n : ℕ) → is_comparison op ≡ true → binary_width op n ≡ 1
comparison_width binary.Ugt n is = refl
comparison_width binary.Ugte n is = refl
comparison_width binary.Ult n is = refl
comparison_width binary.Ulte n is = refl
comparison_width binary.Sgt n is = refl
comparison_width binary.Sgte n is = refl
comparison_width binary.Slt n is = refl
comparison_width binary.Slte n is = refl
comparison_width _ n is = absurd (false≢true is)

pub is_overflow-named : (op : Binary) → (op ≡ binary.Uaddo) ⊎ ((op ≡ binary.Saddo) ⊎ ((op ≡ binary.Usubo) ⊎ ((op ≡ binary.Ssubo) ⊎ ((op ≡ binary.Umulo) ⊎ ((op ≡ binary.Smulo) ⊎ (op ≡ binary.Sdivo)))))) → is_overflow op ≡ true
is_overflow-named op (inl e) = ap is_overflow e
is_overflow-named op (inr (inl e)) = ap is_overflow e
is_overflow-named op (inr (inr (inl e))) = ap is_overflow e
is_overflow-named op (inr (inr (inr (inl e)))) = ap is_overflow e
is_overflow-named op (inr (inr (inr (inr (inl e))))) = ap is_overflow e
is_overflow-named op (inr (inr (inr (inr (inr (inl e)))))) = ap is_overflow e
is_overflow-named op (inr (inr (inr (inr (inr (inr e)))))) = ap is_overflow e

pub overflow_width : (op : Binary) (n : ℕ) → is_overflow op ≡ true → binary_width op n ≡ 1
overflow_width binary.Uaddo n is = refl
overflow_width binary.Saddo n is = refl
overflow_width binary.Usubo n is = refl
overflow_width binary.Ssubo n is = refl
overflow_width binary.Umulo n is = refl
overflow_width binary.Smulo n is = refl
overflow_width binary.Sdivo n is = refl
overflow_width _ n is = absurd (false≢true is)

pub is_shift-named : (op : Binary) → (op ≡ binary.Sll) ⊎ ((op ≡ binary.Srl) ⊎ (op ≡ binary.Sra)) → is_shift op ≡ true
is_shift-named op (inl e) = ap is_shift e
is_shift-named op (inr (inl e)) = ap is_shift e
is_shift-named op (inr (inr e)) = ap is_shift e

pub shift_width : (op : Binary) (n : ℕ) → is_shift op ≡ true → binary_width op n ≡ n
shift_width binary.Sll n is = refl
shift_width binary.Srl n is = refl
shift_width binary.Sra n is = refl
shift_width _ n is = absurd (false≢true is)

pub is_rotation-named : (op : Binary) → (op ≡ binary.Rol) ⊎ (op ≡ binary.Ror) → is_rotation op ≡ true
is_rotation-named op (inl e) = ap is_rotation e
is_rotation-named op (inr e) = ap is_rotation e

pub rotation_width : (op : Binary) (n : ℕ) → is_rotation op ≡ true → binary_width op n ≡ n
rotation_width binary.Rol n is = refl
rotation_width binary.Ror n is = refl
rotation_width _ n is = absurd (false≢true is)

-- the two answers of a division
pub MakesWord-udiv : (old new : Net) (most : ℕ) (a b quotient remainder : List ℕ) → MakesDivision old new most a b quotient remainder
    → MakesWord old new most (length a) (λ v. binary_value binary.Udiv (length a) (word_value v a) (word_value v b)) quotient
MakesWord-udiv old new most a b quotient remainder d = record { grows = d.grows; wide = d.quotient_wide; defined = d.quotient_defined; means = d.quotient_means }

pub MakesWord-urem : (old new : Net) (most : ℕ) (a b quotient remainder : List ℕ) → MakesDivision old new most a b quotient remainder
    → MakesWord old new most (length a) (λ v. binary_value binary.Urem (length a) (word_value v a) (word_value v b)) remainder
MakesWord-urem old new most a b quotient remainder d = record { grows = d.grows; wide = d.remainder_wide; defined = d.remainder_defined; means = d.remainder_means }

-- single bits are equal where none differs
pub MakesWord-iff : (old new : Net) (a b bits : List ℕ) → length a ≡ 1 → length b ≡ length a
    → MakesWord old new (words_bound by.Xor (length a)) (length a) (λ v. ones (length a) - connected_words by.Xor (word_value v a) (word_value v b)) bits
    → MakesWord old new (binary_bound binary.Iff (length a)) (binary_width binary.Iff (length a)) (λ v. binary_value binary.Iff (length a) (word_value v a) (word_value v b)) bits
MakesWord-iff old new a b bits one same m = record {
  grows = rw one at m.grows;
  wide = m.wide ∙ one;
  defined = m.defined;
  means = λ v s. (rw one at m.means v s) ∙ by_bits (word_value v a) (word_value v b) (word_value-below v a 1 one) (word_value-below v b 1 (same ∙ one));
}
  where
    by_bits : (x y : ℕ) → x < 2 → y < 2 → ones 1 - bit_xor x y ≡ bit_number (x == y)
    by_bits zero zero p q = refl
    by_bits zero (suc zero) p q = refl
    by_bits (suc zero) zero p q = refl
    by_bits (suc zero) (suc zero) p q = refl
    by_bits (suc (suc x)) y p q = absurd (omega arith)
    by_bits x (suc (suc y)) p q = absurd (omega arith)
