-- The operators by the builder that makes them: those whose answer is one bit, and those that move the bits of a word by an amount.
use Rattle.std.specs.Prelude.{ℕ, ◌-◌, Bool, true, false, ◌||◌, List, [], ◌∷◌, ◌++◌, length, take, slice_index}
use Rattle.base.specs.Literal.{negation}
use Rattle.base.specs.declared.operators.Binary.{Binary}
use Rattle.base.specs.declared.operators.Binary.TheVariants as binary

-- the comparisons by order
abbrev pub is_comparison : Binary → Bool
is_comparison binary.Ugt = true
is_comparison binary.Ugte = true
is_comparison binary.Ult = true
is_comparison binary.Ulte = true
is_comparison binary.Sgt = true
is_comparison binary.Sgte = true
is_comparison binary.Slt = true
is_comparison binary.Slte = true
is_comparison _ = false

-- the overflow tests
abbrev pub is_overflow : Binary → Bool
is_overflow binary.Uaddo = true
is_overflow binary.Saddo = true
is_overflow binary.Usubo = true
is_overflow binary.Ssubo = true
is_overflow binary.Umulo = true
is_overflow binary.Smulo = true
is_overflow binary.Sdivo = true
is_overflow _ = false

-- the shifts and the rotations
abbrev pub is_shift : Binary → Bool
is_shift binary.Sll = true
is_shift binary.Srl = true
is_shift binary.Sra = true
is_shift _ = false

abbrev pub is_rotation : Binary → Bool
is_rotation binary.Rol = true
is_rotation binary.Ror = true
is_rotation _ = false

abbrev pub is_move : Binary → Bool
is_move op = is_shift op || is_rotation op

-- literals with the highest one negated, where there is one
abbrev pub with_top_negated : List ℕ → List ℕ
with_top_negated ls = take (length ls - 1) ls ++ negation (slice_index ls (length ls - 1)) ∷ []
