-- Laws of lines and of the numbers on them.
use Rattle.std.proofs.Common.{◌≡◌, ◌==◌, true, false, ℕ, List, ◌++◌, ap, length-append, ◌<◌, ◌≤◌, [], ◌∷◌, length, decimal, refl, arith}
use Rattle.std.proofs.lemmas.Bool.Decides.{nat_tests}
use Rattle.aigertext.specs.Ascii.{numbers_line, kept_line}

-- a line of numbers has a byte
length-numbers_line : (ns : List ℕ) → 0 < length (numbers_line ns)
length-numbers_line [] = omega arith
length-numbers_line (n ∷ []) = omega (arith, length-append (decimal n) (10 ∷ []))
length-numbers_line (n ∷ m ∷ ns) = omega (arith, length-append (decimal n) (32 ∷ numbers_line (m ∷ ns)))

-- a number in front of counts of which there are any
pub before_counts : (n : ℕ) (line behind : List ℕ) → line ≡ kept_line behind → 0 < length line → decimal n ++ 32 ∷ line ≡ numbers_line (n ∷ behind)
before_counts n line [] e h = absurd (omega (arith, ap length e))
before_counts n line (m ∷ behind) e h = rw e refl

-- a number with no counts behind it
pub without_counts : (n : ℕ) (line behind : List ℕ) → line ≡ kept_line behind → length line ≤ 0 → numbers_line (n ∷ []) ≡ numbers_line (n ∷ behind)
without_counts n line [] e h = refl
without_counts n line (m ∷ behind) e h = absurd (omega (arith, ap length e, length-numbers_line (m ∷ behind)))

-- what a test for 0 says
pub empty_from_test : (n : ℕ) → n == 0 ≡ true → n ≤ 0
empty_from_test n t = grind (arith, nat_tests)

pub some_from_test : (n : ℕ) → n == 0 ≡ false → 0 < n
some_from_test n t = grind (arith, nat_tests)
