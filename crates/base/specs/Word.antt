-- Words and their bits (SMT-LIB, theory of fixed-size bit vectors: a bit vector of width n and the natural number that it stands for).
use Rattle.std.specs.Prelude.{ℕ, zero, suc, ◌+◌, ◌*◌, ◌/◌, ◌%◌, ◌^◌, ◌<◌, Bool, ◌==◌, ◌&&◌, List, [], ◌∷◌, if◌then◌else◌}

-- a word of width n is a whole number below 2 ^ n
abbrev pub IsWord : ℕ → ℕ → Type 0
IsWord n x = x < 2 ^ n

-- bit i of a word, bit 0 the lowest
abbrev pub bit : ℕ → ℕ → ℕ
bit x i = x / 2 ^ i % 2

-- the number of one bit
abbrev pub bit_number : Bool → ℕ
bit_number b = if b then 1 else 0

-- the word that a list of bits reads as, the lowest first: the sum of bit i times 2 ^ i
abbrev pub word : List Bool → ℕ
word [] = 0
word (b ∷ bs) = bit_number b + 2 * word bs

-- the n lowest bits of a word, the lowest first
abbrev pub bits : ℕ → ℕ → List Bool
bits zero x = []
bits (suc n) x = (x % 2 == 1) ∷ bits n (x / 2)

-- the bits that are one in both lists, place by place, as far as both go
abbrev pub both : List Bool → List Bool → List Bool
both [] bs = []
both (a ∷ rest) [] = []
both (a ∷ rest) (b ∷ bs) = (a && b) ∷ both rest bs
