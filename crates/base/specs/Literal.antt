-- Literals and valuations ("AIGER 1.9 and Beyond", literals: 2v is variable v, 2v + 1 its negation, 0 is false and 1 is true).
use Rattle.std.specs.Prelude.{◌≡◌, ℕ, ◌+◌, ◌*◌, ◌/◌, ◌%◌, Bool, true, false, not, ◌&&◌, ◌==◌, if◌then◌else◌, List, slice_index_or}

-- a valuation says of each variable whether it is true; only those that a circuit or a formula has mean something
abbrev pub Valuation : Type 0
Valuation = ℕ → Bool

-- the variable of a literal
abbrev pub variable : ℕ → ℕ
variable l = l / 2

-- the negation of a literal: 2v and 2v + 1 are exchanged
abbrev pub negation : ℕ → ℕ
negation l = if l % 2 == 0 then l + 1 else 2 * (l / 2)

-- whether a literal is true in a valuation
abbrev pub literal_value : Valuation → ℕ → Bool
literal_value v l =
    if l == 0 then false
    else (if l == 1 then true
    else (if l % 2 == 0 then v (variable l) else not (v (variable l))))

-- the bit that a byte holds: its lowest, whatever the others are
abbrev pub bit_of : ℕ → Bool
bit_of b = b % 2 == 1

-- the valuation of a list of bytes: the bit of variable k is the one that the k-th holds
abbrev pub valuation_of : List ℕ → Valuation
valuation_of bits k = bit_of (slice_index_or bits k 0)

-- a variable is true exactly where both of two literals are
abbrev pub IsAnd : Valuation → ℕ → ℕ → ℕ → Type 0
IsAnd v gate left right = v gate ≡ (literal_value v left && literal_value v right)
