-- Rows of literals that are made place by place: how they begin, and that the gates of one place more fit.
use Rattle.std.proofs.Common.{ℕ, ◌+◌, ◌*◌, ◌<◌, ◌≤◌, Bool, List, [], refl, arith}
use Rattle.std.proofs.lemmas.Nat.{mul-le}
use Rattle.std.proofs.lemmas.List.Elements.{All-nil}
use Rattle.base.specs.Literal.{Valuation}
use Rattle.aiger.specs.Net.{Net, IsDefined}
use Rattle.gates.specs.Connect.{connective_bound, words_bound}
use Rattle.gates.specs.declared.bitwise.Connective.{Connective}
use Rattle.gates.proofs.GrowthLemmas.{Grows-refl}
use Rattle.gates.proofs.BitListLemmas.{IsRow}
use Rattle.gates.proofs.WordLemmas.{words_bound-is}

-- no place yet
pub IsRow-start : (n : Net) (cost : ℕ) (f : Valuation → Bool → Bool → Bool) (a b : List ℕ) → IsRow n n cost 0 f a b []
IsRow-start n cost f a b = record { grows = Grows-refl n (cost * 0); wide = refl; defined = All-nil (IsDefined n); means = λ v s. refl }

-- the gates of the places so far and of one more are within those of the word
pub words_bound-more : (by : Connective) (i n : ℕ) → i < n → connective_bound by * i + connective_bound by ≤ words_bound by n
words_bound-more by i n inside = rw (← words_bound-is by n) (omega (arith, mul-le (connective_bound by) (i + 1) (connective_bound by) n (omega arith) (omega arith)))
