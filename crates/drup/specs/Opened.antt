-- What is open of a clause's literals, as it is kept from literal to literal: how many are negated, and the last that is not.
use Rattle.std.specs.Prelude.{◌≡◌, ℕ, zero, suc, ◌+◌, ◌≤◌, List, length}
use Rattle.drup.specs.declared.hints.Open.{Open}
use Rattle.drup.specs.declared.hints.Open.TheVariants as opening
use Rattle.drup.specs.declared.hints.Seen.{Seen}
use Rattle.drup.specs.Propagation.{Literals}
use Rattle.drup.specs.Hints.{open_in}

-- of so many literals that are open, of which this is the last, this is open: where there are two or more, they may be one literal
abbrev pub IsOpenOf : ℕ → ℕ → Open → Type 0
IsOpenOf zero last o = o ≡ opening.Nothing
IsOpenOf (suc zero) last o = o ≡ opening.Only last
IsOpenOf (suc (suc n)) last o = Unit {0}

-- it was seen of these literals, by what is marked
pub record HasSeen (s : Literals) (clause : List ℕ) (seen : Seen) : Type 0 where
  pub few : seen.negated ≤ length clause
  pub left : (n : ℕ) → n + seen.negated ≡ length clause → IsOpenOf n seen.last (open_in s clause)
