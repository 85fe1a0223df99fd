-- How a proof with hints is judged (LRAT: L. Cruz-Filipe, M. Heule, W. Hunt, M. Kaufmann, P. Schneider-Kamp, "Efficient certified RAT verification", CADE
-- 2017): each clause has an id, those of the formula 1, 2, .. in their order, and a step that adds one names the clauses that give it, one after the other.
-- From the negations of the step's literals each of these gives one literal, until one is falsified. This project's own: an id is above all before it, a
-- literal that is there already may be given again, what is named behind the falsified clause is not looked at, and an id that no clause has takes none away.
use Rattle.std.specs.Prelude.{ℕ, suc, ◌==◌, ◌||◌, nat_lt, if◌then◌else◌, List, [], ◌∷◌, length, Option, Some, None, fold}
use Rattle.std.specs.List.{list_any}
use Rattle.base.specs.Literal.{negation}
use Rattle.base.specs.Decimals.{is_nothing}
use Rattle.drup.specs.declared.judgement.Judgement.{Judgement}
use Rattle.drup.specs.declared.judgement.Judgement.TheVariants as judgement
use Rattle.drup.specs.declared.why.Why.TheVariants as why
use Rattle.drup.specs.declared.hints.Open.{Open}
use Rattle.drup.specs.declared.hints.Open.TheVariants as opening
use Rattle.drup.specs.declared.hints.Finding.{Finding}
use Rattle.drup.specs.declared.hints.Finding.TheVariants as finding
use Rattle.drup.specs.Formula.{Formula}
use Rattle.drup.specs.Propagation.{Literals, no_literal}
use Rattle.drup.specs.Proofs.{ProofFault}
use Rattle.drup.specs.Judgements.{at_end}

-- ---- clauses by their ids

abbrev pub Named : Type 0
Named = ℕ → Option (List ℕ)

-- a formula's clauses, from one with an id on
abbrev pub named_from : ℕ → List (List ℕ) → Named
named_from id [] i = None
named_from id (clause ∷ clauses) i = if i == id then Some clause else named_from (suc id) clauses i

abbrev pub with_clause : Named → ℕ → List ℕ → Named
with_clause named id clause i = if i == id then Some clause else named i

abbrev pub without_clause : Named → ℕ → Named
without_clause named id i = if i == id then None else named i

-- ---- a step

-- a set with a literal more, and the set of the negations of a clause's literals
abbrev pub with_marked : Literals → ℕ → Literals
with_marked s l k = k == l || s k

abbrev pub with_negation : Literals → ℕ → Literals
with_negation s l = with_marked s (negation l)

abbrev pub negated : List ℕ → Literals
negated clause = fold with_negation no_literal clause

-- what is open of a clause, which is nothing, one literal, however often, or more, with another literal, which is not negated
abbrev pub and_open : Open → ℕ → Open
and_open opening.Nothing l = opening.Only l
and_open (opening.Only k) l = if k == l then opening.Only k else opening.More
and_open opening.More l = opening.More

abbrev pub with_seen : Literals → Open → ℕ → Open
with_seen s o l = if s (negation l) then o else and_open o l

-- what is open of a clause: its literals that are not negated in a set
abbrev pub open_in : Literals → List ℕ → Open
open_in s clause = fold (with_seen s) opening.Nothing clause

-- what follows where a clause has so much open: it is falsified, or it gives a literal, with which the rest goes on, or it shows nothing
abbrev pub by_open : (Literals → Finding) → Literals → Open → Finding
by_open rest s opening.Nothing = finding.Falsified
by_open rest s (opening.Only l) = rest (with_marked s l)
by_open rest s opening.More = finding.Unshown

abbrev pub by_clause : (Literals → Finding) → Literals → Option (List ℕ) → Finding
by_clause rest s None = finding.Unnamed
by_clause rest s (Some clause) = by_open rest s (open_in s clause)

-- what is shown, or else shown with what is marked then
abbrev pub settled : (Literals → Finding) → Literals → Option Finding → Finding
settled rest s None = rest s
settled rest s (Some found) = found

-- what hints show, one after the other
abbrev pub follow : Named → Literals → List ℕ → Finding
follow named s [] = finding.Unshown
follow named s (hint ∷ hints) = by_clause (λ t. follow named t hints) s (named hint)

-- ---- steps

-- A step adds a clause with an id, by hints, or takes the clause of an id away.
pub data HintedStep : Type 0 where
  addition : ℕ → List ℕ → List ℕ → HintedStep
  deletion : ℕ → HintedStep

-- a step, and its line; in the binary form its number
pub data HintedEnded : Type 0 where
  ended : ℕ → HintedStep → HintedEnded

-- what is said where the hints of a clause show this, and what follows
abbrev pub by_finding : ℕ → List ℕ → Judgement → Finding → Judgement
by_finding n clause rest finding.Falsified = if is_nothing clause then judgement.Derived n else rest
by_finding n clause rest finding.Unnamed = judgement.Malformed n why.NoClause
by_finding n clause rest finding.Unshown = judgement.NotImplied n

-- how steps, and the fault behind them, are judged from clauses by their ids, the greatest of which came last
abbrev pub judge_named : Option ProofFault → List HintedEnded → Named → ℕ → Judgement
judge_named fault [] named last = at_end fault
judge_named fault (ended n (addition id clause hints) ∷ steps) named last =
    if nat_lt last id then by_finding n clause (judge_named fault steps (with_clause named id clause) id) (follow named (negated clause) hints)
    else judgement.Malformed n why.BadId
judge_named fault (ended n (deletion id) ∷ steps) named last = judge_named fault steps (without_clause named id) last

-- the steps of a text before its first fault, and that fault, where there is one
pub record HintedReading : Type 0 where
  pub steps : List HintedEnded
  pub fault : Option ProofFault

-- what steps, and the fault behind them, are judged as over a formula
abbrev pub judge_hinted : Formula → HintedReading → Judgement
judge_hinted f reading =
    if list_any is_nothing f.clauses then judgement.Derived 0 else judge_named reading.fault reading.steps (named_from 1 f.clauses) (length f.clauses)
