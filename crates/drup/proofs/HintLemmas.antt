-- What hints show, and what a clause that is kept by its id has.
use Rattle.std.proofs.Common.{◌≡◌, ℕ, suc, ◌<◌, Bool, true, false, List, [], ◌∷◌, length, get_or, refl, subst, arith}
use Rattle.std.specs.Prelude.{◌==◌, if◌then◌else◌, fold, All, Option, Some, None}
use Rattle.std.proofs.lemmas.List.Elements.{All-get_or}
use Rattle.base.specs.Literal.{negation}
use Rattle.drup.specs.declared.hints.Open.{Open}
use Rattle.drup.specs.declared.hints.Open.TheVariants as opening
use Rattle.drup.specs.Propagation.{Literals}
use Rattle.drup.specs.IdPlaces.{place_of}
use Rattle.drup.specs.Named.{Kept, at_place, clause_of, AreNamed}
use Rattle.drup.specs.Hints.{with_seen, and_open, open_in}

abbrev IsBelowIn : ℕ → Open → Type 0
IsBelowIn limit opening.Nothing = Unit {0}
IsBelowIn limit (opening.Only l) = l < limit
IsBelowIn limit opening.More = Unit {0}

and_below : (limit x : ℕ) (o : Open) → IsBelowIn limit o → x < limit → IsBelowIn limit (and_open o x)
and_below limit x opening.Nothing b h = h
and_below limit x (opening.Only k) b h = pick (k == x)
  where
    pick : (t : Bool) → IsBelowIn limit (if t then opening.Only k else opening.More)
    pick true = b
    pick false = tt
and_below limit x opening.More b h = tt

seen_below : (limit x : ℕ) (s : Literals) (o : Open) → IsBelowIn limit o → x < limit → IsBelowIn limit (with_seen s o x)
seen_below limit x s o b h = pick (s (negation x))
  where
    pick : (t : Bool) → IsBelowIn limit (if t then o else and_open o x)
    pick true = b
    pick false = and_below limit x o b h

fold_below : (limit : ℕ) (s : Literals) (o : Open) (clause : List ℕ) → IsBelowIn limit o → ((i : ℕ) → i < length clause → get_or clause i 0 < limit) → IsBelowIn limit (fold (with_seen s) o clause)
fold_below limit s o [] b h = b
fold_below limit s o (x ∷ xs) b h = fold_below limit s (with_seen s o x) xs (seen_below limit x s o b (h 0 (omega arith))) (λ i low. h (suc i) (omega (arith, low)))

-- the only literal that is open is below the limit of all
pub open_below : (limit : ℕ) (s : Literals) (clause : List ℕ) (l : ℕ) → All (λ k. k < limit) clause → open_in s clause ≡ opening.Only l → l < limit
open_below limit s clause l all is = subst (IsBelowIn limit) is (fold_below limit s opening.Nothing clause tt (λ i low. All-get_or (λ k. k < limit) clause i 0 low all))

abbrev AreBelowIn : ℕ → Option (List ℕ) → Type 0
AreBelowIn limit None = Unit {0}
AreBelowIn limit (Some clause) = All (λ k. k < limit) clause

-- the clause of an id has literals below the limit
pub named_below : (n : Kept) (limit id : ℕ) (clause : List ℕ) → AreNamed n limit → clause_of n id ≡ Some clause → All (λ k. k < limit) clause
named_below n limit id clause named is = subst (AreBelowIn limit) is (at (place_of n.places id) refl)
  where
    at : (o : Option ℕ) → place_of n.places id ≡ o → AreBelowIn limit (at_place n.clauses o)
    at None e = tt
    at (Some k) e = All-get_or (All (λ l. l < limit)) n.clauses k [] (named.inside id k e) named.below
