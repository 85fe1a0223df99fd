-- The lines of a witness of an engine form up to its claim.
use Rattle.std.proofs.Common.{◌≡◌, ◌≢◌, ℕ, List, [], ◌∷◌, ◌++◌, Option, Some, None, Ok, refl, sym, ap, subst, arith}
use Rattle.std.specs.Io.KnownBytes.{prepend_known, Consumes, Keeps}
use Rattle.std.proofs.KnownBytes.{Consumes-trans, Consumes-kept}
use Rattle.aiger.specs.Circuit.{Circuit, IsCircuit}
use Rattle.witness.specs.Readings.{reading}
use Rattle.witness.specs.declared.bit_lines.BitLines.{BitLines}
use Rattle.witness.specs.BitStands.{StandsForBitLines}
use Rattle.restore.specs.FormSteps.{IsHead, IsHeadOrClaimed, ReadsClaim}

begins_at : (a : Option (List ℕ)) (rest : List ℕ) → rest ≡ [] → Consumes a (prepend_known rest a) []
begins_at None rest none = tt
begins_at (Some xs) rest none = ap (λ (r : List ℕ). r ++ xs) (sym none)

abbrev pub HeadGiven : Option (List ℕ) → Option (List ℕ) → BitLines → BitLines → Type 0
HeadGiven source known begun judge = (d : Circuit) → IsCircuit d → StandsForBitLines d begun [] → (front : List ℕ) × (Consumes source known front × IsHead d judge front)

nothing_read : (d : Circuit) (judge : BitLines) → StandsForBitLines d judge [] → IsHead d judge []
unfolding reading
nothing_read d judge h = record { at = h; few = omega arith; no_frame = refl; not_done = refl }

pub head_begins : (source : Option (List ℕ)) (rest : List ℕ) (judge : BitLines) → rest ≡ [] → HeadGiven source (prepend_known rest source) judge judge
head_begins source rest judge none = λ d valid h. ([], (begins_at source rest none, nothing_read d judge h))

abbrev pub TakesHead : BitLines → BitLines → List ℕ → Option ℕ → Type 0
TakesHead judge next line claimed = (d : Circuit) (text : List ℕ) → IsCircuit d → IsHead d judge text → IsHeadOrClaimed d next (text ++ (line ++ 10 ∷ [])) claimed

pub head_more : (source known now : Option (List ℕ)) (begun judge next : BitLines) (line : List ℕ) (claimed : Option ℕ) → claimed ≡ None → HeadGiven source known begun judge → Consumes known now (line ++ 10 ∷ []) → TakesHead judge next line claimed → HeadGiven source now begun next
head_more source known now begun judge next line claimed none given consumes takes = λ d valid h.
    let g = given d valid h in
    (g.0 ++ (line ++ 10 ∷ []), (Consumes-trans source known now g.0 (line ++ 10 ∷ []) g.1.0 consumes, subst (IsHeadOrClaimed d next (g.0 ++ (line ++ 10 ∷ []))) none (takes d g.0 valid g.1.1)))

pub head_ends : (source known now : Option (List ℕ)) (begun judge next : BitLines) (line : List ℕ) (claimed : Option ℕ) → claimed ≢ None → HeadGiven source known begun judge → Consumes known now (line ++ 10 ∷ []) → TakesHead judge next line claimed
    → (d : Circuit) → IsCircuit d → StandsForBitLines d begun [] → ReadsClaim (Ok claimed) d source now next
head_ends source known now begun judge next line None some given consumes takes = absurd (some refl)
head_ends source known now begun judge next line (Some j) some given consumes takes = λ d valid h.
    let g = given d valid h in
    (g.0 ++ (line ++ 10 ∷ []), (Consumes-trans source known now g.0 (line ++ 10 ∷ []) g.1.0 consumes, takes d g.0 valid g.1.1))

pub head_only : (source known known' : Option (List ℕ)) (begun judge : BitLines) → HeadGiven source known begun judge → Keeps known known' → (d : Circuit) → IsCircuit d → StandsForBitLines d begun [] → ReadsClaim (Ok None) d source known' judge
head_only source known known' begun judge given keeps d valid h = let g = given d valid h in (g.0, (Consumes-kept source known known' g.0 g.1.0 keeps, g.1.1))
