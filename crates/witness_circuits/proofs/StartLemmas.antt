-- Bits that begin as resets say, and the tests of it.
use Rattle.std.proofs.Common.{◌≡◌, ℕ, Bool, true, false, ◌&&◌, not, List, [], ◌∷◌, length, Option, Some, None, refl, sym, ap, ap₂}
use Rattle.std.proofs.lemmas.Bool.{and_parts}
use Rattle.aiger.specs.declared.circuit.Latch.{Latch}
use Rattle.aiger.specs.declared.circuit.Reset.{Reset}
use Rattle.aiger.specs.declared.circuit.Reset.TheVariants as reset
use Rattle.base.specs.Literal.{Valuation, literal_value}
use Rattle.aiger.specs.Trace.{AgreesWithReset, AreInitial}
use Rattle.witness_circuits.specs.Guards.{beside}
use Rattle.witness_circuits.specs.Made.{agrees, own_initial}

agrees_true : (r : Reset) (b : Bool) → AgreesWithReset r b → agrees r b ≡ true
agrees_true reset.Zero b h = ap not h
agrees_true reset.One b h = h
agrees_true reset.Free b h = refl

true_agrees : (r : Reset) (b : Bool) → agrees r b ≡ true → AgreesWithReset r b
true_agrees reset.Zero true h = sym h
true_agrees reset.Zero false h = refl
true_agrees reset.One b h = h
true_agrees reset.Free b h = tt

pub initial_true : (ls : List Latch) (bs : List Bool) → AreInitial ls bs → own_initial [] ls bs ≡ true
initial_true [] bs h = refl
initial_true (l ∷ ls) [] h = refl
initial_true (l ∷ ls) (b ∷ bs) h = ap₂ ◌&&◌ (agrees_true l.reset b h.0) (initial_true ls bs h.1)

pub true_initial : (ls : List Latch) (bs : List Bool) → length bs ≡ length ls → own_initial [] ls bs ≡ true → AreInitial ls bs
true_initial [] [] e h = tt
true_initial [] (b ∷ bs) e h = absurd (cc)
true_initial (l ∷ ls) [] e h = absurd (cc)
true_initial (l ∷ ls) (b ∷ bs) e h =
    let both = and_parts (agrees l.reset b) (own_initial [] ls bs) h in
    let rest : length bs ≡ length ls = cc in
    (true_agrees l.reset b both.0, true_initial ls bs rest both.1)

pub own_true : (v : Valuation) (ms : List (Option ℕ)) (ls : List Latch) (bs : List Bool) → AreInitial ls bs → own_initial ms ls (beside v ms bs) ≡ true
own_true v [] [] bs h = refl
own_true v [] (l ∷ ls) bs h = refl
own_true v (m ∷ ms) [] bs h = refl
own_true v (m ∷ ms) (l ∷ ls) [] h = absurd h
own_true v (None ∷ ms) (l ∷ ls) (b ∷ bs) h = ap₂ ◌&&◌ (agrees_true l.reset b h.0) (own_true v ms ls bs h.1)
own_true v (Some n ∷ ms) (l ∷ ls) (b ∷ bs) h = own_true v ms ls bs h.1

-- initial bits, of which the own ones are these
abbrev pub first : Reset → Bool
first reset.Zero = false
first reset.One = true
first reset.Free = false

pub first_agrees : (r : Reset) → AgreesWithReset r (first r)
first_agrees reset.Zero = refl
first_agrees reset.One = refl
first_agrees reset.Free = tt

pub filled : List (Option ℕ) → List Latch → List Bool → List Bool
filled [] ls bs = []
filled (m ∷ ms) [] bs = []
filled (m ∷ ms) (l ∷ ls) [] = []
filled (None ∷ ms) (l ∷ ls) (b ∷ bs) = b ∷ filled ms ls bs
filled (Some n ∷ ms) (l ∷ ls) (b ∷ bs) = first l.reset ∷ filled ms ls bs

pub filled_initial : (ms : List (Option ℕ)) (ls : List Latch) (bs : List Bool) → length ms ≡ length ls → length bs ≡ length ls → own_initial ms ls bs ≡ true → AreInitial ls (filled ms ls bs)
unfolding filled
filled_initial [] [] bs d e h = tt
filled_initial [] (l ∷ ls) bs d e h = absurd (cc)
filled_initial (m ∷ ms) [] bs d e h = tt
filled_initial (m ∷ ms) (l ∷ ls) [] d e h = absurd (cc)
filled_initial (None ∷ ms) (l ∷ ls) (b ∷ bs) d e h =
    let both = and_parts (agrees l.reset b) (own_initial ms ls bs) h in
    let some : length ms ≡ length ls = cc in
    let rest : length bs ≡ length ls = cc in
    (true_agrees l.reset b both.0, filled_initial ms ls bs some rest both.1)
filled_initial (Some n ∷ ms) (l ∷ ls) (b ∷ bs) d e h =
    let some : length ms ≡ length ls = cc in
    let rest : length bs ≡ length ls = cc in
    (first_agrees l.reset, filled_initial ms ls bs some rest h)

pub filled_beside : (v : Valuation) (ms : List (Option ℕ)) (ls : List Latch) (bs : List Bool) → length ms ≡ length ls → beside v ms (filled ms ls bs) ≡ beside v ms bs
unfolding filled
filled_beside v [] ls bs d = refl
filled_beside v (m ∷ ms) [] bs d = absurd (cc)
filled_beside v (m ∷ ms) (l ∷ ls) [] d = refl
filled_beside v (None ∷ ms) (l ∷ ls) (b ∷ bs) d = let some : length ms ≡ length ls = cc in ap (λ (rest : List Bool). b ∷ rest) (filled_beside v ms ls bs some)
filled_beside v (Some n ∷ ms) (l ∷ ls) (b ∷ bs) d = let some : length ms ≡ length ls = cc in ap (λ (rest : List Bool). literal_value v n ∷ rest) (filled_beside v ms ls bs some)
