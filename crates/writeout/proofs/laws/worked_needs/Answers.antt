-- The input stands before the state.
use Rattle.std.proofs.Common.{◌≡◌, ℕ, zero, suc, ◌<◌, List, [], ◌∷◌, take, slice_get, Option, Some, None, refl, sym, ap, subst, ◌∙◌, arith}
use Rattle.std.specs.Prelude.{Contains}
use Rattle.std.specs.List.{AllByRecursion}
use Rattle.std.proofs.lemmas.Option.{none-some, same_Some}
use Rattle.btor2.specs.declared.item.Body.TheVariants as body
use Rattle.full.specs.Lines.{Says, form, FullLine}
use Rattle.writeout.specs.Ways.{way_of}
use Rattle.writeout.specs.Needs.{needed, place_of}
use Rattle.writeout.specs.Worked.{begun, begun_state}
use Rattle.writeout.proofs.OrderLemmas.{one_contained}
use Rattle.writeout.proofs.laws.worked_needs.Goals as goal

abbrev sorted : List ℕ
sorted = 0 ∷ 2 ∷ 1 ∷ 3 ∷ []

abbrev line : ℕ → Says → FullLine
line id b = record { id = id; symbol = None; says = b }

abbrev StandBefore : List ℕ → FullLine → Type 0
StandBefore front x = AllByRecursion (λ a. Contains front (place_of begun a)) (needed begun x)

stands : (k : ℕ) → k < 4 → Contains sorted k
stands zero h = (0, omega arith, refl)
stands (suc zero) h = (2, omega arith, refl)
stands (suc (suc zero)) h = (1, omega arith, refl)
stands (suc (suc (suc zero))) h = (3, omega arith, refl)
stands (suc (suc (suc (suc k)))) h = absurd (omega arith)

within : (i k : ℕ) → slice_get sorted i ≡ Some k → k < 4
within zero k e = let h : 0 ≡ k = same_Some 0 k e in omega arith
within (suc zero) k e = let h : 2 ≡ k = same_Some 2 k e in omega arith
within (suc (suc zero)) k e = let h : 1 ≡ k = same_Some 1 k e in omega arith
within (suc (suc (suc zero))) k e = let h : 3 ≡ k = same_Some 3 k e in omega arith
within (suc (suc (suc (suc i)))) k e = absurd (none-some k e)

one_behind : (front : List ℕ) (n : ℕ) (y : FullLine) → slice_get begun n ≡ Some y → StandBefore front y → (k : ℕ) (x : FullLine) → ◌≡◌ {A = Option ℕ} (Some n) (Some k) → slice_get begun k ≡ Some x → StandBefore front x
one_behind front n y g h k x e f = subst (StandBefore front) (same_Some y x (sym g ∙ ap (slice_get begun) (same_Some n k e) ∙ f)) h

behind : (i k : ℕ) (x : FullLine) → slice_get sorted i ≡ Some k → slice_get begun k ≡ Some x → StandBefore (take i sorted) x
unfolding way_of
behind zero k x e f = one_behind [] 0 (line 1 (form (body.Sort 1) [])) refl tt k x e f
behind (suc zero) k x e f = one_behind (0 ∷ []) 2 (line 3 (form (body.Input 1) [])) refl tt k x e f
behind (suc (suc zero)) k x e f = one_behind (0 ∷ 2 ∷ []) 1 begun_state refl ((1, omega arith, refl), tt) k x e f
behind (suc (suc (suc zero))) k x e f = one_behind (0 ∷ 2 ∷ 1 ∷ []) 3 (line 4 (form (body.Init 1 2 3) [])) refl tt k x e f
behind (suc (suc (suc (suc i)))) k x e f = absurd (none-some k e)

pub returns-clause-order : goal.returns-clause-order
returns-clause-order c = record { stands = stands; within = within; behind = behind }

pub returns-clause-before : goal.returns-clause-before
unfolding way_of
returns-clause-before c = λ o. omega (arith, one_contained 0 2 (o.behind 1 1 begun_state refl refl).0)
