-- Places of lines.
use Rattle.std.proofs.Common.{◌≢◌, ◌≡◌, ℕ, suc, Bool, true, false, cond, List, [], ◌∷◌, ◌++◌, slice_get, Option, Some, None, nat_eq, is_some, refl, sym, ap, subst, ◌∙◌, arith}
use Prim.Native.Nat.{zero}
use Rattle.std.proofs.Common.{length, get_or, ◌<◌}
use Rattle.std.proofs.lemmas.Grind.{common_steps}
use Rattle.std.proofs.lemmas.Option.{unwrap_or-slice_get}
use Rattle.full.specs.Runs.{at_place}
use Rattle.std.proofs.lemmas.Option.{none-some, same_Some}
use Rattle.std.proofs.lemmas.Bool.{false≢true}
use Rattle.full.specs.Lines.{FullLine, find_line, sort_of_node, sort_named}
use Rattle.full.specs.Agreement.{IsFullAfter, IsFullModel}
use Rattle.full.proofs.FullLookUps.{node_found}
use Rattle.writeout.specs.Needs.{place_of}

pub eq_own : (n : ℕ) → nat_eq n n ≡ true
eq_own n = grind arith

eq_is : (m n : ℕ) → nat_eq m n ≡ true → m ≡ n
eq_is m n h = grind arith

-- the line that is found has the id
pub found_id : (lines : List FullLine) (id : ℕ) (x : FullLine) → find_line lines id ≡ Some x → id ≡ x.id
found_id [] id x h = absurd (none-some x h)
found_id (y ∷ ys) id x h = by (nat_eq id y.id) refl h (λ k. found_id ys id x k)
  where
    by : (b : Bool) → nat_eq id y.id ≡ b → cond b (Some y) (find_line ys id) ≡ Some x → (find_line ys id ≡ Some x → id ≡ x.id) → id ≡ x.id
    by true e k rest = eq_is id y.id e ∙ ap (λ (z : FullLine). z.id) (same_Some y x k)
    by false e k rest = rest k

-- and stands at its place
pub place_get : (lines : List FullLine) (id : ℕ) (x : FullLine) → find_line lines id ≡ Some x → slice_get lines (place_of lines id) ≡ Some x
place_get [] id x h = absurd (none-some x h)
place_get (y ∷ ys) id x h = by (nat_eq id y.id) h (λ k. place_get ys id x k)
  where
    by : (b : Bool) → cond b (Some y) (find_line ys id) ≡ Some x → (find_line ys id ≡ Some x → slice_get ys (place_of ys id) ≡ Some x) → slice_get (y ∷ ys) (cond b 0 (suc (place_of ys id))) ≡ Some x
    by true k rest = k
    by false k rest = rest k

find_none : (before : List FullLine) (y : FullLine) (id : ℕ) → find_line (before ++ y ∷ []) id ≡ None → (find_line before id ≡ None) × (nat_eq id y.id ≡ false)
find_none [] y id h = by (nat_eq id y.id) refl h
  where
    by : (b : Bool) → nat_eq id y.id ≡ b → cond b (Some y) None ≡ None → (find_line [] id ≡ None) × (nat_eq id y.id ≡ false)
    by true e k = absurd (none-some y (sym k))
    by false e k = (refl, e)
find_none (x ∷ xs) y id h = by (nat_eq id x.id) h (λ k. find_none xs y id k)
  where
    by : (b : Bool) → cond b (Some x) (find_line (xs ++ y ∷ []) id) ≡ None → (find_line (xs ++ y ∷ []) id ≡ None → (find_line xs id ≡ None) × (nat_eq id y.id ≡ false)) → (cond b (Some x) (find_line xs id) ≡ None) × (nat_eq id y.id ≡ false)
    by true k rest = absurd (none-some x (sym k))
    by false k rest = rest k

fresh_at : (before xs : List FullLine) (k : ℕ) (x : FullLine) → IsFullAfter before xs → slice_get xs k ≡ Some x → find_line before x.id ≡ None
fresh_at before [] k x h e = absurd (none-some x e)
fresh_at before (y ∷ ys) zero x h e = subst (λ (z : FullLine). find_line before z.id ≡ None) (same_Some y x e) h.0.fresh
fresh_at before (y ∷ ys) (suc k) x h e = (find_none before y x.id (fresh_at (before ++ y ∷ []) ys k x h.1 e)).0

apart : (before ys : List FullLine) (y x : FullLine) (k : ℕ) → IsFullAfter (before ++ y ∷ []) ys → slice_get ys k ≡ Some x → nat_eq x.id y.id ≡ false
apart before ys y x k h e = (find_none before y x.id (fresh_at (before ++ y ∷ []) ys k x h e)).1

place_from : (before xs : List FullLine) (k : ℕ) (x : FullLine) → IsFullAfter before xs → slice_get xs k ≡ Some x → place_of xs x.id ≡ k
place_from before [] k x h e = absurd (none-some x e)
place_from before (y ∷ ys) zero x h e = subst (λ (z : FullLine). cond (nat_eq z.id y.id) 0 (suc (place_of ys z.id)) ≡ 0) (same_Some y x e) (ap (λ (b : Bool). cond b 0 (suc (place_of ys y.id))) (eq_own y.id))
place_from before (y ∷ ys) (suc k) x h e =
    ap (λ (b : Bool). cond b 0 (suc (place_of ys x.id))) (apart before ys y x k h.1 e) ∙ ap (λ (n : ℕ). suc n) (place_from (before ++ y ∷ []) ys k x h.1 e)

-- the place of a line of a model is where it stands
pub place_is : (full : List FullLine) (k : ℕ) (x : FullLine) → IsFullModel full → slice_get full k ≡ Some x → place_of full x.id ≡ k
place_is full k x w e = place_from [] full k x w e

-- a place at which the line with an id is found is its place
pub place_found : (full : List FullLine) (id k : ℕ) → IsFullModel full → is_some (find_line full id) ≡ true → find_line full id ≡ slice_get full k → place_of full id ≡ k
place_found full id k w there e = by (find_line full id) refl there
  where
    by : (o : Option FullLine) → find_line full id ≡ o → is_some o ≡ true → place_of full id ≡ k
    by None f there = absurd (false≢true there)
    by (Some x) f there = ap (place_of full) (found_id full id x f) ∙ place_is full k x w (sym e ∙ f)

-- the line of a node
pub record NodeLine (full : List FullLine) (id : ℕ) : Type 0 where
  pub line : FullLine
  pub at : slice_get full (place_of full id) ≡ Some line
  pub same : id ≡ line.id
  pub there : is_some (find_line full id) ≡ true
  pub value : is_some (sort_named line.says) ≡ true

pub node_line : (full : List FullLine) (id : ℕ) → is_some (sort_of_node full id) ≡ true → NodeLine full id
node_line full id h =
    let found = node_found full id h in
    record { line = found.0; at = place_get full id found.0 found.1; same = found_id full id found.0 found.1; there = ap is_some found.1; value = found.2 }

get_or_any : (numbers : List ℕ) (k d e : ℕ) → k < length numbers → get_or numbers k d ≡ get_or numbers k e
get_or_any numbers k d e h = grind (arith, common_steps)

-- what a list of numbers has there
pub place_at : (full : List FullLine) (id k : ℕ) (numbers : List ℕ) (n : ℕ) → IsFullModel full → is_some (find_line full id) ≡ true → find_line full id ≡ slice_get full k → k < length full → length numbers ≡ length full
    → n ≡ get_or numbers k n → n ≡ at_place numbers (place_of full id)
place_at full id k numbers n w there found within same here =
    here ∙ get_or_any numbers k n 0 (subst (λ (m : ℕ). k < m) (sym same) within) ∙ sym (unwrap_or-slice_get numbers k 0) ∙ ap (at_place numbers) (sym (place_found full id k w there found))

-- what is read of a list of numbers at a place
pub at_here : (numbers : List ℕ) (k n : ℕ) → k < length numbers → n ≡ get_or numbers k n → n ≡ at_place numbers k
at_here numbers k n within here = here ∙ get_or_any numbers k n 0 within ∙ sym (unwrap_or-slice_get numbers k 0)

pub other_than : (n : ℕ) → n ≢ 0 → nat_eq n 0 ≡ false
other_than n h = grind arith
