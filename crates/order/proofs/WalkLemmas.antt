-- The steps of a walk.
use Rattle.std.proofs.Common.{◌≡◌, ℕ, zero, suc, ◌+◌, ◌-◌, ◌*◌, ◌<◌, ◌≤◌, inl, inr, List, [], ◌∷◌, ◌++◌, Option, Some, None, unwrap_or, length, slice_get, set, replicate, get_or, take, refl, sym, ap, subst, ◌∙◌, arith}
use Rattle.std.specs.Prelude.{Contains}
use Rattle.std.specs.List.{AllByRecursion}
use Rattle.std.proofs.lemmas.Bool.{cases_eq, cases_lt}
use Rattle.std.proofs.lemmas.List.{length-set, length-append, length-replicate, take_more, take_all, take-append-le}
use Rattle.std.proofs.lemmas.List.Elements.{All-push, All-from_get_or, All-from_recursion, recursion_from_All, Contains-append_left}
use Rattle.std.proofs.lemmas.Option.{slice_get_within, slice_get_past, slice_get-get_or, slice_get_read, get_or_from_slice_get}
use Rattle.order.specs.declared.walk.Progress.{Progress}
use Rattle.order.specs.declared.walk.Progress.TheVariants.{New, Started, Done}
use Rattle.order.specs.Orders.{needs_of, StandBehind, AreNumbers, IsOrder, IsPath, IsInCircle}
use Rattle.order.specs.Walk.{started_of, done_of, IsChain, IsUnderway, NoneBecomesNew, steps_left, all_steps_left}
use Rattle.order.proofs.CountLemmas.{one_if, one_if_same, one_if_other, times, times-cons, times-push, counted, contained}
use Rattle.order.proofs.OrderLemmas.{needed}

-- ---- a progress set

pub set_same : (progress : List Progress) (k : ℕ) (p : Progress) → k < length progress → slice_get (set progress k p) k ≡ Some p
set_same [] k p h = absurd (omega arith)
set_same (x ∷ progress) zero p h = refl
set_same (x ∷ progress) (suc k) p h = set_same progress k p (omega arith)

pub set_other : (progress : List Progress) (k j : ℕ) (p : Progress) → (j ≡ k → ⊥) → slice_get (set progress k p) j ≡ slice_get progress j
set_other [] k j p h = refl
set_other (x ∷ progress) zero zero p h = absurd (h refl)
set_other (x ∷ progress) zero (suc j) p h = refl
set_other (x ∷ progress) (suc k) zero p h = refl
set_other (x ∷ progress) (suc k) (suc j) p h = set_other progress k j p (λ e. h (ap suc e))

-- ---- steps that are left

left-set : (needs : List (List ℕ)) (progress : List Progress) (k : ℕ) (old new : Progress) → length progress ≡ length needs → slice_get progress k ≡ Some old
    → all_steps_left needs (set progress k new) + steps_left (length (needs_of needs k)) old ≡ all_steps_left needs progress + steps_left (length (needs_of needs k)) new
left-set [] progress k old new n e = absurd (omega (arith, slice_get_within progress k old e))
left-set (row ∷ needs) [] k old new n e = absurd (omega arith)
left-set (row ∷ needs) (p ∷ progress) zero old new n e =
    let same : p ≡ old = cc in
    rw same (omega arith)
left-set (row ∷ needs) (p ∷ progress) (suc k) old new n e = omega (arith, left-set needs progress k old new (omega arith) e)

-- ---- chains

chain-front : (needs : List (List ℕ)) (front back : List ℕ) → IsChain needs (front ++ back) → IsChain needs front
chain-front needs [] back c = tt
chain-front needs (k ∷ []) back c = tt
chain-front needs (k ∷ next ∷ front) back c = (c.0, chain-front needs (next ∷ front) back c.1)

chain-tail : (needs : List (List ℕ)) (x : ℕ) (more : List ℕ) → IsChain needs (x ∷ more) → IsChain needs more
chain-tail needs x [] c = tt
chain-tail needs x (next ∷ more) c = c.1

pub chain-push : (needs : List (List ℕ)) (front : List ℕ) (k m : ℕ) → IsChain needs (front ++ k ∷ []) → Contains (needs_of needs k) m → IsChain needs ((front ++ k ∷ []) ++ m ∷ [])
chain-push needs [] k m c h = (h, tt)
chain-push needs (x ∷ []) k m c h = (c.0, (h, tt))
chain-push needs (x ∷ y ∷ front) k m c h = (c.0, chain-push needs (y ∷ front) k m c.1 h)

-- a number of a chain whose last number needs it lies on a circle
chain-path : (needs : List (List ℕ)) (x : ℕ) (front : List ℕ) (k m : ℕ) → IsChain needs (x ∷ (front ++ k ∷ [])) → Contains (needs_of needs k) m → IsPath needs x (front ++ k ∷ []) m
chain-path needs x [] k m c h = (c.0, h)
chain-path needs x (next ∷ front) k m c h = (c.0, chain-path needs next front k m c.1 h)

circle_in : (needs : List (List ℕ)) (front : List ℕ) (k m : ℕ) → IsChain needs (front ++ k ∷ []) → Contains (needs_of needs k) m → 1 ≤ times m (front ++ k ∷ []) → IsInCircle needs m
circle_in needs [] k m c h n = elim (cases_eq k m) [
  | inl e ↦ ([], subst (λ x. Contains (needs_of needs x) m) e h)
  | inr e ↦ absurd (omega (arith, times-cons m k [], one_if_other k m e))
]
circle_in needs (x ∷ front) k m c h n = elim (cases_eq x m) [
  | inl e ↦ (front ++ k ∷ [], subst (λ y. IsPath needs y (front ++ k ∷ []) m) e (chain-path needs x front k m c h))
  | inr e ↦ circle_in needs front k m (chain-tail needs x (front ++ k ∷ []) c) h (omega (arith, times-cons m x (front ++ k ∷ []), one_if_other x m e))
]

-- ---- the top

pub top_last : (stack : List ℕ) (t : ℕ) → slice_get stack (length stack - 1) ≡ Some t → stack ≡ take (length stack - 1) stack ++ t ∷ []
top_last stack t e =
    let inside : length stack - 1 < length stack = slice_get_within stack (length stack - 1) t e in
    sym (take_all (length stack - 1 + 1) stack (omega arith)) ∙ take_more stack (length stack - 1) t inside
    ∙ ap (λ x. take (length stack - 1) stack ++ x ∷ []) (get_or_from_slice_get stack (length stack - 1) t t e)

pub no_top : (stack : List ℕ) → slice_get stack (length stack - 1) ≡ None → stack ≡ []
no_top [] e = refl
no_top (x ∷ stack) e = absurd (let there = slice_get-get_or (x ∷ stack) (length (x ∷ stack) - 1) x (omega arith) in cc)

is_started : (o : Option Progress) → 1 ≤ started_of o → (place : ℕ) × (o ≡ Some (Started place))
is_started None h = absurd (omega arith)
is_started (Some New) h = absurd (omega arith)
is_started (Some (Started place)) h = (place, refl)
is_started (Some Done) h = absurd (omega arith)

-- the number on the top is started
pub top_started : {needs : List (List ℕ)} {progress : List Progress} {stack order : List ℕ} {t : ℕ} → IsUnderway needs progress stack order → slice_get stack (length stack - 1) ≡ Some t → (place : ℕ) × (slice_get progress t ≡ Some (Started place))
top_started {progress = progress} {stack = stack} {t = t} u e = is_started (slice_get progress t) (omega (arith, counted t stack (length stack - 1) e, u.on_stack t))

-- ---- what a write of a progress changes

-- what goes by the progress of a number
value-set : (f : Option Progress → ℕ) (progress : List Progress) (m k : ℕ) (old new : Progress) → slice_get progress m ≡ Some old
    → f (slice_get (set progress m new) k) + one_if m k * f (Some old) ≡ f (slice_get progress k) + one_if m k * f (Some new)
value-set f progress m k old new is = elim (cases_eq m k) [
  | inl e ↦
      let now : f (slice_get (set progress m new) k) ≡ f (Some new) = ap f (ap (slice_get (set progress m new)) (sym e) ∙ set_same progress m new (slice_get_within progress m old is)) in
      let was : f (slice_get progress k) ≡ f (Some old) = ap f (ap (slice_get progress) (sym e) ∙ is) in
      rw (one_if_same m k e) (omega (arith, now, was))
  | inr e ↦
      let same : f (slice_get (set progress m new) k) ≡ f (slice_get progress k) = ap f (set_other progress m k new (λ h. e (sym h))) in
      rw (one_if_other m k e) (omega (arith, same))
]

-- no number has become new
pub none_new_set : (progress : List Progress) (m : ℕ) (p : Progress) → m < length progress → (p ≡ New → ⊥) → NoneBecomesNew progress (set progress m p)
none_new_set progress m p inside not_new k e = elim (cases_eq k m) [
  | inl same ↦ absurd (not_new (let now = set_same progress m p inside in let there : slice_get (set progress m p) m ≡ Some New = ap (slice_get (set progress m p)) (sym same) ∙ e in cc))
  | inr other ↦ sym (set_other progress m k p other) ∙ e
]

-- ---- the walk under way

fresh : (f : Option Progress → ℕ) → f None ≡ 0 → f (Some New) ≡ 0 → (n k : ℕ) → f (slice_get (replicate n New) k) ≡ 0
fresh f none new zero k = none
fresh f none new (suc n) zero = new
fresh f none new (suc n) (suc k) = fresh f none new n k

not_started : (n k place : ℕ) → slice_get (replicate n New) k ≡ Some (Started place) → ⊥
not_started n k place e =
    let none : started_of (slice_get (replicate n New) k) ≡ 0 = fresh started_of refl refl n k in
    let one : started_of (slice_get (replicate n New) k) ≡ 1 = ap started_of e in
    omega (arith, none, one)

-- as it begins
pub underway_first : (needs : List (List ℕ)) → IsUnderway needs (replicate (length needs) New) [] []
underway_first needs = record {
  as_many = length-replicate (length needs) New;
  on_stack = λ k. sym (fresh started_of refl refl (length needs) k);
  in_order = λ k. sym (fresh done_of refl refl (length needs) k);
  chain = tt;
  looked = λ k place e. absurd (not_started (length needs) k place e);
  behind = λ i k e. absurd (cc);
}

-- a number that the walk had not come to stands on the stack
pub underway_start : (needs : List (List ℕ)) (progress : List Progress) (stack order : List ℕ) (m : ℕ) → IsUnderway needs progress stack order → slice_get progress m ≡ Some New → IsChain needs (stack ++ m ∷ []) → IsUnderway needs (set progress m (Started 0)) (stack ++ m ∷ []) order
underway_start needs progress stack order m u new chain = record {
  as_many = length-set progress m (Started 0) ∙ u.as_many;
  on_stack = λ k. omega (arith, value-set started_of progress m k New (Started 0) new, u.on_stack k, times-push k stack m);
  in_order = λ k. omega (arith, value-set done_of progress m k New (Started 0) new, u.in_order k);
  chain = chain;
  looked = λ k place e. elim (cases_eq k m) [
    | inl same ↦
        let now = set_same progress m (Started 0) (slice_get_within progress m New new) in
        let there : slice_get (set progress m (Started 0)) m ≡ Some (Started place) = ap (slice_get (set progress m (Started 0))) (sym same) ∙ e in
        let none : 0 ≡ place = cc in
        subst (λ n. (n ≤ length (needs_of needs k)) × AllByRecursion (Contains order) (take n (needs_of needs k))) none (omega arith, tt)
    | inr other ↦ u.looked k place (sym (set_other progress m k (Started 0) other) ∙ e)
  ];
  behind = u.behind;
}

-- one more need of a number stands in the order
one_more : (order row : List ℕ) (place m : ℕ) → AllByRecursion (Contains order) (take place row) → slice_get row place ≡ Some m → Contains order m → (place + 1 ≤ length row) × AllByRecursion (Contains order) (take (place + 1) row)
one_more order row place m before at here =
    let inside : place < length row = slice_get_within row place m at in
    let front : take (place + 1) row ≡ take place row ++ m ∷ [] = take_more row place m inside ∙ ap (λ x. take place row ++ x ∷ []) (get_or_from_slice_get row place m m at) in
    let more = recursion_from_All (Contains order) (take place row ++ m ∷ []) (All-push (Contains order) (take place row) m (All-from_recursion (Contains order) (take place row) before) here) in
    (omega arith, subst (AllByRecursion (Contains order)) (sym front) more)

pub underway_look : (needs : List (List ℕ)) (progress : List Progress) (stack order : List ℕ) (t place m : ℕ) → IsUnderway needs progress stack order → slice_get progress t ≡ Some (Started place) → slice_get (needs_of needs t) place ≡ Some m → slice_get progress m ≡ Some Done → IsUnderway needs (set progress t (Started (place + 1))) stack order
underway_look needs progress stack order t place m u started need done =
    let is_done : done_of (slice_get progress m) ≡ 1 = ap done_of done in
    let here : Contains order m = contained m order (omega (arith, u.in_order m, is_done)) in
    let more = one_more order (needs_of needs t) place m (u.looked t place started).1 need here in
    record {
      as_many = length-set progress t (Started (place + 1)) ∙ u.as_many;
      on_stack = λ k. omega (arith, value-set started_of progress t k (Started place) (Started (place + 1)) started, u.on_stack k);
      in_order = λ k. omega (arith, value-set done_of progress t k (Started place) (Started (place + 1)) started, u.in_order k);
      chain = u.chain;
      looked = λ k q e. elim (cases_eq k t) [
        | inl same ↦
            let now = set_same progress t (Started (place + 1)) (slice_get_within progress t (Started place) started) in
            let there : slice_get (set progress t (Started (place + 1))) t ≡ Some (Started q) = ap (slice_get (set progress t (Started (place + 1)))) (sym same) ∙ e in
            let next : place + 1 ≡ q = cc in
            subst (λ n. (n ≤ length (needs_of needs k)) × AllByRecursion (Contains order) (take n (needs_of needs k))) next
            (subst (λ j. (place + 1 ≤ length (needs_of needs j)) × AllByRecursion (Contains order) (take (place + 1) (needs_of needs j))) (sym same) more)
        | inr other ↦ u.looked k q (sym (set_other progress t k (Started (place + 1)) other) ∙ e)
      ];
      behind = u.behind;
    }

-- the number on the top, whose needs stand in the order, comes behind them
front_get : (xs : List ℕ) (y i : ℕ) → i < length xs → slice_get (xs ++ y ∷ []) i ≡ slice_get xs i
front_get [] y i h = absurd (omega arith)
front_get (x ∷ xs) y zero h = refl
front_get (x ∷ xs) y (suc i) h = front_get xs y i (omega arith)

end_get : (xs : List ℕ) (y : ℕ) → slice_get (xs ++ y ∷ []) (length xs) ≡ Some y
end_get [] y = refl
end_get (x ∷ xs) y = end_get xs y

behind-push : (needs : List (List ℕ)) (order : List ℕ) (t : ℕ) → StandBehind needs order → AllByRecursion (Contains order) (needs_of needs t) → StandBehind needs (order ++ t ∷ [])
behind-push needs order t behind all i k e = elim (cases_lt i (length order)) [
  | inl before ↦
      subst (λ front. AllByRecursion (Contains front) (needs_of needs k)) (sym (take-append-le i order (t ∷ []) (omega arith))) (behind i k (sym (front_get order t i before) ∙ e))
  | inr past ↦
      let inside = slice_get_within (order ++ t ∷ []) i k e in
      let last : i ≡ length order = omega (arith, length-append order (t ∷ [])) in
      let at : slice_get (order ++ t ∷ []) (length order) ≡ Some k = ap (slice_get (order ++ t ∷ [])) (sym last) ∙ e in
      let there = end_get order t in
      let same : t ≡ k = cc in
      let front : take i (order ++ t ∷ []) ≡ order = take-append-le i order (t ∷ []) (omega arith) ∙ take_all i order (omega arith) in
      subst (λ xs. AllByRecursion (Contains xs) (needs_of needs k)) (sym front) (subst (λ j. AllByRecursion (Contains order) (needs_of needs j)) same all)
]

wider : (order : List ℕ) (t : ℕ) (row : List ℕ) → AllByRecursion (Contains order) row → AllByRecursion (Contains (order ++ t ∷ [])) row
wider order t [] a = tt
wider order t (m ∷ row) a = (Contains-append_left order (t ∷ []) m a.0, wider order t row a.1)

pub underway_finish : (needs : List (List ℕ)) (progress : List Progress) (front order : List ℕ) (t place : ℕ) → IsUnderway needs progress (front ++ t ∷ []) order → slice_get progress t ≡ Some (Started place) → place ≡ length (needs_of needs t) → IsUnderway needs (set progress t Done) front (order ++ t ∷ [])
underway_finish needs progress front order t place u started all = record {
  as_many = length-set progress t Done ∙ u.as_many;
  on_stack = λ k. omega (arith, value-set started_of progress t k (Started place) Done started, u.on_stack k, times-push k front t);
  in_order = λ k. omega (arith, value-set done_of progress t k (Started place) Done started, u.in_order k, times-push k order t);
  chain = chain-front needs front (t ∷ []) u.chain;
  looked = λ k q e. elim (cases_eq k t) [
    | inl same ↦
        let now = set_same progress t Done (slice_get_within progress t (Started place) started) in
        let there : slice_get (set progress t Done) t ≡ Some (Started q) = ap (slice_get (set progress t Done)) (sym same) ∙ e in
        absurd (cc)
    | inr other ↦
        let was = u.looked k q (sym (set_other progress t k Done other) ∙ e) in
        (was.0, wider order t (take q (needs_of needs k)) was.1)
  ];
  behind = behind-push needs order t u.behind (subst (AllByRecursion (Contains order)) (take_all place (needs_of needs t) (omega arith)) (u.looked t place started).1);
}

-- a number on the stack that the top needs lies on a circle
pub underway_circle : (needs : List (List ℕ)) (progress : List Progress) (front order : List ℕ) (t m place : ℕ) → IsUnderway needs progress (front ++ t ∷ []) order → Contains (needs_of needs t) m → slice_get progress m ≡ Some (Started place) → IsInCircle needs m
underway_circle needs progress front order t m place u need started =
    let one : started_of (slice_get progress m) ≡ 1 = ap started_of started in
    circle_in needs front t m u.chain need (omega (arith, u.on_stack m, one))

-- where the stack is empty and no number is new, all stand in the order
settled : (o : Option Progress) → (o ≡ None → ⊥) → (o ≡ Some New → ⊥) → started_of o ≡ 0 → done_of o ≡ 1
settled None there old none = absurd (there refl)
settled (Some New) there old none = absurd (old refl)
settled (Some (Started place)) there old none = absurd (omega arith)
settled (Some Done) there old none = refl

has_progress : (progress : List Progress) (k : ℕ) → 1 ≤ done_of (slice_get progress k) → k < length progress
has_progress progress k h = elim (cases_lt k (length progress)) [
  | inl inside ↦ inside
  | inr past ↦
      let none : done_of (slice_get progress k) ≡ 0 = ap done_of (slice_get_past progress k past) in
      absurd (omega arith)
]

pub order_at_end : (needs : List (List ℕ)) (progress : List Progress) (order : List ℕ) → IsUnderway needs progress [] order → ((k : ℕ) → k < length needs → slice_get progress k ≡ Some New → ⊥) → IsOrder needs order
order_at_end needs progress order u none_new = record {
  numbers = recursion_from_All (λ k. k < length needs) order (All-from_get_or (λ k. k < length needs) order 0 (λ i inside.
      let once = counted (get_or order i 0) order i (slice_get-get_or order i 0 inside) in
      omega (arith, u.as_many, has_progress progress (get_or order i 0) (omega (arith, once, u.in_order (get_or order i 0))))));
  once = λ k inside.
      u.in_order k ∙ settled (slice_get progress k) (λ e. let there = slice_get-get_or progress k New (omega (arith, u.as_many)) in cc) (none_new k inside) (sym (u.on_stack k));
  behind = u.behind;
}

-- ---- each step leaves fewer

pub fewer_start : (needs : List (List ℕ)) (progress : List Progress) (m : ℕ) → length progress ≡ length needs → slice_get progress m ≡ Some New → all_steps_left needs (set progress m (Started 0)) < all_steps_left needs progress
fewer_start needs progress m n new = omega (arith, left-set needs progress m New (Started 0) n new)

pub fewer_look : (needs : List (List ℕ)) (progress : List Progress) (t place : ℕ) → length progress ≡ length needs → slice_get progress t ≡ Some (Started place) → place < length (needs_of needs t) → all_steps_left needs (set progress t (Started (place + 1))) < all_steps_left needs progress
fewer_look needs progress t place n started inside = omega (arith, left-set needs progress t (Started place) (Started (place + 1)) n started)

pub fewer_finish : (needs : List (List ℕ)) (progress : List Progress) (t place : ℕ) → length progress ≡ length needs → slice_get progress t ≡ Some (Started place) → all_steps_left needs (set progress t Done) < all_steps_left needs progress
fewer_finish needs progress t place n started = omega (arith, left-set needs progress t (Started place) Done n started)

-- ---- what is read in a step

-- the number on the top has a progress, which is read
pub top_inside : {needs : List (List ℕ)} {progress : List Progress} {stack order : List ℕ} {t : ℕ} → IsUnderway needs progress stack order → slice_get stack (length stack - 1) ≡ Some t → t < length progress
top_inside {progress = progress} {t = t} u e = let is = top_started u e in slice_get_within progress t (Started is.0) is.1

pub read_progress : (progress : List Progress) (k : ℕ) (p q : Progress) → k < length progress → p ≡ get_or progress k p → p ≡ q → slice_get progress k ≡ Some q
read_progress progress k p q inside read is = slice_get_read progress (length progress) k p refl inside read ∙ ap (λ x. Some x) is

pub row_is : (needs : List (List ℕ)) (k : ℕ) (row : List ℕ) → slice_get needs k ≡ Some row → needs_of needs k ≡ row
row_is needs k row e = ap (λ r. unwrap_or r []) e

-- what the number on the top needs may come behind it
pub top_chain : {needs : List (List ℕ)} {progress : List Progress} {stack order : List ℕ} {t m : ℕ} → IsUnderway needs progress stack order → slice_get stack (length stack - 1) ≡ Some t → Contains (needs_of needs t) m → IsChain needs (stack ++ m ∷ [])
top_chain {needs = needs} {stack = stack} {t = t} {m = m} u e need =
    let front = take (length stack - 1) stack in
    subst (λ xs. IsChain needs (xs ++ m ∷ [])) (sym (top_last stack t e)) (chain-push needs front t m (subst (IsChain needs) (top_last stack t e) u.chain) need)

-- the need of the number on the top at its place
pub record IsAtNeed (needs : List (List ℕ)) (progress : List Progress) (t place : ℕ) (row : List ℕ) : Type 0 where
  pub started : slice_get progress t ≡ Some (Started place)
  pub inside : place < length (needs_of needs t)
  pub within : place < length row
  pub need : slice_get (needs_of needs t) place ≡ Some (get_or row place 0)
  pub contained : Contains (needs_of needs t) (get_or row place 0)
  pub low : get_or row place 0 < length progress

pub at_need : {needs : List (List ℕ)} {progress : List Progress} {stack order : List ℕ} {t place : ℕ} {p : Progress} {row : List ℕ} → AreNumbers needs → IsUnderway needs progress stack order → slice_get stack (length stack - 1) ≡ Some t
    → p ≡ get_or progress t p → p ≡ Started place → slice_get needs t ≡ Some row → (place ≡ length row → ⊥) → IsAtNeed needs progress t place row
at_need {needs = needs} {progress = progress} {t = t} {place = place} {p = p} {row = row} numbers u top read is is_row more =
    let started = read_progress progress t p (Started place) (top_inside u top) read is in
    let same = row_is needs t row is_row in
    let inside : place < length (needs_of needs t) = omega (arith, (u.looked t place started).0, ap length same) in
    let within : place < length row = omega (arith, ap length same) in
    let need : slice_get (needs_of needs t) place ≡ Some (get_or row place 0) = ap (λ r. slice_get r place) same ∙ slice_get-get_or row place 0 within in
    let there : Contains (needs_of needs t) (get_or row place 0) = (place, inside, get_or_from_slice_get (needs_of needs t) place (get_or row place 0) (get_or row place 0) need) in
    record { started = started; inside = inside; within = within; need = need; contained = there; low = omega (arith, u.as_many, needed (λ m. m < length needs) needs t (get_or row place 0) numbers there) }
