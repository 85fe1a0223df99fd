-- Chains of gates: what a walk along one and a look for a gate say, and what a gate more changes.
use Rattle.std.proofs.Common.{◌≡◌, ℕ, zero, suc, ◌+◌, ◌<◌, ◌≤◌, Bool, true, false, List, [], ◌∷◌, ◌++◌, All, length, get_or, replicate, position, Option, None, Some, refl, sym, ◌∙◌, ap, subst, arith, rules, if◌then◌else◌, slice_set, nat_lt, ◌⊎◌, inl, inr, ⊎_elim, IfSome}
use Rattle.std.specs.List.{position_or_len, list_any}
use Rattle.std.proofs.lemmas.Bool.{cases_lt, cases_eq}
use Rattle.std.proofs.lemmas.Bool.Decides.{nat_tests}
use Rattle.std.proofs.lemmas.List.{get_or_append_left, get_or_push, get_or_past, get_or-set_same, get_or-set_other, length_push, length-set, length-replicate}
use Rattle.std.proofs.lemmas.List.Folds.{list_any_none}
use Rattle.std.proofs.lemmas.List.Sums.{position_or_len_is}
use Rattle.std.proofs.lemmas.List.Elements.{All-replicate, All-push, All-set, All-weaker}
use Rattle.aiger.specs.declared.circuit.Gate.{Gate}
use Rattle.aiger.specs.Net.{Net, variables}
use Rattle.base.specs.Literal.{variable}
use Rattle.gates.specs.declared.chains.Walk.{Walk}
use Rattle.gates.specs.declared.chains.Walk.TheVariants.{Met, End, Full}
use Rattle.gates.specs.declared.chains.Look.{Look}
use Rattle.gates.specs.declared.chains.Look.TheVariants.{Found, Absent}
use Rattle.gates.specs.Chains.{is_pair, walked, looked, looked_up, finds, chained, link, is_beyond, AreFound}

-- the place that a look found
abbrev place_of : Look → Option ℕ
place_of (Found place) = Some place
place_of (Absent chain) = None

-- where no element passes, there is no first place that passes
position-absent : {X : Type 0} (p : X → Bool) (xs : List X) → All (λ x. p x ≡ false) xs → position p xs ≡ None
position-absent {X = X} p xs none = by_test xs (list_any_none p xs none)
  where
    by_test : (xs : List X) → list_any p xs ≡ false → position p xs ≡ None
    by_test [] none = refl
    by_test (x ∷ xs) none = by (p x) refl (by_test xs)
      where
        by : (b : Bool) → p x ≡ b → (list_any p xs ≡ false → position p xs ≡ None) → position p (x ∷ xs) ≡ None
        by true e rest = absurd (search rules)
        by false e rest = let later : list_any p xs ≡ false = search rules in let none = rest later in search rules

-- a gate that has the operands of a pair is the pair
pub is_pair-true : (pair g : Gate) → is_pair pair g ≡ true → g ≡ pair
is_pair-true pair g is =
    let greater : g.rhs0 ≡ pair.rhs0 = grind (arith, nat_tests) in
    let smaller : g.rhs1 ≡ pair.rhs1 = grind (arith, nat_tests) in
    λ j. record { rhs0 = greater j; rhs1 = smaller j }

is_pair-same : (pair : Gate) → is_pair pair pair ≡ true
is_pair-same pair = grind (arith, nat_tests)

-- one step of a walk: at the end of the chain, at the gate, and at another one
pub walked-end : (gates : List Gate) (before : List ℕ) (pair : Gate) (turns entry : ℕ) → 0 < turns → entry ≡ 0 → walked gates before pair turns entry ≡ End
unfolding walked
walked-end gates before pair zero entry some is = absurd (omega arith)
walked-end gates before pair (suc turns) entry some is = rw is refl

pub walked-there : (gates : List Gate) (before : List ℕ) (pair : Gate) (turns place : ℕ) → is_pair pair (get_or gates place pair) ≡ true → walked gates before pair (suc turns) (suc place) ≡ Met place
unfolding walked
walked-there gates before pair turns place is =
    ap (λ (b : Bool). if b then Met place else walked gates before pair turns (get_or before place 0)) is

pub walked-on : (gates : List Gate) (before : List ℕ) (pair : Gate) (turns place : ℕ) → is_pair pair (get_or gates place pair) ≡ false → walked gates before pair (suc turns) (suc place) ≡ walked gates before pair turns (get_or before place 0)
unfolding walked
walked-on gates before pair turns place is_not =
    ap (λ (b : Bool). if b then Met place else walked gates before pair turns (get_or before place 0)) is_not

pub walked-full : (gates : List Gate) (before : List ℕ) (pair : Gate) (turns entry : ℕ) → turns ≡ 0 → walked gates before pair turns entry ≡ Full
unfolding walked
walked-full gates before pair turns entry is = rw is refl

-- a gate more, on no chain yet, changes no walk
walked-push : (gates : List Gate) (before : List ℕ) (more : Gate) (link : ℕ) → length before ≡ length gates → All (λ entry. entry ≤ length gates) before
    → (pair : Gate) (turns entry : ℕ) → entry ≤ length gates → walked (gates ++ more ∷ []) (before ++ link ∷ []) pair turns entry ≡ walked gates before pair turns entry
unfolding walked
walked-push gates before more link same links pair zero entry inside = refl
walked-push gates before more link same links pair (suc turns) zero inside = refl
walked-push gates before more link same links pair (suc turns) (suc place) inside =
    let within : place < length before = omega arith in
    let next : get_or before place 0 ≤ length gates = links place 0 within in
    let gate : get_or (gates ++ more ∷ []) place pair ≡ get_or gates place pair = get_or_append_left gates (more ∷ []) pair place (omega arith) in
    let entry : get_or (before ++ link ∷ []) place 0 ≡ get_or before place 0 = get_or_append_left before (link ∷ []) 0 place within in
    ap (λ (g : Gate). if is_pair pair g then Met place else walked (gates ++ more ∷ []) (before ++ link ∷ []) pair turns (get_or (before ++ link ∷ []) place 0)) gate
    ∙ ap (λ (w : Walk). if is_pair pair (get_or gates place pair) then Met place else w)
    (ap (walked (gates ++ more ∷ []) (before ++ link ∷ []) pair turns) entry ∙ walked-push gates before more link same links pair turns (get_or before place 0) next)

-- what a walk finds is the gate
walked-found : (gates : List Gate) (before : List ℕ) → length before ≡ length gates → All (λ entry. entry ≤ length gates) before
    → (pair : Gate) (turns entry place : ℕ) → entry ≤ length gates → walked gates before pair turns entry ≡ Met place → (place < length gates) × (get_or gates place pair ≡ pair)
unfolding walked
walked-found gates before same links pair zero entry place inside is = absurd (cc)
walked-found gates before same links pair (suc turns) zero place inside is = absurd (cc)
walked-found gates before same links pair (suc turns) (suc here) place inside is =
    by (is_pair pair (get_or gates here pair)) refl (walked-found gates before same links pair turns (get_or before here 0) place (links here 0 (omega arith))) is
  where
    by : (b : Bool) → is_pair pair (get_or gates here pair) ≡ b
        → (walked gates before pair turns (get_or before here 0) ≡ Met place → (place < length gates) × (get_or gates place pair ≡ pair))
        → (if b then Met here else walked gates before pair turns (get_or before here 0)) ≡ Met place
        → (place < length gates) × (get_or gates place pair ≡ pair)
    by true at later is = let same_place : here ≡ place = cc in rw (← same_place) (omega arith, is_pair-true pair (get_or gates here pair) at)
    by false at later is = later is

-- a walk for another gate along a chain that ends: it is not behind a full chain
walked-not_full : (gates : List Gate) (before : List ℕ) (pair other : Gate) (turns entry : ℕ)
    → walked gates before pair turns entry ≡ End → walked gates before other turns entry ≡ Full → ⊥
unfolding walked
walked-not_full gates before pair other zero entry ended full = absurd (cc)
walked-not_full gates before pair other (suc turns) zero ended full = absurd (cc)
walked-not_full gates before pair other (suc turns) (suc here) ended full =
    by (is_pair pair (get_or gates here pair)) (is_pair other (get_or gates here other)) (walked-not_full gates before pair other turns (get_or before here 0)) ended full
  where
    by : (b c : Bool) → (walked gates before pair turns (get_or before here 0) ≡ End → walked gates before other turns (get_or before here 0) ≡ Full → ⊥)
        → (if b then Met here else walked gates before pair turns (get_or before here 0)) ≡ End
        → (if c then Met here else walked gates before other turns (get_or before here 0)) ≡ Full → ⊥
    by true c later ended full = absurd (cc)
    by false true later ended full = absurd (cc)
    by false false later ended full = later ended full

-- and it finds what it finds in a turn less
walked-sooner : (gates : List Gate) (before : List ℕ) (pair other : Gate) (turns entry place : ℕ)
    → walked gates before pair (suc turns) entry ≡ End → walked gates before other (suc turns) entry ≡ Met place → walked gates before other turns entry ≡ Met place
unfolding walked
walked-sooner gates before pair other turns zero place ended found = absurd (cc)
walked-sooner gates before pair other zero (suc here) place ended found = by (is_pair pair (get_or gates here pair)) ended
  where
    by : (b : Bool) → (if b then Met here else Full) ≡ End → Full ≡ Met place
    by true ended = absurd (cc)
    by false ended = absurd (cc)
walked-sooner gates before pair other (suc turns) (suc here) place ended found =
    by (is_pair pair (get_or gates here pair)) (is_pair other (get_or gates here other)) refl (walked-sooner gates before pair other turns (get_or before here 0) place) ended found
  where
    by : (b c : Bool) → is_pair other (get_or gates here other) ≡ c
        → (walked gates before pair (suc turns) (get_or before here 0) ≡ End → walked gates before other (suc turns) (get_or before here 0) ≡ Met place → walked gates before other turns (get_or before here 0) ≡ Met place)
        → (if b then Met here else walked gates before pair (suc turns) (get_or before here 0)) ≡ End
        → (if c then Met here else walked gates before other (suc turns) (get_or before here 0)) ≡ Met place
        → walked gates before other (suc turns) (suc here) ≡ Met place
    by true c at later ended found = absurd (cc)
    by false true at later ended found = walked-there gates before other turns here at ∙ found
    by false false at later ended found = walked-on gates before other turns here at ∙ later ended found

-- how a look ends, by the walk along a chain and by what is behind it
looked-there : (Q : ℕ → Type 0) (w : Walk) (v : ℕ) (more : Look) (place : ℕ) → ((here : ℕ) → w ≡ Met here → Q here) → ((here : ℕ) → more ≡ Found here → Q here) → looked w v more ≡ Found place → Q place
looked-there Q (Met here) v more place met behind is = let same : here ≡ place = cc in subst Q same (met here refl)
looked-there Q End v more place met behind is = absurd (cc)
looked-there Q Full v more place met behind is = behind place is

looked-kept : (w w2 : Walk) (v : ℕ) (more more2 : Look) (place : ℕ) → ((here : ℕ) → w ≡ Met here → w2 ≡ Met here) → (w ≡ Full → w2 ≡ Full) → (more ≡ Found place → more2 ≡ Found place)
    → looked w v more ≡ Found place → looked w2 v more2 ≡ Found place
looked-kept (Met here) w2 v more more2 place met full behind is = ap (λ w. looked w v more2) (met here refl) ∙ is
looked-kept End w2 v more more2 place met full behind is = absurd (cc)
looked-kept Full w2 v more more2 place met full behind is = ap (λ w. looked w v more2) (full refl) ∙ behind is

looked-taken : (w : Walk) (v u : ℕ) (more : Look) → looked w v more ≡ Absent (Some u) → ((v ≡ u) × (w ≡ End)) ⊎ ((w ≡ Full) × (more ≡ Absent (Some u)))
looked-taken (Met here) v u more is = absurd (cc)
looked-taken End v u more is = inl (cc, refl)
looked-taken Full v u more is = inr (refl, is)

looked-nowhere : (w : Walk) (v : ℕ) (more : Look) → looked w v more ≡ Absent None → (w ≡ Full) × (more ≡ Absent None)
looked-nowhere (Met here) v more is = absurd (cc)
looked-nowhere End v more is = absurd (cc)
looked-nowhere Full v more is = (refl, is)

-- a look by two walks that are known
looked-met : (w : Walk) (v : ℕ) (more : Look) (here : ℕ) → w ≡ Met here → looked w v more ≡ Found here
looked-met w v more here met = ap (λ u. looked u v more) met

looked-full : (w : Walk) (v : ℕ) (more : Look) → w ≡ Full → looked w v more ≡ more
looked-full w v more full = ap (λ u. looked u v more) full

looked-same : (w w2 : Walk) (v : ℕ) (more more2 : Look) → w ≡ w2 → more ≡ more2 → looked w v more ≡ looked w2 v more2
looked-same w w2 v more more2 walks behind = λ i. looked (walks i) v (behind i)

looked_up-found : (o : Option ℕ) (place : ℕ) → looked_up o ≡ Found place → o ≡ Some place
looked_up-found None place is = absurd (cc)
looked_up-found (Some here) place is = let same : here ≡ place = cc in ap Some same

looked_up-taken : (o : Option ℕ) (v : ℕ) → looked_up o ≡ Absent (Some v) → ⊥
looked_up-taken None v is = absurd (cc)
looked_up-taken (Some here) v is = absurd (cc)

-- an entry 0 behind a list's changes no entry, since behind the list are none
get_or-zero : (xs : List ℕ) (i : ℕ) → get_or (xs ++ 0 ∷ []) i 0 ≡ get_or xs i 0
get_or-zero [] zero = refl
get_or-zero [] (suc i) = refl
get_or-zero (x ∷ xs) zero = refl
get_or-zero (x ∷ xs) (suc i) = get_or-zero xs i

module _ (longest : ℕ) (n : Net) (last before : List ℕ) (beyond : Gate → Option ℕ) (found : AreFound longest n last before beyond) where
  first_inside : (v : ℕ) → get_or last v 0 ≤ length n.gates
  first_inside v =
      ⊎_elim (λ (h : v < length last). found.firsts v 0 h)
      (λ (h : length last ≤ v). let none = get_or_past last v 0 h in omega (arith, none))
      (cases_lt v (length last))

  -- the walk for a gate along a variable's chain
  abbrev walk : ℕ → Gate → Walk
  walk v r = walked n.gates before r longest (get_or last v 0)

  -- the gate of a pair is at a place
  abbrev Stands : Gate → ℕ → Type 0
  Stands pair here = (here < length n.gates) × (get_or n.gates here pair ≡ pair)

  -- what is found is the gate
  pub found_there : (pair : Gate) (place : ℕ) → finds longest n.gates last before beyond pair ≡ Found place → (place < length n.gates) × (get_or n.gates place pair ≡ pair)
  found_there pair place is =
      looked-there (Stands pair) (walk (variable pair.rhs0) pair) (variable pair.rhs0) _ place (met (variable pair.rhs0))
      (λ here behind. looked-there (Stands pair) (walk (variable pair.rhs1) pair) (variable pair.rhs1) (looked_up (beyond pair)) here (met (variable pair.rhs1)) (λ there up. found.map pair there (looked_up-found (beyond pair) there up)) behind) is
    where
      met : (v here : ℕ) → walk v pair ≡ Met here → Stands pair here
      met v here is = walked-found n.gates before found.places found.links pair longest (get_or last v 0) here (first_inside v) is

  -- no gate is one that is not found
  no_gate : (pair : Gate) → ((place : ℕ) → finds longest n.gates last before beyond pair ≡ Found place → ⊥)
      → (place : ℕ) (d : Gate) → place < length n.gates → is_pair pair (get_or n.gates place d) ≡ false
  no_gate pair none place d inside = by (is_pair pair (get_or n.gates place d)) refl
    where
      by : (b : Bool) → is_pair pair (get_or n.gates place d) ≡ b → b ≡ false
      by false is = refl
      by true is = absurd (none place (ap (finds longest n.gates last before beyond) (sym (is_pair-true pair (get_or n.gates place d) is)) ∙ found.each place d inside))

  -- what is found is where the gate stands
  pub place-found : (pair : Gate) (l : Look) → finds longest n.gates last before beyond pair ≡ l → place_of l ≡ position (is_pair pair) n.gates
  place-found pair (Found place) is =
      let there = found_there pair place is in
      let at : position_or_len (is_pair pair) n.gates ≡ place =
      position_or_len_is (is_pair pair) n.gates place pair (omega (arith, there.0))
      (λ k before_it. earlier k before_it (is_pair pair (get_or n.gates k pair)) refl)
      (λ _. ap (is_pair pair) there.1 ∙ is_pair-same pair)
      in
      sym (ap (λ (i : ℕ). if nat_lt i (length n.gates) then Some i else None) at ∙ ap (λ (b : Bool). if b then Some place else None) (inside there.0))
    where
      inside : place < length n.gates → nat_lt place (length n.gates) ≡ true
      inside h = grind (arith, nat_tests)

      earlier : (k : ℕ) → k < place → (b : Bool) → is_pair pair (get_or n.gates k pair) ≡ b → b ≡ false
      earlier k before_it false at = refl
      earlier k before_it true at =
          let there = found_there pair place is in
          let here : finds longest n.gates last before beyond pair ≡ Found k =
          ap (finds longest n.gates last before beyond) (sym (is_pair-true pair (get_or n.gates k pair) at)) ∙ found.each k pair (omega (arith, there.0))
          in
          let same : k ≡ place = cc in
          absurd (omega arith)
  place-found pair (Absent chain) is = sym (position-absent (is_pair pair) n.gates (no_gate pair (λ place there. absurd (cc))))

  -- a walk in a net with a gate more, along a chain that begins as before
  walk_kept : (pair r : Gate) (last2 : List ℕ) (more v : ℕ) → get_or last2 v 0 ≡ get_or last v 0
      → walked (n.gates ++ pair ∷ []) (before ++ more ∷ []) r longest (get_or last2 v 0) ≡ walk v r
  walk_kept pair r last2 more v first =
      ap (walked (n.gates ++ pair ∷ []) (before ++ more ∷ []) r longest) first
      ∙ walked-push n.gates before pair more found.places found.links r longest (get_or last v 0) (first_inside v)

  -- a pair that is not found is not that of a gate
  other_pair : (pair r : Gate) (place : ℕ) → ((there : ℕ) → finds longest n.gates last before beyond pair ≡ Found there → ⊥) → finds longest n.gates last before beyond r ≡ Found place → is_pair r pair ≡ false
  other_pair pair r place absent is = by (is_pair r pair) refl
    where
      by : (b : Bool) → is_pair r pair ≡ b → b ≡ false
      by false at = refl
      by true at = absurd (absent place (ap (finds longest n.gates last before beyond) (is_pair-true r pair at) ∙ is))

  -- the chain that takes a gate has an end: it is that of the greater operand's variable, or that of the smaller one's behind a full one
  taken : (pair : Gate) (v : ℕ) → finds longest n.gates last before beyond pair ≡ Absent (Some v)
      → (walk v pair ≡ End) × ((variable pair.rhs0 ≡ v) ⊎ ((variable pair.rhs1 ≡ v) × (walk (variable pair.rhs0) pair ≡ Full)))
  taken pair v state =
      ⊎_elim (λ (h : (variable pair.rhs0 ≡ v) × (walk (variable pair.rhs0) pair ≡ End)). (ap (λ u. walk u pair) (sym h.0) ∙ h.1, inl h.0))
      (λ (h : (walk (variable pair.rhs0) pair ≡ Full) × (looked (walk (variable pair.rhs1) pair) (variable pair.rhs1) (looked_up (beyond pair)) ≡ Absent (Some v))).
      ⊎_elim (λ (k : (variable pair.rhs1 ≡ v) × (walk (variable pair.rhs1) pair ≡ End)). (ap (λ u. walk u pair) (sym k.0) ∙ k.1, inr (k.0, h.0)))
      (λ (k : (walk (variable pair.rhs1) pair ≡ Full) × (looked_up (beyond pair) ≡ Absent (Some v))). absurd (looked_up-taken (beyond pair) v k.1))
      (looked-taken (walk (variable pair.rhs1) pair) (variable pair.rhs1) v (looked_up (beyond pair)) h.1))
      (looked-taken (walk (variable pair.rhs0) pair) (variable pair.rhs0) v _ state)

-- an entry stays one with a gate more
longer : (n : Net) (pair : Gate) (entry : ℕ) → entry ≤ length n.gates → entry ≤ length (n.gates ++ pair ∷ [])
longer n pair entry h = let pushed = length_push n.gates pair in omega arith

-- the variables of a net with a gate more
one_more : (n : Net) (pair : Gate) (xs : List ℕ) → length xs ≡ variables n + 1 → length (xs ++ 0 ∷ []) ≡ n.inputs + n.latches + length (n.gates ++ pair ∷ []) + 1
one_more n pair xs same =
    let first = length_push xs 0 in
    let pushed = length_push n.gates pair in
    omega arith

zero_within : (most : ℕ) (xs : List ℕ) → All (λ entry. entry ≤ most) xs → All (λ entry. entry ≤ most) (xs ++ 0 ∷ [])
zero_within most xs all = let none : 0 ≤ most = omega arith in All-push (λ entry. entry ≤ most) xs 0 all none

-- each gate is found where each was, as long as those and the new one are
each_pushed : (old new : Gate → Look) (gates : List Gate) (pair : Gate) → ((r : Gate) (place : ℕ) → old r ≡ Found place → new r ≡ Found place) → new pair ≡ Found (length gates)
    → ((place : ℕ) (d : Gate) → place < length gates → old (get_or gates place d) ≡ Found place)
    → (place : ℕ) (d : Gate) → place < length (gates ++ pair ∷ []) → new (get_or (gates ++ pair ∷ []) place d) ≡ Found place
each_pushed old new gates pair kept own each place d inside =
    ⊎_elim (λ (h : place < length gates). ap new (get_or_append_left gates (pair ∷ []) d place h) ∙ kept (get_or gates place d) place (each place d h))
    (λ (h : length gates ≤ place).
    let pushed = length_push gates pair in
    let end : length gates ≡ place = omega arith in
    ap new (get_or_push gates pair d place end) ∙ own ∙ ap Found end)
    (cases_lt place (length gates))

-- the gates are found with one more that a variable's chain took
module _ (turns : ℕ) (n : Net) (last before : List ℕ) (beyond beyond2 : Gate → Option ℕ) (pair : Gate) (v : ℕ)
    (found : AreFound (suc turns) n last before beyond) (within : v < length last)
    (state : finds (suc turns) n.gates last before beyond pair ≡ Absent (Some v)) (same_map : (r : Gate) → beyond2 r ≡ beyond r) where
  abbrev last_chained : List ℕ
  last_chained = slice_set last v (length before + 1) ++ 0 ∷ []

  abbrev before_chained : List ℕ
  before_chained = before ++ get_or last v 0 ∷ []

  abbrev new_walk : ℕ → Gate → Walk
  new_walk u r = walked (n.gates ++ pair ∷ []) before_chained r (suc turns) (get_or last_chained u 0)

  abbrev old_walk : ℕ → Gate → Walk
  old_walk u r = walked n.gates before r (suc turns) (get_or last u 0)

  ended : old_walk v pair ≡ End
  ended = (taken (suc turns) n last before beyond found pair v state).0

  own_first : get_or last_chained v 0 ≡ suc (length n.gates)
  own_first =
      let places = found.places in
      let at : length before + 1 ≡ suc (length n.gates) = omega arith in
      get_or-zero (slice_set last v (length before + 1)) v ∙ get_or-set_same last v (length before + 1) 0 within ∙ at

  other_walk : (u : ℕ) (r : Gate) → (u ≡ v → ⊥) → new_walk u r ≡ old_walk u r
  other_walk u r other =
      walk_kept (suc turns) n last before beyond found pair r last_chained (get_or last v 0) u
      (get_or-zero (slice_set last v (length before + 1)) u ∙ get_or-set_other last v u (length before + 1) 0 other)

  -- the walk for a gate of the chain, past the new one
  past_own : (r : Gate) (here : ℕ) → is_pair r pair ≡ false → old_walk v r ≡ Met here → new_walk v r ≡ Met here
  past_own r here other there =
      let first : ℕ = get_or last v 0 in
      ap (walked (n.gates ++ pair ∷ []) before_chained r (suc turns)) own_first
      ∙ walked-on (n.gates ++ pair ∷ []) before_chained r turns (length n.gates) (ap (is_pair r) (get_or_push n.gates pair r (length n.gates) refl) ∙ other)
      ∙ ap (walked (n.gates ++ pair ∷ []) before_chained r turns) (get_or_push before first 0 (length n.gates) found.places)
      ∙ walked-push n.gates before pair first found.places found.links r turns first (first_inside (suc turns) n last before beyond found v)
      ∙ walked-sooner n.gates before pair r turns first here ended there

  met_kept : (r : Gate) → is_pair r pair ≡ false → (u here : ℕ) → old_walk u r ≡ Met here → new_walk u r ≡ Met here
  met_kept r differs u here is =
      ⊎_elim (λ (same : u ≡ v). ap (λ w. new_walk w r) same ∙ past_own r here differs (ap (λ w. old_walk w r) (sym same) ∙ is))
      (λ (other : u ≡ v → ⊥). other_walk u r other ∙ is)
      (cases_eq u v)

  full_kept : (r : Gate) (u : ℕ) → old_walk u r ≡ Full → new_walk u r ≡ Full
  full_kept r u is =
      ⊎_elim (λ (same : u ≡ v). absurd (walked-not_full n.gates before pair r (suc turns) (get_or last v 0) ended (ap (λ w. old_walk w r) (sym same) ∙ is)))
      (λ (other : u ≡ v → ⊥). other_walk u r other ∙ is)
      (cases_eq u v)

  chained_kept : (r : Gate) (place : ℕ) → finds (suc turns) n.gates last before beyond r ≡ Found place
      → finds (suc turns) (n.gates ++ pair ∷ []) last_chained before_chained beyond2 r ≡ Found place
  chained_kept r place is =
      let differs = other_pair (suc turns) n last before beyond found pair r place (λ there at. absurd (let both : Absent (Some v) ≡ Found there = sym state ∙ at in cc)) is in
      looked-kept (old_walk (variable r.rhs0) r) (new_walk (variable r.rhs0) r) (variable r.rhs0) _ _ place (met_kept r differs (variable r.rhs0)) (full_kept r (variable r.rhs0))
      (looked-kept (old_walk (variable r.rhs1) r) (new_walk (variable r.rhs1) r) (variable r.rhs1) (looked_up (beyond r)) (looked_up (beyond2 r)) place (met_kept r differs (variable r.rhs1)) (full_kept r (variable r.rhs1)) (λ up. ap looked_up (same_map r) ∙ up)) is

  own_walk : (u : ℕ) → u ≡ v → new_walk u pair ≡ Met (length n.gates)
  own_walk u same =
      ap (λ w. new_walk w pair) same
      ∙ ap (walked (n.gates ++ pair ∷ []) before_chained pair (suc turns)) own_first
      ∙ walked-there (n.gates ++ pair ∷ []) before_chained pair turns (length n.gates) (ap (is_pair pair) (get_or_push n.gates pair pair (length n.gates) refl) ∙ is_pair-same pair)

  chained_own : finds (suc turns) (n.gates ++ pair ∷ []) last_chained before_chained beyond2 pair ≡ Found (length n.gates)
  chained_own =
      let first = new_walk (variable pair.rhs0) pair in
      let second = new_walk (variable pair.rhs1) pair in
      let up = looked_up (beyond2 pair) in
      ⊎_elim (λ (same : variable pair.rhs0 ≡ v). looked-met first (variable pair.rhs0) (looked second (variable pair.rhs1) up) (length n.gates) (own_walk (variable pair.rhs0) same))
      (λ (h : (variable pair.rhs1 ≡ v) × (old_walk (variable pair.rhs0) pair ≡ Full)).
      looked-full first (variable pair.rhs0) (looked second (variable pair.rhs1) up) (full_kept pair (variable pair.rhs0) h.1)
      ∙ looked-met second (variable pair.rhs1) up (length n.gates) (own_walk (variable pair.rhs1) h.0))
      (taken (suc turns) n last before beyond found pair v state).1

  pub AreFound-chained : AreFound (suc turns) (record n { gates = n.gates ++ pair ∷ [] }) last_chained before_chained beyond2
  AreFound-chained = record {
    variables = one_more n pair (slice_set last v (length before + 1)) (length-set last v (length before + 1) ∙ found.variables);
    places = length_push before (get_or last v 0) ∙ ap (λ k. k + 1) found.places ∙ sym (length_push n.gates pair);
    firsts = zero_within (length (n.gates ++ pair ∷ [])) (slice_set last v (length before + 1))
        (All-set (λ entry. entry ≤ length (n.gates ++ pair ∷ [])) last v (length before + 1)
        (let pushed = length_push n.gates pair in let places = found.places in omega arith)
        (All-weaker (λ entry. entry ≤ length n.gates) (λ entry. entry ≤ length (n.gates ++ pair ∷ [])) (longer n pair) last found.firsts));
    links = All-push (λ entry. entry ≤ length (n.gates ++ pair ∷ [])) before (get_or last v 0)
        (All-weaker (λ entry. entry ≤ length n.gates) (λ entry. entry ≤ length (n.gates ++ pair ∷ [])) (longer n pair) before found.links)
        (longer n pair (get_or last v 0) (first_inside (suc turns) n last before beyond found v));
    map = λ r place is.
        let there = found.map r place (sym (same_map r) ∙ is) in
        let inside = there.0 in
        let pushed = length_push n.gates pair in
        (omega arith, get_or_append_left n.gates (pair ∷ []) r place inside ∙ there.1);
    each = each_pushed (finds (suc turns) n.gates last before beyond) (finds (suc turns) (n.gates ++ pair ∷ []) last_chained before_chained beyond2) n.gates pair chained_kept chained_own found.each;
  }

-- the gates are found with one more that stands in the map, since the chains of its variables are full
module _ (longest : ℕ) (n : Net) (last before : List ℕ) (beyond beyond2 : Gate → Option ℕ) (pair : Gate)
    (found : AreFound longest n last before beyond) (state : finds longest n.gates last before beyond pair ≡ Absent None)
    (own_map : beyond2 pair ≡ Some (length before)) (same_map : (r : Gate) → is_pair pair r ≡ false → beyond2 r ≡ beyond r) where
  abbrev last_full : List ℕ
  last_full = last ++ 0 ∷ []

  abbrev before_full : List ℕ
  before_full = before ++ 0 ∷ []

  same_walk : (u : ℕ) (r : Gate) → walked (n.gates ++ pair ∷ []) before_full r longest (get_or last_full u 0) ≡ walked n.gates before r longest (get_or last u 0)
  same_walk u r = walk_kept longest n last before beyond found pair r last_full 0 u (get_or-zero last u)

  differs_back : (r : Gate) → is_pair r pair ≡ false → is_pair pair r ≡ false
  differs_back r is_not = by (is_pair pair r) refl
    where
      by : (b : Bool) → is_pair pair r ≡ b → b ≡ false
      by false at = refl
      by true at = sym (is_pair-same pair) ∙ (ap (λ g. is_pair g pair) (sym (is_pair-true pair r at)) ∙ is_not)

  beyond_kept : (r : Gate) (place : ℕ) → finds longest n.gates last before beyond r ≡ Found place
      → finds longest (n.gates ++ pair ∷ []) last_full before_full beyond2 r ≡ Found place
  beyond_kept r place is =
      let differs = other_pair longest n last before beyond found pair r place (λ there at. absurd (let both : Absent None ≡ Found there = sym state ∙ at in cc)) is in
      looked-same _ _ (variable r.rhs0) _ _ (same_walk (variable r.rhs0) r) (looked-same _ _ (variable r.rhs1) _ _ (same_walk (variable r.rhs1) r) (ap looked_up (same_map r (differs_back r differs))))
      ∙ is

  beyond_own : finds longest (n.gates ++ pair ∷ []) last_full before_full beyond2 pair ≡ Found (length n.gates)
  beyond_own =
      let first = looked-nowhere (walked n.gates before pair longest (get_or last (variable pair.rhs0) 0)) (variable pair.rhs0) _ state in
      let second = looked-nowhere (walked n.gates before pair longest (get_or last (variable pair.rhs1) 0)) (variable pair.rhs1) (looked_up (beyond pair)) first.1 in
      looked-same _ Full (variable pair.rhs0) _ _ (same_walk (variable pair.rhs0) pair ∙ first.0)
      (looked-same _ Full (variable pair.rhs1) _ _ (same_walk (variable pair.rhs1) pair ∙ second.0) (ap looked_up (own_map ∙ ap Some found.places)))

  beyond_map : (r : Gate) (place : ℕ) → beyond2 r ≡ Some place → (place < length (n.gates ++ pair ∷ [])) × (get_or (n.gates ++ pair ∷ []) place r ≡ r)
  beyond_map r place is = by (is_pair pair r) refl
    where
      by : (b : Bool) → is_pair pair r ≡ b → (place < length (n.gates ++ pair ∷ [])) × (get_or (n.gates ++ pair ∷ []) place r ≡ r)
      by false other =
          let there = found.map r place (sym (same_map r other) ∙ is) in
          let inside = there.0 in
          let pushed = length_push n.gates pair in
          (omega arith, get_or_append_left n.gates (pair ∷ []) r place inside ∙ there.1)
      by true same =
          let it : r ≡ pair = is_pair-true pair r same in
          let at : Some (length before) ≡ Some place = sym own_map ∙ (ap beyond2 (sym it) ∙ is) in
          let place_is : length before ≡ place = cc in
          let pushed = length_push n.gates pair in
          let places = found.places in
          (omega arith, get_or_push n.gates pair r place (sym places ∙ place_is) ∙ sym it)

  pub AreFound-beyond : AreFound longest (record n { gates = n.gates ++ pair ∷ [] }) last_full before_full beyond2
  AreFound-beyond = record {
    variables = one_more n pair last found.variables;
    places = length_push before 0 ∙ ap (λ k. k + 1) found.places ∙ sym (length_push n.gates pair);
    firsts = zero_within (length (n.gates ++ pair ∷ [])) last (All-weaker (λ entry. entry ≤ length n.gates) (λ entry. entry ≤ length (n.gates ++ pair ∷ [])) (longer n pair) last found.firsts);
    links = All-push (λ entry. entry ≤ length (n.gates ++ pair ∷ [])) before 0
        (All-weaker (λ entry. entry ≤ length n.gates) (λ entry. entry ≤ length (n.gates ++ pair ∷ [])) (longer n pair) before found.links)
        (omega arith);
    map = beyond_map;
    each = each_pushed (finds longest n.gates last before beyond) (finds longest (n.gates ++ pair ∷ []) last_full before_full beyond2) n.gates pair beyond_kept beyond_own found.each;
  }

-- where no gate stands, all are found
pub AreFound-none : (most : ℕ) (n : Net) (last before : List ℕ) (beyond : Gate → Option ℕ) → n.gates ≡ [] → last ≡ replicate (variables n + 1) 0 → before ≡ [] → ((pair : Gate) → beyond pair ≡ None)
    → AreFound most n last before beyond
AreFound-none most n last before beyond none zeros no_links empty =
    let no_gates : length n.gates ≡ 0 = ap length none in
    let no_link : length before ≡ 0 = ap length no_links in
    record {
      variables = ap length zeros ∙ length-replicate (variables n + 1) 0;
      places = omega arith;
      firsts = rw zeros (All-replicate (λ entry. entry ≤ length n.gates) (variables n + 1) 0 (omega arith));
      links = λ k d inside. absurd (omega arith);
      map = λ pair place is. absurd (let nothing = empty pair in cc);
      each = λ place d inside. absurd (omega arith);
    }

-- the same gates are found by the same lists and a map that says the same
pub AreFound-same : (most : ℕ) (n : Net) (last last2 before before2 : List ℕ) (beyond beyond2 : Gate → Option ℕ) → last2 ≡ last → before2 ≡ before → ((r : Gate) → beyond2 r ≡ beyond r)
    → AreFound most n last before beyond → AreFound most n last2 before2 beyond2
AreFound-same most n last last2 before before2 beyond beyond2 same_last same_before same_map found =
    let maps : beyond2 ≡ beyond = λ i r. same_map r i in
    rw (same_last, same_before, maps) found

pub finds-same : (most : ℕ) (gates : List Gate) (last last2 before before2 : List ℕ) (beyond beyond2 : Gate → Option ℕ) → last2 ≡ last → before2 ≡ before → ((r : Gate) → beyond2 r ≡ beyond r)
    → (pair : Gate) → finds most gates last2 before2 beyond2 pair ≡ finds most gates last before beyond pair
finds-same most gates last last2 before before2 beyond beyond2 same_last same_before same_map pair =
    let maps : beyond2 ≡ beyond = λ i r. same_map r i in
    λ i. finds most gates (same_last i) (same_before i) (maps i) pair

-- the chain that takes a gate is that of one of its two variables
pub chain-inside : (most : ℕ) (gates : List Gate) (last before : List ℕ) (beyond : Gate → Option ℕ) (pair : Gate) (chain : Option ℕ) → variable pair.rhs0 < length last → variable pair.rhs1 < length last
    → finds most gates last before beyond pair ≡ Absent chain → IfSome chain (λ v. v < length last)
chain-inside most gates last before beyond pair None greater smaller state = tt
chain-inside most gates last before beyond pair (Some v) greater smaller state =
    ⊎_elim (λ (h : (variable pair.rhs0 ≡ v) × (walked gates before pair most (get_or last (variable pair.rhs0) 0) ≡ End)). subst (λ u. u < length last) h.0 greater)
    (λ (h : (walked gates before pair most (get_or last (variable pair.rhs0) 0) ≡ Full) × (looked (walked gates before pair most (get_or last (variable pair.rhs1) 0)) (variable pair.rhs1) (looked_up (beyond pair)) ≡ Absent (Some v))).
    ⊎_elim (λ (k : (variable pair.rhs1 ≡ v) × (walked gates before pair most (get_or last (variable pair.rhs1) 0) ≡ End)). subst (λ u. u < length last) k.0 smaller)
    (λ (k : (walked gates before pair most (get_or last (variable pair.rhs1) 0) ≡ Full) × (looked_up (beyond pair) ≡ Absent (Some v))). absurd (looked_up-taken (beyond pair) v k.1))
    (looked-taken _ (variable pair.rhs1) v (looked_up (beyond pair)) h.1))
    (looked-taken _ (variable pair.rhs0) v _ state)

-- the gates are found with one more that was noted, behind room that was made for it
pub AreFound-noted : (turns : ℕ) (n : Net) (last last2 before before2 : List ℕ) (beyond beyond2 : Gate → Option ℕ) (pair : Gate) (chain : Option ℕ)
    → AreFound (suc turns) n last before beyond → variable pair.rhs0 < length last → variable pair.rhs1 < length last → finds (suc turns) n.gates last before beyond pair ≡ Absent chain
    → last2 ≡ chained last chain (length before + 1) ++ 0 ∷ []
    → before2 ≡ before ++ link last chain ∷ []
    → ((r : Gate) → beyond2 r ≡ (if is_beyond chain pair r then Some (length before) else beyond r))
    → AreFound (suc turns) (record n { gates = n.gates ++ pair ∷ [] }) last2 before2 beyond2
AreFound-noted turns n last last2 before before2 beyond beyond2 pair (Some v) found greater smaller state last_is before_is map_is =
    rw (last_is, before_is) (AreFound-chained turns n last before beyond beyond2 pair v found (chain-inside (suc turns) n.gates last before beyond pair (Some v) greater smaller state) state map_is)
AreFound-noted turns n last last2 before before2 beyond beyond2 pair None found greater smaller state last_is before_is map_is =
    rw (last_is, before_is) (AreFound-beyond (suc turns) n last before beyond beyond2 pair found state
    (map_is pair ∙ ap (λ (b : Bool). if b then Some (length before) else beyond pair) (is_pair-same pair))
    (λ r other. map_is r ∙ ap (λ (b : Bool). if b then Some (length before) else beyond r) other))
