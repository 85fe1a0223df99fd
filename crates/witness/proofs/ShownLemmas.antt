-- What was found in frames, node by node and literal by literal, and what the frames show.
use Rattle.std.proofs.Common.{◌≡◌, ℕ, zero, suc, ◌+◌, ◌<◌, ◌≤◌, ◌==◌, nat_eq, eq-eqb, eqb-true, Bool, true, false, cond, not, ◌&&◌, ◌||◌, List, [], ◌∷◌, length, map, get_or, Option, Some, None, refl, sym, ap, ap₂, subst, ◌∙◌, arith, inl, inr}
use Rattle.std.specs.Prelude.{if◌then◌else◌}
use Rattle.std.specs.List.{list_any, position_from}
use Rattle.std.proofs.lemmas.Bool.{false_from_ne_true, cases_lt}
use Rattle.std.proofs.lemmas.Option.{unwrap_or-slice_get, none-some}
use Rattle.std.proofs.lemmas.List.{get_or-map, get_or_past, length-map}
use Rattle.base.specs.Shown.{Shown, is_bad_in, rises_in_some}
use Rattle.base.specs.Literal.{Valuation, literal_value}
use Rattle.btor2.specs.declared.item.Item.{Item}
use Rattle.btor2.specs.Items.{is_bad, is_constraint}
use Rattle.btor2.specs.Trace.{Frame}
use Rattle.btor2.specs.Reachability.{nodes_of, values_of, model_shows}
use Rattle.aiger.specs.Circuit.{Circuit}
use Rattle.aiger.specs.Reachability.{circuit_shows}
use Rattle.witness.specs.Judgements.{violated_at, violation_from, unreached_from, first_of, verdict}
use Rattle.witness.specs.Fits.{first_violated, breach_from, never_1, first_unreached}
use Rattle.witness.specs.BitPlays.{first_bit_violated, bit_rises}

-- ---- of frames that show something

place_of_values : {A : Type 0} (p : A → Bool) (i : ℕ) (xs : List A) → position_from (λ x. not (p x)) i xs ≡ position_from not i (map p xs)
place_of_values p i [] = refl
place_of_values p i (x ∷ xs) = ap (λ (o : Option ℕ). cond (not (p x)) (Some i) o) (place_of_values p (i + 1) xs)

breach_shown : {F : Type 0} (shows : F → Shown) (violated : F → Option ℕ) → ((f : F) → violated f ≡ position_from not 0 (shows f).constraints) → (k : ℕ) (fs : List F) → breach_from violated k fs ≡ violation_from k (map shows fs)
breach_shown shows violated each k [] = refl
breach_shown shows violated each k (f ∷ fs) = ap₂ (violated_at k) (each f) (breach_shown shows violated each (suc k) fs)

pub some_bad : {F : Type 0} (shows : F → Shown) (test : F → Bool) (k : ℕ) → ((f : F) → test f ≡ is_bad_in k (shows f)) → (fs : List F) → list_any test fs ≡ rises_in_some k (map shows fs)
some_bad shows test k each [] = refl
some_bad shows test k each (f ∷ fs) = ap₂ (λ (a b : Bool). a || b) (each f) (some_bad shows test k each fs)

-- ---- of one claim

unclaimed : (claim : ℕ) (shown : List Shown) (i n : ℕ) → claim < i → unreached_from (claim ∷ []) shown i n ≡ None
unclaimed claim shown i zero h = refl
unclaimed claim shown i (suc n) h =
    let other : nat_eq claim i ≡ false = false_from_ne_true (nat_eq claim i) (λ e. absurd (omega (arith, h, eqb-true claim i e))) in
    ap (λ (b : Bool). if (b || false) && not (rises_in_some i shown) then Some i else unreached_from (claim ∷ []) shown (suc i) n) other ∙ unclaimed claim shown (suc i) n (omega (arith, h))

claimed : (claim : ℕ) (shown : List Shown) (i n : ℕ) → i ≤ claim → claim < i + n → unreached_from (claim ∷ []) shown i n ≡ cond (rises_in_some claim shown) None (Some claim)
claimed claim shown i zero low h = absurd (omega (arith, low, h))
claimed claim shown i (suc n) low h = by (nat_eq claim i) refl (λ lower. claimed claim shown (suc i) n lower (omega (arith, h)))
  where
    here : (b : Bool) → rises_in_some i shown ≡ b → i ≡ claim → (if not b then Some i else unreached_from (claim ∷ []) shown (suc i) n) ≡ cond (rises_in_some claim shown) None (Some claim)
    here true rises own = unclaimed claim shown (suc i) n (omega (arith, own)) ∙ sym (ap (λ (b : Bool). cond b None (Some claim)) (ap (λ (k : ℕ). rises_in_some k shown) (sym own) ∙ rises))
    here false rises own = ap (λ (k : ℕ). Some k) own ∙ sym (ap (λ (b : Bool). cond b None (Some claim)) (ap (λ (k : ℕ). rises_in_some k shown) (sym own) ∙ rises))

    by : (b : Bool) → nat_eq claim i ≡ b → (suc i ≤ claim → unreached_from (claim ∷ []) shown (suc i) n ≡ cond (rises_in_some claim shown) None (Some claim))
        → (if (nat_eq claim i || false) && not (rises_in_some i shown) then Some i else unreached_from (claim ∷ []) shown (suc i) n) ≡ cond (rises_in_some claim shown) None (Some claim)
    by true e later =
        ap (λ (b : Bool). if (b || false) && not (rises_in_some i shown) then Some i else unreached_from (claim ∷ []) shown (suc i) n) e
        ∙ here (rises_in_some i shown) refl (sym (eqb-true claim i e))
    by false e later =
        let other : claim ≡ i → ⊥ = λ is. absurd (cc (e, eq-eqb claim i is)) in
        ap (λ (b : Bool). if (b || false) && not (rises_in_some i shown) then Some i else unreached_from (claim ∷ []) shown (suc i) n) e ∙ later (omega (arith, low, other))

-- the one claim of a bad property that is there is unreached exactly where it rises in no frame
pub sole_claim : (claim bads : ℕ) (shown : List Shown) → claim < bads → unreached_from (claim ∷ []) shown 0 bads ≡ cond (rises_in_some claim shown) None (Some claim)
sole_claim claim bads shown h = claimed claim shown 0 bads (omega arith) (omega (arith, h))

-- ---- of claims that are all reached

pub claim_reached : (claims : List ℕ) (shown : List Shown) (i m n : ℕ) → m < n → list_any (λ c. c == i + m) claims ≡ true → unreached_from claims shown i n ≡ None → rises_in_some (i + m) shown ≡ true
claim_reached claims shown i m zero h claimed none = absurd (omega (arith, h))
claim_reached claims shown i zero (suc n) h claimed none =
    let own : i ≡ i + 0 = omega arith in
    by (rises_in_some i shown) (ap (λ (k : ℕ). rises_in_some k shown) own)
    (subst (λ (b : Bool). (if b && not (rises_in_some i shown) then Some i else unreached_from claims shown (suc i) n) ≡ None) (ap (λ (k : ℕ). list_any (λ c. c == k) claims) own ∙ claimed) none)
  where
    by : (b : Bool) → b ≡ rises_in_some (i + 0) shown → (if not b then Some i else unreached_from claims shown (suc i) n) ≡ None → rises_in_some (i + 0) shown ≡ true
    by true is e = sym is
    by false is e = absurd (none-some i (sym e))
claim_reached claims shown i (suc m) (suc n) h claimed none =
    let more : i + suc m ≡ suc i + m = omega arith in
    ap (λ (k : ℕ). rises_in_some k shown) more
    ∙ claim_reached claims shown (suc i) m n (omega (arith, h)) (sym (ap (λ (k : ℕ). list_any (λ c. c == k) claims) more) ∙ claimed) (behind (list_any (λ c. c == i) claims && not (rises_in_some i shown)) none)
  where
    behind : (b : Bool) → (if b then Some i else unreached_from claims shown (suc i) n) ≡ None → unreached_from claims shown (suc i) n ≡ None
    behind true e = absurd (none-some i (sym e))
    behind false e = e

-- ---- of a model

abbrev pub is_1 : Frame → ℕ → Bool
is_1 f a = f a == 1

pub bad_is_shown : (items : List Item) (k : ℕ) (f : Frame) → k < length (nodes_of is_bad items) → is_1 f (get_or (nodes_of is_bad items) k 0) ≡ is_bad_in k (model_shows items f)
bad_is_shown items k f h = sym (unwrap_or-slice_get (values_of is_bad items f) k false ∙ get_or-map (is_1 f) (nodes_of is_bad items) k 0 false h)

not_never : (fs : List Frame) (a : ℕ) → never_1 fs a ≡ not (list_any (λ f. is_1 f a) fs)
not_never [] a = refl
not_never (f ∷ fs) a = ap (λ (b : Bool). not (is_1 f a) && b) (not_never fs a) ∙ both (is_1 f a) (list_any (λ f. is_1 f a) fs)
  where
    both : (b c : Bool) → (not b && not c) ≡ not (b || c)
    both true c = refl
    both false c = refl

pub never_shown : (items : List Item) (fs : List Frame) (k : ℕ) → k < length (nodes_of is_bad items) → never_1 fs (get_or (nodes_of is_bad items) k 0) ≡ not (rises_in_some k (map (model_shows items) fs))
never_shown items fs k h =
    not_never fs (get_or (nodes_of is_bad items) k 0)
    ∙ ap not (some_bad (model_shows items) (λ f. is_1 f (get_or (nodes_of is_bad items) k 0)) k (λ f. bad_is_shown items k f h) fs)

first_shown : (claims : List ℕ) (fs : List Frame) (shown : List Shown) (i : ℕ) (rest : List ℕ) → ((m : ℕ) → m < length rest → never_1 fs (get_or rest m 0) ≡ not (rises_in_some (i + m) shown))
    → first_unreached claims fs i rest ≡ unreached_from claims shown i (length rest)
first_shown claims fs shown i [] each = refl
first_shown claims fs shown i (a ∷ rest) each =
    let zero_more : i + 0 ≡ i = omega arith in
    let here : never_1 fs a ≡ not (rises_in_some i shown) = each 0 (omega arith) ∙ ap (λ (n : ℕ). not (rises_in_some n shown)) zero_more in
    ap₂ (λ (b : Bool) (o : Option ℕ). if list_any (λ c. c == i) claims && b then Some i else o) here
    (first_shown claims fs shown (suc i) rest (λ m h. let more : i + suc m ≡ suc i + m = omega arith in each (suc m) (omega (arith, h)) ∙ ap (λ (n : ℕ). not (rises_in_some n shown)) more))

-- a bad property that is not there rises in no frame
pub none_past : (items : List Item) (fs : List Frame) (k : ℕ) → length (nodes_of is_bad items) ≤ k → rises_in_some k (map (model_shows items) fs) ≡ false
none_past items [] k h = refl
none_past items (f ∷ fs) k h =
    ap₂ (λ (a b : Bool). a || b) (unwrap_or-slice_get (values_of is_bad items f) k false ∙ get_or_past (values_of is_bad items f) k false (omega (arith, h, length-map (nodes_of is_bad items) (is_1 f)))) (none_past items fs k h)

-- what is judged by what was found node by node
pub words_verdict : (items : List Item) (different : Option ℕ) (claims : List ℕ) (fs : List Frame)
    → first_of different (breach_from (first_violated items) 0 fs) (first_unreached claims fs 0 (nodes_of is_bad items)) (length fs)
    ≡ verdict different claims (length (nodes_of is_bad items)) (map (model_shows items) fs)
words_verdict items different claims fs =
    let violated = breach_shown (model_shows items) (first_violated items) (λ f. place_of_values (is_1 f) 0 (nodes_of is_constraint items)) 0 fs in
    let reached = first_shown claims fs (map (model_shows items) fs) 0 (nodes_of is_bad items)
    (λ m h. let e : m ≡ 0 + m = omega arith in never_shown items fs m h ∙ ap (λ (k : ℕ). not (rises_in_some k (map (model_shows items) fs))) e) in
    rw (violated, reached, sym (length-map fs (model_shows items))) refl

-- ---- of a circuit

bit_is_shown : (c : Circuit) (k : ℕ) (v : Valuation) → literal_value v (get_or c.bads k 0) ≡ is_bad_in k (circuit_shows c v)
bit_is_shown c k v =
    elim (cases_lt k (length c.bads)) [
      | inl h ↦ sym (unwrap_or-slice_get (map (literal_value v) c.bads) k false ∙ get_or-map (literal_value v) c.bads k 0 false h)
      | inr h ↦ ap (literal_value v) (get_or_past c.bads k 0 h) ∙ sym (unwrap_or-slice_get (map (literal_value v) c.bads) k false ∙ get_or_past (map (literal_value v) c.bads) k false (omega (arith, h, length-map c.bads (literal_value v))))
    ]

pub bit_rises_shown : (c : Circuit) (k : ℕ) (vs : List Valuation) → bit_rises c k vs ≡ rises_in_some k (map (circuit_shows c) vs)
bit_rises_shown c k vs = some_bad (circuit_shows c) (λ v. literal_value v (get_or c.bads k 0)) k (bit_is_shown c k) vs

pub bits_verdict : (c : Circuit) (different : Option ℕ) (claim : ℕ) (vs : List Valuation) → claim < length c.bads
    → first_of different (breach_from (first_bit_violated c) 0 vs) (cond (bit_rises c claim vs) None (Some claim)) (length vs) ≡ verdict different (claim ∷ []) (length c.bads) (map (circuit_shows c) vs)
bits_verdict c different claim vs h =
    let violated = breach_shown (circuit_shows c) (first_bit_violated c) (λ v. place_of_values (literal_value v) 0 c.constraints) 0 vs in
    let reached : cond (bit_rises c claim vs) None (Some claim) ≡ unreached_from (claim ∷ []) (map (circuit_shows c) vs) 0 (length c.bads) =
    ap (λ (b : Bool). cond b None (Some claim)) (bit_rises_shown c claim vs) ∙ sym (sole_claim claim (length c.bads) (map (circuit_shows c) vs) h) in
    rw (violated, reached, sym (length-map vs (circuit_shows c))) refl
