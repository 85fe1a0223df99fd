-- Lines read one after the other: what is behind them, and what was read so far.
use Rattle.std.proofs.Common.{◌≡◌, ℕ, suc, ◌+◌, List, [], ◌∷◌, ◌++◌, map, Result, Ok, Err, ◌⊎◌, inl, inr, refl, sym, ap, subst, ◌∙◌, append_assoc, arith}
use Rattle.std.specs.List.{sum, sum_by}
use Rattle.std.proofs.lemmas.List.Sums.{sum_by-append, sum_by-cons, sum-map}
use Rattle.aigertext.specs.declared.fault.Stop.{Stop}
use Rattle.aigertext.specs.declared.fault.Why.{Why}
use Rattle.aigertext.specs.declared.fault.Why.TheVariants as why
use Rattle.aigertext.specs.Reading.{◌>>=◌, line_at, lines_at}
use Rattle.aigertext.specs.Passes.{onto, WasToBeRead}

-- ---- one more and the others

onto_one : {A : Type 0} (x : A) (r : Result (List A × List ℕ) Stop) → ◌>>=◌ {A = List A × List ℕ} {B = List A × List ℕ} {E = Stop} r (λ ys. Ok (x ∷ ys.0, ys.1)) ≡ onto (x ∷ []) r
onto_one x (Ok ys) = refl
onto_one x (Err e) = refl

pub onto_onto : {A : Type 0} (xs ys : List A) (r : Result (List A × List ℕ) Stop) → onto xs (onto ys r) ≡ onto (xs ++ ys) r
onto_onto xs ys (Ok x) = ap (λ (l : List _). Ok (l, x.1)) (sym (append_assoc xs ys x.0))
onto_onto xs ys (Err e) = refl

same_map : (ns : List ℕ) → map (λ (n : ℕ). n) ns ≡ ns
same_map [] = refl
same_map (n ∷ ns) = ap (λ (l : List ℕ). n ∷ l) (same_map ns)

sum_is : (ns : List ℕ) → sum ns ≡ sum_by (λ (n : ℕ). n) ns
sum_is ns = ap sum (sym (same_map ns)) ∙ sum-map (λ (n : ℕ). n) ns

pub sum_of_cons : (n : ℕ) (ns : List ℕ) → sum (n ∷ ns) ≡ n + sum ns
sum_of_cons n ns = sum_is (n ∷ ns) ∙ sum_by-cons (λ (m : ℕ). m) n ns ∙ ap (λ (k : ℕ). n + k) (sym (sum_is ns))

pub sum_of_more : (n : ℕ) (ns : List ℕ) → sum (ns ++ n ∷ []) ≡ sum ns + n
sum_of_more n ns = omega (arith, sum_is (ns ++ n ∷ []), sum_by-append (λ (m : ℕ). m) ns (n ∷ []), sum_by-cons (λ (m : ℕ). m) n [], sum_is ns)

-- ---- lines

pub onto_nothing : {A : Type 0} (r : Result (List A × List ℕ) Stop) → onto [] r ≡ r
onto_nothing (Ok x) = refl
onto_nothing (Err e) = refl

module _ {A S : Type 0} (says : S → List ℕ → Result A Why) (next : S → A → S) (s : S) (m n : ℕ) (text : List ℕ) (left : m ≡ suc n) where
  pub lines_more : (x : A) (after : List ℕ) → line_at (says s) text ≡ Ok (x, after) → lines_at says next s m text ≡ onto (x ∷ []) (lines_at says next (next s x) n after)
  lines_more x after one = ap (λ (k : ℕ). lines_at says next s k text) left ∙ rw one (onto_one x (lines_at says next (next s x) n after))

  pub lines_stop : (e : Stop) → line_at (says s) text ≡ Err e → lines_at says next s m text ≡ Err e
  lines_stop e one = ap (λ (k : ℕ). lines_at says next s k text) left ∙ rw one refl

  pub onto_step : (xs : List A) (x : A) (after : List ℕ) (t : S) (whole : Result (List A × List ℕ) Stop) → next s x ≡ t → line_at (says s) text ≡ Ok (x, after) → onto xs (lines_at says next s m text) ≡ whole
      → onto (xs ++ x ∷ []) (lines_at says next t n after) ≡ whole
  onto_step xs x after t whole is one so_far =
      ap (λ (u : S). onto (xs ++ x ∷ []) (lines_at says next u n after)) (sym is)
      ∙ sym (onto_onto xs (x ∷ []) (lines_at says next (next s x) n after)) ∙ ap (onto xs) (sym (lines_more x after one)) ∙ so_far

  pub onto_stop : (xs : List A) (e : Stop) (whole : Result (List A × List ℕ) Stop) → line_at (says s) text ≡ Err e → onto xs (lines_at says next s m text) ≡ whole → whole ≡ Err e
  onto_stop xs e whole one so_far = sym so_far ∙ ap (onto xs) (lines_stop e one)

-- ---- one after the other

-- what is read first stops all, or gives what is read next
pub reads_stop : {A B : Type 0} (e : Stop) (r : Result A Stop) (next : A → Result B Stop) → (e.why ≡ why.NoMemory) ⊎ (r ≡ Err e) → (e.why ≡ why.NoMemory) ⊎ ((r >>= next) ≡ Err e)
reads_stop e r next (inl full) = inl full
reads_stop e r next (inr stops) = inr (subst (λ (q : Result _ Stop). (q >>= next) ≡ Err e) (sym stops) refl)

pub stops_then : {A B : Type 0} (e : Stop) (r : Result A Stop) (a : A) (next : A → Result B Stop) → r ≡ Ok a → (e.why ≡ why.NoMemory) ⊎ (next a ≡ Err e) → (e.why ≡ why.NoMemory) ⊎ ((r >>= next) ≡ Err e)
stops_then e r a next is (inl full) = inl full
stops_then e r a next is (inr stops) = inr (subst (λ (q : Result _ Stop). (q >>= next) ≡ Err e) (sym is) stops)

pub reads_then : {A B X : Type 0} (view : X → B) (answer : Result X Stop) (r : Result A Stop) (a : A) (next : A → Result B Stop) → r ≡ Ok a → WasToBeRead view answer (next a) → WasToBeRead view answer (r >>= next)
reads_then view answer r a next is read = subst (λ (q : Result _ Stop). WasToBeRead view answer (q >>= next)) (sym is) read

-- what `?` returns where reading stops
pub stopped : {A X : Type 0} (view : X → A) (answer : Result X Stop) (e : Stop) (read : Result A Stop) → (y : Stop) × (answer ≡ Err y) × (y ≡ e) → (e.why ≡ why.NoMemory) ⊎ (read ≡ Err e) → WasToBeRead view answer read
stopped view answer e read is stops = subst (λ (r : Result _ Stop). WasToBeRead view r read) (sym (is.1 ∙ ap (λ (y : Stop). Err y) is.2)) stops
