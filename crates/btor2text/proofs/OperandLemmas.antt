-- Operands that are read one after the other.
use Rattle.std.proofs.Common.{◌≡◌, ℕ, zero, suc, ◌+◌, ◌-◌, ◌^◌, ◌<◌, ◌≤◌, min, false, ◌==◌, cond, List, [], ◌∷◌, ◌++◌, length, map, decimal, Some, None, Result, Ok, Err, refl, sym, ap, subst, ◌∙◌, inl, inr, append_assoc, append-nil, arith}
use Rattle.std.specs.Str.Parse.{digits_value}
use Rattle.std.proofs.lemmas.Bool.{eqb-false, ne_eqb}
use Rattle.base.specs.Decimals.{is_decimal, number_of, capped_value}
use Rattle.base.proofs.DecimalLemmas.{chosen}
use Rattle.btor2.proofs.AcceptedLemmas.{Each}
use Rattle.btor2text.specs.declared.fault.Why.{Why}
use Rattle.btor2text.specs.declared.fault.Why.TheVariants as why
use Rattle.btor2text.specs.Reading.{◌>>=◌, Tokens, plain_number, plain_at, operand_at, operands_at, counted_at}
use Rattle.btor2text.proofs.BoundLemmas.{IsId}
use Rattle.btor2text.proofs.PlaceLemmas.{most, bind_ok, done, ok_is, some_is, some_read, plain_at_takes, plain_at-decimal, operand_at_takes, operand_at-decimal}

-- operands behind others, and the tokens behind them
abbrev pub behind : List ℕ → Result (List ℕ × Tokens) Why → Result (List ℕ × Tokens) Why
behind ids r = r >>= λ x. Ok (ids ++ x.0, x.1)

-- an operand in front of others
abbrev in_front : ℕ → Result (List ℕ × Tokens) Why → Result (List ℕ × Tokens) Why
in_front a r = r >>= λ more. Ok (a ∷ more.0, more.1)

behind_one : (ids : List ℕ) (a : ℕ) (r : Result (List ℕ × Tokens) Why) → behind ids (in_front a r) ≡ behind (ids ++ a ∷ []) r
behind_one ids a (Ok x) = ap (λ (l : List ℕ). Ok (l, x.1)) (sym (append_assoc ids (a ∷ []) x.0))
behind_one ids a (Err w) = refl

one_more : (k : ℕ) (tokens : Tokens) → operands_at (suc k) tokens ≡ (operand_at tokens >>= λ a. in_front a.0 (operands_at k a.1))
unfolding operands_at
one_more k tokens = refl

read_one : (k : ℕ) (tokens rest : Tokens) (a : ℕ) → operand_at tokens ≡ Ok (a, rest) → operands_at (suc k) tokens ≡ in_front a (operands_at k rest)
read_one k tokens rest a e = one_more k tokens ∙ ap (λ (r : Result (ℕ × Tokens) Why). r >>= λ a. in_front a.0 (operands_at k a.1)) e

-- what is left to be read is one more than this
left : (n i : ℕ) → i < n → n - i ≡ suc (n - (i + 1))
left n i lt = omega arith

module _ (n i : ℕ) (ids : List ℕ) (tokens : Tokens) (total : Result (List ℕ × Tokens) Why) (so_far : behind ids (operands_at (n - i) tokens) ≡ total) where
  pub operand_read : (a : ℕ) (rest : Tokens) → i < n → operand_at tokens ≡ Ok (a, rest) → behind (ids ++ a ∷ []) (operands_at (n - (i + 1)) rest) ≡ total
  operand_read a rest lt e =
      sym (behind_one ids a (operands_at (n - (i + 1)) rest))
      ∙ (ap (behind ids) (sym (ap (λ (k : ℕ). operands_at k tokens) (left n i lt) ∙ read_one (n - (i + 1)) tokens rest a e)) ∙ so_far)

  pub operand_fails : (w : Why) → i < n → operand_at tokens ≡ Err w → total ≡ Err w
  operand_fails w lt e =
      let here : operands_at (n - i) tokens ≡ Err w = ap (λ (k : ℕ). operands_at k tokens) (left n i lt) ∙ (one_more (n - (i + 1)) tokens ∙ ap (λ (r : Result (ℕ × Tokens) Why). r >>= λ a. in_front a.0 (operands_at (n - (i + 1)) a.1)) e) in
      sym so_far ∙ ap (behind ids) here

  pub operands_read : n ≤ i → total ≡ Ok (ids, tokens)
  unfolding operands_at
  operands_read le =
      let none : n - i ≡ 0 = omega arith in
      let here : operands_at (n - i) tokens ≡ Ok ([], tokens) = ap (λ (k : ℕ). operands_at k tokens) none in
      sym so_far ∙ (ap (behind ids) here ∙ ap (λ (l : List ℕ). Ok (l, tokens)) (append-nil ids))

-- ---- what is read is what the tokens spell, and what they spell is read

taken_in_front : (a k : ℕ) (tokens rest : Tokens) (x more : List ℕ × Tokens) → tokens ≡ decimal a ∷ rest → (rest ≡ map decimal more.0 ++ more.1) × (length more.0 ≡ k) → (tokens ≡ map decimal (a ∷ more.0) ++ more.1) × (length (a ∷ more.0) ≡ suc k)
taken_in_front a k tokens rest x more first others = (first ∙ ap (λ (l : Tokens). decimal a ∷ l) others.0, ap suc others.1)

pub operands_at_takes : (k : ℕ) (tokens : Tokens) (x : List ℕ × Tokens) → operands_at k tokens ≡ Ok x → Each IsId x.0 → (tokens ≡ map decimal x.0 ++ x.1) × (length x.0 ≡ k)
unfolding operands_at
operands_at_takes zero tokens x e = subst (λ (p : List ℕ × Tokens). Each IsId p.0 → (tokens ≡ map decimal p.0 ++ p.1) × (length p.0 ≡ 0)) {x = ([], tokens)} (ok_is ([], tokens) x e) (λ each. (refl, refl))
operands_at_takes (suc k) tokens x e =
    let a = bind_ok (operand_at tokens) (λ a. operands_at k a.1 >>= λ more. Ok (a.0 ∷ more.0, more.1)) x e in
    let more = bind_ok (operands_at k a.0.1) (λ more. Ok (a.0.0 ∷ more.0, more.1)) x a.2 in
    subst (λ (p : List ℕ × Tokens). Each IsId p.0 → (tokens ≡ map decimal p.0 ++ p.1) × (length p.0 ≡ suc k)) {x = (a.0.0 ∷ more.0.0, more.0.1)} (ok_is (a.0.0 ∷ more.0.0, more.0.1) x more.2)
    (λ each. taken_in_front a.0.0 k tokens a.0.1 x more.0 (operand_at_takes tokens a.0 a.1 each.0) (operands_at_takes k a.0.1 more.0 more.1 each.1))

operands_at-again : (nodes : List ℕ) (rest : Tokens) → Each IsId nodes → operands_at (length nodes) (map decimal nodes ++ rest) ≡ Ok (nodes, rest)
unfolding operands_at
operands_at-again [] rest each = refl
operands_at-again (a ∷ nodes) rest each = rw (operand_at-decimal a (map decimal nodes ++ rest) each.0, operands_at-again nodes rest each.1) refl

-- a number that is read is told up to 2 ^ 64 - 1
plain_small : (token : List ℕ) (n : ℕ) → plain_number token ≡ Ok n → n ≤ 2 ^ 64 - 1
unfolding plain_number number_of capped_value
plain_small token n e =
    elim (chosen (is_decimal token) (Some (min (digits_value 10 token) (2 ^ 64 - 1))) None (Some n) (some_read (number_of token) n e)) [
      | inl h ↦ let is = some_is (min (digits_value 10 token) (2 ^ 64 - 1)) n h.1 in omega (arith, is)
      | inr h ↦ absurd cc
    ]

plain_at_small : (tokens : Tokens) (x : ℕ × Tokens) → plain_at tokens ≡ Ok x → x.0 ≤ 2 ^ 64 - 1
unfolding plain_at
plain_at_small [] x e = absurd cc
plain_at_small (token ∷ rest) x e =
    let b = bind_ok (plain_number token) (λ n. Ok (n, rest)) x e in
    subst (λ (p : ℕ × Tokens). p.0 ≤ 2 ^ 64 - 1) {x = (b.0, rest)} (ok_is (b.0, rest) x b.2) (plain_small token b.0 b.1)

counted : (tokens : Tokens) (k : ℕ × Tokens) (x : List ℕ × Tokens) → plain_at tokens ≡ Ok k → k.0 < most → (k.1 ≡ map decimal x.0 ++ x.1) × (length x.0 ≡ k.0) → (tokens ≡ decimal (length x.0) ∷ map decimal x.0 ++ x.1) × (length x.0 < 2 ^ 64 - 1)
counted tokens k x e lt others = (plain_at_takes tokens k e lt ∙ (ap (λ (l : Tokens). decimal k.0 ∷ l) others.0 ∙ ap (λ (n : ℕ). decimal n ∷ map decimal x.0 ++ x.1) (sym others.1)), omega (arith, others.1, lt))

pub counted_at_takes : (tokens : Tokens) (x : List ℕ × Tokens) → counted_at tokens ≡ Ok x → Each IsId x.0 → (tokens ≡ decimal (length x.0) ∷ map decimal x.0 ++ x.1) × (length x.0 < 2 ^ 64 - 1)
unfolding counted_at
counted_at_takes tokens x e each =
    let k = bind_ok (plain_at tokens) (λ k. operands_at k.0 k.1 >>= λ a. cond (k.0 == 2 ^ 64 - 1) (Err why.BadToken) (Ok a)) x e in
    let a = bind_ok (operands_at k.0.0 k.0.1) (λ a. cond (k.0.0 == 2 ^ 64 - 1) (Err why.BadToken) (Ok a)) x k.2 in
    elim (chosen (k.0.0 == 2 ^ 64 - 1) (Err why.BadToken) (done a.0) (Ok x) a.2) [
      | inl h ↦ absurd cc
      | inr h ↦
          let same = ok_is a.0 x h.1 in
          let lt : k.0.0 < most = omega (arith, plain_at_small tokens k.0 k.1, eqb-false k.0.0 (2 ^ 64 - 1) h.0) in
          counted tokens k.0 x k.1 lt (operands_at_takes k.0.0 k.0.1 x (a.1 ∙ ap (λ (p : List ℕ × Tokens). done p) same) each)
    ]

pub counted_at-again : (nodes : List ℕ) (rest : Tokens) → Each IsId nodes → length nodes < 2 ^ 64 - 1 → counted_at (decimal (length nodes) ∷ map decimal nodes ++ rest) ≡ Ok (nodes, rest)
unfolding counted_at
counted_at-again nodes rest each lt =
    let other : (length nodes == 2 ^ 64 - 1) ≡ false = ne_eqb (length nodes) (2 ^ 64 - 1) (λ e. omega (arith, e, lt)) in
    rw (plain_at-decimal (length nodes) (map decimal nodes ++ rest) (omega (arith, lt)), operands_at-again nodes rest each, other) refl
