-- Products of words, row by row, and whether a part of them is above the width.
use Rattle.std.proofs.Common.{◌≡◌, ℕ, zero, suc, ◌+◌, ◌-◌, ◌*◌, ◌%◌, ◌^◌, ◌<◌, ◌≤◌, Bool, true, false, not, ◌&&◌, ◌||◌, ◌==◌, nat_le, List, [], ◌∷◌, length, take, drop, get_or, refl, sym, ap, ◌∙◌, arith}
use Rattle.std.proofs.Math.Nat.{mod-eq_of_lt, mul_assoc}
use Rattle.std.proofs.lemmas.Nat.{pow_pos, pow-add, mul-le}
use Rattle.std.proofs.lemmas.Bool.Decides.{nat_tests}
use Rattle.std.proofs.lemmas.List.{length-take-le}
use Rattle.base.specs.Word.{bit_number}
use Rattle.base.specs.declared.operators.Binary.TheVariants as binary
use Rattle.base.specs.Operator.{binary_value}
use Rattle.base.specs.Literal.{Valuation, literal_value}
use Rattle.aiger.specs.Net.{Net}
use Rattle.aiger.proofs.NetLemmas.{IsDefined-false}
use Rattle.gates.specs.Made.{Grows, MakesAnd, MakesLiteral, MakesWord, word_value}
use Rattle.gates.specs.Sums.{literal_number, MakesSum}
use Rattle.gates.proofs.GrowthLemmas.{Grows-weaker, Grows-trans, Satisfies-earlier, All-defined-grown}
use Rattle.gates.proofs.BitListLemmas.{MakesWord-same, MakesWord-weaker, MakesWord-of_word, word_value-below, word_value-more}
use Rattle.gates.proofs.WindowLemmas.{word_value-split}
use Rattle.gates.proofs.SumLemmas.{MakesWord-sum}
use Rattle.gates.proofs.OrderLemmas.{MakesWord-test}
use Rattle.gates.proofs.ProductLemmas.{MakesWord-with_row, product_more}

-- a sum's carry says whether it is no word
carried : (p total sum : ℕ) (o : Bool) → sum < p → sum + p * bit_number o ≡ total → o ≡ nat_le p total
carried p total sum true below is = let least : p ≤ total = omega (arith, is) in grind (arith, nat_tests)
carried p total sum false below is = let most : total < p = omega (arith, is) in grind (arith, nat_tests)

-- a sum and a number moved up by a bit: it is no word where the number has a part above the width, or the sum of what is below has a carry
row_lost : (p s w sum : ℕ) (t above o : Bool) → s < p → above ≡ nat_le p w → sum < p → sum + p * bit_number o ≡ s + w % p * bit_number t
    → ((above && t) || o) ≡ nat_le p (s + w * bit_number t)
row_lost p s w sum true true o below above_is sum_below whole =
    let least : p ≤ w = grind (arith, nat_tests) in
    let far : p ≤ s + w * 1 = omega (arith, least) in
    grind (arith, nat_tests)
row_lost p s w sum true false o below above_is sum_below whole =
    let most : w < p = grind (arith, nat_tests) in
    let same : w % p ≡ w = mod-eq_of_lt most in
    carried p (s + w * 1) sum o sum_below (whole ∙ ap (λ k. s + k * 1) same)
row_lost p s w sum false true o below above_is sum_below whole = carried p (s + w * 0) sum o sum_below (whole ∙ omega arith)
row_lost p s w sum false false o below above_is sum_below whole = carried p (s + w * 0) sum o sum_below (whole ∙ omega arith)

-- a number has a part above the width where its part there is not 0
part_above : (p w high low : ℕ) → low < p → w ≡ high * p + low → not (high == 0) ≡ nat_le p w
part_above p w zero low below is = grind (arith, nat_tests)
part_above p w (suc h) low below is =
    let some : p ≤ suc h * p = omega arith in
    grind (arith, nat_tests)

-- a word moved up has a part above the width where it has a bit from there on
raised_above : (v : Valuation) (a : List ℕ) (n k : ℕ) → length a ≡ n → k ≤ n → not (word_value v (drop (n - k) a) == 0) ≡ nat_le (2 ^ n) (word_value v a * 2 ^ k)
raised_above v a n k wide inside =
    let all : n - k + k ≡ n = omega arith in
    let parts : 2 ^ (n - k) * 2 ^ k ≡ 2 ^ n = sym (pow-add 2 (n - k) k) ∙ ap (λ m. 2 ^ m) all in
    let high = word_value v (drop (n - k) a) in
    let low = word_value v (take (n - k) a) in
    let below : low < 2 ^ (n - k) = word_value-below v (take (n - k) a) (n - k) (length-take-le (n - k) a (omega arith)) in
    let room : (low + 1) * 2 ^ k ≤ 2 ^ (n - k) * 2 ^ k = mul-le (low + 1) (2 ^ k) (2 ^ (n - k)) (2 ^ k) (omega arith) (omega arith) in
    let some : 0 < 2 ^ k = pow_pos k in
    let split : word_value v a * 2 ^ k ≡ high * 2 ^ n + low * 2 ^ k = ap (λ w. w * 2 ^ k) (word_value-split v a (n - k) (omega arith)) ∙ omega (arith, ap (λ q. high * q) parts) in
    part_above (2 ^ n) (word_value v a * 2 ^ k) high (low * 2 ^ k) (omega arith) split

-- a word that was made, with gates behind it
pub MakesWord-kept : (old mid new : Net) (m n most wide : ℕ) (f : Valuation → ℕ) (bits : List ℕ) → m + n ≤ most → MakesWord old mid m wide f bits → Grows mid new n → MakesWord old new most wide f bits
MakesWord-kept old mid new m n most wide f bits le makes more = record {
  grows = Grows-weaker old new (m + n) most le (Grows-trans old mid new m n makes.grows more);
  wide = makes.wide;
  defined = All-defined-grown mid new n more bits makes.defined;
  means = λ v s. makes.means v (Satisfies-earlier mid new n more v s);
}

module _ (n0 n1 n2 n3 n4 n5 n6 : Net) (n place lit before : ℕ) (so_far a moved row sum : List ℕ) (into_top out above cut more lost : ℕ)
    (some : 1 ≤ place) (inside : place < n) (wide : length a ≡ n) (same : length so_far ≡ n) (moved_wide : length moved ≡ n)
    (moved_is : (v : Valuation) → word_value v moved ≡ word_value v a * 2 ^ place % 2 ^ n)
    (masked : MakesWord n0 n1 (length moved) (length moved) (λ v. word_value v moved * literal_number v lit) row)
    (added : MakesSum n1 n2 (9 * length so_far) so_far row 0 sum into_top out)
    (high : MakesLiteral n2 n3 (length a - (length a - place)) (λ v. not (word_value v (drop (length a - place) a) == 0)) above)
    (cuts : MakesAnd n3 n4 above lit cut)
    (either : MakesLiteral n4 n5 1 (λ v. literal_value v cut || literal_value v out) more)
    (all : MakesLiteral n5 n6 1 (λ v. literal_value v before || literal_value v more) lost) where
  few : n + 9 * n + (length a - (length a - place) + (1 + (1 + 1))) ≤ 12 * n
  few = omega (arith, wide, some, inside)

  behind : Grows n2 n6 (length a - (length a - place) + (1 + (1 + 1)))
  behind = Grows-trans n2 n3 n6 _ _ high.grows (Grows-trans n3 n4 n6 1 2 cuts.grows (Grows-trans n4 n5 n6 1 1 either.grows all.grows))

  rows : Grows n0 n2 (n + 9 * n)
  rows = Grows-trans n0 n1 n2 n (9 * n) (rw moved_wide at masked.grows) (rw same at added.grows)

  -- a sum so far and the row of one bit, within the width
  pub MakesWord-whole_row : MakesWord n0 n6 (12 * n) n (λ v. (word_value v so_far + word_value v a * (2 ^ place * literal_number v lit)) % 2 ^ n) sum
  MakesWord-whole_row =
      let summed : MakesWord n1 n2 (9 * length so_far) (length so_far) (λ v. (word_value v so_far + word_value v row + literal_number v 0) % 2 ^ length so_far) sum =
      MakesWord-sum n1 n2 (9 * length so_far) so_far row 0 sum into_top out _ added (λ v. refl)
      in
      let made = MakesWord-with_row n0 n1 n2 n place lit so_far a moved row sum same moved_wide moved_is masked summed in
      MakesWord-kept n0 n2 n6 (10 * n) _ (12 * n) n _ sum (omega (arith, few)) made behind

  -- and whether their whole sum is above the width
  pub MakesLiteral-whole_row : MakesLiteral n0 n6 (12 * n) (λ v. literal_value v before || nat_le (2 ^ n) (word_value v so_far + word_value v a * (2 ^ place * literal_number v lit))) lost
  MakesLiteral-whole_row =
      record {
        grows = Grows-weaker n0 n6 _ (12 * n) few (Grows-trans n0 n2 n6 _ _ rows behind);
        defined = all.defined;
        means = λ v s.
            let at_five = Satisfies-earlier n5 n6 1 all.grows v s in
            let at_four = Satisfies-earlier n4 n5 1 either.grows v at_five in
            let at_three = Satisfies-earlier n3 n4 1 cuts.grows v at_four in
            let at_two = Satisfies-earlier n2 n3 _ high.grows v at_three in
            let at_one = Satisfies-earlier n1 n2 _ added.grows v at_two in
            let above_is : literal_value v above ≡ nat_le (2 ^ n) (word_value v a * 2 ^ place) = high.means v at_three ∙ rw wide (raised_above v a n place wide (omega (arith, inside))) in
            let sum_below : word_value v sum < 2 ^ n = word_value-below v sum n (added.wide ∙ same) in
            let row_is : word_value v row ≡ word_value v a * 2 ^ place % 2 ^ n * literal_number v lit = masked.means v at_one ∙ ap (λ w. w * literal_number v lit) (moved_is v) in
            let whole : word_value v sum + 2 ^ n * literal_number v out ≡ word_value v so_far + word_value v a * 2 ^ place % 2 ^ n * literal_number v lit =
            ap (λ k. word_value v sum + 2 ^ k * literal_number v out) (sym same) ∙ added.whole v at_two ∙ ap (λ w. word_value v so_far + w + 0) row_is ∙ omega arith
            in
            all.means v s
            ∙ ap (λ x. literal_value v before || x)
            (either.means v at_five ∙ ap (λ x. x || literal_value v out) (cuts.means v at_four)
            ∙ row_lost (2 ^ n) (word_value v so_far) (word_value v a * 2 ^ place) (word_value v sum) (literal_value v lit) (literal_value v above) (literal_value v out) (word_value-below v so_far n same) above_is sum_below whole
            ∙ ap (λ w. nat_le (2 ^ n) (word_value v so_far + w)) (mul_assoc (word_value v a) (2 ^ place) (literal_number v lit)));
      }

-- the product with the lowest bit is a word
first_fits : (a p : ℕ) (t : Bool) → a < p → false ≡ nat_le p (a * bit_number t)
first_fits a p true below = grind (arith, nat_tests)
first_fits a p false below = grind (arith, nat_tests)

pub MakesLiteral-first_row : (old new : Net) (n most lit : ℕ) (a b bits : List ℕ) → 1 ≤ n → length a ≡ n → length b ≡ n → lit ≡ get_or b 0 lit → n ≤ most
    → MakesWord old new (length a) (length a) (λ v. word_value v a * literal_number v lit) bits
    → MakesLiteral old new most (λ v. nat_le (2 ^ n) (word_value v a * word_value v (take 1 b))) 0
MakesLiteral-first_row old new n most lit a b bits some wide same is le masked = record {
  grows = Grows-weaker old new (length a) most (omega (arith, wide)) masked.grows;
  defined = IsDefined-false new;
  means = λ v s.
      let lowest : word_value v (take 1 b) ≡ literal_number v lit = word_value-more v b 0 lit (omega arith) is ∙ omega arith in
      rw lowest (first_fits (word_value v a) (2 ^ n) (literal_value v lit) (word_value-below v a n wide));
}

-- each further row is the product with one bit more
pub MakesWord-next_whole_row : (old mid new : Net) (n place lit : ℕ) (a b product bits : List ℕ) → length b ≡ n → place < n → lit ≡ get_or b place lit
    → MakesWord old mid (12 * (n * place)) n (λ v. word_value v a * word_value v (take place b) % 2 ^ n) product
    → MakesWord mid new (12 * n) n (λ v. (word_value v product + word_value v a * (2 ^ place * literal_number v lit)) % 2 ^ n) bits
    → MakesWord old new (12 * (n * (place + 1))) n (λ v. word_value v a * word_value v (take (place + 1) b) % 2 ^ n) bits
MakesWord-next_whole_row old mid new n place lit a b product bits same inside is so_far row =
    let both = MakesWord-of_word old mid new (12 * (n * place)) (12 * n) n n (λ v. word_value v a * word_value v (take place b) % 2 ^ n) (λ v w. (w + word_value v a * (2 ^ place * literal_number v lit)) % 2 ^ n) product bits so_far row in
    MakesWord-weaker old new (12 * (n * place) + 12 * n) (12 * (n * (place + 1))) n _ bits (omega arith)
    (MakesWord-same old new (12 * (n * place) + 12 * n) n _ _ bits
    (λ v.
    product_more (word_value v a) (word_value v (take place b)) (2 ^ place) (literal_number v lit) (2 ^ n)
    ∙ ap (λ w. word_value v a * w % 2 ^ n) (sym (word_value-more v b place lit (omega arith) is)))
    both)

-- a product that is above the width stays so with each further row, and one that is not is what was kept
more_lost : (p a m k s : ℕ) (l : Bool) → 0 < p → l ≡ nat_le p (a * m) → s ≡ a * m % p → (l || nat_le p (s + a * k)) ≡ nat_le p (a * (m + k))
more_lost p a m k s true some was kept =
    let least : p ≤ a * m = grind (arith, nat_tests) in
    let far : p ≤ a * (m + k) = omega (arith, least) in
    grind (arith, nat_tests)
more_lost p a m k s false some was kept =
    let most : a * m < p = grind (arith, nat_tests) in
    let same : s ≡ a * m = kept ∙ mod-eq_of_lt most in
    let whole : s + a * k ≡ a * (m + k) = omega (arith, same) in
    ap (nat_le p) whole

pub MakesLiteral-next_row : (old mid new : Net) (n place lit before lost : ℕ) (a b product : List ℕ) → length b ≡ n → place < n → lit ≡ get_or b place lit
    → MakesWord old mid (12 * (n * place)) n (λ v. word_value v a * word_value v (take place b) % 2 ^ n) product
    → MakesLiteral old mid (12 * (n * place)) (λ v. nat_le (2 ^ n) (word_value v a * word_value v (take place b))) before
    → MakesLiteral mid new (12 * n) (λ v. literal_value v before || nat_le (2 ^ n) (word_value v product + word_value v a * (2 ^ place * literal_number v lit))) lost
    → MakesLiteral old new (12 * (n * (place + 1))) (λ v. nat_le (2 ^ n) (word_value v a * word_value v (take (place + 1) b))) lost
MakesLiteral-next_row old mid new n place lit before lost a b product same inside is bits flag row = record {
  grows = Grows-weaker old new (12 * (n * place) + 12 * n) (12 * (n * (place + 1))) (omega arith) (Grows-trans old mid new _ _ flag.grows row.grows);
  defined = row.defined;
  means = λ v s.
      let at_mid = Satisfies-earlier mid new _ row.grows v s in
      row.means v s
      ∙ more_lost (2 ^ n) (word_value v a) (word_value v (take place b)) (2 ^ place * literal_number v lit) (word_value v product) (literal_value v before) (pow_pos n) (flag.means v at_mid) (bits.means v at_mid)
      ∙ ap (λ w. nat_le (2 ^ n) (word_value v a * w)) (sym (word_value-more v b place lit (omega arith) is));
}

pub MakesWord-umulo : (old new : Net) (a b : List ℕ) (l : ℕ)
    → MakesLiteral old new (12 * (length a * length a)) (λ v. nat_le (2 ^ length a) (word_value v a * word_value v b)) l
    → MakesWord old new (40 * (length a * length a) + length a) 1 (λ v. binary_value binary.Umulo (length a) (word_value v a) (word_value v b)) (l ∷ [])
MakesWord-umulo old new a b l makes = MakesWord-test old new (12 * (length a * length a)) (40 * (length a * length a) + length a) _ _ l (omega arith) makes (λ v. refl)
