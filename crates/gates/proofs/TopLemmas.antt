-- Sums without the carry out of their highest column.
use Rattle.std.proofs.Common.{◌≡◌, ℕ, suc, ◌+◌, ◌*◌, ◌%◌, ◌^◌, ◌<◌, List, [], ◌∷◌, ◌++◌, length, take, sym, ap, ◌∙◌, arith, length-append}
use Rattle.std.proofs.lemmas.List.{length-take-le}
use Rattle.std.proofs.lemmas.List.Elements.{All-push}
use Rattle.base.specs.Word.{bit_number}
use Rattle.base.proofs.BitLemmas.{two_more}
use Rattle.base.specs.Literal.{literal_value}
use Rattle.aiger.specs.Net.{Net, IsDefined}
use Rattle.gates.specs.Connect.{differ}
use Rattle.gates.specs.Made.{MakesLiteral, MakesWord, word_value}
use Rattle.gates.specs.Sums.{literal_number, MakesSum}
use Rattle.gates.proofs.GrowthLemmas.{Grows-weaker, Grows-trans, Satisfies-earlier, All-defined-grown}
use Rattle.gates.proofs.BitListLemmas.{word_value-below}
use Rattle.gates.proofs.SumLemmas.{top_sum, word_value-push}

-- a sum of the low columns, and the exclusive or of the highest bits and the carry into them
pub MakesWord-without_carry : (n0 n1 n2 n3 : Net) (k : ℕ) (a b : List ℕ) (carry : ℕ) (sum : List ℕ) (into_top out x y both last : ℕ) (bits : List ℕ)
    → length a ≡ suc k → length b ≡ suc k → a ≡ take k a ++ x ∷ [] → b ≡ take k b ++ y ∷ [] → bits ≡ sum ++ last ∷ []
    → MakesSum n0 n1 (7 * k) (take k a) (take k b) carry sum into_top out
    → MakesLiteral n1 n2 3 (λ v. differ (literal_value v x) (literal_value v y)) both
    → MakesLiteral n2 n3 3 (λ v. differ (literal_value v both) (literal_value v out)) last
    → MakesWord n0 n3 (9 * length a) (length a) (λ v. (word_value v a + word_value v b + literal_number v carry) % 2 ^ length a) bits
MakesWord-without_carry n0 n1 n2 n3 k a b carry sum into_top out x y both last bits a_wide b_wide x_is y_is bits_are low first second =
    let last_two = Grows-trans n1 n2 n3 3 3 first.grows second.grows in
    let front : length (take k a) ≡ k = length-take-le k a (omega arith) in
    let front_b : length (take k b) ≡ k = length-take-le k b (omega arith) in
    let sum_wide : length sum ≡ k = low.wide ∙ front in
    rw a_wide
    (record {
      grows = Grows-weaker n0 n3 (7 * k + 6) (9 * suc k) (omega arith) (Grows-trans n0 n1 n3 (7 * k) 6 low.grows last_two);
      wide = omega (arith, ap length bits_are, length-append sum (last ∷ []), sum_wide);
      defined = rw bits_are (All-push (IsDefined n3) sum last (All-defined-grown n1 n3 6 last_two sum low.sum_defined) second.defined);
      means = λ v s.
          let at_two = Satisfies-earlier n2 n3 3 second.grows v s in
          let at_one = Satisfies-earlier n1 n2 3 first.grows v at_two in
          let below : word_value v sum < 2 ^ k = word_value-below v sum k sum_wide in
          let whole : word_value v sum + 2 ^ k * literal_number v out ≡ word_value v (take k a) + word_value v (take k b) + literal_number v carry = rw front at (low.whole v at_one) in
          let a_is : word_value v a ≡ word_value v (take k a) + 2 ^ k * literal_number v x = ap (word_value v) x_is ∙ (word_value-push v (take k a) x ∙ ap (λ n. word_value v (take k a) + 2 ^ n * literal_number v x) front) in
          let b_is : word_value v b ≡ word_value v (take k b) + 2 ^ k * literal_number v y = ap (word_value v) y_is ∙ (word_value-push v (take k b) y ∙ ap (λ n. word_value v (take k b) + 2 ^ n * literal_number v y) front_b) in
          let last_is : literal_value v last ≡ differ (differ (literal_value v x) (literal_value v y)) (literal_value v out) = second.means v s ∙ ap (λ z. differ z (literal_value v out)) (first.means v at_two) in
          let total : word_value v a + word_value v b + literal_number v carry ≡ word_value v sum + 2 ^ k * (literal_number v x + literal_number v y + literal_number v out) = omega (arith, whole, a_is, b_is) in
          let read : word_value v bits ≡ word_value v sum + 2 ^ k * literal_number v last = rw bits_are (word_value-push v sum last ∙ ap (λ n. word_value v sum + 2 ^ n * literal_number v last) sum_wide) in
          read ∙ ap (λ z. word_value v sum + 2 ^ k * bit_number z) last_is
          ∙ sym (top_sum (2 ^ k) (word_value v sum) (literal_value v x) (literal_value v y) (literal_value v out) below)
          ∙ ap (λ t. t % (2 * 2 ^ k)) (sym total)
          ∙ ap (λ t. (word_value v a + word_value v b + literal_number v carry) % t) (sym (two_more k));
    })
