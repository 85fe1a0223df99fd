-- The bits of an index, and halves of arrays.
use Rattle.std.proofs.Common.{◌≡◌, ℕ, zero, suc, ◌+◌, ◌-◌, ◌*◌, ◌^◌, ◌<◌, ◌≤◌, List, [], ◌∷◌, ◌++◌, length, slice_get, Option, Some, None, IfSome, Result, IfOk, ◌⊎◌, inl, inr, sym, ap, ap₂, subst, ◌∙◌, pow_pos, arith}
use Rattle.std.specs.List.{AllByRecursion}
use Rattle.std.proofs.Math.Pow.{pow_mono}
use Rattle.std.proofs.Math.Nat.{mul-le-mul_left}
use Rattle.std.proofs.lemmas.Bool.{cases_lt}
use Rattle.std.proofs.lemmas.Nat.{pow-add}
use Rattle.base.specs.declared.operators.Unary.TheVariants as unary
use Rattle.base.specs.Operator.{unary_value, ite_value, slice_value}
use Rattle.btor2.specs.declared.item.Item.{Item}
use Rattle.full.specs.Gives.{GivesWord}
use Rattle.full.proofs.GivesLemmas.{gives_same}
use Rattle.cells.specs.declared.maker.bits.Bit.{Bit}
use Rattle.cells.specs.declared.shortage.Shortage.{Shortage}
use Rattle.cells.specs.Lines.{Extends}
use Rattle.cells.specs.Bits.{GivesBit, GiveBits, ids_of_bits}
use Rattle.cells.proofs.LineLemmas.{gives_stay}
use Rattle.cells.proofs.NodeLemmas.{ok_with}

-- ---- sizes of arrays

pub few_bits : (k n : ℕ) → 1 ≤ n → 2 ^ k * n ≤ 1048576 → k < 64
few_bits k n some most = by (cases_lt k 64)
  where
    by : (k < 64) ⊎ (64 ≤ k) → k < 64
    by (inl below) = below
    by (inr above) =
        let great : 2 ^ 64 ≤ 2 ^ k = pow_mono above in
        let product : 2 ^ k * 1 ≤ 2 ^ k * n = mul-le-mul_left (2 ^ k) some in
        absurd (omega (arith, great, product, most))

pub some_element : (k n : ℕ) → 1 ≤ 2 ^ k * n → 1 ≤ n
some_element k zero h = absurd (omega (arith, h))
some_element k (suc n) h = omega arith

pub two_halves : (k n : ℕ) → 2 ^ (k + 1) * n ≡ 2 ^ k * n + 2 ^ k * n
two_halves k n =
    let twice : 2 ^ (k + 1) ≡ 2 ^ k * 2 = pow-add 2 k 1 in
    ap (λ (c : ℕ). c * n) twice ∙ omega arith

pub half_most : (k bits n most : ℕ) → k + 1 ≡ bits → 2 ^ bits * n ≤ most → 2 ^ k * n ≤ most
half_most k bits n most is h = let here : 2 ^ (k + 1) * n ≤ most = subst (λ (b : ℕ). 2 ^ b * n ≤ most) (sym is) h in omega (arith, two_halves k n, here)

pub both_most : (k bits n size most : ℕ) → k + 1 ≡ bits → size ≡ 2 ^ k * n → 2 ^ bits * n ≤ most → size + size ≤ most
both_most k bits n size most is wide h = let here : 2 ^ (k + 1) * n ≤ most = subst (λ (b : ℕ). 2 ^ b * n ≤ most) (sym is) h in omega (arith, two_halves k n, here, wide)

pub some_half : (k n : ℕ) → 1 ≤ n → 1 ≤ 2 ^ k * n
some_half k n h = grind (arith, pow_pos k)

-- ---- what holds of each bit of a list

pub if_bit : (o : Option Bit) (P Q : Bit → Type 0) → ((b : Bit) → P b → Q b) → IfSome o P → IfSome o Q
if_bit None P Q f h = tt
if_bit (Some b) P Q f h = f b h

abbrev EachPlace : (ℕ → Bit → Type 0) → List Bit → Type 0
EachPlace P bits = (k : ℕ) → IfSome (slice_get bits k) (P k)

place_more : (P : ℕ → Bit → Type 0) (bits : List Bit) (b : Bit) → EachPlace P bits → P (length bits) b → EachPlace P (bits ++ b ∷ [])
place_more P [] b h own zero = own
place_more P [] b h own (suc k) = tt
place_more P (x ∷ xs) b h own zero = h 0
place_more P (x ∷ xs) b h own (suc k) = place_more (λ (i : ℕ). P (suc i)) xs b (λ i. h (suc i)) own k

place_front : (P : ℕ → Bit → Type 0) (bits : List Bit) (b : Bit) → EachPlace P (bits ++ b ∷ []) → EachPlace P bits
place_front P [] b h k = tt
place_front P (x ∷ xs) b h zero = h 0
place_front P (x ∷ xs) b h (suc k) = place_front (λ (i : ℕ). P (suc i)) xs b (λ i. h (suc i)) k

place_last : (P : ℕ → Bit → Type 0) (bits : List Bit) (b : Bit) → EachPlace P (bits ++ b ∷ []) → P (length bits) b
place_last P [] b h = h 0
place_last P (x ∷ xs) b h = place_last (λ (i : ℕ). P (suc i)) xs b (λ i. h (suc i))

-- ---- bits of an index

pub bit_stays : (old new : List Item) (handed : List ℕ) (index place : ℕ) (b : Bit) → Extends old new handed → GivesBit old index place b → GivesBit new index place b
bit_stays old new handed index place b e h = record {
  one = gives_stay old new handed 1 (λ g. slice_value (g index) place place) b.one e h.one;
  zero = gives_stay old new handed 1 (λ g. 1 - slice_value (g index) place place) b.zero e h.zero;
}

pub bits_stay : (old new : List Item) (handed : List ℕ) (index : ℕ) (bits : List Bit) → Extends old new handed → GiveBits old index bits → GiveBits new index bits
bits_stay old new handed index bits e h k = if_bit (slice_get bits k) (GivesBit old index k) (GivesBit new index k) (λ b. bit_stays old new handed index k b e) (h k)

pub no_bits : (items : List Item) (index : ℕ) (bits : List Bit) → bits ≡ [] → GiveBits items index bits
no_bits items index bits none = subst (GiveBits items index) (sym none) (λ k. tt)

pub bits_more : (old new : List Item) (handed : List ℕ) (index place : ℕ) (bits more : List Bit) (b : Bit) → Extends old new handed → GiveBits old index bits → length bits ≡ place → GivesBit new index place b → more ≡ bits ++ b ∷ [] → GiveBits new index more
bits_more old new handed index place bits more b e h many own is =
    subst (GiveBits new index) (sym is) (place_more (GivesBit new index) bits b (bits_stay old new handed index bits e h) (subst (λ (k : ℕ). GivesBit new index k b) (sym many) own))

pub lower_bits : (items : List Item) (index : ℕ) (all lower : List Bit) (b : Bit) → all ≡ lower ++ b ∷ [] → GiveBits items index all → GiveBits items index lower
lower_bits items index all lower b is h = place_front (GivesBit items index) lower b (subst (GiveBits items index) is h)

pub top_bit : (items : List Item) (index : ℕ) (all lower : List Bit) (b : Bit) → all ≡ lower ++ b ∷ [] → GiveBits items index all → GivesBit items index (length lower) b
top_bit items index all lower b is h = place_last (GivesBit items index) lower b (subst (GiveBits items index) is h)

-- the nodes of one bit
pub bit_given : (mid new : List Item) (handed : List ℕ) (index place one off : ℕ) → Extends mid new handed → GivesWord mid (place - place + 1) (λ g. slice_value (g index) place place) one → GivesWord new 1 (λ g. unary_value unary.Not 1 (g one)) off
    → GivesBit new index place (record { one = one; zero = off })
bit_given mid new handed index place one off e lit dark =
    let bit : place - place + 1 ≡ 1 = omega arith in
    let here = gives_stay mid new handed 1 (λ g. slice_value (g index) place place) one e (subst (λ (n : ℕ). GivesWord mid n (λ g. slice_value (g index) place place) one) bit lit) in
    record {
      one = here;
      zero = gives_same new 1 (λ g. unary_value unary.Not 1 (g one)) (λ g. 1 - slice_value (g index) place place) off dark
          (λ more wide state input g states inputs frame. ap (λ (w : ℕ). unary_value unary.Not 1 w) (here.word more wide state input g states inputs frame));
    }

-- ---- ids of bits

pub ids_more : (P : ℕ → Type 0) (bits more : List Bit) (b : Bit) → AllByRecursion P (ids_of_bits bits) → P b.one → P b.zero → more ≡ bits ++ b ∷ [] → AllByRecursion P (ids_of_bits more)
ids_more P bits more b h lit dark is = subst (λ (l : List Bit). AllByRecursion P (ids_of_bits l)) (sym is) (on bits h)
  where
    on : (l : List Bit) → AllByRecursion P (ids_of_bits l) → AllByRecursion P (ids_of_bits (l ++ b ∷ []))
    on [] k = (lit, (dark, tt))
    on (x ∷ xs) k = (k.0, (k.1.0, on xs k.1.1))

pub ids_lower : (P : ℕ → Type 0) (all lower : List Bit) (b : Bit) → all ≡ lower ++ b ∷ [] → AllByRecursion P (ids_of_bits all) → AllByRecursion P (ids_of_bits lower)
ids_lower P all lower b is h = on lower (subst (λ (l : List Bit). AllByRecursion P (ids_of_bits l)) is h)
  where
    on : (l : List Bit) → AllByRecursion P (ids_of_bits (l ++ b ∷ [])) → AllByRecursion P (ids_of_bits l)
    on [] k = tt
    on (x ∷ xs) k = (k.0, (k.1.0, on xs k.1.1))

pub ids_top : (P : ℕ → Type 0) (all lower : List Bit) (b : Bit) → all ≡ lower ++ b ∷ [] → AllByRecursion P (ids_of_bits all) → P b.one × P b.zero
ids_top P all lower b is h = on lower (subst (λ (l : List Bit). AllByRecursion P (ids_of_bits l)) is h)
  where
    on : (l : List Bit) → AllByRecursion P (ids_of_bits (l ++ b ∷ [])) → P b.one × P b.zero
    on [] k = (k.0, k.1.0)
    on (x ∷ xs) k = on xs k.1.1

-- ---- halves

pub high_given : (mid new : List Item) (handed : List ℕ) (array half high : ℕ) → Extends mid new handed → 1 ≤ half → GivesWord mid (half + half - 1 - half + 1) (λ g. slice_value (g array) (half + half - 1) half) high
    → GivesWord new half (λ g. slice_value (g array) (half + half - 1) half) high
high_given mid new handed array half high e some h =
    let bits : half + half - 1 - half + 1 ≡ half = omega arith in
    gives_stay mid new handed half (λ g. slice_value (g array) (half + half - 1) half) high e (subst (λ (n : ℕ). GivesWord mid n (λ g. slice_value (g array) (half + half - 1) half) high) bits h)

pub chosen_given : (mid new : List Item) (handed : List ℕ) (array half bit high low : ℕ) (r : Result ℕ Shortage) → Extends mid new handed → GivesWord mid half (λ g. slice_value (g array) (half + half - 1) half) high → GivesWord mid half (λ g. slice_value (g array) (half - 1) 0) low
    → IfOk r (GivesWord new half (λ g. ite_value (g bit) (g high) (g low))) → IfOk r (GivesWord new half (λ g. ite_value (g bit) (slice_value (g array) (half + half - 1) half) (slice_value (g array) (half - 1) 0)))
chosen_given mid new handed array half bit high low r e hi lo h =
    let above = gives_stay mid new handed half (λ g. slice_value (g array) (half + half - 1) half) high e hi in
    let below = gives_stay mid new handed half (λ g. slice_value (g array) (half - 1) 0) low e lo in
    ok_with (GivesWord new half (λ g. ite_value (g bit) (g high) (g low))) (GivesWord new half (λ g. ite_value (g bit) (slice_value (g array) (half + half - 1) half) (slice_value (g array) (half - 1) 0))) r
    (λ id k. gives_same new half (λ g. ite_value (g bit) (g high) (g low)) (λ g. ite_value (g bit) (slice_value (g array) (half + half - 1) half) (slice_value (g array) (half - 1) 0)) id k
    (λ more wide state input g states inputs frame.
    ap₂ (λ (x y : ℕ). ite_value (g bit) x y) (above.word more wide state input g states inputs frame) (below.word more wide state input g states inputs frame))) h
