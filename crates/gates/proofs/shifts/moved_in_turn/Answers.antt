use Rattle.std.proofs.Common.{◌≡◌, ℕ, suc, ◌+◌, ◌*◌, ◌%◌, ◌^◌, ◌<◌, ◌≤◌, if◌then◌else◌, length, take, refl, sym, ap, ap₂, subst, ◌∙◌, arith, lit<, rules}
use Rattle.std.proofs.Math.Nat.{pow-suc, pow-le-pow_right}
use Rattle.std.proofs.lemmas.Nat.{one_shl, mul-le}
use Rattle.base.specs.Operator.{binary_value}
use Rattle.base.specs.Literal.{literal_value}
use Rattle.gates.specs.Made.{MakesWord, word_value, RefusesGate}
use Rattle.gates.proofs.LaterLemmas.{IsDefined-of_word}
use Rattle.gates.proofs.LiteralLemmas.{Refuses-behind}
use Rattle.gates.proofs.GrowthLemmas.{Grows-refl}
use Rattle.gates.proofs.MoveLemmas.{moved_more}
use Rattle.gates.proofs.BitListLemmas.{MakesWord-same, MakesWord-weaker, MakesWord-of_word, word_value-below, word_value-more}
use Rattle.gates.proofs.shifts.moved_in_turn.Goals as goal

-- each power of two of a near amount is below the width
near_place : (place places n : ℕ) → place < places → 2 ^ places < 2 * n → 2 ^ place < n
near_place place places n inside near =
    let step : 2 ^ suc place ≤ 2 ^ places = pow-le-pow_right (lit< tt) (omega arith) in
    omega (arith, pow-suc 2 place)

pub loop-place-preserved : goal.loop-place-preserved
loop-place-preserved g c =
    let old = g.G.Gates.made c.args.g.now in
    let mid = g.G.Gates.made c.loop-place.g in
    let new = g.G.Gates.made c.choose.new.g in
    let op = c.args.op in
    let a = c.args.a.now in
    let amount = c.args.amount.now in
    let n = length a in
    let place = c.loop-place.place in
    let bits = c.loop-place.bits.items in
    let lit = c.index-amount-place.result in
    let row = c.in_ok-bits.bits.items in
    let before = c.loop-place.invariant in
    let power : 1 * 2 ^ place % 2 ^ 64 ≡ 2 ^ place = one_shl place 64 (omega arith) in
    let distance : 1 * 2 ^ place % 2 ^ 64 % c.len.result ≡ 2 ^ place % n = ap₂ (λ x m. x % m) power (c.len.ensures.value ∙ before.wide) in
    let same : length c.as_slice.result.now ≡ n = ap length c.as_slice.ensures.value ∙ before.wide in
    let there = c.moved-there.result.items in
    let count : length there ≡ n = c.moved-there.ensures.wide ∙ same in
    let chosen : MakesWord mid new (3 * n) n (λ v. if literal_value v lit then word_value v there else word_value v bits) row =
    subst (λ (k : ℕ). MakesWord mid new (3 * k) k (λ v. if literal_value v lit then word_value v there else word_value v bits) row) count (rw (c.as_slice-in-loop-place.ensures.value, c.as_slice-in-loop-place-2.ensures.value) at c.in_ok-bits.ensures.ok)
    in
    let stage : MakesWord mid new (3 * n) n (λ v. if literal_value v lit then binary_value op n (word_value v bits) (2 ^ place % n) else word_value v bits) row =
    MakesWord-same mid new (3 * n) n _ _ row (λ v. ap (λ w. if literal_value v lit then w else word_value v bits) ((rw c.as_slice.ensures.value at c.moved-there.ensures.means v) ∙ ap₂ (λ m k. binary_value op m (word_value v bits) k) before.wide distance)) chosen
    in
    let both = MakesWord-of_word old mid new (3 * (n * place)) (3 * n) n n (λ v. binary_value op n (word_value v a) (word_value v (take place amount))) (λ v w. if literal_value v lit then binary_value op n w (2 ^ place % n) else w) bits row before stage in
    MakesWord-weaker old new (3 * (n * place) + 3 * n) (3 * (n * (place + 1))) n _ row (omega arith)
    (MakesWord-same old new (3 * (n * place) + 3 * n) n _ (λ v. binary_value op n (word_value v a) (word_value v (take (place + 1) amount))) row
    (λ v.
    moved_more op n (word_value v a) (word_value v (take place amount)) (2 ^ place) (literal_value v lit) c.requires.moves (λ is. near_place place (length amount) n (omega arith) (c.requires.near is)) c.requires.some (word_value-below v a n refl)
    ∙ ap (binary_value op n (word_value v a)) (sym (word_value-more v amount place lit (omega arith) c.index-amount-place.is)))
    both)

-- the gates of the stages so far and of one more fit
few_stages : (n place places k : ℕ) → k ≡ n → place < places → 3 * (n * place) + 3 * k ≤ 3 * (n * places)
few_stages n place places k same inside = omega (arith, mul-le n (place + 1) n places (omega arith) (omega arith))

pub loop-place-init : goal.loop-place-init
loop-place-init g c =
    record {
      grows = Grows-refl _ (3 * (length c.args.a.now * 0));
      wide = c.moved-bits.ensures.wide;
      defined = c.moved-bits.ensures.defined _ c.requires.defined;
      means = λ v s. c.moved-bits.ensures.means v;
    }

pub choose-requires-clause-most : goal.choose-requires-clause-most
choose-requires-clause-most g c = omega (arith, ap length c.as_slice-in-loop-place.ensures.value, c.moved-there.ensures.wide, ap length c.as_slice.ensures.value, c.loop-place.invariant.wide, c.requires.most)

pub choose-requires-clause-equal : goal.choose-requires-clause-equal
choose-requires-clause-equal g c =
    ap length c.as_slice-in-loop-place-2.ensures.value ∙ sym (ap length c.as_slice-in-loop-place.ensures.value ∙ c.moved-there.ensures.wide ∙ ap length c.as_slice.ensures.value)

pub choose-requires-clause-condition : goal.choose-requires-clause-condition
choose-requires-clause-condition g c =
    IsDefined-of_word _ _ _ c.args.amount.now c.loop-place.place c.index-amount-place.result (omega arith) c.index-amount-place.is c.requires.amount c.loop-place.invariant.grows

pub choose-requires-clause-then : goal.choose-requires-clause-then
choose-requires-clause-then g c = rw c.as_slice-in-loop-place.ensures.value (c.moved-there.ensures.defined _ (rw c.as_slice.ensures.value c.loop-place.invariant.defined))

pub choose-requires-clause-otherwise : goal.choose-requires-clause-otherwise
choose-requires-clause-otherwise g c = rw c.as_slice-in-loop-place-2.ensures.value c.loop-place.invariant.defined

pub returns-in_err-bits-clause-refused : goal.returns-in_err-bits-clause-refused
returns-in_err-bits-clause-refused g c =
    let n = length c.args.a.now in
    let places = length c.args.amount.now in
    let m = length c.as_slice-in-loop-place.result.now in
    let same : m ≡ n = ap length c.as_slice-in-loop-place.ensures.value ∙ c.moved-there.ensures.wide ∙ ap length c.as_slice.ensures.value ∙ c.loop-place.invariant.wide in
    let refused : RefusesGate (g.G.Gates.made c.args.g.now) (g.G.Gates.made c.choose.new.g) (3 * (n * places)) c.in_err-bits.field-0.0 =
    Refuses-behind _ _ _ (3 * (n * c.loop-place.place)) (3 * m) (3 * (n * places)) _ (few_stages n c.loop-place.place places m same (omega arith)) c.loop-place.invariant.grows c.in_err-bits.ensures.refused
    in search rules
