use Rattle.std.proofs.lemmas.List.Elements.{All-take, All-drop, All-replicate}
use Rattle.std.proofs.Common.{◌≡◌, ℕ, ◌+◌, ◌*◌, ◌^◌, ◌≤◌, true, not, ◌==◌, nat_le, if◌then◌else◌, length, take, drop, replicate, List, refl, sym, ap, subst, ◌∙◌, arith, ◌-◌, ◌<◌, get_or, rules, All, Bool, ◌||◌}
use Rattle.std.proofs.lemmas.Bool.{agree_below_at, leb-true, false≢true}
use Rattle.std.proofs.lemmas.List.{length-replicate}
use Rattle.std.proofs.lemmas.Result.{IfOk-weaker, IfErr-weaker}
use Rattle.base.specs.Operator.{ones, binary_value}
use Rattle.base.specs.declared.operators.Binary.{Binary}
use Rattle.base.specs.declared.operators.Binary.TheVariants.{Sll, Srl, Sra}
use Rattle.aiger.specs.Net.{IsDefined}
use Rattle.aiger.proofs.NetLemmas.{IsDefined-false}
use Rattle.base.specs.Literal.{literal_value}
use Rattle.gates.specs.Bound.{log_up, binary_bound}
use Rattle.gates.specs.Made.{MakesWord, MakesLiteral, word_value, RefusesGate}
use Rattle.gates.specs.Tests.{is_shift, is_rotation}
use Rattle.gates.proofs.LaterLemmas.{IsDefined-of_word, Refuses-weaker}
use Rattle.gates.proofs.BitListLemmas.{MakesWord-same, MakesWord-weaker, MakesWord-choice}
use Rattle.gates.proofs.LiteralLemmas.{Refuses-behind}
use Rattle.gates.proofs.GrowthLemmas.{Grows-trans, All-defined-grown}
use Rattle.gates.proofs.WindowLemmas.{IsFill, IsFill-false, shifted, word_value-replicate}
use Rattle.gates.proofs.shifts.shift.Goals.{in-Sra, in_default}
use Rattle.gates.proofs.shifts.shift.Goals as goal

shift_bound : (op : Binary) (n : ℕ) → is_shift op ≡ true → binary_bound op n ≡ 3 * (n * log_up n) + 4 * n
shift_bound Sll n is = refl
shift_bound Srl n is = refl
shift_bound Sra n is = refl
shift_bound _ n is = absurd (false≢true is)

-- a width is not above the power of two that counts its places
log_up_enough : (n : ℕ) → n ≤ 64 → n ≤ 2 ^ log_up n
log_up_enough n most = leb-true n (2 ^ log_up n) (agree_below_at (λ k. nat_le k (2 ^ log_up k)) (λ k. true) 65 n refl (omega arith))

pub returns-clause-ok : goal.returns-clause-ok
returns-clause-ok g c =
    let old = g.G.Gates.made c.args.g.now in
    let first = g.G.Gates.made c.moved_in_turn.new.g in
    let second = g.G.Gates.made c.connect_bits.new.g in
    let new = g.G.Gates.made c.choose.new.g in
    let op = c.args.op in
    let a = c.args.a.now in
    let b = c.args.b.now in
    let n = length a in
    let places = log_up n in
    let fill = c.match-op.fill in
    let near = c.in_ok-near.near.items in
    let is_far = c.in_ok-is_far.is_far in
    let count : c.log_up.result ≡ places = c.log_up.ensures.value in
    let low : c.split_at.result.0.now ≡ take places b = c.split_at.ensures.front ∙ ap (λ k. take k b) count in
    let high : c.split_at.result.1.now ≡ drop places b = c.split_at.ensures.back ∙ ap (λ k. drop k b) count in
    let low_count : length c.split_at.result.0.now ≡ places = c.split_at.ensures.front_len ∙ count in
    let is_fill : IsFill op a fill = elim c.match-op.branch [
      | in-Sra w ↦ subst (λ o. IsFill o a fill) (sym w.in-Sra.is) (rw w.fill-is w.index-a-width.is)
      | in_default w ↦ IsFill-false op a fill c.requires.shifts w.in_default.not-Sra w.fill-is
    ] in
    let rest : length c.split_at.result.1.now + places ≡ n = ap (λ k. length c.split_at.result.1.now + k) (sym count) ∙ c.split_at.ensures.back_len ∙ c.requires.operands.equal in
    let word : MakesWord old first (3 * (n * places)) n (λ v. binary_value op n (word_value v a) (word_value v (take places b))) near = rw (← low, ← low_count) c.in_ok-near.ensures.ok in
    let test : MakesLiteral first second (length c.split_at.result.1.now) (λ v. not (word_value v (drop places b) == 0)) is_far = rw (← high) c.in_ok-is_far.ensures.ok in
    let filling : c.as_slice.result.now ≡ replicate n fill = (c.as_slice.ensures.value ∙ c.repeated.ensures) in
    let filled_count : length c.as_slice.result.now ≡ n = ap length filling ∙ length-replicate n fill in
    IfOk-weaker c.choose.result _ _
    (λ row m.
    let choice : MakesWord second new (3 * n) n (λ v. if literal_value v is_far then word_value v c.as_slice.result.now else word_value v near) row.items =
    subst (λ (k : ℕ). MakesWord second new (3 * k) k (λ v. if literal_value v is_far then word_value v c.as_slice.result.now else word_value v near) row.items) filled_count m
    in
    let fills : MakesWord second new (3 * n) n (λ v. if literal_value v is_far then (if literal_value v fill then ones n else 0) else word_value v near) row.items =
    MakesWord-same second new (3 * n) n _ _ row.items (λ v. ap (λ w. if literal_value v is_far then w else word_value v near) (ap (word_value v) filling ∙ word_value-replicate v n fill)) choice
    in
    let whole = MakesWord-choice old first second new (3 * (n * places)) (length c.split_at.result.1.now) (3 * n) n is_far (λ v. binary_value op n (word_value v a) (word_value v (take places b))) (λ v. if literal_value v fill then ones n else 0) (λ v. not (word_value v (drop places b) == 0)) near row.items word test fills in
    rw (shift_bound op n c.requires.shifts) (MakesWord-weaker old new (3 * (n * places) + length c.split_at.result.1.now + 3 * n) (3 * (n * places) + 4 * n) n _ row.items (omega arith)
    (MakesWord-same old new _ n _ (λ v. binary_value op n (word_value v a) (word_value v b)) row.items (λ v. shifted op v a b n fill places c.requires.shifts c.requires.operands.some refl is_fill (omega arith) (log_up_enough n c.requires.operands.most)) whole)))
    (rw c.as_slice-2.ensures.value at c.choose.ensures.ok)

pub returns-clause-refused : goal.returns-clause-refused
returns-clause-refused g c =
    let old = g.G.Gates.made c.args.g.now in
    let first = g.G.Gates.made c.moved_in_turn.new.g in
    let second = g.G.Gates.made c.connect_bits.new.g in
    let new = g.G.Gates.made c.choose.new.g in
    let op = c.args.op in
    let n = length c.args.a.now in
    let count : c.log_up.result ≡ log_up n = c.log_up.ensures.value in
    let low_count : length c.split_at.result.0.now ≡ log_up n = c.split_at.ensures.front_len ∙ count in
    let rest : length c.split_at.result.1.now + log_up n ≡ n = ap (λ k. length c.split_at.result.1.now + k) (sym count) ∙ c.split_at.ensures.back_len ∙ c.requires.operands.equal in
    let filled_count : length c.as_slice.result.now ≡ n = ap length (c.as_slice.ensures.value ∙ c.repeated.ensures) ∙ length-replicate (length c.args.a.now) c.match-op.fill in
    let stages : 3 * (n * length c.split_at.result.0.now) ≡ 3 * (n * log_up n) = ap (λ k. 3 * (n * k)) low_count in
    let before = Grows-trans old first second (3 * (n * length c.split_at.result.0.now)) (length c.split_at.result.1.now) c.in_ok-near.ensures.ok.grows c.in_ok-is_far.ensures.ok.grows in
    IfErr-weaker c.choose.result _ _
    (λ e r. rw (shift_bound op n c.requires.shifts) (Refuses-behind old second new (3 * (n * length c.split_at.result.0.now) + length c.split_at.result.1.now) (3 * length c.as_slice.result.now) (3 * (n * log_up n) + 4 * n) e (omega arith) before r))
    c.choose.ensures.refused

-- that power of two is below the double
near_enough : (n : ℕ) → 1 ≤ n → n ≤ 64 → 2 ^ log_up n < 2 * n
near_enough n some most =
    let place : n - 1 + 1 ≡ n = omega arith in
    let at : 2 ^ log_up (n - 1 + 1) + 1 ≤ 2 * (n - 1 + 1) = leb-true (2 ^ log_up (n - 1 + 1) + 1) (2 * (n - 1 + 1)) (agree_below_at (λ k. nat_le (2 ^ log_up (k + 1) + 1) (2 * (k + 1))) (λ k. true) 64 (n - 1) refl (omega arith)) in
    let below : 2 ^ log_up n + 1 ≤ 2 * n = subst (λ (m : ℕ). 2 ^ log_up m + 1 ≤ 2 * m) place at in
    less (2 ^ log_up n) (2 * n) below
  where
    less : (a b : ℕ) → a + 1 ≤ b → a < b
    less a b le = omega arith

few_stages : (n m k : ℕ) → m ≡ k → 3 * (n * m) ≤ 3 * (n * k) + 4 * n
few_stages n m k same = omega (arith, ap (λ j. n * j) same)

few_stages_and : (n m k j : ℕ) → m ≡ k → j ≤ 4 * n → 3 * (n * m) + j ≤ 3 * (n * k) + 4 * n
few_stages_and n m k j same most = omega (arith, ap (λ i. n * i) same)

pub moved_in_turn-requires-clause-moves : goal.moved_in_turn-requires-clause-moves
moved_in_turn-requires-clause-moves g c = ap (λ (x : Bool). x || is_rotation c.args.op) c.requires.shifts

pub moved_in_turn-requires-clause-places : goal.moved_in_turn-requires-clause-places
moved_in_turn-requires-clause-places g c = omega (arith, c.split_at.ensures.front_len, c.log_up.ensures.most)

pub moved_in_turn-requires-clause-near : goal.moved_in_turn-requires-clause-near
moved_in_turn-requires-clause-near g c = λ is.
    let n = length c.args.a.now in
    let low_count : length c.split_at.result.0.now ≡ log_up n = c.split_at.ensures.front_len ∙ c.log_up.ensures.value in
    subst (λ (k : ℕ). 2 ^ k < 2 * n) (sym low_count) (near_enough n c.requires.operands.some c.requires.operands.most)

pub moved_in_turn-requires-clause-amount : goal.moved_in_turn-requires-clause-amount
moved_in_turn-requires-clause-amount g c =
    let old = g.G.Gates.made c.args.g.now in
    let b = c.args.b.now in
    let low : c.split_at.result.0.now ≡ take c.log_up.result b = c.split_at.ensures.front in
    subst (λ (ls : List ℕ). All (IsDefined old) ls) (sym low) (All-take (IsDefined old) c.log_up.result b c.requires.operands.right)

pub connect_bits-requires-clause-most : goal.connect_bits-requires-clause-most
connect_bits-requires-clause-most g c =
    omega (arith, c.split_at.ensures.back_len, c.requires.operands.equal, c.requires.operands.most)

pub connect_bits-requires-clause-defined : goal.connect_bits-requires-clause-defined
connect_bits-requires-clause-defined g c =
    let old = g.G.Gates.made c.args.g.now in
    let first = g.G.Gates.made c.moved_in_turn.new.g in
    let b = c.args.b.now in
    let high : c.split_at.result.1.now ≡ drop c.log_up.result b = c.split_at.ensures.back in
    subst (λ (ls : List ℕ). All (IsDefined first) ls) (sym high) (All-drop (IsDefined first) c.log_up.result b (All-defined-grown old first _ c.in_ok-near.ensures.ok.grows b c.requires.operands.right))

pub choose-requires-clause-most : goal.choose-requires-clause-most
choose-requires-clause-most g c =
    let count = length-replicate (length c.args.a.now) c.match-op.fill in
    omega (arith, ap length (c.as_slice.ensures.value ∙ c.repeated.ensures), count, c.requires.operands.most)

pub choose-requires-clause-equal : goal.choose-requires-clause-equal
choose-requires-clause-equal g c =
    let filled_count : length c.as_slice.result.now ≡ length c.args.a.now = ap length (c.as_slice.ensures.value ∙ c.repeated.ensures) ∙ length-replicate (length c.args.a.now) c.match-op.fill in
    ap length c.as_slice-2.ensures.value ∙ c.in_ok-near.ensures.ok.wide ∙ sym filled_count

pub choose-requires-clause-condition : goal.choose-requires-clause-condition
choose-requires-clause-condition g c = c.in_ok-is_far.ensures.ok.defined

pub choose-requires-clause-then : goal.choose-requires-clause-then
choose-requires-clause-then g c =
    let second = g.G.Gates.made c.connect_bits.new.g in
    let a = c.args.a.now in
    let fill = c.match-op.fill in
    let before = Grows-trans _ _ _ _ _ c.in_ok-near.ensures.ok.grows c.in_ok-is_far.ensures.ok.grows in
    let defined : IsDefined second fill = elim c.match-op.branch [
      | in-Sra w ↦ rw w.fill-is (
          let x = w.index-a-width.result in
          let x_is : x ≡ get_or a (length a - 1) x = w.index-a-width.is in
          IsDefined-of_word _ second _ a (length a - 1) x (omega (arith, c.requires.operands.some)) x_is c.requires.operands.left before)
      | in_default w ↦ rw w.fill-is (IsDefined-false second)
    ] in
    rw (c.as_slice.ensures.value ∙ c.repeated.ensures) (All-replicate (IsDefined second) (length c.args.a.now) fill defined)

pub choose-requires-clause-otherwise : goal.choose-requires-clause-otherwise
choose-requires-clause-otherwise g c = rw c.as_slice-2.ensures.value (All-defined-grown _ _ _ c.in_ok-is_far.ensures.ok.grows _ c.in_ok-near.ensures.ok.defined)

pub returns-in_err-near-clause-refused : goal.returns-in_err-near-clause-refused
returns-in_err-near-clause-refused g c =
    let op = c.args.op in
    let n = length c.args.a.now in
    let m = length c.split_at.result.0.now in
    let low_count : m ≡ log_up n = c.split_at.ensures.front_len ∙ c.log_up.ensures.value in
    let within : 3 * (n * m) ≤ 3 * (n * log_up n) + 4 * n = few_stages n m (log_up n) low_count in
    let refused : RefusesGate (g.G.Gates.made c.args.g.now) (g.G.Gates.made c.moved_in_turn.new.g) (binary_bound op n) c.in_err-near.field-0.0 =
    rw (shift_bound op n c.requires.shifts) (Refuses-weaker _ _ (3 * (n * m)) (3 * (n * log_up n) + 4 * n) _ within c.in_err-near.ensures.refused)
    in search rules

pub returns-in_err-is_far-clause-refused : goal.returns-in_err-is_far-clause-refused
returns-in_err-is_far-clause-refused g c =
    let op = c.args.op in
    let n = length c.args.a.now in
    let m = length c.split_at.result.0.now in
    let k = length c.split_at.result.1.now in
    let low_count : m ≡ log_up n = c.split_at.ensures.front_len ∙ c.log_up.ensures.value in
    let most : k ≤ 4 * n = omega (arith, c.split_at.ensures.back_len, c.requires.operands.equal) in
    let within : 3 * (n * m) + k ≤ 3 * (n * log_up n) + 4 * n = few_stages_and n m (log_up n) k low_count most in
    let refused : RefusesGate (g.G.Gates.made c.args.g.now) (g.G.Gates.made c.connect_bits.new.g) (binary_bound op n) c.in_err-is_far.field-0.0 =
    rw (shift_bound op n c.requires.shifts) (Refuses-behind _ _ _ (3 * (n * m)) k (3 * (n * log_up n) + 4 * n) _ within c.in_ok-near.ensures.ok.grows c.in_err-is_far.ensures.refused)
    in search rules
