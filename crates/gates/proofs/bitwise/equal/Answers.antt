use Rattle.std.proofs.Common.{◌≡◌, ◌+◌, ◌*◌, Bool, true, false, not, ◌==◌, bit_xor, length, refl, ap, ◌∙◌, arith, rules}
use Rattle.base.specs.Literal.{negation}
use Rattle.gates.specs.Made.{MakesLiteral, word_value, RefusesGate}
use Rattle.gates.proofs.LaterLemmas.{Refuses-weaker}
use Rattle.gates.proofs.LiteralLemmas.{MakesLiteral-not, MakesLiteral-same, Refuses-behind}
use Rattle.gates.proofs.BitListLemmas.{MakesLiteral-of_word}
use Rattle.gates.proofs.WordLemmas.{xor-zero}
use Rattle.gates.proofs.bitwise.equal.Goals as goal

not_twice : (x : Bool) → not (not x) ≡ x
not_twice true = refl
not_twice false = refl

pub returns-clause-ok : goal.returns-clause-ok
returns-clause-ok g c =
    let old = g.G.Gates.made c.args.g.now in
    let mid = g.G.Gates.made c.connect_words.new.g in
    let new = g.G.Gates.made c.connect_bits.new.g in
    let a = c.args.a.now in
    let b = c.args.b.now in
    let n = length a in
    let lit = c.in_ok-differ.differ in
    let differing = c.in_ok-differing.differing.items in
    let first = c.in_ok-differing.ensures.ok in
    let count : length c.as_slice.result.now ≡ n = ap length c.as_slice.ensures.value ∙ first.wide in
    let second : MakesLiteral mid new n (λ v. not (word_value v differing == 0)) lit = rw (← count, ← c.as_slice.ensures.value) c.in_ok-differ.ensures.ok in
    let both = MakesLiteral-of_word old mid new (3 * n) n n lit (λ v. bit_xor (word_value v a) (word_value v b)) (λ v w. not (w == 0)) differing first second in
    let opposite = MakesLiteral-not old new (3 * n + n) lit (λ v. not (bit_xor (word_value v a) (word_value v b) == 0)) both in
    rw c.not.ensures (MakesLiteral-same old new (3 * n + n) (4 * n) (negation lit) _ (λ v. word_value v a == word_value v b) (omega arith) (λ v. not_twice (bit_xor (word_value v a) (word_value v b) == 0) ∙ xor-zero (word_value v a) (word_value v b)) opposite)

pub connect_bits-requires-clause-most : goal.connect_bits-requires-clause-most
connect_bits-requires-clause-most g c = omega (arith, ap length c.as_slice.ensures.value, c.in_ok-differing.ensures.ok.wide, c.requires.most)

pub connect_bits-requires-clause-defined : goal.connect_bits-requires-clause-defined
connect_bits-requires-clause-defined g c = rw c.as_slice.ensures.value c.in_ok-differing.ensures.ok.defined

pub returns-in_err-differing-clause-refused : goal.returns-in_err-differing-clause-refused
returns-in_err-differing-clause-refused g c =
    let n = length c.args.a.now in
    let refused : RefusesGate (g.G.Gates.made c.args.g.now) (g.G.Gates.made c.connect_words.new.g) (4 * n) c.in_err-differing.field-0.0 =
    Refuses-weaker _ _ (3 * n) (4 * n) _ (omega arith) c.in_err-differing.ensures.refused
    in search rules

pub returns-in_err-differ-clause-refused : goal.returns-in_err-differ-clause-refused
returns-in_err-differ-clause-refused g c =
    let n = length c.args.a.now in
    let m = length c.as_slice.result.now in
    let count : m ≡ n = ap length c.as_slice.ensures.value ∙ c.in_ok-differing.ensures.ok.wide in
    let refused : RefusesGate (g.G.Gates.made c.args.g.now) (g.G.Gates.made c.connect_bits.new.g) (4 * n) c.in_err-differ.field-0.0 =
    Refuses-behind _ _ _ (3 * n) m (4 * n) _ (omega (arith, count)) c.in_ok-differing.ensures.ok.grows c.in_err-differ.ensures.refused
    in search rules
