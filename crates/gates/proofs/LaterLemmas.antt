-- What is known of literals and of refusals at a net, said of a later one.
use Rattle.std.proofs.Common.{◌≡◌, ℕ, ◌*◌, ◌%◌, ◌^◌, ◌<◌, ◌≤◌, nat_le, List, length, take, get_or, All, subst, arith}
use Rattle.std.proofs.lemmas.List.{take_all}
use Rattle.std.proofs.lemmas.List.Elements.{All-get_or}
use Rattle.base.specs.Literal.{negation}
use Rattle.aiger.specs.Net.{Net, IsDefined}
use Rattle.aiger.proofs.NetLemmas.{IsDefined-negation}
use Rattle.gates.specs.declared.fault.GateFault.{GateFault}
use Rattle.gates.specs.Made.{Grows, MakesLiteral, MakesWord, RefusesGate, word_value}
use Rattle.gates.specs.Operands.{AreOperands}
use Rattle.gates.proofs.GrowthLemmas.{Grows-weaker, IsDefined-grown, All-defined-grown}

-- a literal of a word
pub IsDefined-of_word : (old new : Net) (most : ℕ) (a : List ℕ) (i x : ℕ) → i < length a → x ≡ get_or a i x → All (IsDefined old) a → Grows old new most → IsDefined new x
IsDefined-of_word old new most a i x inside is defined more =
    let here : IsDefined old x = rw is (All-get_or (IsDefined old) a i x inside defined) in
    IsDefined-grown old new most more x here

-- the operands of a builder
pub AreOperands-later : (old new : Net) (most greatest : ℕ) (a b : List ℕ) → Grows old new most → AreOperands old greatest a b → AreOperands new greatest a b
AreOperands-later old new most greatest a b more operands = record {
  some = operands.some;
  most = operands.most;
  equal = operands.equal;
  left = All-defined-grown old new most more a operands.left;
  right = All-defined-grown old new most more b operands.right;
}

-- a refusal with a greater bound
pub Refuses-weaker : (old new : Net) (few most : ℕ) (e : GateFault) → few ≤ most → RefusesGate old new few e → RefusesGate old new most e
Refuses-weaker old new few most e le r = record {
  grows = Grows-weaker old new few most le r.grows;
  too_big = λ is. let full = r.too_big is in omega arith;
}

-- a literal negated
pub IsDefined-not : (n : Net) (x l : ℕ) → l ≡ negation x → IsDefined n x → IsDefined n l
IsDefined-not n x l is defined = rw is (IsDefined-negation n x defined)

-- all rows of a product are the product
pub MakesWord-all_whole_rows : (old new : Net) (n place : ℕ) (a b bits : List ℕ) → length b ≡ n → place ≡ n
    → MakesWord old new (12 * (n * place)) n (λ v. word_value v a * word_value v (take place b) % 2 ^ n) bits
    → MakesWord old new (12 * (n * n)) n (λ v. word_value v a * word_value v b % 2 ^ n) bits
MakesWord-all_whole_rows old new n place a b bits same all rows =
    let whole : take place b ≡ b = take_all place b (omega arith) in
    let makes : MakesWord old new (12 * (n * place)) n (λ v. word_value v a * word_value v b % 2 ^ n) bits = rw whole at rows in
    subst (λ (k : ℕ). MakesWord old new (12 * (n * k)) n (λ v. word_value v a * word_value v b % 2 ^ n) bits) all makes

pub MakesLiteral-all_whole_rows : (old new : Net) (n place lost : ℕ) (a b : List ℕ) → length b ≡ n → place ≡ n
    → MakesLiteral old new (12 * (n * place)) (λ v. nat_le (2 ^ n) (word_value v a * word_value v (take place b))) lost
    → MakesLiteral old new (12 * (n * n)) (λ v. nat_le (2 ^ n) (word_value v a * word_value v b)) lost
MakesLiteral-all_whole_rows old new n place lost a b same all rows =
    let whole : take place b ≡ b = take_all place b (omega arith) in
    let makes : MakesLiteral old new (12 * (n * place)) (λ v. nat_le (2 ^ n) (word_value v a * word_value v b)) lost = rw whole at rows in
    subst (λ (k : ℕ). MakesLiteral old new (12 * (n * k)) (λ v. nat_le (2 ^ n) (word_value v a * word_value v b)) lost) all makes
