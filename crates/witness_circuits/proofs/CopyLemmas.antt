-- A copy of a circuit from literals of its inputs and latches, and from its gates.
use Rattle.std.proofs.Common.{◌≡◌, ℕ, suc, ◌+◌, List, [], ◌∷◌, ◌++◌, length, get_or, All, sym, ap, ap₂, subst, ◌∙◌, length-append, append_assoc, arith}
use Rattle.std.proofs.lemmas.List.Elements.{All-append, All-cons}
use Rattle.aiger.specs.declared.circuit.Gate.{Gate}
use Rattle.aiger.specs.Net.{Net, IsDefined, SatisfiesFrom, bits_from}
use Rattle.aiger.specs.Circuit.{Circuit}
use Rattle.gates.specs.Reads.{read, GatesRead}
use Rattle.gates.proofs.GrowthLemmas.{All-defined-grown}
use Rattle.gates.proofs.TableLemmas.{read_middle}
use Rattle.witness_circuits.specs.Made.{IsCopied}

-- false is defined over any gates
zero_defined : (n : Net) → IsDefined n 0
zero_defined n = omega arith

-- the literals of false, inputs and latches are defined
pub leaves_defined : (n : Net) (inputs latches leaves : List ℕ) → leaves ≡ 0 ∷ (inputs ++ latches) → All (IsDefined n) inputs → All (IsDefined n) latches → All (IsDefined n) leaves
leaves_defined n inputs latches leaves is a b = subst (All (IsDefined n)) (sym is) (All-cons (IsDefined n) 0 (inputs ++ latches) (zero_defined n) (All-append (IsDefined n) inputs latches a b))

-- and as many as there are
pub leaves_many : (c : Circuit) (inputs latches leaves : List ℕ) → leaves ≡ 0 ∷ (inputs ++ latches) → length inputs ≡ c.inputs → length latches ≡ length c.latches → length leaves ≡ suc (c.inputs + length c.latches)
leaves_many c inputs latches leaves is a b = ap length is ∙ (let e = length-append inputs latches in omega arith)

pub copied_made : (c : Circuit) (old new : Net) (gs : List Gate) (inputs latches leaves more table : List ℕ) → leaves ≡ 0 ∷ (inputs ++ latches) → length inputs ≡ c.inputs → length latches ≡ length c.latches
    → All (IsDefined old) inputs → All (IsDefined old) latches → gs ≡ c.gates → GatesRead old new (length leaves) gs leaves more → table ≡ leaves ++ more → IsCopied c inputs latches old new table
copied_made c old new gs inputs latches leaves more table front many_inputs many_latches inputs_defined latches_defined is said all =
    let g : GatesRead old new (length leaves) c.gates leaves more = subst (λ (xs : List Gate). GatesRead old new (length leaves) xs leaves more) is said in
    let many : length leaves ≡ suc (c.inputs + length c.latches) = leaves_many c inputs latches leaves front many_inputs many_latches in
    let whole : table ≡ 0 ∷ (inputs ++ (latches ++ more)) = all ∙ (ap (λ (xs : List ℕ). xs ++ more) front ∙ ap (λ (xs : List ℕ). 0 ∷ xs) (append_assoc inputs latches more)) in
    record {
      grows = g.grows;
      stand =
          record {
            zero_is = ap (λ (xs : List ℕ). get_or xs 0 0) whole;
            many = ap length all ∙ (let e = length-append leaves more in let f = g.many in omega arith);
            defined =
                subst (All (IsDefined new)) (sym all)
                (All-append (IsDefined new) leaves more (All-defined-grown old new _ g.grows leaves (leaves_defined old inputs latches leaves front inputs_defined latches_defined)) g.defined);
          };
      frame = λ z s. record {
        gates =
            subst (λ (xs : List ℕ). SatisfiesFrom (suc (c.inputs + length c.latches)) c.gates (read xs z)) (sym all)
            (subst (λ (k : ℕ). SatisfiesFrom k c.gates (read (leaves ++ more) z)) many (g.satisfied z s));
        inputs =
            ap₂ (λ (k : ℕ) (xs : List ℕ). bits_from 1 k (read xs z)) (sym many_inputs) whole
            ∙ read_middle (0 ∷ []) inputs (latches ++ more) z;
        latches =
            ap₂ (λ (k : ℕ) (xs : List ℕ). bits_from (suc c.inputs) k (read xs z)) (sym many_latches) whole
            ∙ (ap (λ (k : ℕ). bits_from (suc k) (length latches) (read (0 ∷ (inputs ++ (latches ++ more))) z)) (sym many_inputs)
            ∙ read_middle (0 ∷ inputs) latches more z);
      };
    }
