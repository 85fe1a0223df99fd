-- Literals that are made one after the other.
use Rattle.std.proofs.Common.{◌≡◌, ℕ, ◌+◌, ◌≤◌, Bool, not, ◌&&◌, ◌∙◌, ap, ap₂, arith}
use Rattle.base.specs.Literal.{Valuation, negation, literal_value}
use Rattle.aiger.specs.Net.{Net}
use Rattle.base.proofs.LiteralLemmas.{literal_value-negation}
use Rattle.aiger.proofs.NetLemmas.{IsDefined-negation}
use Rattle.gates.specs.declared.fault.GateFault.{GateFault}
use Rattle.gates.specs.Made.{Grows, MakesAnd, MakesLiteral, RefusesGate}
use Rattle.gates.proofs.GrowthLemmas.{Grows-weaker, Grows-trans, Satisfies-earlier, variables-grown, IsDefined-grown}

-- the and of two literals is such a literal
pub MakesLiteral-and : (old new : Net) (a b l : ℕ) → MakesAnd old new a b l → MakesLiteral old new 1 (λ v. literal_value v a && literal_value v b) l
MakesLiteral-and old new a b l m = record { grows = m.grows; defined = m.defined; means = m.means }

-- negated, it means the opposite
pub MakesLiteral-not : (old new : Net) (most l : ℕ) (f : Valuation → Bool) → MakesLiteral old new most f l → MakesLiteral old new most (λ v. not (f v)) (negation l)
MakesLiteral-not old new most l f m = record {
  grows = m.grows;
  defined = IsDefined-negation new l m.defined;
  means = λ v s. literal_value-negation v l ∙ ap not (m.means v s);
}

-- said in other words, and with a greater bound
pub MakesLiteral-same : (old new : Net) (few most l : ℕ) (f g : Valuation → Bool) → few ≤ most → ((v : Valuation) → f v ≡ g v) → MakesLiteral old new few f l → MakesLiteral old new most g l
MakesLiteral-same old new few most l f g le same m = record {
  grows = Grows-weaker old new few most le m.grows;
  defined = m.defined;
  means = λ v s. m.means v s ∙ same v;
}

-- kept while more gates are made
pub MakesLiteral-kept : (old mid new : Net) (m n l : ℕ) (f : Valuation → Bool) → MakesLiteral old mid m f l → Grows mid new n → MakesLiteral old new (m + n) f l
MakesLiteral-kept old mid new m n l f makes more = record {
  grows = Grows-trans old mid new m n makes.grows more;
  defined = IsDefined-grown mid new n more l makes.defined;
  means = λ v s. makes.means v (Satisfies-earlier mid new n more v s);
}

-- and of a literal that was made before, what is known of that one put in
pub MakesLiteral-then : (old mid new : Net) (m n x l : ℕ) (f : Valuation → Bool) (g : Valuation → Bool → Bool) → MakesLiteral old mid m f x → MakesLiteral mid new n (λ v. g v (literal_value v x)) l → MakesLiteral old new (m + n) (λ v. g v (f v)) l
MakesLiteral-then old mid new m n x l f g first second = record {
  grows = Grows-trans old mid new m n first.grows second.grows;
  defined = second.defined;
  means = λ v s. second.means v s ∙ ap (g v) (first.means v (Satisfies-earlier mid new n second.grows v s));
}

-- one literal made behind another, and then a third of both
pub MakesLiteral-join : (a b c d : Net) (m n k x y l : ℕ) (f g : Valuation → Bool) (h : Bool → Bool → Bool) → MakesLiteral a b m f x → MakesLiteral b c n g y → MakesLiteral c d k (λ v. h (literal_value v x) (literal_value v y)) l → MakesLiteral a d (m + n + k) (λ v. h (f v) (g v)) l
MakesLiteral-join a b c d m n k x y l f g h first second third =
    let kept = MakesLiteral-kept a b c m n x f first second.grows in
    record {
      grows = Grows-trans a c d (m + n) k kept.grows third.grows;
      defined = third.defined;
      means = λ v s.
          let before = Satisfies-earlier c d k third.grows v s in
          third.means v s ∙ ap₂ h (kept.means v before) (second.means v before);
    }

-- a refusal behind gates that were made before
pub Refuses-behind : (old mid new : Net) (m n most : ℕ) (e : GateFault) → m + n ≤ most → Grows old mid m → RefusesGate mid new n e → RefusesGate old new most e
Refuses-behind old mid new m n most e le before r = record {
  grows = Grows-weaker old new (m + n) most le (Grows-trans old mid new m n before r.grows);
  too_big = λ is. let more = variables-grown old mid m before in let full = r.too_big is in omega arith;
}
