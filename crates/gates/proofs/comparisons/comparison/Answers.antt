use Rattle.std.proofs.Common.{length, ap, refl, arith, ℕ, sym, List}
use Rattle.std.proofs.lemmas.Result.{IfOk-weaker}
use Rattle.base.specs.Word.{bit_number}
use Rattle.base.specs.Signed.{signed}
use Rattle.aiger.specs.Net.{Net}
use Rattle.gates.specs.Operands.{AreOperands}
use Rattle.gates.specs.Made.{word_value}
use Rattle.gates.proofs.OrderLemmas.{MakesWord-test, MakesWord-test_not, not_less, not_less_signed}
use Rattle.gates.proofs.comparisons.comparison.Goals as goal

pub returns-in-Ult-clause-ok : goal.returns-in-Ult-clause-ok
returns-in-Ult-clause-ok g c =
    IfOk-weaker c.less.result _ _ (λ l makes. MakesWord-test _ _ _ _ _ _ l (omega arith) makes (λ v. rw c.in-Ult.is refl)) c.less.ensures.ok

pub returns-in-Ugt-clause-ok : goal.returns-in-Ugt-clause-ok
returns-in-Ugt-clause-ok g c =
    IfOk-weaker c.less-in-Ugt.result _ _ (λ l makes. MakesWord-test _ _ _ _ _ _ l (omega arith) makes (λ v. rw c.in-Ugt.is refl)) c.less-in-Ugt.ensures.ok

pub returns-in-Slt-clause-ok : goal.returns-in-Slt-clause-ok
returns-in-Slt-clause-ok g c =
    IfOk-weaker c.signed_less.result _ _ (λ l makes. MakesWord-test _ _ _ _ _ _ l (omega arith) makes (λ v. rw c.in-Slt.is refl)) c.signed_less.ensures.ok

pub returns-in-Sgt-clause-ok : goal.returns-in-Sgt-clause-ok
returns-in-Sgt-clause-ok g c =
    IfOk-weaker c.signed_less-in-Sgt.result _ _ (λ l makes. MakesWord-test _ _ _ _ _ _ l (omega arith) makes (λ v. rw (c.in-Sgt.is, c.requires.operands.equal) refl)) c.signed_less-in-Sgt.ensures.ok

pub returns-in_ok-less-in-Ulte-clause-ok : goal.returns-in_ok-less-in-Ulte-clause-ok
returns-in_ok-less-in-Ulte-clause-ok g c =
    MakesWord-test_not _ _ _ _ _ _ c.in_ok-less-in-Ulte.field-0 c.not.result c.not.ensures (omega arith) c.in_ok-less-in-Ulte.ensures.ok (λ v. rw c.in-Ulte.is (ap bit_number (not_less _ _)))

pub returns-in_ok-less-in-Ugte-clause-ok : goal.returns-in_ok-less-in-Ugte-clause-ok
returns-in_ok-less-in-Ugte-clause-ok g c =
    MakesWord-test_not _ _ _ _ _ _ c.in_ok-less-in-Ugte.field-0 c.not-in-Ugte.result c.not-in-Ugte.ensures (omega arith) c.in_ok-less-in-Ugte.ensures.ok (λ v. rw c.in-Ugte.is (ap bit_number (not_less _ _)))

pub returns-in_ok-signed_less-in-Slte-clause-ok : goal.returns-in_ok-signed_less-in-Slte-clause-ok
returns-in_ok-signed_less-in-Slte-clause-ok g c =
    MakesWord-test_not _ _ _ _ _ _ c.in_ok-signed_less-in-Slte.field-0 c.not-in-Slte.result c.not-in-Slte.ensures (omega arith) c.in_ok-signed_less-in-Slte.ensures.ok (λ v. rw (c.in-Slte.is, c.requires.operands.equal) (ap bit_number (not_less_signed (signed (length c.args.a.now) (word_value v c.args.b.now)) (signed (length c.args.a.now) (word_value v c.args.a.now)))))

pub returns-in_ok-signed_less-in-Sgte-clause-ok : goal.returns-in_ok-signed_less-in-Sgte-clause-ok
returns-in_ok-signed_less-in-Sgte-clause-ok g c =
    MakesWord-test_not _ _ _ _ _ _ c.in_ok-signed_less-in-Sgte.field-0 c.not-in-Sgte.result c.not-in-Sgte.ensures (omega arith) c.in_ok-signed_less-in-Sgte.ensures.ok (λ v. rw c.in-Sgte.is (ap bit_number (not_less_signed (signed (length c.args.a.now) (word_value v c.args.a.now)) (signed (length c.args.a.now) (word_value v c.args.b.now)))))

-- operands in the other order
AreOperands-exchanged : (n : Net) (greatest : ℕ) (a b : List ℕ) → AreOperands n greatest a b → AreOperands n greatest b a
AreOperands-exchanged n greatest a b operands = record {
  some = let e = operands.equal in let k = operands.some in omega arith;
  most = let e = operands.equal in let k = operands.most in omega arith;
  equal = sym operands.equal;
  left = operands.right;
  right = operands.left;
}

pub less-requires-in-Ugt : goal.less-requires-in-Ugt
less-requires-in-Ugt g c = AreOperands-exchanged _ _ _ _ c.requires.operands

pub less-requires-in-Ulte : goal.less-requires-in-Ulte
less-requires-in-Ulte g c = AreOperands-exchanged _ _ _ _ c.requires.operands

pub signed_less-requires-in-Sgt : goal.signed_less-requires-in-Sgt
signed_less-requires-in-Sgt g c = AreOperands-exchanged _ _ _ _ c.requires.operands

pub signed_less-requires-in-Slte : goal.signed_less-requires-in-Slte
signed_less-requires-in-Slte g c = AreOperands-exchanged _ _ _ _ c.requires.operands

pub returns-in-Ugt-clause-refused : goal.returns-in-Ugt-clause-refused
returns-in-Ugt-clause-refused g c = rw (← c.requires.operands.equal) c.less-in-Ugt.ensures.refused

pub returns-in-Sgt-clause-refused : goal.returns-in-Sgt-clause-refused
returns-in-Sgt-clause-refused g c = rw (← c.requires.operands.equal) c.signed_less-in-Sgt.ensures.refused
