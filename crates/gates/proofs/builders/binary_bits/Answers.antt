use Rattle.std.proofs.Common.{length, refl}
use Rattle.std.proofs.lemmas.Result.{IfOk-weaker}
use Rattle.gates.proofs.OperatorLemmas.{is_comparison-named, is_overflow-named, is_shift-named, is_rotation-named, shift_width, rotation_width, MakesWord-iff}
use Rattle.gates.proofs.builders.binary_bits.Goals as goal

pub comparison_bit-requires-clause-comparison : goal.comparison_bit-requires-clause-comparison
comparison_bit-requires-clause-comparison g c = is_comparison-named c.args.op c.in-Ugt.is

pub rotate-requires-clause-rotates : goal.rotate-requires-clause-rotates
rotate-requires-clause-rotates g c = is_rotation-named c.args.op c.in-Rol.is

pub shift-requires-clause-shifts : goal.shift-requires-clause-shifts
shift-requires-clause-shifts g c = is_shift-named c.args.op c.in-Sll.is

pub overflow_bit-requires-clause-overflow : goal.overflow_bit-requires-clause-overflow
overflow_bit-requires-clause-overflow g c = is_overflow-named c.args.op c.in-Uaddo.is

pub returns-in-Rol-clause-ok : goal.returns-in-Rol-clause-ok
returns-in-Rol-clause-ok g c =
    let op = c.args.op in
    rw (rotation_width op (length c.args.a.now) (is_rotation-named op c.in-Rol.is)) c.rotate.ensures.ok

pub returns-in-Sll-clause-ok : goal.returns-in-Sll-clause-ok
returns-in-Sll-clause-ok g c =
    let op = c.args.op in
    rw (shift_width op (length c.args.a.now) (is_shift-named op c.in-Sll.is)) c.shift.ensures.ok

pub eq-requires : goal.eq-requires
eq-requires g c = c.requires.operands

pub neq-requires : goal.neq-requires
neq-requires g c = c.requires.operands

pub add_bits-requires : goal.add_bits-requires
add_bits-requires g c = c.requires.operands

pub sub_bits-requires : goal.sub_bits-requires
sub_bits-requires g c = c.requires.operands

pub mul_bits-requires : goal.mul_bits-requires
mul_bits-requires g c = c.requires.operands

pub udiv-requires : goal.udiv-requires
udiv-requires g c = c.requires.operands

pub sdiv-requires : goal.sdiv-requires
sdiv-requires g c = c.requires.operands

pub srem-requires : goal.srem-requires
srem-requires g c = c.requires.operands

pub smod-requires : goal.smod-requires
smod-requires g c = c.requires.operands

pub urem-requires : goal.urem-requires
urem-requires g c = c.requires.operands

pub comparison_bit-requires-clause-operands : goal.comparison_bit-requires-clause-operands
comparison_bit-requires-clause-operands g c = c.requires.operands

pub rotate-requires-clause-operands : goal.rotate-requires-clause-operands
rotate-requires-clause-operands g c = c.requires.operands

pub shift-requires-clause-operands : goal.shift-requires-clause-operands
shift-requires-clause-operands g c = c.requires.operands

pub overflow_bit-requires-clause-operands : goal.overflow_bit-requires-clause-operands
overflow_bit-requires-clause-operands g c = c.requires.operands

pub returns-in-Implies-clause-ok : goal.returns-in-Implies-clause-ok
returns-in-Implies-clause-ok g c = rw c.in-Implies.is c.implies.ensures.ok

pub returns-in-Implies-clause-refused : goal.returns-in-Implies-clause-refused
returns-in-Implies-clause-refused g c = rw c.in-Implies.is c.implies.ensures.refused

pub returns-in-Eq-clause-ok : goal.returns-in-Eq-clause-ok
returns-in-Eq-clause-ok g c = rw c.in-Eq.is c.eq.ensures.ok

pub returns-in-Eq-clause-refused : goal.returns-in-Eq-clause-refused
returns-in-Eq-clause-refused g c = rw c.in-Eq.is c.eq.ensures.refused

pub returns-in-Neq-clause-ok : goal.returns-in-Neq-clause-ok
returns-in-Neq-clause-ok g c = rw c.in-Neq.is c.neq.ensures.ok

pub returns-in-Neq-clause-refused : goal.returns-in-Neq-clause-refused
returns-in-Neq-clause-refused g c = rw c.in-Neq.is c.neq.ensures.refused

pub returns-in-And-clause-ok : goal.returns-in-And-clause-ok
returns-in-And-clause-ok g c = rw c.in-And.is c.connect_words.ensures.ok

pub returns-in-And-clause-refused : goal.returns-in-And-clause-refused
returns-in-And-clause-refused g c = rw c.in-And.is c.connect_words.ensures.refused

pub returns-in-Nand-clause-ok : goal.returns-in-Nand-clause-ok
returns-in-Nand-clause-ok g c = rw c.in-Nand.is c.connect_negated-in-Nand.ensures.ok

pub returns-in-Nand-clause-refused : goal.returns-in-Nand-clause-refused
returns-in-Nand-clause-refused g c = rw c.in-Nand.is c.connect_negated-in-Nand.ensures.refused

pub returns-in-Or-clause-refused : goal.returns-in-Or-clause-refused
returns-in-Or-clause-refused g c = rw c.in-Or.is c.connect_words-in-Or.ensures.refused

pub returns-in-Nor-clause-ok : goal.returns-in-Nor-clause-ok
returns-in-Nor-clause-ok g c = rw c.in-Nor.is c.connect_negated-in-Nor.ensures.ok

pub returns-in-Nor-clause-refused : goal.returns-in-Nor-clause-refused
returns-in-Nor-clause-refused g c = rw c.in-Nor.is c.connect_negated-in-Nor.ensures.refused

pub returns-in-Xor-clause-ok : goal.returns-in-Xor-clause-ok
returns-in-Xor-clause-ok g c = rw c.in-Xor.is c.connect_words-in-Xor.ensures.ok

pub returns-in-Xor-clause-refused : goal.returns-in-Xor-clause-refused
returns-in-Xor-clause-refused g c = rw c.in-Xor.is c.connect_words-in-Xor.ensures.refused

pub returns-in-Xnor-clause-ok : goal.returns-in-Xnor-clause-ok
returns-in-Xnor-clause-ok g c = rw c.in-Xnor.is c.connect_negated-in-Xnor.ensures.ok

pub returns-in-Xnor-clause-refused : goal.returns-in-Xnor-clause-refused
returns-in-Xnor-clause-refused g c = rw c.in-Xnor.is c.connect_negated-in-Xnor.ensures.refused

pub returns-in-Add-clause-ok : goal.returns-in-Add-clause-ok
returns-in-Add-clause-ok g c = rw c.in-Add.is c.add_bits.ensures.ok

pub returns-in-Add-clause-refused : goal.returns-in-Add-clause-refused
returns-in-Add-clause-refused g c = rw c.in-Add.is c.add_bits.ensures.refused

pub returns-in-Sub-clause-ok : goal.returns-in-Sub-clause-ok
returns-in-Sub-clause-ok g c = rw c.in-Sub.is c.sub_bits.ensures.ok

pub returns-in-Sub-clause-refused : goal.returns-in-Sub-clause-refused
returns-in-Sub-clause-refused g c = rw c.in-Sub.is c.sub_bits.ensures.refused

pub returns-in-Mul-clause-ok : goal.returns-in-Mul-clause-ok
returns-in-Mul-clause-ok g c = rw c.in-Mul.is c.mul_bits.ensures.ok

pub returns-in-Mul-clause-refused : goal.returns-in-Mul-clause-refused
returns-in-Mul-clause-refused g c = rw c.in-Mul.is c.mul_bits.ensures.refused

pub returns-in-Sdiv-clause-ok : goal.returns-in-Sdiv-clause-ok
returns-in-Sdiv-clause-ok g c = rw c.in-Sdiv.is c.sdiv.ensures.ok

pub returns-in-Sdiv-clause-refused : goal.returns-in-Sdiv-clause-refused
returns-in-Sdiv-clause-refused g c = rw c.in-Sdiv.is c.sdiv.ensures.refused

pub returns-in-Srem-clause-ok : goal.returns-in-Srem-clause-ok
returns-in-Srem-clause-ok g c = rw c.in-Srem.is c.srem.ensures.ok

pub returns-in-Srem-clause-refused : goal.returns-in-Srem-clause-refused
returns-in-Srem-clause-refused g c = rw c.in-Srem.is c.srem.ensures.refused

pub returns-in-Smod-clause-ok : goal.returns-in-Smod-clause-ok
returns-in-Smod-clause-ok g c = rw c.in-Smod.is c.smod.ensures.ok

pub returns-in-Smod-clause-refused : goal.returns-in-Smod-clause-refused
returns-in-Smod-clause-refused g c = rw c.in-Smod.is c.smod.ensures.refused

pub returns-in-Rol-clause-refused : goal.returns-in-Rol-clause-refused
returns-in-Rol-clause-refused g c = c.rotate.ensures.refused

pub returns-in-Sll-clause-refused : goal.returns-in-Sll-clause-refused
returns-in-Sll-clause-refused g c = c.shift.ensures.refused

pub returns-in-Udiv-clause-ok : goal.returns-in-Udiv-clause-ok
returns-in-Udiv-clause-ok g c = rw c.in-Udiv.is c.udiv.ensures.ok

pub returns-in-Udiv-clause-refused : goal.returns-in-Udiv-clause-refused
returns-in-Udiv-clause-refused g c = rw c.in-Udiv.is c.udiv.ensures.refused

pub returns-in-Urem-clause-ok : goal.returns-in-Urem-clause-ok
returns-in-Urem-clause-ok g c = rw c.in-Urem.is c.urem.ensures.ok

pub returns-in-Urem-clause-refused : goal.returns-in-Urem-clause-refused
returns-in-Urem-clause-refused g c = rw c.in-Urem.is c.urem.ensures.refused

pub implies-requires-clause-bit : goal.implies-requires-clause-bit
implies-requires-clause-bit g c = c.requires.of_bits (rw c.in-Implies.is refl)

pub implies-requires-clause-operands : goal.implies-requires-clause-operands
implies-requires-clause-operands g c = c.requires.operands

pub connect_words-requires : goal.connect_words-requires
connect_words-requires g c = c.requires.operands

pub connect_words-requires-in-Or : goal.connect_words-requires-in-Or
connect_words-requires-in-Or g c = c.requires.operands

pub connect_words-requires-in-Xor : goal.connect_words-requires-in-Xor
connect_words-requires-in-Xor g c = c.requires.operands

pub connect_negated-requires : goal.connect_negated-requires
connect_negated-requires g c = c.requires.operands

pub connect_negated-requires-in-Nand : goal.connect_negated-requires-in-Nand
connect_negated-requires-in-Nand g c = c.requires.operands

pub connect_negated-requires-in-Nor : goal.connect_negated-requires-in-Nor
connect_negated-requires-in-Nor g c = c.requires.operands

pub connect_negated-requires-in-Xnor : goal.connect_negated-requires-in-Xnor
connect_negated-requires-in-Xnor g c = c.requires.operands

pub returns-in-Iff-clause-ok : goal.returns-in-Iff-clause-ok
returns-in-Iff-clause-ok g c =
    let one = c.requires.of_bits (rw c.in-Iff.is refl) in
    rw c.in-Iff.is (IfOk-weaker c.connect_negated.result _ _ (λ bits makes. MakesWord-iff _ _ c.args.a.now c.args.b.now bits.items one c.requires.operands.equal makes) c.connect_negated.ensures.ok)

pub returns-in-Iff-clause-refused : goal.returns-in-Iff-clause-refused
returns-in-Iff-clause-refused g c =
    let one = c.requires.of_bits (rw c.in-Iff.is refl) in
    rw c.in-Iff.is (rw one at c.connect_negated.ensures.refused)
