use Rattle.std.proofs.lemmas.Nat.Bits.{bit_at_and, bit_at_or, bit_at_xor}
use Rattle.base.proofs.BitwiseLaws.{not_bit, nand_bit, nor_bit, xnor_bit}
use Rattle.base.proofs.laws.bits_of_bitwise_words.Goals as goal

pub returns-clause-not : goal.returns-clause-not
returns-clause-not c = not_bit

pub returns-clause-and : goal.returns-clause-and
returns-clause-and c n = bit_at_and

pub returns-clause-nand : goal.returns-clause-nand
returns-clause-nand c = nand_bit

pub returns-clause-or : goal.returns-clause-or
returns-clause-or c n = bit_at_or

pub returns-clause-nor : goal.returns-clause-nor
returns-clause-nor c = nor_bit

pub returns-clause-xor : goal.returns-clause-xor
returns-clause-xor c n = bit_at_xor

pub returns-clause-xnor : goal.returns-clause-xnor
returns-clause-xnor c = xnor_bit
