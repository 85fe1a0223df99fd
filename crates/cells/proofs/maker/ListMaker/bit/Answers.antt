use Rattle.std.proofs.Common.{[], ◌∷◌, inl}
use Rattle.cells.proofs.LineLemmas.{extends_twice}
use Rattle.cells.proofs.BitLemmas.{bit_given}
use Rattle.cells.proofs.maker.ListMaker.bit.Goals as goal

pub returns-in_err-zero-clause-extends : goal.returns-in_err-zero-clause-extends
returns-in_err-zero-clause-extends c =
    extends_twice c.args.self.now c.slice.new.self c.not.new.self (c.args.index ∷ []) (c.in_ok-one.one ∷ []) c.in_ok-one.ensures.extends c.not.ensures.extends (inl c.in_ok-one.ensures.new.0, tt)

pub returns-clause-bit : goal.returns-clause-bit
returns-clause-bit c = bit_given c.slice.new.self c.not.new.self (c.in_ok-one.one ∷ []) c.args.index c.args.place c.in_ok-one.one c.in_ok-zero.zero c.not.ensures.extends c.in_ok-one.ensures.node c.in_ok-zero.ensures.node

pub returns-clause-extends : goal.returns-clause-extends
returns-clause-extends c =
    extends_twice c.args.self.now c.slice.new.self c.not.new.self (c.args.index ∷ []) (c.in_ok-one.one ∷ []) c.in_ok-one.ensures.extends c.not.ensures.extends (inl c.in_ok-one.ensures.new.0, tt)
