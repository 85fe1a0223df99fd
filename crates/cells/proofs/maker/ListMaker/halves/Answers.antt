use Rattle.std.proofs.Common.{◌≡◌, ℕ, ◌+◌, ◌-◌, [], ◌∷◌, Option, unwrap_or, ap, arith}
use Rattle.btor2.specs.Trace.{bits_of}
use Rattle.cells.proofs.LineLemmas.{extends_again}
use Rattle.cells.proofs.NodeLemmas.{slice_within}
use Rattle.cells.proofs.BitLemmas.{high_given}
use Rattle.cells.proofs.maker.ListMaker.halves.Goals as goal

pub overflow_add-half : goal.overflow_add-half
overflow_add-half c =
    let bits : bits_of c.args.self.now c.args.array ≡ c.args.half + c.args.half = ap (λ (o : Option ℕ). unwrap_or o 0) c.requires.array in
    omega (arith, bits, c.know.ensures)

pub slice-requires-2-clause-within : goal.slice-requires-2-clause-within
slice-requires-2-clause-within c =
    let bits : bits_of c.args.self.now c.args.array ≡ c.args.half + c.args.half = ap (λ (o : Option ℕ). unwrap_or o 0) c.requires.array in
    slice_within c.args.self.now c.slice.new.self (c.args.array ∷ []) c.args.array (c.args.half - 1) c.in_ok-high.ensures.extends (omega (arith, bits, c.requires.some))

pub returns-in_err-low-clause-extends : goal.returns-in_err-low-clause-extends
returns-in_err-low-clause-extends c = extends_again c.args.self.now c.slice.new.self c.slice-2.new.self (c.args.array ∷ []) c.in_ok-high.ensures.extends c.slice-2.ensures.extends

pub returns-clause-high : goal.returns-clause-high
returns-clause-high c = high_given c.slice.new.self c.slice-2.new.self (c.args.array ∷ []) c.args.array c.args.half c.in_ok-high.high c.slice-2.ensures.extends c.requires.some c.in_ok-high.ensures.node

pub returns-clause-extends : goal.returns-clause-extends
returns-clause-extends c = extends_again c.args.self.now c.slice.new.self c.slice-2.new.self (c.args.array ∷ []) c.in_ok-high.ensures.extends c.slice-2.ensures.extends
