use Rattle.std.proofs.Common.{ℕ, sym, subst}
use Rattle.btor2.specs.declared.item.Body.TheVariants as body
use Rattle.full.specs.Cells.{read_value}
use Rattle.wide.specs.Lines.{number_of_digits}
use Rattle.cells.specs.Kept.{IsSound}
use Rattle.cells.proofs.NodeLemmas.{ok_with}
use Rattle.celled.specs.Steps.{ConstantPut}
use Rattle.celled.proofs.StepLemmas.{sound_const, cell_fits, constant_put}
use Rattle.celled.proofs.inits.put_cell_constant.Goals as goal

pub put_constant-requires : goal.put_constant-requires
put_constant-requires c =
    let n = c.args.size in
    let v = read_value n (number_of_digits c.args.number.now) c.args.index in
    subst (λ (k : ℕ). IsSound c.args.maker.now (body.Const c.args.sort n k)) (sym c.in_ok-digits.ensures)
    (sound_const c.args.maker.now c.args.sort n v c.requires.sort (cell_fits n (number_of_digits c.args.number.now) c.args.index))

pub returns : goal.returns
returns c =
    let n = c.args.size in
    let v = read_value n (number_of_digits c.args.number.now) c.args.index in
    ok_with _ _ c.put_constant.result
    (λ id line.
    subst (λ (k : ℕ). ConstantPut c.args.maker.now c.put_constant.new.self id n k) c.in_ok-digits.ensures
    (constant_put c.args.maker.now c.put_constant.new.self id c.args.sort n (number_of_digits c.in_ok-digits.digits.items) c.requires.sort line.0 line.2)) c.put_constant.ensures.line
