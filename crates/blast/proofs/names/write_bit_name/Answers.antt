use Rattle.std.proofs.Common.{◌≡◌, sym, subst, true, arith, ℕ, List}
use Rattle.std.proofs.lemmas.Grind.{common_steps}
use Rattle.aiger.specs.Names.{is_name}
use Rattle.blast.specs.Leaves.{bit_name}
use Rattle.blast.proofs.NameLemmas.{bit_name_is_name}
use Rattle.blast.proofs.names.write_bit_name.Goals as goal

pub returns-clause-valid : goal.returns-clause-valid
returns-clause-valid c =
    let good : is_name (bit_name c.args.symbol.now c.args.bit) ≡ true = bit_name_is_name c.args.symbol.now c.args.bit c.requires.symbol c.requires.bit (rw c.format.ensures.text at c.format.ensures.short) in
    let written : c.push-2.new.self.items ≡ bit_name c.args.symbol.now c.args.bit = grind (arith, common_steps) in
    subst (λ (name : List ℕ). is_name name ≡ true) (sym written) good
