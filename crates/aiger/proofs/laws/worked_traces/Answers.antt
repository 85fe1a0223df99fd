use Rattle.std.proofs.Common.{rules, arith}
use Rattle.std.specs.List.Sorted.{IsStrictlySortedBy}
use Rattle.std.proofs.lemmas.List.Elements.{All-nil}
use Rattle.aiger.specs.Circuit.{IsNamed, HasFew, HasDefined, net}
use Rattle.aiger.specs.Worked.{toggler}
use Rattle.aiger.proofs.laws.worked_traces.Goals as goal

pub returns-clause-valid : goal.returns-clause-valid
unfolding IsStrictlySortedBy
returns-clause-valid c =
    let few : HasFew toggler = search rules in
    let defined : HasDefined (net toggler) toggler = search rules in
    record {
      small = omega arith;
      few = few;
      ordered = tt;
      defined = defined;
      names = record { sorted = tt; named = All-nil (IsNamed toggler) };
    }
