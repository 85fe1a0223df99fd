use Rattle.aiger.proofs.TraceLemmas.{trace_unique}
use Rattle.witness.specs.Reached.{bits_said_in}
use Rattle.witness.proofs.GrowthLemmas.{bit_trace_exists}
use Rattle.rises.proofs.LawLemmas.{bits_same_firsts}
use Rattle.rises.proofs.laws.exactly_one_bit_list.Goals as goal

pub returns : goal.returns
returns c =
    record {
      exists = bit_trace_exists;
      unique = λ circuit text vs us is t u. bits_same_firsts circuit text vs us is (trace_unique circuit (bits_said_in circuit text).initial (bits_said_in circuit text).frames vs us is t u);
    }
