use Rattle.blast.proofs.ReachLemmas.{rises_in_circuit, rises_in_model}
use Rattle.blast.proofs.laws.rises_in_as_many_frames.Goals as goal

pub returns : goal.returns
returns c =
    record {
      circuit = λ items circuit b l. rises_in_circuit items circuit b l (λ state inputs. c.exactly_one_trace.ensures.exists circuit state inputs l.circuit);
      model = λ items circuit b l. rises_in_model items circuit b l (λ state inputs. c.exactly_one_trace-2.ensures.exists items state inputs l.well_formed);
    }
