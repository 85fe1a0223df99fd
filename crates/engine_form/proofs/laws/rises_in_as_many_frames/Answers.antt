use Rattle.engine_form.proofs.RiseLemmas.{rises_in_form, rises_in_circuit}
use Rattle.engine_form.proofs.laws.rises_in_as_many_frames.Goals as goal

pub returns : goal.returns
returns c =
    record {
      form = λ circuit choice d k j form same. rises_in_form circuit choice d k j form same (λ state inputs. c.exactly_one_trace.ensures.exists d state inputs form.circuit);
      circuit = λ circuit choice d k j form same. rises_in_circuit circuit choice d k j form same (λ state inputs. c.exactly_one_trace.ensures.exists circuit state inputs form.original);
    }
