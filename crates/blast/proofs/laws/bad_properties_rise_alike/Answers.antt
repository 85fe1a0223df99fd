use Rattle.blast.proofs.ReachLemmas.{rises_in_circuit, rises_in_model}
use Rattle.blast.proofs.laws.bad_properties_rise_alike.Goals as goal

pub returns : goal.returns
returns c items circuit b l = (
  λ h. (rises_in_circuit items circuit b l (λ state inputs. c.exactly_one_trace.ensures.exists circuit state inputs l.circuit) h).0,
  λ h. (rises_in_model items circuit b l (λ state inputs. c.exactly_one_trace-2.ensures.exists items state inputs l.well_formed) h).0,
)
