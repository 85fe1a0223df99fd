use Rattle.vcd.proofs.WavingLemmas.{front_taken}
use Rattle.vcd.proofs.waving.take_all.Goals as goal

pub returns-in-Ok-clause-takes : goal.returns-in-Ok-clause-takes
returns-in-Ok-clause-takes g c = front_taken (λ w. w.pen) (λ w. w.waver) c.take_source.ensures.front

pub returns-in-Err-Source-clause-takes : goal.returns-in-Err-Source-clause-takes
returns-in-Err-Source-clause-takes g c = front_taken (λ w. w.pen) (λ w. w.waver) c.take_source.ensures.front

pub returns-in-Err-Done-clause-takes : goal.returns-in-Err-Done-clause-takes
returns-in-Err-Done-clause-takes g c = front_taken (λ w. w.pen) (λ w. w.waver) c.take_source.ensures.front
