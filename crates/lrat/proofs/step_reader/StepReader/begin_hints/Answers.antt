use Rattle.std.proofs.Common.{[], ap, ◌∙◌, refl}
use Rattle.lrat.specs.HintedProofs.{hints}
use Rattle.lrat.specs.StepReaders.{StepReader, reader_of}
use Rattle.lrat.proofs.StepReaderLemmas.{goes, literals_kept}
use Rattle.lrat.proofs.step_reader.StepReader.begin_hints.Goals as goal

pub returns-clause-takes : goal.returns-clause-takes
returns-clause-takes c line id clause is =
    let own = literals_kept c.self.inside.part c.self.inside.id c.self.inside.clause.items c.self.inside.hints.items id clause (ap (λ (x : StepReader). x.begun) c.self.view_is ∙ is) in
    goes (reader_of c.self.inside) c.args.self.now line (hints id clause []) (hints c.self.inside.id c.self.inside.clause.items c.clear.new.self.items) c.self.view_is c.requires
    (rw (own.1, own.2, c.clear.ensures.items) refl)
