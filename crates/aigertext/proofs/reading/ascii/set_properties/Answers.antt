use Rattle.aigertext.specs.Passes.{properties_of}
use Rattle.aigertext.proofs.ReadStandsLemmas.{properties-back}
use Rattle.aigertext.proofs.FileBackLemmas.{properties_alone}
use Rattle.aigertext.proofs.reading.ascii.set_properties.Goals as goal

pub set_properties-requires-clause-lists : goal.set_properties-requires-clause-lists
set_properties-requires-clause-lists c =
    let p = properties_of c.read_properties.new.properties in
    properties_alone c.args.counts.now c.requires.small c.args.text.now p c.in_ok-rest.rest.now
    (properties-back c.args.counts.now c.args.text.now p c.in_ok-rest.rest.now c.requires.small.variables c.in_ok-rest.ensures)
