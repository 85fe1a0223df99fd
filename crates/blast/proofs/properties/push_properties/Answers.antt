use Rattle.std.proofs.Common.{ap, ◌∙◌}
use Rattle.std.proofs.lemmas.Result.{on_ok_weaker}
use Rattle.aiger.specs.Circuit.{Circuit}
use Rattle.blast.specs.declared.properties.Property.TheVariants as property
use Rattle.blast.proofs.PropertyLemmas.{Adds-reads, TakesProperties-made}
use Rattle.blast.proofs.properties.push_properties.Goals as goal

pub push_kind-requires-2-clause-reads : goal.push_kind-requires-2-clause-reads
push_kind-requires-2-clause-reads c = Adds-reads property.Output c.args.model.now c.args.table.now c.args.circuit.now c.push_kind.new.circuit _ _ c.in_ok-push_kind.ensures.ok c.requires.reads

pub push_kind-requires-2-clause-none : goal.push_kind-requires-2-clause-none
push_kind-requires-2-clause-none c = ap (λ (d : Circuit). d.bads) c.in_ok-push_kind.ensures.ok.rest ∙ c.requires.bads

pub push_kind-requires-3-clause-reads : goal.push_kind-requires-3-clause-reads
push_kind-requires-3-clause-reads c =
    Adds-reads property.Bad c.args.model.now c.args.table.now c.push_kind.new.circuit c.push_kind-2.new.circuit _ _ c.in_ok-push_kind-2.ensures.ok
    (Adds-reads property.Output c.args.model.now c.args.table.now c.args.circuit.now c.push_kind.new.circuit _ _ c.in_ok-push_kind.ensures.ok c.requires.reads)

pub push_kind-requires-3-clause-none : goal.push_kind-requires-3-clause-none
push_kind-requires-3-clause-none c =
    ap (λ (d : Circuit). d.constraints) c.in_ok-push_kind-2.ensures.ok.rest ∙ ap (λ (d : Circuit). d.constraints) c.in_ok-push_kind.ensures.ok.rest ∙ c.requires.constraints

pub returns-clause-ok : goal.returns-clause-ok
returns-clause-ok c =
    on_ok_weaker c.push_kind-3.result
    (TakesProperties-made c.args.model.now c.args.table.now c.args.circuit.now c.push_kind.new.circuit c.push_kind-2.new.circuit c.push_kind-3.new.circuit c.items.ensures.well_formed c.requires.reads c.requires.all
    c.requires.outputs c.requires.bads c.requires.constraints c.in_ok-push_kind.ensures.ok c.in_ok-push_kind-2.ensures.ok)
    c.push_kind-3.ensures.ok
