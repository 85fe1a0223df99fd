use Rattle.std.proofs.Common.{rules}
use Rattle.aiger.specs.Circuit.{net}
use Rattle.blast.proofs.LowerAssembly.{assemble, nexts_given, profile_given, unnamed_yet, unobserved_yet}
use Rattle.blast.proofs.lowering.completed.Goals as goal

pub set_latches-requires-clause-nexts : goal.set_latches-requires-clause-nexts
set_latches-requires-clause-nexts c = nexts_given c.args.model.now (profile_given c.args.model.now c.requires.accepted)

pub set_names-requires-clause-unnamed : goal.set_names-requires-clause-unnamed
set_names-requires-clause-unnamed c =
    (unnamed_yet c.args.model.now (net c.args.circuit) c.args.table.now c.args.circuit c.set_latches.new.circuit c.requires.nodes c.requires.bare c.set_latches.ensures.latches c.set_latches.ensures.others).names

pub set_names-requires-clause-inputs : goal.set_names-requires-clause-inputs
set_names-requires-clause-inputs c =
    (unnamed_yet c.args.model.now (net c.args.circuit) c.args.table.now c.args.circuit c.set_latches.new.circuit c.requires.nodes c.requires.bare c.set_latches.ensures.latches c.set_latches.ensures.others).inputs

pub set_names-requires-clause-latches : goal.set_names-requires-clause-latches
set_names-requires-clause-latches c =
    (unnamed_yet c.args.model.now (net c.args.circuit) c.args.table.now c.args.circuit c.set_latches.new.circuit c.requires.nodes c.requires.bare c.set_latches.ensures.latches c.set_latches.ensures.others).latches

pub push_properties-requires-clause-reads : goal.push_properties-requires-clause-reads
push_properties-requires-clause-reads c =
    (unobserved_yet c.args.model.now (net c.args.circuit) c.args.table.now c.args.circuit c.set_latches.new.circuit c.set_names.new.circuit c.requires.nodes c.requires.bare c.set_latches.ensures.latches c.set_latches.ensures.others c.in_ok-set_names.ensures.ok).reads

pub push_properties-requires-clause-outputs : goal.push_properties-requires-clause-outputs
push_properties-requires-clause-outputs c =
    (unobserved_yet c.args.model.now (net c.args.circuit) c.args.table.now c.args.circuit c.set_latches.new.circuit c.set_names.new.circuit c.requires.nodes c.requires.bare c.set_latches.ensures.latches c.set_latches.ensures.others c.in_ok-set_names.ensures.ok).outputs

pub push_properties-requires-clause-bads : goal.push_properties-requires-clause-bads
push_properties-requires-clause-bads c =
    (unobserved_yet c.args.model.now (net c.args.circuit) c.args.table.now c.args.circuit c.set_latches.new.circuit c.set_names.new.circuit c.requires.nodes c.requires.bare c.set_latches.ensures.latches c.set_latches.ensures.others c.in_ok-set_names.ensures.ok).bads

pub push_properties-requires-clause-constraints : goal.push_properties-requires-clause-constraints
push_properties-requires-clause-constraints c =
    (unobserved_yet c.args.model.now (net c.args.circuit) c.args.table.now c.args.circuit c.set_latches.new.circuit c.set_names.new.circuit c.requires.nodes c.requires.bare c.set_latches.ensures.latches c.set_latches.ensures.others c.in_ok-set_names.ensures.ok).constraints

pub returns-clause-ok : goal.returns-clause-ok
returns-clause-ok c =
    let items = c.args.model.now in
    assemble items (net c.args.circuit) c.args.table.now c.args.circuit c.set_latches.new.circuit c.set_names.new.circuit c.push_properties.new.circuit
    c.requires.well_formed (profile_given items c.requires.accepted) (search rules) c.requires.nodes c.requires.bare c.set_latches.ensures.latches c.set_latches.ensures.others c.in_ok-set_names.ensures.ok c.in_ok-push_properties.ensures.ok
