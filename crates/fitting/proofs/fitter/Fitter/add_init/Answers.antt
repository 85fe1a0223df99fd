use Rattle.std.proofs.Common.{◌≡◌, true, None, sym, ap, subst, subst₂, ◌∙◌}
use Rattle.std.specs.List.{AllByRecursion}
use Rattle.btor2.specs.Check.{IsWellFormed}
use Rattle.btor2.specs.Items.{names_state, init_value}
use Rattle.pieces.specs.declared.node.Node.{Node}
use Rattle.pieces.specs.Nodes.{bits_in}
use Rattle.pieces.specs.Cuts.{IsWord}
use Rattle.pieces.specs.Constants.{AreConstants}
use Rattle.fitting.specs.Steps.{AreApart, AddsInits}
use Rattle.fitting.specs.Tables.{table_of}
use Rattle.fitting.proofs.TransitionLemmas.{init_ready, init_fitted}
use Rattle.fitting.proofs.FitterLemmas.{ok_then}
use Rattle.fitting.proofs.fitter.Fitter.add_init.Goals as goal

pub begin-requires-clause-state : goal.begin-requires-clause-state
begin-requires-clause-state g c =
    subst (IsWord c.args.self.now.maker) (sym c.get.ensures) (init_ready g.at.wide (table_of c.args.self.now) c.args.self.now.maker g.at.id c.args.sort c.args.state c.args.value g.at.symbol c.requires.0 (subst IsWellFormed c.model.ensures c.items-items.ensures.well_formed) c.requires.1).0.state

pub begin-requires-clause-value : goal.begin-requires-clause-value
begin-requires-clause-value g c =
    subst (IsWord c.args.self.now.maker) (sym c.get-2.ensures) (init_ready g.at.wide (table_of c.args.self.now) c.args.self.now.maker g.at.id c.args.sort c.args.state c.args.value g.at.symbol c.requires.0 (subst IsWellFormed c.model.ensures c.items-items.ensures.well_formed) c.requires.1).0.value

pub begin-requires-clause-same : goal.begin-requires-clause-same
begin-requires-clause-same g c =
    ap bits_in c.get.ensures ∙ (init_ready g.at.wide (table_of c.args.self.now) c.args.self.now.maker g.at.id c.args.sort c.args.state c.args.value g.at.symbol c.requires.0 (subst IsWellFormed c.model.ensures c.items-items.ensures.well_formed) c.requires.1).0.same ∙ sym (ap bits_in c.get-2.ensures)

pub begin-requires-clause-states : goal.begin-requires-clause-states
begin-requires-clause-states g c =
    subst (AllByRecursion (λ (p : Node). names_state c.args.self.now.maker p.id ≡ true)) (sym c.get.ensures) (init_ready g.at.wide (table_of c.args.self.now) c.args.self.now.maker g.at.id c.args.sort c.args.state c.args.value g.at.symbol c.requires.0 (subst IsWellFormed c.model.ensures c.items-items.ensures.well_formed) c.requires.1).0.of.states

pub begin-requires-clause-constants : goal.begin-requires-clause-constants
begin-requires-clause-constants g c =
    subst (AreConstants c.args.self.now.maker) (sym c.get-2.ensures) (init_ready g.at.wide (table_of c.args.self.now) c.args.self.now.maker g.at.id c.args.sort c.args.state c.args.value g.at.symbol c.requires.0 (subst IsWellFormed c.model.ensures c.items-items.ensures.well_formed) c.requires.1).1.0

pub begin-requires-clause-first : goal.begin-requires-clause-first
begin-requires-clause-first g c =
    subst (AllByRecursion (λ (p : Node). init_value c.args.self.now.maker p.id ≡ None)) (sym c.get.ensures) (init_ready g.at.wide (table_of c.args.self.now) c.args.self.now.maker g.at.id c.args.sort c.args.state c.args.value g.at.symbol c.requires.0 (subst IsWellFormed c.model.ensures c.items-items.ensures.well_formed) c.requires.1).1.1

pub begin-requires-clause-distinct : goal.begin-requires-clause-distinct
begin-requires-clause-distinct g c =
    subst AreApart (sym c.get.ensures) (init_ready g.at.wide (table_of c.args.self.now) c.args.self.now.maker g.at.id c.args.sort c.args.state c.args.value g.at.symbol c.requires.0 (subst IsWellFormed c.model.ensures c.items-items.ensures.well_formed) c.requires.1).0.of.distinct

pub returns-clause-fitted : goal.returns-clause-fitted
returns-clause-fitted g c =
    ok_then _ _ c.begin.result
    (λ adds.
    init_fitted g.at.wide (table_of c.args.self.now) c.args.self.now.maker c.begin.new.maker g.at.id c.args.sort c.args.state c.args.value g.at.symbol c.requires.0 (subst IsWellFormed c.model.ensures c.items-items.ensures.well_formed) c.requires.1
    (subst₂ (AddsInits c.args.self.now.maker c.begin.new.maker) c.get.ensures c.get-2.ensures adds)) c.begin.ensures.adds
