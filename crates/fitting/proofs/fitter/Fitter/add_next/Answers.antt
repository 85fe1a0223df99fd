use Rattle.std.proofs.Common.{◌≡◌, true, None, sym, ap, subst, subst₂, ◌∙◌}
use Rattle.std.specs.List.{AllByRecursion}
use Rattle.btor2.specs.Check.{IsWellFormed}
use Rattle.btor2.specs.Items.{names_state, next_value}
use Rattle.pieces.specs.declared.node.Node.{Node}
use Rattle.pieces.specs.Nodes.{bits_in}
use Rattle.pieces.specs.Cuts.{IsWord}
use Rattle.fitting.specs.Steps.{AreApart, AddsNexts}
use Rattle.fitting.specs.Tables.{table_of}
use Rattle.fitting.proofs.TransitionLemmas.{next_ready, next_fitted}
use Rattle.fitting.proofs.FitterLemmas.{ok_then}
use Rattle.fitting.proofs.fitter.Fitter.add_next.Goals as goal

pub follow-requires-clause-state : goal.follow-requires-clause-state
follow-requires-clause-state g c =
    subst (IsWord c.args.self.now.maker) (sym c.get.ensures) (next_ready g.at.wide (table_of c.args.self.now) c.args.self.now.maker g.at.id c.args.sort c.args.state c.args.value g.at.symbol c.requires.0 (subst IsWellFormed c.model.ensures c.items-items.ensures.well_formed) c.requires.1).0.state

pub follow-requires-clause-value : goal.follow-requires-clause-value
follow-requires-clause-value g c =
    subst (IsWord c.args.self.now.maker) (sym c.get-2.ensures) (next_ready g.at.wide (table_of c.args.self.now) c.args.self.now.maker g.at.id c.args.sort c.args.state c.args.value g.at.symbol c.requires.0 (subst IsWellFormed c.model.ensures c.items-items.ensures.well_formed) c.requires.1).0.value

pub follow-requires-clause-same : goal.follow-requires-clause-same
follow-requires-clause-same g c =
    ap bits_in c.get.ensures ∙ (next_ready g.at.wide (table_of c.args.self.now) c.args.self.now.maker g.at.id c.args.sort c.args.state c.args.value g.at.symbol c.requires.0 (subst IsWellFormed c.model.ensures c.items-items.ensures.well_formed) c.requires.1).0.same ∙ sym (ap bits_in c.get-2.ensures)

pub follow-requires-clause-states : goal.follow-requires-clause-states
follow-requires-clause-states g c =
    subst (AllByRecursion (λ (p : Node). names_state c.args.self.now.maker p.id ≡ true)) (sym c.get.ensures) (next_ready g.at.wide (table_of c.args.self.now) c.args.self.now.maker g.at.id c.args.sort c.args.state c.args.value g.at.symbol c.requires.0 (subst IsWellFormed c.model.ensures c.items-items.ensures.well_formed) c.requires.1).0.of.states

pub follow-requires-clause-first : goal.follow-requires-clause-first
follow-requires-clause-first g c =
    subst (AllByRecursion (λ (p : Node). next_value c.args.self.now.maker p.id ≡ None)) (sym c.get.ensures) (next_ready g.at.wide (table_of c.args.self.now) c.args.self.now.maker g.at.id c.args.sort c.args.state c.args.value g.at.symbol c.requires.0 (subst IsWellFormed c.model.ensures c.items-items.ensures.well_formed) c.requires.1).1

pub follow-requires-clause-distinct : goal.follow-requires-clause-distinct
follow-requires-clause-distinct g c =
    subst AreApart (sym c.get.ensures) (next_ready g.at.wide (table_of c.args.self.now) c.args.self.now.maker g.at.id c.args.sort c.args.state c.args.value g.at.symbol c.requires.0 (subst IsWellFormed c.model.ensures c.items-items.ensures.well_formed) c.requires.1).0.of.distinct

pub returns-clause-fitted : goal.returns-clause-fitted
returns-clause-fitted g c =
    ok_then _ _ c.follow.result
    (λ adds.
    next_fitted g.at.wide (table_of c.args.self.now) c.args.self.now.maker c.follow.new.maker g.at.id c.args.sort c.args.state c.args.value g.at.symbol c.requires.0 (subst IsWellFormed c.model.ensures c.items-items.ensures.well_formed) c.requires.1
    (subst₂ (AddsNexts c.args.self.now.maker c.follow.new.maker) c.get.ensures c.get-2.ensures adds)) c.follow.ensures.adds
