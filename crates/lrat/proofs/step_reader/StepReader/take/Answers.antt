use Rattle.std.proofs.Common.{◌≡◌, ap, sym, ◌∙◌}
use Rattle.lrat.specs.declared.step_reader.Part.{Part}
use Rattle.lrat.specs.Words.{token_said}
use Rattle.lrat.specs.HintedProofs.{Begun, between, literals, hints, deletions, taken}
use Rattle.lrat.specs.StepReaders.{StepReader, begun_of}
use Rattle.lrat.proofs.step_reader.StepReader.take.Goals as goal

pub returns-in-Between-clause-stands : goal.returns-in-Between-clause-stands
returns-in-Between-clause-stands c f marks s =
    let own : c.args.self.now.begun ≡ between = sym (ap (λ (x : StepReader). x.begun) c.self.view_is) ∙ ap (λ (p : Part). begun_of p c.self.inside.id c.self.inside.clause.items c.self.inside.hints.items) c.in-Between.is in
    c.take_first.ensures.takes f marks (token_said c.args.token) (ap (λ (b : Begun). taken c.args.self.now.variables b (token_said c.args.token)) own) s

pub returns-in-Literals-clause-stands : goal.returns-in-Literals-clause-stands
returns-in-Literals-clause-stands c f marks s =
    let own : c.args.self.now.begun ≡ literals c.self.inside.id c.self.inside.clause.items = sym (ap (λ (x : StepReader). x.begun) c.self.view_is) ∙ ap (λ (p : Part). begun_of p c.self.inside.id c.self.inside.clause.items c.self.inside.hints.items) c.in-Literals.is in
    c.take_literal.ensures.takes c.self.inside.id c.self.inside.clause.items own f marks (token_said c.args.token) (ap (λ (b : Begun). taken c.args.self.now.variables b (token_said c.args.token)) own) s

pub returns-in-Hints-clause-stands : goal.returns-in-Hints-clause-stands
returns-in-Hints-clause-stands c f marks s =
    let own : c.args.self.now.begun ≡ hints c.self.inside.id c.self.inside.clause.items c.self.inside.hints.items = sym (ap (λ (x : StepReader). x.begun) c.self.view_is) ∙ ap (λ (p : Part). begun_of p c.self.inside.id c.self.inside.clause.items c.self.inside.hints.items) c.in-Hints.is in
    c.take_hint.ensures.takes c.self.inside.id c.self.inside.clause.items c.self.inside.hints.items own f marks (token_said c.args.token) (ap (λ (b : Begun). taken c.args.self.now.variables b (token_said c.args.token)) own) s

pub returns-in-Deletions-clause-stands : goal.returns-in-Deletions-clause-stands
returns-in-Deletions-clause-stands c f marks s =
    let own : c.args.self.now.begun ≡ deletions = sym (ap (λ (x : StepReader). x.begun) c.self.view_is) ∙ ap (λ (p : Part). begun_of p c.self.inside.id c.self.inside.clause.items c.self.inside.hints.items) c.in-Deletions.is in
    c.take_deletion.ensures.takes f marks (token_said c.args.token) (ap (λ (b : Begun). taken c.args.self.now.variables b (token_said c.args.token)) own) s
