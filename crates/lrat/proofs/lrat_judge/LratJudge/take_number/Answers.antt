use Rattle.std.proofs.Common.{Bool, ◌%◌, ◌/◌, if◌then◌else◌, sym, ap, ◌∙◌}
use Rattle.std.proofs.lemmas.Bool.{eq-eqb, ne_eqb}
use Rattle.lrat.specs.HintedProofs.{number, negative}
use Rattle.lrat.specs.BinaryHintedProofs.{literal_coded}
use Rattle.lrat.proofs.lrat_judge.LratJudge.take_number.Goals as goal

pub returns-then-not-is_literal-clause-stands : goal.returns-then-not-is_literal-clause-stands
returns-then-not-is_literal-clause-stands c f text word writes b =
    c.take_coded.ensures.stands f text word c.args.number c.requires.low writes
    (sym (c.is_literal.ensures c.args.number ∙ ap (λ (t : Bool). if t then literal_coded c.args.number else number c.args.number) c.if-not-is_literal.true)) b

pub returns-then-number-eq0-clause-stands : goal.returns-then-number-eq0-clause-stands
returns-then-number-eq0-clause-stands c f text word writes b =
    c.take_coded-then-number-eq0.ensures.stands f text word c.args.number c.requires.low writes
    (sym
    (c.is_literal.ensures c.args.number ∙ ap (λ (t : Bool). if t then literal_coded c.args.number else number c.args.number) c.if-not-is_literal.false
    ∙ ap (λ (t : Bool). if t then number (c.args.number / 2) else negative (c.args.number / 2)) (eq-eqb (c.args.number % 2) 0 c.if-number-eq0.true))) b

pub returns-clause-stands : goal.returns-clause-stands
returns-clause-stands c f text word writes b =
    c.take_coded-2.ensures.stands f text word c.args.number c.requires.low writes
    (sym
    (c.is_literal.ensures c.args.number ∙ ap (λ (t : Bool). if t then literal_coded c.args.number else number c.args.number) c.if-not-is_literal.false
    ∙ ap (λ (t : Bool). if t then number (c.args.number / 2) else negative (c.args.number / 2)) (ne_eqb (c.args.number % 2) 0 c.if-number-eq0.false))) b
