use Rattle.std.proofs.Common.{◌≡◌, ℕ, List, [], ◌++◌, refl, sym, ap, subst, ◌∙◌, append_assoc, append-nil, arith}
use Rattle.std.proofs.lemmas.List.{nil_from_length}
use Rattle.lrat.specs.LratJudges.{StandsForLrat}
use Rattle.lrat.proofs.lrat_judge.LratJudge.give_all.Goals as goal

pub loop-rest-init : goal.loop-rest-init
loop-rest-init c = record { given = ([], (refl, c.requires.begins)); same = refl; variables = c.requires.variables }

pub give_each-requires : goal.give_each-requires
give_each-requires c = c.loop-rest.invariant.variables ∙ sym c.loop-rest.invariant.same ∙ sym c.take_front-front.ensures.variables.0

pub loop-rest-preserved : goal.loop-rest-preserved
loop-rest-preserved c =
    let given : List (List ℕ) = c.loop-rest.invariant.given.0 in
    record {
      given = (
        given ++ c.take_front-front.result.clauses,
        (
          append_assoc given c.take_front-front.result.clauses c.take_front-front.new.self.clauses ∙ ap (λ (cs : List (List ℕ)). given ++ cs) c.take_front-front.ensures.clauses ∙ c.loop-rest.invariant.given.1.0,
          c.give_each.ensures.stands (record { variables = c.args.formula.variables; clauses = given }) c.loop-rest.invariant.given.1.1,
        ),
      );
      same = c.take_front-front.ensures.variables.1 ∙ c.loop-rest.invariant.same;
      variables = c.give_each.ensures.variables ∙ c.loop-rest.invariant.variables;
    }

pub returns : goal.returns
returns c =
    let none : c.loop-rest.rest.clauses ≡ [] = nil_from_length c.loop-rest.rest.clauses (omega (arith, c.loop-rest-test.false, c.clause_count.ensures)) in
    let all : c.loop-rest.invariant.given.0 ≡ c.args.formula.clauses = sym (append-nil c.loop-rest.invariant.given.0) ∙ ap (λ (cs : List (List ℕ)). c.loop-rest.invariant.given.0 ++ cs) (sym none) ∙ c.loop-rest.invariant.given.1.0 in
    subst (λ (cs : List (List ℕ)). StandsForLrat (record { variables = c.args.formula.variables; clauses = cs }) c.loop-rest.self []) all c.loop-rest.invariant.given.1.1
