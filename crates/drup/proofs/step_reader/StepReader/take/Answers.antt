use Rattle.std.proofs.Common.{[], ◌∷◌, ◌++◌, sym, subst}
use Rattle.drup.specs.declared.word.Token.{Token}
use Rattle.drup.specs.Words.{token_said}
use Rattle.drup.specs.Proofs.{mark}
use Rattle.drup.specs.StepReaders.{StandsForWords}
use Rattle.drup.proofs.step_reader.StepReader.take.Goals as goal

pub returns-in-Ends-clause-stands : goal.returns-in-Ends-clause-stands
returns-in-Ends-clause-stands c f marks s = subst (λ (t : Token). StandsForWords f c.end_step.new.self (marks ++ mark c.args.line (token_said t) ∷ [])) (sym c.in-Ends.is) (c.end_step.ensures.stands f marks s)

pub returns-in-Deletes-clause-stands : goal.returns-in-Deletes-clause-stands
returns-in-Deletes-clause-stands c f marks s = subst (λ (t : Token). StandsForWords f c.begin_deletion.new.self (marks ++ mark c.args.line (token_said t) ∷ [])) (sym c.in-Deletes.is) (c.begin_deletion.ensures.stands f marks s)

pub returns-in-Literal-clause-stands : goal.returns-in-Literal-clause-stands
returns-in-Literal-clause-stands c f marks s = subst (λ (t : Token). StandsForWords f c.push.new.self (marks ++ mark c.args.line (token_said t) ∷ [])) (sym c.in-Literal.is) (c.push.ensures.stands f marks s)

pub returns-in-Faulty-clause-stands : goal.returns-in-Faulty-clause-stands
returns-in-Faulty-clause-stands c f marks s = subst (λ (t : Token). StandsForWords f c.refuse.new.self (marks ++ mark c.args.line (token_said t) ∷ [])) (sym c.in-Faulty.is) (c.refuse.ensures.stands f marks s)
