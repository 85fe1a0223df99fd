use Rattle.std.proofs.Common.{true}
use Rattle.aigertext.proofs.AnswerLemmas.{found, spells, numbers, only, each, fault, place}
use Rattle.aigertext.proofs.reading.read_numbered.Goals as goal

pub returns-clause-found : goal.returns-clause-found
returns-clause-found g c = found c.one_renumbering.ensures.circuit c.one_answer.ensures.unique (g.S.Source.to_come c.args.source.now) true c.read_source.result c.read_source.ensures.read

pub returns-clause-spells : goal.returns-clause-spells
returns-clause-spells g c = spells (g.S.Source.to_come c.args.source.now) true c.read_source.result c.read_source.ensures.read

pub returns-clause-numbering : goal.returns-clause-numbering
returns-clause-numbering g c = numbers (g.S.Source.to_come c.args.source.now) c.read_source.result c.read_source.ensures.read

pub returns-clause-only : goal.returns-clause-only
returns-clause-only g c = only c.one_renumbering.ensures.circuit c.one_answer.ensures.unique (g.S.Source.to_come c.args.source.now) true c.read_source.result c.read_source.ensures.read

pub returns-clause-each : goal.returns-clause-each
returns-clause-each g c = each c.one_renumbering.ensures.circuit c.one_answer.ensures.unique (g.S.Source.to_come c.args.source.now) true c.read_source.result c.read_source.ensures.read

pub returns-clause-fault : goal.returns-clause-fault
returns-clause-fault g c = fault (g.S.Source.to_come c.args.source.now) true c.read_source.result c.read_source.ensures.read

pub returns-clause-place : goal.returns-clause-place
returns-clause-place g c = place (g.S.Source.to_come c.args.source.now) true c.read_source.result c.read_source.ensures.read
