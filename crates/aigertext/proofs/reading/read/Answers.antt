use Rattle.std.proofs.Common.{false, Ok, Err}
use Rattle.aigertext.proofs.AnswerLemmas.{found, spells, only, each, fault, place}
use Rattle.aigertext.proofs.reading.read.Goals as goal

pub returns-in-Ok-clause-found : goal.returns-in-Ok-clause-found
returns-in-Ok-clause-found g c = found c.one_renumbering.ensures.circuit c.one_answer.ensures.unique (g.S.Source.to_come c.args.source.now) false (Ok c.in-Ok.numbered) c.in-Ok.ensures.read

pub returns-in-Ok-clause-spells : goal.returns-in-Ok-clause-spells
returns-in-Ok-clause-spells g c = spells (g.S.Source.to_come c.args.source.now) false (Ok c.in-Ok.numbered) c.in-Ok.ensures.read

pub returns-in-Ok-clause-only : goal.returns-in-Ok-clause-only
returns-in-Ok-clause-only g c = only c.one_renumbering.ensures.circuit c.one_answer.ensures.unique (g.S.Source.to_come c.args.source.now) false (Ok c.in-Ok.numbered) c.in-Ok.ensures.read

pub returns-in-Ok-clause-each : goal.returns-in-Ok-clause-each
returns-in-Ok-clause-each g c = each c.one_renumbering.ensures.circuit c.one_answer.ensures.unique (g.S.Source.to_come c.args.source.now) false (Ok c.in-Ok.numbered) c.in-Ok.ensures.read

pub returns-in-Err-clause-only : goal.returns-in-Err-clause-only
returns-in-Err-clause-only g c = only c.one_renumbering.ensures.circuit c.one_answer.ensures.unique (g.S.Source.to_come c.args.source.now) false (Err c.in-Err.fault) c.in-Err.ensures.read

pub returns-in-Err-clause-each : goal.returns-in-Err-clause-each
returns-in-Err-clause-each g c = each c.one_renumbering.ensures.circuit c.one_answer.ensures.unique (g.S.Source.to_come c.args.source.now) false (Err c.in-Err.fault) c.in-Err.ensures.read

pub returns-in-Err-clause-fault : goal.returns-in-Err-clause-fault
returns-in-Err-clause-fault g c = fault (g.S.Source.to_come c.args.source.now) false (Err c.in-Err.fault) c.in-Err.ensures.read

pub returns-in-Err-clause-place : goal.returns-in-Err-clause-place
returns-in-Err-clause-place g c = place (g.S.Source.to_come c.args.source.now) false (Err c.in-Err.fault) c.in-Err.ensures.read
