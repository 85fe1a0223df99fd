use Rattle.std.proofs.Common.{◌≡◌, take, length, ◌∙◌, arith}
use Rattle.std.proofs.lemmas.List.{length-take-le}
use Rattle.aigertext.specs.Reading.{fields_behind}
use Rattle.aigertext.proofs.HeaderSmallLemmas.{number_beyond}
use Rattle.aigertext.proofs.reading.header.numbers_in.Goals as goal

pub returns-then-count-eq9-clause-refused : goal.returns-then-count-eq9-clause-refused
returns-then-count-eq9-clause-refused c =
    let nine : length (take c.loop-field.count c.loop-field.numbers) ≡ 9 = length-take-le c.loop-field.count c.loop-field.numbers (omega (arith, c.loop-field.invariant.long, c.loop-field.invariant.few)) ∙ c.if-count-eq9.true in
    number_beyond (take c.loop-field.count c.loop-field.numbers) _ (fields_behind c.in-Some.behind.now) c.in-Some.field.now _ c.in-Some.ensures c.loop-field.invariant.so_far nine
