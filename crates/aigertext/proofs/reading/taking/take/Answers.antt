use Rattle.std.proofs.lemmas.List.{take-append-drop}
use Rattle.aigertext.proofs.AnswerLemmas.{all_taken}
use Rattle.aigertext.proofs.reading.taking.take.Goals as goal

pub returns-in-Some-clause-taken : goal.returns-in-Some-clause-taken
returns-in-Some-clause-taken g c =
    all_taken (g.S.Source.to_come c.args.source.now) _ c.args.wanted c.take_behind.result (rw c.new-text.ensures.items at c.in_ok-read_front.ensures.bytes)
    (rw (c.split_at.ensures.front, c.split_at.ensures.back, take-append-drop c.in-Some.place c.as_slice.result.now, c.as_slice.ensures.value) at c.take_behind.ensures.taken)
