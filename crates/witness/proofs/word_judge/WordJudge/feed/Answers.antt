use Rattle.witness.proofs.WordJudgeLemmas.{lines_after, one_line}
use Rattle.witness.proofs.word_judge.WordJudge.feed.Goals as goal

pub loop-behind-preserved : goal.loop-behind-preserved
loop-behind-preserved c =
    let line = one_line c.loop-behind.self c.take_any.new.self c.loop-behind.rest.now c.in-Some.behind.now c.in-Some.ensures.line in
    let front = lines_after c.args.self.now c.loop-behind.self c.take_any.new.self c.args.bytes.now c.loop-behind.rest.now c.in-Some.behind.now c.loop-behind.invariant line in
    lines_after c.args.self.now c.take_any.new.self c.take_plain_lines-rest-in-Some.new.self c.args.bytes.now c.in-Some.behind.now c.take_plain_lines-rest-in-Some.result.now front c.take_plain_lines-rest-in-Some.ensures.lines
