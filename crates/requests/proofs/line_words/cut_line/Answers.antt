use Rattle.requests.proofs.LineLemmas.{lines-line, lines-last}
use Rattle.requests.proofs.line_words.cut_line.Goals as goal

pub returns-in-Some-clause-lines : goal.returns-in-Some-clause-lines
returns-in-Some-clause-lines c = rw c.in-Some.ensures.0 (lines-line c.in-Some.line.now c.in-Some.behind.now c.in-Some.ensures.1)

pub returns-in-None-clause-lines : goal.returns-in-None-clause-lines
returns-in-None-clause-lines c = rw (c.split_at.ensures.front, c.split_at.ensures.back) (lines-last c.args.text.now c.in-None.ensures (λ none. let some = rw none at c.if-is_empty.ensures in absurd (cc)))
