use Rattle.std.proofs.lemmas.List.Elements.{All-from_recursion, recursion_from_All}
use Rattle.base.specs.Lines.{IsLine, whole_lines}
use Rattle.base.proofs.LineLemmas.{lines_are_lines, unfinished_is_line, parts_of_text, whole_lines-lines, unfinished-lines, lines_of_text, unfinished_of_text}
use Rattle.base.proofs.laws.lines_and_texts.Goals as goal

pub returns-clause-parts : goal.returns-clause-parts
returns-clause-parts c = parts_of_text

pub returns-clause-each : goal.returns-clause-each
returns-clause-each c text = All-from_recursion IsLine (whole_lines text) (lines_are_lines text)

pub returns-clause-last : goal.returns-clause-last
returns-clause-last c = unfinished_is_line

pub returns-clause-whole : goal.returns-clause-whole
returns-clause-whole c lines each = lines_of_text lines (recursion_from_All IsLine lines each)

pub returns-clause-ended : goal.returns-clause-ended
returns-clause-ended c = unfinished_of_text

pub returns-clause-whole_front : goal.returns-clause-whole_front
returns-clause-whole_front c lines rest each = whole_lines-lines lines rest (recursion_from_All IsLine lines each)

pub returns-clause-ended_front : goal.returns-clause-ended_front
returns-clause-ended_front c = unfinished-lines
