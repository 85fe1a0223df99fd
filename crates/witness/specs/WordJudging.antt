-- What a judge of witnesses over a model holds, by its parts.
use Rattle.std.specs.Prelude.{ℕ, List}
use Rattle.witness.specs.declared.word_lines.WordLines.{WordLines}
use Rattle.witness.specs.WordStands.{WordJudge}

-- what is kept of whole lines, and these bytes of the next
abbrev pub judge_with : WordLines → List ℕ → WordJudge
judge_with w line = record { reader = w.reader; line = line; admitted = w.admitted; refused = w.refused; no_claim = w.no_claim }
