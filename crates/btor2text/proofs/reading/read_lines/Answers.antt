use Rattle.std.proofs.Common.{◌≡◌, ◌∷◌, ◌++◌, [], Ok, Err, rules, subst}
use Rattle.std.specs.Io.KnownBytes.{prepend_known, Consumes, Keeps, IsAtEnd}
use Rattle.base.specs.Lines.{IsLine}
use Rattle.btor2text.specs.Tokens.{tokens}
use Rattle.btor2text.specs.Reading.{line_on, ReadsLine}
use Rattle.btor2text.specs.Stopping.{Ends}
use Rattle.btor2text.proofs.StoppingLemmas.{follows_line, lines_end, line_stops}
use Rattle.btor2text.proofs.reading.read_lines.Goals as goal

pub returns-in-Ok-false : goal.returns-in-Ok-false
returns-in-Ok-false g c =
    let whole : IsLine c.advance.new.self.rest = search rules in
    let end : IsAtEnd (g.S.Source.to_come c.advance.new.source) = search rules in
    let kept : Keeps (prepend_known c.loop-lines.lines.rest (g.S.Source.to_come c.loop-lines.source)) (prepend_known c.advance.new.self.rest (g.S.Source.to_come c.advance.new.source)) = search rules in
    let ends : Ends c.ended.result c.loop-lines.line c.advance.new.self.rest = subst (λ rest. Ends c.ended.result c.loop-lines.line rest) c.rest.ensures c.ended.ensures in
    lines_end c.ended.result (g.S.Source.to_come c.args.source.now) _ (g.S.Source.to_come c.advance.new.source) c.args.model.now c.loop-lines.model c.loop-lines.line c.advance.new.self.rest _ _ c.loop-lines.invariant.follows kept end whole ends (search rules)

pub loop-lines-preserved : goal.loop-lines-preserved
loop-lines-preserved g c =
    let whole : IsLine c.advance.new.self.line = search rules in
    let took : Consumes (prepend_known c.loop-lines.lines.rest (g.S.Source.to_come c.loop-lines.source)) (prepend_known c.advance.new.self.rest (g.S.Source.to_come c.advance.new.source)) (c.advance.new.self.line ++ 10 ∷ []) = search rules in
    let read : line_on c.loop-lines.model (tokens c.advance.new.self.line) ≡ Ok c.read_line.new.model = search rules in
    record {
      follows = follows_line (g.S.Source.to_come c.args.source.now) _ _ c.args.model.now c.loop-lines.model c.read_line.new.model c.loop-lines.line c.saturating_add-line.result c.advance.new.self.line c.loop-lines.invariant.follows took whole c.saturating_add-line.ensures read;
      counted = search rules;
    }

pub returns-in-Err-read_line : goal.returns-in-Err-read_line
returns-in-Err-read_line g c =
    let whole : IsLine c.advance.new.self.line = search rules in
    let took : Consumes (prepend_known c.loop-lines.lines.rest (g.S.Source.to_come c.loop-lines.source)) (prepend_known c.advance.new.self.rest (g.S.Source.to_come c.advance.new.source)) (c.advance.new.self.line ++ 10 ∷ []) = search rules in
    let read : ReadsLine (Err c.in-Err-read_line.why) c.read_line.new.model (line_on c.loop-lines.model (tokens c.advance.new.self.line)) = subst (λ line. ReadsLine (Err c.in-Err-read_line.why) c.read_line.new.model (line_on c.loop-lines.model (tokens line))) c.line.ensures c.in-Err-read_line.ensures in
    line_stops (g.S.Source.to_come c.args.source.now) _ _ (g.S.Source.to_come c.line_fault.new.source) c.args.model.now c.loop-lines.model c.read_line.new.model c.loop-lines.line c.saturating_add-line.result c.advance.new.self.line c.in-Err-read_line.why c.line_fault.result _ (g.S.Source.failures c.advance.new.source) _ c.loop-lines.invariant.follows took whole c.saturating_add-line.ensures read (search rules) c.line_fault.ensures
