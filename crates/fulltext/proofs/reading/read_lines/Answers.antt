use Rattle.std.proofs.Common.{◌≡◌, ◌∷◌, ◌++◌, Ok, Err, rules}
use Rattle.base.specs.Lines.{IsLine, line_after}
use Rattle.btor2text.specs.Tokens.{tokens}
use Rattle.fulltext.specs.Steps.{ReadsFullLine}
use Rattle.fulltext.specs.Reading.{full_line_on}
use Rattle.fulltext.proofs.StepLemmas.{goes_on, stops_at, text_ends}
use Rattle.fulltext.proofs.reading.read_lines.Goals as goal

pub returns-in-Err : goal.returns-in-Err
returns-in-Err c =
    let is : c.loop-front.rest.now ≡ c.in-Some.front.now ++ 10 ∷ c.in-Some.behind.now = search rules in
    let whole : IsLine c.in-Some.front.now = search rules in
    let number : c.saturating_add-line.result ≡ line_after c.loop-front.line = search rules in
    let read : ReadsFullLine (Err c.in-Err.why) c.read_line.new.model (full_line_on c.loop-front.model (tokens c.in-Some.front.now)) = search rules in
    stops_at c.loop-front.line c.saturating_add-line.result c.loop-front.model c.loop-front.rest.now c.in-Some.front.now c.in-Some.behind.now _ is whole number c.loop-front.invariant c.in-Err.why c.read_line.new.model c.fault_at.result read c.fault_at.ensures

pub loop-front-preserved : goal.loop-front-preserved
loop-front-preserved c =
    let is : c.loop-front.rest.now ≡ c.in-Some.front.now ++ 10 ∷ c.in-Some.behind.now = search rules in
    let whole : IsLine c.in-Some.front.now = search rules in
    let number : c.saturating_add-line.result ≡ line_after c.loop-front.line = search rules in
    let read : full_line_on c.loop-front.model (tokens c.in-Some.front.now) ≡ Ok c.read_line.new.model = search rules in
    goes_on c.loop-front.line c.saturating_add-line.result c.loop-front.model c.loop-front.rest.now c.in-Some.front.now c.in-Some.behind.now _ is whole number c.loop-front.invariant c.read_line.new.model read

pub returns : goal.returns
returns c =
    let whole : IsLine c.loop-front.rest.now = search rules in
    text_ends c.loop-front.line c.loop-front.model c.loop-front.rest.now _ c.ended.result whole c.ended.ensures c.loop-front.invariant
