use Rattle.std.proofs.Common.{ℕ, List, [], ◌∷◌, ◌++◌, ◌∙◌, subst}
use Rattle.base.specs.Writing.{WritesText}
use Rattle.btor2.specs.declared.item.Item.{Item}
use Rattle.witness.specs.WordStands.{StandsForWitness}
use Rattle.spread.proofs.GivingLemmas.{gives_line, gives_none}
use Rattle.spread.proofs.giving.give_line.Goals as goal

pub returns-then-admitted_lines-before : goal.returns-then-admitted_lines-before
returns-then-admitted_lines-before g c line is at_hand =
    let bytes = c.bytes.ensures ∙ at_hand in
    let takes : (items : List Item) (text : List ℕ) → StandsForWitness items c.args.judge.now text → StandsForWitness items c.feed.new.self (text ++ (line ++ 10 ∷ [])) =
    λ items text h. subst (λ (l : List ℕ). StandsForWitness items c.feed.new.self (text ++ l)) bytes (c.feed.ensures items text h) in
    gives_line g.K.Sink.written g.K.Sink.failures c.args.sink.now c.args.pen.now c.args.judge.now c.feed.new.self line c.admitted_lines-before.result c.admitted_lines.result is c.admitted_lines-before.ensures c.admitted_lines.ensures takes
    c.if-admitted_lines-before.true (subst (WritesText g.K.Sink.written g.K.Sink.failures c.args.sink.now c.put_line.new.sink c.args.pen.now c.put_line.new.self) at_hand c.put_line.ensures)

pub returns-else-admitted_lines-before : goal.returns-else-admitted_lines-before
returns-else-admitted_lines-before g c line is at_hand =
    let bytes = c.bytes.ensures ∙ at_hand in
    let takes : (items : List Item) (text : List ℕ) → StandsForWitness items c.args.judge.now text → StandsForWitness items c.feed.new.self (text ++ (line ++ 10 ∷ [])) =
    λ items text h. subst (λ (l : List ℕ). StandsForWitness items c.feed.new.self (text ++ l)) bytes (c.feed.ensures items text h) in
    gives_none g.K.Sink.written g.K.Sink.failures c.args.sink.now c.args.pen.now c.args.judge.now c.feed.new.self line c.admitted_lines-before.result c.admitted_lines.result is c.admitted_lines-before.ensures c.admitted_lines.ensures takes
    c.if-admitted_lines-before.false
