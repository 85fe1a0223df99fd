use Rattle.std.proofs.Common.{◌≡◌, ◌∷◌, ◌++◌, [], ℕ, List, is_err, rules, refl, sym, ap, subst, ◌∙◌}
use Rattle.std.specs.Io.KnownBytes.{prepend_known, Consumes, Keeps, IsAtEnd}
use Rattle.base.specs.Lines.{IsLine}
use Rattle.btor2.specs.declared.item.Item.{Item}
use Rattle.witness.specs.Texts.{Shape}
use Rattle.rejoin.specs.declared.fault.UnfitFault.TheVariants as fault
use Rattle.spread.specs.declared.spreader.Part.{Part}
use Rattle.spread.specs.declared.spreader.Part.TheVariants as part
use Rattle.spread.specs.Heard.{Hears}
use Rattle.spread.specs.Stands.{StandsFor, EndsFor, Takes, part_behind}
use Rattle.spread.proofs.SourceLemmas.{Followed, follows_none, follows_line, follows_all, heard_all, follows_fault}
use Rattle.spread.proofs.spreading.take_lines.Goals as goal

pub loop-spreader-init : goal.loop-spreader-init
loop-spreader-init g c =
    let known = g.S.Source.to_come c.args.source.now in
    let none : c.new-reader.result.rest ≡ [] = search rules in
    record {
      followed = subst (λ (l : List ℕ). Followed g.K.Sink.written g.K.Sink.failures g.H.Hearer.stands (g.L.Lines.becomes c.args.lines.now) part.Outside c.args.sink.now c.args.sink.now c.args.pen.now c.args.pen.now c.args.spreader.now c.args.spreader.now c.args.hearer.now c.args.hearer.now known (prepend_known l known)) (sym none) (follows_none known);
      well = ap is_err c.requires;
      counted = refl;
    }

pub returns-in-Ok-false-clause-takes : goal.returns-in-Ok-false-clause-takes
returns-in-Ok-false-clause-takes g c =
    let whole : IsLine c.advance.new.self.rest = search rules in
    let end : IsAtEnd (g.S.Source.to_come c.advance.new.source) = search rules in
    let kept : Keeps (prepend_known c.loop-spreader.reader.rest (g.S.Source.to_come c.loop-spreader.source)) (prepend_known c.advance.new.self.rest (g.S.Source.to_come c.advance.new.source)) = search rules in
    let ends : (shape : Shape) (narrow : List Item) (text : List ℕ) → IsLine c.advance.new.self.rest → StandsFor shape narrow c.loop-spreader.spreader text → EndsFor shape narrow c.take_rest.new.self (text ++ c.advance.new.self.rest) =
    subst (λ (l : List ℕ). (shape : Shape) (narrow : List Item) (text : List ℕ) → IsLine l → StandsFor shape narrow c.loop-spreader.spreader text → EndsFor shape narrow c.take_rest.new.self (text ++ l)) c.rest.ensures c.take_rest.ensures in
    follows_all (g.S.Source.to_come c.args.source.now) _ (g.S.Source.to_come c.advance.new.source) c.advance.new.self.rest c.loop-spreader.invariant.followed kept end whole ends

pub returns-in-Ok-false-clause-heard : goal.returns-in-Ok-false-clause-heard
returns-in-Ok-false-clause-heard g c =
    let whole : IsLine c.advance.new.self.rest = search rules in
    let end : IsAtEnd (g.S.Source.to_come c.advance.new.source) = search rules in
    let kept : Keeps (prepend_known c.loop-spreader.reader.rest (g.S.Source.to_come c.loop-spreader.source)) (prepend_known c.advance.new.self.rest (g.S.Source.to_come c.advance.new.source)) = search rules in
    heard_all (g.S.Source.to_come c.args.source.now) _ (g.S.Source.to_come c.advance.new.source) c.advance.new.self.rest c.loop-spreader.invariant.followed kept end whole

pub returns-in-Err-take_made-clause-takes : goal.returns-in-Err-take_made-clause-takes
returns-in-Err-take_made-clause-takes g c =
    rw (c.in-Err-take_made.ensures.spreader, c.in-Err-take_made.ensures.pen, c.in-Err-take_made.ensures.sink) (follows_fault (g.S.Source.to_come c.args.source.now) _ fault.NoMemory c.loop-spreader.invariant.followed)

pub returns-then-is_err-clause-takes : goal.returns-then-is_err-clause-takes
returns-then-is_err-clause-takes g c =
    let took : Consumes (prepend_known c.loop-spreader.reader.rest (g.S.Source.to_come c.loop-spreader.source)) (prepend_known c.advance.new.self.rest (g.S.Source.to_come c.advance.new.source)) (c.advance.new.self.line ++ 10 ∷ []) = search rules in
    let whole : IsLine c.advance.new.self.line = search rules in
    let takes = subst (λ (l : List ℕ). Takes g.K.Sink.written g.K.Sink.failures c.loop-spreader.sink c.take_made.new.sink c.loop-spreader.pen c.take_made.new.pen c.loop-spreader.spreader c.take_made.new.spreader (g.L.Lines.becomes c.args.lines.now c.loop-spreader.part l)) c.line-line.ensures c.in-Ok.ensures.takes in
    let hears = subst (λ (l : List ℕ). Hears g.H.Hearer.stands c.loop-spreader.hearer c.take_made.new.hearer c.take_made.new.spreader (g.L.Lines.becomes c.args.lines.now c.loop-spreader.part l)) c.line-line.ensures c.in-Ok.ensures.hears in
    follows_fault {c = c.take_made.new.spreader} (g.S.Source.to_come c.args.source.now) _ fault.Write (follows_line c.loop-spreader.invariant.followed whole took takes hears)

pub loop-spreader-preserved : goal.loop-spreader-preserved
loop-spreader-preserved g c =
    let took : Consumes (prepend_known c.loop-spreader.reader.rest (g.S.Source.to_come c.loop-spreader.source)) (prepend_known c.advance.new.self.rest (g.S.Source.to_come c.advance.new.source)) (c.advance.new.self.line ++ 10 ∷ []) = search rules in
    let whole : IsLine c.advance.new.self.line = search rules in
    let takes = subst (λ (l : List ℕ). Takes g.K.Sink.written g.K.Sink.failures c.loop-spreader.sink c.take_made.new.sink c.loop-spreader.pen c.take_made.new.pen c.loop-spreader.spreader c.take_made.new.spreader (g.L.Lines.becomes c.args.lines.now c.loop-spreader.part l)) c.line-line.ensures c.in-Ok.ensures.takes in
    let hears = subst (λ (l : List ℕ). Hears g.H.Hearer.stands c.loop-spreader.hearer c.take_made.new.hearer c.take_made.new.spreader (g.L.Lines.becomes c.args.lines.now c.loop-spreader.part l)) c.line-line.ensures c.in-Ok.ensures.hears in
    let behind : c.part_behind-part.result ≡ part_behind c.loop-spreader.part c.advance.new.self.line = c.part_behind-part.ensures ∙ ap (part_behind c.loop-spreader.part) c.line-line.ensures in
    record {
      followed = subst (λ (p : Part). Followed g.K.Sink.written g.K.Sink.failures g.H.Hearer.stands (g.L.Lines.becomes c.args.lines.now) p c.args.sink.now c.take_made.new.sink c.args.pen.now c.take_made.new.pen c.args.spreader.now c.take_made.new.spreader c.args.hearer.now c.take_made.new.hearer (g.S.Source.to_come c.args.source.now) (prepend_known c.advance.new.self.rest (g.S.Source.to_come c.advance.new.source))) (sym behind) (follows_line c.loop-spreader.invariant.followed whole took takes hears);
      well = search rules;
      counted = search rules;
    }

pub returns-in-Err-clause-takes : goal.returns-in-Err-clause-takes
returns-in-Err-clause-takes g c = follows_fault (g.S.Source.to_come c.args.source.now) _ c.from.result c.loop-spreader.invariant.followed
