use Rattle.std.proofs.Common.{List, length, drop, flat_map, get_or, refl, ap, ◌∙◌, arith}
use Rattle.std.proofs.lemmas.List.{drop_all}
use Rattle.base.specs.Lines.{text_of_lines}
use Rattle.base.proofs.PenLemmas.{write_none, write_more, write_all}
use Rattle.btor2.specs.declared.item.Item.{Item}
use Rattle.vcd.specs.declared.scope.Scope.{Scope}
use Rattle.vcd.specs.declared.scope.Scope.TheVariants as scope
use Rattle.vcd.specs.Dumps.{scope_lines}
use Rattle.vcd.specs.Signals.{scopes}
use Rattle.vcd.proofs.NameLemmas.{marks_at}
use Rattle.vcd.proofs.PartLemmas.{scopes_at}
use Rattle.vcd.proofs.declarations.put_scopes.Goals as goal

pub loop-scope-init : goal.loop-scope-init
loop-scope-init g c = record { puts = write_none; marks = c.requires }

pub split_at-requires : goal.split_at-requires
split_at-requires g c =
    let marks = marks_at c.args.shown c.args.model.now c.loop-scope.scope-index (get_or scopes c.loop-scope.scope-index scope.Inputs) scope.Inputs c.loop-scope.rest.now c.loop-scope-test.true refl c.loop-scope.invariant.marks in
    omega (arith, marks.inside, ap length c.items-lines.ensures.items)

pub loop-scope-preserved : goal.loop-scope-preserved
loop-scope-preserved g c =
    let marks = marks_at c.args.shown c.args.model.now c.loop-scope.scope-index (get_or scopes c.loop-scope.scope-index scope.Inputs) scope.Inputs c.loop-scope.rest.now c.loop-scope-test.true refl c.loop-scope.invariant.marks in
    record {
      puts = write_more c.loop-scope.invariant.puts c.put_scope.ensures (scopes_at c.args.shown c.args.model.now c.loop-scope.scope-index scopes _ _ (omega (arith, ap length c.scopes-scopes.ensures)) (ap (λ (l : List Scope). get_or l c.loop-scope.scope-index _) c.scopes-scopes.ensures));
      marks = c.split_at.ensures.back ∙ (ap (λ (l : List Item). drop (length l) c.loop-scope.rest.now) c.items-lines.ensures.items ∙ marks.behind);
    }

pub returns : goal.returns
returns g c =
    write_all c.loop-scope.invariant.puts
    (ap (λ (l : List Scope). text_of_lines (flat_map (scope_lines c.args.shown c.args.model.now) l)) (drop_all c.loop-scope.scope-index scopes (omega (arith, c.loop-scope-test.false))))
