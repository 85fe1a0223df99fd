use Rattle.std.proofs.Common.{◌≡◌, ◌++◌, ◌∙◌, ap, length, sym, subst, inl, arith}
use Rattle.std.specs.Prelude.{IfSome}
use Rattle.std.specs.Io.KnownBytes.{Keeps, prepend_known}
use Rattle.std.proofs.KnownBytes.{Keeps-trans}
use Rattle.aigertext.specs.InOrder.{line_texts}
use Rattle.aigertext.proofs.AnyOrderLemmas.{only_named, stand_more, lists_kept, all_lists_kept, spelled_by_lists, numbered_by_lists}
use Rattle.aigertext.proofs.PutsLemmas.{at_end}
use Rattle.aigertext.proofs.reading.any_order.take_onto.Goals as goal

pub returns-then-gates-count-clause-taken : goal.returns-then-gates-count-clause-taken
returns-then-gates-count-clause-taken g c =
    let k1 = g.S.Source.to_come c.read_gates.new.source in
    let k2 = g.S.Source.to_come c.read_rest.new.source in
    let whole = (rw c.in_ok-text.ensures.ok_part at c.restored-text.ensures) ∙ ap (λ gs. c.args.before.now ++ (line_texts gs ++ c.as_slice.result.now)) c.gates-then-gates-count.ensures.items ∙ ap (λ t. c.args.before.now ++ (line_texts c.read_gates.new.target.gates ++ t)) c.as_slice.ensures.value in
    at_end _ c.read_rest.new.bytes.items k2
    (Keeps-trans _ _ _ (lists_kept c.args.counts.now c.args.before.now c.args.lists.now c.read_gates.new.target _ c.args.window.now.items c.read_gates.new.window.items _ k1 c.requires c.in_ok-read_gates.ensures.puts)
    (subst (λ t. Keeps (prepend_known t k1) (prepend_known c.read_rest.new.bytes.items k2)) whole c.in_ok-read_rest.ensures.bytes)) c.in_ok-read_rest.ensures.end

pub returns-in-Ok-clause-taken : goal.returns-in-Ok-clause-taken
returns-in-Ok-clause-taken g c =
    let lists = c.read_gates.new.target in
    let rest = c.read_rest-2.new.bytes.items in
    record {
      text = c.args.before.now ++ (line_texts lists.gates ++ rest);
      is =
          all_lists_kept c.args.counts.now c.args.before.now c.args.lists.now lists _ c.args.window.now.items c.read_gates.new.window.items rest _ _ _ c.requires c.in_ok-read_gates.ensures.puts c.in_ok-read_rest-2.ensures.bytes c.in_ok-read_rest-2.ensures.end;
      reads =
          let stand = (stand_more c.args.counts.now c.args.before.now _ c.args.lists.now lists c.requires c.in_ok-read_gates.ensures.puts.puts).0 in
          let many = ap length (sym c.gates.ensures.items) ∙ omega (arith, c.if-gates-count.false) in
          let law = c.one_renumbering.ensures.circuit in
          let numbered = c.in-Ok.numbered in (
            inl (spelled_by_lists c.args.counts.now c.args.before.now lists stand c.gates.ensures.valid many rest law numbered.circuit (only_named _ _ _ _ numbered.circuit (rw c.as_slice-2.ensures.value at c.in-Ok.ensures.answers))),
            λ wanted. numbered_by_lists c.args.counts.now c.args.before.now lists stand c.gates.ensures.valid many rest law numbered.circuit numbered.numbering (rw c.as_slice-2.ensures.value at (c.in-Ok.ensures.numbering wanted)),
          );
    }

pub returns-clause-taken : goal.returns-clause-taken
returns-clause-taken g c =
    let rest = c.read_rest-2.new.bytes.items in
    let whole = (rw c.in_ok-ok_or.ensures.ok_part at c.restored-text-2.ensures) ∙ ap (λ gs. c.args.before.now ++ (line_texts gs ++ c.as_slice-3.result.now)) c.gates-2.ensures.items ∙ ap (λ t. c.args.before.now ++ (line_texts c.read_gates.new.target.gates ++ t)) c.as_slice-3.ensures.value in
    subst (λ t. IfSome (prepend_known (c.args.before.now ++ (line_texts c.args.lists.now.gates ++ c.args.window.now.items)) (g.S.Source.to_come c.args.source.now)) (λ all. t ≡ all)) (sym whole)
    (all_lists_kept c.args.counts.now c.args.before.now c.args.lists.now c.read_gates.new.target _ c.args.window.now.items c.read_gates.new.window.items rest _ _ _ c.requires c.in_ok-read_gates.ensures.puts c.in_ok-read_rest-2.ensures.bytes c.in_ok-read_rest-2.ensures.end)
