use Rattle.std.proofs.Common.{refl}
use Rattle.btor2.specs.declared.item.Body.TheVariants as body
use Rattle.cells.specs.Lines.{named}
use Rattle.std.proofs.Common.{None, [], ◌∷◌}
use Rattle.writeout.proofs.FirstLemmas.{sort_still, no_slice_one, no_slice_zero, Three, three_stand, stood_on, three_no_init, three_no_next, adds_first}
use Rattle.writeout.proofs.leaves.put_first.Goals as goal

pub put-requires-2-clause-sound : goal.put-requires-2-clause-sound
put-requires-2-clause-sound c =
    let s = c.in_ok-sort.sort in
    c.know_list.ensures.node c.put.new.self (body.One s) s 1 refl
    (sort_still c.sort.new.self c.put.new.self (named c.in_ok-state.state None (body.State s) ∷ []) s 1 c.in_ok-state.ensures.line.0 c.in_ok-sort.ensures.sort)
    refl (no_slice_one c.put.new.self s) refl refl

pub put-requires-3-clause-sound : goal.put-requires-3-clause-sound
put-requires-3-clause-sound c =
    let s = c.in_ok-sort.sort in
    c.know_list.ensures.node c.put-2.new.self (body.Zero s) s 1 refl
    (sort_still c.put.new.self c.put-2.new.self (named c.in_ok-one.one None (body.One s) ∷ []) s 1 c.in_ok-one.ensures.line.0
    (sort_still c.sort.new.self c.put.new.self (named c.in_ok-state.state None (body.State s) ∷ []) s 1 c.in_ok-state.ensures.line.0 c.in_ok-sort.ensures.sort))
    refl (no_slice_zero c.put-2.new.self s) refl refl

pub put-requires-4-clause-sound : goal.put-requires-4-clause-sound
put-requires-4-clause-sound c =
    let s = c.in_ok-sort.sort in
    let a = c.in_ok-state.state in
    let one = c.in_ok-one.one in
    let nil = c.in_ok-zero.zero in
    let h : Three c.sort.new.self c.put.new.self c.put-2.new.self c.put-3.new.self a s one nil =
    record {
      e1 = c.in_ok-state.ensures.line.0;
      e2 = c.in_ok-one.ensures.line.0;
      e3 = c.in_ok-zero.ensures.line.0;
      f1 = c.in_ok-state.ensures.line.2;
      f2 = c.in_ok-one.ensures.line.2;
      f3 = c.in_ok-zero.ensures.line.2;
      width = c.in_ok-sort.ensures.sort;
    } in
    let stood = three_stand c.sort.new.self c.put.new.self c.put-2.new.self c.put-3.new.self a s one nil h in
    c.know_list.ensures.init c.put-3.new.self s a one 1 1 stood.names stood.is_one
    (three_no_init c.args.maker.now c.sort.new.self c.put.new.self c.put-2.new.self c.put-3.new.self a s one nil a c.requires c.sort.ensures.extends h) stood.sorted stood.width stood.one_width

pub put-requires-5-clause-sound : goal.put-requires-5-clause-sound
put-requires-5-clause-sound c =
    let s = c.in_ok-sort.sort in
    let a = c.in_ok-state.state in
    let one = c.in_ok-one.one in
    let nil = c.in_ok-zero.zero in
    let i = c.in_ok-put.field-0 in
    let h : Three c.sort.new.self c.put.new.self c.put-2.new.self c.put-3.new.self a s one nil =
    record {
      e1 = c.in_ok-state.ensures.line.0;
      e2 = c.in_ok-one.ensures.line.0;
      e3 = c.in_ok-zero.ensures.line.0;
      f1 = c.in_ok-state.ensures.line.2;
      f2 = c.in_ok-one.ensures.line.2;
      f3 = c.in_ok-zero.ensures.line.2;
      width = c.in_ok-sort.ensures.sort;
    } in
    let stood = stood_on c.put-3.new.self c.put-4.new.self (named i None (body.Init s a one) ∷ []) a s one nil c.in_ok-put.ensures.line.0
    (three_stand c.sort.new.self c.put.new.self c.put-2.new.self c.put-3.new.self a s one nil h) in
    c.know_list.ensures.next c.put-4.new.self s a nil 1 stood.names
    (three_no_next c.args.maker.now c.sort.new.self c.put.new.self c.put-2.new.self c.put-3.new.self c.put-4.new.self a s one nil i a c.requires c.sort.ensures.extends h c.in_ok-put.ensures.line.0) stood.sorted stood.width stood.zero_width

pub returns-clause-first : goal.returns-clause-first
returns-clause-first c =
    let s = c.in_ok-sort.sort in
    let a = c.in_ok-state.state in
    let one = c.in_ok-one.one in
    let nil = c.in_ok-zero.zero in
    let i = c.in_ok-put.field-0 in
    let j = c.in_ok-put-2.field-0 in
    let h : Three c.sort.new.self c.put.new.self c.put-2.new.self c.put-3.new.self a s one nil =
    record {
      e1 = c.in_ok-state.ensures.line.0;
      e2 = c.in_ok-one.ensures.line.0;
      e3 = c.in_ok-zero.ensures.line.0;
      f1 = c.in_ok-state.ensures.line.2;
      f2 = c.in_ok-one.ensures.line.2;
      f3 = c.in_ok-zero.ensures.line.2;
      width = c.in_ok-sort.ensures.sort;
    } in
    adds_first c.args.maker.now c.sort.new.self c.put.new.self c.put-2.new.self c.put-3.new.self c.put-4.new.self c.put-5.new.self a s one nil i j c.sort.ensures.extends c.know_list.ensures.model
    c.in_ok-state.ensures.line.1 h c.in_ok-put.ensures.line.0 c.in_ok-put-2.ensures.line.0
