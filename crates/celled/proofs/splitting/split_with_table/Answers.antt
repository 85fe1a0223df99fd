use Rattle.std.proofs.Common.{List, sym, subst}
use Rattle.btor2.specs.declared.item.Item.{Item}
use Rattle.celled.specs.Celled.{IsCelledOf}
use Rattle.celled.specs.Spots.{spots_of}
use Rattle.celled.specs.Whole.{HasWholes}
use Rattle.celled.proofs.EndLemmas.{celled_with}
use Rattle.celled.proofs.splitting.split_with_table.Goals as goal

pub returns : goal.returns
returns c =
    let wide = c.args.wide.now in
    let t = spots_of c.put_lines.new.table in
    subst (λ (celled : List Item). (o : IsCelledOf wide c.args.inputs.now c.args.states.now celled) × HasWholes wide o.layout celled t) (sym c.finish.ensures.model)
    (celled_with wide t c.put_lines.new.maker c.args.inputs.now c.args.states.now c.in_ok-put_lines.ensures c.know_list.ensures.model)
