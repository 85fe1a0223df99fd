use Rattle.std.proofs.Common.{◌≡◌, length, ap, ◌∙◌, sym, arith}
use Rattle.std.specs.List.{sum_by}
use Rattle.std.proofs.lemmas.List.Concat.{length-flat_map}
use Rattle.aiger.proofs.JusticeLemmas.{size_refusal_by}
use Rattle.aiger.proofs.justice.has_room.Goals as goal

pub returns : goal.returns
returns c =
    let sum : sum_by length c.args.justice.now ≡ length c.values.result.now = sym (ap length c.values.ensures ∙ length-flat_map (λ row. row) c.args.justice.now) in
    size_refusal_by c.args.justice.now c.args.size (length c.values.result.now) (omega arith) sum (omega arith)
