use Rattle.std.proofs.Common.{◌≡◌, ◌≤◌, ◌*◌, ◌^◌, ◌%◌, nat_le, sym, ap, ap₂, ◌∙◌, arith}
use Rattle.std.proofs.lemmas.Bool.{lt-leb}
use Rattle.wide.specs.WideModels.{greatest_width}
use Rattle.fullmodel.proofs.SizeLemmas.{too_many, small_product}
use Rattle.fullmodel.proofs.sorts.has_room.Goals as goal

pub returns-then-index-gt20 : goal.returns-then-index-gt20
returns-then-index-gt20 c = sym (lt-leb (2 ^ c.args.index * c.args.element) greatest_width (too_many c.args.index c.args.element c.if-index-gt20.true c.requires))

pub returns : goal.returns
returns c =
    ap₂ nat_le (ap (λ n. n * 2 ^ c.args.index % 340282366920938463463374607431768211456) c.from.ensures ∙ small_product c.args.index c.args.element c.if-index-gt20.false (omega (arith, c.ranges.element.fits))) c.from-2.ensures
