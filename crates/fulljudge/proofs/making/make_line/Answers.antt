use Rattle.std.proofs.Common.{◌<◌, ◌^◌, arith}
use Rattle.fulljudge.specs.Kept.{words_in}
use Rattle.fulljudge.proofs.TextLemmas.{in_is_line}
use Rattle.fulljudge.proofs.making.make_line.Goals as goal

pub returns-clause-whole : goal.returns-clause-whole
returns-clause-whole c =
    let few : words_in c.args.values.now < 2 ^ 64 = omega (arith, c.words-few.ensures, c.words-few.type_inv) in
    in_is_line c.args.values.now c.args.line.now few c.requires
