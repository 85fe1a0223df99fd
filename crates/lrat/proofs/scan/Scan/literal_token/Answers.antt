use Rattle.std.proofs.Common.{◌∙◌}
use Rattle.std.proofs.lemmas.Bool.{ne_eqb}
use Rattle.lrat.specs.BinaryHintedProofs.{literal_coded}
use Rattle.lrat.proofs.NumberLemmas.{says_needless, says_number}
use Rattle.lrat.proofs.scan.Scan.literal_token.Goals as goal

pub returns-then-byte-eq0 : goal.returns-then-byte-eq0
returns-then-byte-eq0 c bytes s = says_needless literal_coded bytes c.args.byte c.if-byte-eq0.true

pub returns : goal.returns
returns c bytes s = c.literal_coded.ensures ∙ says_number literal_coded bytes c.args.byte c.number.result c.requires (ne_eqb c.args.byte 0 c.if-byte-eq0.false) (c.number.ensures bytes s)
