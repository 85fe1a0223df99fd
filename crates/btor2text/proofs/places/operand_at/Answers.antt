use Rattle.btor2text.specs.Tokens.{tokens}
use Rattle.btor2text.proofs.PlaceLemmas.{plain_is_operand}
use Rattle.btor2text.proofs.places.operand_at.Goals as goal

pub returns-in-Some : goal.returns-in-Some
returns-in-Some c = rw c.kept_id.ensures (plain_is_operand (tokens c.args.line.now) (c.in-Some.number, tokens c.in-Some.rest.now) c.in-Some.ensures)
