use Rattle.pieces.proofs.NodeLemmas.{put_extends}
use Rattle.pieces.proofs.maker.Maker.put.Goals as goal

pub returns-clause-extends : goal.returns-clause-extends
returns-clause-extends c = put_extends c.args.self.now c.tell.new.self c.args.body c.tell.result c.requires.plain c.tell.ensures.line c.tell.ensures.stands
