use Rattle.std.proofs.Common.{sym}
use Rattle.base.proofs.PenLemmas.{writes_none}
use Rattle.aigertext.proofs.writing.names.put_name_at.Goals as goal

pub returns-in_default : goal.returns-in_default
returns-in_default g c = rw (sym c.in_default.ensures.name) writes_none
