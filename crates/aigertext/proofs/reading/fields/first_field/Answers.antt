use Rattle.bstr.specs.Find.{is_byte}
use Rattle.base.proofs.CutLemmas.{cut_at_first, none_at_all}
use Rattle.aigertext.proofs.FieldCutLemmas.{field_whole, field_cut}
use Rattle.aigertext.proofs.reading.fields.first_field.Goals as goal

pub returns-in-None : goal.returns-in-None
returns-in-None c =
    rw (c.split_at.ensures.front, c.split_at.ensures.back)
    (field_whole c.args.line.now (none_at_all (is_byte 32) c.args.line.now c.in-None.ensures))

pub returns-in-Some : goal.returns-in-Some
returns-in-Some c =
    rw (c.split_at-in-Some.ensures.front, c.split_at-in-Some.ensures.back)
    (field_cut c.args.line.now c.in-Some.at (cut_at_first (is_byte 32) c.args.line.now c.in-Some.at c.in-Some.ensures))
