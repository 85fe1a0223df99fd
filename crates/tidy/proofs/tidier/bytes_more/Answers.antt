use Rattle.tidy.proofs.tidier.bytes_more.Goals as goal

pub returns-in-Kept : goal.returns-in-Kept
returns-in-Kept c = rw c.in-Kept.is (c.word_more.ensures c.in-Kept.field-0)
