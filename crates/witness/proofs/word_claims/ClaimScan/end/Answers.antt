use Rattle.std.proofs.Common.{refl, ◌∙◌}
use Rattle.witness.specs.Admits.{claims_of}
use Rattle.witness.proofs.WordClaimLemmas.{claims_end}
use Rattle.witness.proofs.word_claims.ClaimScan.end.Goals as goal

pub returns-then-all-clause-line : goal.returns-then-all-clause-line
returns-then-all-clause-line c line h =
    let told = claims_end _ _ line h c.end_piece.new.self c.end_piece.new.claimed _ c.end_piece.ensures.many (c.end_piece.ensures.told (claims_of h.whole) h.last h.piece h.told) in
    told.1.0 ∙ rw c.if-all.true refl

pub returns-then-all-2-clause-line : goal.returns-then-all-2-clause-line
returns-then-all-2-clause-line c line h =
    let told = claims_end _ _ line h c.end_piece.new.self c.end_piece.new.claimed _ c.end_piece.ensures.many (c.end_piece.ensures.told (claims_of h.whole) h.last h.piece h.told) in
    (told.0, (told.1.0 ∙ rw (c.if-all.false, c.if-all-2.true) refl, told.1.1 c.if-all-2.true))

pub returns-clause-line : goal.returns-clause-line
returns-clause-line c line h =
    let told = claims_end _ _ line h c.end_piece.new.self c.end_piece.new.claimed _ c.end_piece.ensures.many (c.end_piece.ensures.told (claims_of h.whole) h.last h.piece h.told) in
    told.1.0 ∙ rw (c.if-all.false, c.if-all-2.false) refl
