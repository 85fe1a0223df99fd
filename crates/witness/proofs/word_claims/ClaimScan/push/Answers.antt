use Rattle.std.proofs.Common.{ℕ, subst, sym, ◌++◌, ◌∷◌, []}
use Rattle.witness.specs.Admits.{claims_of}
use Rattle.witness.specs.WordClaims.{AreClaims}
use Rattle.witness.proofs.WordClaimLemmas.{claims_byte, claims_space}
use Rattle.witness.proofs.word_claims.ClaimScan.push.Goals as goal

pub returns-then-byte-eq32-clause-line : goal.returns-then-byte-eq32-clause-line
returns-then-byte-eq32-clause-line c line h =
    subst (λ (b : ℕ). AreClaims c.end_piece.new.self c.end_piece.new.claimed (line ++ b ∷ [])) (sym c.if-byte-eq32.true)
    (claims_space c.args.self.now c.args.claimed.now line h c.end_piece.new.self c.end_piece.new.claimed (c.end_piece.ensures.told (claims_of h.whole) h.last h.piece h.told) c.end_piece.ensures.piece)

pub returns-clause-line : goal.returns-clause-line
returns-clause-line c line h = claims_byte c.args.self.now c.args.claimed.now line h c.push.new.self c.args.byte c.if-byte-eq32.false (c.push.ensures h.last h.piece)
