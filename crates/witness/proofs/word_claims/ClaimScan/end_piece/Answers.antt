use Rattle.std.proofs.Common.{Bool, ◌&&◌, length, ap, ◌∙◌}
use Rattle.witness.specs.Admits.{claim_of}
use Rattle.witness.specs.declared.word_claims.ClaimScan.{ClaimScan}
use Rattle.witness.proofs.ClaimScanLemmas.{no_claim, one_claim}
use Rattle.witness.proofs.WordClaimLemmas.{told_more, told_nothing}
use Rattle.witness.proofs.word_claims.ClaimScan.end_piece.Goals as goal
use Rattle.witness.proofs.word_claims.ClaimScan.end_piece.Goals.{in-Some, in-None}

pub returns-clause-told : goal.returns-clause-told
returns-clause-told c before bytes scans told =
    let s : ClaimScan = c.args.self.now in
    let t : ClaimScan = record { claims = c.match-claim.self.claims; justice = c.match-claim.self.justice; fit = c.match-claim.self.fit; piece = c.new-self.result } in
    elim c.match-claim.branch [
      | in-Some w ↦
          rw (one_claim bytes c.claim.result (c.claim.ensures bytes scans) w.in-Some.justice w.in-Some.number w.in-Some.is)
          (told_more s t c.args.claimed.now c.match-claim.claimed before _ (ap (λ (x : ClaimScan). x.claims) w.self-is) (ap (λ (x : ClaimScan). x.justice) w.self-is)
          (ap (λ (x : ClaimScan). x.fit) w.self-is ∙ ap (λ (b : Bool). s.fit && b) w.set_flag.ensures.fresh) (λ there. w.claimed-is ∙ w.set_flag.ensures.set there) (ap length w.claimed-is ∙ w.set_flag.ensures.many) told)
      | in-None w ↦ told_nothing t c.match-claim.claimed before (claim_of bytes) (no_claim bytes c.claim.result (c.claim.ensures bytes scans) w.in-None.is) (ap (λ (x : ClaimScan). x.claims) w.self-is)
    ]
