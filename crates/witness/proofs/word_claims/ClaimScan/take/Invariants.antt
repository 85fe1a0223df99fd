use Rattle.std.proofs.Common.{◌≡◌, ℕ, List, ◌++◌, length, take}
use Rattle.witness.specs.WordClaims.{AreClaims}
use Rattle.witness.proofs.word_claims.ClaimScan.take.Given as goal

-- the bytes before are taken
abbrev pub invariant-loop-byte : goal.invariant-loop-byte
invariant-loop-byte l = record {
  taken : (line : List ℕ) → AreClaims l.fn.self l.initial.claimed line → AreClaims l.self l.claimed (line ++ take l.byte-index l.bytes);
  many : length l.claimed ≡ length l.initial.claimed;
}
