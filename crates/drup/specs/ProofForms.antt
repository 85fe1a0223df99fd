-- In which form a proof is written. This project's own: the form is told by the first two bytes. A proof in the binary form begins with `a` or `d`. One in
-- the text form never begins with `a`, and behind a `d` at its begin stands a space. So a binary proof that takes away, first of all, a clause whose first
-- literal is 32 is read as text, and is malformed.
use Rattle.std.specs.Prelude.{ℕ, Bool, false, not, ◌==◌, ◌&&◌, ◌||◌, if◌then◌else◌, List, [], ◌∷◌}
use Rattle.drup.specs.Proofs.{ProofReading, read_text_proof}
use Rattle.drup.specs.BinaryProofs.{read_binary_proof}

-- a byte other than a space is the first
abbrev pub begins_without_space : List ℕ → Bool
begins_without_space [] = false
begins_without_space (b ∷ bs) = not (b == 32)

-- the first byte is `a`, or it is `d`, and the second is there and is no space
abbrev pub is_binary_proof : List ℕ → Bool
is_binary_proof [] = false
is_binary_proof (b ∷ bs) = b == 97 || (b == 100 && begins_without_space bs)

-- what a text reads as, over a formula of so many variables
abbrev pub read_proof : ℕ → List ℕ → ProofReading
read_proof variables text = if is_binary_proof text then read_binary_proof variables text else read_text_proof variables text
