-- What a tidier does with bytes that come one behind the other.
use Rattle.std.proofs.Common.{◌≡◌, ℕ, zero, suc, List, [], ◌∷◌, ◌++◌, refl, sym, ap, ◌∙◌, append_assoc}
use Rattle.tidy.specs.declared.tidier.Tidier.{Tidier}
use Rattle.tidy.specs.Tidied.{shown}
use Rattle.tidy.specs.Steps.{behind_byte, byte_written, behind_bytes, bytes_written}

pub behind_bytes-append : (t : Tidier) (xs ys : List ℕ) → behind_bytes t (xs ++ ys) ≡ behind_bytes (behind_bytes t xs) ys
behind_bytes-append t [] ys = refl
behind_bytes-append t (x ∷ xs) ys = behind_bytes-append (behind_byte t x) xs ys

pub bytes_written-append : (t : Tidier) (xs ys : List ℕ) → bytes_written t (xs ++ ys) ≡ bytes_written t xs ++ bytes_written (behind_bytes t xs) ys
bytes_written-append t [] ys = refl
bytes_written-append t (x ∷ xs) ys =
    ap (λ (l : List ℕ). byte_written t x ++ l) (bytes_written-append (behind_byte t x) xs ys)
    ∙ sym (append_assoc (byte_written t x) (bytes_written (behind_byte t x) xs) (bytes_written (behind_bytes (behind_byte t x) xs) ys))

pub shown-append : (k : ℕ) (xs ys : List ℕ) → shown k (xs ++ ys) ≡ shown k xs ++ shown k ys
shown-append zero xs ys = refl
shown-append (suc n) xs ys = refl
