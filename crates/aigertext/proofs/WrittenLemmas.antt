-- What is written stands for the circuit that was written.
use Rattle.std.proofs.Common.{◌≡◌, ℕ, zero, suc, ◌+◌, ◌*◌, List, [], ◌∷◌, ◌++◌, map, replicate, refl, sym, ap, subst, ◌∙◌, append-nil, inl, arith}
use Rattle.std.proofs.lemmas.List.Elements.{recursion_from_All}
use Rattle.aiger.specs.declared.circuit.Latch.{Latch}
use Rattle.aiger.specs.declared.circuit.Reset.{Reset}
use Rattle.aiger.specs.declared.circuit.Reset.TheVariants.{Zero, One, Free}
use Rattle.aiger.specs.Circuit.{Circuit, IsCircuit, IsNamed}
use Rattle.aigertext.specs.declared.forms.Form.{Form}
use Rattle.aigertext.specs.declared.forms.Form.TheVariants.{Binary}
use Rattle.aigertext.specs.Ascii.{header, without_zero_tail, before_kept, reset_numbers, all_names}
use Rattle.aigertext.specs.Binary.{latches_text, circuit_text, binary_text}
use Rattle.aigertext.specs.Counts.{counts_in, last_of_counts}
use Rattle.aigertext.specs.Spelling.{IsHeader, IsReset, AreNextLines, IsEnd, IsBinaryText}
use Rattle.aigertext.proofs.NameTextLemmas.{given_of, give_names, all_names-given}
use Rattle.aigertext.proofs.PlaceLemmas.{all_behind_none}

-- the zeros that are dropped at a list's end
abbrev ZeroTail : List ℕ → Type 0
ZeroTail ns = (n : ℕ) × (without_zero_tail ns ++ replicate n 0 ≡ ns)

tail_by : (n : ℕ) (kept ns : List ℕ) (dropped : ℕ) → kept ++ replicate dropped 0 ≡ ns → (more : ℕ) × (before_kept n kept ++ replicate more 0 ≡ n ∷ ns)
tail_by zero [] ns dropped e = (suc dropped, ap (λ (l : List ℕ). 0 ∷ l) e)
tail_by (suc n) [] ns dropped e = (dropped, ap (λ (l : List ℕ). suc n ∷ l) e)
tail_by zero (k ∷ kept) ns dropped e = (dropped, ap (λ (l : List ℕ). 0 ∷ l) e)
tail_by (suc n) (k ∷ kept) ns dropped e = (dropped, ap (λ (l : List ℕ). suc n ∷ l) e)

zero_tail : (ns : List ℕ) → ZeroTail ns
zero_tail [] = (0, refl)
zero_tail (n ∷ ns) = let rest = zero_tail ns in tail_by n (without_zero_tail ns) ns rest.0 rest.1

pub written_header : (form : Form) (c : Circuit) → IsHeader form (counts_in c) (header form c)
written_header form c =
    let tail = zero_tail (last_of_counts (counts_in c)) in
    record { kept = without_zero_tail (last_of_counts (counts_in c)); dropped = tail.0; counts = tail.1; spelled = refl }

pub written_reset : (own : ℕ) (r : Reset) → IsReset own r (reset_numbers own r)
written_reset own Zero = inl refl
written_reset own One = refl
written_reset own Free = refl

next_own : (first : ℕ) → 2 * suc first ≡ 2 * first + 2
next_own first = omega arith

written_nexts : (first : ℕ) (ls : List Latch) → AreNextLines (2 * first) ls (latches_text Binary first ls)
written_nexts first [] = refl
written_nexts first (l ∷ ls) = (
  _,
  (
    _,
    (
      refl,
      record { reset = reset_numbers (2 * first) l.reset; is_reset = written_reset (2 * first) l.reset; spelled = refl },
      subst (λ (own : ℕ). AreNextLines own ls (latches_text Binary (suc first) ls)) (next_own first) (written_nexts (suc first) ls),
    ),
  ),
)

pub written_end : (c : Circuit) → IsCircuit c → IsEnd c (all_names c)
written_end c valid =
    let named = recursion_from_All (IsNamed c) c.names valid.names.named in
    record {
      given = map given_of c.names;
      names = give_names c [] c.names named (all_behind_none c.names) valid.names.sorted;
      comment = [];
      is_comment = inl refl;
      spelled = all_names-given c named valid.names.sorted ∙ sym (append-nil _);
    }

pub written_stands : (c : Circuit) → IsCircuit c → IsBinaryText (binary_text c) c
unfolding circuit_text
written_stands c valid =
    record {
      header = header Binary c;
      is_header = written_header Binary c;
      latches = latches_text Binary (suc c.inputs) c.latches;
      are_latches = written_nexts (suc c.inputs) c.latches;
      end = all_names c;
      is_end = written_end c valid;
      valid = valid;
      whole = refl;
    }
