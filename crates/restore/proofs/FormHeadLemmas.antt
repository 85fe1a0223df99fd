-- Lines of a witness of an engine form before its frames.
use Rattle.std.proofs.Common.{◌≡◌, ℕ, ◌<◌, ◌^◌, ◌==◌, Bool, true, false, not, List, [], ◌∷◌, ◌++◌, length, sym, ap, subst, ◌∙◌, ◌⊎◌, arith, inl, inr}
use Rattle.std.proofs.lemmas.Bool.{eq-eqb, ne_eqb}
use Rattle.base.specs.Lines.{IsLine}
use Rattle.aiger.specs.Circuit.{Circuit, IsCircuit}
use Rattle.witness.specs.Texts.{claim}
use Rattle.witness.specs.BitAdmits.{BitRead, admitted_lines, is_done}
use Rattle.witness.specs.declared.bit_lines.BitLines.{BitLines}
use Rattle.witness.specs.BitStands.{StandsForBitLines}
use Rattle.restore.specs.FormSteps.{read_of, IsHead, IsClaimed}
use Rattle.restore.proofs.FormLineLemmas.{Same, More, read_more, claim_line, status_line}

few_bads : (d : Circuit) → IsCircuit d → length d.bads < 2 ^ 64
few_bads d valid = omega (arith, valid.few.bads)

abbrev pub IsAdmitted : Circuit → List ℕ → List ℕ → Bool → Type 0
IsAdmitted d text line b = b ≡ not (admitted_lines d (text ++ (line ++ 10 ∷ [])) == admitted_lines d text)

-- a line is not admitted
pub passed : (d : Circuit) (text line : List ℕ) → IsAdmitted d text line false → Same d text (text ++ (line ++ 10 ∷ [])) ⊎ More d text line (text ++ (line ++ 10 ∷ [])) → Same d text (text ++ (line ++ 10 ∷ []))
passed d text line is (inl s) = s
passed d text line is (inr m) =
    let other : (admitted_lines d (text ++ (line ++ 10 ∷ [])) == admitted_lines d text) ≡ false = ne_eqb (admitted_lines d (text ++ (line ++ 10 ∷ []))) (admitted_lines d text) (λ e. let c = m.count in omega (arith, e, c)) in
    absurd (cc (is, other))

-- it is
pub added : (d : Circuit) (text line : List ℕ) → IsAdmitted d text line true → Same d text (text ++ (line ++ 10 ∷ [])) ⊎ More d text line (text ++ (line ++ 10 ∷ [])) → More d text line (text ++ (line ++ 10 ∷ []))
added d text line is (inl s) =
    let same : (admitted_lines d (text ++ (line ++ 10 ∷ [])) == admitted_lines d text) ≡ true = eq-eqb (admitted_lines d (text ++ (line ++ 10 ∷ []))) (admitted_lines d text) s.count in
    absurd (cc (is, same))
added d text line is (inr m) = m

module _ (d : Circuit) (judge judge' : BitLines) (text line : List ℕ) (valid : IsCircuit d) (is_line : IsLine line) (head : IsHead d judge text) (stands : StandsForBitLines d judge' (text ++ (line ++ 10 ∷ []))) where
  abbrev more : List ℕ
  more = text ++ (line ++ 10 ∷ [])

  cases : Same d text more ⊎ More d text line more
  cases = read_more d text line head.at.1 is_line

  pub head_claims : (result : ℕ) → IsAdmitted d text line true → admitted_lines d text ≡ 1 → ((i : ℕ) → i < 2 ^ 64 → line ≡ claim i → result ≡ i) → IsClaimed d judge' more result
  head_claims result is one by =
      let m = added d text line is cases in
      let few = few_bads d valid in
      let c = claim_line d (read_of d text) (read_of d more) line (admitted_lines d text) (read_of d text).place few one m.placed m.reads in
      let below = c.below in
      let same : result ≡ c.index = by c.index (omega (arith, below, few)) c.spelled in
      let count = m.count in
      record {
        at = stands;
        many = omega (arith, count, one);
        claim = ap (λ (r : BitRead). r.claim) c.says ∙ sym same;
        no_frame = ap (λ (r : BitRead). r.frames) c.says ∙ head.no_frame;
        not_done = ap (λ (r : BitRead). is_done r.place) c.says;
        below = subst (λ (n : ℕ). n < length d.bads) (sym same) c.below;
      }

  same_head : Same d text more → IsHead d judge' more
  same_head s = record {
    at = stands;
    few = let c = s.count in let f = head.few in omega (arith, c, f);
    no_frame = ap (λ (r : BitRead). r.frames) s.read ∙ head.no_frame;
    not_done = ap (λ (r : BitRead). is_done r.place) s.read ∙ head.not_done;
  }

  pub head_passes : IsAdmitted d text line false → IsHead d judge' more
  head_passes is = same_head (passed d text line is cases)

  pub head_goes : (admitted_lines d text ≡ 1 → ⊥) → IsHead d judge' more
  head_goes other = by cases
    where
      by : Same d text more ⊎ More d text line more → IsHead d judge' more
      by (inl s) = same_head s
      by (inr m) =
          let f = head.few in
          let none : admitted_lines d text ≡ 0 = omega (arith, f, other) in
          let next = status_line d (read_of d text) (read_of d more) line (admitted_lines d text) (read_of d text).place none m.placed m.reads in
          let count = m.count in
          record {
            at = stands;
            few = omega (arith, count, none);
            no_frame = ap (λ (r : BitRead). r.frames) next ∙ head.no_frame;
            not_done = ap (λ (r : BitRead). is_done r.place) next;
          }
