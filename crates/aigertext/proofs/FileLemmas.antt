-- Lines that define variables, one after the other onto the lists of a file.
use Rattle.std.proofs.Common.{◌≡◌, ℕ, suc, List, Result, Ok, refl, sym, ap, ◌∙◌}
use Rattle.aigerlists.specs.Loose.{Loose}
use Rattle.aigertext.specs.declared.fault.Stop.{Stop}
use Rattle.aigertext.specs.declared.fault.Why.{Why}
use Rattle.aigertext.specs.Reading.{line_at}
use Rattle.aigertext.specs.AsciiReading.{onto_lists}

module _ {A : Type 0} (says : Loose → List ℕ → Result A Why) (with' : Loose → A → Loose) (l : Loose) (m n : ℕ) (text : List ℕ) (whole : Result (Loose × List ℕ) Stop) (left : m ≡ suc n) (so_far : onto_lists says with' l m text ≡ whole) where
  pub file_step : (x : A) (after : List ℕ) (next : Loose) → line_at (says l) text ≡ Ok (x, after) → next ≡ with' l x → onto_lists says with' next n after ≡ whole
  file_step x after next one is =
      let step : onto_lists says with' l m text ≡ onto_lists says with' (with' l x) n after = ap (λ (k : ℕ). onto_lists says with' l k text) left ∙ rw one refl in
      ap (λ (k : Loose). onto_lists says with' k n after) is ∙ sym step ∙ so_far
