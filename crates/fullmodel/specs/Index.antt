-- What a model keeps of its lines and beside them.
use Rattle.std.specs.Prelude.{◌≡◌, ℕ, nat_eq, map, option_map}
use Rattle.std.specs.List.{AllByRecursion}
use Rattle.std.specs.HashMap.{get, keys}
use Rattle.full.specs.Lines.{FullLine, init_of, next_of}
use Rattle.fullmodel.specs.declared.model.FullModel.TheInside.{Inside}
use Rattle.fullmodel.specs.declared.line.Line.{Line}
use Rattle.fullmodel.specs.Lines.{operand_of, lines_in, HasNoDigits}
use Rattle.fullmodel.specs.FullModels.{IsAccepted}
use Rattle.fullmodel.specs.Entries.{entry_at}

-- of each line what it is to those that name it, in file order, and of the init and next lines their states and values
pub record IsIndexed (m : Inside) : Type 0 where
  pub accepted : IsAccepted (lines_in m.lines.items)
  pub forms : AllByRecursion (λ (x : Line). HasNoDigits x.says) m.lines.items
  pub entries : (id : ℕ) → get nat_eq m.entries id ≡ entry_at (lines_in m.lines.items) id
  pub ids : keys m.entries ≡ map (λ (x : FullLine). x.id) (lines_in m.lines.items)
  pub inits : (id : ℕ) → option_map operand_of (get nat_eq m.inits id) ≡ init_of (lines_in m.lines.items) id
  pub nexts : (id : ℕ) → option_map operand_of (get nat_eq m.nexts id) ≡ next_of (lines_in m.lines.items) id
