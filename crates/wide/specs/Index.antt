-- What a model keeps of its lines and beside them.
use Rattle.std.specs.Prelude.{◌≡◌, ℕ, nat_eq}
use Rattle.std.specs.HashMap.{get}
use Rattle.btor2.specs.Items.{init_value, next_value}
use Rattle.wide.specs.declared.model.WideModel.TheInside.{Inside}
use Rattle.wide.specs.Entries.{entry_at}
use Rattle.wide.specs.Lines.{items_of}
use Rattle.wide.specs.WideModels.{greatest_width, IsWideModel}

-- of each item what it is to those that name it, and of the init and next lines their states and values
pub record IsIndexed (m : Inside) : Type 0 where
  pub well_formed : IsWideModel greatest_width (items_of m.lines.items)
  pub entries : (id : ℕ) → get nat_eq m.entries id ≡ entry_at (items_of m.lines.items) id
  pub inits : (id : ℕ) → get nat_eq m.inits id ≡ init_value (items_of m.lines.items) id
  pub nexts : (id : ℕ) → get nat_eq m.nexts id ≡ next_value (items_of m.lines.items) id
