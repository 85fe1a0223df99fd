-- What is told of models that are not written out.
use Rattle.std.specs.Prelude.{◌≡◌, ℕ, Bool, true, false, ◌||◌, List, ◌∷◌, ◌++◌}
use Rattle.std.specs.List.{AllByRecursion}
use Rattle.btor2.specs.declared.item.Item.{Item}
use Rattle.btor2.specs.declared.item.Body.{Body}
use Rattle.btor2.specs.declared.item.Body.TheVariants as body
use Rattle.cells.specs.declared.shortage.Shortage.{Shortage}
use Rattle.cells.specs.declared.shortage.Shortage.TheVariants as shortage
use Rattle.full.specs.Lines.{Says, FullLine, is_form}
use Rattle.writeout.specs.declared.fault.WriteFault.{WriteFault}
use Rattle.writeout.specs.declared.fault.WriteFault.TheVariants as fault
use Rattle.writeout.specs.Needs.{IsCircle}

-- ---- justice and fairness

abbrev pub is_justice : Body → Bool
is_justice (body.Justice nodes) = true
is_justice _ = false

abbrev pub is_fair : Body → Bool
is_fair (body.Fair a) = true
is_fair _ = false

-- a form is one of justice or of fairness
abbrev pub is_live_body : Body → Bool
is_live_body b = is_justice b || is_fair b

-- no item of a list is
abbrev pub NoneIsLiveItem : List Item → Type 0
NoneIsLiveItem items = AllByRecursion (λ (x : Item). is_live_body x.body ≡ false) items

-- a line is one of justice or of fairness
abbrev pub is_live : Says → Bool
is_live b = is_form is_justice b || is_form is_fair b

abbrev pub NoneIsLive : List FullLine → Type 0
NoneIsLive lines = AllByRecursion (λ (x : FullLine). is_live x.says ≡ false) lines

-- what a fault says of such a line
abbrev pub IsLineFault : FullLine → WriteFault → Type 0
IsLineFault x (fault.Justice id) = (is_form is_justice x.says ≡ true) × (x.id ≡ id)
IsLineFault x (fault.Fair id) = (is_form is_fair x.says ≡ true) × (x.id ≡ id)
IsLineFault x _ = ⊥

-- the first such line is of a kind, and has an id
pub record IsFirstLive (of_kind : Body → Bool) (lines : List FullLine) (number : ℕ) : Type 0 where
  pub before : List FullLine
  pub line : FullLine
  pub after : List FullLine
  pub is : lines ≡ before ++ line ∷ after
  pub none : NoneIsLive before
  pub kind : is_form of_kind line.says ≡ true
  pub id : line.id ≡ number

-- what a fault says of such lines
abbrev pub IsLiveFault : List FullLine → WriteFault → Type 0
IsLiveFault lines (fault.Justice id) = IsFirstLive is_justice lines id
IsLiveFault lines (fault.Fair id) = IsFirstLive is_fair lines id
IsLiveFault lines _ = ⊥

-- ---- circles

-- what a fault says where lines are put in order
abbrev pub IsOrderFault : List FullLine → WriteFault → Type 0
IsOrderFault full (fault.Circle id) = IsCircle full id
IsOrderFault full fault.NoMemory = Unit {0}
IsOrderFault full _ = ⊥

-- ---- all of them

-- the fault of what is wanting where lines are added
abbrev pub fault_of : Shortage → WriteFault
fault_of shortage.TooManyItems = fault.TooManyItems
fault_of shortage.NoMemory = fault.NoMemory

-- Why a model is not written out: a line of justice or of fairness is the first of both, or a line depends on itself. Else memory or room for items is wanting.
abbrev pub IsUnwritten : List FullLine → WriteFault → Type 0
IsUnwritten full (fault.Justice id) = IsLiveFault full (fault.Justice id)
IsUnwritten full (fault.Fair id) = IsLiveFault full (fault.Fair id)
IsUnwritten full (fault.Circle id) = IsCircle full id
IsUnwritten full fault.TooManyItems = Unit {0}
IsUnwritten full fault.NoMemory = Unit {0}
