-- Which models are not lowered, and why.
use Rattle.std.specs.Prelude.{◌≡◌, ℕ, List, [], ◌∷◌, Option, Some, None, Result, Ok, Err, if◌then◌else◌, nat_lt, ◌⊎◌}
use Rattle.std.specs.Option.{option_or}
use Rattle.btor2.specs.declared.item.Item.{Item}
use Rattle.btor2.specs.declared.item.Body.{Body}
use Rattle.btor2.specs.declared.item.Body.TheVariants as body
use Rattle.btor2.specs.Lists.{has_init_without_next}
use Rattle.aiger.specs.Limits.{greatest_count}
use Rattle.blast.specs.Cost.{bound}
use Rattle.blast.specs.declared.fault.LowerFault.{LowerFault}
use Rattle.blast.specs.declared.fault.LowerFault.TheVariants as fault

-- what speaks against a line of a model, that of the item with an id: it is a justice line, a fairness line, or that of a state that has an init line and no next line
abbrev pub line_refusal : List Item → ℕ → Body → Option LowerFault
line_refusal items id (body.Justice nodes) = Some (fault.Justice id)
line_refusal items id (body.Fair a) = Some (fault.Fair id)
line_refusal items id (body.State s) = if has_init_without_next items id then Some (fault.NoNext id) else None
line_refusal items id _ = None

-- what speaks against the first among some items of a model, the second list, that something speaks against
abbrev pub first_refusal : List Item → List Item → Option LowerFault
first_refusal items [] = None
first_refusal items (x ∷ xs) = option_or (line_refusal items x.id x.body) (first_refusal items xs)

-- what speaks against a model by its form: against the first such item in file order
abbrev pub form_refusal : List Item → Option LowerFault
form_refusal items = first_refusal items items

-- a well-formed model is of the profile where nothing speaks against it by its form
abbrev pub IsOfProfile : List Item → Type 0
IsOfProfile items = form_refusal items ≡ None

-- a model is too big where it may take more variables than a circuit may have
abbrev pub too_big : List Item → Option LowerFault
too_big items = if nat_lt greatest_count (bound items) then Some fault.TooBig else None

-- the first refusal that applies to a model, if any: by its form, and else by its size
abbrev pub lowering_refusal : List Item → Option LowerFault
lowering_refusal items = option_or (form_refusal items) (too_big items)

-- a lowering answers the first refusal that applies, and for a model that none applies to a circuit, or want of memory
abbrev pub AnswersLowering : {T : Type 0} → Result T LowerFault → Option LowerFault → Type 0
AnswersLowering (Ok c) r = r ≡ None
AnswersLowering (Err e) r = (r ≡ Some e) ⊎ ((r ≡ None) × (e ≡ fault.NoMemory))
