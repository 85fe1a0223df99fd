-- A number that a table of all refusals has no name for is that of none.
use Rattle.std.proofs.Common.{◌≡◌, ◌≢◌, ℕ, ◌==◌, Bool, true, false, ◌||◌, ◌&&◌, List, [], ◌∷◌, Option, None, Some, IfSome, option_map, refl, sym, ap, subst, ◌∙◌, if◌then◌else◌}
use Rattle.std.specs.Str.{bytes_eq}
use Rattle.explanations.specs.Explanations.{Explains, has_row}
use Rattle.explanations.specs.declared.table.Explanation.{Explanation}
use Rattle.explanations.specs.declared.table.Part.{Part}
use Rattle.std.specs.List.{list_any}
use Rattle.capi.specs.Named.{HasEach, IsRefusalName, IsOfNone, name_among, name_listed, or_name}

-- a row that has the number, or the rows behind it, give a name
at_row : (is_number is_name later : Bool) (mine : List ℕ) (other : Option (List ℕ)) → ((is_number && is_name) || later) ≡ true → (later ≡ true → other ≢ None) → (if is_number then Some mine else other) ≢ None
at_row true is_name later mine other has behind = λ is. absurd cc
at_row false is_name later mine other has behind = behind has

named_row : (number : ℕ) (name : List ℕ) (rows : List Explanation) → has_row number name rows ≡ true → name_listed number rows ≢ None
named_row number name [] has = absurd cc
named_row number name (row ∷ rows) has = at_row (row.number == number) (bytes_eq row.name.now name) (has_row number name rows) row.name.now (name_listed number rows) has (named_row number name rows)

-- a part that has the number, or the parts behind it, give a name
at_part : (has later : Bool) (mine other : Option (List ℕ)) → (has || later) ≡ true → (has ≡ true → mine ≢ None) → (later ≡ true → other ≢ None) → or_name mine other ≢ None
at_part has later (Some name) other is here behind = λ none. absurd cc
at_part true later None other is here behind = absurd (here refl refl)
at_part false later None other is here behind = behind is

named_part : (number : ℕ) (name : List ℕ) (parts : List Part) → Explains parts number name → name_among number parts ≢ None
named_part number name [] has = absurd cc
named_part number name (part ∷ parts) has =
    at_part (has_row number name part.rows.now) (list_any (λ (p : Part). has_row number name p.rows.now) parts) (name_listed number part.rows.now) (name_among number parts) has (named_row number name part.rows.now) (named_part number name parts)

-- a number without a name is not that of a refusal that the table has
not_of : (number : ℕ) (parts : List Part) → name_among number parts ≡ None → (other : ℕ) (name : List ℕ) → Explains parts other name → other ≢ number
not_of number parts none other name has = λ is. named_part number name parts (subst (λ (n : ℕ). Explains parts n name) is has) none

of_none : (number : ℕ) (parts : List Part) → HasEach parts → name_among number parts ≡ None → IsOfNone number
of_none number parts each none = record {
  models = λ it. not_of number parts none _ _ (each.models it);
  symbols = λ it. not_of number parts none _ _ (each.symbols it);
  lowerings = λ it. not_of number parts none _ _ (each.lowerings it);
  conversions = λ it. not_of number parts none _ _ (each.conversions it);
  runs = λ it. not_of number parts none _ _ (each.runs it);
  judges = λ it. not_of number parts none _ _ (each.judges it);
  witnesses = λ it. not_of number parts none _ _ (each.witnesses it);
  gates = λ it. not_of number parts none _ _ (each.gates it);
  circuits = λ it. not_of number parts none _ _ (each.circuits it);
  lists = λ it. not_of number parts none _ _ (each.lists it);
  liftings = λ it. not_of number parts none _ _ (each.liftings it);
  engines = λ it. not_of number parts none _ _ (each.engines it);
  counterexamples = λ it. not_of number parts none _ _ (each.counterexamples it);
  dumps = λ it. not_of number parts none _ _ (each.dumps it);
  texts = λ it. not_of number parts none _ _ (each.texts it);
  proofs = λ it. not_of number parts none _ _ (each.proofs it);
  clauses = λ it. not_of number parts none _ _ (each.clauses it);
  formulas = λ it. not_of number parts none _ _ (each.formulas it);
  claims = λ it. not_of number parts none _ _ (each.claims it);
  tidying = λ it. not_of number parts none _ _ (each.tidying it);
  tests = λ it. not_of number parts none _ _ (each.tests it);
  certificates = λ it. not_of number parts none _ _ (each.certificates it);
}

pub is_name : {S : Type 0} → (f : S → List ℕ) (r : Option S) (number : ℕ) (table : List Part) → HasEach table → option_map f r ≡ name_among number table → IfSome r (λ s. IsRefusalName number (f s))
is_name f (Some s) number table each is = record { table = table; has_each = each; named = sym is }
is_name f None number table each is = tt

pub is_of_none : {S : Type 0} → (f : S → List ℕ) (r : Option S) (number : ℕ) (table : List Part) → HasEach table → option_map f r ≡ name_among number table → r ≡ None → IsOfNone number
is_of_none f r number table each is none = of_none number table each (sym is ∙ ap (option_map f) none)
