use Rattle.std.proofs.Common.{◌≡◌, ℕ, cond, nat_eq, List, [], ◌∷◌, ◌++◌, append-nil, Option, Some, None, get_or, unwrap_or, refl, sym, ap, subst, ◌∙◌, arith}
use Rattle.std.specs.Fmt.{digits}
use Rattle.std.specs.List.{AllByRecursion, AllZip}
use Rattle.btor2.specs.declared.item.Item.{Item}
use Rattle.btor2.specs.declared.item.Body.TheVariants as body
use Rattle.btor2.specs.Check.{id_is_out_of_range, id_is_taken, sort_is_missing, operand_is_missing, state_is_none, widths_differ, init_is_not_constant, is_second_init, is_second_next, slice_is_out_of_range, justice_is_empty}
use Rattle.btor2.specs.Trace.{bits_of}
use Rattle.wide.specs.WideModels.{greatest_width, wide_refusal, width_is_above, constant_is_above, IsWideModel}
use Rattle.fit.specs.Fitting.{Layout, NamesEarlierAfter, IsFittingOf}
use Rattle.fit.proofs.LineLemmas.{carries_no_word, carries_state}
use Rattle.fitting.specs.Names.{IsNamed}
use Rattle.celled.specs.Celled.{IsCelledOf}
use Rattle.celled.specs.Names.{cell_symbol, cell_names}
use Rattle.celled.specs.Worked.{line, memory, memory_named, memory_celled, name, low_name, high_name}
use Rattle.celled.proofs.laws.worked_cells.Goals as goal

-- the cells of the memory
abbrev cells : Layout
cells id = cond (nat_eq id 2) (2 ∷ 3 ∷ []) []

is_model : IsWideModel greatest_width memory_celled
unfolding wide_refusal id_is_out_of_range id_is_taken sort_is_missing operand_is_missing state_is_none width_is_above widths_differ init_is_not_constant is_second_init is_second_next slice_is_out_of_range constant_is_above justice_is_empty
is_model = (refl, (refl, (refl, tt)))

in_order : NamesEarlierAfter [] memory
unfolding operand_is_missing
in_order = (refl, (refl, tt))

fits : IsFittingOf memory cells memory_celled
fits =
    record {
      ordered = in_order;
      well_formed = is_model;
      given = refl;
      carried = refl;
      given_widths = (refl, tt);
      carried_widths = tt;
      lines = (carries_no_word memory memory_celled cells (line 1 None (body.Sort 4)) (λ state input f. refl), (carries_state memory memory_celled cells (line 2 (Some name) (body.State 1)) refl ((refl, refl), ((refl, refl), tt)), tt));
      inits = (tt, (tt, tt));
      no_other_inits = tt;
      nexts = tt;
      outputs = ([], refl, tt);
      bads = refl;
      constraints = refl;
    }

names : AllZip (IsNamed memory_celled) (cells 2) (cell_names (Some name) (cells 2))
unfolding digits
names = ((line 2 (Some low_name) _, refl, refl), ((line 3 (Some high_name) _, refl, refl), tt))

pub returns-clause-celled : goal.returns-clause-celled
returns-clause-celled c =
    record {
      layout = cells;
      fits = fits;
      input_leaves = refl;
      state_leaves = refl;
      input_cells = tt;
      state_cells = ((refl, (refl, tt)), tt);
      leaf_names = (λ e. absurd (cc), ((λ e. names), tt));
      bad_names = refl;
      constraint_names = refl;
      output_names = refl;
      forms = λ h. (refl, (refl, (refl, tt)));
      nexts = λ h. refl;
    }

-- which cells the state has in a list of its states
cells_are : (celled : List Item) (ids : List ℕ) (h : IsCelledOf memory [] (2 ∷ []) celled) → h.layout 2 ++ [] ≡ ids → h.layout 2 ≡ ids
cells_are celled ids h e = sym (append-nil (h.layout 2)) ∙ e

symbol_of : (y z : Item) → Some y ≡ Some z → y.symbol ≡ z.symbol
symbol_of y z e = cc

names_apart : (y : Item) → Some (line 2 (Some high_name) (body.State 1)) ≡ Some y → y.symbol ≡ cell_symbol (Some name) 0 → ⊥
unfolding digits
names_apart y is named =
    let same = symbol_of (line 2 (Some high_name) (body.State 1)) y is ∙ named in
    let index : 49 ≡ 48 = ap (λ (o : Option (List ℕ)). get_or (unwrap_or o []) 4 0) same in
    absurd (omega (arith, index))

pub returns-clause-exchanged : goal.returns-clause-exchanged
returns-clause-exchanged c = λ h.
    let e = cells_are (memory_named high_name low_name) (2 ∷ 3 ∷ []) h h.state_leaves in
    let own = subst (λ (ids : List ℕ). AllZip (IsNamed (memory_named high_name low_name)) ids (cell_names (Some name) ids)) e (h.leaf_names.1.0 refl) in
    names_apart own.0.0 own.0.1 own.0.2

pub returns-clause-whole : goal.returns-clause-whole
returns-clause-whole c = λ h.
    let e = cells_are memory (2 ∷ []) h h.state_leaves in
    let own = subst (AllByRecursion (λ p. bits_of memory p ≡ 2)) e h.state_cells.0 in
    absurd (let four = own.0 in cc)

pub returns-clause-bits : goal.returns-clause-bits
returns-clause-bits c = λ h.
    let e = sym (append-nil (h.layout 2)) ∙ h.state_leaves in
    let own = subst (AllByRecursion (λ p. bits_of memory_celled p ≡ 1)) e h.state_cells.0 in
    absurd (let two = own.0 in cc)
