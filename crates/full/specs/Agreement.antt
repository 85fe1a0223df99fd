-- Which lines agree with those before them ("Btor2, BtorMC and Boolector 3.0", table of operators): operators of words take words alone; `eq`, `neq`, `ite`,
-- `init`, `next` and `output`, inputs and states also arrays, of one sort; the init of an array may be a word of its element's sort.
use Rattle.std.specs.Prelude.{◌≡◌, ℕ, Bool, true, false, not, List, [], ◌∷◌, ◌++◌, Option, Some, None, IfSome, is_some, option_map, unwrap_or, nat_le, ◌⊎◌}
use Rattle.std.specs.List.{AllByRecursion}
use Rattle.base.specs.declared.operators.Binary.TheVariants as binary
use Rattle.btor2.specs.declared.item.Body.{Body}
use Rattle.btor2.specs.declared.item.Body.TheVariants as body
use Rattle.btor2.specs.Items.{named_sort, operands, is_state}
use Rattle.btor2.specs.Check.{is_no_slice, widths_agree}
use Rattle.wide.specs.WideModels.{greatest_width, constant_fits_within}
use Rattle.full.specs.Lines.{Operand, Says, form, array_sort, read, write, FullLine, operands_of, Sort, words, arrays, find_line, bits_at, sort_at, sort_named, sort_of_node, size_of, width_of, is_form, init_of, next_of}

-- a sort of words
abbrev pub is_words : Option Sort → Bool
is_words (Some (words n)) = true
is_words _ = false

-- the sort of an array's elements
abbrev pub element_sort : Option Sort → Option Sort
element_sort (Some (arrays k n)) = Some (words n)
element_sort _ = None

-- all that a form names is of words
abbrev pub AreOfWords : List FullLine → Body → Type 0
AreOfWords lines b = (is_words (sort_at lines (unwrap_or (named_sort b) 0)) ≡ true) × AllByRecursion (λ a. is_words (sort_of_node lines a) ≡ true) (operands b)

-- the sorts that a form asks for
abbrev pub SortsAgree : List FullLine → Body → Type 0
SortsAgree lines (body.Sort n) = nat_le 1 n ≡ true
SortsAgree lines (body.Input s) = Unit {0}
SortsAgree lines (body.State s) = Unit {0}
SortsAgree lines (body.Binary binary.Eq s a b) = (is_words (sort_at lines s) ≡ true) × (sort_of_node lines a ≡ sort_of_node lines b)
SortsAgree lines (body.Binary binary.Neq s a b) = (is_words (sort_at lines s) ≡ true) × (sort_of_node lines a ≡ sort_of_node lines b)
SortsAgree lines (body.Ite s c t e) = (is_words (sort_of_node lines c) ≡ true) × (sort_of_node lines t ≡ sort_at lines s) × (sort_of_node lines e ≡ sort_at lines s)
SortsAgree lines (body.Init s t v) = (sort_of_node lines t ≡ sort_at lines s) × ((sort_of_node lines v ≡ sort_at lines s) ⊎ (sort_of_node lines v ≡ element_sort (sort_at lines s)))
SortsAgree lines (body.Next s t v) = (sort_of_node lines t ≡ sort_at lines s) × (sort_of_node lines v ≡ sort_at lines s)
SortsAgree lines (body.Output a) = Unit {0}
SortsAgree lines (body.Bad a) = sort_of_node lines a ≡ Some (words 1)
SortsAgree lines (body.Constraint a) = sort_of_node lines a ≡ Some (words 1)
SortsAgree lines (body.Fair a) = sort_of_node lines a ≡ Some (words 1)
SortsAgree lines (body.Justice nodes) = AllByRecursion (λ a. sort_of_node lines a ≡ Some (words 1)) nodes
SortsAgree lines b = AreOfWords lines b

-- the widths, which an init by a word of an array's element need not meet, and the bits of a slice
abbrev pub WidthsAgree : List FullLine → Body → Type 0
WidthsAgree lines (body.Init s t v) = Unit {0}
WidthsAgree lines (body.Slice s a u l) = (widths_agree (λ k. size_of (sort_at lines k)) (width_of lines) (body.Slice s a u l) ≡ true) × (is_no_slice (width_of lines a) u l ≡ false)
WidthsAgree lines b = widths_agree (λ k. size_of (sort_at lines k)) (width_of lines) b ≡ true

-- an id is that of a state
abbrev pub names_full_state : List FullLine → ℕ → Bool
names_full_state lines id = unwrap_or (option_map (λ (x : FullLine). is_form is_state x.says) (find_line lines id)) false

-- the first of some operands stands without a minus
abbrev pub first_is_plain : List Bool → Bool
first_is_plain [] = true
first_is_plain (minus ∷ minuses) = not minus

-- an init and a next are those of a state, without a minus, which has none before
abbrev pub IsOfState : List FullLine → Body → List Bool → Type 0
IsOfState lines (body.Init s t v) minuses = (names_full_state lines t ≡ true) × (first_is_plain minuses ≡ true) × (init_of lines t ≡ None)
IsOfState lines (body.Next s t v) minuses = (names_full_state lines t ≡ true) × (first_is_plain minuses ≡ true) × (next_of lines t ≡ None)
IsOfState lines b minuses = Unit {0}

-- what a line asks of those before it
abbrev pub SaysAgree : List FullLine → Says → Type 0
SaysAgree lines (form b minuses) =
    SortsAgree lines b × WidthsAgree lines b × (constant_fits_within greatest_width (size_of (sort_at lines (unwrap_or (named_sort b) 0))) b ≡ true) × IsOfState lines b minuses
SaysAgree lines (array_sort index element) = (is_some (bits_at lines index) ≡ true) × (is_some (bits_at lines element) ≡ true)
SaysAgree lines (read s array index) =
    (k n : ℕ) × (sort_at lines s ≡ Some (words n)) × (sort_of_node lines array ≡ Some (arrays k n)) × (sort_of_node lines index.id ≡ Some (words k))
SaysAgree lines (write s array index word) =
    (k n : ℕ) × (sort_at lines s ≡ Some (arrays k n)) × (sort_of_node lines array ≡ Some (arrays k n)) × (sort_of_node lines index.id ≡ Some (words k)) × (sort_of_node lines word.id ≡ Some (words n))

-- its id is new, its sort and its operands are there, and what stands with a minus is a word
pub record LineAgrees (before : List FullLine) (x : FullLine) : Type 0 where
  pub fresh : find_line before x.id ≡ None
  pub sort : IfSome (sort_named x.says) (λ s. is_some (sort_at before s) ≡ true)
  pub nodes : AllByRecursion (λ (o : Operand). is_some (sort_of_node before o.id) ≡ true) (operands_of x.says)
  pub minuses : AllByRecursion (λ (o : Operand). o.minus ≡ true → is_words (sort_of_node before o.id) ≡ true) (operands_of x.says)
  pub agrees : SaysAgree before x.says

-- a model: each line agrees with those before it
abbrev pub IsFullAfter : List FullLine → List FullLine → Type 0
IsFullAfter before [] = Unit {0}
IsFullAfter before (x ∷ xs) = LineAgrees before x × IsFullAfter (before ++ x ∷ []) xs

abbrev pub IsFullModel : List FullLine → Type 0
IsFullModel lines = IsFullAfter [] lines
