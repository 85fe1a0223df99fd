-- What the lines of a list ask of the nodes that are kept.
use Rattle.std.proofs.Common.{◌≡◌, ℕ, ◌≤◌, Bool, true, false, cond, ◌==◌, eqb-true, List, [], ◌∷◌, length, get_or, Result, Ok, Err, OnOk, Option, Some, IfSome, is_some, unwrap_or, refl, sym, ap, ◌∙◌, arith}
use Rattle.std.specs.List.{AllByRecursion}
use Rattle.btor2.specs.declared.item.Item.{Item}
use Rattle.btor2.specs.declared.item.Body.{Body}
use Rattle.btor2.specs.declared.item.Body.TheVariants as body
use Rattle.btor2.specs.Items.{named_sort, node_width, sort_width, constant_word}
use Rattle.btor2.specs.Check.{sort_is_missing}
use Rattle.fit.proofs.FrameLemmas.{operands_there}
use Rattle.pieces.specs.declared.node.Node.{Node}
use Rattle.pieces.specs.Lines.{is_plain, named}
use Rattle.pieces.specs.Nodes.{bits_in}
use Rattle.pieces.specs.Cuts.{IsWord}
use Rattle.fitting.specs.Forms.{is_operator}
use Rattle.fitting.specs.Fitted.{Table, most_bits, IsSoundLine, AreConstantsOf, IsFitted}
use Rattle.fitting.specs.Steps.{leaf_body}
use Rattle.fitting.proofs.AssemblyLemmas.{named_word}
use Rattle.fitting.proofs.ValueLemmas.{sort_kept, HasWords}
use Rattle.fitting.proofs.SoundLemmas.{operand, agree}
use Rattle.fitting.proofs.OperatorLemmas.{bit_alone}
use Rattle.fitting.proofs.ConstantLemmas.{named_there}

pub ok_then : {A E : Type 0} (P Q : Type 0) (r : Result A E) → (P → Q) → OnOk r P → OnOk r Q
ok_then P Q (Ok x) f h = f h
ok_then P Q (Err e) f h = h

pub put_as : (words words' : ℕ → List Node) (id : ℕ) (ps qs : List Node) → ps ≡ qs → ((k : ℕ) → words' k ≡ cond (id == k) ps (words k)) → HasWords words words' id qs
put_as words words' id ps qs same put k = put k ∙ ap (λ (l : List Node). cond (id == k) l (words k)) same

-- a sort that a line names
pub record SortOf (wide : List Item) (table : Table) (s : ℕ) : Type 0 where
  pub bits : ℕ
  pub is : sort_width wide s ≡ Some bits
  pub own : unwrap_or (sort_width wide s) 0 ≡ bits
  pub kept : unwrap_or (table.sorts s) 0 ≡ bits
  pub least : 1 ≤ bits
  pub most : bits ≤ most_bits

pub sort_of : (wide : List Item) (table : Table) (narrow : List Item) (b : Body) (s : ℕ) → IsFitted wide table narrow → named_sort b ≡ Some s → sort_is_missing wide b ≡ false → SortOf wide table s
sort_of wide table narrow b s h names there =
    let is = named_there wide b s names there in
    let kept = sort_kept wide table narrow s (unwrap_or (sort_width wide s) 0) h.stand is in
    record { bits = unwrap_or (sort_width wide s) 0; is = is; own = refl; kept = ap (λ (o : Option ℕ). unwrap_or o 0) kept.0; least = kept.1.0; most = kept.1.1 }

pub leaf_named : (input : Bool) (s : ℕ) → named_sort (leaf_body input s) ≡ Some s
leaf_named true s = refl
leaf_named false s = refl

-- a word of one bit that a line names
pub record OneNode (narrow : List Item) (ps : List Node) : Type 0 where
  pub word : IsWord narrow ps
  pub bit : bits_in ps ≡ 1
  pub one : length ps ≡ 1

one_of : (wide : List Item) (x : Item) (table : Table) (narrow : List Item) (a : ℕ) → IsFitted wide table narrow → AllByRecursion (λ k. is_some (node_width wide k) ≡ true) (a ∷ []) → (unwrap_or (node_width wide a) 0 == 1) ≡ true → OneNode narrow (table.words a)
one_of wide x table narrow a h there agrees =
    let own = operand wide x table narrow a h.stand there.0 in
    let bit = sym own.bits ∙ eqb-true _ _ agrees in
    record { word = own.word; bit = bit; one = bit_alone (table.words a) own.word.cut bit }

pub bad_node : (wide : List Item) (table : Table) (narrow : List Item) (id a : ℕ) (symbol : Option (List ℕ)) → IsFitted wide table narrow → IsSoundLine wide (named id symbol (body.Bad a)) → OneNode narrow (table.words a)
bad_node wide table narrow id a symbol h sound = one_of wide (named id symbol (body.Bad a)) table narrow a h (operands_there wide (body.Bad a) sound.operands) (agree wide (body.Bad a) sound.widths)

pub constraint_node : (wide : List Item) (table : Table) (narrow : List Item) (id a : ℕ) (symbol : Option (List ℕ)) → IsFitted wide table narrow → IsSoundLine wide (named id symbol (body.Constraint a)) → OneNode narrow (table.words a)
constraint_node wide table narrow id a symbol h sound = one_of wide (named id symbol (body.Constraint a)) table narrow a h (operands_there wide (body.Constraint a) sound.operands) (agree wide (body.Constraint a) sound.widths)

pub output_word : (wide : List Item) (table : Table) (narrow : List Item) (id a : ℕ) (symbol : Option (List ℕ)) → IsFitted wide table narrow → IsSoundLine wide (named id symbol (body.Output a)) → IsWord narrow (table.words a)
output_word wide table narrow id a symbol h sound = named_word wide table narrow a h.stand (operands_there wide (body.Output a) sound.operands).0

pub single : (ps : List Node) (d : Node) → length ps ≡ 1 → ps ≡ get_or ps 0 d ∷ []
single [] d h = absurd (omega (arith, h))
single (p ∷ []) d h = refl
single (p ∷ q ∷ more) d h = absurd (omega (arith, h))

pub operator_plain : (b : Body) → is_operator b ≡ true → is_plain b ≡ true
operator_plain (body.Uext s a by) h = refl
operator_plain (body.Sext s a by) h = refl
operator_plain (body.Slice s a u l) h = refl
operator_plain (body.Unary op s a) h = refl
operator_plain (body.Binary op s a b) h = refl
operator_plain (body.Concat s a b) h = refl
operator_plain (body.Ite s c t e) h = refl
operator_plain _ h = absurd (cc)

pub operator_no_constant : (narrow : List Item) (n : ℕ) (rs : List Node) (b : Body) → is_operator b ≡ true → IfSome (constant_word n b) (λ w. AreConstantsOf narrow w rs)
operator_no_constant narrow n rs (body.Zero s) h = absurd (cc)
operator_no_constant narrow n rs (body.One s) h = absurd (cc)
operator_no_constant narrow n rs (body.Ones s) h = absurd (cc)
operator_no_constant narrow n rs (body.Const s d v) h = absurd (cc)
operator_no_constant narrow n rs (body.Constd s v) h = absurd (cc)
operator_no_constant narrow n rs (body.Consth s d v) h = absurd (cc)
operator_no_constant narrow n rs _ h = tt

-- no lines are fitted
pub none_fitted : (table : Table) → IsFitted [] table []
none_fitted table = record { ordered = tt; stand = tt; owned = λ id none. refl; leaves = refl; no_inits = tt; no_nexts = tt; outputs = refl; bads = refl; constraints = refl; output_names = refl; bad_names = refl; constraint_names = refl }
