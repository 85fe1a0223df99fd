-- The words of operators and of line forms ("Btor2, BtorMC and Boolector 3.0", syntax and table of operators).
use Rattle.std.specs.Prelude.{ℕ, List, [], ◌∷◌, ◌||◌, Option, Some, None, Result, Ok, Err, codes, if◌then◌else◌, option_map}
use Rattle.std.specs.Str.{bytes_eq}
use Rattle.std.specs.Option.{option_or}
use Rattle.base.specs.declared.operators.Unary.{Unary}
use Rattle.base.specs.declared.operators.Unary.TheVariants as unary
use Rattle.base.specs.declared.operators.Binary.{Binary}
use Rattle.base.specs.declared.operators.Binary.TheVariants as binary
use Rattle.btor2text.specs.declared.fault.Why.{Why}
use Rattle.btor2text.specs.declared.fault.Why.TheVariants as why
use Rattle.btor2text.specs.declared.forms.Form.{Form}
use Rattle.btor2text.specs.declared.forms.Form.TheVariants as form
use Rattle.btor2text.specs.declared.forms.Leaf.TheVariants as leaf
use Rattle.btor2text.specs.declared.forms.Constant.TheVariants as constant
use Rattle.btor2text.specs.declared.forms.Extension.TheVariants as extension
use Rattle.btor2text.specs.declared.forms.Link.TheVariants as link
use Rattle.btor2text.specs.declared.forms.Property.TheVariants as property

-- the word of an operator of one operand
abbrev pub unary_name : Unary → List ℕ
unary_name unary.Not = codes "not"
unary_name unary.Inc = codes "inc"
unary_name unary.Dec = codes "dec"
unary_name unary.Neg = codes "neg"
unary_name unary.Redand = codes "redand"
unary_name unary.Redor = codes "redor"
unary_name unary.Redxor = codes "redxor"

-- the word of an operator of two operands
abbrev pub binary_name : Binary → List ℕ
binary_name binary.Iff = codes "iff"
binary_name binary.Implies = codes "implies"
binary_name binary.Eq = codes "eq"
binary_name binary.Neq = codes "neq"
binary_name binary.Ugt = codes "ugt"
binary_name binary.Ugte = codes "ugte"
binary_name binary.Ult = codes "ult"
binary_name binary.Ulte = codes "ulte"
binary_name binary.Sgt = codes "sgt"
binary_name binary.Sgte = codes "sgte"
binary_name binary.Slt = codes "slt"
binary_name binary.Slte = codes "slte"
binary_name binary.And = codes "and"
binary_name binary.Nand = codes "nand"
binary_name binary.Or = codes "or"
binary_name binary.Nor = codes "nor"
binary_name binary.Xor = codes "xor"
binary_name binary.Xnor = codes "xnor"
binary_name binary.Rol = codes "rol"
binary_name binary.Ror = codes "ror"
binary_name binary.Sll = codes "sll"
binary_name binary.Srl = codes "srl"
binary_name binary.Sra = codes "sra"
binary_name binary.Add = codes "add"
binary_name binary.Sub = codes "sub"
binary_name binary.Mul = codes "mul"
binary_name binary.Udiv = codes "udiv"
binary_name binary.Sdiv = codes "sdiv"
binary_name binary.Urem = codes "urem"
binary_name binary.Srem = codes "srem"
binary_name binary.Smod = codes "smod"
binary_name binary.Uaddo = codes "uaddo"
binary_name binary.Saddo = codes "saddo"
binary_name binary.Usubo = codes "usubo"
binary_name binary.Ssubo = codes "ssubo"
binary_name binary.Umulo = codes "umulo"
binary_name binary.Smulo = codes "smulo"
binary_name binary.Sdivo = codes "sdivo"

-- the word of a form
abbrev pub form_name : Form → List ℕ
form_name form.Sort = codes "sort"
form_name (form.Leaf leaf.Input) = codes "input"
form_name (form.Leaf leaf.State) = codes "state"
form_name (form.Leaf leaf.Zero) = codes "zero"
form_name (form.Leaf leaf.One) = codes "one"
form_name (form.Leaf leaf.Ones) = codes "ones"
form_name (form.Constant constant.Const) = codes "const"
form_name (form.Constant constant.Constd) = codes "constd"
form_name (form.Constant constant.Consth) = codes "consth"
form_name (form.Extension extension.Uext) = codes "uext"
form_name (form.Extension extension.Sext) = codes "sext"
form_name form.Slice = codes "slice"
form_name (form.Unary op) = unary_name op
form_name (form.Binary op) = binary_name op
form_name form.Concat = codes "concat"
form_name form.Ite = codes "ite"
form_name (form.Link link.Init) = codes "init"
form_name (form.Link link.Next) = codes "next"
form_name (form.Property property.Bad) = codes "bad"
form_name (form.Property property.Constraint) = codes "constraint"
form_name (form.Property property.Fair) = codes "fair"
form_name (form.Property property.Output) = codes "output"
form_name form.Justice = codes "justice"

-- the first of some things whose name is a word
abbrev pub named : {A : Type 0} → (A → List ℕ) → List ℕ → List A → Option A
named name word [] = None
named name word (x ∷ xs) = if bytes_eq word (name x) then Some x else named name word xs

-- the operators: of one operand; of two, that are tests, that go by bits (on each pair of bits, rotations and shifts), and of arithmetic with its tests for overflows
abbrev pub unaries : List Unary
unaries = unary.Not ∷ unary.Inc ∷ unary.Dec ∷ unary.Neg ∷ unary.Redand ∷ unary.Redor ∷ unary.Redxor ∷ []

abbrev pub tests : List Binary
tests = binary.Iff ∷ binary.Implies ∷ binary.Eq ∷ binary.Neq ∷ binary.Ugt ∷ binary.Ugte ∷ binary.Ult ∷ binary.Ulte ∷ binary.Sgt ∷ binary.Sgte ∷ binary.Slt ∷ binary.Slte ∷ []

abbrev pub bitwise : List Binary
bitwise = binary.And ∷ binary.Nand ∷ binary.Or ∷ binary.Nor ∷ binary.Xor ∷ binary.Xnor ∷ binary.Rol ∷ binary.Ror ∷ binary.Sll ∷ binary.Srl ∷ binary.Sra ∷ []

abbrev pub arithmetic : List Binary
arithmetic =
    binary.Add ∷ binary.Sub ∷ binary.Mul ∷ binary.Udiv ∷ binary.Sdiv ∷ binary.Urem ∷ binary.Srem ∷ binary.Smod
    ∷ binary.Uaddo ∷ binary.Saddo ∷ binary.Usubo ∷ binary.Ssubo ∷ binary.Umulo ∷ binary.Smulo ∷ binary.Sdivo ∷ []

-- the forms that are no operators of one or of two operands alike: nodes without operands, and all others
abbrev pub plain_forms : List Form
plain_forms =
    form.Leaf leaf.Input ∷ form.Leaf leaf.State ∷ form.Leaf leaf.Zero ∷ form.Leaf leaf.One ∷ form.Leaf leaf.Ones
    ∷ form.Constant constant.Const ∷ form.Constant constant.Constd ∷ form.Constant constant.Consth
    ∷ form.Sort ∷ form.Extension extension.Uext ∷ form.Extension extension.Sext ∷ form.Slice ∷ form.Concat ∷ form.Ite ∷ form.Link link.Init ∷ form.Link link.Next
    ∷ form.Property property.Bad ∷ form.Property property.Constraint ∷ form.Property property.Fair ∷ form.Property property.Output ∷ form.Justice ∷ []

-- the operator of one operand that a word names
unfoldable pub unary_of : List ℕ → Option Unary
unary_of word = named unary_name word unaries

-- the operator of two operands that a word names
unfoldable pub binary_of : List ℕ → Option Binary
binary_of word = option_or (named binary_name word tests) (option_or (named binary_name word bitwise) (named binary_name word arithmetic))

-- the form that a word names
unfoldable pub form_named : List ℕ → Option Form
form_named word =
    option_or (named form_name word plain_forms)
    (option_or (option_map (λ op. form.Unary op) (unary_of word)) (option_map (λ op. form.Binary op) (binary_of word)))

-- why a word names no form: it is of arrays, or unknown
unfoldable pub no_form : List ℕ → Why
no_form word = if bytes_eq word (codes "read") || bytes_eq word (codes "write") then why.ArrayOperator else why.UnknownOperator

-- the form of a word, given the form that it names, where it names one
abbrev pub known_form : List ℕ → Option Form → Result Form Why
known_form word None = Err (no_form word)
known_form word (Some f) = Ok f

-- the form of a word
unfoldable pub form_of : List ℕ → Result Form Why
form_of word = known_form word (form_named word)
