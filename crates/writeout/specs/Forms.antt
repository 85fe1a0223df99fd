-- Forms over other sorts and operands.
use Rattle.std.specs.Prelude.{ℕ, Bool, true, false, List, slice_get, unwrap_or}
use Rattle.btor2.specs.declared.item.Body.{Body}
use Rattle.btor2.specs.declared.item.Body.TheVariants as body

-- whether it is the form of a node that is no leaf
abbrev pub is_value : Body → Bool
is_value (body.Zero s) = true
is_value (body.One s) = true
is_value (body.Ones s) = true
is_value (body.Const s d v) = true
is_value (body.Constd s v) = true
is_value (body.Consth s d v) = true
is_value (body.Uext s a by) = true
is_value (body.Sext s a by) = true
is_value (body.Slice s a u l) = true
is_value (body.Unary op s a) = true
is_value (body.Binary op s a b) = true
is_value (body.Concat s a b) = true
is_value (body.Ite s c t e) = true
is_value _ = false

-- the same form, of another sort and over other operands
abbrev pub renamed : ℕ → ℕ → ℕ → ℕ → Body → Body
renamed r x y z (body.Zero s) = body.Zero r
renamed r x y z (body.One s) = body.One r
renamed r x y z (body.Ones s) = body.Ones r
renamed r x y z (body.Const s d v) = body.Const r d v
renamed r x y z (body.Constd s v) = body.Constd r v
renamed r x y z (body.Consth s d v) = body.Consth r d v
renamed r x y z (body.Uext s a by) = body.Uext r x by
renamed r x y z (body.Sext s a by) = body.Sext r x by
renamed r x y z (body.Slice s a u l) = body.Slice r x u l
renamed r x y z (body.Unary op s a) = body.Unary op r x
renamed r x y z (body.Binary op s a b) = body.Binary op r x y
renamed r x y z (body.Concat s a b) = body.Concat r x y
renamed r x y z (body.Ite s c t e) = body.Ite r x y z
renamed r x y z b = b

-- whether the operand at a place stands with a minus
abbrev pub minus_at : List Bool → ℕ → Bool
minus_at minuses k = unwrap_or (slice_get minuses k) false
