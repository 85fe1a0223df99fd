-- The numbers of an item that a model accepts are small: sorts and operands are ids of earlier items, which are
-- from 1 to the greatest id, and a width is at most 64.
use Rattle.std.proofs.Common.{◌≡◌, ℕ, zero, suc, ◌+◌, ◌-◌, ◌^◌, ◌≤◌, ◌<◌, true, ◌&&◌, nat_le, nat_lt, ◌==◌, List, [], ◌∷◌, ℤ, pos, negsuc, neg_ℤ, Some, None, lit<, arith}
use Rattle.std.specs.Prelude.{int_le, int_lt}
use Rattle.std.proofs.Math.Nat.{pow-le-pow_right}
use Rattle.std.proofs.lemmas.Nat.{pow_pos}
use Rattle.std.proofs.lemmas.Bool.{and_parts, eqb-true, leb-true, ltb-true}
use Rattle.btor2.specs.declared.item.Item.{Item}
use Rattle.btor2.specs.declared.item.Body.{Body}
use Rattle.btor2.specs.declared.item.Body.TheVariants as body
use Rattle.btor2.specs.Items.{find_item, sort_bits, width_of_body, operands}
use Rattle.btor2.specs.Check.{refusal, IsWellFormed}
use Rattle.btor2.proofs.AppendLemmas.{then_parts}
use Rattle.btor2.proofs.AcceptedLemmas.{Each, HasSort, HasWidth, BodyIsAccepted, IsAccepted-from_refusal}
use Rattle.btor2.proofs.ModelLemmas.{IsIn-from_find, IsAccepted-at, sort_width-range, node_width-range}

-- a number that an item may have as its id
abbrev pub IsId : ℕ → Type 0
IsId n = (1 ≤ n) × (n ≤ 4294967295)

-- a number with a sign that is told as itself
abbrev pub SignedFits : ℤ → Type 0
SignedFits (pos n) = n < 2 ^ 64
SignedFits (negsuc n) = suc n < 2 ^ 64

-- the ids that a body names are ids, and its other numbers are small
abbrev pub BodyFits : Body → Type 0
BodyFits (body.Sort n) = n ≤ 64
BodyFits (body.Input s) = IsId s
BodyFits (body.State s) = IsId s
BodyFits (body.Zero s) = IsId s
BodyFits (body.One s) = IsId s
BodyFits (body.Ones s) = IsId s
BodyFits (body.Const s d v) = IsId s × (1 ≤ d) × (d ≤ 64) × (v < 2 ^ d)
BodyFits (body.Constd s v) = IsId s × SignedFits v
BodyFits (body.Consth s d v) = IsId s × (1 ≤ d) × (d ≤ 16) × (v < 16 ^ d)
BodyFits (body.Uext s a w) = IsId s × IsId a × (w ≤ 64)
BodyFits (body.Sext s a w) = IsId s × IsId a × (w ≤ 64)
BodyFits (body.Slice s a u l) = IsId s × IsId a × (u ≤ 64) × (l ≤ 64)
BodyFits (body.Unary op s a) = IsId s × IsId a
BodyFits (body.Binary op s a b) = IsId s × IsId a × IsId b
BodyFits (body.Concat s a b) = IsId s × IsId a × IsId b
BodyFits (body.Ite s c t e) = IsId s × IsId c × IsId t × IsId e
BodyFits (body.Init s t v) = IsId s × IsId t × IsId v
BodyFits (body.Next s t v) = IsId s × IsId t × IsId v
BodyFits (body.Bad a) = IsId a
BodyFits (body.Constraint a) = IsId a
BodyFits (body.Fair a) = IsId a
BodyFits (body.Output a) = IsId a
BodyFits (body.Justice nodes) = Each IsId nodes

pub record Fits (x : Item) : Type 0 where
  pub id : IsId x.id
  pub body : BodyFits x.body

-- what names an item of a model is its id
found_is_id : (items : List Item) (id : ℕ) (x : Item) → IsWellFormed items → find_item items id ≡ Some x → IsId id
found_is_id items id x h e =
    let there = IsIn-from_find items id x e in
    let accepted = IsAccepted-at items x h there.0 in
    (omega (arith, accepted.least, there.1), omega (arith, accepted.greatest, there.1))

sort_is_id : (items : List Item) (s : ℕ) → IsWellFormed items → HasSort items s → IsId s
sort_is_id items s h has = let found = then_parts (λ x. sort_bits x.body) (find_item items s) has.0 has.1 in found_is_id items s found.0 h found.1

node_is_id : (items : List Item) (a : ℕ) → IsWellFormed items → HasWidth items a → IsId a
node_is_id items a h has = let found = then_parts (λ x. width_of_body items x.body) (find_item items a) has.0 has.1 in found_is_id items a found.0 h found.1

nodes_are_ids : (items : List Item) (nodes : List ℕ) → IsWellFormed items → Each (HasWidth items) nodes → Each IsId nodes
nodes_are_ids items [] h each = tt
nodes_are_ids items (a ∷ more) h each = (node_is_id items a h each.0, nodes_are_ids items more h each.1)

-- a decimal from -2 ^ (n - 1) to 2 ^ n - 1 is told as itself, for n up to 64
power_least : (m : ℕ) → 1 ≤ 2 ^ m
power_least m = pow_pos m

powers : (m n : ℕ) → m ≤ n → 2 ^ m ≤ 2 ^ n
powers m n le = pow-le-pow_right (lit< tt) le

negative_fits : (m k : ℕ) → 1 ≤ m → m ≤ 2 ^ 63 → int_le (neg_ℤ (pos m)) (negsuc k) ≡ true → suc k < 2 ^ 64
negative_fits zero k least le h = absurd (omega arith)
negative_fits (suc m) k least le h = omega (arith, leb-true k m h)

signed_fits : (n : ℕ) (v : ℤ) → 1 ≤ n → n ≤ 64 → (int_le (neg_ℤ (pos (2 ^ (n - 1)))) v && int_lt v (pos (2 ^ n))) ≡ true → SignedFits v
signed_fits n (pos k) least most h =
    let parts = and_parts (int_le (neg_ℤ (pos (2 ^ (n - 1)))) (pos k)) (int_lt (pos k) (pos (2 ^ n))) h in
    omega (arith, ltb-true k (2 ^ n) parts.1, powers n 64 most)
signed_fits n (negsuc k) least most h =
    let parts = and_parts (int_le (neg_ℤ (pos (2 ^ (n - 1)))) (negsuc k)) (int_lt (negsuc k) (pos (2 ^ n))) h in
    let half : 2 ^ (n - 1) ≤ 2 ^ 63 = powers (n - 1) 63 (omega (arith, most)) in
    negative_fits (2 ^ (n - 1)) k (power_least (n - 1)) half parts.0

-- digits that fit a sort
binary_fits : (n d v : ℕ) → 1 ≤ n → n ≤ 64 → ((d == n) && nat_lt v (2 ^ d)) ≡ true → (1 ≤ d) × (d ≤ 64) × (v < 2 ^ d)
binary_fits n d v least most h =
    let parts = and_parts (d == n) (nat_lt v (2 ^ d)) h in
    (omega (arith, eqb-true d n parts.0, least), omega (arith, eqb-true d n parts.0, most), ltb-true v (2 ^ d) parts.1)

hexadecimal_fits : (n d v : ℕ) → (nat_le 1 d && (nat_le d 16 && (nat_lt v (2 ^ n) && nat_lt v (16 ^ d)))) ≡ true → (1 ≤ d) × (d ≤ 16) × (v < 16 ^ d)
hexadecimal_fits n d v h =
    let a = and_parts (nat_le 1 d) (nat_le d 16 && (nat_lt v (2 ^ n) && nat_lt v (16 ^ d))) h in
    let b = and_parts (nat_le d 16) (nat_lt v (2 ^ n) && nat_lt v (16 ^ d)) a.1 in
    let c = and_parts (nat_lt v (2 ^ n)) (nat_lt v (16 ^ d)) b.1 in
    (leb-true 1 d a.0, leb-true d 16 b.0, ltb-true v (16 ^ d) c.1)

body_fits : (before : List Item) (b : Body) → IsWellFormed before → BodyIsAccepted before b → Each (HasWidth before) (operands b) → BodyFits b
body_fits before (body.Sort n) h says nodes = says.1
body_fits before (body.Input s) h says nodes = sort_is_id before s h says
body_fits before (body.State s) h says nodes = sort_is_id before s h says
body_fits before (body.Zero s) h says nodes = sort_is_id before s h says
body_fits before (body.One s) h says nodes = sort_is_id before s h says
body_fits before (body.Ones s) h says nodes = sort_is_id before s h says
body_fits before (body.Const s d v) h says nodes =
    let range = sort_width-range before s says.0 h says.1 in
    let digits = binary_fits says.0 d v range.0 range.1 says.2 in
    (sort_is_id before s h (says.0, says.1), digits.0, digits.1, digits.2)
body_fits before (body.Constd s v) h says nodes =
    let range = sort_width-range before s says.0 h says.1 in
    (sort_is_id before s h (says.0, says.1), signed_fits says.0 v range.0 range.1 says.2)
body_fits before (body.Consth s d v) h says nodes =
    let digits = hexadecimal_fits says.0 d v says.2 in
    (sort_is_id before s h (says.0, says.1), digits.0, digits.1, digits.2)
body_fits before (body.Uext s a w) h says nodes = (sort_is_id before s h (_, says.2), node_is_id before a h nodes.0, omega (arith, (sort_width-range before s (says.0 + w) h says.2).1))
body_fits before (body.Sext s a w) h says nodes = (sort_is_id before s h (_, says.2), node_is_id before a h nodes.0, omega (arith, (sort_width-range before s (says.0 + w) h says.2).1))
body_fits before (body.Slice s a u l) h says nodes =
    let range = node_width-range before a says.0 h says.1 in
    (sort_is_id before s h (_, says.2), node_is_id before a h nodes.0, omega (arith, range.1, says.4), omega (arith, range.1, says.3, says.4))
body_fits before (body.Unary op s a) h says nodes = (sort_is_id before s h (_, says.2), node_is_id before a h nodes.0)
body_fits before (body.Binary op s a b) h says nodes = (sort_is_id before s h (_, says.3), node_is_id before a h nodes.0, node_is_id before b h nodes.1.0)
body_fits before (body.Concat s a b) h says nodes = (sort_is_id before s h (_, says.4), node_is_id before a h nodes.0, node_is_id before b h nodes.1.0)
body_fits before (body.Ite s c t e) h says nodes = (sort_is_id before s h (_, says.4), node_is_id before c h nodes.0, node_is_id before t h nodes.1.0, node_is_id before e h nodes.1.1.0)
body_fits before (body.Init s t v) h says nodes = (sort_is_id before s h (_, says.2), node_is_id before t h nodes.0, node_is_id before v h nodes.1.0)
body_fits before (body.Next s t v) h says nodes = (sort_is_id before s h (_, says.1), node_is_id before t h nodes.0, node_is_id before v h nodes.1.0)
body_fits before (body.Bad a) h says nodes = node_is_id before a h nodes.0
body_fits before (body.Constraint a) h says nodes = node_is_id before a h nodes.0
body_fits before (body.Fair a) h says nodes = node_is_id before a h nodes.0
body_fits before (body.Output a) h says nodes = node_is_id before a h nodes.0
body_fits before (body.Justice ids) h says nodes = nodes_are_ids before ids h nodes

-- the numbers of an accepted item are those that stand for themselves alone
pub accepted_fits : (before : List Item) (x : Item) → IsWellFormed before → refusal before x ≡ None → Fits x
accepted_fits before x h e =
    let accepted = IsAccepted-from_refusal before x e in
    record { id = (accepted.least, accepted.greatest); body = body_fits before x.body h accepted.says accepted.nodes }
