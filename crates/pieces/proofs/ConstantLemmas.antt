-- Numbers by digits, as words.
use Rattle.std.proofs.Common.{◌≡◌, ℕ, zero, suc, ◌+◌, ◌*◌, ◌/◌, ◌%◌, ◌^◌, ◌<◌, ◌≤◌, List, [], ◌∷◌, ◌++◌, length, get_or, sym, ap, ap₂, subst, ◌∙◌, arith, Some, pow_pos}
use Rattle.std.proofs.Math.Nat.{div-one}
use Rattle.std.proofs.lemmas.Nat.{mod-pow-add, mod_below}
use Rattle.base.specs.Operator.{concat_value}
use Rattle.btor2.specs.declared.item.Item.{Item}
use Rattle.btor2.specs.Items.{constant_of}
use Rattle.btor2.proofs.AppendLemmas.{some_of, is_some_from}
use Rattle.pieces.specs.declared.node.Node.{Node}
use Rattle.pieces.specs.Nodes.{word_of, bits_in, AreNodes, Extends, Makes, MakesWord}
use Rattle.pieces.specs.Constants.{digits_value, AreConstants}
use Rattle.pieces.proofs.NodeLemmas.{later, constant_kept}
use Rattle.pieces.proofs.ListLemmas.{word_more, bits_more, nodes_more, nodes_kept}
use Rattle.pieces.proofs.WordLemmas.{field_high, field_low}

-- a digit of a number
pub digit_at : (ds : List ℕ) (k t : ℕ) → ((i : ℕ) → i < length ds → get_or ds i 0 < 2 ^ 64) → k < length ds → t ≤ 64 → digits_value ds / 2 ^ (64 * k) % 2 ^ t ≡ get_or ds k 0 % 2 ^ t
digit_at [] k t fit within most = absurd (omega (arith, within))
digit_at (d ∷ ds) zero t fit within most = field_low 64 (digits_value ds) d 0 t (fit 0 (omega arith)) (omega (arith, most)) ∙ ap (λ j. j % 2 ^ t) (div-one d)
digit_at (d ∷ ds) (suc k) t fit within most =
    ap (λ j. digits_value (d ∷ ds) / 2 ^ j % 2 ^ t) (omega arith) ∙ ap (λ j. j % 2 ^ t) (field_high 64 (digits_value ds) d (64 * k) (fit 0 (omega arith)))
    ∙ digit_at ds k t (λ i h. fit (suc i) (omega (arith, h))) (omega (arith, within)) most

constants_kept : (old new : List Item) (xs : List Node) → Extends old new → AreConstants old xs → AreConstants new xs
constants_kept old new [] e h = tt
constants_kept old new (x ∷ xs) e h =
    let own = some_of (constant_of old x.id) h.0 in
    (is_some_from (constant_of new x.id) own.0 (constant_kept old new x.id own.0 e own.1), constants_kept old new xs e h.1)

constants_join : (items : List Item) (xs : List Node) (p : Node) (v : ℕ) → AreConstants items xs → constant_of items p.id ≡ Some v → AreConstants items (xs ++ p ∷ [])
constants_join items [] p v h own = (is_some_from (constant_of items p.id) v own, tt)
constants_join items (x ∷ xs) p v h own = (h.0, constants_join items xs p v h.1 own)

pub constants_more : (old new : List Item) (xs next : List Node) (p : Node) (v : ℕ) → Extends old new → AreConstants old xs → constant_of new p.id ≡ Some v → next ≡ xs ++ p ∷ [] → AreConstants new next
constants_more old new xs next p v e h own last = subst (AreConstants new) (sym last) (constants_join new xs p v (constants_kept old new xs e h) own)

-- a digit more
pub digit_more : (now new : List Item) (out next : List Node) (value done taken n digit : ℕ) (r : Node) → taken + done ≡ n → value / 2 ^ done % 2 ^ taken ≡ digit → Extends now new → MakesWord now done (λ g. value % 2 ^ done) out → Makes new taken (λ g. digit) r → next ≡ out ++ r ∷ []
    → MakesWord new n (λ g. value % 2 ^ n) next
digit_more now new out next value done taken n digit r is at e h made last =
    subst (MakesWord new n (λ g. value % 2 ^ n)) (sym last)
    (record {
      nodes = nodes_more new out r (nodes_kept now new out e h.nodes) made.node;
      wide = bits_more out r ∙ ap₂ (λ (i j : ℕ). i + j) made.wide h.wide ∙ is;
      word = λ more state input g w states inputs frame.
          let low = later now new (λ g. word_of g out ≡ value % 2 ^ done) e h.word more state input g w states inputs frame in
          word_more g out r ∙ ap₂ (λ (i j : ℕ). concat_value i (bits_in out) j) (made.word more state input g w states inputs frame ∙ sym at) low
          ∙ ap (λ (i : ℕ). concat_value (value / 2 ^ done % 2 ^ taken) i (value % 2 ^ done)) h.wide ∙ sym (mod-pow-add value taken done) ∙ ap (λ (j : ℕ). value % 2 ^ j) is;
    })

pub digits_none : (items : List Item) (out : List Node) (value n : ℕ) → n ≡ 0 → out ≡ [] → MakesWord items n (λ g. value % 2 ^ n) out
digits_none items out value n none is =
    record {
      nodes = subst (AreNodes items) (sym is) tt;
      wide = ap bits_in is ∙ sym none;
      word = λ more state input g w states inputs frame.
          let rest : value % 2 ^ 0 < 1 = mod_below value 1 (omega arith) in
          ap (word_of g) is ∙ sym (ap (λ (j : ℕ). value % 2 ^ j) none ∙ omega (arith, rest));
    }

pub digit_fits : (d t : ℕ) → d % 2 ^ t < 2 ^ t
digit_fits d t = mod_below d (2 ^ t) (pow_pos t)
