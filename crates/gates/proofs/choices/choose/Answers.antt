use Rattle.std.proofs.Common.{◌≡◌, Bool, true, false, List, [], ◌∷◌, length, map, if◌then◌else◌, refl, ap, arith, ◌*◌, rules}
use Rattle.std.proofs.lemmas.List.{length-map}
use Rattle.base.specs.Word.{word}
use Rattle.base.specs.Literal.{literal_value}
use Rattle.gates.specs.Made.{RefusesGate}
use Rattle.gates.proofs.LiteralLemmas.{Refuses-behind}
use Rattle.gates.proofs.LaterLemmas.{IsDefined-of_word}
use Rattle.gates.proofs.GrowthLemmas.{IsDefined-grown}
use Rattle.gates.proofs.WordLemmas.{zip_with}
use Rattle.gates.proofs.BitListLemmas.{IsRow-push, MakesWord-row}
use Rattle.gates.proofs.RowLemmas.{IsRow-start}
use Rattle.gates.proofs.choices.choose.Goals as goal

pub loop-i-preserved : goal.loop-i-preserved
loop-i-preserved g c =
    let condition = c.args.c in
    rw c.push.ensures.items (IsRow-push _ _ _ 3 c.loop-i.i (λ v x y. if literal_value v condition then x else y) c.args.t.now c.args.e.now c.loop-i.bits.items c.index-t-i.result c.index-e-i.result c.in_ok-mux.field-0 (omega arith) (omega arith) c.index-t-i.is c.index-e-i.is c.loop-i.invariant c.in_ok-mux.ensures.ok)

-- one of two words, chosen place by place
chosen_word : (c : Bool) (xs ys : List Bool) → length xs ≡ length ys → word (zip_with (λ x y. if c then x else y) xs ys) ≡ (if c then word xs else word ys)
chosen_word true xs ys same = ap word (first xs ys same)
  where
    first : (xs ys : List Bool) → length xs ≡ length ys → zip_with (λ x y. x) xs ys ≡ xs
    first [] ys same = refl
    first (x ∷ xs) [] same = absurd (omega arith)
    first (x ∷ xs) (y ∷ ys) same = ap (λ zs. x ∷ zs) (first xs ys (omega arith))
chosen_word false xs ys same = ap word (second xs ys same)
  where
    second : (xs ys : List Bool) → length xs ≡ length ys → zip_with (λ x y. y) xs ys ≡ ys
    second [] [] same = refl
    second [] (y ∷ ys) same = absurd (omega arith)
    second (x ∷ xs) [] same = absurd (omega arith)
    second (x ∷ xs) (y ∷ ys) same = ap (λ zs. y ∷ zs) (second xs ys (omega arith))

pub returns-clause-ok : goal.returns-clause-ok
returns-clause-ok g c =
    let condition = c.args.c in
    let t = c.args.t.now in
    let e = c.args.e.now in
    MakesWord-row _ _ 3 (length t) c.loop-i.i (λ v x y. if literal_value v condition then x else y) _ t e c.loop-i.bits.items refl c.requires.equal (omega arith)
    (λ v. chosen_word (literal_value v condition) (map (literal_value v) t) (map (literal_value v) e) (omega (arith, length-map t (literal_value v), length-map e (literal_value v))))
    c.loop-i.invariant

pub mux-requires-clause-condition : goal.mux-requires-clause-condition
mux-requires-clause-condition g c = IsDefined-grown _ _ _ c.loop-i.invariant.grows _ c.requires.condition

pub mux-requires-clause-then : goal.mux-requires-clause-then
mux-requires-clause-then g c =
    IsDefined-of_word _ _ _ c.args.t.now c.loop-i.i c.index-t-i.result (omega arith) c.index-t-i.is c.requires.then c.loop-i.invariant.grows

pub mux-requires-clause-otherwise : goal.mux-requires-clause-otherwise
mux-requires-clause-otherwise g c =
    IsDefined-of_word _ _ _ c.args.e.now c.loop-i.i c.index-e-i.result (omega (arith, c.requires.equal)) c.index-e-i.is c.requires.otherwise c.loop-i.invariant.grows

pub loop-i-init : goal.loop-i-init
loop-i-init g c = let condition = c.args.c in rw c.new-bits.ensures (IsRow-start _ 3 (λ v x y. if literal_value v condition then x else y) c.args.t.now c.args.e.now)

pub returns-in_err-mux-clause-refused : goal.returns-in_err-mux-clause-refused
returns-in_err-mux-clause-refused g c =
    let n = length c.args.t.now in
    let refused : RefusesGate (g.G.Gates.made c.args.g.now) (g.G.Gates.made c.mux.new.g) (3 * n) c.in_err-mux.field-0.0 =
    Refuses-behind _ _ _ (3 * c.loop-i.i) 3 (3 * n) _ (omega arith) c.loop-i.invariant.grows c.in_err-mux.ensures.refused
    in search rules
