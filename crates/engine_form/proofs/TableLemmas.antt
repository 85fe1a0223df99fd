-- Literals that stand for a circuit's, made one after the other.
use Rattle.std.proofs.Common.{◌≡◌, ℕ, zero, suc, ◌+◌, ◌*◌, ◌<◌, Bool, true, false, not, ◌&&◌, List, [], ◌∷◌, ◌++◌, length, take, get_or, sym, ap, ap₂, subst, ◌∙◌, length-append, arith}
use Rattle.std.specs.Prelude.{if◌then◌else◌}
use Rattle.std.proofs.lemmas.List.{take_more, length-take-le, map-append}
use Rattle.std.proofs.lemmas.List.Sums.{sum_by-append, sum_by-cons}
use Rattle.std.proofs.lemmas.List.Elements.{All-nil, All-cons, All-append}
use Rattle.aiger.specs.declared.circuit.Latch.{Latch}
use Rattle.base.specs.Literal.{Valuation, literal_value}
use Rattle.aiger.specs.Net.{Net, IsDefined}
use Rattle.base.proofs.LiteralLemmas.{literal_value-even}
use Rattle.gates.specs.Made.{MakesAnd, MakesLiteral}
use Rattle.gates.proofs.GrowthLemmas.{Grows-trans, Grows-weaker, Satisfies-earlier, All-defined-grown}
use Rattle.engine_form.specs.EngineForm.{taken_bits, free_count}
use Rattle.gates.specs.Reads.{literal_in}
use Rattle.engine_form.specs.Reads.{latch_value, read_latches, LatchLiteralsRead, BadLiteralsRead}

-- one bad property more
pub bads-more : (old mid new : Net) (table ls : List ℕ) (met i x lit m : ℕ) (literals : List ℕ) → i < length ls → x ≡ get_or ls i x → lit ≡ literal_in table x
    → BadLiteralsRead old mid table (take i ls) met literals → MakesAnd mid new lit met m → BadLiteralsRead old new table (take (i + 1) ls) met (literals ++ m ∷ [])
bads-more old mid new table ls met i x lit m literals inside at is before made =
    let longer : take (i + 1) ls ≡ take i ls ++ x ∷ [] = take_more ls i x inside ∙ ap (λ (y : ℕ). take i ls ++ y ∷ []) (sym at) in
    subst (λ (xs : List ℕ). BadLiteralsRead old new table xs met (literals ++ m ∷ [])) (sym longer)
    (record {
      grows = Grows-weaker old new (length (take i ls) + 1) (length (take i ls ++ x ∷ [])) (omega (arith, length-append (take i ls) (x ∷ []))) (Grows-trans old mid new _ 1 before.grows made.grows);
      many = length-append literals (m ∷ []) ∙ ap (λ (k : ℕ). k + 1) before.many ∙ sym (length-append (take i ls) (x ∷ []));
      defined = All-append (IsDefined new) literals (m ∷ []) (All-defined-grown mid new 1 made.grows literals before.defined) (All-cons (IsDefined new) m [] made.defined (All-nil (IsDefined new)));
      bits = λ w s.
          map-append (literal_value w) literals (m ∷ [])
          ∙ ap₂ ◌++◌ (before.bits w (Satisfies-earlier mid new 1 made.grows w s)) (ap (λ (b : Bool). b ∷ []) (made.means w s ∙ ap (λ (k : ℕ). literal_value w k && literal_value w met) is))
          ∙ sym (map-append (λ l. literal_value w (literal_in table l) && literal_value w met) (take i ls) (x ∷ []));
    })

-- latches

-- one latch more, and how many have no initial value then
pub read_latches-more : (ls : List Latch) (l : Latch) (own input : ℕ) (started : Bool) (w : Valuation)
    → read_latches (ls ++ l ∷ []) own input started w ≡ read_latches ls own input started w ++ latch_value l.reset (w (own + length ls)) (w (input + free_count ls)) started ∷ []
read_latches-more [] l own input started w =
    let e : own ≡ own + zero = omega arith in
    let f : input ≡ input + zero = omega arith in
    ap₂ (λ (a b : ℕ). latch_value l.reset (w a) (w b) started ∷ []) e f
read_latches-more (k ∷ ls) l own input started w =
    let e : suc own + length ls ≡ own + suc (length ls) = omega arith in
    let f : input + taken_bits k.reset + free_count ls ≡ input + free_count (k ∷ ls) = omega (arith, sum_by-cons (λ (latch : Latch). taken_bits latch.reset) k ls) in
    ap (λ (bs : List Bool). latch_value k.reset (w own) (w input) started ∷ bs)
    (read_latches-more ls l (suc own) (input + taken_bits k.reset) started w
    ∙ ap₂ (λ (a b : ℕ). read_latches ls (suc own) (input + taken_bits k.reset) started w ++ latch_value l.reset (w a) (w b) started ∷ []) e f)

free-more : (ls : List Latch) (l : Latch) → free_count (ls ++ l ∷ []) ≡ free_count ls + taken_bits l.reset
free-more ls l = omega (arith, sum_by-append (λ (latch : Latch). taken_bits latch.reset) ls (l ∷ []), sum_by-cons (λ (latch : Latch). taken_bits latch.reset) l [])

pub free-taken : (ls : List Latch) (i : ℕ) (l : Latch) → i < length ls → l ≡ get_or ls i l → free_count (take (i + 1) ls) ≡ free_count (take i ls) + taken_bits l.reset
free-taken ls i l inside at = ap free_count (take_more ls i l inside ∙ ap (λ (y : Latch). take i ls ++ y ∷ []) (sym at)) ∙ free-more (take i ls) l

pub latch-more : (old mid new : Net) (ls : List Latch) (more : List ℕ) (i : ℕ) (l : Latch) (own input a b started m : ℕ)
    → i < length ls → l ≡ get_or ls i l → 0 < own → 0 < input → a ≡ 2 * (own + i) → b ≡ 2 * (input + free_count (take i ls))
    → LatchLiteralsRead old mid (3 * free_count (take i ls)) (take i ls) own input started more
    → MakesLiteral mid new (3 * taken_bits l.reset) (λ v. latch_value l.reset (literal_value v a) (literal_value v b) (literal_value v started)) m
    → LatchLiteralsRead old new (3 * free_count (take (i + 1) ls)) (take (i + 1) ls) own input started (more ++ m ∷ [])
latch-more old mid new ls more i l own input a b started m inside at some_own some_input is_a is_b done made =
    let longer : take (i + 1) ls ≡ take i ls ++ l ∷ [] = take_more ls i l inside ∙ ap (λ (y : Latch). take i ls ++ y ∷ []) (sym at) in
    let so_far : length (take i ls) ≡ i = length-take-le i ls (omega arith) in
    subst (λ (xs : List Latch). LatchLiteralsRead old new (3 * free_count xs) xs own input started (more ++ m ∷ [])) (sym longer)
    (record {
      grows = Grows-weaker old new (3 * free_count (take i ls) + 3 * taken_bits l.reset) (3 * free_count (take i ls ++ l ∷ [])) (let e = free-more (take i ls) l in omega arith) (Grows-trans old mid new _ _ done.grows made.grows);
      defined = All-append (IsDefined new) more (m ∷ []) (All-defined-grown mid new _ made.grows more done.defined) (All-cons (IsDefined new) m [] made.defined (All-nil (IsDefined new)));
      many = length-append more (m ∷ []) ∙ ap (λ (k : ℕ). k + 1) done.many ∙ sym (length-append (take i ls) (l ∷ []));
      bits = λ w s.
          let own_bit : literal_value w a ≡ w (own + length (take i ls)) = ap (literal_value w) (is_a ∙ ap (λ (k : ℕ). 2 * (own + k)) (sym so_far)) ∙ literal_value-even w (own + length (take i ls)) (omega arith) in
          let given_bit : literal_value w b ≡ w (input + free_count (take i ls)) = ap (literal_value w) is_b ∙ literal_value-even w (input + free_count (take i ls)) (omega arith) in
          map-append (literal_value w) more (m ∷ [])
          ∙ ap₂ ◌++◌ (done.bits w (Satisfies-earlier mid new _ made.grows w s))
          (ap (λ (x : Bool). x ∷ []) (made.means w s ∙ ap₂ (λ (x y : Bool). latch_value l.reset x y (literal_value w started)) own_bit given_bit))
          ∙ sym (read_latches-more (take i ls) l own input (literal_value w started) w);
    })

-- a push that is not refused
pub pushed : {A : Type 0} (done err : Bool) (old new : List A) (x : A) → new ≡ (if done then old ++ x ∷ [] else old) → done ≡ not err → err ≡ false → new ≡ old ++ x ∷ []
pushed true err old new x e n f = e
pushed false err old new x e n f = absurd (cc)
