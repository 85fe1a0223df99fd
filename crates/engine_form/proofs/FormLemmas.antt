-- What is made for an engine form shows the same as the circuit, in every frame.
use Rattle.std.proofs.Common.{◌≡◌, ℕ, zero, suc, ◌+◌, ◌-◌, ◌*◌, ◌<◌, ◌≤◌, Bool, true, false, not, ◌&&◌, List, [], ◌∷◌, ◌++◌, length, map, take, drop, replicate, get_or, All, Option, refl, sym, ap, ap₂, subst, ◌∙◌, length-append, append_assoc, arith}
use Rattle.std.specs.Prelude.{min, max}
use Rattle.std.specs.List.{list_all}
use Rattle.std.proofs.lemmas.List.{map-append}
use Rattle.std.proofs.lemmas.List.Sums.{sum_by-cons}
use Rattle.std.proofs.lemmas.List.Elements.{All-head, All-tail}
use Rattle.std.proofs.Math.Seq.{take-append_seam, get_or-append_seam}
use Rattle.aiger.specs.declared.circuit.Latch.{Latch}
use Rattle.aiger.specs.declared.circuit.Reset.{Reset}
use Rattle.aiger.specs.declared.circuit.Reset.TheVariants as reset
use Rattle.base.specs.Literal.{Valuation, negation, literal_value}
use Rattle.aiger.specs.Net.{variables, IsDefined, bits_from}
use Rattle.aiger.specs.Circuit.{Circuit, IsCircuit, net, fresh_latch}
use Rattle.aiger.specs.Trace.{IsCircuitFrame, IsCircuitTrace, next_latch_bits, SameCircuitFrame}
use Rattle.base.proofs.LiteralLemmas.{literal_value-negation, literal_value-even}
use Rattle.aiger.proofs.NetLemmas.{length-bits_from}
use Rattle.aiger.proofs.TraceLemmas.{literal_value-agree, SameFrame-from_bits}
use Rattle.engine_form.specs.EngineForm.{taken_bits, free_count, first_bit, first_bits, begins, kept_bit, kept_bits, where_some, or_one, with_own, engine_bits, input_count, latch_count, chosen, all_hold, GoesTogether, GoTogether}
use Rattle.gates.specs.Reads.{read, literal_in}
use Rattle.engine_form.specs.Reads.{latch_value, read_latches, kept_literal, kept_latch, form_latches, literal_where, started_literal, before_literal, FormMade}
use Rattle.gates.proofs.TableLemmas.{value-literal_of}
use Rattle.engine_form.proofs.MadeLemmas.{chosen_all}

not_not : (b : Bool) → not (not b) ≡ b
not_not true = refl
not_not false = refl

-- ---- the latches' bits, read

pub read_again : (first : Bool) (ls : List Latch) (s : List Bool) (own input m : ℕ) (started : Bool) (w : Valuation)
    → bits_from own (length ls) w ≡ kept_bits first ls s → free_count ls ≤ m → (first ≡ true → s ≡ first_bits ls (bits_from input m w)) → length s ≡ length ls → (0 < free_count ls → started ≡ not first)
    → read_latches ls own input started w ≡ s
read_again first [] [] own input m started w kept le begin many go = refl
read_again first [] (b ∷ s) own input m started w kept le begin many go = absurd (omega arith)
read_again first (l ∷ ls) [] own input m started w kept le begin many go = absurd (omega arith)
read_again first (l ∷ ls) (b ∷ s) own input m started w kept le begin many go =
    let sum = sum_by-cons (λ (latch : Latch). taken_bits latch.reset) l ls in
    let head : w own ≡ kept_bit first l.reset b = cc in
    let rest : bits_from (suc own) (length ls) w ≡ kept_bits first ls s = cc in
    by l.reset first m head (λ e. begin e) (λ k. go k) sum le
    (λ i k fits begins_so goes. read_again first ls s (suc own) i k started w rest fits begins_so (omega arith) goes)
  where
    Rest : ℕ → ℕ → Type 0
    Rest i k = free_count ls ≤ k → (first ≡ true → s ≡ first_bits ls (bits_from i k w)) → (0 < free_count ls → started ≡ not first) → read_latches ls (suc own) i started w ≡ s

    tail_of : (x y : Bool) (xs ys : List Bool) → x ∷ xs ≡ y ∷ ys → xs ≡ ys
    tail_of x y xs ys e = cc

    head_of : (x y : Bool) (xs ys : List Bool) → x ∷ xs ≡ y ∷ ys → x ≡ y
    head_of x y xs ys e = cc

    chosen_bit : (f : Bool) (x : Bool) → w own ≡ kept_bit f reset.Free b → started ≡ not f → (f ≡ true → b ≡ x) → latch_value reset.Free (w own) x started ≡ b
    chosen_bit true x h e same = ap (λ (c : Bool). latch_value reset.Free (w own) x c) e ∙ sym (same refl)
    chosen_bit false x h e same = ap (λ (c : Bool). latch_value reset.Free (w own) x c) e ∙ h

    by : (r : Reset) (f : Bool) (m : ℕ) → w own ≡ kept_bit f r b → (f ≡ true → b ∷ s ≡ first_bit r (bits_from input m w) ∷ first_bits ls (drop (taken_bits r) (bits_from input m w))) → (0 < free_count (l ∷ ls) → started ≡ not f)
        → free_count (l ∷ ls) ≡ taken_bits r + free_count ls → free_count (l ∷ ls) ≤ m
        → ((i k : ℕ) → free_count ls ≤ k → (f ≡ true → s ≡ first_bits ls (bits_from i k w)) → (0 < free_count ls → started ≡ not f) → read_latches ls (suc own) i started w ≡ s)
        → latch_value r (w own) (w input) started ∷ read_latches ls (suc own) (input + taken_bits r) started w ≡ b ∷ s
    by reset.Zero f m h start go sum le more =
        let i : input ≡ input + 0 = omega arith in
        ap₂ ◌∷◌ h (more (input + 0) m (omega arith) (λ e. tail_of b _ s _ (start e) ∙ ap (λ (k : ℕ). first_bits ls (bits_from k m w)) i) (λ k. go (omega arith)))
    by reset.One f m h start go sum le more =
        let i : input ≡ input + 0 = omega arith in
        ap₂ ◌∷◌ (ap not h ∙ not_not b) (more (input + 0) m (omega arith) (λ e. tail_of b _ s _ (start e) ∙ ap (λ (k : ℕ). first_bits ls (bits_from k m w)) i) (λ k. go (omega arith)))
    by reset.Free f zero h start go sum le more = absurd (omega arith)
    by reset.Free f (suc m) h start go sum le more =
        let i : suc input ≡ input + 1 = omega arith in
        ap₂ ◌∷◌ (chosen_bit f (w input) h (go (omega arith)) (λ e. head_of b _ s _ (start e)))
        (more (input + 1) m (omega arith) (λ e. tail_of b _ s _ (start e) ∙ ap (λ (k : ℕ). first_bits ls (bits_from k m w)) i) (λ k. go (omega arith)))

-- ---- parts of lists

kept_length : (first : Bool) (ls : List Latch) (s : List Bool) → length s ≡ length ls → length (kept_bits first ls s) ≡ length ls
kept_length first [] s e = refl
kept_length first (l ∷ ls) [] e = absurd (omega arith)
kept_length first (l ∷ ls) (b ∷ s) e = ap suc (kept_length first ls s (omega arith))

where_length : {A : Type 0} (n : ℕ) (x : A) → length (where_some n x) ≡ min 1 n
where_length zero b = omega arith
where_length (suc n) b = omega arith

or_one-take : {A : Type 0} (z : A) (xs ys : List A) → take (length xs) (or_one z (xs ++ ys)) ≡ xs
or_one-take z [] ys = refl
or_one-take z (x ∷ xs) ys = ap (λ l. x ∷ l) (take-append_seam xs ys)

or_one-get : {A : Type 0} (z : A) (xs : List A) (k : ℕ) → get_or (or_one z xs) k z ≡ get_or xs k z
or_one-get z [] zero = refl
or_one-get z [] (suc k) = refl
or_one-get z (x ∷ xs) k = refl

front : (s n m : ℕ) (w : Valuation) → n ≤ m → take n (bits_from s m w) ≡ bits_from s n w
front s zero m w le = refl
front s (suc n) zero w le = absurd (omega arith)
front s (suc n) (suc m) w le = ap (λ (l : List Bool). w s ∷ l) (front (suc s) n m w (omega arith))

back : (s n m k t : ℕ) (w : Valuation) → m ≡ n + k → t ≡ s + n → drop n (bits_from s m w) ≡ bits_from t k w
back s zero m k t w e f = ap₂ (λ (a b : ℕ). bits_from a b w) (omega arith) (omega arith)
back s (suc n) zero k t w e f = absurd (omega arith)
back s (suc n) (suc m) k t w e f = back (suc s) n m k t w (omega arith) (omega arith)

get_bit : (s m k : ℕ) (w : Valuation) → k < m → get_or (bits_from s m w) k false ≡ w (s + k)
get_bit s zero k w h = absurd (omega arith)
get_bit s (suc m) zero w h = ap w (omega arith)
get_bit s (suc m) (suc k) w h = get_bit (suc s) m k w (omega arith) ∙ ap w (omega arith)

started_bit : (kept rest : List Bool) (f : ℕ) (x : Bool) → 0 < f → get_or (kept ++ where_some f x ++ rest) (length kept) false ≡ x
started_bit kept rest zero x h = absurd (omega arith)
started_bit kept rest (suc f) x h = ap (λ (l : List Bool). get_or l (length kept) false) (append_assoc kept (x ∷ []) rest) ∙ get_or-append_seam kept x rest false

last_bit : (xs : List Bool) (k : ℕ) (y : Bool) → 0 < k → get_or (xs ++ where_some k y) (length xs) false ≡ y
last_bit xs zero y h = absurd (omega arith)
last_bit xs (suc k) y h = get_or-append_seam xs y [] false

all_same : (f g : ℕ → Bool) (P : ℕ → Type 0) (ls : List ℕ) → ((l : ℕ) → P l → f l ≡ g l) → All P ls → list_all f ls ≡ list_all g ls
all_same f g P [] same all = refl
all_same f g P (l ∷ ls) same all = ap₂ ◌&&◌ (same l (All-head P l ls all)) (all_same f g P ls same (All-tail P l ls all))

map_same : (f g : ℕ → Bool) (P : ℕ → Type 0) (ls : List ℕ) → ((l : ℕ) → P l → f l ≡ g l) → All P ls → map f ls ≡ map g ls
map_same f g P [] same all = refl
map_same f g P (l ∷ ls) same all = ap₂ ◌∷◌ (same l (All-head P l ls all)) (map_same f g P ls same (All-tail P l ls all))

-- ---- the next bits

map_where : {A B : Type 0} (f : A → B) (n : ℕ) (x : A) → map f (where_some n x) ≡ where_some n (f x)
map_where f zero x = refl
map_where f (suc n) x = refl

map_or : {A B : Type 0} (f : A → B) (x : A) (xs : List A) → map f (or_one x xs) ≡ or_one (f x) (map f xs)
map_or f x [] = refl
map_or f x (y ∷ ys) = refl

-- a function of each thing that a form has for a latch
pub map_own : {A B : Type 0} (f : A → B) (c : Circuit) (z : A) (kept : List A) (x y : A) → map f (with_own c z kept x y) ≡ with_own c (f z) (map f kept) (f x) (f y)
map_own f c z kept x y =
    let free : ℕ = free_count c.latches in
    let some : ℕ = length c.constraints in
    map_or f z (kept ++ where_some free x ++ where_some some y)
    ∙ ap (or_one (f z))
    (map-append f (kept ++ where_some free x) (where_some some y) ∙ ap₂ ◌++◌ (map-append f kept (where_some free x) ∙ ap (λ l. map f kept ++ l) (map_where f free x)) (map_where f some y))

next_kept : (v w : Valuation) (table : List ℕ) (P : ℕ → Type 0) (ls : List Latch) → ((l : ℕ) → P l → literal_value w (literal_in table l) ≡ literal_value v l) → All (λ (latch : Latch). P latch.next) ls
    → map (λ (latch : Latch). literal_value w latch.next) (map (kept_latch table) ls) ≡ kept_bits false ls (map (λ (latch : Latch). literal_value v latch.next) ls)
next_kept v w table P [] same all = refl
next_kept v w table P (l ∷ ls) same all =
    ap₂ ◌∷◌ (by l.reset (same l.next (All-head (λ (latch : Latch). P latch.next) l ls all))) (next_kept v w table P ls same (All-tail (λ (latch : Latch). P latch.next) l ls all))
  where
    by : (r : Reset) → literal_value w (literal_in table l.next) ≡ literal_value v l.next → literal_value w (kept_literal r (literal_in table l.next)) ≡ kept_bit false r (literal_value v l.next)
    by reset.Zero e = e
    by reset.One e = literal_value-negation w (literal_in table l.next) ∙ ap not e
    by reset.Free e = e

literal_there : (n l : ℕ) → 0 < n → literal_where n l ≡ l
literal_there zero l h = absurd (omega arith)
literal_there (suc n) l h = refl

-- ---- one frame

pub step : (c : Circuit) (choice : Option ℕ) (d : Circuit) (table : List ℕ) (lit : ℕ) → IsCircuit c → FormMade c choice (net d) table lit d.bads → d.latches ≡ form_latches c table lit
    → (first met : Bool) (state g : List Bool) (v w : Valuation) → IsCircuitFrame c state (take c.inputs g) v → IsCircuitFrame d (engine_bits c first met state) g w
    → (first ≡ true → state ≡ first_bits c.latches (drop c.inputs g)) → (length c.constraints ≡ 0 → met ≡ true)
    → GoesTogether c choice d first met v w × (next_latch_bits d w ≡ engine_bits c false (met && all_hold c v) (next_latch_bits c v))
step c choice d table lit valid made latches first met state g v w p q begin no_constraint =
    let n : ℕ = length c.latches in
    let s : ℕ = suc d.inputs in
    let free : ℕ = free_count c.latches in
    let some : ℕ = length c.constraints in
    let many : length state ≡ n = ap length (sym p.latches) ∙ length-bits_from (suc c.inputs) n v in
    let kept : List Bool = kept_bits first c.latches state in
    let kept_many : length kept ≡ n = kept_length first c.latches state many in
    let a : List Bool = where_some free (not first) in
    let b : List Bool = where_some some (not met) in
    let size : length d.latches ≡ latch_count c = made.latches in
    let inputs : d.inputs ≡ input_count c = made.inputs in
    let le : n ≤ length d.latches = omega arith in
    let le_inputs : c.inputs ≤ d.inputs = omega arith in
    let kept_is : bits_from s n w ≡ kept =
    sym (front s n (length d.latches) w le) ∙ ap (take n) q.latches ∙ ap (λ (l : List Bool). take n (or_one false l)) (append_assoc kept a b)
    ∙ ap (λ (k : ℕ). take k (or_one false (kept ++ (a ++ b)))) (sym kept_many) ∙ or_one-take false kept (a ++ b) in
    let bit : (k : ℕ) → k < length d.latches → w (s + k) ≡ get_or (kept ++ a ++ b) k false =
    λ k h. sym (get_bit s (length d.latches) k w h) ∙ ap (λ (l : List Bool). get_or l k false) q.latches ∙ or_one-get false (kept ++ a ++ b) k in
    let started : 0 < free → literal_value w (started_literal c) ≡ not first =
    λ h.
    ap (literal_value w) (literal_there free (2 * (suc (input_count c) + n)) h ∙ ap (λ (k : ℕ). 2 * (suc k + n)) (sym inputs))
    ∙ literal_value-even w (s + n) (omega arith)
    ∙ bit n (omega arith) ∙ ap (λ (k : ℕ). get_or (kept ++ a ++ b) k false) (sym kept_many) ∙ started_bit kept b free (not first) h in
    let front_many : length (kept ++ a) ≡ n + min 1 free = length-append kept a ∙ ap₂ ◌+◌ kept_many (where_length free (not first)) in
    let last : 0 < some → w (d.inputs + length d.latches) ≡ not met =
    λ h.
    let place : d.inputs + length d.latches ≡ s + length (kept ++ a) = omega arith in
    ap w place ∙ bit (length (kept ++ a)) (omega arith) ∙ last_bit (kept ++ a) some (not met) h in
    let read_is : read_latches c.latches s (suc c.inputs) (literal_value w (started_literal c)) w ≡ state =
    read_again first c.latches state s (suc c.inputs) (d.inputs - c.inputs) (literal_value w (started_literal c)) w kept_is (omega arith)
    (λ e. begin e ∙ ap (λ (l : List Bool). first_bits c.latches (drop c.inputs l)) (sym q.inputs) ∙ ap (first_bits c.latches) (back 1 c.inputs d.inputs (d.inputs - c.inputs) (suc c.inputs) w (omega arith) (omega arith)))
    many started in
    let r : Valuation = read table w in
    let frame : IsCircuitFrame c state (take c.inputs g) r = record {
      gates = made.gates w q.gates;
      inputs = made.input_bits w ∙ sym (front 1 c.inputs d.inputs w le_inputs) ∙ ap (take c.inputs) q.inputs;
      latches = made.latch_bits w q.gates ∙ read_is;
    } in
    let same : SameCircuitFrame c v r = SameFrame-from_bits c state (take c.inputs g) v r valid p frame in
    let one : (l : ℕ) → IsDefined (net c) l → literal_value w (literal_in table l) ≡ literal_value v l =
    λ l h. value-literal_of table w l made.zero_is ∙ sym (literal_value-agree (suc (variables (net c))) v r l (λ k low high. same k low (omega arith)) (omega arith)) in
    let before_is : before_literal c ≡ literal_where some (negation (2 * (d.inputs + length d.latches))) = ap₂ (λ (i k : ℕ). literal_where some (negation (2 * (i + k)))) (sym inputs) (sym size) in
    let hold : list_all (λ l. literal_value w (literal_in table l)) c.constraints ≡ all_hold c v = all_same _ _ (IsDefined (net c)) c.constraints one valid.defined.constraints in
    let met_is : literal_value w lit ≡ (met && all_hold c v) = made.met_is w q.gates ∙ ap₂ ◌&&◌ (ap (literal_value w) before_is ∙ before some no_constraint last) hold in (
      record {
        latches = q.latches ∙ ap (engine_bits c first met) (sym p.latches);
        bads = made.bads_are w q.gates ∙ map_same _ _ (IsDefined (net c)) (chosen choice c.bads) (λ l h. ap₂ ◌&&◌ (one l h) met_is) (chosen_all (IsDefined (net c)) choice c.bads valid.defined.bads);
      },
      ap (map (λ (latch : Latch). literal_value w latch.next)) latches
          ∙ map_own (λ (latch : Latch). literal_value w latch.next) c fresh_latch (map (kept_latch table) c.latches) (record { next = 1; reset = reset.Zero }) (record { next = negation lit; reset = reset.Zero })
          ∙ ap₂ (λ (kept : List Bool) (broken : Bool). with_own c false kept true broken) (next_kept v w table (IsDefined (net c)) c.latches one valid.defined.nexts) (literal_value-negation w lit ∙ ap not met_is),
    )
  where
    last_there : length d.latches ≡ latch_count c → 0 < d.inputs + length d.latches
    last_there e = omega arith

    before : (k : ℕ) → (k ≡ 0 → met ≡ true) → (0 < k → w (d.inputs + length d.latches) ≡ not met) → literal_value w (literal_where k (negation (2 * (d.inputs + length d.latches)))) ≡ met
    before zero none last = sym (none refl)
    before (suc k) none last =
        literal_value-negation w (2 * (d.inputs + length d.latches))
        ∙ ap not (literal_value-even w (d.inputs + length d.latches) (last_there made.latches) ∙ last (omega arith))
        ∙ not_not met

-- ---- all frames

frames_same : (c : Circuit) (choice : Option ℕ) (d : Circuit) (table : List ℕ) (lit : ℕ) → IsCircuit c → FormMade c choice (net d) table lit d.bads → d.latches ≡ form_latches c table lit
    → (first met : Bool) (state : List Bool) (given : List (List Bool)) (vs ws : List Valuation)
    → IsCircuitTrace c state (map (take c.inputs) given) vs → IsCircuitTrace d (engine_bits c first met state) given ws
    → (first ≡ true → state ≡ begins c given) → (length c.constraints ≡ 0 → met ≡ true) → GoTogether c choice d first met vs ws
frames_same c choice d table lit valid made latches first met state [] [] [] p q begin none = tt
frames_same c choice d table lit valid made latches first met state [] [] (w ∷ ws) p q begin none = absurd q
frames_same c choice d table lit valid made latches first met state [] (v ∷ vs) ws p q begin none = absurd p
frames_same c choice d table lit valid made latches first met state (g ∷ given) [] ws p q begin none = absurd p
frames_same c choice d table lit valid made latches first met state (g ∷ given) (v ∷ vs) [] p q begin none = absurd q
frames_same c choice d table lit valid made latches first met state (g ∷ given) (v ∷ vs) (w ∷ ws) p q begin none =
    let here = step c choice d table lit valid made latches first met state g v w p.0 q.0 begin none in
    let more : IsCircuitTrace d (engine_bits c false (met && all_hold c v) (next_latch_bits c v)) given ws = subst (λ (s : List Bool). IsCircuitTrace d s given ws) here.1 q.1 in
    (here.0, frames_same c choice d table lit valid made latches false (met && all_hold c v) (next_latch_bits c v) given vs ws p.1 more (λ e. absurd (cc)) (λ e. ap₂ ◌&&◌ (none e) (no_constraints c.constraints e)))
  where
    no_constraints : (ls : List ℕ) → length ls ≡ 0 → list_all (literal_value v) ls ≡ true
    no_constraints [] e = refl
    no_constraints (l ∷ ls) e = absurd (omega arith)

-- the first bits of the form are 0
zeros_kept : (ls : List Latch) (given : List Bool) → kept_bits true ls (first_bits ls given) ≡ replicate (length ls) false
zeros_kept [] given = refl
zeros_kept (l ∷ ls) given = ap₂ ◌∷◌ (by l.reset) (zeros_kept ls (drop (taken_bits l.reset) given))
  where
    by : (r : Reset) → kept_bit true r (first_bit r given) ≡ false
    by reset.Zero = refl
    by reset.One = refl
    by reset.Free = refl

replicate_more : {A : Type 0} (x : A) (n m : ℕ) → replicate n x ++ replicate m x ≡ replicate (n + m) x
replicate_more x zero m = ap (λ (k : ℕ). replicate k x) (let e : m ≡ zero + m = omega arith in e)
replicate_more x (suc n) m = ap (λ l. x ∷ l) (replicate_more x n m) ∙ ap (λ (k : ℕ). replicate k x) (let e : suc (n + m) ≡ suc n + m = omega arith in e)

replicate_where : {A : Type 0} (x : A) (n : ℕ) → where_some n x ≡ replicate (min 1 n) x
replicate_where x zero = ap (λ (k : ℕ). replicate k x) (let e : 0 ≡ min 1 zero = omega arith in e)
replicate_where x (suc n) = ap (λ (k : ℕ). replicate k x) (let e : 1 ≡ min 1 (suc n) = omega arith in e)

replicate_or : {A : Type 0} (x : A) (n : ℕ) → or_one x (replicate n x) ≡ replicate (max 1 n) x
replicate_or x zero = refl
replicate_or x (suc n) = ap (λ (k : ℕ). replicate k x) (let e : suc n ≡ max 1 (suc n) = omega arith in e)

-- where a form has the same for each latch, it has it as often as it has latches
pub same_own : {A : Type 0} (c : Circuit) (x : A) → with_own c x (replicate (length c.latches) x) x x ≡ replicate (latch_count c) x
same_own c x =
    let free : ℕ = free_count c.latches in
    let some : ℕ = length c.constraints in
    ap (or_one x)
    (ap₂ ◌++◌ (ap (λ l. replicate (length c.latches) x ++ l) (replicate_where x free) ∙ replicate_more x (length c.latches) (min 1 free)) (replicate_where x some)
    ∙ replicate_more x (length c.latches + min 1 free) (min 1 some))
    ∙ replicate_or x (length c.latches + min 1 free + min 1 some)

zeros_first : (c : Circuit) (given : List Bool) → engine_bits c true true (first_bits c.latches given) ≡ replicate (latch_count c) false
zeros_first c given = ap (λ (kept : List Bool). with_own c false kept false false) (zeros_kept c.latches given) ∙ same_own c false

pub made_shows_same : (c d : Circuit) (choice : Option ℕ) (table : List ℕ) (lit : ℕ) → IsCircuit c → FormMade c choice (net d) table lit d.bads → d.latches ≡ form_latches c table lit
    → (given : List (List Bool)) (vs ws : List Valuation) → IsCircuitTrace c (begins c given) (map (take c.inputs) given) vs → IsCircuitTrace d (replicate (length d.latches) false) given ws
    → GoTogether c choice d true true vs ws
made_shows_same c d choice table lit valid made latches given vs ws p q =
    let size : latch_count c ≡ length d.latches = sym made.latches in
    let zeros : replicate (length d.latches) false ≡ engine_bits c true true (begins c given) = ap (λ (k : ℕ). replicate k false) (sym size) ∙ sym (first given) in
    frames_same c choice d table lit valid made latches true true (begins c given) given vs ws p (subst (λ (s : List Bool). IsCircuitTrace d s given ws) zeros q) (λ e. refl) (λ e. refl)
  where
    first : (given : List (List Bool)) → engine_bits c true true (begins c given) ≡ replicate (latch_count c) false
    first [] = zeros_first c []
    first (g ∷ given) = zeros_first c (drop c.inputs g)
