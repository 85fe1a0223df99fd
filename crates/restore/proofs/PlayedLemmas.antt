-- What a circuit holds behind frames of its engine form that it took one after the other.
use Rattle.std.proofs.Common.{◌≡◌, ℕ, zero, suc, ◌+◌, ◌-◌, ◌^◌, ◌<◌, ◌≤◌, ◌==◌, min, Bool, true, false, cond, not, ◌&&◌, ◌||◌, if◌then◌else◌, List, [], ◌∷◌, ◌++◌, length, take, get_or, Option, None, Some, is_none, refl, sym, ap, subst, ◌∙◌, arith}
use Rattle.std.specs.List.{list_all, position_from}
use Rattle.std.specs.Option.{option_or}
use Rattle.std.proofs.lemmas.Bool.{and_parts, leb-true, leb-false, ne_eqb}
use Rattle.base.specs.Literal.{Valuation, literal_value}
use Rattle.aiger.specs.Circuit.{Circuit}
use Rattle.engine_form.specs.EngineForm.{all_hold}
use Rattle.witness.specs.Texts.{most_lines}
use Rattle.witness.specs.Judgements.{Violation, violated_at}
use Rattle.witness.specs.Fits.{breach_from}
use Rattle.witness.specs.BitPlays.{first_bit_violated, bit_rises}
use Rattle.restore.specs.Frames.{frame_of, trace_from}
use Rattle.restore.specs.Restored.{own_inputs, cut_inputs}
use Rattle.restore.specs.Plays.{Play, met, are_too_many, own_frame, begun, played, took, taken}

-- ---- constraints

none_violated : (v : Valuation) (n i : ℕ) (ls : List ℕ) → is_none (violated_at n (position_from (λ l. not (literal_value v l)) i ls) None) ≡ list_all (literal_value v) ls
none_violated v n i [] = refl
none_violated v n i (l ∷ ls) =
    elim (literal_value v l) as (λ b. is_none (violated_at n (cond (not b) (Some i) (position_from (λ l. not (literal_value v l)) (i + 1) ls)) None) ≡ (b && list_all (literal_value v) ls)) [
      | true ↦ none_violated v n (i + 1) ls
      | false ↦ refl
    ]

-- all hold in one frame more
pub met_more : (c : Circuit) (n : ℕ) (breach : Option Violation) (v : Valuation) → is_none (option_or breach (violated_at n (first_bit_violated c v) None)) ≡ (is_none breach && all_hold c v)
met_more c n (Some w) v = refl
met_more c n None v = none_violated v n 0 c.constraints

-- ---- frames that are taken

-- behind the rise none is played
pub took_risen : (p : Play) (bits : List Bool) → p.risen ≡ true → took p bits ≡ p
took_risen p bits risen = ap (λ (b : Bool). if b then p else played (if p.frames == 0 then begun p bits else p) (own_frame p bits)) risen

pub taken_risen : (p : Play) (given : List (List Bool)) → p.risen ≡ true → taken p given ≡ p
taken_risen p [] risen = refl
taken_risen p (bits ∷ more) risen = ap (λ (q : Play). taken q more) (took_risen p bits risen) ∙ taken_risen p more risen

-- one behind the first
pub took_later : (p : Play) (bits : List Bool) → p.risen ≡ false → (p.frames == 0) ≡ false → took p bits ≡ played p (own_frame p bits)
took_later p bits going later =
    ap (λ (b : Bool). if b then p else played (if p.frames == 0 then begun p bits else p) (own_frame p bits)) going
    ∙ ap (λ (b : Bool). played (if b then begun p bits else p) (own_frame p bits)) later

-- the first one
pub took_first : (p : Play) (bits : List Bool) → p.risen ≡ false → (p.frames == 0) ≡ true → took p bits ≡ played (begun p bits) (own_frame p bits)
took_first p bits going none =
    ap (λ (b : Bool). if b then p else played (if p.frames == 0 then begun p bits else p) (own_frame p bits)) going
    ∙ ap (λ (b : Bool). played (if b then begun p bits else p) (own_frame p bits)) none

pub taken_more : (p : Play) (given : List (List Bool)) (bits : List Bool) → took (taken p given) bits ≡ taken p (given ++ bits ∷ [])
taken_more p [] bits = refl
taken_more p (first ∷ given) bits = taken_more (took p first) given bits

-- ---- what is found in them

or_none : {A : Type 0} (o : Option A) → option_or o None ≡ o
or_none None = refl
or_none (Some x) = refl

first_none : {A : Type 0} (o other : Option A) → option_or o other ≡ None → o ≡ None
first_none None other h = refl
first_none (Some x) other h = absurd (cc)

breach_behind : (breach later : Option Violation) (n : ℕ) (violated : Option ℕ) → option_or (option_or breach (violated_at n violated None)) later ≡ option_or breach (violated_at n violated later)
breach_behind (Some w) later n violated = refl
breach_behind None later n None = refl
breach_behind None later n (Some i) = refl

first_behind : (first later : Option ℕ) (b : Bool) (n : ℕ) → option_or (option_or first (if b then Some n else None)) later ≡ option_or first (cond b (Some n) later)
first_behind (Some w) later b n = refl
first_behind None later true n = refl
first_behind None later false n = refl

not_both : (b : Bool) → (b && true) ≡ false → b ≡ false
not_both true h = absurd (cc)
not_both false h = refl

none_taken : (n : ℕ) → let none : List Valuation = [] in take n none ≡ none
none_taken zero = refl
none_taken (suc n) = refl

-- how many frames more a witness may have
abbrev pub room : Play → ℕ
room p = most_lines - 3 - p.frames

-- the first of some frames in which the claimed property is 1
abbrev pub first_bad : Play → List Valuation → Option ℕ
first_bad p vs = position_from (λ v. literal_value v (get_or p.circuit.bads p.claim 0)) p.frames (take (room p) vs)

-- what is held behind frames with this trace
pub record Behind (p last : Play) (vs : List Valuation) : Type 0 where
  pub claim : last.claim ≡ p.claim
  pub count : last.frames ≡ min (p.frames + length vs) (2 ^ 64 - 1)
  pub breach : p.frames + length vs < 2 ^ 64 → last.breach ≡ option_or p.breach (breach_from (first_bit_violated p.circuit) p.frames vs)
  pub kept : last.breach ≡ None → p.breach ≡ None
  pub rose : last.breach ≡ None → last.risen ≡ bit_rises p.circuit p.claim vs
  pub first : last.first ≡ option_or p.first (first_bad p vs)

abbrev pub trace_of : Play → Bool → List (List Bool) → List Valuation
trace_of p held inputs = trace_from p.circuit p.state (cut_inputs p.circuit p.claim held p.state inputs)

-- the claimed property in one frame more, and in those behind it
module _ (p : Play) (v : Valuation) (vs : List Valuation) where
  abbrev here : Bool
  here = literal_value v (get_or p.circuit.bads p.claim 0)

  abbrev bad : Valuation → Bool
  bad w = literal_value w (get_or p.circuit.bads p.claim 0)

  first_more : (b : Bool) → are_too_many p.frames ≡ b → (next : ℕ) → next ≡ min (p.frames + 1) (2 ^ 64 - 1)
      → option_or (option_or p.first (if here && not b then Some p.frames else None)) (position_from bad next (take (most_lines - 3 - next) vs)) ≡ option_or p.first (first_bad p (v ∷ vs))
  first_more true many next is =
      let full = leb-true most_lines (p.frames + 3) many in
      let none : room p ≡ 0 = omega (arith, full) in
      let later : most_lines - 3 - next ≡ 0 = omega (arith, full, is) in
      rw (none, later) (first_behind p.first None (here && false) p.frames ∙ ap (option_or p.first) (nothing here))
    where
      nothing : (b : Bool) → cond (b && false) (Some p.frames) None ≡ None
      nothing true = refl
      nothing false = refl
  first_more false few next is =
      let small = leb-false most_lines (p.frames + 3) few in
      let one : next ≡ p.frames + 1 = omega (arith, small, is) in
      let some : room p ≡ suc (most_lines - 3 - next) = omega (arith, small, one) in
      rw (some, one) (first_behind p.first (position_from bad (p.frames + 1) (take (most_lines - 3 - (p.frames + 1)) vs)) (here && true) p.frames
      ∙ ap (λ (b : Bool). option_or p.first (cond b (Some p.frames) (position_from bad (p.frames + 1) (take (most_lines - 3 - (p.frames + 1)) vs)))) (and_true here))
    where
      and_true : (b : Bool) → (b && true) ≡ b
      and_true true = refl
      and_true false = refl

-- one frame more
module _ (p : Play) (input : List Bool) (more : List (List Bool)) (given : List (List Bool)) where
  abbrev v : Valuation
  v = frame_of p.circuit p.state input

  abbrev next : Play
  next = played p input

  abbrev is_bad : Bool
  is_bad = literal_value v (get_or p.circuit.bads p.claim 0)

  abbrev holds : Bool
  holds = met p && all_hold p.circuit v

  pub one_more : (b : Bool) → next.risen ≡ b → (next.risen ≡ false → Behind next (taken next given) (trace_of next (met next) more))
      → Behind p (taken next given) (v ∷ trace_from p.circuit next.state (if b then [] else cut_inputs p.circuit p.claim holds next.state more))
  one_more true is later =
      let same : taken next given ≡ next = taken_risen next given is in
      rw same (record {
        claim = refl;
        count = refl;
        breach = λ h. refl;
        kept = first_none p.breach (violated_at p.frames (first_bit_violated p.circuit v) None);
        rose = λ e. is ∙ sym (ap (λ (b : Bool). b || false) (and_parts is_bad holds is).0);
        first = sym (or_none next.first) ∙ ap (λ (ws : List Valuation). option_or next.first (position_from (bad p v []) next.frames ws)) (sym (none_taken (most_lines - 3 - next.frames))) ∙ first_more p v [] (are_too_many p.frames) refl next.frames refl;
      })
  one_more false is later =
      let same : met next ≡ holds = met_more p.circuit p.frames p.breach v in
      let rest : Behind next (taken next given) (trace_of next holds more) = subst (λ (b : Bool). Behind next (taken next given) (trace_of next b more)) same (later is) in
      let vs : List Valuation = trace_of next holds more in
      let count = rest.count in
      record {
        claim = rest.claim;
        count = omega (arith, count);
        breach = λ h.
            let one : next.frames ≡ suc p.frames = omega (arith, h) in
            rest.breach (omega (arith, one, h)) ∙ ap (λ (n : ℕ). option_or next.breach (breach_from (first_bit_violated p.circuit) n vs)) one
            ∙ breach_behind p.breach (breach_from (first_bit_violated p.circuit) (suc p.frames) vs) p.frames (first_bit_violated p.circuit v);
        kept = λ e. first_none p.breach (violated_at p.frames (first_bit_violated p.circuit v) None) (rest.kept e);
        rose = λ e.
            let held : holds ≡ true = sym same ∙ ap is_none (rest.kept e) in
            let none : is_bad ≡ false = not_both is_bad (ap (λ (b : Bool). is_bad && b) (sym held) ∙ is) in
            rest.rose e ∙ ap (λ (b : Bool). b || bit_rises p.circuit p.claim vs) (sym none);
        first = rest.first ∙ first_more p v vs (are_too_many p.frames) refl next.frames refl;
      }

pub later_frames : (p : Play) (input : List Bool) → ((played p input).frames == 0) ≡ false
later_frames p input = ne_eqb (min (p.frames + 1) (2 ^ 64 - 1)) 0 (λ e. omega (arith, e))

-- behind the first frame
pub behind : (p : Play) (given : List (List Bool)) → p.risen ≡ false → (p.frames == 0) ≡ false → p.frames ≤ 2 ^ 64 - 1 → Behind p (taken p given) (trace_of p (met p) (own_inputs p.circuit given))
behind p [] going later few = record { claim = refl; count = omega (arith, few); breach = λ h. sym (or_none p.breach); kept = λ e. e; rose = λ e. going; first = sym (or_none p.first) ∙ ap (λ (ws : List Valuation). option_or p.first (position_from (λ v. literal_value v (get_or p.circuit.bads p.claim 0)) p.frames ws)) (sym (none_taken (room p))) }
behind p (bits ∷ more) going later few =
    let input : List Bool = own_frame p bits in
    let next : Play = played p input in
    subst (λ (q : Play). Behind p (taken q more) (trace_of p (met p) (own_inputs p.circuit (bits ∷ more)))) (sym (took_later p bits going later))
    (one_more p input (own_inputs p.circuit more) more next.risen refl (λ on. behind next more on (later_frames p input) (omega arith)))
