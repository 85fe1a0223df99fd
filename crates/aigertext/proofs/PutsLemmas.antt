-- Gates that are put onto a circuit by their text, and lines of inputs in turn.
use Rattle.std.proofs.Common.{◌≡◌, ℕ, zero, suc, ◌+◌, ◌-◌, ◌*◌, ◌≤◌, List, [], ◌∷◌, ◌++◌, length, take, drop, decimal, Option, Some, None, refl, sym, ap, ◌∙◌, append_assoc, append-nil, length-append, arith}
use Rattle.std.specs.Prelude.{IfSome}
use Rattle.std.specs.Io.KnownBytes.{prepend_known, Keeps, Consumes, IsAtEnd}
use Rattle.std.proofs.KnownBytes.{Consumes-trans, Consumes-kept}
use Rattle.std.proofs.Math.Seq.{drop-append_seam}
use Rattle.std.proofs.lemmas.List.{take_at}
use Rattle.std.proofs.lemmas.List.Elements.{All-nil, All-cons, All-append}
use Rattle.aiger.specs.declared.circuit.Gate.{Gate}
use Rattle.aigerlists.specs.declared.loose.GateLine.{GateLine}
use Rattle.aigerlists.specs.Loose.{Loose, with_gate_line}
use Rattle.aiger.specs.Net.{variables}
use Rattle.aiger.specs.Circuit.{Circuit, net, with_gate}
use Rattle.aigertext.specs.declared.forms.Form.{Form}
use Rattle.aigertext.specs.Ascii.{numbers_line, input_lines}
use Rattle.aigertext.specs.Binary.{gate_text, gates_text}
use Rattle.aigertext.specs.Passes.{with_more_gates}
use Rattle.aigertext.specs.InOrder.{line_texts, IsLineUpTo, ArePutGates, IsPutOnLists, PutsText, FollowEachOther}

-- ---- inputs

plus_none : (n : ℕ) → n ≡ n + 0
plus_none n = omega arith

plus_suc : (m n : ℕ) → suc m + n ≡ m + suc n
plus_suc m n = omega arith

input_lines-more : (first n : ℕ) → input_lines first (suc n) ≡ input_lines first n ++ numbers_line (2 * (first + n) ∷ [])
input_lines-more first zero = append-nil (numbers_line (2 * first ∷ [])) ∙ ap (λ (k : ℕ). numbers_line (2 * k ∷ [])) (plus_none first)
input_lines-more first (suc n) =
    ap (λ (t : List ℕ). numbers_line (2 * first ∷ []) ++ t) (input_lines-more (suc first) n ∙ ap (λ (k : ℕ). input_lines (suc first) n ++ numbers_line (2 * k ∷ [])) (plus_suc first n))
    ∙ sym (append_assoc (numbers_line (2 * first ∷ [])) (input_lines (suc first) n) (numbers_line (2 * (first + suc n) ∷ [])))

-- an input's line more
pub inputs_step : (index number : ℕ) (text rest behind : List ℕ) → text ≡ input_lines 1 index ++ rest → rest ≡ decimal number ++ 10 ∷ behind → number ≡ 2 * (index + 1) → text ≡ input_lines 1 (index + 1) ++ behind
inputs_step index number text rest behind so_far line is =
    let own : number ≡ 2 * (1 + index) = omega (arith, is) in
    let next : suc index ≡ index + 1 = omega arith in
    let one : rest ≡ numbers_line (2 * (1 + index) ∷ []) ++ behind = line ∙ ap (λ (n : ℕ). decimal n ++ 10 ∷ behind) own ∙ sym (append_assoc (decimal (2 * (1 + index))) (10 ∷ []) behind) in
    so_far ∙ ap (λ (t : List ℕ). input_lines 1 index ++ t) one ∙ sym (append_assoc (input_lines 1 index) (numbers_line (2 * (1 + index) ∷ [])) behind)
    ∙ ap (λ (t : List ℕ). t ++ behind) (sym (input_lines-more 1 index)) ∙ ap (λ (n : ℕ). input_lines 1 n ++ behind) next

-- ---- gates of a circuit

pub gates_text-append : (form : Form) (first : ℕ) (gs hs : List Gate) → gates_text form first (gs ++ hs) ≡ gates_text form first gs ++ gates_text form (first + length gs) hs
gates_text-append form first [] hs = ap (λ (k : ℕ). gates_text form k hs) (plus_none first)
gates_text-append form first (g ∷ gs) hs =
    ap (λ (t : List ℕ). gate_text form (2 * first) g ++ t) (gates_text-append form (suc first) gs hs ∙ ap (λ (k : ℕ). gates_text form (suc first) gs ++ gates_text form k hs) (plus_suc first (length gs)))
    ∙ sym (append_assoc (gate_text form (2 * first) g) (gates_text form (suc first) gs) (gates_text form (first + suc (length gs)) hs))

-- how many variables and gates there are then
pub variables_then : (old new : Circuit) (gs : List Gate) → new ≡ with_more_gates old gs → variables (net new) ≡ variables (net old) + length gs
variables_then old new gs is = ap (λ (c : Circuit). variables (net c)) is ∙ omega (arith, length-append old.gates gs)

-- gates are put onto a circuit in pieces
pub circuit_pieces : (form : Form) → FollowEachOther (ArePutGates form)
circuit_pieces form = record {
  none = λ c. record { gates = []; is = ap (λ (gs : List Gate). record c { gates = gs }) (sym (append-nil c.gates)); own = refl };
  both = λ a b c x y p q.
      let first : suc (variables (net b)) ≡ suc (variables (net a)) + length p.gates = omega (arith, variables_then a b p.gates p.is) in
      record {
        gates = p.gates ++ q.gates;
        is = q.is ∙ ap (λ (d : Circuit). with_more_gates d q.gates) p.is ∙ ap (λ (gs : List Gate). record a { gates = gs }) (append_assoc a.gates p.gates q.gates);
        own =
            ap (λ (t : List ℕ). t ++ y) p.own ∙ ap (λ (t : List ℕ). gates_text form (suc (variables (net a))) p.gates ++ t) (q.own ∙ ap (λ (k : ℕ). gates_text form k q.gates) first)
            ∙ sym (gates_text-append form (suc (variables (net a))) p.gates q.gates);
      };
}

-- one gate by its text
pub one_put : (form : Form) (c d : Circuit) (own : ℕ) (g : Gate) → own ≡ 2 * (variables (net c) + 1) → d ≡ with_gate c g.rhs0 g.rhs1 → ArePutGates form c d (gate_text form own g)
one_put form c d own g is next =
    let same : own ≡ 2 * suc (variables (net c)) = omega (arith, is) in
    record {
      gates = g ∷ [];
      is = next;
      own =
          ap (λ (n : ℕ). gate_text form n g) same ∙ sym (append-nil (gate_text form (2 * suc (variables (net c))) g));
    }

-- there is a variable more
pub one_variable : (c d : Circuit) (g : Gate) → d ≡ with_gate c g.rhs0 g.rhs1 → variables (net d) ≡ variables (net c) + 1
one_variable c d g is = variables_then c d (g ∷ []) is

pub one_gate : (c d : Circuit) (g : Gate) → d ≡ with_gate c g.rhs0 g.rhs1 → length d.gates ≡ length c.gates + 1
one_gate c d g is = ap (λ (x : Circuit). length x.gates) is ∙ length-append c.gates (g ∷ [])

-- ---- gates of the lists of a file

pub line_texts-append : (gs hs : List GateLine) → line_texts (gs ++ hs) ≡ line_texts gs ++ line_texts hs
line_texts-append [] hs = refl
line_texts-append (g ∷ gs) hs =
    ap (λ (t : List ℕ). numbers_line (g.lhs ∷ g.rhs0 ∷ g.rhs1 ∷ []) ++ t) (line_texts-append gs hs) ∙ sym (append_assoc (numbers_line (g.lhs ∷ g.rhs0 ∷ g.rhs1 ∷ [])) (line_texts gs) (line_texts hs))

pub lists_pieces : (greatest : ℕ) → FollowEachOther (IsPutOnLists greatest)
lists_pieces greatest = record {
  none = λ l. record { gates = []; is = ap (λ (gs : List GateLine). record l { gates = gs }) (sym (append-nil l.gates)); up_to = All-nil (IsLineUpTo greatest); own = refl };
  both = λ a b c x y p q. record {
    gates = p.gates ++ q.gates;
    is = q.is ∙ ap (λ (l : Loose). record l { gates = l.gates ++ q.gates }) p.is ∙ ap (λ (gs : List GateLine). record a { gates = gs }) (append_assoc a.gates p.gates q.gates);
    up_to = All-append (IsLineUpTo greatest) p.gates q.gates p.up_to q.up_to;
    own = ap (λ (t : List ℕ). t ++ y) p.own ∙ ap (λ (t : List ℕ). line_texts p.gates ++ t) q.own ∙ sym (line_texts-append p.gates q.gates);
  };
}

pub one_line : (greatest : ℕ) (l m : Loose) (g : GateLine) → (m ≡ with_gate_line l g) × IsLineUpTo greatest g → IsPutOnLists greatest l m (numbers_line (g.lhs ∷ g.rhs0 ∷ g.rhs1 ∷ []))
one_line greatest l m g added =
    record { gates = g ∷ []; is = added.0; up_to = All-cons (IsLineUpTo greatest) g [] added.1 (All-nil (IsLineUpTo greatest)); own = sym (append-nil (numbers_line (g.lhs ∷ g.rhs0 ∷ g.rhs1 ∷ []))) }

pub one_line_more : (l m : Loose) (g : GateLine) → m ≡ with_gate_line l g → length m.gates ≡ length l.gates + 1
one_line_more l m g is = ap (λ (x : Loose). length x.gates) is ∙ length-append l.gates (g ∷ [])

-- ---- texts of what was put

module _ {A : Type 0} (Puts : A → A → List ℕ → Type 0) (pieces : FollowEachOther Puts) where
  pub puts_then : (a b c : A) (m n s : ℕ) (x y z : Option (List ℕ)) → s ≡ m + n → PutsText Puts a b m x y → PutsText Puts b c n y z → PutsText Puts a c s x z
  puts_then a b c m n s x y z both_long p q =
      record {
        bytes = p.bytes ++ q.bytes;
        puts = pieces.both a b c p.bytes q.bytes p.puts q.puts;
        long = both_long ∙ omega (arith, p.long, q.long, length-append p.bytes q.bytes);
        text = Consumes-trans x y z _ _ p.text q.text;
      }

  -- where both texts are known, their lengths tell how many bytes were taken
  pub puts_more : (a b c : A) (n : ℕ) (text rest one behind : List ℕ) → PutsText Puts a b n (Some text) (Some rest) → rest ≡ one ++ behind → Puts b c one → PutsText Puts a c (length text - length behind) (Some text) (Some behind)
  puts_more a b c n text rest one behind p parts put =
      let all = puts_then a b c n (length one) (n + length one) (Some text) (Some rest) (Some behind) refl p (record { bytes = one; puts = put; long = refl; text = parts }) in
      let long : length text ≡ length all.bytes + length behind = ap (length {A = ℕ}) all.text ∙ length-append all.bytes behind in
      record { bytes = all.bytes; puts = all.puts; long = omega (arith, long); text = all.text }

-- the text that was put is dropped from what is held
pub puts_dropped : {A : Type 0} (Puts : A → A → List ℕ → Type 0) (a b : A) (n : ℕ) (text rest left : List ℕ) → PutsText Puts a b (length text - length rest) (Some text) (Some rest) → n ≡ length text - length rest → left ≡ drop n text → PutsText Puts a b n (Some text) (Some left)
puts_dropped Puts a b n text rest left p is dropped = record {
  bytes = p.bytes;
  puts = p.puts;
  long = is ∙ p.long;
  text = p.text ∙ ap (λ (t : List ℕ). p.bytes ++ t) (sym (dropped ∙ ap (λ (k : ℕ). drop k text) (is ∙ p.long) ∙ ap (drop (length p.bytes)) p.text ∙ drop-append_seam p.bytes rest));
}

-- what is still to come behind what is held
pub puts_held : {A : Type 0} (Puts : A → A → List ℕ → Type 0) (a b : A) (n : ℕ) (held rest : List ℕ) (known : Option (List ℕ)) → PutsText Puts a b n (Some held) (Some rest) → PutsText Puts a b n (prepend_known held known) (prepend_known rest known)
puts_held Puts a b n held rest None p = record { bytes = p.bytes; puts = p.puts; long = p.long; text = tt }
puts_held Puts a b n held rest (Some xs) p = record { bytes = p.bytes; puts = p.puts; long = p.long; text = ap (λ (t : List ℕ). t ++ xs) p.text ∙ append_assoc p.bytes rest xs }

-- what is still to come is held in another way
pub puts_kept : {A : Type 0} (Puts : A → A → List ℕ → Type 0) (a b : A) (n : ℕ) (x y z : Option (List ℕ)) → PutsText Puts a b n x y → Keeps y z → PutsText Puts a b n x z
puts_kept Puts a b n x y z p kept = record { bytes = p.bytes; puts = p.puts; long = p.long; text = Consumes-kept x y z _ p.text kept }

-- what was taken stands behind what was there before
pub front_kept : (front bytes held rest : List ℕ) (a b : Option (List ℕ)) → Consumes (prepend_known held a) (prepend_known rest b) bytes → Keeps (prepend_known (front ++ held) a) (prepend_known (front ++ (bytes ++ rest)) b)
front_kept front bytes held rest None b is = tt
front_kept front bytes held rest (Some xs) None is = absurd is
front_kept front bytes held rest (Some xs) (Some ys) is =
    append_assoc front (bytes ++ rest) ys ∙ ap (λ (t : List ℕ). front ++ t) (append_assoc bytes rest ys ∙ sym is) ∙ sym (append_assoc front held xs)

-- the rest is held behind what was there before
pub more_kept : (front held rest : List ℕ) (a b : Option (List ℕ)) → Keeps (prepend_known held a) (prepend_known rest b) → Keeps (prepend_known (front ++ held) a) (prepend_known (front ++ rest) b)
more_kept front held rest None b is = tt
more_kept front held rest (Some xs) None is = absurd is
more_kept front held rest (Some xs) (Some ys) is = append_assoc front rest ys ∙ ap (λ (t : List ℕ). front ++ t) is ∙ sym (append_assoc front held xs)

-- what is held at the end is what was to come
pub at_end : (known : Option (List ℕ)) (held : List ℕ) (left : Option (List ℕ)) → Keeps known (prepend_known held left) → IsAtEnd left → IfSome known (λ all. held ≡ all)
at_end None held left kept end = tt
at_end (Some all) held None kept end = absurd kept
at_end (Some all) held (Some xs) kept end = sym (append-nil held) ∙ ap (λ (t : List ℕ). held ++ t) (sym end) ∙ kept

-- ---- fronts

pub front_taken : (text front rest : List ℕ) → text ≡ front ++ rest → take (length text - length rest) text ≡ front
front_taken text front rest is =
    let long : length text ≡ length front + length rest = ap (length {A = ℕ}) is ∙ length-append front rest in
    ap (take (length text - length rest)) is ∙ take_at front rest (length text - length rest) (omega (arith, long))

pub rest_within : (text front rest : List ℕ) → text ≡ front ++ rest → length rest ≤ length text
rest_within text front rest is =
    let long : length text ≡ length front + length rest = ap (length {A = ℕ}) is ∙ length-append front rest in
    omega (arith, long)
