-- A writing grows by what a list gets.
use Rattle.std.proofs.Common.{◌≡◌, inl, inr, ℕ, ◌<◌, ◌≤◌, true, false, List, [], ◌∷◌, ◌++◌, length, Option, sym, ap, ◌∙◌, eqb, arith}
use Rattle.std.specs.List.{AllByRecursion}
use Rattle.std.proofs.lemmas.Bool.{false≢true}
use Rattle.btor2.specs.declared.item.Item.{Item}
use Rattle.btor2.specs.declared.item.Body.{Body}
use Rattle.btor2.specs.declared.item.Body.TheVariants as body
use Rattle.btor2.specs.Items.{operands}
use Rattle.full.specs.Lines.{FullLine}
use Rattle.full.specs.WrittenOut.{Places, OnlyChooses}
use Rattle.full.proofs.ListLemmas.{all_with}
use Rattle.cells.specs.Lines.{named, is_plain, IsAmong, MayName, Extends}
use Rattle.writeout.specs.Writings.{Writing, IsGiven, IsOther, Grows}
use Rattle.writeout.specs.Nodes.{NodesStand}

-- a line that does not name the state that is 1 in the first frame alone
pub only_by : (full : List FullLine) (p : Places) (wide : List Item) (first : ℕ) (b : Body) → AllByRecursion (λ a. eqb a first ≡ false) (operands b) → OnlyChooses full p wide first b
only_by full p wide first (body.Ite s c v u) h = (h.1.0, h.1.1.0, λ is. absurd (false≢true (sym h.0 ∙ is)))
only_by full p wide first (body.Sort n) h = λ there. h
only_by full p wide first (body.Input s) h = λ there. h
only_by full p wide first (body.State s) h = λ there. h
only_by full p wide first (body.Zero s) h = λ there. h
only_by full p wide first (body.One s) h = λ there. h
only_by full p wide first (body.Ones s) h = λ there. h
only_by full p wide first (body.Const s d v) h = λ there. h
only_by full p wide first (body.Constd s v) h = λ there. h
only_by full p wide first (body.Consth s d v) h = λ there. h
only_by full p wide first (body.Uext s a by) h = λ there. h
only_by full p wide first (body.Sext s a by) h = λ there. h
only_by full p wide first (body.Slice s a u l) h = λ there. h
only_by full p wide first (body.Unary op s a) h = λ there. h
only_by full p wide first (body.Binary op s a b) h = λ there. h
only_by full p wide first (body.Concat s a b) h = λ there. h
only_by full p wide first (body.Init s t v) h = λ there. h
only_by full p wide first (body.Next s t v) h = λ there. h
only_by full p wide first (body.Bad a) h = λ there. h
only_by full p wide first (body.Constraint a) h = λ there. h
only_by full p wide first (body.Fair a) h = λ there. h
only_by full p wide first (body.Output a) h = λ there. h
only_by full p wide first (body.Justice ns) h = λ there. h

beyond : (first many a : ℕ) → first ≤ many → many < a → eqb a first ≡ false
beyond first many a h k = grind arith

among : (first a : ℕ) (handed : List ℕ) → AllByRecursion (IsOther first) handed → IsAmong a handed → IsGiven first → eqb a first ≡ false
among first a [] h is given = absurd is
among first a (x ∷ xs) h (inl same) given = ap (λ (n : ℕ). eqb n first) same ∙ h.0 given
among first a (x ∷ xs) h (inr more) given = among first a xs h.1 more given

may : (first many a : ℕ) (handed : List ℕ) → first ≤ many → AllByRecursion (IsOther first) handed → IsGiven first → MayName many handed a → eqb a first ≡ false
may first many a handed within h given (inl behind) = beyond first many a within behind
may first many a handed within h given (inr is) = among first a handed h is given

-- a node behind the list is another
pub new_is_other : (full : List FullLine) (w : Writing) (a : ℕ) → NodesStand full w → length w.items < a → IsOther w.first a
new_is_other full w a h behind given = beyond w.first (length w.items) a (h.first given).within behind

-- the list goes on by plain lines
pub extends_grows : (full : List FullLine) (w : Writing) (items : List Item) (handed : List ℕ) → NodesStand full w → AllByRecursion (IsOther w.first) handed → Extends w.items items handed → Grows full w items
extends_grows full w items handed h others e = record {
  more = e.more;
  is = e.is;
  plain = e.plain;
  only = λ given p wide g.
      all_with (λ (y : Item). AllByRecursion (MayName (length w.items) handed) (operands y.body)) (λ (y : Item). OnlyChooses full p wide w.first y.body) e.more
      (λ y names. only_by full p wide w.first y.body (all_with (MayName (length w.items) handed) (λ a. eqb a w.first ≡ false) (operands y.body) (λ a. may w.first (length w.items) a handed (h.first given).within others given) names))
      e.names;
}

-- and by one
pub line_grows : (full : List FullLine) (w : Writing) (items : List Item) (id : ℕ) (symbol : Option (List ℕ)) (b : Body) → items ≡ w.items ++ named id symbol b ∷ [] → is_plain b ≡ true
    → AllByRecursion (IsOther w.first) (operands b) → Grows full w items
line_grows full w items id symbol b e plain others = record {
  more = named id symbol b ∷ [];
  is = e;
  plain = (plain, tt);
  only = λ given p wide g. (only_by full p wide w.first b (all_with (IsOther w.first) (λ a. eqb a w.first ≡ false) (operands b) (λ a other. other given) others), tt);
}
