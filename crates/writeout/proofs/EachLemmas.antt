-- The leaves line by line.
use Rattle.std.proofs.Common.{◌≡◌, ℕ, suc, ◌<◌, Bool, true, false, ◌||◌, List, [], ◌∷◌, ◌++◌, map, length, take, slice_get, get_or, Option, Some, None, is_some, IfSome, option_and_then, append_assoc, refl, sym, ap, subst, ◌∙◌}
use Rattle.std.specs.List.{AllByRecursion}
use Rattle.std.proofs.Math.Seq.{take-suc}
use Rattle.std.proofs.lemmas.Bool.{false≢true}
use Rattle.std.proofs.lemmas.List.{map-append}
use Rattle.btor2.specs.declared.item.Item.{Item}
use Rattle.btor2.proofs.AppendLemmas.{some_of, is_some_from}
use Rattle.full.specs.Lines.{FullLine, Says, find_line, sort_at, sort_named, sort_of, sort_of_node}
use Rattle.full.specs.Agreement.{IsFullAfter, IsFullModel}
use Rattle.full.proofs.FullLookUps.{each_found, sort_on}
use Rattle.fullmodel.specs.declared.line.Line.{Line}
use Rattle.fullmodel.specs.Lines.{line_of}
use Rattle.writeout.specs.Putting.{PutsLeaf, LeavesMade}
use Rattle.writeout.proofs.MadeLemmas.{line_more}
use Rattle.writeout.proofs.NeedLemmas.{all_get}

pub small_id : (full : List FullLine) (k n : ℕ) (x : FullLine) → AllByRecursion (λ (y : FullLine). y.id < n) full → slice_get full k ≡ Some x → x.id < n
small_id full k n x h is = all_get (λ (y : FullLine). y.id < n) full k x h is

-- a line with a value has a sort
abbrev HasSort : List FullLine → Says → Type 0
HasSort lines b = IfSome (sort_named b) (λ s. is_some (sort_at lines s) ≡ true)

sort_there : (before more : List FullLine) (o : Option ℕ) → IfSome o (λ s. is_some (sort_at before s) ≡ true) → IfSome o (λ s. is_some (sort_at (before ++ more) s) ≡ true)
sort_there before more None h = tt
sort_there before more (Some s) h = let sort = some_of (sort_at before s) h in is_some_from (sort_at (before ++ more) s) sort.0 (sort_on before more s sort.0 sort.1)

sorts_from : (lines front xs : List FullLine) → lines ≡ front ++ xs → IsFullAfter front xs → AllByRecursion (λ (x : FullLine). HasSort lines x.says) xs
sorts_from lines front [] e w = tt
sorts_from lines front (x ∷ xs) e w = (
  subst (λ (l : List FullLine). HasSort l x.says) (sym e) (sort_there front (x ∷ xs) (sort_named x.says) w.0.sort),
  sorts_from lines (front ++ x ∷ []) xs (e ∙ sym (append_assoc front (x ∷ []) xs)) w.1,
)

pub valued_node : (full : List FullLine) (k : ℕ) (x : FullLine) → IsFullModel full → slice_get full k ≡ Some x → is_some (sort_named x.says) ≡ true → is_some (sort_of_node full x.id) ≡ true
valued_node full k x m is value =
    ap (λ (o : Option FullLine). is_some (option_and_then (λ (y : FullLine). sort_of full y.says) o)) (all_get (λ (y : FullLine). find_line full y.id ≡ Some y) full k x (each_found full m) is)
    ∙ by (sort_named x.says) value (all_get (λ (y : FullLine). HasSort full y.says) full k x (sorts_from full [] full refl m) is)
  where
    by : (o : Option ℕ) → is_some o ≡ true → IfSome o (λ s. is_some (sort_at full s) ≡ true) → is_some (option_and_then (sort_at full) o) ≡ true
    by None there h = absurd (false≢true there)
    by (Some s) there h = h

-- one line more
pub each_step : (full : List FullLine) (lines : List Line) (j m : ℕ) (x : Line) (items new : List Item) (nodes nodes' leaves leaves' : List ℕ) (any any' : Bool) (node leaf : ℕ) (by_first : Bool) → m ≡ suc j → j < length lines → x ≡ get_or lines j x
    → LeavesMade full (map line_of (take j lines)) items nodes leaves any → PutsLeaf full x.id items new node leaf by_first (line_of x).says → nodes' ≡ nodes ++ node ∷ [] → leaves' ≡ leaves ++ leaf ∷ [] → any' ≡ (any || by_first)
    → LeavesMade full (map line_of (take m lines)) new nodes' leaves' any'
each_step full lines j m x items new nodes nodes' leaves leaves' any any' node leaf by_first next within at h puts e f g =
    let front : map line_of (take m lines) ≡ map line_of (take j lines) ++ line_of x ∷ [] =
    ap (λ (n : ℕ). map line_of (take n lines)) next ∙ ap (map line_of) (take-suc lines j x within ∙ ap (λ (z : Line). take j lines ++ z ∷ []) (sym at)) ∙ map-append line_of (take j lines) (x ∷ []) in
    let made = line_more full (map line_of (take j lines)) (line_of x) items new nodes leaves any node leaf by_first h puts in
    subst (λ (l : List FullLine). LeavesMade full l new nodes' leaves' any') (sym front)
    (subst (λ (l : List ℕ). LeavesMade full (map line_of (take j lines) ++ line_of x ∷ []) new l leaves' any') (sym e)
    (subst (λ (l : List ℕ). LeavesMade full (map line_of (take j lines) ++ line_of x ∷ []) new (nodes ++ node ∷ []) l any') (sym f)
    (subst (λ (b : Bool). LeavesMade full (map line_of (take j lines) ++ line_of x ∷ []) new (nodes ++ node ∷ []) (leaves ++ leaf ∷ []) b) (sym g) made)))

pub each_done : (full : List FullLine) (lines : List Line) (j : ℕ) (items : List Item) (nodes leaves : List ℕ) (any : Bool) → map line_of lines ≡ full → take j lines ≡ lines → LeavesMade full (map line_of (take j lines)) items nodes leaves any
    → LeavesMade full full items nodes leaves any
each_done full lines j items nodes leaves any e whole h = subst (λ (l : List FullLine). LeavesMade full l items nodes leaves any) (ap (map line_of) whole ∙ e) h

pub each_begins : (full : List FullLine) (items : List Item) (nodes leaves : List ℕ) → items ≡ [] → nodes ≡ [] → leaves ≡ [] → LeavesMade full [] [] [] [] false → LeavesMade full [] items nodes leaves false
each_begins full items nodes leaves e f g h =
    subst (λ (l : List Item). LeavesMade full [] l nodes leaves false) (sym e) (subst (λ (l : List ℕ). LeavesMade full [] [] l leaves false) (sym f) (subst (λ (l : List ℕ). LeavesMade full [] [] [] l false) (sym g) h))
