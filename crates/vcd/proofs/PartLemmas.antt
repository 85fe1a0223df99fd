-- The pieces of declarations.
use Rattle.std.proofs.Common.{◌≡◌, ℕ, suc, ◌+◌, ◌<◌, Bool, true, false, cond, List, [], ◌∷◌, ◌++◌, codes, decimal, length, map, filter, flat_map, drop, get_or, refl, sym, ap, subst, ◌∙◌, append_assoc, drop-cons, add-one}
use Rattle.std.proofs.lemmas.List.Concat.{flat_map-append}
use Rattle.base.specs.Lines.{text_of_lines}
use Rattle.btor2.specs.declared.item.Item.{Item}
use Rattle.vcd.specs.declared.scope.Scope.{Scope}
use Rattle.vcd.specs.declared.scope.Shown.{Shown}
use Rattle.vcd.specs.Names.{code, title_byte, title_bytes}
use Rattle.vcd.specs.Signals.{scope_name, scopes, signals_in}
use Rattle.vcd.specs.Dumps.{range, var_line, scope_lines, declaration_lines}

pub title_at : (i : ℕ) (title : List ℕ) (b d put : ℕ) → i < length title → b ≡ get_or title i d → put ≡ title_byte b → map title_byte (drop i title) ≡ (put ∷ []) ++ map title_byte (drop (i + 1) title)
title_at i title b d put lt e is =
    rw is (subst (λ (x : ℕ). map title_byte (drop i title) ≡ (title_byte x ∷ []) ++ map title_byte (drop (i + 1) title)) (sym e) (rw (drop-cons title i d lt, add-one i) refl))

-- the lines of the items of a list that pass a test
pub lines_at : (test : Item → Bool) (line : Item → List ℕ) (i : ℕ) (items : List Item) (x d : Item) → i < length items → x ≡ get_or items i d
    → text_of_lines (map line (filter test (drop i items))) ≡ text_of_lines (map line (filter test (x ∷ []))) ++ text_of_lines (map line (filter test (drop (i + 1) items)))
lines_at test line i items x d lt e =
    subst (λ (y : Item). text_of_lines (map line (filter test (drop i items))) ≡ text_of_lines (map line (filter test (y ∷ []))) ++ text_of_lines (map line (filter test (drop (i + 1) items)))) (sym e)
    (rw (drop-cons items i d lt, add-one i) (by (test (get_or items i d))))
  where
    rest : List Item
    rest = filter test (drop (suc i) items)

    by : (b : Bool) → text_of_lines (map line (cond b (get_or items i d ∷ rest) rest)) ≡ text_of_lines (map line (cond b (get_or items i d ∷ []) [])) ++ text_of_lines (map line rest)
    by true = flat_map-append (λ l. l ++ 10 ∷ []) (line (get_or items i d) ∷ []) (map line rest)
    by false = refl

-- a scope: its first line, the lines of its signals, and its last
pub scope_parts : (s : Shown) (items : List Item) (c : Scope)
    → text_of_lines (scope_lines s items c) ≡ codes "$scope module " ++ (scope_name c ++ (codes " $end\n" ++ (text_of_lines (map (var_line s items c) (signals_in s items c)) ++ codes "$upscope $end\n")))
scope_parts s items c =
    let rest : List ℕ = text_of_lines (map (var_line s items c) (signals_in s items c) ++ codes "$upscope $end" ∷ []) in
    append_assoc (codes "$scope module " ++ (scope_name c ++ codes " $end")) (10 ∷ []) rest
    ∙ (append_assoc (codes "$scope module ") (scope_name c ++ codes " $end") (10 ∷ rest)
    ∙ (ap (λ (l : List ℕ). codes "$scope module " ++ l) (append_assoc (scope_name c) (codes " $end") (10 ∷ rest))
    ∙ ap (λ (l : List ℕ). codes "$scope module " ++ (scope_name c ++ (codes " $end\n" ++ l))) (flat_map-append (λ line. line ++ 10 ∷ []) (map (var_line s items c) (signals_in s items c)) (codes "$upscope $end" ∷ []))))

-- the line of a signal, whose width and name are these
pub var_pieces : (width id : ℕ) (name : List ℕ)
    → (codes "$var wire " ++ (decimal width ++ 32 ∷ (code id ++ 32 ∷ (name ++ (range width ++ codes " $end\n"))))) ≡ (codes "$var wire " ++ (decimal width ++ 32 ∷ (code id ++ 32 ∷ []))) ++ (name ++ (range width ++ codes " $end\n"))
var_pieces width id name =
    let rest : List ℕ = name ++ (range width ++ codes " $end\n") in
    sym (append_assoc (codes "$var wire ") (decimal width ++ 32 ∷ (code id ++ 32 ∷ [])) rest
    ∙ (ap (λ (l : List ℕ). codes "$var wire " ++ l) (append_assoc (decimal width) (32 ∷ (code id ++ 32 ∷ [])) rest)
    ∙ ap (λ (l : List ℕ). codes "$var wire " ++ (decimal width ++ 32 ∷ l)) (append_assoc (code id) (32 ∷ []) rest)))

-- all declarations
pub declaration_parts : (s : Shown) (title : List ℕ) (items : List Item)
    → text_of_lines (declaration_lines s title items) ≡ codes "$comment " ++ (title_bytes title ++ (codes " $end\n$timescale 1 ns $end\n" ++ (text_of_lines (flat_map (scope_lines s items) scopes) ++ codes "$enddefinitions $end\n")))
declaration_parts s title items =
    let rest : List ℕ = text_of_lines (flat_map (scope_lines s items) scopes ++ codes "$enddefinitions $end" ∷ []) in
    let behind : List ℕ = codes "$timescale 1 ns $end\n" ++ rest in
    append_assoc (codes "$comment " ++ (title_bytes title ++ codes " $end")) (10 ∷ []) behind
    ∙ (append_assoc (codes "$comment ") (title_bytes title ++ codes " $end") (10 ∷ behind)
    ∙ (ap (λ (l : List ℕ). codes "$comment " ++ l) (append_assoc (title_bytes title) (codes " $end") (10 ∷ behind))
    ∙ ap (λ (l : List ℕ). codes "$comment " ++ (title_bytes title ++ (codes " $end\n$timescale 1 ns $end\n" ++ l))) (flat_map-append (λ line. line ++ 10 ∷ []) (flat_map (scope_lines s items) scopes) (codes "$enddefinitions $end" ∷ []))))

pub scopes_at : (s : Shown) (items : List Item) (i : ℕ) (cs : List Scope) (c d : Scope) → i < length cs → c ≡ get_or cs i d
    → text_of_lines (flat_map (scope_lines s items) (drop i cs)) ≡ text_of_lines (scope_lines s items c) ++ text_of_lines (flat_map (scope_lines s items) (drop (i + 1) cs))
scopes_at s items i cs c d lt e =
    subst (λ (x : Scope). text_of_lines (flat_map (scope_lines s items) (drop i cs)) ≡ text_of_lines (scope_lines s items x) ++ text_of_lines (flat_map (scope_lines s items) (drop (i + 1) cs))) (sym e)
    (rw (drop-cons cs i d lt, add-one i) (flat_map-append (λ line. line ++ 10 ∷ []) (scope_lines s items (get_or cs i d)) (flat_map (scope_lines s items) (drop (suc i) cs))))
