use Rattle.std.proofs.Common.{◌≡◌, ◌-◌, length, replicate, get_or, refl, ap, ◌∙◌, arith, ℕ, ◌≤◌, take, drop, sym, List, length-append, length-drop, ◌++◌}
use Rattle.std.proofs.lemmas.List.{length-replicate, length-take-le}
use Rattle.std.proofs.lemmas.List.Elements.{All-replicate, All-get_or}
use Rattle.aiger.specs.Net.{IsDefined}
use Rattle.gates.specs.Made.{word_value}
use Rattle.gates.proofs.MoveLemmas.{sll_window, srl_window, rol_window, ror_window, window_value}
use Rattle.gates.proofs.WindowLemmas.{word_value-window, word_value-replicate, All-window, sra-sign}
use Rattle.gates.proofs.shifts.moved.Goals as goal

pub returns-in-Sll-clause-means : goal.returns-in-Sll-clause-means
returns-in-Sll-clause-means c = λ v.
    let a = c.args.a.now in
    let n = length a in
    let by = c.args.by in
    rw (c.in-Sll.is, c.window.ensures, (c.as_slice.ensures.value ∙ c.repeated.ensures)) (word_value-window v (replicate n 0) a n (n - by) (length-replicate n 0) refl (omega arith)
    ∙ ap (λ w. window_value n w (word_value v a) (n - by)) (word_value-replicate v n 0) ∙ sll_window n (word_value v a) by (omega arith))

pub returns-in-Srl-clause-defined : goal.returns-in-Srl-clause-defined
returns-in-Srl-clause-defined c = λ net all.
    let a = c.args.a.now in
    rw (c.window-in-Srl.ensures, (c.as_slice-in-Srl.ensures.value ∙ c.repeated-in-Srl.ensures)) (All-window (IsDefined net) a (replicate (length a) 0) c.args.by all (All-replicate (IsDefined net) (length a) 0 (omega arith)))

pub returns-in-Srl-clause-means : goal.returns-in-Srl-clause-means
returns-in-Srl-clause-means c = λ v.
    let a = c.args.a.now in
    let n = length a in
    let by = c.args.by in
    rw (c.in-Srl.is, c.window-in-Srl.ensures, (c.as_slice-in-Srl.ensures.value ∙ c.repeated-in-Srl.ensures)) (word_value-window v a (replicate n 0) n by refl (length-replicate n 0) (omega arith)
    ∙ ap (λ w. window_value n (word_value v a) w by) (word_value-replicate v n 0) ∙ srl_window n (word_value v a) by)

pub returns-in-Sra-clause-defined : goal.returns-in-Sra-clause-defined
returns-in-Sra-clause-defined c = λ net all.
    let a = c.args.a.now in
    let sign = c.index-a-width.result in
    let is : sign ≡ get_or a (length a - 1) sign = c.index-a-width.is in
    let defined : IsDefined net sign = rw is (All-get_or (IsDefined net) a (length a - 1) sign (omega arith) all) in
    rw (c.window-in-Sra.ensures, (c.as_slice-in-Sra.ensures.value ∙ c.repeated-in-Sra.ensures)) (All-window (IsDefined net) a (replicate (length a) sign) c.args.by all (All-replicate (IsDefined net) (length a) sign defined))

pub returns-in-Sra-clause-means : goal.returns-in-Sra-clause-means
returns-in-Sra-clause-means c = λ v.
    let a = c.args.a.now in
    let n = length a in
    let by = c.args.by in
    let sign = c.index-a-width.result in
    let is : sign ≡ get_or a (n - 1) sign = c.index-a-width.is in
    rw (c.in-Sra.is, c.window-in-Sra.ensures, (c.as_slice-in-Sra.ensures.value ∙ c.repeated-in-Sra.ensures)) (word_value-window v a (replicate n sign) n by refl (length-replicate n sign) (omega arith)
    ∙ ap (λ w. window_value n (word_value v a) w by) (word_value-replicate v n sign) ∙ sra-sign v a n sign by (omega arith) refl is (omega arith))

pub returns-in-Rol-clause-means : goal.returns-in-Rol-clause-means
returns-in-Rol-clause-means c = λ v.
    let a = c.args.a.now in
    let n = length a in
    let by = c.args.by in
    rw (c.in-Rol.is, c.window-in-Rol.ensures) (word_value-window v a a n (n - by) refl refl (omega arith) ∙ rol_window n (word_value v a) by c.requires.below)

pub returns-in-Ror-clause-defined : goal.returns-in-Ror-clause-defined
returns-in-Ror-clause-defined c = λ net all.
    let a = c.args.a.now in
    rw c.window-in-Ror.ensures (All-window (IsDefined net) a a c.args.by all all)

pub returns-in-Ror-clause-means : goal.returns-in-Ror-clause-means
returns-in-Ror-clause-means c = λ v.
    let a = c.args.a.now in
    let n = length a in
    let by = c.args.by in
    rw (c.in-Ror.is, c.window-in-Ror.ensures) (word_value-window v a a n by refl refl (omega arith) ∙ ror_window n (word_value v a) by c.requires.below)

-- a window is as wide as the words that it is cut from
length-window : (low high : List ℕ) (n k : ℕ) → length low ≡ n → length high ≡ n → k ≤ n → length (drop k low ++ take k high) ≡ n
length-window low high n k in_low in_high le = omega (arith, length-append (drop k low) (take k high), length-drop k low, length-take-le k high (omega arith))

pub window-requires-clause-most : goal.window-requires-clause-most
window-requires-clause-most c =
    let count : length c.as_slice.result.now ≡ length c.args.a.now = ap length (c.as_slice.ensures.value ∙ c.repeated.ensures) ∙ length-replicate (length c.args.a.now) 0 in
    omega (arith, count, c.requires.most)

pub window-requires-clause-equal : goal.window-requires-clause-equal
window-requires-clause-equal c = sym (ap length (c.as_slice.ensures.value ∙ c.repeated.ensures) ∙ length-replicate (length c.args.a.now) 0)

pub window-requires-clause-inside : goal.window-requires-clause-inside
window-requires-clause-inside c =
    let count : length c.as_slice.result.now ≡ length c.args.a.now = ap length (c.as_slice.ensures.value ∙ c.repeated.ensures) ∙ length-replicate (length c.args.a.now) 0 in
    omega (arith, count)

pub returns-in-Sll-clause-wide : goal.returns-in-Sll-clause-wide
returns-in-Sll-clause-wide c =
    let count : length c.as_slice.result.now ≡ length c.args.a.now = ap length (c.as_slice.ensures.value ∙ c.repeated.ensures) ∙ length-replicate (length c.args.a.now) 0 in
    ap length c.window.ensures ∙ length-window c.as_slice.result.now c.args.a.now (length c.args.a.now) (length c.args.a.now - c.args.by) count refl (omega arith)

pub window-requires-in-Srl-clause-equal : goal.window-requires-in-Srl-clause-equal
window-requires-in-Srl-clause-equal c = ap length (c.as_slice-in-Srl.ensures.value ∙ c.repeated-in-Srl.ensures) ∙ length-replicate (length c.args.a.now) 0

pub returns-in-Srl-clause-wide : goal.returns-in-Srl-clause-wide
returns-in-Srl-clause-wide c =
    let count : length c.as_slice-in-Srl.result.now ≡ length c.args.a.now = ap length (c.as_slice-in-Srl.ensures.value ∙ c.repeated-in-Srl.ensures) ∙ length-replicate (length c.args.a.now) 0 in
    ap length c.window-in-Srl.ensures ∙ length-window c.args.a.now c.as_slice-in-Srl.result.now (length c.args.a.now) c.args.by refl count (omega (arith, c.requires.below))

pub window-requires-in-Sra-clause-equal : goal.window-requires-in-Sra-clause-equal
window-requires-in-Sra-clause-equal c = ap length (c.as_slice-in-Sra.ensures.value ∙ c.repeated-in-Sra.ensures) ∙ length-replicate (length c.args.a.now) c.index-a-width.result

pub returns-in-Sra-clause-wide : goal.returns-in-Sra-clause-wide
returns-in-Sra-clause-wide c =
    let count : length c.as_slice-in-Sra.result.now ≡ length c.args.a.now = ap length (c.as_slice-in-Sra.ensures.value ∙ c.repeated-in-Sra.ensures) ∙ length-replicate (length c.args.a.now) c.index-a-width.result in
    ap length c.window-in-Sra.ensures ∙ length-window c.args.a.now c.as_slice-in-Sra.result.now (length c.args.a.now) c.args.by refl count (omega (arith, c.requires.below))

pub returns-in-Rol-clause-wide : goal.returns-in-Rol-clause-wide
returns-in-Rol-clause-wide c =
    ap length c.window-in-Rol.ensures ∙ length-window c.args.a.now c.args.a.now (length c.args.a.now) (length c.args.a.now - c.args.by) refl refl (omega arith)

pub returns-in-Ror-clause-wide : goal.returns-in-Ror-clause-wide
returns-in-Ror-clause-wide c =
    ap length c.window-in-Ror.ensures ∙ length-window c.args.a.now c.args.a.now (length c.args.a.now) c.args.by refl refl (omega (arith, c.requires.below))

pub returns-in-Sll-clause-defined : goal.returns-in-Sll-clause-defined
returns-in-Sll-clause-defined c = λ net all.
    let a = c.args.a.now in
    rw (c.window.ensures, (c.as_slice.ensures.value ∙ c.repeated.ensures)) (All-window (IsDefined net) (replicate (length a) 0) a (length a - c.args.by) (All-replicate (IsDefined net) (length a) 0 (omega arith)) all)

pub returns-in-Rol-clause-defined : goal.returns-in-Rol-clause-defined
returns-in-Rol-clause-defined c = λ net all.
    let a = c.args.a.now in
    rw (c.window-in-Rol.ensures) (All-window (IsDefined net) a a (length a - c.args.by) all all)
