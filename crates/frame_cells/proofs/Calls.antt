-- What a call leaves in the window on the cells.
use Rattle.std.proofs.Common.{◌≡◌, ℕ, ◌+◌, ◌-◌, ◌≤◌, List, [], ◌++◌, length, take, drop, reverse, ap, sym, ◌∙◌, arith, subst}
use Rattle.std.proofs.Common.{length-append, length-drop, take-append-drop, drop_of_length-le}
use Rattle.std.proofs.lemmas.List.{take_all, drop-drop, take-append-le, drop-append-le, reverse-append, reverse-reverse}
use Rattle.std.proofs.lemmas.List.{length-reverse}
use Rattle.std.proofs.Math.Seq.{take-add, take-append_seam}
use Rattle.frame_cells.specs.declared.cell.Cell.{Cell}
use Rattle.frame_cells.specs.Window.{Window, window}
use Rattle.frame_cells.proofs.Windows.{drop-reverse, same}

pub take-reverse : {X : Type 0} → (s : List X) (n : ℕ) → n ≤ length s → reverse (take n (reverse s)) ≡
    drop (length s - n) s
take-reverse s n h =
    let k : ℕ = length s - n in
    let e : reverse s ≡ reverse (drop k s) ++ reverse (take k s) = ap reverse (sym (take-append-drop k s)) ∙
    reverse-append (take k s) (drop k s) in
    let f : length (reverse (drop k s)) ≡ n = length-reverse (drop k s) ∙ length-drop k s ∙
    omega (arith, h) in
    ap reverse (ap (take n) e ∙ ap (λ m. take m (reverse (drop k s) ++ reverse (take k s))) (sym f) ∙
    take-append_seam (reverse (drop k s)) (reverse (take k s))) ∙ reverse-reverse (drop k s)

window-enter-of : {R : Type 0} → (cells ys : List (Cell R)) (l b r args : ℕ) → l ≤ b → b ≤ length cells →
    args ≤ length cells - b →
    window (cells ++ ys) (length cells - args) (length cells + length ys) r ≡
    record {
      under = take l cells ++ take (b - l) (drop l cells) ++
          reverse (drop args (reverse (drop b cells)));
      own =
          record { locals = reverse (take args (reverse (drop b cells))) ++ ys; stack = []; room = r };
    }
window-enter-of cells ys l b r args lb bc h =
    let s : List (Cell _) = drop b cells in
    let n : length s ≡ length cells - b = length-drop b cells in
    let k : ℕ = length cells - args in
    let h' : args ≤ length s = omega (arith, n, h) in
    let m : l + (b - l) ≡ b = omega (arith, lb) in
    let e : k ≡ b + (length s - args) = omega (arith, n, h, bc) in
    let t : reverse (drop args (reverse s)) ≡ take (length s - args) s =
    ap reverse (drop-reverse s args h') ∙
    reverse-reverse (take (length s - args) s) in
    let u : take k cells ≡ take l cells ++ take (b - l) (drop l cells) ++ reverse (drop args (reverse s)) =
    ap (λ j. take j cells) e ∙ take-add b (length s - args) cells ∙
    ap (λ x. x ++ take (length s - args) s) (ap (λ j. take j cells) (sym m) ∙ take-add l (b - l) cells) ∙
    ap (λ x. take l cells ++ take (b - l) (drop l cells) ++ x) (sym t) in
    let v : drop k cells ≡ reverse (take args (reverse s)) =
    ap (λ j. drop j cells) e ∙ sym (drop-drop (length s - args) b cells) ∙ sym (take-reverse s args h') in
    let all : length (drop k cells ++ ys) ≤ length cells + length ys - k =
    omega (arith, length-append (drop k cells) ys, length-drop k cells, h, bc) in
    same r (take-append-le k cells ys (omega arith) ∙ u)
    (ap (take (length cells + length ys - k)) (drop-append-le k cells ys (omega arith)) ∙
    take_all _ (drop k cells ++ ys) all ∙ ap (λ d. d ++ ys) v)
    (ap reverse (drop_of_length-le (cells ++ ys) (omega (arith, length-append cells ys))))

pub window-enter : {R : Type 0} → (w : Window R) (cells ys new : List (Cell R)) (l b r r' args : ℕ) →
    window cells l b r ≡ w → new ≡ cells ++ ys → l ≤ b → b ≤ length cells → args ≤ length w.own.stack →
    window new (length cells - args) (length new) r' ≡
    record {
      under = w.under ++ w.own.locals ++ reverse (drop args w.own.stack);
      own =
          record { locals = reverse (take args w.own.stack) ++ ys; stack = []; room = r' };
    }
window-enter w cells ys new l b r r' args e f lb bc x =
    let P : Window _ → Type 0 = λ v. args ≤ length v.own.stack →
    window new (length cells - args) (length new) r' ≡
    record {
      under = v.under ++ v.own.locals ++ reverse (drop args v.own.stack);
      own =
          record { locals = reverse (take args v.own.stack) ++ ys; stack = []; room = r' };
    } in
    subst P e (λ p. ap (λ c. window c (length cells - args) (length c) r') f ∙
    ap (λ n. window (cells ++ ys) (length cells - args) n r') (length-append cells ys) ∙
    window-enter-of cells ys l b r' args lb bc
    (omega (arith, p, length-reverse (drop b cells), length-drop b cells))) x
