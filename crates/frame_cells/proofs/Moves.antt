-- What a copy of the top cells leaves in the window on the cells.
use Rattle.std.proofs.Common.{◌≡◌, ℕ, ◌+◌, ◌-◌, ◌≤◌, List, [], ◌∷◌, ◌++◌, length, take, drop, reverse, ap, sym, ◌∙◌, arith}
use Rattle.std.proofs.Common.{subst, length-append, length-drop, true, Some, slice_get}
use Rattle.std.proofs.lemmas.List.{take-take, length-take-le, take-append-le, drop-drop, reverse-append, reverse-reverse}
use Rattle.std.proofs.lemmas.List.{length-reverse}
use Rattle.std.proofs.Math.Seq.{drop-append_seam}
use Rattle.std.specs.List.{insert}
use Rattle.frame_cells.specs.declared.cell.Cell.{Cell}
use Rattle.frame_cells.specs.declared.cell.Did.TheVariants.{Next}
use Rattle.frame_cells.specs.Window.{Window, window}
use Rattle.frame_cells.specs.Own.{is_whole}
use Rattle.frame_cells.specs.Families.{copies}
use Rattle.frame_cells.proofs.Windows.{put-window, window-depth}
use Rattle.frame_cells.proofs.Calls.{take-reverse}

reverse-end : {X : Type 0} → (xs : List X) (b j : ℕ) → b ≤ length xs → j ≤ length (reverse (drop b xs)) →
    reverse (drop (length xs - j) xs) ≡ take j (reverse (drop b xs))
reverse-end xs b j bc h =
    let s = drop b xs in
    let n : length s ≡ length xs - b = length-drop b xs in
    let h' : j ≤ length s = omega (arith, h, length-reverse s) in
    let e : length xs - j ≡ b + (length s - j) = omega (arith, n, h', bc) in
    ap reverse (ap (λ i. drop i xs) e ∙ sym (drop-drop (length s - j) b xs) ∙ sym (take-reverse s j h')) ∙
    reverse-reverse (take j (reverse s))

pub take-one : {X : Type 0} → (xs : List X) (x : X) → slice_get xs 0 ≡ Some x → take 1 xs ≡ x ∷ []
take-one [] x e = cc
take-one (y ∷ ys) x e = cc

pub take-two : {X : Type 0} → (xs : List X) (x y : X) → slice_get xs 0 ≡ Some x → slice_get xs 1 ≡ Some y →
    take 2 xs ≡ x ∷ y ∷ []
take-two [] x y e f = cc
take-two (a ∷ []) x y e f = cc
take-two (a ∷ b ∷ xs) x y e f = cc

pub copies-window : {R : Type 0} → (w : Window R) (cells ys new : List (Cell R)) (l b r m n : ℕ) →
    window cells l b r ≡ w → new ≡ take (length cells - (m + n)) cells ++
    (ys ++ drop (length cells - (m + n)) cells) →
    take m w.own.stack ≡ reverse ys → is_whole m w.own ≡ true → is_whole (m + n) w.own ≡ true → l ≤ b →
    b ≤ length cells → m + n ≤ length w.own.stack → length w.own.stack + m ≤ r → length ys ≡ m →
    window new l b r ≡ record { under = w.under; own = (copies m n w.own).own }
copies-window w cells ys new l b r m n e f t p q lb bc x room len =
    let d : List (Cell _) = drop (length cells - (m + n)) cells in
    let z : reverse d ≡ take (m + n) w.own.stack =
    let P : Window _ → Type 0 = λ v. m + n ≤ length v.own.stack → reverse d ≡ take (m + n) v.own.stack in
    subst P e (λ y. reverse-end cells b (m + n) bc y) x in
    let dl : length d ≡ m + n = length-drop (length cells - (m + n)) cells ∙
    omega (arith, window-depth w cells l b r e, x, bc) in
    let k = put-window w cells (ys ++ d) new l b r (m + n) Next e f lb bc x
    (omega (arith, length-append ys d, len, dl, room, x)) in
    k ∙ simp (p, q, t) (simp (reverse-append, z))

pub insert_twice : {X : Type 0} → (xs : List X) (k : ℕ) (x y : X) → k ≤ length xs →
    insert (insert xs k x) k y ≡ take k xs ++ (y ∷ x ∷ [] ++ drop k xs)
insert_twice xs k x y h =
    let a : take k (insert xs k x) ≡ take k xs =
    take-append-le k (take k xs) (x ∷ drop k xs) (omega (arith, length-take-le k xs h)) ∙
    take-take k k xs (omega arith) in
    let c : drop k (insert xs k x) ≡ x ∷ drop k xs =
    ap (λ j. drop j (take k xs ++ (x ∷ drop k xs))) (sym (length-take-le k xs h)) ∙
    drop-append_seam (take k xs) (x ∷ drop k xs) in
    cc
