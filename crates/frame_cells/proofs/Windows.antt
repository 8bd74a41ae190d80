-- What a write to the vector of cells leaves in the window on it.
use Rattle.std.proofs.Common.{◌≡◌, ℕ, ◌+◌, ◌-◌, ◌≤◌, ◌<◌, List, [], ◌++◌, length, take, drop, reverse, refl, ap, sym, ◌∙◌}
use Rattle.std.proofs.Common.{arith, take-append-drop, length-drop, nat_le, true, subst, slice_set, append-nil, length-set}
use Rattle.std.proofs.lemmas.List.{take-set-le, drop-set-add, drop-set-lt, take-append-le, drop-append-le, take-take}
use Rattle.std.proofs.lemmas.List.{length-take-le, reverse-append, length-reverse, drop-take}
use Rattle.std.proofs.lemmas.Bool.{le-leb}
use Rattle.std.proofs.Math.Seq.{drop-append_seam, take-set-lt}
use Rattle.frame_cells.specs.declared.cell.Cell.{Cell}
use Rattle.frame_cells.specs.declared.cell.Did.{Did}
use Rattle.frame_cells.specs.Own.{put, keep, written}
use Rattle.frame_cells.specs.Window.{Window, window}

-- all but the last n, last first
pub drop-reverse : {X : Type 0} → (s : List X) (n : ℕ) → n ≤ length s →
    drop n (reverse s) ≡ reverse (take (length s - n) s)
drop-reverse s n h =
    let k : ℕ = length s - n in
    let e : reverse s ≡ reverse (drop k s) ++ reverse (take k s) = ap reverse (sym (take-append-drop k s)) ∙
    reverse-append (take k s) (drop k s) in
    let f : length (reverse (drop k s)) ≡ n = length-reverse (drop k s) ∙ length-drop k s ∙
    omega (arith, h) in
    ap (drop n) e ∙ (ap (λ m. drop m (reverse (drop k s) ++ reverse (take k s))) (sym f) ∙
    drop-append_seam (reverse (drop k s)) (reverse (take k s)))

take-less : {X : Type 0} → (xs ys : List X) (m k : ℕ) → m ≤ k → k ≤ length xs →
    take m (take k xs ++ ys) ≡ take m xs
take-less xs ys m k h g = take-append-le m (take k xs) ys (omega (arith, length-take-le k xs g)) ∙
    take-take m k xs h

drop-less : {X : Type 0} → (xs ys : List X) (m k : ℕ) → m ≤ k → k ≤ length xs →
    drop m (take k xs ++ ys) ≡ take (k - m) (drop m xs) ++ ys
drop-less xs ys m k h g =
    drop-append-le m (take k xs) ys (omega (arith, length-take-le k xs g)) ∙
    ap (λ d. d ++ ys) (let e : k ≡ m + (k - m) = omega (arith, h) in ap (λ j. drop m (take j xs)) e ∙
    drop-take m (k - m) xs)

pub same : {R : Type 0} {u u' : List (Cell R)} {l l' s s' : List (Cell R)} (r : ℕ) → u ≡ u' → l ≡ l' →
    s ≡ s' →
    (let a : Window R = record { under = u; own = record { locals = l; stack = s; room = r } } in a) ≡
    record { under = u'; own = record { locals = l'; stack = s'; room = r } }
same r p q t = cc

-- the top n cells go, and these come
pub window-put : {R : Type 0} → (cells ys : List (Cell R)) (l b r n : ℕ) → l ≤ b → b ≤ length cells →
    n ≤ length cells - b →
    window (take (length cells - n) cells ++ ys) l b r ≡
    record {
      under = take l cells;
      own = record {
        locals = take (b - l) (drop l cells);
        stack = reverse ys ++
            drop n (reverse (drop b cells));
        room = r;
      };
    }
window-put cells ys l b r n lb bc nc =
    let k : ℕ = length cells - n in
    let lk : l ≤ k = omega (arith, lb, bc, nc) in
    let bk : b ≤ k = omega (arith, bc, nc) in
    let kc : k ≤ length cells = omega arith in
    let len : length (drop b cells) ≡ length cells - b = length-drop b cells in
    let eq : k - b ≡ length (drop b cells) - n = omega (arith, len, bc, nc) in
    same r (take-less cells ys l k lk kc)
    (ap (take (b - l)) (drop-less cells ys l k lk kc) ∙
    take-less (drop l cells) ys (b - l) (k - l) (omega (arith, lk, bk, lb))
    (omega (arith, kc, length-drop l cells)))
    (ap reverse (drop-less cells ys b k bk kc) ∙ reverse-append (take (k - b) (drop b cells)) ys ∙
    ap (λ d. reverse ys ++ d) (ap (λ j. reverse (take j (drop b cells))) eq ∙
    sym (drop-reverse (drop b cells) n (omega (arith, len, nc)))))

put-window-of : {R : Type 0} → (cells ys : List (Cell R)) (l b r n : ℕ) (did : Did) → l ≤ b →
    b ≤ length cells → n ≤ length (reverse (drop b cells)) →
    length ys + (length (reverse (drop b cells)) - n) ≤ r →
    window (take (length cells - n) cells ++ ys) l b r ≡
    record { under = take l cells; own = (put n (reverse ys) did (window cells l b r).own).own }
put-window-of cells ys l b r n did lb bc x y' =
    let len : length (reverse (drop b cells)) ≡ length cells - b = length-reverse (drop b cells) ∙
    length-drop b cells in
    let y : length (reverse ys) + (length (reverse (drop b cells)) - n) ≤ r =
    omega (arith, y', length-reverse ys) in
    let p : nat_le n (length (reverse (drop b cells))) ≡ true = le-leb _ _ x in
    let q : nat_le (length (reverse ys) + (length (reverse (drop b cells)) - n)) r ≡ true = le-leb _ _ y in
    window-put cells ys l b r n lb bc (omega (arith, x, len)) ∙ simp (p, q)

-- the same, where the window is known by another name
pub put-window : {R : Type 0} → (w : Window R) (cells ys new : List (Cell R)) (l b r n : ℕ) (did : Did) →
    window cells l b r ≡ w → new ≡ take (length cells - n) cells ++ ys → l ≤ b → b ≤ length cells →
    n ≤ length w.own.stack → length ys + (length w.own.stack - n) ≤ r →
    window new l b r ≡ record { under = w.under; own = (put n (reverse ys) did w.own).own }
put-window w cells ys new l b r n did e f lb bc x y =
    let P : Window _ → Type 0 = λ v. n ≤ length v.own.stack → length ys + (length v.own.stack - n) ≤ r →
    window new l b r ≡ record { under = v.under; own = (put n (reverse ys) did v.own).own } in
    subst P e (λ p q. ap (λ c. window c l b r) f ∙ put-window-of cells ys l b r n did lb bc p q) x y

pub window-depth : {R : Type 0} → (w : Window R) (cells : List (Cell R)) (l b r : ℕ) → window cells l b r ≡
    w → length w.own.stack ≡ length cells - b
window-depth w cells l b r e = ap (λ v. length v.own.stack) (sym e) ∙ length-reverse (drop b cells) ∙
    length-drop b cells

-- these cells differ from the others in the locals alone
pub record Locals {R : Type 0} (cells new : List (Cell R)) (l b : ℕ) (locals : List (Cell R)) : Type 0 where
  pub long : length new ≡ length cells
  pub under : take l new ≡ take l cells
  pub are : take (b - l) (drop l new) ≡ locals
  pub over : drop b new ≡ drop b cells

pub write-one : {R : Type 0} → (cells : List (Cell R)) (l b at : ℕ) (c : Cell R) → l ≤ b → at < b - l →
    Locals cells (slice_set cells (l + at) c) l b (slice_set (take (b - l) (drop l cells)) at c)
write-one cells l b at c lb h = record {
  long = length-set cells (l + at) c;
  under = take-set-le l cells (l + at) c (omega arith);
  are = ap (take (b - l)) (drop-set-add l cells at c) ∙ take-set-lt (b - l) (drop l cells) at c h;
  over = drop-set-lt b cells (l + at) c (omega (arith, lb, h));
}

pub write-two : {R : Type 0} → (cells : List (Cell R)) (l b at : ℕ) (c d : Cell R) → l ≤ b → at + 1 < b - l →
    Locals cells (slice_set (slice_set cells (l + at) c) (l + at + 1) d) l b
    (slice_set (slice_set (take (b - l) (drop l cells)) at c) (at + 1) d)
write-two cells l b at c d lb h =
    let one = write-one cells l b at c lb (omega (arith, h)) in
    let two = write-one (slice_set cells (l + at) c) l b (at + 1) d lb h in
    let e : l + at + 1 ≡ l + (at + 1) = omega arith in
    rw e (record {
      long = two.long ∙ one.long;
      under = two.under ∙ one.under;
      are = two.are ∙ ap (λ x. slice_set x (at + 1) d) one.are;
      over = two.over ∙ one.over;
    })

-- such cells, without the top n
window-keep : {R : Type 0} → (w : Window R) (cells new rest locals : List (Cell R)) (l b r n : ℕ) →
    window cells l b r ≡ w → Locals cells new l b locals → rest ≡ take (length new - n) new → l ≤ b →
    b ≤ length cells → n ≤ length w.own.stack →
    window rest l b r ≡ record {
      under = w.under;
      own =
          record { locals = locals; stack = drop n w.own.stack; room = w.own.room };
    }
window-keep w cells new rest locals l b r n e o f lb bc x =
    let P : Window _ → Type 0 = λ v. n ≤ length v.own.stack → window rest l b r ≡
    record {
      under = v.under;
      own = record {
        locals = locals;
        stack = drop n v.own.stack;
        room =
            v.own.room;
      };
    } in
    subst P e (λ p. ap (λ c. window c l b r) (f ∙ sym (append-nil (take (length new - n) new))) ∙
    window-put new [] l b r n lb (rw o.long bc)
    (omega (arith, o.long, p, length-reverse (drop b cells), length-drop b cells)) ∙
    same r o.under o.are (ap (λ d. drop n (reverse d)) o.over)) x

pub keep-window : {R : Type 0} → (w : Window R) (cells new rest cs : List (Cell R)) (l b r n at : ℕ) →
    window cells l b r ≡ w → Locals cells new l b (written (take (b - l) (drop l cells)) at cs) → rest ≡
    take (length new - n) new → l ≤ b → b ≤ length cells → at + length cs ≤ b - l → n ≤ length w.own.stack →
    window rest l b r ≡ record { under = w.under; own = (keep n at cs w.own).own }
keep-window w cells new rest cs l b r n at e o f lb bc g x =
    let P : Window _ → Type 0 = λ v. n ≤ length v.own.stack → window rest l b r ≡
    record { under = v.under; own = (keep n at cs v.own).own } in
    let lt : length (take (b - l) (drop l cells)) ≡ b - l =
    length-take-le (b - l) (drop l cells) (omega (arith, bc, lb, length-drop l cells)) in
    let p : nat_le (at + length cs) (length (take (b - l) (drop l cells))) ≡ true =
    le-leb _ _ (omega (arith, lt, g)) in
    subst P e (λ y. let q : nat_le n (length (reverse (drop b cells))) ≡ true = le-leb _ _ y in
    window-keep (window cells l b r) cells new rest _ l b r n refl o f lb bc y ∙ simp (p, q)) x
