-- What all passes together know.
use Rattle.std.proofs.Common.{◌≡◌, ℕ, ◌+◌, ◌<◌, ◌≤◌, ◌++◌, List, [], ◌∷◌, length, take, drop, get_or, drop_of_length-le, IsTrue, nat_eq, All, sum_by, flat_map, slice_get, refl, sym, ap}
use Rattle.std.proofs.Common.{◌∙◌, arith}
use Rattle.std.proofs.lemmas.Bool.Decides.{nat_tests}
use Rattle.std.proofs.lemmas.List.Elements.{All-nil, All-cons, All-head, All-tail, All-append, All-weaker}
use Rattle.std.proofs.lemmas.List.Concat.{flat_map-append}
use Rattle.std.proofs.lemmas.List.Sums.{sum_by-append, sum_by-cons, sum_by_more, sum_by-take-le, sum_by-take-drop}
use mathlib.Core.List.{IsPrefix}
use Rattle.turnstile.specs.declared.kept.Kept.{Ghosts}
use Rattle.turnstile.specs.declared.view.Hand.{Hand}
use Rattle.turnstile.specs.declared.pass.Pass.{Pass}
use Rattle.turnstile.specs.Entries.{entries_by}
use Rattle.turnstile.specs.Hands.{times, Agrees, Agree}
use Rattle.turnstile.specs.Passes.{hands_of, number_of, entries_of, part_of, left_of, stock_of}
use Rattle.turnstile.proofs.Hands.{length_hands, times_hands}
use Rattle.turnstile.proofs.Known.{own_agrees, stock_agrees}

module _ {X : Type 0} (Q : X → Type 0) where
  pub All-left : (xs ys : List X) → All Q (xs ++ ys) → All Q xs
  All-left [] ys a = All-nil Q
  All-left (x ∷ xs) ys a = All-cons Q x xs (All-head Q x (xs ++ ys) a) (All-left xs ys (All-tail Q x (xs ++ ys) a))

  pub All-right : (xs ys : List X) → All Q (xs ++ ys) → All Q ys
  All-right [] ys a = a
  All-right (x ∷ xs) ys a = All-right xs ys (All-tail Q x (xs ++ ys) a)

  pub All-flat : {Y : Type 0} (f : Y → List X) (ps : List Y) → All Q (flat_map f ps) → All (λ p. All Q (f p)) ps
  All-flat f [] a = All-nil (λ p. All Q (f p))
  All-flat f (p ∷ ps) a = All-cons (λ p. All Q (f p)) p ps (All-left (f p) (flat_map f ps) a) (All-flat f ps (All-right (f p) (flat_map f ps) a))

module _ {T E P : Type 0} {K : Ghosts T E P} where
  pub hands_length : (ps : List (Pass T E P K)) → length (flat_map (λ p. hands_of p) ps) ≡ sum_by (λ p. length (hands_of p)) ps
  hands_length [] = refl
  hands_length (p ∷ ps) = length_hands (hands_of p) (flat_map (λ p. hands_of p) ps) ∙ (ap (λ n. length (hands_of p) + n) (hands_length ps) ∙ sym (sum_by-cons (λ p. length (hands_of p)) p ps))

  -- what the counting of passes rests on
  counted_next : (ps : List (Pass T E P K)) (i : ℕ) (p : Pass T E P K) → i < length ps → p ≡ get_or ps i p
      → sum_by (λ p. length (hands_of p)) (take (i + 1) ps) ≡ sum_by (λ p. length (hands_of p)) (take i ps) + (1 + p.further)
  counted_next ps i p lt is = sum_by_more (λ p. length (hands_of p)) ps i p lt
      ∙ ap (λ n. sum_by (λ p. length (hands_of p)) (take i ps) + n) (ap (λ (p : Pass T E P K). length (hands_of p)) (sym is) ∙ p.counted)

  pub missed : (ps : List (Pass T E P K)) (i : ℕ) (p : Pass T E P K) (missing passes : ℕ) → i < length ps → p ≡ get_or ps i p → missing + sum_by (λ p. length (hands_of p)) (take i ps) ≡ passes
      → missing ≤ p.further → sum_by (λ p. length (hands_of p)) ps ≡ passes → ⊥
  missed ps i p missing passes lt is so_far more all =
      let a = counted_next ps i p lt is in
      let b = sum_by-take-le (λ p. length (hands_of p)) ps (i + 1) in omega arith

  pub counted_all : (ps : List (Pass T E P K)) (i : ℕ) → length ps ≤ i → sum_by (λ p. length (hands_of p)) (take i ps) ≡ sum_by (λ p. length (hands_of p)) ps
  counted_all ps i le =
      let a = sum_by-take-drop (λ p. length (hands_of p)) ps i in
      let b : sum_by (λ p. length (hands_of p)) (drop i ps) ≡ 0 = ap (λ l. sum_by (λ (p : Pass T E P K). length (hands_of p)) l) (drop_of_length-le ps le) in omega arith

  pub some_pass : (ps : List (Pass T E P K)) (passes : ℕ) → sum_by (λ p. length (hands_of p)) ps ≡ passes → 0 < passes → length ps ≡ 0 → ⊥
  some_pass [] passes all some none_left = let z : 0 ≡ passes = all in omega arith
  some_pass (p ∷ ps) passes all some none_left = omega arith

  -- one pass that has taken in the others has as many hands as they all
  pub all_length : (rest : List (Pass T E P K)) (last : Pass T E P K) → length (hands_of last ++ flat_map (λ p. hands_of p) rest) ≡ sum_by (λ p. length (hands_of p)) (rest ++ last ∷ [])
  all_length rest last =
      let a = length_hands (hands_of last) (flat_map (λ p. hands_of p) rest) in
      let b = hands_length rest in
      let c = sum_by-append (λ p. length (hands_of p)) rest (last ∷ []) in
      let d = hands_length (last ∷ []) in
      let e = length_hands (hands_of last) (flat_map (λ (p : Pass T E P K). hands_of p) []) in
      omega arith

  pub all_times : (n : ℕ) (rest : List (Pass T E P K)) (last : Pass T E P K) → times n (flat_map (λ p. hands_of p) (rest ++ last ∷ [])) ≡ 0
      → times n (hands_of last ++ flat_map (λ p. hands_of p) rest) ≡ 0
  all_times n rest last none_there =
      let a = times_hands n (hands_of last) (flat_map (λ p. hands_of p) rest) in
      let b = times_hands n (flat_map (λ p. hands_of p) rest) (flat_map (λ p. hands_of p) (last ∷ [])) in
      let c = times_hands n (hands_of last) (flat_map (λ (p : Pass T E P K). hands_of p) []) in
      let d : times n (flat_map (λ p. hands_of p) (rest ++ last ∷ [])) ≡ times n (flat_map (λ p. hands_of p) rest ++ flat_map (λ p. hands_of p) (last ∷ [])) =
      ap (λ hs. times n hs) (flat_map-append (λ p. hands_of p) rest (last ∷ [])) in
      omega arith

module _ {T E P : Type 0} {K : Ghosts T E P} (worker : E → ℕ) (log : List E) (shares : List P) where
  all_agree : (rest : List (Pass T E P K)) (last : Pass T E P K) → Agree worker (hands_of last ++ flat_map (λ p. hands_of p) rest) log shares
      → All (λ p. Agree worker (hands_of p) log shares) (rest ++ last ∷ [])
  all_agree rest last w =
      let Q : Hand E P → Type 0 = λ h. Agrees worker h log shares in
      All-append (λ p. Agree worker (hands_of p) log shares) rest (last ∷ [])
      (All-flat Q (λ p. hands_of p) rest (All-right Q (hands_of last) (flat_map (λ p. hands_of p) rest) w))
      (All-cons (λ p. Agree worker (hands_of p) log shares) last [] (All-left Q (hands_of last) (flat_map (λ p. hands_of p) rest) w) (All-nil (λ p. Agree worker (hands_of p) log shares)))

  some_hand : (p : Pass T E P K) → 0 < length (hands_of p)
  some_hand p = let c = p.counted in omega arith

  pub all_entries : (rest : List (Pass T E P K)) (last : Pass T E P K) → Agree worker (hands_of last ++ flat_map (λ p. hands_of p) rest) log shares
      → All (λ p. entries_by worker (number_of p) log ≡ entries_of p) (rest ++ last ∷ [])
  all_entries rest last w = All-weaker (λ p. Agree worker (hands_of p) log shares) (λ p. entries_by worker (number_of p) log ≡ entries_of p)
      (λ p a. (own_agrees worker (hands_of p) log shares (some_hand p) a).0) (rest ++ last ∷ []) (all_agree rest last w)

  pub all_parts : (rest : List (Pass T E P K)) (last : Pass T E P K) → Agree worker (hands_of last ++ flat_map (λ p. hands_of p) rest) log shares
      → All (λ p. slice_get shares (number_of p) ≡ part_of p) (rest ++ last ∷ [])
  all_parts rest last w = All-weaker (λ p. Agree worker (hands_of p) log shares) (λ p. slice_get shares (number_of p) ≡ part_of p)
      (λ p a. (own_agrees worker (hands_of p) log shares (some_hand p) a).1) (rest ++ last ∷ []) (all_agree rest last w)

  pub all_before : (rest : List (Pass T E P K)) (last : Pass T E P K) → Agree worker (hands_of last ++ flat_map (λ p. hands_of p) rest) log shares
      → All (λ p. IsPrefix (left_of p) log) (rest ++ last ∷ [])
  all_before rest last w = All-weaker (λ p. Agree worker (hands_of p) log shares) (λ p. IsPrefix (left_of p) log)
      (λ p a. (own_agrees worker (hands_of p) log shares (some_hand p) a).2) (rest ++ last ∷ []) (all_agree rest last w)

  pub all_stock : (rest : List (Pass T E P K)) (last : Pass T E P K) → Agree worker (hands_of last ++ flat_map (λ p. hands_of p) rest) log shares
      → All (λ p. Agree worker (stock_of p) log shares) (rest ++ last ∷ [])
  all_stock rest last w = All-weaker (λ p. Agree worker (hands_of p) log shares) (λ p. Agree worker (stock_of p) log shares)
      (λ p a. stock_agrees worker (hands_of p) log shares a) (rest ++ last ∷ []) (all_agree rest last w)

pub zero_test : (m s n : ℕ) → m + s ≡ n → (IsTrue (nat_eq m 0) → s ≡ n) × (s ≡ n → IsTrue (nat_eq m 0))
zero_test m s n is = (
  λ t. let z : m ≡ 0 = grind (arith, nat_tests, t) in omega arith,
  λ e. let z : m ≡ 0 = omega arith in grind (arith, nat_tests, z),
)
