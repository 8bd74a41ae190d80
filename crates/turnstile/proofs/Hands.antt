-- What a hold leaves of the hands, and how hands begin, part and meet.
use Rattle.std.proofs.Common.{◌≡◌, ℕ, suc, ◌+◌, ◌<◌, ◌≤◌, ◌≢◌, List, [], ◌∷◌, ◌++◌, length, All, slice_get, unwrap_or, Some, Option, sym, refl, subst, ap, ◌∙◌, arith}
use Rattle.std.proofs.lemmas.Bool.Decides.{nat_tests}
use Rattle.std.proofs.lemmas.List.Elements.{All-nil, All-cons, All-head, All-tail, All-append}
use mathlib.Core.Logic.{dite}
use native.Mathlib.Decide.{ℕ_discrete}
use Rattle.turnstile.specs.declared.view.Hand.{Hand}
use Rattle.turnstile.specs.Entries.{entries_by}
use Rattle.turnstile.specs.Hands.{times, hands_from, own_number, without_next, next_of, Agrees, Agree, left_with}
use Rattle.turnstile.proofs.Entries.{entries_else, prefix_itself, prefix_longer, get_still}

module _ {E P : Type 0} where
  pub times_here : (h : Hand E P) (hs : List (Hand E P)) → 1 ≤ times h.number (h ∷ hs)
  times_here h hs = grind (arith, nat_tests)

  pub times_own : (hands : List (Hand E P)) → 0 < length hands → 1 ≤ times (own_number hands) hands
  times_own [] some_hand = absurd (omega arith)
  times_own (h ∷ hs) some_hand = times_here h hs

  times_one : (n : ℕ) (h : Hand E P) (hs : List (Hand E P)) → times n (h ∷ []) + times n hs ≡ times n (h ∷ hs)
  times_one n h hs = omega arith

  pub times_le : (n : ℕ) (hs : List (Hand E P)) → times n hs ≤ length hs
  times_le n [] = omega arith
  times_le n (h ∷ hs) = let t = times_le n hs in grind (arith, nat_tests, t)

module _ {E P : Type 0} (worker : E → ℕ) where
  pub left_length : (hands : List (Hand E P)) (log : List E) (shares : List P) → length (left_with worker hands log shares) ≡ length hands
  left_length [] log shares = refl
  left_length (h ∷ hs) log shares = refl

  pub left_times : (n : ℕ) (hands : List (Hand E P)) (log : List E) (shares : List P) → times n (left_with worker hands log shares) ≡ times n hands
  left_times n [] log shares = refl
  left_times n (h ∷ hs) log shares = refl

  one_keeps : (n : ℕ) (h : Hand E P) (log further : List E) (shares after : List P) → Agrees worker h log shares → All (λ e. worker e ≡ n) further
      → ((k : ℕ) → k ≢ n → slice_get after k ≡ slice_get shares k) → h.number ≢ n → Agrees worker h (log ++ further) after
  one_keeps n h log further shares after was own same ne = record {
    own = entries_else worker h.number n log further own ne ∙ was.own;
    part = same h.number ne ∙ was.part;
    before = prefix_longer h.left log further was.before;
  }

  -- what others know stays true
  pub others_keep : (m : Hand E P) (others : List (Hand E P)) (log further : List E) (shares after : List P) → Agree worker others log shares → All (λ e. worker e ≡ m.number) further
      → ((k : ℕ) → k ≢ m.number → slice_get after k ≡ slice_get shares k) → times m.number others ≡ 0 → Agree worker others (log ++ further) after
  others_keep m [] log further shares after was own same apart = All-nil (λ h. Agrees worker h (log ++ further) after)
  others_keep m (h ∷ hs) log further shares after was own same apart =
      let ne : h.number ≢ m.number = λ e. let t : 1 ≤ times m.number (h ∷ hs) = subst (λ (n : ℕ). 1 ≤ times n (h ∷ hs)) e (times_here h hs) in absurd (omega arith) in
      All-cons (λ h. Agrees worker h (log ++ further) after) h hs
      (one_keeps m.number h log further shares after (All-head (λ h. Agrees worker h log shares) h hs was) own same ne)
      (others_keep m hs log further shares after (All-tail (λ h. Agrees worker h log shares) h hs was) own same (let t = times_one m.number h hs in omega arith))

  own_keeps : (m : Hand E P) (log : List E) (before shares : List P) → length shares ≡ length before → slice_get before m.number ≡ Some m.part
      → Agrees worker (record { number = m.number; entries = entries_by worker m.number log; part = unwrap_or (slice_get shares m.number) m.part; left = log }) log shares
  own_keeps m log before shares count at =
      let q = get_still before shares m.number m.part count at in record {
        own = refl;
        part = q.1 ∙ ap Some (sym (ap (λ (o : Option P). unwrap_or o m.part) q.1));
        before = prefix_itself log;
      }

  -- the pass that leaves knows what it left
  pub left_agree : (hands : List (Hand E P)) (log further : List E) (shares after : List P) → Agree worker hands log shares → All (λ e. worker e ≡ own_number hands) further
      → length after ≡ length shares → ((k : ℕ) → k ≢ own_number hands → slice_get after k ≡ slice_get shares k) → ((n : ℕ) → times n hands ≤ 1)
      → Agree worker (left_with worker hands (log ++ further) after) (log ++ further) after
  left_agree [] log further shares after was own count same apart = All-nil (λ h. Agrees worker h (log ++ further) after)
  left_agree (m ∷ hs) log further shares after was own count same apart =
      let mine = All-head (λ h. Agrees worker h log shares) m hs was in
      let once : times m.number hs ≡ 0 = let a = apart m.number in let t = times_one m.number m hs in let h = times_here m [] in omega arith in
      All-cons (λ h. Agrees worker h (log ++ further) after) _ hs (own_keeps m (log ++ further) shares after count mine.part)
      (others_keep m hs log further shares after (All-tail (λ h. Agrees worker h log shares) m hs was) own same once)

  -- what another pass knows stays true
  pub else_agree : (hands others : List (Hand E P)) (log further : List E) (shares after : List P) → Agree worker others log shares → All (λ e. worker e ≡ own_number hands) further
      → ((k : ℕ) → k ≢ own_number hands → slice_get after k ≡ slice_get shares k) → 0 < length hands → ((n : ℕ) → times n hands + times n others ≤ 1)
      → Agree worker others (log ++ further) after
  else_agree [] others log further shares after was own same some_hand apart = absurd (omega arith)
  else_agree (m ∷ hs) others log further shares after was own same some_hand apart =
      others_keep m others log further shares after was own same (let a = apart m.number in let t = times_here m hs in omega arith)

module _ {P : Type 0} (E : Type 0) where
  pub stock_length : (ps : List P) (k : ℕ) → length (hands_from {E = E} k ps) ≡ length ps
  stock_length [] k = refl
  stock_length (p ∷ ps) k = ap suc (stock_length ps (k + 1))

  stock_before : (ps : List P) (k x : ℕ) → x < k → times x (hands_from {E = E} k ps) ≡ 0
  stock_before [] k x lt = refl
  stock_before (p ∷ ps) k x lt = grind (arith, nat_tests, stock_before ps (k + 1) x, lt)

  pub stock_once : (ps : List P) (k x : ℕ) → times x (hands_from {E = E} k ps) ≤ 1
  stock_once [] k x = omega arith
  stock_once (p ∷ ps) k x = dite (ℕ_discrete k x)
      (λ e. let z = stock_before ps (k + 1) x (omega arith) in grind (arith, nat_tests, z))
      (λ ne. let z = stock_once ps (k + 1) x in grind (arith, nat_tests, z, ne))

module _ {E P : Type 0} where
  pub length_hands : (xs ys : List (Hand E P)) → length (xs ++ ys) ≡ length xs + length ys
  length_hands [] ys = omega arith
  length_hands (x ∷ xs) ys = let t = length_hands xs ys in omega arith

  pub times_hands : (y : ℕ) (xs ys : List (Hand E P)) → times y (xs ++ ys) ≡ times y xs + times y ys
  times_hands y [] ys = omega arith
  times_hands y (x ∷ xs) ys = let t = times_hands y xs ys in omega arith

  pub cut_length : (hs : List (Hand E P)) → length (without_next hs) + length (next_of hs) ≡ length hs
  cut_length [] = refl
  cut_length (h ∷ []) = refl
  cut_length (h ∷ s ∷ hs) = omega arith

  pub cut_times : (y : ℕ) (hs : List (Hand E P)) → times y (without_next hs) + times y (next_of hs) ≡ times y hs
  cut_times y [] = refl
  cut_times y (h ∷ []) = omega arith
  cut_times y (h ∷ s ∷ hs) = omega arith

module _ {E P : Type 0} (worker : E → ℕ) where
  pub stock_agree : (ps all : List P) (k : ℕ) → ((m : ℕ) (p : P) → slice_get ps m ≡ Some p → slice_get all (k + m) ≡ Some p) → Agree worker (hands_from k ps) [] all
  stock_agree [] all k there = All-nil (λ h. Agrees worker h [] all)
  stock_agree (p ∷ ps) all k there =
      All-cons (λ h. Agrees worker h [] all) _ (hands_from (k + 1) ps)
      (record { own = refl; part = subst (λ (n : ℕ). slice_get all n ≡ Some p) (omega arith) (there 0 p refl); before = prefix_itself [] })
      (stock_agree ps all (k + 1) (λ n q at. subst (λ (i : ℕ). slice_get all i ≡ Some q) (omega arith) (there (suc n) q at)))

  pub agree_without : (log : List E) (shares : List P) (hs : List (Hand E P)) → Agree worker hs log shares → Agree worker (without_next hs) log shares
  agree_without log shares [] w = w
  agree_without log shares (h ∷ []) w = w
  agree_without log shares (h ∷ s ∷ hs) w =
      let Q : Hand E P → Type 0 = λ h. Agrees worker h log shares in
      All-cons Q h hs (All-head Q h (s ∷ hs) w) (All-tail Q s hs (All-tail Q h (s ∷ hs) w))

  pub agree_next : (log : List E) (shares : List P) (hs : List (Hand E P)) → Agree worker hs log shares → Agree worker (next_of hs) log shares
  agree_next log shares [] w = w
  agree_next log shares (h ∷ []) w = All-nil (λ h. Agrees worker h log shares)
  agree_next log shares (h ∷ s ∷ hs) w =
      let Q : Hand E P → Type 0 = λ h. Agrees worker h log shares in
      All-cons Q s [] (All-head Q s hs (All-tail Q h (s ∷ hs) w)) (All-nil Q)

  pub agree_both : (log : List E) (shares : List P) (xs ys : List (Hand E P)) → Agree worker xs log shares → Agree worker ys log shares → Agree worker (xs ++ ys) log shares
  agree_both log shares xs ys wx wy = All-append (λ h. Agrees worker h log shares) xs ys wx wy
