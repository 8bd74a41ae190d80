-- Marking objects one by one tells whether they may become durable, and marks them then.
use Rattle.std.proofs.Common.{◌≡◌, inl, inr, ℕ, ◌<◌, ◌≤◌, Bool, true, false, not, ◌&&◌, ◌||◌, nat_eq, List, [], ◌∷◌, ◌++◌, length, refl, sym, ◌∙◌, ap, subst, arith, get_or, set, eqb-true, eq-eqb}
use Rattle.std.specs.Prelude.{slice_set}
use Rattle.std.proofs.Math.ListN.{get_or-eq_default}
use Rattle.std.proofs.lemmas.Bool.{false≢true, cases_lt}
use Rattle.std.proofs.lemmas.List.{get_or-set_same, get_or-set_other, length-set, append-nil, append_assoc}
use Rattle.graph_model.specs.Heaps.{has_number}
use Rattle.audit_rules.specs.Rules.{may_join_each}
use Rattle.std.proofs.lemmas.List.Elements.{All-head, All-tail}
use Rattle.audit_keeping.specs.declared.keeping.Asked.{Asked}
use Rattle.audit_keeping.specs.Keeping.{is_marked, wanted_in, mark_test, AreMarks, AreShort, IsMarkedWith}
use Rattle.audit_rules.proofs.Tests.{both}

-- what is marked is below the number of marks
pub marked-there : (marks : List Bool) (n : ℕ) → is_marked marks n ≡ true → n < length marks
marked-there marks n is = elim (cases_lt n (length marks)) [
  | inl less ↦ less
  | inr past ↦ absurd (
      let none : is_marked marks n ≡ false = get_or-eq_default marks false (omega (arith, past)) in
      false≢true (sym none ∙ is))
]

-- so what is wanted is below any number of objects that no thread's marks pass
pub wanted-there : (count : ℕ) (asked : List Asked) (n : ℕ) → AreShort count asked → wanted_in asked n ≡ true → n < count
wanted-there count [] n short is = absurd (false≢true is)
wanted-there count (p ∷ ps) n short is = elim (is_marked p.marks n) as (λ b. is_marked p.marks n ≡ b → (b || wanted_in ps n) ≡ true → n < count) [
  | true ↦ λ e h.
      let there = marked-there p.marks n e in
      let few = All-head (λ (q : Asked). length q.marks ≤ count) p ps short in
      omega (arith, there, few)
  | false ↦ λ e h. wanted-there count ps n (All-tail (λ (q : Asked). length q.marks ≤ count) p ps short) h
] refl is

-- the marks with one more
has-push : (xs : List ℕ) (m n : ℕ) → has_number (xs ++ m ∷ []) n ≡ (has_number xs n || nat_eq m n)
has-push [] m n = elim (nat_eq m n) as (λ b. (b || false) ≡ b) [ true ↦ refl | false ↦ refl ]
has-push (x ∷ xs) m n = elim (nat_eq x n) as (λ b. (b || has_number (xs ++ m ∷ []) n) ≡ ((b || has_number xs n) || nat_eq m n)) [
  | true ↦ refl
  | false ↦ has-push xs m n
]

or-true : (b : Bool) → (b || true) ≡ true
or-true true = refl
or-true false = refl

or-false : (b : Bool) → (b || false) ≡ b
or-false true = refl
or-false false = refl

one-more : (durable : List ℕ) (marks : List Bool) (m : ℕ) → AreMarks durable marks → m < length marks
    → AreMarks (durable ++ m ∷ []) (slice_set marks m true)
one-more durable marks m are within n = has-push durable m n ∙ elim (nat_eq m n) as (λ b. nat_eq m n ≡ b
    → (has_number durable n || b) ≡ is_marked (slice_set marks m true) n) [
      | true ↦ λ e.
          let same : m ≡ n = eqb-true m n e in
          or-true (has_number durable n) ∙ sym (get_or-set_same marks m true false within) ∙ ap (λ k. get_or (set marks m true) k false) same
      | false ↦ λ e.
          or-false (has_number durable n) ∙ are n
          ∙ sym (get_or-set_other marks m n true false (λ same. false≢true (sym e ∙ eq-eqb m n (sym same))))
    ] refl

-- what is new beside one more is new, and isn't that one
join-more : (durable : List ℕ) (wanted : ℕ → Bool) (m : ℕ) (ns : List ℕ)
    → may_join_each (durable ++ m ∷ []) wanted ns ≡ (not (has_number ns m) && may_join_each durable wanted ns)
join-more durable wanted m [] = refl
join-more durable wanted m (n ∷ ns) = rw (has-push durable m n, join-more durable wanted m ns, swap m n)
    (by (has_number durable n) (nat_eq n m) (wanted n) (has_number ns n) (has_number ns m) (may_join_each durable wanted ns))
  where
    swap : (a b : ℕ) → nat_eq a b ≡ nat_eq b a
    swap a b = elim (nat_eq a b) as (λ x. nat_eq a b ≡ x → x ≡ nat_eq b a) [
      | true ↦ λ e. sym (eq-eqb b a (sym (eqb-true a b e)))
      | false ↦ λ e. elim (nat_eq b a) as (λ y. nat_eq b a ≡ y → false ≡ y) [
        | true ↦ λ f. absurd (false≢true (sym e ∙ eq-eqb a b (sym (eqb-true b a f))))
        | false ↦ λ f. refl
      ] refl
    ] refl

    by : (d s w h k r : Bool) → (not (d || s) && (w && (not h && (not k && r)))) ≡ (not (s || k) && (not d && (w && (not h && r))))
    by true true w h k r = refl
    by true false w h true r = refl
    by true false w h false r = refl
    by false true w h k r = refl
    by false false true true true r = refl
    by false false true true false r = refl
    by false false true false true r = refl
    by false false true false false r = refl
    by false false false h true r = refl
    by false false false h false r = refl

mark-one : (durable : List ℕ) (marks : List Bool) (asked : List Asked) (n : ℕ) (ns : List ℕ) → AreMarks durable marks → AreShort (length marks) asked
    → (AreMarks (durable ++ n ∷ []) (slice_set marks n true) → AreShort (length (slice_set marks n true)) asked
    → IsMarkedWith (durable ++ n ∷ []) (slice_set marks n true) asked ns)
    → IsMarkedWith durable marks asked (n ∷ ns)
mark-one durable marks asked n ns are long tail =
    record {
      tests = rw (are n) (first (is_marked marks n));
      marks_now = λ e. let (new, rest) = both (not (is_marked marks n)) _ e in
          let (wants, each) = both (wanted_in asked n) _ rest in
          (λ k. ap (λ ms. has_number ms k) (sym (append_assoc durable (n ∷ []) ns)) ∙ (behind wants).marks_now each k);
    }
  where
    within : wanted_in asked n ≡ true → n < length marks
    within wants = wanted-there (length marks) asked n long wants

    behind : wanted_in asked n ≡ true → IsMarkedWith (durable ++ n ∷ []) (slice_set marks n true) asked ns
    behind wants =
        tail (one-more durable marks n are (within wants)) (subst (λ k. AreShort k asked) (sym (length-set marks n true)) long)

    first : (b : Bool) → (not b && (wanted_in asked n && mark_test (slice_set marks n true) asked ns))
        ≡ (not b && (wanted_in asked n && (not (has_number ns n) && may_join_each durable (wanted_in asked) ns)))
    first b = ap (λ x. not b && x) (elim (wanted_in asked n) as (λ w. wanted_in asked n ≡ w
        → (w && mark_test (slice_set marks n true) asked ns) ≡ (w && (not (has_number ns n) && may_join_each durable (wanted_in asked) ns))) [
          | true ↦ λ e. (behind e).tests ∙ join-more durable (wanted_in asked) n ns
          | false ↦ λ e. refl
        ] refl)

pub marking-is-joining : (durable : List ℕ) (marks : List Bool) (asked : List Asked) (named : List ℕ) → AreMarks durable marks
    → AreShort (length marks) asked → IsMarkedWith durable marks asked named
marking-is-joining durable marks asked [] are long = record { tests = refl; marks_now = λ e n. ap (λ ns. has_number ns n) (append-nil durable) ∙ are n }
marking-is-joining durable marks asked (n ∷ ns) are long =
    mark-one durable marks asked n ns are long (λ are' long'. marking-is-joining (durable ++ n ∷ []) (slice_set marks n true) asked ns are' long')
