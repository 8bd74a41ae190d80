-- What is kept before the first act stands for no acts.
use Rattle.std.proofs.Common.{◌≡◌, ℕ, zero, suc, ◌<◌, ◌≤◌, ◌+◌, ◌-◌, Bool, true, false, ◌||◌, nat_eq, List, [], ◌∷◌, ◌++◌, length, refl, sym, ◌∙◌, ap, subst, arith, get_or, set, eqb-true, eq-eqb, inl, inr}
use Rattle.std.specs.Prelude.{replicate, slice_set, All}
use Rattle.std.proofs.lemmas.Bool.{false≢true, cases_lt}
use Rattle.std.proofs.lemmas.List.{get_or-set_same, get_or-set_other, length-set, length-append, length-replicate}
use Rattle.std.proofs.lemmas.List.Elements.{All-head, All-tail, All-nil, All-weaker}
use Rattle.graph_model.specs.declared.types.Root.{Root}
use Rattle.graph_model.specs.Heaps.{has_number}
use Rattle.run_history.specs.Worlds.{World}
use Rattle.run_history.specs.Knowing.{is_root, known_at_first, pending_of}
use Rattle.run_history.specs.Wanted.{IsClosed, NoWish}
use Rattle.plain_model.specs.First.{numbers_to}
use Rattle.plain_model.proofs.Durable.{below_from_has_number, has_number_from_below}
use Rattle.audit_keeping.specs.declared.keeping.Asked.{Asked}
use Rattle.audit_keeping.specs.declared.keeping.Keeping.{Keeping}
use Rattle.audit_keeping.specs.Beginning.{HaveStatics, KeepingBegins, first_lists, with_roots}
use Rattle.audit_keeping.specs.Keeping.{Keeps, Lists, AreShort, is_marked, lists_of, pending_in}
use Rattle.audit_keeping.specs.Steps.{IsStanding}
use Rattle.audit_keeping.specs.Wishing.{AreWishes, IsWish}

-- ---- marks of roots

none-marked : (count n : ℕ) → is_marked (replicate count false) n ≡ false
none-marked zero n = refl
none-marked (suc count) zero = refl
none-marked (suc count) (suc n) = none-marked count n

or-true : (b : Bool) → (b || true) ≡ true
or-true true = refl
or-true false = refl

or-false : (b : Bool) → (b || false) ≡ b
or-false true = refl
or-false false = refl

or-assoc : (a b c : Bool) → ((a || b) || c) ≡ (a || (b || c))
or-assoc true b c = refl
or-assoc false b c = refl

one-mark : (marks : List Bool) (m n : ℕ) → m < length marks → is_marked (slice_set marks m true) n ≡ (is_marked marks n || nat_eq m n)
one-mark marks m n within = elim (nat_eq m n) as (λ b. nat_eq m n ≡ b
    → is_marked (slice_set marks m true) n ≡ (is_marked marks n || b)) [
      | true ↦ λ e.
          let same : m ≡ n = eqb-true m n e in
          sym (ap (λ k. get_or (set marks m true) k false) same) ∙ get_or-set_same marks m true false within ∙ sym (or-true (is_marked marks n))
      | false ↦ λ e.
          get_or-set_other marks m n true false (λ same. false≢true (sym e ∙ eq-eqb m n (sym same))) ∙ sym (or-false (is_marked marks n))
    ] refl

roots-marked : (marks : List Bool) (roots : List Root) (n : ℕ) → All (λ (r : Root). r.at < length marks) roots
    → is_marked (with_roots marks roots) n ≡ (is_marked marks n || is_root roots n)
roots-marked marks [] n there = sym (or-false (is_marked marks n))
roots-marked marks (r ∷ rs) n there =
    let at = All-head (λ (x : Root). x.at < length marks) r rs there in
    let rest = All-tail (λ (x : Root). x.at < length marks) r rs there in
    roots-marked (slice_set marks r.at true) rs n (subst (λ k. All (λ (x : Root). x.at < k) rs) (sym (length-set marks r.at true)) rest)
    ∙ ap (λ b. b || is_root rs n) (one-mark marks r.at n at)
    ∙ or-assoc (is_marked marks n) (nat_eq r.at n) (is_root rs n)

-- ---- marks of objects

first-marked : (durable more n : ℕ) → n < durable → is_marked (replicate durable true ++ replicate more false) n ≡ true
first-marked zero more n below = absurd (omega (arith, below))
first-marked (suc durable) more zero below = refl
first-marked (suc durable) more (suc n) below = first-marked durable more n (omega (arith, below))

others-unmarked : (durable more n : ℕ) → durable ≤ n → is_marked (replicate durable true ++ replicate more false) n ≡ false
others-unmarked zero more n past = none-marked more n
others-unmarked (suc durable) more zero past = absurd (omega (arith, past))
others-unmarked (suc durable) more (suc n) past = others-unmarked durable more n (omega (arith, past))

numbers-marked : (durable more n : ℕ)
    → has_number (numbers_to durable) n ≡ is_marked (replicate durable true ++ replicate more false) n
numbers-marked durable more n = elim (cases_lt n durable) [
  | inl below ↦ has_number_from_below durable n below ∙ sym (first-marked durable more n below)
  | inr past ↦ elim (has_number (numbers_to durable) n) as (λ b. has_number (numbers_to durable) n ≡ b
      → b ≡ is_marked (replicate durable true ++ replicate more false) n) [
        | true ↦ λ e. let below = below_from_has_number durable n e in absurd (omega (arith, below, past))
        | false ↦ λ e. sym (others-unmarked durable more n past)
      ] refl
]

-- ---- what is kept

kept-first : (world : World) (durable : ℕ) → HaveStatics world.heap
    → Keeps (known_at_first world (numbers_to durable)) (first_lists world.heap durable)
kept-first world durable there = record {
  short = All-nil (λ (p : Asked). length p.marks ≤ _);
  roots = λ n. ap (λ b. b || is_root world.heap.roots n) (sym (none-marked (length world.heap.statics) n))
      ∙ sym (roots-marked (replicate (length world.heap.statics) false) world.heap.roots n
      (subst (λ k. All (λ (x : Root). x.at < k) world.heap.roots) (sym (length-replicate (length world.heap.statics) false)) there));
  durable = λ n. numbers-marked durable _ n;
  asked = refl;
  guards = refl;
  closing = refl;
  unfenced = refl;
}

pub keeping-begins : KeepingBegins
keeping-begins world durable k roots there closed is =
    let first = known_at_first world (numbers_to durable) in
    let none : k.asked.items ≡ [] = ap (λ (l : Lists). l.asked) is in record {
      keeps = subst (Keeps first) (sym is) (kept-first world durable roots);
      wishes = subst (λ (ps : List Asked). AreWishes first NoWish ps) (sym none) (record {
        each = All-nil (λ (p : Asked). IsWish world.heap first.durable p (NoWish p.thread));
        found = All-nil (λ (p : Asked). _);
        none = λ u n wanted. absurd wanted;
      });
      closed = closed;
      there = λ n has. let below = below_from_has_number durable n has in omega (arith, below, there);
      long = ap (λ (l : Lists). length l.durable) is
          ∙ length-append (replicate durable true) (replicate (length world.heap.objects - durable) false)
          ∙ long durable (length world.heap.objects) there;
    }
  where
    long : (d n : ℕ) → d ≤ n → length (replicate d true) + length (replicate (n - d) false) ≡ n
    long d n within =
        let a = length-replicate d true in
        let b = length-replicate (n - d) false in
        omega (arith, a, b, within)
