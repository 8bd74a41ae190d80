-- A new node is asked, joined, stored to the root and fenced.
use Rattle.std.proofs.Common.{◌≡◌, ◌⊎◌, ℕ, true, false, [], ◌∷◌, ◌++◌, refl, ap, ◌∙◌, inl, inr, lit≤, lit<, arith, List, nat_eq}
use Rattle.std.proofs.Common.{if◌then◌else◌, subst}
use Rattle.std.specs.Prelude.{All, AllPairs, Contains, ◌≢◌, Some, None}
use Rattle.std.proofs.lemmas.List.Elements.{All-nil, All-cons, All-contains}
use Rattle.ap_base.specs.declared.place.Place.TheVariants.{Static}
use Rattle.graph_model.specs.declared.types.Value.{Value}
use Rattle.graph_model.specs.declared.types.Value.TheVariants.{Null, Obj as Object}
use Rattle.graph_model.specs.declared.types.Heap.{Heap}
use Rattle.graph_model.specs.Heaps.{has_number, values_of, with_fresh}
use Rattle.graph_model.specs.Reach.{Reaches, here, along}
use Rattle.run_history.specs.Knowing.{Knowledge, Pending, pending_of, known_after_op, known_after}
use Rattle.run_history.specs.Wanted.{Wishes, NoWish, WantsNow, WantsAfter}
use Rattle.plain_model.specs.First.{first_world, first_heap, first_known}
use Rattle.plain_model.specs.Steps.{step}
use Rattle.plain_model.specs.Codes.{frames_after_op}
use Rattle.plain_model.specs.Rows.{nodes, null_root, made_node, Publishes, asked, joined, stored, fenced, left}
use Rattle.plain_model.proofs.Wanted.{wants_now}
use Rattle.plain_model.proofs.ClosedTest.{closed_by_test}

alone_once : (n : ℕ) → AllPairs (λ i j. i ≢ j) (n ∷ [])
alone_once n i j d before within = absurd (omega (arith, before, within))

alone : (P : ℕ → Type 0) (n : ℕ) → P n → All P (n ∷ [])
alone P n holds = All-cons P n [] holds (All-nil P)

abbrev made_heap : Heap
made_heap = with_fresh (first_heap nodes null_root) 1 1

pub published : Publishes (asked ∷ joined (2 ∷ []) ∷ stored ∷ fenced ∷ left ∷ [])
unfolding first_world first_heap known_after_op frames_after_op step
published = (
  record { later = lit≤ tt; rule = refl; named = refl; fence = refl; is_closed = closed_by_test _ refl },
  (
    record { later = lit≤ tt; rule = refl; named = refl; fence = refl; is_closed = closed_by_test _ refl },
    (
      record { later = lit≤ tt; rule = refl; named = refl; fence = refl; is_closed = closed_by_test _ refl },
      (
        record { later = lit≤ tt; rule = refl; named = refl; fence = refl; is_closed = closed_by_test _ refl },
        (
          record { later = lit≤ tt; rule = refl; named = refl; fence = refl; is_closed = closed_by_test _ refl },
          (
            record {
              later = lit≤ tt;
              rule = record { none_pending = refl; is_about = refl; volatile = (2, refl, refl); holder = inl refl };
              named = refl;
              fence = refl;
              is_closed = closed_by_test _ refl;
            },
            (
              record {
                later = lit≤ tt;
                rule = record {
                  some = λ none. let no : 2 ∷ [] ≡ [] = none in cc;
                  once = alone_once 2;
                  volatile = alone (λ n. has_number [] n ≡ false) 2 refl;
                  wanted = λ k d within. (0, alone (Reaches made_heap (λ m. (Object 2 ≡ Object m) ⊎ ⊥)) 2 (here 2 (inl refl)) k d within);
                };
                named = tt;
                fence = refl;
                is_closed = closed_by_test _ refl;
              },
              (
                record {
                  later = lit≤ tt;
                  rule = record { is_about = refl; no_race = λ durable. inl refl; guarded = λ durable within. absurd (within refl) };
                  named = refl;
                  fence = refl;
                  is_closed = closed_by_test _ refl;
                },
                (
                  record { later = lit≤ tt; rule = tt; named = refl; fence = refl; is_closed = closed_by_test _ refl },
                  (
                    record { later = lit≤ tt; rule = refl; named = refl; fence = refl; is_closed = closed_by_test _ refl },
                    tt,
                  ),
                ),
              ),
            ),
          ),
        ),
      ),
    ),
  ),
)

pub without_joined_refused : Publishes (asked ∷ stored ∷ fenced ∷ left ∷ []) → ⊥
unfolding first_world first_heap known_after_op frames_after_op step
without_joined_refused run = let no : false ≡ true = run.1.1.1.1.1.1.0.is_closed.roots 1 2 refl refl in cc

pub stored_first_refused : Publishes (asked ∷ stored ∷ joined (2 ∷ []) ∷ fenced ∷ left ∷ []) → ⊥
unfolding first_world first_heap known_after_op frames_after_op step
stored_first_refused run = let no : false ≡ true = run.1.1.1.1.1.1.0.is_closed.roots 1 2 refl refl in cc

pub without_fenced_refused : Publishes (asked ∷ joined (2 ∷ []) ∷ stored ∷ left ∷ []) → ⊥
unfolding first_world first_heap known_after_op frames_after_op step
without_fenced_refused run = let no : false ≡ true = run.1.1.1.1.1.1.1.1.0.fence in cc

pub joined_nothing_refused : Publishes (asked ∷ joined [] ∷ stored ∷ fenced ∷ left ∷ []) → ⊥
unfolding first_world first_heap known_after_op frames_after_op step
joined_nothing_refused run = run.1.1.1.1.1.1.0.rule.some refl

-- An object with one slot, which is null, reaches itself alone.
only_itself : (heap : Heap) (From : ℕ → Type 0) → values_of heap 2 ≡ Null ∷ [] → ((m : ℕ) → From m → m ≡ 2)
    → (n : ℕ) → Reaches heap From n → n ≡ 2
only_itself heap From null from n (here m start) = from m start
only_itself heap From null from n (along m k reached refers) =
    let P : Value → Type 0 = λ v. v ≢ Object k in
    let none : All P (Null ∷ []) = All-cons P Null [] (λ e. let no : Null ≡ Object k = e in cc) (All-nil P) in
    let its : Contains (values_of heap 2) (Object k) = rw (only_itself heap From null from m reached) at refers in
    absurd (All-contains P (Null ∷ []) (Object k) none (rw null at its) refl)

one_pending : (p q : Pending) (u : ℕ) → pending_of (p ∷ []) u ≡ Some q → p ≡ q
one_pending p q u is = elim (nat_eq p.thread u) as (λ b. (if b then Some p else None) ≡ Some q → p ≡ q) [
  | true ↦ λ e. let it : Some p ≡ Some q = e in cc
  | false ↦ λ e. absurd (let no : None ≡ Some q = e in cc)
] is

abbrev asks_node : Pending
asks_node = record { thread = 0; place = Static 1; value = Object 2 }

-- where object 2 alone is asked, and has one slot, which is null, nobody wants object 0
unwanted : (known : Knowledge) (Before : Wishes) (u : ℕ) → known.asked ≡ asks_node ∷ [] → values_of known.world.heap 2 ≡ Null ∷ []
    → ((v m : ℕ) → Before v m → ⊥) → WantsNow known Before u 0 → ⊥
unwanted known Before u is_asked null none wants =
    let now = wants_now known Before u 0 wants in
    let is_it : asks_node ≡ now.pending = one_pending asks_node now.pending u (subst (λ (ps : List Pending). pending_of ps u ≡ Some now.pending) is_asked now.is_pending) in
    let From : ℕ → Type 0 = λ m. (now.pending.value ≡ Object m) ⊎ Before u m in
    let from : (m : ℕ) → From m → m ≡ 2 = λ m start. elim start [
      | inl is ↦ let same : Object 2 ≡ Object m = ap (λ (p : Pending). p.value) is_it ∙ is in cc
      | inr before ↦ absurd (none u m before)
    ] in
    absurd (let differ : 0 ≡ 2 = only_itself known.world.heap From null from 0 now.reached in omega arith)

pub joined_unreached_refused : Publishes (asked ∷ joined (2 ∷ 0 ∷ []) ∷ stored ∷ fenced ∷ left ∷ []) → ⊥
unfolding first_world first_heap known_after_op frames_after_op step
joined_unreached_refused run =
    let (u, wanted) = run.1.1.1.1.1.1.0.rule.wanted 1 0 (lit< tt) in
    let first = first_known nodes null_root in
    unwanted (known_after first (made_node ++ asked ∷ [])) (WantsAfter first NoWish made_node) u refl refl (λ v m wants. wants) wanted
