-- What is kept is what is known, after one more operation.
use Rattle.std.proofs.Common.{◌≡◌, ℕ, zero, suc, ◌≤◌, Bool, true, false, not, ◌&&◌, nat_eq, List, [], ◌∷◌, ◌++◌, map, filter, length, length-append, refl, sym, ◌∙◌, ap, subst, arith, if◌then◌else◌}
use Rattle.std.specs.Prelude.{slice_set}
use Rattle.std.proofs.lemmas.List.{length-set}
use Rattle.ap_base.specs.declared.place.Place.{Place}
use Rattle.ap_base.specs.declared.place.Place.TheVariants.{Static, Slot}
use Rattle.graph_model.specs.declared.types.Value.{Value}
use Rattle.graph_model.specs.declared.types.Heap.{Heap}
use Rattle.graph_model.specs.Heaps.{has_number}
use Rattle.run_history.specs.declared.act.Op.{Op}
use Rattle.run_history.specs.declared.act.Op.TheVariants as op
use Rattle.run_history.specs.Worlds.{depth_of, heap_after_op}
use Rattle.run_history.specs.Knowing.{Knowledge, known_after_op, after_stored, after_end, durable_at, fate_of, store_fate, is_single, is_root, is_outermost}
use Rattle.audit_keeping.specs.declared.keeping.Owed.{Owed}
use Rattle.audit_keeping.specs.Keeping.{Lists, Keeps, AreShort, IsMarkable, IsNoAsk, is_other_asked, with_asked, pending_in, guard_in, owed_in, is_marked, durable_in, marked_with, next_lists, lists_after_store, lists_after_end}
use Rattle.std.proofs.lemmas.List.Elements.{All-filter, All-weaker, All-push}
use Rattle.audit_keeping.specs.declared.keeping.Asked.{Asked}
use Rattle.audit_keeping.proofs.Marking.{marking-is-joining}

filter-map : {X Y : Type 0} (f : X → Y) (p : Y → Bool) (xs : List X) → filter p (map f xs) ≡ map f (filter (λ x. p (f x)) xs)
filter-map f p [] = refl
filter-map f p (x ∷ xs) = elim (p (f x)) as (λ b. (if b then f x ∷ filter p (map f xs) else filter p (map f xs))
    ≡ map f (if b then x ∷ filter (λ y. p (f y)) xs else filter (λ y. p (f y)) xs)) [
      | true ↦ ap (λ ys. f x ∷ ys) (filter-map f p xs)
      | false ↦ filter-map f p xs
    ]

map-push : {X Y : Type 0} (f : X → Y) (xs : List X) (x : X) → map f (xs ++ x ∷ []) ≡ map f xs ++ f x ∷ []
map-push f [] x = refl
map-push f (y ∷ xs) x = ap (λ ys. f y ∷ ys) (map-push f xs x)

marked-push : (marks : List Bool) (n : ℕ) → is_marked (marks ++ false ∷ []) n ≡ is_marked marks n
marked-push [] zero = refl
marked-push [] (suc n) = refl
marked-push (m ∷ ms) zero = refl
marked-push (m ∷ ms) (suc n) = marked-push ms n

pub long-after : (marks : List Bool) (ns : List ℕ) → length (marked_with marks ns) ≡ length marks
long-after marks [] = refl
long-after marks (n ∷ ns) = long-after (slice_set marks n true) ns ∙ length-set marks n true

not-zero : (n : ℕ) → nat_eq (suc n) 0 ≡ false
not-zero n = grind arith

single-of : (t : ℕ) (durable : Bool) (depth : ℕ) (closing : Bool) → is_single (store_fate t durable depth closing) ≡ (durable && nat_eq depth 0)
single-of t false zero closing = refl
single-of t false (suc depth) closing = refl
single-of t true zero closing = refl
single-of t true (suc depth) true = sym (not-zero depth)
single-of t true (suc depth) false = sym (not-zero depth)

durable-place : (known : Knowledge) (l : Lists) → Keeps known l → (place : Place) → durable_at known place ≡ durable_in l.roots l.durable place
durable-place known l k (Static n) = k.roots n
durable-place known l k (Slot n i) = k.durable n

roots-op : (heap : Heap) (o : Op) (n : ℕ) → is_root (heap_after_op heap o).roots n ≡ is_root heap.roots n
roots-op heap (op.Stored (Static f) value) n = refl
roots-op heap (op.Stored (Slot m i) value) n = refl
roots-op heap o n = refl

owed-after : (us : List Owed) (t : ℕ) (place : Place) (b c : Bool) → b ≡ c
    → (if b then map owed_in us ++ record { thread = t; place = place } ∷ [] else map owed_in us)
    ≡ map owed_in (if c then us ++ record { thread = t; place = place } ∷ [] else us)
owed-after us t place b c same = subst (λ x. (if b then map owed_in us ++ record { thread = t; place = place } ∷ [] else map owed_in us)
    ≡ map owed_in (if x then us ++ record { thread = t; place = place } ∷ [] else us)) same
    (elim b as (λ x. (if x then map owed_in us ++ record { thread = t; place = place } ∷ [] else map owed_in us)
    ≡ map owed_in (if x then us ++ record { thread = t; place = place } ∷ [] else us)) [
      | true ↦ sym (map-push owed_in us (record { thread = t; place = place }))
      | false ↦ refl
    ])

short-filter : (count t : ℕ) (ps : List Asked) → AreShort count ps → AreShort count (filter (is_other_asked t) ps)
short-filter count t ps short = All-filter (is_other_asked t) (λ (p : Asked). length p.marks ≤ count) ps short

short-more : (count more : ℕ) (ps : List Asked) → count ≤ more → AreShort count ps → AreShort more ps
short-more count more ps up short = All-weaker (λ (p : Asked). length p.marks ≤ count) (λ (p : Asked). length p.marks ≤ more) (λ p few. omega (arith, few, up)) ps short

module _ (known : Knowledge) (l : Lists) (t : ℕ) (named : List ℕ) (k : Keeps known l) where
  kept-store : (place : Place) (value : Value) → Keeps (after_stored known t place value (fate_of known t place))
      (lists_after_store l t place (durable_in l.roots l.durable place && nat_eq (depth_of known.world t) 0))
  kept-store place value = record {
    short = short-filter (length l.durable) t l.asked k.short;
    roots = λ n. roots-op known.world.heap (op.Stored place value) n ∙ k.roots n;
    durable = k.durable;
    asked = ap (filter (λ p. not (nat_eq p.thread t))) k.asked ∙ filter-map pending_in (λ p. not (nat_eq p.thread t)) l.asked;
    guards = k.guards;
    closing = k.closing;
    unfenced = rw k.unfenced (owed-after l.unfenced t place (is_single (fate_of known t place)) (durable_in l.roots l.durable place && nat_eq (depth_of known.world t) 0)
        (single-of t (durable_at known place) (depth_of known.world t) (has_number known.closing t)
        ∙ ap (λ b. b && nat_eq (depth_of known.world t) 0) (durable-place known l k place)));
  }

  kept-end : (outermost : Bool) → Keeps (after_end known t outermost) (lists_after_end l t outermost)
  kept-end false = record { short = k.short; roots = k.roots; durable = k.durable; asked = k.asked; guards = k.guards; closing = k.closing; unfenced = k.unfenced }
  kept-end true = record {
    short = k.short;
    roots = k.roots;
    durable = k.durable;
    asked = k.asked;
    guards = ap (filter (λ g. not (nat_eq g.thread t))) k.guards ∙ filter-map guard_in (λ g. not (nat_eq g.thread t)) l.guards;
    closing = ap (filter (λ n. not (nat_eq n t))) k.closing;
    unfenced = k.unfenced;
  }

  kept-made : (o : Op) → (n : ℕ) → has_number known.durable n ≡ is_marked (l.durable ++ false ∷ []) n
  kept-made o n = k.durable n ∙ sym (marked-push l.durable n)

  short-made : AreShort (length (l.durable ++ false ∷ [])) l.asked
  short-made = let more = length-append l.durable (false ∷ []) in short-more (length l.durable) (length (l.durable ++ false ∷ [])) l.asked (omega (arith, more)) k.short

pub kept-is-known : (known : Knowledge) (l : Lists) (t : ℕ) (named : List ℕ) (o : Op) → Keeps known l → IsNoAsk o → IsMarkable l named o
    → Keeps (known_after_op known t named o) (next_lists l t (depth_of known.world t) named o)
unfolding known_after_op
kept-is-known known l t named (op.Asked place value) k told m = absurd told
kept-is-known known l t named op.Joined k told m =
    record {
      short = subst (λ x. AreShort x l.asked) (sym (long-after l.durable named)) k.short;
      roots = k.roots;
      asked = k.asked;
      guards = k.guards;
      closing = k.closing;
      unfenced = k.unfenced;
      durable = (marking-is-joining known.durable l.durable l.asked named k.durable k.short).marks_now m;
    }
kept-is-known known l t named (op.Guarded place) k told m =
    record {
      short = k.short;
      roots = k.roots;
      durable = k.durable;
      asked = k.asked;
      closing = k.closing;
      unfenced = k.unfenced;
      guards = ap (λ gs. gs ++ record { thread = t; place = place } ∷ []) k.guards ∙ sym (map-push guard_in l.guards (record { thread = t; place = place }));
    }
kept-is-known known l t named op.Closing k told m =
    record {
      short = k.short;
      roots = k.roots;
      durable = k.durable;
      asked = k.asked;
      guards = k.guards;
      unfenced = k.unfenced;
      closing = ap (λ ts. ts ++ t ∷ []) k.closing;
    }
kept-is-known known l t named op.Fenced k told m =
    record {
      short = k.short;
      roots = k.roots;
      durable = k.durable;
      asked = k.asked;
      guards = k.guards;
      closing = k.closing;
      unfenced = ap (filter (λ u. not (nat_eq u.thread t))) k.unfenced ∙ filter-map owed_in (λ u. not (nat_eq u.thread t)) l.unfenced;
    }
kept-is-known known l t named (op.Stored place value) k told m = kept-store known l t named k place value
kept-is-known known l t named op.End k told m = kept-end known l t named k (is_outermost known t)
kept-is-known known l t named (op.Alloc n shape count) k told m =
    record { short = short-made known l t named k; roots = k.roots; durable = kept-made known l t named k (op.Alloc n shape count); asked = k.asked; guards = k.guards; closing = k.closing; unfenced = k.unfenced }
kept-is-known known l t named (op.Throw n class) k told m =
    record { short = short-made known l t named k; roots = k.roots; durable = kept-made known l t named k (op.Throw n class); asked = k.asked; guards = k.guards; closing = k.closing; unfenced = k.unfenced }
kept-is-known known l t named o k told m =
    record { short = k.short; roots = k.roots; durable = k.durable; asked = k.asked; guards = k.guards; closing = k.closing; unfenced = k.unfenced }

pub asked-is-known : (known : Knowledge) (l : Lists) (p : Asked) (named : List ℕ) → Keeps known l → length p.marks ≤ length l.durable
    → Keeps (known_after_op known p.thread named (op.Asked p.place p.value)) (with_asked l p)
unfolding known_after_op
asked-is-known known l p named k few = record {
  short = All-push (λ (q : Asked). length q.marks ≤ length l.durable) l.asked p k.short few;
  roots = k.roots;
  durable = k.durable;
  guards = k.guards;
  closing = k.closing;
  unfenced = k.unfenced;
  asked = ap (λ ps. ps ++ record { thread = p.thread; place = p.place; value = p.value } ∷ []) k.asked ∙ sym (map-push pending_in l.asked p);
}
