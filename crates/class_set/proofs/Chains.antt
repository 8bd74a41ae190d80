-- The superclasses of a class, one above another.
use Rattle.std.proofs.Common.{◌≡◌, ℕ, zero, suc, ◌+◌, ◌<◌, ◌≤◌, List, [], ◌∷◌, Option, Some, None, map, length, slice_index_or}
use Rattle.std.proofs.Common.{refl, ap, ◌∙◌, arith}
use Rattle.std.specs.Prelude.{All}
use Rattle.std.proofs.lemmas.List.Elements.{All-cons, All-nil}
use Rattle.class_file.specs.declared.class.ClassFile.{ClassFile}
use Rattle.plain_model.specs.Facts.{classes_of, superclasses_from, superclasses_of as plain_superclasses_of}
use Rattle.class_set.specs.Linked.{Linked}
use Rattle.class_set.specs.Members.{supers_of, superclasses_in, superclasses_of}
use Rattle.class_set.specs.Facts.{class_facts, facts_of}
use Rattle.class_set.proofs.Above.{super_below}

pub chain_ends : (supers : List (Option ℕ)) (k m n : ℕ) → m ≡ suc k → slice_index_or supers n None ≡ None → superclasses_in supers m n ≡ n ∷ []
chain_ends supers k m n e h = rw (e, h) refl

pub chain_next : (supers : List (Option ℕ)) (k m n above : ℕ) → m ≡ suc k → slice_index_or supers n None ≡ Some above
    → superclasses_in supers m n ≡ n ∷ superclasses_in supers k above
chain_next supers k m n above e h = rw (e, h) refl

pub chain_last : (supers : List (Option ℕ)) (m n : ℕ) → m ≡ 0 → superclasses_in supers m n ≡ n ∷ []
chain_last supers m n e = rw e refl

-- each superclass is one of so many classes
abbrev pub AreWithin : ℕ → List (Option ℕ) → Type 0
AreWithin count supers = (k n : ℕ) → slice_index_or supers k None ≡ Some n → n < count

pub chain_within : (supers : List (Option ℕ)) (count m n : ℕ) → AreWithin count supers → n < count
    → All (λ (v : ℕ). v < count) (superclasses_in supers m n)
chain_within supers count zero n h l = All-cons (λ (v : ℕ). v < count) n [] l (All-nil (λ (v : ℕ). v < count))
chain_within supers count (suc m) n h l =
    All-cons (λ (v : ℕ). v < count) n (elim (slice_index_or supers n None) [ None ↦ [] | Some super ↦ superclasses_in supers m super ]) l
    (elim (slice_index_or supers n None) as (λ o. slice_index_or supers n None ≡ o
    → All (λ (v : ℕ). v < count) (elim o [ None ↦ [] | Some super ↦ superclasses_in supers m super ])) [
      | None ↦ λ e. All-nil (λ (v : ℕ). v < count)
      | Some super ↦ λ e. chain_within supers count m super h (h n super e)
    ] refl)

pub chain_length : (supers : List (Option ℕ)) (m n : ℕ) → length (superclasses_in supers m n) ≤ suc m
chain_length supers zero n = omega arith
chain_length supers (suc m) n =
    elim (slice_index_or supers n None) as (λ o. length (n ∷ (elim o [ None ↦ [] | Some super ↦ superclasses_in supers m super ])) ≤ suc (suc m)) [
      | None ↦ omega arith
      | Some super ↦ omega (arith, chain_length supers m super)
    ]

-- ---- the same as the facts of the set say

abbrev AreSame : List ℕ → List ℕ → Type 0
AreSame xs ys = xs ≡ ys

plain_chain : (set : Linked) (m n : ℕ) → AreWithin (length (supers_of set.files)) (supers_of set.files) → n < length (supers_of set.files)
    → superclasses_from (classes_of (facts_of set)) m n ≡ superclasses_in (supers_of set.files) m n
plain_chain set zero n h l = refl
plain_chain set (suc m) n h l =
    ap (λ o. n ∷ (elim o [ None ↦ [] | Some super ↦ superclasses_from (classes_of (facts_of set)) m super ])) (super_below set n l)
    ∙ ap (λ ns. n ∷ ns) (elim (slice_index_or (supers_of set.files) n None) as (λ o. slice_index_or (supers_of set.files) n None ≡ o
    → AreSame (elim o [ None ↦ [] | Some super ↦ superclasses_from (classes_of (facts_of set)) m super ])
    (elim o [ None ↦ [] | Some super ↦ superclasses_in (supers_of set.files) m super ])) [
      | None ↦ λ e. refl
      | Some super ↦ λ e. plain_chain set m super h (h n super e)
    ] refl)

program_counted : (all files : List ClassFile) → length (map (class_facts all) files) ≡ length files
program_counted all [] = refl
program_counted all (c ∷ cs) = ap suc (program_counted all cs)

pub superclasses_listed : (set : Linked) (n : ℕ) → AreWithin (length (supers_of set.files)) (supers_of set.files)
    → n < length (supers_of set.files) → plain_superclasses_of (facts_of set) n ≡ superclasses_of set.files n
superclasses_listed set n h l =
    ap (λ m. superclasses_from (classes_of (facts_of set)) (m + 28) n) (program_counted set.files set.files)
    ∙ plain_chain set (length set.files + 28) n h l
