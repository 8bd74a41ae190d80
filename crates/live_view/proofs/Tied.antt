-- Each step keeps the rule.
use Rattle.std.proofs.Common.{◌≡◌, ◌≢◌, ℕ, List, [], ◌∷◌, ◌++◌, fold, set, refl, sym, ◌∙◌, subst, ⊎_elim, Option, Some, None}
use mathlib.Core.Option.{some}
use lib.ListN.{get_elem?}
use Rattle.left_right.specs.Register.{Admits, TurnsAt, Forks, Merges}
use Rattle.atomic_table.proofs.Lists.{at_set, at_snoc}
use Rattle.logbook.specs.Pages.{Book}
use Rattle.live_heap.specs.Seen.{Seen}
use Rattle.live_view.specs.declared.shown.Shown.{Shown}
use Rattle.live_view.specs.declared.shown.Entry.{Entry}
use Rattle.live_view.specs.Entries.{AreBehind, with_entry}
use Rattle.live_view.specs.Ties.{Stands, IsBeginning, IsTied, StandsBy, Looks, Starts}
use Rattle.live_view.proofs.Behind.{stands_behind}

each_set : (P : Option Shown → Type 0) (views : List (Option Shown)) (seat : ℕ) (v : Option Shown)
    → ((j : ℕ) (u : Option Shown) → get_elem? views j ≡ some u → P u) → P v
    → (j : ℕ) (u : Option Shown) → get_elem? (set views seat v) j ≡ some u → P u
each_set P views seat v all new j u e =
    ⊎_elim (λ (t : (j ≡ seat) × (v ≡ u)). subst P t.1 new)
    (λ (t : (j ≢ seat) × (get_elem? views j ≡ some u)). all j u t.1) (at_set views seat j v u e)

each_snoc : (P : Option Shown → Type 0) (views : List (Option Shown)) (v : Option Shown)
    → ((j : ℕ) (u : Option Shown) → get_elem? views j ≡ some u → P u) → P v
    → (j : ℕ) (u : Option Shown) → get_elem? (views ++ v ∷ []) j ≡ some u → P u
each_snoc P views v all new j u e =
    ⊎_elim (all j u) (λ (same : v ≡ u). subst P same new) (at_snoc views v u j e)

-- before a thread is told, it knows no beginning
pub ties_first : (s : Shown) → s.live.acts ≡ 0 → s.front.acts ≡ [] → IsTied s (None ∷ [])
ties_first s none empty = record {
  first = s.live;
  of = s.front.of;
  stands = record { none = none; live = rw empty refl; same = refl };
  each = λ j u e. ⊎_elim (λ (h : get_elem? [] j ≡ some u). absurd (cc)) (λ (same : None ≡ u). subst (IsBeginning s.live s.front.of) same tt)
      (at_snoc [] None u j e);
}

pub admits : Admits IsTied None
admits s views tied = record {
  first = tied.first;
  of = tied.of;
  stands = tied.stands;
  each = each_snoc (IsBeginning tied.first tied.of) views None tied.each tt;
}

stands_by : (v : Option Shown) (first : Seen) (of : Book) (s : Shown) → IsBeginning first of v → Stands first of s → StandsBy v s
stands_by None first of s known stands = tt
stands_by (Some b) first of s known stands = rw (known.0, known.1) stands

-- a step after which what is published still stands for its acts
pub sees : (seat : ℕ) (v : Option Shown) (x y : Shown)
    → ((first : Seen) (of : Book) → Stands first of x → Stands first of y) → TurnsAt IsTied seat v x y Looks
sees seat v x y go views tied at =
    let stands = go tied.first tied.of tied.stands in
    let known = tied.each seat v at in (
      v,
      record {
        first = tied.first;
        of = tied.of;
        stands = stands;
        each = each_set (IsBeginning tied.first tied.of) views seat v tied.each known;
      },
      (refl, stands_by v tied.first tied.of y known stands),
    )

pub looks : (seat : ℕ) (v : Option Shown) (x : Shown) → TurnsAt IsTied seat v x x Looks
looks seat v x = sees seat v x x (λ first of stands. stands)

pub publishes : (seat : ℕ) (v : Option Shown) (x y : Shown) (es : List Entry) → AreBehind x.front es → y ≡ fold with_entry x es
    → TurnsAt IsTied seat v x y Looks
publishes seat v x y es behind is =
    sees seat v x y (λ first of stands. subst (Stands first of) (sym is) (stands_behind first of x es stands behind))

-- what is published before the first act is the beginning
pub begins : (seat : ℕ) (v : Option Shown) (x y : Shown) → x.front.acts ≡ [] → y ≡ x → TurnsAt IsTied seat v x y Starts
begins seat v x y empty is views tied at =
    let live : x.live ≡ tied.first = tied.stands.live ∙ rw empty refl in (
      Some x,
      record {
        first = tied.first;
        of = tied.of;
        stands = subst (Stands tied.first tied.of) (sym is) tied.stands;
        each = each_set (IsBeginning tied.first tied.of) views seat (Some x) tied.each (live, tied.stands.same);
      },
      refl,
    )

pub forks : (seat : ℕ) (v : Option Shown) → Forks IsTied seat v v v
forks seat v s views tied at =
    let known = tied.each seat v at in
    record {
      first = tied.first;
      of = tied.of;
      stands = tied.stands;
      each = each_snoc (IsBeginning tied.first tied.of) (set views seat v) v
          (each_set (IsBeginning tied.first tied.of) views seat v tied.each known) known;
    }

pub merges : (seat : ℕ) (v : Option Shown) (other : ℕ) (w : Option Shown) → Merges IsTied seat v other w w None
merges seat v other w s views tied at apart there =
    let known : IsBeginning tied.first tied.of w =
    ⊎_elim (λ (t : (other ≡ seat) × (w ≡ w)). absurd (apart t.0))
    (λ (t : (other ≢ seat) × (get_elem? views other ≡ some w)). tied.each other w t.1) (at_set views seat other w w there) in
    record {
      first = tied.first;
      of = tied.of;
      stands = tied.stands;
      each = each_set (IsBeginning tied.first tied.of) (set views seat w) other None
          (each_set (IsBeginning tied.first tied.of) views seat w tied.each known) tt;
    }
