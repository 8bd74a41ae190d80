-- What is shown after further acts stands for its acts.
use Rattle.std.proofs.Common.{◌≡◌, List, [], ◌∷◌, ◌++◌, fold, refl, ap, sym, ◌∙◌}
use Rattle.std.proofs.lemmas.Grind.{fold-append}
use mathlib.Core.List.{IsPrefix}
use Rattle.logbook.specs.Pages.{Book}
use Rattle.act_book.specs.Known.{Known}
use Rattle.act_book.proofs.Fronts.{prefix_self, prefix_trans}
use Rattle.live_heap.specs.Seen.{Seen, seen_after, seen_from}
use Rattle.live_view.specs.declared.shown.Shown.{Shown}
use Rattle.live_view.specs.declared.shown.Entry.{Entry}
use Rattle.live_view.specs.Entries.{AreBehind, last_front, with_entry}
use Rattle.live_view.specs.Ties.{Stands}

stands_more : (first : Seen) (of : Book) (s : Shown) (e : Entry) → Stands first of s
    → e.front ≡ record s.front { acts = s.front.acts ++ e.heard ∷ [] } → Stands first of (with_entry s e)
stands_more first of s e stands front = record {
  none = stands.none;
  live = ap (λ (x : Seen). seen_after x e.heard) stands.live
      ∙ sym (fold-append seen_after first s.front.acts (e.heard ∷ []))
      ∙ sym (ap (λ (k : Known). seen_from first k.acts) front);
  same = ap (λ (k : Known). k.of) front ∙ stands.same;
}

pub stands_behind : (first : Seen) (of : Book) (s : Shown) (es : List Entry) → Stands first of s → AreBehind s.front es
    → Stands first of (fold with_entry s es)
stands_behind first of s [] stands behind = stands
stands_behind first of s (e ∷ es) stands behind =
    stands_behind first of (with_entry s e) es (stands_more first of s e stands behind.0) behind.1

-- with all of them, what is shown has the last of their histories
pub front_of_all : (s : Shown) (es : List Entry) → (fold with_entry s es).front ≡ last_front s.front es
front_of_all s [] = refl
front_of_all s (e ∷ es) = front_of_all (with_entry s e) es

pub behind_more : (known : Known) (es : List Entry) (e : Entry) → AreBehind known es
    → e.front ≡ record (last_front known es) { acts = (last_front known es).acts ++ e.heard ∷ [] }
    → AreBehind known (es ++ e ∷ [])
behind_more known [] e behind front = (front, tt)
behind_more known (x ∷ es) e behind front = (behind.0, behind_more x.front es e behind.1 front)

pub last_more : (known : Known) (es : List Entry) (e : Entry) → last_front known (es ++ e ∷ []) ≡ e.front
last_more known [] e = refl
last_more known (x ∷ es) e = last_more x.front es e

pub same_history : (known : Known) (es : List Entry) → AreBehind known es → (last_front known es).of ≡ known.of
same_history known [] behind = refl
same_history known (e ∷ es) behind = same_history e.front es behind.1 ∙ ap (λ (k : Known). k.of) behind.0

-- what is shown has the first of the acts that all these are
pub begins_all : (known : Known) (es : List Entry) → AreBehind known es → IsPrefix known.acts (last_front known es).acts
begins_all known [] behind = prefix_self known.acts
begins_all known (e ∷ es) behind =
    prefix_trans known.acts e.front.acts (last_front e.front es).acts
    (e.heard ∷ [], sym (ap (λ (k : Known). k.acts) behind.0)) (begins_all e.front es behind.1)
