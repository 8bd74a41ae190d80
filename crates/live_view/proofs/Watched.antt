-- What the writer keeps.
use Rattle.std.proofs.Common.{◌≡◌, Bool, true, false, List, [], ◌∷◌, ◌++◌, Option, Some, fold, refl, ap, sym, ◌∙◌, subst}
use Rattle.std.specs.Prelude.{All, Result, Ok, Err, is_ok, MatchBool, MatchResult}
use Rattle.std.proofs.lemmas.List.Elements.{All-append, All-cons, All-nil}
use Rattle.logbook.specs.Pages.{Book}
use mathlib.Core.List.{IsPrefix}
use Rattle.run_history.specs.Recorded.{Recorded}
use Rattle.act_book.specs.Known.{Known}
use Rattle.live_view.specs.declared.shown.Shown.{Shown}
use Rattle.live_view.specs.declared.shown.Entry.{Entry}
use Rattle.live_view.specs.Entries.{with_entry}
use Rattle.live_view.specs.Ties.{Stands}
use Rattle.live_view.specs.Watching.{IsBegun, IsWatched, Learned, Watching, first_in}
use Rattle.live_view.proofs.Behind.{begins_all, behind_more, front_of_all, last_more, stands_behind}

-- an act more
pub watched_more : (v : Option Shown) (s : Shown) (pending : List Entry) (all : Known) (e : Entry)
    → IsWatched v s pending all → e.front ≡ record all { acts = all.acts ++ e.heard ∷ [] }
    → IsWatched v s (pending ++ e ∷ []) e.front
watched_more v s pending all e is front =
    let of : all.of ≡ e.front.of = sym (ap (λ (k : Known). k.of) front) in
    record {
      begun = subst (IsBegun v) of is.begun;
      stands = subst (λ o. Stands (first_in v) o s) of is.stands;
      behind = behind_more s.front pending e is.behind
          (subst (λ (k : Known). e.front ≡ record k { acts = k.acts ++ e.heard ∷ [] }) (sym is.last) front);
      last = last_more s.front pending e;
    }

-- all that was pending is shown
pub watched_published : (v : Option Shown) (s t : Shown) (pending none : List Entry) (all : Known)
    → IsWatched v s pending all → t ≡ fold with_entry s pending → none ≡ [] → IsWatched v t none all
watched_published v s t pending none all is shown empty =
    let front : t.front ≡ all = ap (λ (x : Shown). x.front) shown ∙ front_of_all s pending ∙ is.last in
    rw empty (record {
      begun = is.begun;
      stands = subst (Stands (first_in v) all.of) (sym shown) (stands_behind (first_in v) all.of s pending is.stands is.behind);
      behind = tt;
      last = front;
    })

pub published_all : (v : Option Shown) (s t : Shown) (pending : List Entry) (all : Known)
    → IsWatched v s pending all → t ≡ fold with_entry s pending → t.front ≡ all
published_all v s t pending all is shown = ap (λ (x : Shown). x.front) shown ∙ front_of_all s pending ∙ is.last

pub watched_prefix : (v : Option Shown) (s : Shown) (pending : List Entry) (all : Known)
    → IsWatched v s pending all → IsPrefix s.front.acts all.acts
watched_prefix v s pending all is =
    subst (λ (k : Known). IsPrefix s.front.acts k.acts) is.last (begins_all s.front pending is.behind)

-- before the first act
pub watched_first : (v : Option Shown) (s : Shown) (pending : List Entry) → v ≡ Some s → s.live.acts ≡ 0
    → s.front.acts ≡ [] → pending ≡ [] → IsWatched v s pending s.front
watched_first v s pending begun none empty nothing =
    rw (begun, nothing) (record {
      begun = refl;
      stands = record { none = none; live = rw empty refl; same = refl };
      behind = tt;
      last = refl;
    })

-- ---- what the writer's fields keep

-- an act was appended
pub appended_kept : (head : Book) (v w : Option Shown) (s t : Shown) (pending more : List Entry) (all next : Known) (e : Entry) (a : Recorded)
    → (head ≡ all.of) × IsWatched v s pending all → w ≡ v → t ≡ s → more ≡ pending ++ e ∷ [] → e.heard ≡ a
    → e.front ≡ record all { acts = all.acts ++ a ∷ [] } → next ≡ e.front → (head ≡ next.of) × IsWatched w t more next
appended_kept head v w s t pending more all next e a is same_v same_s is_more heard front same =
    let grown : e.front ≡ record all { acts = all.acts ++ e.heard ∷ [] } =
    front ∙ ap (λ (x : Recorded). record all { acts = all.acts ++ x ∷ [] }) (sym heard) in
    let watched : IsWatched v s (pending ++ e ∷ []) e.front = watched_more v s pending all e is.1 grown in
    rw (same_v, same_s, is_more, same) (is.0 ∙ sym (ap (λ (k : Known). k.of) front), watched)

-- what publishing leaves: all that was pending is shown, or nothing has changed
abbrev pub IsLeft : {A B : Type 0} → Result A B → Shown → List Entry → Shown → List Entry → Type 0
IsLeft r s pending t left =
    MatchResult r (λ _. (t ≡ fold with_entry s pending) × (left ≡ [])) (λ _. (t ≡ s) × (left ≡ pending))

pub published_kept : {A B : Type 0} (r : Result A B) (head : Book) (v w : Option Shown) (s t : Shown) (pending left : List Entry) (all : Known)
    → (head ≡ all.of) × IsWatched v s pending all → w ≡ v → IsLeft r s pending t left → (head ≡ all.of) × IsWatched w t left all
published_kept (Ok x) head v w s t pending left all is same values =
    rw same (is.0, watched_published v s t pending left all is.1 values.0 values.1)
published_kept (Err e) head v w s t pending left all is same values = rw (same, values.0, values.1) is

abbrev pub watching_of : Option Shown → Shown → Known → Bool → Watching
watching_of v s all frozen =
    record { first = first_in v; of = all.of; published = s.front.acts; appended = all.acts; frozen = frozen }

-- all that was appended is published, or nothing has changed
pub published_told : {A B : Type 0} (r : Result A B) (b : Bool) (v w : Option Shown) (s t : Shown) (pending left : List Entry) (all : Known)
    (frozen : Bool) (old : Watching) → watching_of v s all frozen ≡ old → IsWatched v s pending all → w ≡ v
    → IsLeft r s pending t left → b ≡ is_ok r
    → MatchBool b (watching_of w t all frozen ≡ record old { published = old.appended }) (watching_of w t all frozen ≡ old)
published_told (Ok x) true v w s t pending left all frozen old view is same values told =
    rw same (ap (λ (k : Known). record (watching_of v s all frozen) { published = k.acts }) (published_all v s t pending all is values.0)
    ∙ ap (λ (o : Watching). record o { published = o.appended }) view)
published_told (Err e) false v w s t pending left all frozen old view is same values told =
    rw (same, values.0) view
published_told (Ok x) false v w s t pending left all frozen old view is same values told = absurd (cc)
published_told (Err e) true v w s t pending left all frozen old view is same values told = absurd (cc)

-- ---- the readers that a writer has made

-- the reader knows what the writer began with, and what it has published
abbrev pub IsFor : Watching → Learned → Type 0
IsFor w r = r ≡ record { first = w.first; of = w.of; acts = w.published }

pub readers_more : (old new : Watching) (items more : List Learned) (r : Learned) → new ≡ old → All (IsFor old) items → IsFor new r
    → more ≡ items ++ r ∷ [] → All (IsFor new) more
readers_more old new items more r same all one is =
    subst (All (IsFor new)) (sym is)
    (All-append (IsFor new) items (r ∷ []) (subst (λ (w : Watching). All (IsFor w) items) (sym same) all)
    (All-cons (IsFor new) r [] one (All-nil (IsFor new))))
