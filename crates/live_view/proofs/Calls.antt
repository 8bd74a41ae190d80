-- Writers show what they saw.
use Rattle.std.proofs.Common.{◌≡◌, inl, inr, true, false, List, [], ◌∷◌, ◌++◌, refl, ap, sym, subst, ◌∙◌, append_assoc, append-nil}
use Rattle.std.proofs.Common.{if◌then◌else◌}
use Rattle.std.proofs.lemmas.Bool.{true≢false}
use mathlib.Core.List.{IsPrefix}
use Rattle.logbook.specs.Pages.{Book}
use Rattle.run_history.specs.Recorded.{Recorded}
use Rattle.act_book.proofs.Fronts.{prefix_self, prefix_trans}
use Rattle.live_heap.specs.Seen.{Seen}
use Rattle.live_view.specs.Publishing.{is_published}
use Rattle.live_view.specs.Watching.{IsRefused, Watching, started, with_act}
use Rattle.live_view.specs.Calls.{AfterCall, AfterCalls, AfterSaw, AfterTell, Call, Saw, ShowsWhatItSaw, Told, acts_seen, publishes}

further : (acts : List Recorded) (a : Recorded) → IsPrefix acts (acts ++ a ∷ [])
further acts a = (a ∷ [], refl)

-- ---- an act is seen

taken_shows : (w : Watching) (acts : List Recorded) (a : Recorded) → w.frozen ≡ false → ShowsWhatItSaw w acts
    → ShowsWhatItSaw (with_act w a) (acts ++ a ∷ [])
taken_shows w acts a runs shows =
    let more = w.appended ++ a ∷ [] in
    let all : more ≡ acts ++ a ∷ [] = ap (λ xs. xs ++ a ∷ []) (shows.all runs) in
    record {
      published = elim (is_published a.act.op) as (λ b. IsPrefix (if b then more else w.published) more) [
        | true ↦ prefix_self more
        | false ↦ prefix_trans w.published w.appended more shows.published (further w.appended a)
      ];
      appended = subst (IsPrefix more) all (prefix_self more);
      all = λ _. all;
    }

refused_shows : (w : Watching) (acts : List Recorded) (a : Recorded) (x : Watching) → w.frozen ≡ false
    → ShowsWhatItSaw w acts → IsRefused w a x → x.frozen ≡ true → ShowsWhatItSaw x (acts ++ a ∷ [])
refused_shows w acts a x runs shows (inl same) stopped = record {
  published = subst (λ (y : Watching). IsPrefix y.published y.appended) (sym same) shows.published;
  appended = subst (λ (y : Watching). IsPrefix y.appended (acts ++ a ∷ [])) (sym same)
      (prefix_trans w.appended acts (acts ++ a ∷ []) shows.appended (further acts a));
  all = λ going. absurd (true≢false (sym stopped ∙ going));
}
refused_shows w acts a x runs shows (inr more) stopped =
    let all : w.appended ++ a ∷ [] ≡ acts ++ a ∷ [] = ap (λ xs. xs ++ a ∷ []) (shows.all runs) in
    record {
      published = subst (λ (y : Watching). IsPrefix y.published y.appended) (sym more)
          (prefix_trans w.published w.appended (w.appended ++ a ∷ []) shows.published (further w.appended a));
      appended = subst (λ (y : Watching). IsPrefix y.appended (acts ++ a ∷ [])) (sym more)
          (subst (IsPrefix (w.appended ++ a ∷ [])) all (prefix_self (w.appended ++ a ∷ [])));
      all = λ going. absurd (true≢false (sym stopped ∙ going));
    }

frozen_shows : (w : Watching) (acts : List Recorded) (a : Recorded) → w.frozen ≡ true → ShowsWhatItSaw w acts
    → ShowsWhatItSaw w (acts ++ a ∷ [])
frozen_shows w acts a stopped shows = record {
  published = shows.published;
  appended = prefix_trans w.appended acts (acts ++ a ∷ []) shows.appended (further acts a);
  all = λ going. absurd (true≢false (sym stopped ∙ going));
}

saw_shows : (w : Watching) (acts : List Recorded) (a : Recorded) (x : Watching) → ShowsWhatItSaw w acts → AfterSaw w a x
    → ShowsWhatItSaw x (acts ++ a ∷ [])
saw_shows w acts a x shows after =
    elim w.frozen as (λ b. w.frozen ≡ b → ShowsWhatItSaw x (acts ++ a ∷ [])) [
      | true ↦ λ stopped. subst (λ y. ShowsWhatItSaw y (acts ++ a ∷ [])) (sym (after.frozen stopped)) (frozen_shows w acts a stopped shows)
      | false ↦ λ runs. elim x.frozen as (λ b. x.frozen ≡ b → ShowsWhatItSaw x (acts ++ a ∷ [])) [
        | true ↦ λ stopped. refused_shows w acts a x runs shows (after.refused stopped) stopped
        | false ↦ λ going. subst (λ y. ShowsWhatItSaw y (acts ++ a ∷ [])) (sym (after.taken going)) (taken_shows w acts a runs shows)
      ] refl
    ] refl

-- ---- it tells

told_all : (w : Watching) (acts : List Recorded) → ShowsWhatItSaw w acts → ShowsWhatItSaw (record w { published = w.appended }) acts
told_all w acts shows = record { published = prefix_self w.appended; appended = shows.appended; all = shows.all }

told_none : (w : Watching) (acts : List Recorded) → ShowsWhatItSaw w acts → ShowsWhatItSaw (record w { frozen = true }) acts
told_none w acts shows = record {
  published = shows.published;
  appended = shows.appended;
  all = λ going. absurd (true≢false going);
}

told_shows : (w : Watching) (acts : List Recorded) (x : Watching) → ShowsWhatItSaw w acts → AfterTell w x → ShowsWhatItSaw x acts
told_shows w acts x shows after =
    elim x.frozen as (λ b. x.frozen ≡ b → ShowsWhatItSaw x acts) [
      | true ↦ λ stopped. subst (λ y. ShowsWhatItSaw y acts) (sym (after.refused stopped)) (told_none w acts shows)
      | false ↦ λ going. subst (λ y. ShowsWhatItSaw y acts) (sym (after.published going)) (told_all w acts shows)
    ] refl

-- ---- all calls

pub calls_show : (w : Watching) (acts : List Recorded) (calls : List Call) (x : Watching) → ShowsWhatItSaw w acts
    → AfterCalls w calls x → ShowsWhatItSaw x (acts ++ acts_seen calls)
calls_show w acts [] x shows after =
    subst (ShowsWhatItSaw x) (sym (append-nil acts)) (subst (λ y. ShowsWhatItSaw y acts) (sym after) shows)
calls_show w acts (Saw a ∷ calls) x shows (y, once, rest) =
    subst (ShowsWhatItSaw x) (append_assoc acts (a ∷ []) (acts_seen calls))
    (calls_show y (acts ++ a ∷ []) calls x (saw_shows w acts a y shows once) rest)
calls_show w acts (Told ∷ calls) x shows (y, once, rest) = calls_show y acts calls x (told_shows w acts y shows once) rest

pub starts : (first : Seen) (of : Book) → ShowsWhatItSaw (started first of) []
starts first of = record { published = ([], refl); appended = ([], refl); all = λ _. refl }

-- ---- the last call

last_call : (w : Watching) (calls : List Call) (c : Call) (x : Watching) → AfterCalls w (calls ++ c ∷ []) x
    → (y : Watching) × AfterCalls w calls y × AfterCall y c x
last_call w [] c x (y, once, same) = (w, refl, subst (AfterCall w c) (sym same) once)
last_call w (d ∷ calls) c x (y, once, rest) =
    let (z, before, last) = last_call y calls c x rest in (z, (y, once, before), last)

published_all : (w : Watching) (c : Call) (x : Watching) → publishes c ≡ true → AfterCall w c x → x.frozen ≡ false
    → x.published ≡ x.appended
published_all w (Saw a) x shown after going =
    let taken = after.taken going in
    ap (λ (y : Watching). y.published) taken
    ∙ ap (λ b. if b then w.appended ++ a ∷ [] else w.published) shown
    ∙ sym (ap (λ (y : Watching). y.appended) taken)
published_all w Told x shown after going =
    let published = after.published going in
    ap (λ (y : Watching). y.published) published ∙ sym (ap (λ (y : Watching). y.appended) published)

pub all_shown : (first : Seen) (of : Book) (calls : List Call) (c : Call) (w : Watching) → publishes c ≡ true
    → AfterCalls (started first of) (calls ++ c ∷ []) w → w.frozen ≡ false → w.published ≡ acts_seen (calls ++ c ∷ [])
all_shown first of calls c w shown after going =
    let (y, before, last) = last_call (started first of) calls c w after in
    published_all y c w shown last going
    ∙ (calls_show (started first of) [] (calls ++ c ∷ []) w (starts first of) after).all going
