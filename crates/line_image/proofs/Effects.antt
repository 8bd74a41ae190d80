-- One more effect: what reads give after it, and the versions of a line.
use Rattle.std.proofs.Common.{◌≡◌, ◌≢◌, inl, inr, ◌<◌, ◌≤◌, ◌+◌, ℕ, List, [], ◌∷◌, ◌++◌, true, false, nat_eq, IsTrue, Option}
use Rattle.std.proofs.Common.{Some, length, get_or, set, take, ◌∙◌, ap, sym, subst, arith, All, reverse}
use Rattle.std.proofs.lemmas.List.{reverse-append, reverse-reverse, get_or-set_other, take_more}
use Rattle.std.proofs.lemmas.List.Elements.{All-append, All-push}
use Rattle.std.proofs.lemmas.Grind.{get_or-set_at}
use Rattle.std.proofs.lemmas.Bool.{cases_eq}
use Rattle.std.proofs.lemmas.Bool.Decides.{nat_tests}
use Rattle.line_image.specs.Trace.{Trace, newest, versions_after, versions_from, is_within, lines_after}
use Rattle.line_image.specs.declared.effect.Effect.{Effect}
use Rattle.line_image.specs.declared.effect.Done.{Done}
use Rattle.line_image.specs.declared.effect.Done.TheVariants.{Wrote, Fenced}

pub reverse_pushed : {X : Type 0} (xs : List X) (x : X) → reverse (xs ++ x ∷ []) ≡ x ∷ reverse xs
reverse_pushed xs x = reverse-append xs (x ∷ [])

-- what a read gives of a line
read_after : (done : Done) (lines versions : List (List ℕ)) (l : ℕ) → IsTrue (is_within (length lines) done)
    → get_or lines l [] ≡ newest versions
    → get_or (lines_after done lines) l [] ≡ newest (versions_after done l versions)
read_after (Wrote line words) lines versions l within before = elim (cases_eq line l) [
  | inl same ↦
      let test : nat_eq line l ≡ true = grind (arith, nat_tests) in
      let below : line < length lines = grind (arith, nat_tests) in
      rw test (get_or-set_at lines line l words [] (sym same) below)
  | inr other ↦
      let test : nat_eq line l ≡ false = grind (arith, nat_tests) in
      let apart : l ≢ line = λ is. other (sym is) in
      rw test (get_or-set_other lines line l words [] apart ∙ before)
]
read_after Fenced lines versions l within before = before

pub reads_pushed : (first lines new : List (List ℕ)) (done more : List Effect) (effect : Effect)
    → more ≡ done ++ effect ∷ [] → new ≡ lines_after effect.done lines
    → IsTrue (is_within (length lines) effect.done)
    → ((l : ℕ) → get_or lines l [] ≡ newest (versions_from (get_or first l []) (reverse done) l))
    → (l : ℕ) → get_or new l [] ≡ newest (versions_from (get_or first l []) (reverse more) l)
reads_pushed first lines new done more effect is new_is within before l =
    ap (λ (all : List (List ℕ)). get_or all l []) new_is
    ∙ read_after effect.done lines (versions_from (get_or first l []) (reverse done) l) l within (before l)
    ∙ ap (λ (all : List Effect). newest (versions_from (get_or first l []) all l))
    (sym (reverse_pushed done effect) ∙ ap reverse (sym is))

-- what holds of each effect, the newest first, and of one more
pub All-pushed : (P : Effect → Type 0) (done more : List Effect) (effect : Effect)
    → more ≡ done ++ effect ∷ [] → P effect → All P (reverse done) → All P (reverse more)
All-pushed P done more effect is here before =
    let one = All-push P [] effect (λ k d lt. absurd (omega arith)) here in
    subst (All P) (sym (ap reverse is ∙ reverse_pushed done effect))
    (All-append P (effect ∷ []) (reverse done) one before)

abbrev pub trace_from : List (List ℕ) → List Effect → Option Trace
trace_from first done = Some (record { first = first; done = done })

pub trace_pushed : (first : List (List ℕ)) (done more : List Effect) (effect : Effect)
    → more ≡ done ++ effect ∷ []
    → trace_from first (reverse more) ≡ trace_from first (effect ∷ reverse done)
trace_pushed first done more effect is = ap (trace_from first) (ap reverse is ∙ reverse_pushed done effect)

-- the versions of a line after the first effects and one more, which did this
pub versions_taken : (first : List ℕ) (done : List Effect) (i line : ℕ) (d : Effect) (deed : Done)
    → i < length done → (get_or done i d).done ≡ deed
    → versions_from first (reverse (take (i + 1) done)) line
    ≡ versions_after deed line (versions_from first (reverse (take i done)) line)
versions_taken first done i line d deed lt is =
    ap (λ (all : List Effect). versions_from first all line)
    (ap reverse (take_more done i d lt) ∙ reverse_pushed (take i done) (get_or done i d))
    ∙ ap (λ (one : Done). versions_after one line (versions_from first (reverse (take i done)) line)) is

pub versions_pushed : (first : List ℕ) (done : List Effect) (i line : ℕ) (d : Effect) (deed : Done)
    (found new : List (List ℕ)) → i < length done → (get_or done i d).done ≡ deed
    → found ≡ reverse (versions_from first (reverse (take i done)) line)
    → new ≡ reverse (versions_after deed line (reverse found))
    → new ≡ reverse (versions_from first (reverse (take (i + 1) done)) line)
versions_pushed first done i line d deed found new lt here found_is is =
    is
    ∙ ap (λ (all : List (List ℕ)). reverse (versions_after deed line all))
    (ap reverse found_is ∙ reverse-reverse (versions_from first (reverse (take i done)) line))
    ∙ ap reverse (sym (versions_taken first done i line d deed lt here))

-- Each line that was last written before the last fence has one version.
abbrev pub AreFenced : List (List ℕ) → List Effect → List ℕ → ℕ → Type 0
AreFenced first done writes fences = (k : ℕ) → get_or writes k 0 < fences
    → length (versions_from (get_or first k []) (reverse done) k) ≡ 1

pub line_within : (size line : ℕ) (words : List ℕ) → IsTrue (is_within size (Wrote line words)) → line < size
line_within size line words within = grind (arith, nat_tests)

pub fenced_wrote : (first : List (List ℕ)) (done : List Effect) (writes new : List ℕ) (i fences now line : ℕ)
    (words : List ℕ) (d : Effect) → i < length done → (get_or done i d).done ≡ Wrote line words
    → line < length writes → new ≡ set writes line fences → now ≡ fences
    → AreFenced first (take i done) writes fences → AreFenced first (take (i + 1) done) new now
fenced_wrote first done writes new i fences now line words d lt is below new_is now_is before k earlier =
    let same_now = ap (λ (all : List ℕ). get_or all k 0) new_is in
    let earlier' : get_or (set writes line fences) k 0 < fences = omega (arith, earlier, now_is, same_now) in
    elim (cases_eq k line) [
      | inl same ↦ absurd (omega (arith, earlier', get_or-set_at writes line k fences 0 same below))
      | inr other ↦
          let versions = versions_from (get_or first k []) (reverse (take i done)) k in
          let test : nat_eq line k ≡ false = grind (arith, nat_tests) in
          let still = get_or-set_other writes line k fences 0 other in
          let one : length versions ≡ 1 = before k (omega (arith, earlier', still)) in
          let after : length (versions_after (Wrote line words) k versions) ≡ 1 = rw test one in
          ap length (versions_taken (get_or first k []) done i k d (Wrote line words) lt is) ∙ after
    ]

pub fenced_fence : (first : List (List ℕ)) (done : List Effect) (writes : List ℕ) (i fences : ℕ) (d : Effect)
    → i < length done
    → (get_or done i d).done ≡ Fenced → AreFenced first (take (i + 1) done) writes fences
fenced_fence first done writes i fences d lt is k earlier =
    ap length (versions_taken (get_or first k []) done i k d Fenced lt is)

pub past_wrote : (writes new : List ℕ) (fences now line : ℕ) → line < length writes
    → new ≡ set writes line fences → now ≡ fences
    → ((k : ℕ) → get_or writes k 0 ≤ fences) → (k : ℕ) → get_or new k 0 ≤ now
past_wrote writes new fences now line below new_is now_is before k =
    let same = ap (λ (all : List ℕ). get_or all k 0) new_is in
    elim (cases_eq k line) [
      | inl here ↦ omega (arith, same, now_is, get_or-set_at writes line k fences 0 here below)
      | inr other ↦ omega (arith, same, now_is, get_or-set_other writes line k fences 0 other, before k)
    ]
