-- The frames of all threads, where those of each lie apart.
use Rattle.std.proofs.Common.{◌≡◌, ◌≢◌, ℕ, zero, suc, ◌+◌, ◌<◌, ◌≤◌, ltb, Bool, true, false, if◌then◌else◌, List, [], ◌∷◌, ◌++◌, length, map, drop}
use Rattle.std.proofs.Common.{replicate, Option, Some, None, refl, ap, sym, ◌∙◌, arith}
use Rattle.std.specs.Prelude.{slice_get, slice_set}
use Rattle.std.specs.declared.snapshot.Snapshot.{Snapshot}
use Rattle.std.proofs.lemmas.Bool.Decides.{nat_tests}
use Rattle.std.proofs.lemmas.List.{length-append, length-set, map-append, map-set}
use Rattle.std.proofs.lemmas.List.Elements.{All-map}
use Rattle.ap_base.specs.declared.reference.Ref.{Ref}
use Rattle.frames.specs.Turns.{begun_thread}
use Rattle.run_history.specs.declared.act.Act.{Act}
use Rattle.run_history.specs.Recorded.{Recorded}
use Rattle.run_forms.specs.Views.{ThreadFrames}
use Rattle.durable_run.specs.Apart.{after_event, begun_as}
use Rattle.durable_run.specs.Events.{AddsFurther, with_begun}
use Rattle.durable_run.specs.Passed.{Shared, started_as}
use Rattle.durable_run.specs.declared.steps.Stepped.{Stepped}
use Rattle.durable_run.specs.declared.steps.Stepped.TheVariants.{Acted, Micro, WouldWait, Over}
use Rattle.turnstile.specs.Entries.{AddsBy as AddsEntriesBy, SameButOf}
use Rattle.workers.specs.Shared.{all_frames, begins_after, entries_from, values_of, with_start}

-- ---- places of lists

pub some-one : {X : Type 0} (x y : X) → ◌≡◌ {A = Option X} (Some x) (Some y) → x ≡ y
some-one x y e = cc

pub no-some : {X P : Type 0} (x : X) → ◌≡◌ {A = Option X} None (Some x) → P
no-some x e = absurd (let no = e in cc)

pub get-same : {X : Type 0} (xs : List X) (t : ℕ) (x : X) → t < length xs → slice_get (slice_set xs t x) t ≡ Some x
get-same [] t x below = absurd (omega (arith, below))
get-same (y ∷ xs) zero x below = refl
get-same (y ∷ xs) (suc t) x below = get-same xs t x (omega (arith, below))

pub get-other : {X : Type 0} (xs : List X) (t u : ℕ) (x : X) → u ≢ t → slice_get (slice_set xs t x) u ≡ slice_get xs u
get-other [] t u x other = refl
get-other (y ∷ xs) zero zero x other = absurd (other refl)
get-other (y ∷ xs) zero (suc u) x other = refl
get-other (y ∷ xs) (suc t) zero x other = refl
get-other (y ∷ xs) (suc t) (suc u) x other = get-other xs t u x (λ same. other (ap suc same))

pub get-some : {X : Type 0} (xs : List X) (t : ℕ) → t < length xs → (x : X) × (slice_get xs t ≡ Some x)
get-some [] t below = absurd (omega (arith, below))
get-some (x ∷ xs) zero below = (x, refl)
get-some (x ∷ xs) (suc t) below = get-some xs t (omega (arith, below))

-- a part that is another one
pub others-stay : {X : Type 0} (xs : List X) (t : ℕ) (x : X) → SameButOf t xs (slice_set xs t x)
others-stay xs t x = record { count = length-set xs t x; others = λ k other. get-other xs t k x other }

-- ---- the frames of all

-- none begins
pub none-begins : (n : ℕ) (noted : List ThreadFrames) → length noted ≡ n → all_frames (replicate n None) noted ≡ noted
none-begins zero [] long = refl
none-begins zero (fs ∷ noted) long = absurd (omega (arith, long))
none-begins (suc n) [] long = absurd (omega (arith, long))
none-begins (suc n) (fs ∷ noted) long = ap (λ (rest : List ThreadFrames). fs ∷ rest) (none-begins n noted (omega (arith, long)))

-- of one that has begun they are those that it left
pub left-at : (begins : List (Option Ref)) (noted : List ThreadFrames) (t : ℕ) (fs : ThreadFrames)
    → slice_get begins t ≡ Some None → slice_get noted t ≡ Some fs → slice_get (all_frames begins noted) t ≡ Some fs
left-at [] noted t fs none at = no-some None none
left-at (b ∷ begins) [] t fs none at = no-some fs at
left-at (b ∷ begins) (f ∷ noted) zero fs none at =
    let begun = some-one b None none in
    let same = some-one f fs at in
    ap (λ (gs : ThreadFrames). Some gs) (ap (λ (thread : Option Ref). begun_as thread f) begun ∙ same)
left-at (b ∷ begins) (f ∷ noted) (suc t) fs none at = left-at begins noted t fs none at

-- one that has begun leaves others
pub leaves-at : (begins : List (Option Ref)) (noted : List ThreadFrames) (t : ℕ) (fs : ThreadFrames)
    → slice_get begins t ≡ Some None → all_frames begins (slice_set noted t fs) ≡ slice_set (all_frames begins noted) t fs
leaves-at [] noted t fs none = no-some None none
leaves-at (b ∷ begins) [] t fs none = refl
leaves-at (b ∷ begins) (f ∷ noted) zero fs none =
    let begun = some-one b None none in
    ap (λ (thread : Option Ref). begun_as thread fs ∷ all_frames begins noted) begun
leaves-at (b ∷ begins) (f ∷ noted) (suc t) fs none =
    ap (λ (rest : List ThreadFrames). begun_as b f ∷ rest) (leaves-at begins noted t fs none)

-- one is started
pub starts-at : (begins : List (Option Ref)) (noted : List ThreadFrames) (t : ℕ) (thread : Ref)
    → all_frames (slice_set begins t (Some thread)) noted ≡ slice_set (all_frames begins noted) t (begun_thread thread)
starts-at [] noted t thread = refl
starts-at (b ∷ begins) [] zero thread = refl
starts-at (b ∷ begins) [] (suc t) thread = refl
starts-at (b ∷ begins) (f ∷ noted) zero thread = refl
starts-at (b ∷ begins) (f ∷ noted) (suc t) thread =
    ap (λ (rest : List ThreadFrames). begun_as b f ∷ rest) (starts-at begins noted t thread)

-- one that was started begins
pub begins-at : (begins : List (Option Ref)) (noted : List ThreadFrames) (t : ℕ) (thread : Ref) → slice_get begins t ≡ Some (Some thread)
    → all_frames (slice_set begins t None) (slice_set noted t (begun_thread thread)) ≡ all_frames begins noted
begins-at [] noted t thread is = no-some (Some thread) is
begins-at (b ∷ begins) [] zero thread is = refl
begins-at (b ∷ begins) [] (suc t) thread is = refl
begins-at (b ∷ begins) (f ∷ noted) zero thread is =
    let begun = some-one b (Some thread) is in
    ap (λ (at : Option Ref). begun_as at f ∷ all_frames begins noted) (sym begun)
begins-at (b ∷ begins) (f ∷ noted) (suc t) thread is =
    ap (λ (rest : List ThreadFrames). begun_as b f ∷ rest) (begins-at begins noted t thread is)

-- ---- an event

start-so : (begins : List (Option Ref)) (noted : List ThreadFrames) (child : ℕ) (at : Option Ref)
    → all_frames (with_start begins child at) noted ≡ with_begun (all_frames begins noted) child at
start-so begins noted child None = refl
start-so begins noted child (Some thread) = starts-at begins noted child thread

starts-so : (more : Bool) (begins : List (Option Ref)) (noted : List ThreadFrames) (child : ℕ) (at : Option Ref)
    → all_frames (if more then with_start begins child at else begins) noted
    ≡ (if more then with_begun (all_frames begins noted) child at else all_frames begins noted)
starts-so true begins noted child at = start-so begins noted child at
starts-so false begins noted child at = refl

pub event-so : (went : Stepped) (old new : Shared) (begins : List (Option Ref)) (noted : List ThreadFrames)
    → all_frames (begins_after went (length old.machine.rest.threads) new begins) noted ≡ after_event went old new (all_frames begins noted)
event-so Acted old new begins noted = starts-so (ltb (length old.machine.rest.threads) (length new.machine.rest.threads)) begins noted
    (length old.machine.rest.threads) (started_as new.notes (length old.machine.rest.threads))
event-so Micro old new begins noted = refl
event-so (WouldWait on) old new begins noted = refl
event-so (Over halt) old new begins noted = refl

-- an event that isn't an act starts none,
pub no-act : (went : Stepped) (count : ℕ) (new : Shared) (begins : List (Option Ref)) → (went ≡ Acted → ⊥)
    → begins ≡ begins_after went count new begins
no-act Acted count new begins isnt = absurd (isnt refl)
no-act Micro count new begins isnt = refl
no-act (WouldWait on) count new begins isnt = refl
no-act (Over halt) count new begins isnt = refl

-- nor does one behind which there are no more;
pub no-start : (count : ℕ) (new : Shared) (begins : List (Option Ref)) → length new.machine.rest.threads ≤ count
    → begins ≡ begins_after Acted count new begins
no-start count new begins past =
    let none : ltb count (length new.machine.rest.threads) ≡ false = grind (arith, nat_tests) in
    ap (λ (b : Bool). if b then with_start begins count (started_as new.notes count) else begins) (sym none)

-- else the next one is started.
pub start-is : (count : ℕ) (new : Shared) (begins : List (Option Ref)) (at : Option Ref) → count < length new.machine.rest.threads
    → started_as new.notes count ≡ at → with_start begins count at ≡ begins_after Acted count new begins
start-is count new begins at more is =
    let some : ltb count (length new.machine.rest.threads) ≡ true = grind (arith, nat_tests) in
    ap (with_start begins count) (sym is)
    ∙ ap (λ (b : Bool). if b then with_start begins count (started_as new.notes count) else begins) (sym some)

start-other : (begins : List (Option Ref)) (child : ℕ) (at : Option Ref) (t : ℕ) → t ≢ child
    → slice_get (with_start begins child at) t ≡ slice_get begins t
start-other begins child None t other = refl
start-other begins child (Some thread) t other = get-other begins child t (Some thread) other

starts-other : (more : Bool) (begins : List (Option Ref)) (child : ℕ) (at : Option Ref) (t : ℕ) → t ≢ child
    → slice_get (if more then with_start begins child at else begins) t ≡ slice_get begins t
starts-other true begins child at t other = start-other begins child at t other
starts-other false begins child at t other = refl

-- who has begun begins no more
pub begun-still : (went : Stepped) (count : ℕ) (new : Shared) (begins : List (Option Ref)) (t : ℕ) → t ≢ count
    → slice_get (begins_after went count new begins) t ≡ slice_get begins t
begun-still Acted count new begins t other =
    starts-other (ltb count (length new.machine.rest.threads)) begins count (started_as new.notes count) t other
begun-still Micro count new begins t other = refl
begun-still (WouldWait on) count new begins t other = refl
begun-still (Over halt) count new begins t other = refl

-- ---- entries

drop-more : {X : Type 0} (n : ℕ) (xs ys : List X) → n ≤ length xs → drop n (xs ++ ys) ≡ drop n xs ++ ys
drop-more zero xs ys within = refl
drop-more (suc n) [] ys within = absurd (omega (arith, within))
drop-more (suc n) (x ∷ xs) ys within = drop-more n xs ys (omega (arith, within))

abbrev acts_of : List Recorded → List Act
acts_of acts = map (λ (r : Recorded). r.act) acts

entries-more : (from : ℕ) (acts further : List Recorded) → from ≤ length acts
    → entries_from from (acts ++ further) ≡ entries_from from acts ++ acts_of further
entries-more from acts further within = ap acts_of (drop-more from acts further within)
    ∙ map-append (λ (r : Recorded). r.act) (drop from acts) further

pub entries-none : (acts : List Recorded) → entries_from (length acts) acts ≡ []
entries-none [] = refl
entries-none (a ∷ acts) = entries-none acts

-- further acts of a thread are entries of it
pub entries-by : (t from : ℕ) (old new : List Recorded) → AddsFurther t old new → from ≤ length old
    → AddsEntriesBy (λ (a : Act). a.thread) t (entries_from from old) (entries_from from new)
entries-by t from old new adds within = record {
  further = acts_of adds.further;
  behind = sym (ap (entries_from from) adds.acts ∙ entries-more from old adds.further within);
  own = All-map (λ (a : Act). a.thread ≡ t) (λ (r : Recorded). r.act) adds.further adds.own;
}

-- acts only become more
pub acts-more : (t : ℕ) (old new : List Recorded) → AddsFurther t old new → length old ≤ length new
acts-more t old new adds =
    let long = ap (λ (acts : List Recorded). length acts) adds.acts in
    let more = length-append old adds.further in omega (arith, long, more)

-- ---- notes

pub values-set : (notes : List (Snapshot ThreadFrames)) (t : ℕ) (s : Snapshot ThreadFrames) (fs : ThreadFrames) → s.value ≡ fs
    → values_of (slice_set notes t s) ≡ slice_set (values_of notes) t fs
values-set notes t s fs is = map-set (λ (s : Snapshot ThreadFrames). s.value) notes t s ∙ ap (slice_set (values_of notes) t) is
