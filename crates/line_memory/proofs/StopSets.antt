-- Steps that follow one another, and what each does to a stop set.
use Rattle.std.proofs.Common.{◌≡◌, ◌⊎◌, inl, inr, ⊎_elim, ℕ, suc, List, [], ◌∷◌, ◌++◌, Bool, true, false, ◌||◌, nat_eq, IsTrue}
use Rattle.std.proofs.Common.{Option, Some, None, refl, sym, ◌∙◌, ap, subst, arith}
use Rattle.std.proofs.lemmas.Bool.Decides.{nat_tests}
use Rattle.line_image.specs.Trace.{Trace, MayLeave, did}
use Rattle.line_image.specs.declared.effect.Done.{Done}
use Rattle.line_image.specs.declared.effect.Done.TheVariants as done
use Rattle.line_image.specs.Told.{Told}
use Rattle.line_memory.specs.Memory.{Memory, line_shown, shown, IsResident, IsTelling, IsKnown, ReadsWord, CanLeave, IsWritten}
use Rattle.line_memory.specs.Memory.{IsDurable}
use Rattle.line_memory.specs.Steps.{Deed, WroteBack, Fenced, Stored, Neither, Step, Stores, last, DidAs, Follows, EachFollows}
use Rattle.line_memory.specs.StopSet.{is_fence, writes, ShownSince, InStopSet}
use Rattle.line_memory.specs.Laws.{NoneStores, StopsStayInside, AddsWhatIsShown, StoresAloneAdd, FencedStandsAlone}
use Rattle.line_memory.specs.Laws.{FencesLeaveWhatIsRead, ReadsGiveWhatWasWritten, write_and_fence}
use Rattle.line_memory.proofs.Stops.{may_leave-wrote, may_leave-fenced, reads-wrote, reads_once, reads-kept, reads-written}
use Rattle.line_memory.proofs.Stops.{reads-fenced as reads-unfenced}

pub telling-did : (o : Option Trace) (d : Done) (at : ℕ) → IsTelling o → IsTelling (did d at o)
telling-did None d at telling = telling
telling-did (Some h) d at telling = tt

pub telling-before : (o : Option Trace) (d : Done) (at : ℕ) → IsTelling (did d at o) → IsTelling o
telling-before None d at telling = telling
telling-before (Some h) d at telling = tt

-- an image goes on telling
pub telling_on : (deed : Deed) (old new : Memory) → DidAs deed old new → IsTelling old.image.trace → IsTelling new.image.trace
telling_on (WroteBack l) old new follows telling = subst IsTelling (sym follows.wrote) (telling-did old.image.trace (done.Wrote l (line_shown old l)) new.image.calls telling)
telling_on Fenced old new follows telling = subst IsTelling (sym follows.made) (telling-did old.image.trace done.Fenced new.image.calls telling)
telling_on (Stored l w v) old new follows telling = subst (λ (t : Told). IsTelling t.trace) (sym follows.same.image) telling
telling_on Neither old new follows telling = subst IsTelling (sym follows.nothing) telling

-- what is known stays known
pub known_on : (old : Memory) (step : Step) (l : ℕ) → Follows old step → IsKnown old l → IsKnown step.after l
unfolding IsResident
known_on old step l follows (inl resident) = inl (omega (arith, follows.size, resident))
known_on old step l follows (inr telling) = inr (telling_on step.deed old step.after follows.deed telling)

pub same_deed : (deed : Deed) (old new : Memory) (l w : ℕ) → DidAs deed old new → IsKnown old l → IsKnown new l → ¬ Stores l w deed → shown new l w ≡ shown old l w
same_deed (WroteBack line) old new l w follows known known_new other = follows.shows l w known known_new
same_deed Fenced old new l w follows known known_new other = follows.shows l w known known_new
same_deed (Stored line word v) old new l w follows known known_new other = follows.others l w (λ p q. other (p, q))
same_deed Neither old new l w follows known known_new other = follows.shows l w known known_new

-- what isn't stored to shows the same
same_word : (old : Memory) (step : Step) (l w : ℕ) → Follows old step → IsKnown old l → ¬ Stores l w step.deed → shown step.after l w ≡ shown old l w
same_word old step l w follows known other = same_deed step.deed old step.after l w follows.deed known (known_on old step l follows known) other

-- A stop leaves what it left before, or what the word showed.
pub leaves_on : (deed : Deed) (old new : Memory) (l w v : ℕ) → DidAs deed old new → MayLeave new.image.trace l w v → MayLeave old.image.trace l w v ⊎ (v ≡ shown old l w)
leaves_on (WroteBack line) old new l w v follows left = ⊎_elim
    (λ here. inr (here.1 ∙ ap (λ (k : ℕ). shown old k w) (sym here.0)))
    (λ before. inl before)
    (may_leave-wrote old.image.trace line new.image.calls (line_shown old line) l w v (subst (λ (o : Option Trace). MayLeave o l w v) follows.wrote left))
leaves_on Fenced old new l w v follows left =
    inl (may_leave-fenced old.image.trace new.image.calls l w v (subst (λ (o : Option Trace). MayLeave o l w v) follows.made left)).1
leaves_on (Stored line word x) old new l w v follows left = inl (subst (λ (t : Told). MayLeave t.trace l w v) follows.same.image left)
leaves_on Neither old new l w v follows left = inl (subst (λ (o : Option Trace). MayLeave o l w v) follows.nothing left)

pub reads-fenced : (o : Option Trace) (at l w v : ℕ) → ReadsWord o l w v → ReadsWord (did done.Fenced at o) l w v
reads-fenced None at l w v reads = tt
reads-fenced (Some h) at l w v reads = reads

-- A read gives what it gave, if that is what the word showed.
reads_on : (deed : Deed) (old new : Memory) (l w : ℕ) → DidAs deed old new → IsWritten old l w → ReadsWord new.image.trace l w (shown old l w)
reads_on (WroteBack line) old new l w follows reads = subst (λ (o : Option Trace). ReadsWord o l w (shown old l w)) (sym follows.wrote)
    (reads-kept old.image.trace line new.image.calls (line_shown old line) l w (shown old l w) (λ same. ap (λ (k : ℕ). shown old k w) same) reads)
reads_on Fenced old new l w follows reads = subst (λ (o : Option Trace). ReadsWord o l w (shown old l w)) (sym follows.made)
    (reads-fenced old.image.trace new.image.calls l w (shown old l w) reads)
reads_on (Stored line word x) old new l w follows reads = subst (λ (t : Told). ReadsWord t.trace l w (shown old l w)) (sym follows.same.image) reads
reads_on Neither old new l w follows reads = subst (λ (o : Option Trace). ReadsWord o l w (shown old l w)) (sym follows.nothing) reads

-- What a read gives was read before, or is written now.
reads_before : (deed : Deed) (old new : Memory) (l w v : ℕ) → DidAs deed old new → IsKnown old l → IsKnown new l → ReadsWord new.image.trace l w v
    → ReadsWord old.image.trace l w v ⊎ (IsTrue (writes l deed) × (v ≡ shown new l w))
reads_before (WroteBack line) old new l w v follows known after reads = ⊎_elim
    (λ here.
    let test : nat_eq line l ≡ true = let same = here.0 in grind (arith, nat_tests) in
    inr (rw test refl, here.1 ∙ ap (λ (k : ℕ). shown old k w) (sym here.0) ∙ sym (follows.shows l w known after)))
    (λ before. inl before)
    (reads-wrote old.image.trace line new.image.calls (line_shown old line) l w v (subst (λ (o : Option Trace). ReadsWord o l w v) follows.wrote reads))
reads_before Fenced old new l w v follows known after reads =
    inl (reads-unfenced old.image.trace new.image.calls l w v (subst (λ (o : Option Trace). ReadsWord o l w v) follows.made reads))
reads_before (Stored line word x) old new l w v follows known after reads = inl (subst (λ (t : Told). ReadsWord t.trace l w v) follows.same.image reads)
reads_before Neither old new l w v follows known after reads = inl (subst (λ (o : Option Trace). ReadsWord o l w v) follows.nothing reads)

-- The first of some steps, and the rest.
first_none : (l w : ℕ) (step : Step) (steps : List Step) → NoneStores l w (step ∷ steps) → ¬ Stores l w step.deed
first_none l w step steps none = none 0 step (omega arith)

rest_none : (l w : ℕ) (step : Step) (steps : List Step) → NoneStores l w (step ∷ steps) → NoneStores l w steps
rest_none l w step steps none k d lt = none (suc k) d (omega arith)

follows_before : (first : Memory) (later steps : List Step) → EachFollows first (later ++ steps) → EachFollows first steps
follows_before first [] steps each = each
follows_before first (step ∷ later) steps each = follows_before first later steps each.1

pub known_last : (first : Memory) (steps : List Step) (l : ℕ) → EachFollows first steps → IsKnown first l → IsKnown (last first steps) l
known_last first [] l each known = known
known_last first (step ∷ steps) l each known = known_on (last first steps) step l each.0 (known_last first steps l each.1 known)

-- what each step without a store keeps, all of them keep
kept : (P : Memory → Type 0) (l w : ℕ) (first : Memory) (later steps : List Step)
    → ((old : Memory) (step : Step) → Follows old step → IsKnown old l → ¬ Stores l w step.deed → P old → P step.after)
    → EachFollows first (later ++ steps) → IsKnown first l → NoneStores l w later → P (last first steps) → P (last first (later ++ steps))
kept P l w first [] steps keeps each known none holds = holds
kept P l w first (step ∷ later) steps keeps each known none holds =
    keeps (last first (later ++ steps)) step each.0 (known_last first (later ++ steps) l each.1 known) (first_none l w step later none)
    (kept P l w first later steps keeps each.1 known (rest_none l w step later none) holds)

-- Where a fence comes after them, fewer values were shown since.
weaker : (first : Memory) (l w : ℕ) (fenced : Bool) (steps : List Step) (v : ℕ) → ShownSince first l w true steps v → ShownSince first l w fenced steps v
weaker first l w true steps v since = since
weaker first l w false [] v since = since
weaker first l w false (step ∷ steps) v (inl is) = inl is
weaker first l w false (step ∷ steps) v (inr since) = inr (λ impossible. cc, weaker first l w (is_fence step.deed) steps v since.1)

unfenced : (first : Memory) (l w : ℕ) (fenced : Bool) (steps : List Step) (v : ℕ) → ShownSince first l w fenced steps v → ShownSince first l w false steps v
unfenced first l w true steps v since = weaker first l w false steps v since
unfenced first l w false steps v since = since

pub shown_now : (first : Memory) (l w : ℕ) (fenced : Bool) (steps : List Step) (v : ℕ) → v ≡ shown (last first steps) l w → ShownSince first l w fenced steps v
shown_now first l w fenced [] v is = is
shown_now first l w fenced (step ∷ steps) v is = inl is

pub in_stop_set : (first : Memory) (steps : List Step) (l w v : ℕ) → CanLeave (last first steps) l w v → InStopSet first steps l w v
in_stop_set first steps l w v (inl is) = inr (shown_now first l w false steps v is)
in_stop_set first steps l w v (inr left) = inl left

pub one_more : AddsWhatIsShown
one_more first step steps l w v follows (inl left) = ⊎_elim
    (λ (before : MayLeave (last first steps).image.trace l w v). inl (inl before))
    (λ (is : v ≡ shown (last first steps) l w). inl (inr (shown_now first l w false steps v is)))
    (leaves_on step.deed (last first steps) step.after l w v follows.deed left)
one_more first step steps l w v follows (inr (inl is)) = inr is
one_more first step steps l w v follows (inr (inr since)) = inl (inr (unfenced first l w (is_fence step.deed) steps v since.1))

pub stores_alone : StoresAloneAdd
stores_alone first step steps l w v each known other within = ⊎_elim
    (λ (before : InStopSet first steps l w v). before)
    (λ (is : v ≡ shown step.after l w).
    inr (shown_now first l w false steps v (is ∙ same_word (last first steps) step l w each.0 (known_last first steps l each.1 known) other)))
    (one_more first step steps l w v each.0 within)

still_inside : (first : Memory) (later steps : List Step) (l w v : ℕ) → EachFollows first (later ++ steps) → IsKnown first l → NoneStores l w later
    → InStopSet first (later ++ steps) l w v → InStopSet first steps l w v
still_inside first [] steps l w v each known none within = within
still_inside first (step ∷ later) steps l w v each known none within =
    still_inside first later steps l w v each.1 known (rest_none l w step later none)
    (stores_alone first step (later ++ steps) l w v each known (first_none l w step later none) within)

pub stay_inside : StopsStayInside
stay_inside first later steps l w v each known none left =
    still_inside first later steps l w v each known none (in_stop_set first (later ++ steps) l w v left)

pub reads_what_was_written : ReadsGiveWhatWasWritten
reads_what_was_written first [] l w v each known reads = inl reads
reads_what_was_written first (step ∷ steps) l w v each known reads =
    let before = known_last first steps l each.1 known in
    ⊎_elim
    (λ (old : ReadsWord (last first steps).image.trace l w v). ⊎_elim (λ at_first. inl at_first) (λ later. inr (inr later))
    (reads_what_was_written first steps l w v each.1 known old))
    (λ (here : IsTrue (writes l step.deed) × (v ≡ shown step.after l w)). inr (inl here))
    (reads_before step.deed (last first steps) step.after l w v each.0.deed before (known_on (last first steps) step l each.0 before) reads)

pub leaves_what_is_read : FencesLeaveWhatIsRead
leaves_what_is_read old new l w v made left =
    (may_leave-fenced old.image.trace new.image.calls l w v (subst (λ (o : Option Trace). MayLeave o l w v) made left)).0

-- what stays durable without a store
durable_on : (l w : ℕ) (old : Memory) (step : Step) → Follows old step → IsKnown old l → ¬ Stores l w step.deed → IsDurable old l w → IsDurable step.after l w
durable_on l w old step follows known other durable v (inl is) = is
durable_on l w old step follows known other durable v (inr left) =
    durable v (⊎_elim (λ before. inr before) (λ is. inl is) (leaves_on step.deed old step.after l w v follows.deed left))
    ∙ sym (same_word old step l w follows known other)

written_on : (l w : ℕ) (old : Memory) (step : Step) → Follows old step → IsKnown old l → ¬ Stores l w step.deed → IsWritten old l w → IsWritten step.after l w
written_on l w old step follows known other written = subst (λ (v : ℕ). ReadsWord step.after.image.trace l w v)
    (sym (same_word old step l w follows known other)) (reads_on step.deed old step.after l w follows.deed written)

-- a write-back writes what is shown
written_back : (l w : ℕ) (old new : Memory) → Follows old (record { deed = WroteBack l; after = new }) → IsKnown old l → IsWritten new l w
written_back l w old new follows known =
    let same = same_word old (record { deed = WroteBack l; after = new }) l w follows known (λ impossible. impossible) in
    subst (λ (o : Option Trace). ReadsWord o l w (shown new l w)) (sym follows.deed.wrote)
    (subst (λ (v : ℕ). ReadsWord (did (done.Wrote l (line_shown old l)) new.image.calls old.image.trace) l w v) (sym same)
    (reads-written old.image.trace l new.image.calls (line_shown old l) w))

-- a fence makes it durable
made_durable : (l w : ℕ) (old new : Memory) → Follows old (record { deed = Fenced; after = new }) → IsKnown old l → IsWritten old l w → IsDurable new l w
made_durable l w old new follows known is_written v (inl is) = is
made_durable l w old new follows known is_written v (inr left) =
    let both = may_leave-fenced old.image.trace new.image.calls l w v (subst (λ (o : Option Trace). MayLeave o l w v) follows.deed.made left) in
    reads_once old.image.trace l w v (shown old l w) v both.1 both.0 is_written
    ∙ sym (same_word old (record { deed = Fenced; after = new }) l w follows known (λ impossible. impossible))

or_true : (b : Bool) → (b || true) ≡ true
or_true true = refl
or_true false = refl

-- Nothing but what is shown at the end was shown since the write.
shown_alone : (first written : Memory) (l w : ℕ) (between earlier : List Step) (v : ℕ)
    → EachFollows first (between ++ record { deed = WroteBack l; after = written } ∷ earlier) → IsKnown first l → NoneStores l w between
    → ShownSince first l w true (between ++ record { deed = WroteBack l; after = written } ∷ earlier) v
    → v ≡ shown (last first (between ++ record { deed = WroteBack l; after = written } ∷ earlier)) l w
shown_alone first written l w [] earlier v each known none (inl is) = is
shown_alone first written l w [] earlier v each known none (inr since) =
    let test : nat_eq l l ≡ true = grind (arith, nat_tests) in
    absurd (since.0 (rw test refl))
shown_alone first written l w (step ∷ between) earlier v each known none (inl is) = is
shown_alone first written l w (step ∷ between) earlier v each known none (inr since) =
    let steps = between ++ record { deed = WroteBack l; after = written } ∷ earlier in
    shown_alone first written l w between earlier v each.1 known (rest_none l w step between none) since.1
    ∙ sym (same_word (last first steps) step l w each.0 (known_last first steps l each.1 known) (first_none l w step between none))

shown_fenced : (first written fenced : Memory) (l w : ℕ) (f : Bool) (later between earlier : List Step) (v : ℕ)
    → EachFollows first (later ++ write_and_fence l written between fenced earlier) → IsKnown first l → NoneStores l w later → NoneStores l w between
    → ShownSince first l w f (later ++ write_and_fence l written between fenced earlier) v
    → v ≡ shown (last first (later ++ write_and_fence l written between fenced earlier)) l w
shown_fenced first written fenced l w f [] between earlier v each known none none_between (inl is) = is
shown_fenced first written fenced l w f [] between earlier v each known none none_between (inr since) =
    let steps = between ++ record { deed = WroteBack l; after = written } ∷ earlier in
    shown_alone first written l w between earlier v each.1 known none_between
    (subst (λ (b : Bool). ShownSince first l w b steps v) (or_true f) since.1)
    ∙ sym (same_word (last first steps) (record { deed = Fenced; after = fenced }) l w each.0 (known_last first steps l each.1 known) (λ impossible. impossible))
shown_fenced first written fenced l w f (step ∷ later) between earlier v each known none none_between (inl is) = is
shown_fenced first written fenced l w f (step ∷ later) between earlier v each known none none_between (inr since) =
    let steps = later ++ write_and_fence l written between fenced earlier in
    shown_fenced first written fenced l w (f || is_fence step.deed) later between earlier v each.1 known (rest_none l w step later none) none_between since.1
    ∙ sym (same_word (last first steps) step l w each.0 (known_last first steps l each.1 known) (first_none l w step later none))

durable_at : (first written fenced : Memory) (later between earlier : List Step) (l w : ℕ)
    → EachFollows first (later ++ write_and_fence l written between fenced earlier) → IsKnown first l → NoneStores l w later → NoneStores l w between
    → IsDurable (last first (later ++ write_and_fence l written between fenced earlier)) l w
durable_at first written fenced later between earlier l w each known none none_between =
    let at_fence = follows_before first later (write_and_fence l written between fenced earlier) each in
    let steps = record { deed = WroteBack l; after = written } ∷ earlier in
    let at_write = follows_before first between steps at_fence.1 in
    let is_written = written_back l w (last first earlier) written at_write.0 (known_last first earlier l at_write.1 known) in
    let still = kept (λ (m : Memory). IsWritten m l w) l w first between steps (written_on l w) at_fence.1 known none_between is_written in
    let durable = made_durable l w (last first (between ++ steps)) fenced at_fence.0 (known_last first (between ++ steps) l at_fence.1 known) still in
    kept (λ (m : Memory). IsDurable m l w) l w first later (write_and_fence l written between fenced earlier) (durable_on l w) each known none durable

pub stands_alone : FencedStandsAlone
stands_alone first written fenced later between earlier l w v each known none none_between = (alone, λ is. inr (shown_now first l w false _ v is))
  where
    alone : InStopSet first (later ++ write_and_fence l written between fenced earlier) l w v
        → v ≡ shown (last first (later ++ write_and_fence l written between fenced earlier)) l w
    alone (inl left) = durable_at first written fenced later between earlier l w each known none none_between v (inr left)
    alone (inr since) = shown_fenced first written fenced l w false later between earlier v each known none none_between since
