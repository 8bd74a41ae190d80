-- A stop set has exactly what a stop may leave after the same calls with further write-backs among them.
use Rattle.std.proofs.Common.{◌≡◌, ◌⊎◌, inl, inr, ⊎_elim, ℕ, List, [], ◌∷◌, Bool, true, false, ◌&&◌, ◌||◌, nat_eq, IsTrue}
use Rattle.std.proofs.Common.{Option, Some, None, get_or, slice_index, refl, sym, ◌∙◌, ap, subst, arith}
use Rattle.std.proofs.lemmas.Bool.{cases_eq}
use Rattle.std.proofs.lemmas.Bool.Decides.{nat_tests}
use Rattle.ap_base.specs.Causes.{next_count}
use Rattle.line_image.specs.Trace.{Trace, MayLeave, did}
use Rattle.line_image.specs.declared.effect.Done.{Done}
use Rattle.line_image.specs.declared.effect.Done.TheVariants as done
use Rattle.line_image.proofs.Versions.{newest_left}
use Rattle.line_image.specs.Told.{Told}
use Rattle.line_memory.specs.Memory.{Memory, line_shown, shown, IsResident, IsTelling, IsKnown, ReadsWord}
use Rattle.line_memory.specs.Steps.{Deed, WroteBack, Fenced, Stored, Neither, Step, last, Stores, WritesBack, MakesFence, DidAs}
use Rattle.line_memory.specs.Steps.{Follows, EachFollows}
use Rattle.line_memory.specs.StopSet.{is_fence, writes, ShownSince, InStopSet}
use Rattle.line_memory.specs.Laws.{AddsWriteBacks, Nothing, Same, Added, NoneElseIsLeft, EachIsLeft}
use Rattle.line_memory.proofs.Stops.{may_leave-wrote, may_leave-kept, may_leave-fenced, reads-wrote, reads-kept, reads-written}
use Rattle.line_memory.proofs.StopSets.{telling-did, telling_on, known_on, known_last, same_deed, leaves_on, reads-fenced}
use Rattle.line_memory.proofs.StopSets.{shown_now}

-- two memories over images of one size that show the same
record Alike (m other : Memory) : Type 0 where
  lines : m.lines ≡ other.lines
  size : m.size ≡ other.size

like_itself : (m : Memory) → Alike m m
like_itself m = record { lines = refl; size = refl }

same_line : (m other : Memory) (l : ℕ) → Alike m other → line_shown m l ≡ line_shown other l
unfolding line_shown
same_line m other l alike = ap (λ (all : List (List ℕ)). get_or all l []) alike.lines

same_shown : (m other : Memory) (l w : ℕ) → Alike m other → shown m l w ≡ shown other l w
same_shown m other l w alike = ap (λ (words : List ℕ). slice_index words w) (same_line m other l alike)

same_resident : (m other : Memory) (l : ℕ) → Alike m other → IsResident other l → IsResident m l
unfolding IsResident
same_resident m other l alike resident = omega (arith, alike.size, resident)

-- the memory after a call that did this to its image, and shows these lines
abbrev called : Memory → List (List ℕ) → Done → Memory
called m lines d = record {
  lines = lines;
  size = m.size;
  calls = next_count m.calls;
  faults = m.faults;
  image = record m.image { calls = next_count m.image.calls; trace = did d (next_count m.image.calls) m.image.trace };
}

-- the memory after a call that did the same and shows the same as here
abbrev replayed : Memory → Deed → Memory → Memory
replayed m (WroteBack k) after = called m after.lines (done.Wrote k (line_shown m k))
replayed m Fenced after = called m after.lines done.Fenced
replayed m (Stored k x v) after = record m { lines = after.lines }
replayed m Neither after = record m { lines = after.lines }

replayed_lines : (m : Memory) (deed : Deed) (after : Memory) → (replayed m deed after).lines ≡ after.lines
replayed_lines m (WroteBack k) after = refl
replayed_lines m Fenced after = refl
replayed_lines m (Stored k x v) after = refl
replayed_lines m Neither after = refl

replayed_size : (m : Memory) (deed : Deed) (after : Memory) → (replayed m deed after).size ≡ m.size
replayed_size m (WroteBack k) after = refl
replayed_size m Fenced after = refl
replayed_size m (Stored k x v) after = refl
replayed_size m Neither after = refl

replay_alike : (m old : Memory) (step : Step) → Alike m old → Follows old step → Alike (replayed m step.deed step.after) step.after
replay_alike m old step alike follows = record {
  lines = replayed_lines m step.deed step.after;
  size = replayed_size m step.deed step.after ∙ alike.size ∙ sym follows.size;
}

module _ (m old after : Memory) (alike : Alike m old) (telling : IsTelling old.image.trace) (telling_after : IsTelling after.image.trace) where
  -- where the words were the same, they are
  shows_on : (new : Memory) (l w : ℕ) → Alike new after → shown after l w ≡ shown old l w → shown new l w ≡ shown m l w
  shows_on new l w new_alike same = same_shown new after l w new_alike ∙ same ∙ sym (same_shown m old l w alike)

  replay_does : (deed : Deed) → Alike (replayed m deed after) after → DidAs deed old after → DidAs deed m (replayed m deed after)
  replay_does (WroteBack k) new_alike does = record {
    resident = same_resident m old k alike does.resident;
    wrote = refl;
    shows = λ l w known known_new. shows_on (replayed m (WroteBack k) after) l w new_alike (does.shows l w (inr telling) (inr telling_after));
    count = record { calls = refl; image = refl };
  }
  replay_does Fenced new_alike does = record {
    made = refl;
    shows = λ l w known known_new. shows_on (replayed m Fenced after) l w new_alike (does.shows l w (inr telling) (inr telling_after));
    count = record { calls = refl; image = refl };
  }
  replay_does (Stored k x v) new_alike does = record {
    same = record { calls = refl; image = refl; faults = refl };
    here = same_shown (replayed m (Stored k x v) after) after k x new_alike ∙ does.here;
    others = λ l w other. shows_on (replayed m (Stored k x v) after) l w new_alike (does.others l w other);
  }
  replay_does Neither new_alike does = record {
    nothing = refl;
    shows = λ l w known known_new. shows_on (replayed m Neither after) l w new_alike (does.shows l w (inr telling) (inr telling_after));
    count = inl (record { calls = refl; image = refl; faults = refl });
  }

replay_follows : (m old : Memory) (step : Step) → Alike m old → IsTelling old.image.trace → Follows old step
    → Follows m (record { deed = step.deed; after = replayed m step.deed step.after })
replay_follows m old step alike telling follows = record {
  size = replayed_size m step.deed step.after;
  deed = replay_does m old step.after alike telling (telling_on step.deed old step.after follows.deed telling) step.deed
      (replay_alike m old step alike follows) follows.deed;
}

-- The value is left by a stop, or also read where a fence comes next.
abbrev IsLeftOrRead : Bool → Memory → ℕ → ℕ → ℕ → Type 0
IsLeftOrRead true m l w v = ReadsWord m.image.trace l w v × IsTelling m.image.trace
IsLeftOrRead false m l w v = MayLeave m.image.trace l w v

read_left : (o : Option Trace) (l w v : ℕ) → IsTelling o → ReadsWord o l w v → MayLeave o l w v
read_left None l w v telling reads = absurd telling
read_left (Some h) l w v telling reads = subst (λ (x : ℕ). MayLeave (Some h) l w x) (sym reads) (newest_left (get_or h.first l []) h.done l w)

fenced_left : (o : Option Trace) (at l w v : ℕ) → IsTelling o → ReadsWord o l w v → MayLeave (did done.Fenced at o) l w v
fenced_left None at l w v telling reads = absurd telling
fenced_left (Some h) at l w v telling reads = inl reads

as_either : (b : Bool) (m : Memory) (l w v : ℕ) → IsTelling m.image.trace → ReadsWord m.image.trace l w v → IsLeftOrRead b m l w v
as_either true m l w v telling reads = (reads, telling)
as_either false m l w v telling reads = read_left m.image.trace l w v telling reads

-- one more call keeps it so, if it isn't a write of the line that is fenced
replay_leaves : (b : Bool) (deed : Deed) (m after : Memory) (l w v : ℕ) → (IsTrue (b && writes l deed) → ⊥)
    → IsLeftOrRead (b || is_fence deed) m l w v → IsLeftOrRead b (replayed m deed after) l w v
replay_leaves true (WroteBack k) m after l w v other left = elim (cases_eq k l) [
  | inl same ↦ let test : nat_eq k l ≡ true = grind (arith, nat_tests) in absurd (other test)
  | inr apart ↦ (
    reads-kept m.image.trace k (next_count m.image.calls) (line_shown m k) l w v (λ (same : l ≡ k). absurd (apart (sym same))) left.0,
    telling-did m.image.trace (done.Wrote k (line_shown m k)) (next_count m.image.calls) left.1,
  )
]
replay_leaves true Fenced m after l w v other left = (
  reads-fenced m.image.trace (next_count m.image.calls) l w v left.0,
  telling-did m.image.trace done.Fenced (next_count m.image.calls) left.1,
)
replay_leaves true (Stored k x y) m after l w v other left = left
replay_leaves true Neither m after l w v other left = left
replay_leaves false (WroteBack k) m after l w v other left = may_leave-kept m.image.trace k (next_count m.image.calls) (line_shown m k) l w v left
replay_leaves false Fenced m after l w v other left = fenced_left m.image.trace (next_count m.image.calls) l w v left.1 left.0
replay_leaves false (Stored k x y) m after l w v other left = left
replay_leaves false Neither m after l w v other left = left

-- the same calls, with write-backs of the line among them, that leave the value
record Reaches (first : Memory) (steps : List Step) (l w v : ℕ) (b : Bool) : Type 0 where
  more : List Step
  same : AddsWriteBacks steps more
  follows : EachFollows first more
  alike : Alike (last first more) (last first steps)
  reached : IsLeftOrRead b (last first more) l w v

unchanged : (steps : List Step) → AddsWriteBacks steps steps
unchanged [] = Nothing
unchanged (step ∷ steps) = Same step step steps steps refl (unchanged steps)

telling_last : (first : Memory) (steps : List Step) → EachFollows first steps → IsTelling first.image.trace → IsTelling (last first steps).image.trace
telling_last first [] each telling = telling
telling_last first (step ∷ steps) each telling = telling_on step.deed (last first steps) step.after each.0.deed (telling_last first steps each.1 telling)

resident_last : (first : Memory) (steps : List Step) (l : ℕ) → EachFollows first steps → IsResident first l → IsResident (last first steps) l
unfolding IsResident
resident_last first [] l each resident = resident
resident_last first (step ∷ steps) l each resident = omega (arith, each.0.size, resident_last first steps l each.1 resident)

-- what is shown now, by a write-back now
written_now : (first : Memory) (steps : List Step) (l w v : ℕ) (b : Bool) → EachFollows first steps → IsTelling first.image.trace → IsResident first l
    → v ≡ shown (last first steps) l w → Reaches first steps l w v b
written_now first steps l w v b each telling resident is =
    let m = last first steps in
    let new = called m m.lines (done.Wrote l (line_shown m l)) in
    let same : Alike new m = record { lines = refl; size = refl } in
    record {
      more = record { deed = WroteBack l; after = new } ∷ steps;
      same = Added l new steps steps (unchanged steps);
      follows = (
        record {
          size = refl;
          deed = record {
            resident = resident_last first steps l each resident;
            wrote = refl;
            shows = λ k x known known_new. same_shown new m k x same;
            count = record { calls = refl; image = refl };
          };
        },
        each,
      );
      alike = same;
      reached = as_either b new l w v
          (telling-did m.image.trace (done.Wrote l (line_shown m l)) (next_count m.image.calls) (telling_last first steps each telling))
          (subst (λ (x : ℕ). ReadsWord new.image.trace l w x) (sym is) (reads-written m.image.trace l (next_count m.image.calls) (line_shown m l) w));
    }

reaches : (first : Memory) (steps : List Step) (l w v : ℕ) (b : Bool) → EachFollows first steps → IsTelling first.image.trace → IsResident first l
    → ShownSince first l w b steps v → Reaches first steps l w v b
reaches first [] l w v b each telling resident is = written_now first [] l w v b each telling resident is
reaches first (step ∷ steps) l w v b each telling resident (inl is) = written_now first (step ∷ steps) l w v b each telling resident is
reaches first (step ∷ steps) l w v b each telling resident (inr since) =
    let before = reaches first steps l w v (b || is_fence step.deed) each.1 telling resident since.1 in
    let m = last first before.more in
    let next : Step = record { deed = step.deed; after = replayed m step.deed step.after } in
    record {
      more = next ∷ before.more;
      same = Same step next steps before.more refl before.same;
      follows = (replay_follows m (last first steps) step before.alike (telling_last first steps each.1 telling) each.0, before.follows);
      alike = replay_alike m (last first steps) step before.alike each.0;
      reached = replay_leaves b step.deed m step.after l w v since.0 before.reached;
    }

pub each_is_left : EachIsLeft
each_is_left first steps l w v each telling resident (inl left) = record { more = steps; same = unchanged steps; follows = each; left = left }
each_is_left first steps l w v each telling resident (inr since) =
    let by = reaches first steps l w v false each telling resident since in
    record { more = by.more; same = by.same; follows = by.follows; left = by.reached }

telling-undone : (o : Option Trace) (d : Done) (at : ℕ) → IsTelling (did d at o) → IsTelling o
telling-undone None d at telling = telling
telling-undone (Some h) d at telling = tt

-- an image that tells what was done told it before
telling_back : (deed : Deed) (old new : Memory) → DidAs deed old new → IsTelling new.image.trace → IsTelling old.image.trace
telling_back (WroteBack l) old new does telling = telling-undone old.image.trace (done.Wrote l (line_shown old l)) new.image.calls (subst IsTelling does.wrote telling)
telling_back Fenced old new does telling = telling-undone old.image.trace done.Fenced new.image.calls (subst IsTelling does.made telling)
telling_back (Stored l w v) old new does telling = subst (λ (t : Told). IsTelling t.trace) does.same.image telling
telling_back Neither old new does telling = subst IsTelling does.nothing telling

-- a read of a line that was just written
reads-anew : (o : Option Trace) (line at : ℕ) (words : List ℕ) (w v : ℕ) → IsTelling o → ReadsWord (did (done.Wrote line words) at o) line w v → v ≡ slice_index words w
reads-anew None line at words w v telling reads = absurd telling
reads-anew (Some h) line at words w v telling reads = reads ∙ sym (reads-written (Some h) line at words w)

reads-unfenced : (o : Option Trace) (at l w v : ℕ) → ReadsWord (did done.Fenced at o) l w v → ReadsWord o l w v
reads-unfenced None at l w v reads = tt
reads-unfenced (Some h) at l w v reads = reads

left_telling : (o : Option Trace) (l w v : ℕ) → MayLeave o l w v → IsTelling o
left_telling None l w v left = left
left_telling (Some h) l w v left = tt

-- What the memory after the further write-backs, the first here, has of a word is in the stop set without them.
record IsInside (m first : Memory) (steps : List Step) (l w : ℕ) : Type 0 where
  shows : shown m l w ≡ shown (last first steps) l w
  telling : IsTelling m.image.trace → IsTelling (last first steps).image.trace
  left : (v : ℕ) → MayLeave m.image.trace l w v → InStopSet first steps l w v
  read : (v : ℕ) → IsTelling m.image.trace → ReadsWord m.image.trace l w v
      → ReadsWord (last first steps).image.trace l w v ⊎ ShownSince first l w true steps v

module _ (first m : Memory) (steps : List Step) (l w : ℕ) (inside : IsInside m first steps l w) where
  -- after one more write-back that the other calls lack
  added_inside : (line : ℕ) (new : Memory) → DidAs (WroteBack line) m new → shown new l w ≡ shown m l w → IsInside new first steps l w
  added_inside line new does same = record {
    shows = same ∙ inside.shows;
    telling = λ telling. inside.telling (telling_back (WroteBack line) m new does telling);
    left = λ v left. ⊎_elim
        (λ (before : MayLeave m.image.trace l w v). inside.left v before)
        (λ (is : v ≡ shown m l w). inr (shown_now first l w false steps v (is ∙ inside.shows)))
        (leaves_on (WroteBack line) m new l w v does left);
    read = λ v telling reads. ⊎_elim
        (λ here. inr (shown_now first l w true steps v (here.1 ∙ ap (λ (k : ℕ). shown m k w) (sym here.0) ∙ inside.shows)))
        (λ before. inside.read v (telling_back (WroteBack line) m new does telling) before)
        (reads-wrote m.image.trace line new.image.calls (line_shown m line) l w v (subst (λ (o : Option Trace). ReadsWord o l w v) does.wrote reads));
  }

  -- what was in the stop set is, after a call that took nothing away
  still : (deed : Deed) (after : Memory) (v : ℕ) → is_fence deed ≡ false
      → (MayLeave (last first steps).image.trace l w v → MayLeave after.image.trace l w v)
      → InStopSet first steps l w v → InStopSet first (record { deed = deed; after = after } ∷ steps) l w v
  still deed after v plain keeps (inl left) = inl (keeps left)
  still deed after v plain keeps (inr since) = inr (inr (λ impossible. cc, subst (λ (b : Bool). ShownSince first l w b steps v) (sym plain) since))

  -- after one more of the calls that both make
  both_wrote : (line : ℕ) (new after : Memory) → WritesBack line m new → WritesBack line (last first steps) after → shown new l w ≡ shown after l w
      → IsInside new first (record { deed = WroteBack line; after = after } ∷ steps) l w
  both_wrote line new after more does same =
      let old = last first steps in
      let told = did (done.Wrote line (line_shown m line)) new.image.calls m.image.trace in
      record {
        shows = same;
        telling = λ telling. telling_on (WroteBack line) old after does (inside.telling (telling_back (WroteBack line) m new more telling));
        left = λ v left. ⊎_elim
            (λ here. inr (inr (λ impossible. cc, shown_now first l w false steps v (here.1 ∙ ap (λ (k : ℕ). shown m k w) (sym here.0) ∙ inside.shows))))
            (λ before. still (WroteBack line) after v refl
            (λ kept. subst (λ (o : Option Trace). MayLeave o l w v) (sym does.wrote) (may_leave-kept old.image.trace line after.image.calls (line_shown old line) l w v kept))
            (inside.left v before))
            (may_leave-wrote m.image.trace line new.image.calls (line_shown m line) l w v (subst (λ (o : Option Trace). MayLeave o l w v) more.wrote left));
        read = λ v telling reads.
            let before = telling_back (WroteBack line) m new more telling in
            let reads_told = subst (λ (o : Option Trace). ReadsWord o l w v) more.wrote reads in
            elim (cases_eq line l) [
              | inl one ↦
                  let anew = reads-anew m.image.trace line new.image.calls (line_shown m line) w v before
                  (subst (λ (k : ℕ). ReadsWord told k w v) (sym one) reads_told) in
                  let is : v ≡ shown old l w = anew ∙ ap (λ (k : ℕ). shown m k w) one ∙ inside.shows in
                  inl (subst (λ (o : Option Trace). ReadsWord o l w v) (sym does.wrote)
                  (subst (λ (x : ℕ). ReadsWord (did (done.Wrote line (line_shown old line)) after.image.calls old.image.trace) l w x) (sym is)
                  (subst (λ (k : ℕ). ReadsWord (did (done.Wrote line (line_shown old line)) after.image.calls old.image.trace) k w (shown old k w)) one
                  (reads-written old.image.trace line after.image.calls (line_shown old line) w))))
              | inr apart ↦
                  let test : nat_eq line l ≡ false = grind (arith, nat_tests) in
                  ⊎_elim
                  (λ here. absurd (apart (sym here.0)))
                  (λ read. ⊎_elim
                  (λ (still_read : ReadsWord old.image.trace l w v). inl (subst (λ (o : Option Trace). ReadsWord o l w v) (sym does.wrote)
                  (reads-kept old.image.trace line after.image.calls (line_shown old line) l w v (λ (equal : l ≡ line). absurd (apart (sym equal))) still_read)))
                  (λ (since : ShownSince first l w true steps v). inr (inr (λ (is : nat_eq line l ≡ true). cc, since)))
                  (inside.read v before read))
                  (reads-wrote m.image.trace line new.image.calls (line_shown m line) l w v reads_told)
            ];
      }

  both_fenced : (new after : Memory) → MakesFence m new → MakesFence (last first steps) after → shown new l w ≡ shown after l w
      → IsInside new first (record { deed = Fenced; after = after } ∷ steps) l w
  both_fenced new after more does same =
      let old = last first steps in
      record {
        shows = same;
        telling = λ telling. telling_on Fenced old after does (inside.telling (telling_back Fenced m new more telling));
        left = λ v left.
            let both = may_leave-fenced m.image.trace new.image.calls l w v (subst (λ (o : Option Trace). MayLeave o l w v) more.made left) in
            let telling = left_telling m.image.trace l w v both.1 in
            ⊎_elim
            (λ (read : ReadsWord old.image.trace l w v). inl (subst (λ (o : Option Trace). MayLeave o l w v) (sym does.made)
            (fenced_left old.image.trace after.image.calls l w v (inside.telling telling) read)))
            (λ (since : ShownSince first l w true steps v). inr (inr (λ impossible. cc, since)))
            (inside.read v telling both.0);
        read = λ v telling reads. ⊎_elim
            (λ (read : ReadsWord old.image.trace l w v). inl (subst (λ (o : Option Trace). ReadsWord o l w v) (sym does.made)
            (reads-fenced old.image.trace after.image.calls l w v read)))
            (λ (since : ShownSince first l w true steps v). inr (inr (λ impossible. cc, since)))
            (inside.read v (telling_back Fenced m new more telling)
            (reads-unfenced m.image.trace new.image.calls l w v (subst (λ (o : Option Trace). ReadsWord o l w v) more.made reads)));
      }

  -- where neither changed what its image tells
  both_quiet : (deed : Deed) (new after : Memory) → is_fence deed ≡ false → writes l deed ≡ false
      → m.image.trace ≡ new.image.trace → (last first steps).image.trace ≡ after.image.trace → shown new l w ≡ shown after l w
      → IsInside new first (record { deed = deed; after = after } ∷ steps) l w
  both_quiet deed new after plain other more does same = record {
    shows = same;
    telling = λ telling. subst IsTelling does (inside.telling (subst IsTelling (sym more) telling));
    left = λ v left. still deed after v plain (λ kept. subst (λ (o : Option Trace). MayLeave o l w v) does kept)
        (inside.left v (subst (λ (o : Option Trace). MayLeave o l w v) (sym more) left));
    read = λ v telling reads. ⊎_elim
        (λ (read : ReadsWord (last first steps).image.trace l w v). inl (subst (λ (o : Option Trace). ReadsWord o l w v) does read))
        (λ (since : ShownSince first l w true steps v). inr (inr (λ (is : writes l deed ≡ true). cc, since)))
        (inside.read v (subst IsTelling (sym more) telling) (subst (λ (o : Option Trace). ReadsWord o l w v) (sym more) reads));
  }

  both_inside : (deed : Deed) (new after : Memory) → DidAs deed m new → DidAs deed (last first steps) after → shown new l w ≡ shown after l w
      → IsInside new first (record { deed = deed; after = after } ∷ steps) l w
  both_inside (WroteBack line) new after more does same = both_wrote line new after more does same
  both_inside Fenced new after more does same = both_fenced new after more does same
  both_inside (Stored k x v) new after more does same =
      both_quiet (Stored k x v) new after refl refl (ap (λ (t : Told). t.trace) (sym more.same.image)) (ap (λ (t : Told). t.trace) (sym does.same.image)) same
  both_inside Neither new after more does same = both_quiet Neither new after refl refl (sym more.nothing) (sym does.nothing) same

stores_or_not : (l w : ℕ) (deed : Deed) → Stores l w deed ⊎ (Stores l w deed → ⊥)
stores_or_not l w (WroteBack line) = inr (λ impossible. impossible)
stores_or_not l w Fenced = inr (λ impossible. impossible)
stores_or_not l w (Stored line word v) = elim (cases_eq l line) [
  | inl one ↦ elim (cases_eq w word) [ inl same ↦ inl (one, same) | inr other ↦ inr (λ both. other both.1) ]
  | inr apart ↦ inr (λ both. apart both.0)
]
stores_or_not l w Neither = inr (λ impossible. impossible)

-- what two stores of one value to the word show
both_stored : (deed : Deed) (m new old after : Memory) (l w : ℕ) → Stores l w deed → DidAs deed m new → DidAs deed old after → shown new l w ≡ shown after l w
both_stored (WroteBack line) m new old after l w stores more does = absurd stores
both_stored Fenced m new old after l w stores more does = absurd stores
both_stored (Stored line word v) m new old after l w stores more does =
    let at = λ (x : Memory). ap (λ (k : ℕ). shown x k w) stores.0 ∙ ap (λ (k : ℕ). shown x line k) stores.1 in
    at new ∙ more.here ∙ sym does.here ∙ sym (at after)
both_stored Neither m new old after l w stores more does = absurd stores

-- two calls that did the same, where the same was shown
both_show : (deed : Deed) (m old : Memory) (new after : Step) (l w : ℕ) → DidAs deed m new.after → DidAs deed old after.after
    → IsKnown m l → IsKnown new.after l → IsKnown old l → IsKnown after.after l → shown m l w ≡ shown old l w → shown new.after l w ≡ shown after.after l w
both_show deed m old new after l w more does known_m known_new known_old known_after same = ⊎_elim
    (λ (stores : Stores l w deed). both_stored deed m new.after old after.after l w stores more does)
    (λ (other : Stores l w deed → ⊥). same_deed deed m new.after l w more known_m known_new other ∙ same ∙ sym (same_deed deed old after.after l w does known_old known_after other))
    (stores_or_not l w deed)

all_inside : (first : Memory) {steps more : List Step} (l w : ℕ) → AddsWriteBacks steps more → EachFollows first steps → EachFollows first more → IsKnown first l
    → IsInside (last first more) first steps l w
all_inside first l w Nothing each each_more known = record { shows = refl; telling = λ telling. telling; left = λ v left. inl left; read = λ v telling reads. inl reads }
all_inside first l w (Same step other steps more same adds) each each_more known =
    let before = all_inside first l w adds each.1 each_more.1 known in
    let m = last first more in
    let old = last first steps in
    let known_m = known_last first more l each_more.1 known in
    let known_old = known_last first steps l each.1 known in
    let does_more = subst (λ (deed : Deed). DidAs deed m other.after) same each_more.0.deed in
    both_inside first m steps l w before step.deed other.after step.after does_more each.0.deed
    (both_show step.deed m old other step l w does_more each.0.deed known_m (known_on m other l each_more.0 known_m) known_old (known_on old step l each.0 known_old) before.shows)
all_inside first l w (Added line written steps more adds) each each_more known =
    let m = last first more in
    let known_m = known_last first more l each_more.1 known in
    let known_written = known_on m (record { deed = WroteBack line; after = written }) l each_more.0 known_m in
    added_inside first m steps l w (all_inside first l w adds each each_more.1 known) line written each_more.0.deed
    (same_deed (WroteBack line) m written l w each_more.0.deed known_m known_written (λ impossible. impossible))

pub none_else_is_left : NoneElseIsLeft
none_else_is_left first steps l w v each known by = (all_inside first l w by.same each by.follows known).left v by.left
