-- Failed steps of conversions, their beginnings and seals, and what is asked.
use Rattle.std.proofs.Common.{◌≡◌, ℕ, ◌≤◌, List, [], refl, sym, ◌∙◌, ap, subst, arith}
use Rattle.image_layout.specs.Places.{first_object_line}
use Rattle.line_memory.specs.Memory.{Memory, shown, IsTelling}
use Rattle.line_memory.specs.Moments.{KeepsShown}
use Rattle.run_history.specs.declared.act.Op.TheVariants as op
use Rattle.shared_objects.specs.declared.rest.Rest.{Rest}
use Rattle.twin_forms.specs.Table.{Entry, entry}
use Rattle.twin_forms.specs.Sights.{Twin}
use Rattle.two_spaces.specs.Moving.{IsMove, SameCurrent}
use Rattle.two_spaces.specs.Quiet.{IsImageCall}
use Rattle.two_spaces.proofs.Quieted.{calls_quiet, quiet_moves}
use Rattle.convert_words.specs.Scenes.{Scene}
use Rattle.convert_words.specs.Steps.{claimed_at}
use Rattle.converter.specs.declared.begin.Begun.{Begun}
use Rattle.converter.specs.declared.begin.Begun.TheVariants as begun
use Rattle.converter.specs.Beginning.{BeginsAs}
use Rattle.machine_forms.specs.declared.doing.Doing.TheVariants.{Converting}
use Rattle.machine_forms.specs.Machines.{Opening, Machine, scene_of}
use Rattle.machine_forms.specs.Keeping.{KeepsRun, KeepsWorld}
use Rattle.machine_forms.specs.Events.{FailsOn, BeginsOn, with_act, with_doing, value_in, Seals, with_joined, with_asked}
use Rattle.machine_laws.specs.HeapLaws.{KeepsShared}
use Rattle.machine_laws.proofs.HeapConverting.{moves, shared_step}
use Rattle.machine_laws.proofs.HeapMoving.{moved_to, Arrives, heap_arrives, world_arrives, shared_act, shared_doing}
use Rattle.ap_base.specs.declared.place.Place.{Place}
use Rattle.ap_base.specs.declared.reference.Item.{Item}
use Rattle.machine_laws.proofs.HeapTables.{AreLow, claimed_word, current_becomes, low_becomes}

-- where nothing is kept under another key
module _ (o : Opening) (m m' : Machine) (es es' : List Entry) (run : KeepsRun o m es)
    (move : IsMove m.spaces m'.spaces.twin es es') (current : SameCurrent es es')
    (monitors : m'.rest.monitors ≡ m.rest.monitors)
    (arrives : Arrives o (moved_to m m'.spaces.twin m'.queue m'.free m'.rest.monitors) es') where
  pub shared_moved : KeepsShared o (moved_to m m'.spaces.twin m'.queue m'.free m'.rest.monitors) es'
  shared_moved = (
    heap_arrives o m es es' m'.spaces.twin m'.queue m'.free m'.rest.monitors run.heap move arrives,
    subst (λ ms. KeepsWorld o (moved_to m m'.spaces.twin m'.queue m'.free ms)) (sym monitors)
        (world_arrives o m es es' m'.spaces.twin m'.queue m'.free run.world move current),
  )

-- ---- failures

module _ (o : Opening) (m m' : Machine) (es : List Entry) (run : KeepsRun o m es) (t : ℕ)
    (c : FailsOn t m m' es)
  where
    abbrev at : Scene
    at = c.event.at

    abbrev twin : Twin
    twin = m'.spaces.twin

    from : at.heap ≡ m.spaces.twin
    from = c.event.goes_on.heap

    keeps : KeepsShown m.spaces.twin.memory twin.memory
    keeps = subst (λ (x : Twin). KeepsShown x.memory twin.memory) from c.event.fails.keeps

    call : IsImageCall m.spaces twin
    call = record {
      keeps = keeps;
      space = ap (λ (x : Twin). x.space) c.event.fails.heap ∙ ap (λ (x : Twin). x.space) from;
      marks = ap (λ (x : Twin). x.marks) c.event.fails.heap ∙ ap (λ (x : Twin). x.marks) from;
      known = run.heap.known;
      known_after = c.sound.known;
      long = let size = run.heap.size in let long = run.heap.long in omega (arith, size, long);
    }

    pub failed_move : IsMove m.spaces twin es es
    failed_move = quiet_moves m.spaces twin es (calls_quiet m.spaces twin es run.heap.whole call)

    free_same : m'.free ≡ m.free
    free_same = c.event.fails.free ∙ c.event.goes_on.free

    pub shared_failed : KeepsShared o m' es
    shared_failed =
        subst (λ (x : Machine). KeepsShared o x es) (sym c.same)
        (shared_moved o m m' es es run failed_move (λ _ _. refl) c.event.monitors (record {
          agrees = c.event.fails.agrees;
          sound = c.sound.sound;
          low = run.heap.low;
          behind = subst (λ f. first_object_line ≤ f) (sym free_same) run.heap.behind;
          within = c.sound.within;
          size = keeps.size ∙ run.heap.size;
          known = c.sound.known;
          telling = λ told. keeps.telling (run.heap.telling told);
        }))

-- ---- beginnings

begun_low : (answer : Begun) (t n : ℕ) (s s' : Scene) (es es' : List Entry) → BeginsAs answer s s' es es' t n
    → first_object_line ≤ s.free → AreLow es → AreLow es'
begun_low begun.Claimed t n s s' es es' says free low =
    low_becomes es es' n (claimed_at t s.free (entry es n)) says.becomes low (λ _. free)
begun_low (begun.Needs u) t n s s' es es' says free low = subst AreLow (sym says.table) low
begun_low (begun.Full need left) t n s s' es es' says free low = subst AreLow (sym says.table) low

begun_free : (answer : Begun) (t n : ℕ) (s s' : Scene) (es es' : List Entry) → BeginsAs answer s s' es es' t n
    → first_object_line ≤ s.free → first_object_line ≤ s'.free
begun_free begun.Claimed t n s s' es es' says free = let is = says.free in omega (arith, is, free)
begun_free (begun.Needs u) t n s s' es es' says free = subst (λ f. first_object_line ≤ f) (sym says.free) free
begun_free (begun.Full need left) t n s s' es es' says free =
    subst (λ (x : Scene). first_object_line ≤ x.free) (sym says.same) free

begun_current : (answer : Begun) (t n : ℕ) (s s' : Scene) (es es' : List Entry)
    → BeginsAs answer s s' es es' t n → SameCurrent es es'
begun_current begun.Claimed t n s s' es es' says =
    current_becomes es es' n (claimed_at t s.free (entry es n)) says.becomes
    (claimed_word t s.free (entry es n) says.ordinary)
begun_current (begun.Needs u) t n s s' es es' says = subst (SameCurrent es) (sym says.table) (λ _ _. refl)
begun_current (begun.Full need left) t n s s' es es' says =
    subst (SameCurrent es) (sym says.table) (λ _ _. refl)

module _ (o : Opening) (m m' : Machine) (es es' : List Entry) (run : KeepsRun o m es) (t n word : ℕ)
    (answer : Begun) (b : BeginsOn t n word answer o m m' es es') where
  low_begun : AreLow es'
  low_begun = begun_low answer t n (scene_of m)
      (scene_of m') es es' b.begins.says run.heap.behind run.heap.low

  pub move_begun : IsMove m.spaces m'.spaces.twin es es'
  move_begun = moves m.spaces m.spaces.twin m'.spaces.twin es es' run.heap.whole (record {
    from = refl;
    shows = b.begins.shows;
    lies = b.begins.agrees.lies;
    kinds = b.begins.kinds;
    left = b.begins.left;
    spares = λ l w _. ap (λ (x : Memory). shown x l w) b.begins.memory;
    low = low_begun;
  })

  pub shared_begun : KeepsShared o m' es'
  shared_begun =
      subst (λ (x : Machine). KeepsShared o x es') (sym b.same)
      (shared_moved o m m' es es' run move_begun
      (begun_current answer t n (scene_of m) (scene_of m') es es' b.begins.says)
      (ap (λ (r : Rest). r.monitors) b.monitors) (record {
        agrees = b.begins.agrees;
        sound = b.sound.sound;
        low = low_begun;
        behind = begun_free answer t n (scene_of m) (scene_of m') es es' b.begins.says run.heap.behind;
        within = b.sound.within;
        size = ap (λ (x : Memory). x.size) b.begins.memory ∙ run.heap.size;
        known = b.sound.known;
        telling = λ told. subst (λ (x : Memory). IsTelling x.image.trace) (sym b.begins.memory)
            (run.heap.telling told);
      }))

-- ---- seals and what is asked

pub shared_seal : (o : Opening) (m m' : Machine) (es : List Entry) → KeepsRun o m es → (t set : ℕ)
    (named : List ℕ) (c : Seals t set named m m' es)
    → KeepsShared o (with_joined m' t named) c.converts.event.after
shared_seal o m m' es run t set named c =
    shared_act o m' c.converts.event.after t op.Joined named refl
    (shared_step o m m' es run t _ c.converts)

pub shared_asked : (o : Opening) (m : Machine) (es : List Entry) → KeepsRun o m es → (t : ℕ) (place : Place)
    (item : Item) → KeepsShared o (with_asked m t place (value_in m item)) es
shared_asked o m es run t place item =
    let asked = with_act m t (op.Asked place (value_in m item)) [] in
    shared_doing o asked es (with_doing asked t Converting).doing
    (shared_act o m es t (op.Asked place (value_in m item)) [] refl (run.heap, run.world))
