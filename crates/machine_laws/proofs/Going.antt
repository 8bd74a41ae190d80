-- Events without an act: what is shown stays, and so do all frames.
use Rattle.std.proofs.Common.{◌≡◌, inl, inr, ℕ, ◌<◌, ◌≤◌, List, length, refl, ap, sym, subst, ◌∙◌, arith}
use Rattle.std.specs.Prelude.{slice_index_or, slice_set}
use Rattle.std.proofs.lemmas.Bool.{cases_lt}
use Rattle.graph_model.specs.declared.types.Root.{Root}
use Rattle.run_history.specs.Knowing.{known_after}
use Rattle.run_history.specs.Worlds.{World}
use Rattle.shared_objects.specs.Shown.{Keeps}
use Rattle.shared_objects.specs.Worlds.{world_of}
use Rattle.run_forms.specs.Views.{ThreadFrames}
use Rattle.run_forms.specs.Standing.{StandsFor}
use Rattle.run_forms.specs.Laws.{ShowsSameWorld, MovesStandForTheRun}
use Rattle.twin_forms.specs.Table.{Entry}
use Rattle.twin_forms.specs.Sights.{view_of, Twin}
use Rattle.two_spaces.specs.Laws.{null_is_no_object}
use Rattle.two_spaces.specs.Moving.{IsMove}
use Rattle.two_spaces.proofs.Moved.{shows}
use Rattle.convert_words.specs.declared.step.ConvertStep.{ConvertStep}
use Rattle.machine_forms.specs.declared.doing.Doing.{Doing}
use Rattle.machine_forms.specs.declared.doing.Doing.TheVariants.{Nothing, Writing, Fencing}
use Rattle.machine_forms.specs.Machines.{Opening, Machine, first_of, roots_in, shown_in, doing_of}
use Rattle.machine_forms.specs.Keeping.{KeepsRun, KeepsWorld}
use Rattle.machine_forms.specs.Events.{with_twin, ConvertsOn, IsNoSeal, FailsOn, CallsImage, BeginsOn, WritesBack, with_write}
use Rattle.machine_laws.proofs.HeapBeginning.{failed_move, move_begun, shared_failed, shared_begun}
use Rattle.machine_laws.proofs.Called.{quiet, shared_call}
use Rattle.machine_laws.proofs.HeapConverting.{move, shared_step}
use Rattle.machine_laws.specs.Frames.{acted_frames, all_acted, RunsAsPlain}
use Rattle.machine_laws.proofs.Lagging.{about-other, frames-same}
use Rattle.converter.specs.declared.begin.Begun.{Begun}

-- ---- what is shown stays

abbrev with_roots : List Root → World → World
with_roots roots w = record w { heap = record w.heap { roots = roots } }

module _ (o : Opening) (m m' : Machine) (acts : m'.acts ≡ m.acts) (w : KeepsWorld o m)
    (w' : KeepsWorld o m') where
  same-world : world_of (roots_in o m') (shown_in m') m'.rest ≡ world_of (roots_in o m) (shown_in m) m.rest
  same-world = sym w'.world ∙ ap (λ done. (known_after (first_of o) done).world) acts ∙ w.world

  pub shows-same : Keeps (shown_in m).number (shown_in m').number
      → ShowsSameWorld (shown_in m) (shown_in m') m.rest m'.rest
  shows-same keeps = record {
    keeps = keeps;
    world = λ roots. ap (with_roots roots) same-world;
    monitors = w'.monitors;
    null = null_is_no_object (view_of m'.spaces.twin);
  }

-- Objects have moved to another twin, or none has, and nobody has acted.
pub record Moves (o : Opening) (m m' : Machine) (es es' : List Entry) : Type 0 where
  pub acts : m'.acts ≡ m.acts
  pub doing : m'.doing ≡ m.doing
  pub move : IsMove m.spaces m'.spaces.twin es es'
  pub world : KeepsWorld o m'

module _ (law : MovesStandForTheRun) (o : Opening) (m m' : Machine) (es es' : List Entry)
    (threads : List ThreadFrames) (run : KeepsRun o m es) (plain : RunsAsPlain o m threads)
    (moves : Moves o m m' es es') where
  keeps-numbers : Keeps (shown_in m).number (shown_in m').number
  keeps-numbers = (shows m.spaces m'.spaces.twin es es' moves.move).keeps

  pub stands-moved : StandsFor o.launch m.acts (shown_in m') m'.rest (all_acted o.launch m.doing threads)
  stands-moved = law o.launch m.acts (shown_in m) m.rest (all_acted o.launch m.doing threads)
      run.world.launched plain.stands (shown_in m') m'.rest
      (shows-same o m m' moves.acts run.world moves.world keeps-numbers)

  pub moved : RunsAsPlain o m' threads
  moved = record {
    stands = subst (λ done. StandsFor o.launch done (shown_in m') m'.rest
        (all_acted o.launch m'.doing threads)) (sym moves.acts)
        (subst (λ ds. StandsFor o.launch m.acts (shown_in m') m'.rest (all_acted o.launch ds threads))
        (sym moves.doing) stands-moved);
    begun = λ u past. ap (λ ds. slice_index_or ds u Nothing) moves.doing ∙ plain.begun u past;
  }

-- a step of a conversion, a seal too
pub step-moves : (o : Opening) (m m' : Machine) (es : List Entry) (run : KeepsRun o m es) (t : ℕ)
    (answer : ConvertStep) (c : ConvertsOn t answer m m' es) → Moves o m m' es c.event.after
step-moves o m m' es run t answer c = record {
  acts = ap (λ (x : Machine). x.acts) c.same;
  doing = ap (λ (x : Machine). x.doing) c.same;
  move = move o m m' es run t answer c;
  world = (shared_step o m m' es run t answer c).1;
}

-- ---- events

module _ (law : MovesStandForTheRun) where
  pub calls-leave : (o : Opening) (m : Machine) (es : List Entry) (threads : List ThreadFrames)
      → KeepsRun o m es → RunsAsPlain o m threads → (twin : Twin) → CallsImage m twin
      → RunsAsPlain o (with_twin m twin) threads
  calls-leave o m es threads run plain twin c = moved law o m (with_twin m twin) es es threads run plain
      (record {
        acts = refl;
        doing = refl;
        move = quiet o m es (run.heap, run.world) twin c.call;
        world = (shared_call o m es (run.heap, run.world) twin c.call).1;
      })

  pub conversions-leave : (o : Opening) (m : Machine) (es : List Entry) (threads : List ThreadFrames)
      → KeepsRun o m es → RunsAsPlain o m threads → (m' : Machine) (t : ℕ) (answer : ConvertStep)
      → ConvertsOn t answer m m' es → IsNoSeal answer → RunsAsPlain o m' threads
  conversions-leave o m es threads run plain m' t answer c no_seal =
      moved law o m m' es c.event.after threads run plain (step-moves o m m' es run t answer c)

  pub failures-leave : (o : Opening) (m : Machine) (es : List Entry) (threads : List ThreadFrames)
      → KeepsRun o m es → RunsAsPlain o m threads → (m' : Machine) (t : ℕ) → FailsOn t m m' es
      → RunsAsPlain o m' threads
  failures-leave o m es threads run plain m' t c = moved law o m m' es es threads run plain (record {
    acts = ap (λ (x : Machine). x.acts) c.same;
    doing = ap (λ (x : Machine). x.doing) c.same;
    move = failed_move o m m' es run t c;
    world = (shared_failed o m m' es run t c).1;
  })

  pub beginnings-leave : (o : Opening) (m : Machine) (es : List Entry) (threads : List ThreadFrames)
      → KeepsRun o m es → RunsAsPlain o m threads → (m' : Machine) (es' : List Entry) (t n word : ℕ)
      (answer : Begun) → BeginsOn t n word answer o m m' es es' → RunsAsPlain o m' threads
  beginnings-leave o m es threads run plain m' es' t n word answer b =
      moved law o m m' es es' threads run plain (record {
        acts = ap (λ (x : Machine). x.acts) b.same;
        doing = ap (λ (x : Machine). x.doing) b.same;
        move = move_begun o m m' es es' run t n word answer b;
        world = (shared_begun o m m' es es' run t n word answer b).1;
      })

-- ---- write-backs

-- A thread that is about something has begun.
pub has-begun : (o : Opening) (m : Machine) (threads : List ThreadFrames) → RunsAsPlain o m threads → (t : ℕ)
    → (doing_of m t ≡ Nothing → ⊥) → t < length threads
has-begun o m threads plain t about = elim (cases_lt t (length threads)) [
  | inl lt ↦ lt
  | inr past ↦ absurd (about (plain.begun t past))
]

-- What a thread that has begun is about says nothing of those that haven't.
pub begun-still : (o : Opening) (m : Machine) (threads : List ThreadFrames) → RunsAsPlain o m threads
    → (t : ℕ) (d : Doing) → t < length threads → (u : ℕ) → length threads ≤ u
    → slice_index_or (slice_set m.doing t d) u Nothing ≡ Nothing
begun-still o m threads plain t d lt u past =
    about-other m.doing t u d (omega (arith, lt, past)) ∙ plain.begun u past

not-writing : (d : Doing) (line : ℕ) → d ≡ Writing line → d ≡ Nothing → ⊥
not-writing d line is none = let no : Nothing ≡ Writing line = sym none ∙ is in cc

pub writes-leave : MovesStandForTheRun →
    (o : Opening) (m : Machine) (es : List Entry) (threads : List ThreadFrames)
    → KeepsRun o m es → RunsAsPlain o m threads → (twin : Twin) (t : ℕ) → WritesBack m twin t
    → RunsAsPlain o (with_write m twin t) threads
writes-leave law o m es threads run plain twin t w =
    let on = calls-leave law o m es threads run plain twin w.calls in
    let lt = has-begun o m threads plain t (not-writing (doing_of m t) w.line w.doing) in record {
      stands = subst (StandsFor o.launch m.acts (shown_in (with_twin m twin)) m.rest)
          (sym (frames-same o.launch m.doing threads t Fencing
          (λ fs. sym (ap (λ d. acted_frames o.launch d fs) w.doing)))) on.stands;
      begun = begun-still o m threads plain t Fencing lt;
    }
