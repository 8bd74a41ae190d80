-- Acts of requests: the acting thread's frames are answered, its own at once or once its store is fenced.
use Rattle.std.proofs.Common.{◌≡◌, inl, inr, ℕ, ◌<◌, List, [], length, refl, ap, sym, subst, ◌∙◌, arith, None}
use Rattle.std.specs.Prelude.{slice_set, slice_index_or}
use Rattle.std.proofs.lemmas.List.{append-nil, length-set, length-append}
use Rattle.std.proofs.lemmas.Option.{slice_get_within}
use Rattle.ap_base.specs.declared.reference.Ref.{Ref}
use Rattle.ap_base.specs.declared.reference.Item.{Item}
use Rattle.natives.specs.declared.requests.Request.{Request}
use Rattle.natives.specs.declared.requests.Reply.{Reply}
use Rattle.natives.specs.declared.requests.Reply.TheVariants as reply
use Rattle.run_history.specs.declared.act.Op.{Op}
use Rattle.run_history.specs.declared.act.Op.TheVariants as op
use Rattle.run_history.specs.Recorded.{Recorded}
use Rattle.frames.specs.Turns.{turn, answer}
use Rattle.run_forms.specs.Views.{ThreadFrames}
use Rattle.run_forms.specs.Standing.{IsLaunch, StandsFor, setting_of}
use Rattle.run_forms.specs.Laws.{ActsGoOn, answered_threads}
use Rattle.twin_forms.specs.Table.{Entry}
use Rattle.twin_forms.specs.Sights.{view_of}
use Rattle.two_spaces.specs.Laws.{null_is_no_object}
use Rattle.machine_laws.specs.AskLaws.{ActsMayCome, MayCome, asked_by}
use Rattle.machine_forms.specs.declared.doing.Doing.{Doing}
use Rattle.machine_forms.specs.declared.doing.Doing.TheVariants.{Nothing, Converting, Writing, Fencing}
use Rattle.machine_forms.specs.Machines.{Opening, Machine, shown_in, doing_of}
use Rattle.machine_forms.specs.Events.{act_in, value_in, left_by, IsFree, DoesRequest, ActsBeside, StoresDurably}
use Rattle.machine_laws.specs.Frames.{all_acted, stored_frames, RunsAsPlain, Asks, Begins, IsReady}
use Rattle.machine_laws.proofs.Lagging.{ready-own, frames-set, frames-answered}
use Rattle.machine_laws.proofs.Going.{begun-still}
use Rattle.machine_laws.proofs.Persisting.{asking-acted}
use Rattle.machine_forms.specs.Keeping.{KeepsRun}
use Rattle.ap_base.specs.declared.place.Place.{Place}
use Rattle.machine_forms.specs.Happening.{acted, stored}

pub free-ready : (o : Opening) (m : Machine) (es : List Entry) (t : ℕ) (d : Doing) → IsFree o m es t d
    → IsReady d
free-ready o m es t Nothing free = inl refl
free-ready o m es t Converting free = inr refl
free-ready o m es t (Writing line) free = absurd free
free-ready o m es t Fencing free = absurd free

left-ready : (operation : Op) (d : Doing) → IsReady d → IsReady (left_by operation d)
left-ready (op.Stored place value) d ready = inl refl
left-ready operation d ready = ready

-- ---- one act

module _ (law : ActsGoOn) (o : Opening) (m m' : Machine) (es : List Entry) (threads : List ThreadFrames)
    (launched : IsLaunch o.launch) (plain : RunsAsPlain o m threads) (t : ℕ) (fs : ThreadFrames)
    (request : Request Ref Item) (operation : Op) (r : Reply Ref Item)
    (asks : Asks o m threads t fs request) (does : DoesRequest o m m' es t request operation r)
    (may : MayCome o m (asked_by m request) (act_in m t operation [])) where
  abbrev act : Recorded
  act = act_in m t operation []

  abbrev answered : ThreadFrames
  answered = answer (setting_of o.launch) (turn (setting_of o.launch) fs).frames r

  pub ready : IsReady (doing_of m t)
  ready = free-ready o m es t (doing_of m t) does.doing

  pub lives : t < length threads
  lives = slice_get_within threads t fs asks.frames

  -- the frames by the acts are those after the answer
  pub acted-stands : (begun : List ThreadFrames) → Begins o m' operation begun
      → StandsFor o.launch m'.acts (shown_in m') m'.rest
      (answered_threads o.launch (all_acted o.launch m.doing threads) t fs r begun)
  acted-stands begun begins =
      subst (λ done. StandsFor o.launch done (shown_in m') m'.rest
      (answered_threads o.launch (all_acted o.launch m.doing threads) t fs r begun)) (sym does.acts)
      (law o.launch m.acts (shown_in m) m.rest (all_acted o.launch m.doing threads) launched
      plain.stands act fs request r (shown_in m') m'.rest begun
      (asking-acted o m threads t fs request ready asks)
      (record { steps = does.step; may = may; null = null_is_no_object (view_of m'.spaces.twin) }) begins)

  -- its own frames are answered, where it doesn't lag then
  pub answers : (d : Doing) → IsReady d → m'.doing ≡ slice_set m.doing t d → (begun : List ThreadFrames)
      → Begins o m' operation begun → RunsAsPlain o m' (answered_threads o.launch threads t fs r begun)
  answers d ready-now doing begun begins =
      let lt = lives in
      let own = ready-own o.launch d answered ready-now in
      let frames = frames-answered o.launch m.doing threads t d answered begun lt own plain.begun in
      let long = length-append (slice_set threads t answered) begun in
      let same = length-set threads t answered in record {
        stands = subst (StandsFor o.launch m'.acts (shown_in m') m'.rest)
            (sym (ap (λ ds. all_acted o.launch ds (answered_threads o.launch threads t fs r begun)) doing
            ∙ frames))
            (acted-stands begun begins);
        begun = λ u past. ap (λ ds. slice_index_or ds u Nothing) doing
            ∙ begun-still o m threads plain t d lt u (omega (arith, past, long, same));
      }

-- ---- acts that change no durable place

pub acts-answer : ActsMayCome → ActsGoOn →
    (o : Opening) (m : Machine) (es : List Entry) (threads : List ThreadFrames)
    → KeepsRun o m es → RunsAsPlain o m threads → (m' : Machine) (t : ℕ) (fs : ThreadFrames)
    (request : Request Ref Item) (operation : Op) (r : Reply Ref Item) (begun : List ThreadFrames)
    → Asks o m threads t fs request → ActsBeside o m m' es t request operation r → Begins o m' operation begun
    → RunsAsPlain o m' (answered_threads o.launch threads t fs r begun)
acts-answer may law o m es threads run plain m' t fs request operation r begun asks a begins =
    let came = may o t m _ es _ run (acted m' request operation r a) None in
    let before = ready law o m m' es threads run.world.launched plain t fs request operation r asks a.does
    came in
    answers law o m m' es threads run.world.launched plain t fs request operation r asks a.does came
    (left_by operation (doing_of m t)) (left-ready operation (doing_of m t) before) a.doing begun begins

-- ---- durable stores

pub stores-leave : ActsMayCome → ActsGoOn →
    (o : Opening) (m : Machine) (es : List Entry) (threads : List ThreadFrames)
    → KeepsRun o m es → RunsAsPlain o m threads → (m' : Machine) (t : ℕ) (fs : ThreadFrames)
    (request : Request Ref Item) (place : Place) (item : Item) → Asks o m threads t fs request
    → StoresDurably o m m' es t request place item → RunsAsPlain o m' threads
stores-leave may law o m es threads run plain m' t fs request place item asks s =
    let operation = op.Stored place (value_in m item) in
    let came = may o t m _ es _ run (stored m' request place item s) None in
    let lt = lives law o m m' es threads run.world.launched plain t fs request operation reply.Done asks
    s.does came in
    let all = run.asked.threads in
    let few = s.does.thread in
    let inside : t < length m.doing = omega (arith, all, few) in
    let frames = frames-set o.launch m.doing threads t (Writing _) fs inside asks.frames
    ∙ sym (append-nil (slice_set (all_acted o.launch m.doing threads) t (stored_frames o.launch fs)))
    in record {
      stands = subst (StandsFor o.launch m'.acts (shown_in m') m'.rest)
          (sym (ap (λ ds. all_acted o.launch ds threads) s.doing ∙ frames))
          (acted-stands law o m m' es threads run.world.launched plain t fs request operation reply.Done asks
          s.does came [] refl);
      begun = λ u past. ap (λ ds. slice_index_or ds u Nothing) s.doing
          ∙ begun-still o m threads plain t (Writing _) lt u past;
    }
