-- The frames of a first machine are those of the plain one before its first act.
use Rattle.std.proofs.Common.{◌≡◌, ℕ, List, [], ◌∷◌, map, length, Option, Some, None, refl, ap, sym, ◌∙◌, subst, arith}
use Rattle.std.specs.Prelude.{unwrap_or}
use Rattle.ap_base.specs.declared.reference.Ref.{Ref}
use Rattle.ap_base.specs.declared.reference.Ref.TheVariants.{Null as NoRef, Persistent, Volatile}
use Rattle.graph_model.specs.declared.types.Value.{Value}
use Rattle.graph_model.specs.declared.types.Value.TheVariants as value
use Rattle.run_history.specs.Recorded.{Recorded}
use Rattle.plain_model.specs.First.{first_heap, arguments_number}
use Rattle.frames.specs.Turns.{begun_main}
use Rattle.plain_frames.specs.Codes.{code_of}
use Rattle.plain_frames.specs.Coded.{plain_reference}
use Rattle.shared_objects.specs.Shown.{Shown}
use Rattle.run_forms.specs.Views.{ThreadFrames, PlainFrames, numbered, plain_frames}
use Rattle.run_forms.specs.Standing.{HasLiterals, StandsFor, frames_at}
use Rattle.twin_forms.specs.Table.{Entry}
use Rattle.two_spaces.specs.Seen.{number_in}
use Rattle.machine_laws.specs.Passed.{Doing}
use Rattle.machine_laws.specs.Passed.{Opening, Machine, shown_in}
use Rattle.machine_laws.specs.Frames.{RunsAsPlain, all_acted}
use Rattle.launch_laws.specs.First.{IsFirstMachine, BeginsMain}
use Rattle.launch_laws.proofs.Stops.{all_idle}
use Rattle.launch_laws.proofs.Worlds.{world_is, no_monitors}

module _ (o : Opening) (lines : List ℕ) (m : Machine) (es : List Entry) (first : IsFirstMachine o lines m es)
    (frames : ThreadFrames) (begins : BeginsMain o m frames) where
  abbrev shows : Shown
  shows = shown_in m

  -- the number of a reference's object is the plain machine's reference
  plain_is : (r : Ref) (n : ℕ) → shows.number r ≡ Some n
      → plain_reference (numbered shows) r ≡ value.Obj n
  unfolding number_in
  plain_is NoRef n e = absurd (let no : ◌≡◌ {A = Option ℕ} None (Some n) = e in cc)
  plain_is (Persistent line) n e =
      ap (λ (x : Option ℕ). value.Obj (unwrap_or x (length shows.objects))) e
  plain_is (Volatile at) n e =
      ap (λ (x : Option ℕ). value.Obj (unwrap_or x (length shows.objects))) e

  plain_begun : ◌≡◌ {A = List PlainFrames}
      (begun_main o.launch.main o.launch.method
      (value.Obj (arguments_number o.launch.set o.launch.opening)) ∷ [])
      (map (plain_frames shows) (begun_main o.launch.main o.launch.method begins.arguments ∷ []))
  plain_begun =
      let begun : Value → List PlainFrames = λ x. begun_main o.launch.main o.launch.method x ∷ [] in
      ap begun (sym (plain_is begins.arguments (arguments_number o.launch.set o.launch.opening)
      begins.stand_for.arguments_is))

  frames_are : frames_at o.launch [] ≡ map (plain_frames shows) (frames ∷ [])
  unfolding code_of
  frames_are =
      plain_begun ∙ ap (λ (fs : ThreadFrames). map (plain_frames shows) (fs ∷ [])) (sym begins.begun)

  has_literals : HasLiterals o.launch shows
  has_literals k lt =
      let long = begins.stand_for.long in
      ap (λ (r : Ref). shows.number r) (begins.given k lt)
      ∙ begins.stand_for.literals_are k (omega (arith, lt, long))

  stands_first : StandsFor o.launch [] shows m.rest (frames ∷ [])
  unfolding number_in
  stands_first = record {
    run = tt;
    roots = (first_heap o.launch.set o.launch.opening).roots;
    world = world_is o lines m es first;
    frames = frames_are;
    monitors = no_monitors o lines m es first;
    literals = has_literals;
    null = refl;
  }

  stands : StandsFor o.launch m.acts shows m.rest (all_acted o.launch m.doing (frames ∷ []))
  stands = subst (λ (acts : List Recorded). StandsFor o.launch acts shows m.rest
      (all_acted o.launch m.doing (frames ∷ []))) (sym first.acts)
      (subst (λ (ds : List Doing). StandsFor o.launch [] shows m.rest (all_acted o.launch ds (frames ∷ [])))
      (sym first.doing) stands_first)

  pub runs_as_plain : RunsAsPlain o m (frames ∷ [])
  runs_as_plain = record { stands = stands; begun = λ t past. all_idle o lines m es first t }
