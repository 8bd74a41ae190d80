-- How runs of two threads end.
use Rattle.std.proofs.Common.{◌≡◌, ℕ, ◌<◌, Bool, true, false, List, [], ◌∷◌, ◌++◌, refl, inl, inr, arith, lit<}
use Rattle.std.specs.Prelude.{◌≢◌, Option, Some, None, All, AllPairs, Contains}
use Rattle.std.proofs.lemmas.List.Elements.{All-nil, All-cons, All-head}
use Rattle.run_types.specs.declared.fault.RunFault.{RunFault}
use Rattle.run_types.specs.declared.fault.Which.TheVariants as which
use Rattle.natives.specs.declared.requests.Request.TheVariants as ask
use Rattle.run_history.specs.Knowing.{known_after_op}
use Rattle.run_history.specs.Worlds.{Thread}
use Rattle.plain_model.specs.First.{first_world, first_heap}
use Rattle.plain_model.specs.Requests.{PlainRequest}
use Rattle.plain_model.specs.Steps.{step}
use Rattle.plain_model.specs.Codes.{frames_after_op}
use Rattle.run_history.specs.Recorded.{Recorded}
use Rattle.plain_model.specs.Runs.{known_of, wants_of}
use Rattle.plain_model.specs.Ends.{full, IsTaken}
use Rattle.plain_model.specs.StepWorld.{boxes, main_class, runtime_exception}
use Rattle.plain_model.specs.StepWorld.{here as asked_here}
use Rattle.graph_model.specs.Reach.{here}
use Rattle.plain_model.specs.RunRows.{two_boxes, both, started, puts_worker, asks_worker}
use Rattle.plain_model.specs.EndRows.{RegionsRace, ThreadsAreStuck, RunsFill, LinesAreWanted, CausesAreInOrder, FencesComeFirst}
use Rattle.plain_model.specs.EndRows.{FaultsCome, ThreadsEnd}
use Rattle.plain_model.specs.EndRows.{LinesHoldEightWords, LogsFill}

pub regions_race : RegionsRace
unfolding first_world first_heap known_after_op frames_after_op step
regions_race = record { races = inl refl; in_own_region = inl refl; own_place = refl }

pub threads_are_stuck : ThreadsAreStuck
unfolding first_world first_heap known_after_op frames_after_op step
threads_are_stuck = record { crosswise = inl refl; one_waits = refl; none_waits = refl; joining = inl refl }

pub runs_fill : RunsFill
unfolding first_world first_heap known_after_op frames_after_op step
runs_fill = record { history = inl refl; one_act_left = refl; heap = inl refl; enough_words = refl }

pub lines_hold_eight_words : LinesHoldEightWords
lines_hold_eight_words = record { lines = refl }

pub logs_fill : LogsFill
unfolding first_world first_heap known_after_op frames_after_op step
logs_fill = record { volatile = refl; durable = refl; one_left = refl }

distinct : (n : ℕ) → AllPairs (λ m k. m ≢ k) (n ∷ [])
distinct n i j d before below = absurd (omega (arith, before, below))

pub lines_are_wanted : LinesAreWanted
unfolding first_world first_heap known_after_op frames_after_op step
lines_are_wanted = record {
  converts = inr (
    refl,
    record {
      converts = refl;
      claimed = [];
      refused = 4;
      wanted = here 4 (inl refl);
      once = distinct 4;
      taken = All-cons Taken 4 [] (lit< tt, inr (0, here 4 (inl refl))) (All-nil Taken);
      joined = All-nil Claimed;
      more = lit< tt;
      names = refl;
    },
  );
  another = λ comes. elim comes [
    | inl is ↦ (let no : ◌≡◌ {A = Option RunFault} None (Some (full which.ImageLines 1 0)) = is in cc)
    | inr other ↦ (let no : false ≡ true = other.1.converts in cc)
  ];
}
  where
    acts : List Recorded
    acts = started ++ asks_worker ∷ []

    Taken : ℕ → Type 0
    Taken n = IsTaken two_boxes (known_of boxes main_class two_boxes (both (puts_worker ∷ []) []) acts)
        (wants_of boxes main_class two_boxes (both (puts_worker ∷ []) []) acts) n

    Claimed : ℕ → Type 0
    Claimed n = Contains [] n

pub causes_are_in_order : CausesAreInOrder
unfolding first_world first_heap known_after_op frames_after_op step
causes_are_in_order = record {
  operand = inl refl;
  turn = inl refl;
  sink = λ comes.
      let no : ◌≡◌ {A = Option RunFault} (Some (full which.Acts 1 0)) None = comes.1 in cc;
  image = λ comes. let no : 0 < 0 = comes.1 in absurd (omega arith);
  race = inl refl;
}

pub fences_come_first : FencesComeFirst
unfolding first_world first_heap known_after_op frames_after_op step
fences_come_first = record {
  owed = refl;
  fenced = inl refl;
  full = inl refl;
  sink = λ comes. let no : true ≡ false = comes.2 in cc;
  not_stuck = refl;
  stuck = inl refl;
}

pub faults_come : FaultsCome
unfolding first_world first_heap known_after_op frames_after_op step
faults_come = record {
  wrong = inl refl;
  broken = inl refl;
  sink = ((asked_here, 55 ∷ [], refl), refl, refl);
  no_print = λ comes.
      let (from, piece, is) = comes.0 in
      let no : ◌≡◌ {A = Option PlainRequest} (Some (ask.Leave None)) (Some (ask.Print from piece)) = is in cc;
  image = (refl, lit< tt);
  no_thread = λ comes. let no : false ≡ true = comes.0 in cc;
}

abbrev HasEnded : Thread → Type 0
HasEnded thread = thread.ended ≡ true

-- a thread that ended, or hasn't
abbrev of_end : Option ℕ → Bool → Option ℕ → Thread
of_end object ended uncaught = record { object = object; depth = 0; ended = ended; uncaught = uncaught }

two_ended : (one other : Thread) → one.ended ≡ true → other.ended ≡ true → All HasEnded (one ∷ other ∷ [])
two_ended one other first second =
    All-cons HasEnded one (other ∷ []) first (All-cons HasEnded other [] second (All-nil HasEnded))

pub threads_end : ThreadsEnd
unfolding first_world first_heap known_after_op frames_after_op step
threads_end = record {
  uncaught = (
    two_ended (of_end None true None) (of_end (Some 4) true (Some runtime_exception)) refl refl,
    refl,
  );
  least = (
    two_ended (of_end None true (Some main_class)) (of_end (Some 4) true (Some runtime_exception)) refl refl,
    refl,
  );
  one_lives = λ ended.
      let no : false ≡ true = All-head HasEnded (of_end None false None) (of_end (Some 4) true None
      ∷ []) ended.0 in cc;
}
