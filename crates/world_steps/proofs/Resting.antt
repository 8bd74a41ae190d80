-- Threads and regions: what they come to.
use Rattle.std.proofs.Common.{◌≡◌, ℕ, ◌<◌, ◌≤◌, ◌↔◌, inl, inr, is_some, Bool, true, false, nat_lt, List, [], ◌∷◌, ◌++◌, map}
use Rattle.std.proofs.Common.{length, Option, Some, None, if◌then◌else◌, refl, ap, ◌∙◌, sym, subst, arith, rules}
use Rattle.std.proofs.lemmas.Bool.{cases_lt, false≢true}
use Rattle.std.proofs.lemmas.List.{length-map, map-append}
use Rattle.run_types.specs.declared.resolved.At.{At}
use Rattle.run_types.specs.declared.wait.On.TheVariants as on
use Rattle.run_types.specs.declared.fault.Full.{Full}
use Rattle.run_types.specs.declared.fault.StepFault.TheVariants as fault
use Rattle.graph_model.specs.declared.types.Root.{Root}
use Rattle.natives.specs.declared.requests.Request.TheVariants as ask
use Rattle.natives.specs.declared.requests.Reply.TheVariants as reply
use Rattle.run_history.specs.declared.act.Op.TheVariants as op
use Rattle.run_history.specs.Worlds.{Thread, World}
use Rattle.plain_model.specs.Facts.{SetFacts}
use Rattle.plain_model.specs.Limits.{threads_left}
use Rattle.plain_model.specs.Steps.{Step, Does, Waits, IsOver, step, starts_thread}
use Rattle.shared_objects.specs.declared.rest.Rest.{Rest}
use Rattle.shared_objects.specs.declared.threads.ThreadState.{ThreadState}
use Rattle.shared_objects.specs.Shown.{Shown}
use Rattle.shared_objects.specs.Threads.{ThreadsFull, at_state, deepened, raised, ended, new_state, started_from}
use Rattle.shared_objects.specs.Worlds.{plain_thread, world_of, KnowsMonitors, HasCounts}
use Rattle.step_forms.specs.declared.stepped.Stepped.TheVariants as stepped
use Rattle.step_forms.specs.Follows.{Goes}
use Rattle.step_forms.proofs.Going.{did_goes, over_goes, waits_goes}
use Rattle.world_steps.specs.Rests.{awaited}
use Rattle.world_steps.proofs.Running.{deepened_plain, raised_plain, ended_plain, plain_started}
use Rattle.world_steps.proofs.Worldly.{step_begin, step_leave}

module _ (t : ℕ) (shown : Shown) (rest : Rest) (known : KnowsMonitors shown rest) where
  abbrev world_with : List Root → List Thread → World
  world_with roots threads = record (world_of roots shown rest) { threads = threads }

  pub begin_goes : (set : SetFacts) (from : At) (now : List ThreadState) → HasCounts rest
      → now ≡ at_state deepened rest.threads t
      → Goes (λ roots taken. step set (world_of roots shown rest) t taken (ask.Begin from)) t shown rest
      (stepped.Did op.Begin reply.Done) shown (record rest { threads = now })
  begin_goes set from now counts is = did_goes op.Begin reply.Done (λ roots. step_begin set (world_of roots
      shown rest) t 1 from) tt refl tt
      (λ roots. ap (λ ss. world_with roots (map plain_thread ss)) is
      ∙ ap (world_with roots) (deepened_plain rest.threads t counts.threads)) known

  pub end_goes : {p : List Root → ℕ → Step} → ((roots : List Root) → p roots 1 ≡ Does op.End reply.Done)
      → (now : List ThreadState) → now ≡ at_state raised rest.threads t
      → Goes p t shown rest (stepped.Did op.End reply.Done) shown (record rest { threads = now })
  end_goes same now is = did_goes op.End reply.Done same tt refl tt
      (λ roots. ap (λ ss. world_with roots (map plain_thread ss)) is
      ∙ ap (world_with roots) (raised_plain rest.threads t)) known

  pub leave_goes : (set : SetFacts) (uncaught : Option ℕ) (now : List ThreadState)
      → now ≡ at_state (ended uncaught) rest.threads t
      → Goes (λ roots taken. step set (world_of roots shown rest) t taken (ask.Leave uncaught)) t shown rest
      (stepped.Did (op.Ended uncaught) reply.Done) shown (record rest { threads = now })
  leave_goes set uncaught now is = did_goes (op.Ended uncaught) reply.Done
      (λ roots. step_leave set (world_of roots shown rest) t 1 (record { class = 0; method = 0; pc = 0 })
      uncaught) tt refl tt
      (λ roots. ap (λ ss. world_with roots (map plain_thread ss)) is
      ∙ ap (world_with roots) (ended_plain uncaught rest.threads t)) known

  -- ---- starts

  plain_count : length (map plain_thread rest.threads) ≡ length rest.threads
  plain_count = length-map rest.threads plain_thread

  pub start_goes : (set : SetFacts) (n child : ℕ) (now : List ThreadState)
      → started_from 0 rest.threads n ≡ None
      → length rest.threads < 64 → child ≡ length rest.threads → now ≡ rest.threads ++ new_state (Some n) ∷ []
      → Goes (λ roots taken. starts_thread set (world_of roots shown rest) n (plain_started (started_from 0
      rest.threads n))) t shown rest
      (stepped.Did (op.Start n child) reply.Done) shown (record rest { threads = now })
  start_goes set n child now none few number is = did_goes (op.Start n child) reply.Done
      (λ roots.
      let room : nat_lt (length (map plain_thread rest.threads)) 64 ≡ true =
      (let few' : length (map plain_thread rest.threads) < 64 = omega (arith, few, plain_count) in search
      (rules, few')) in
      ap (λ o. starts_thread set (world_of roots shown rest) n (plain_started o)) none
      ∙ ap (λ b. if b then Does (op.Start n (length (map plain_thread rest.threads))) reply.Done
      else IsOver (fault.Full (record {
        which = ThreadsFull.which;
        need = 1;
        left = threads_left (map
            plain_thread rest.threads);
      }))) room
      ∙ ap (λ c. Does (op.Start n c) reply.Done) (plain_count ∙ sym number)) tt refl tt
      (λ roots. ap (λ ss. world_with roots (map plain_thread ss)) is
      ∙ ap (world_with roots) (map-append plain_thread rest.threads (new_state (Some n) ∷ []))) known

  pub start_full : (set : SetFacts) (n : ℕ) (full : Full) (now : List ThreadState)
      → started_from 0 rest.threads n ≡ None
      → 64 ≤ length rest.threads → full ≡ ThreadsFull → now ≡ rest.threads
      → Goes (λ roots taken. starts_thread set (world_of roots shown rest) n (plain_started (started_from 0
      rest.threads n))) t shown rest
      (stepped.Over (fault.Full full)) shown (record rest { threads = now })
  start_full set n full now none many is same =
      subst (λ ss. Goes (λ roots taken. starts_thread set (world_of roots shown rest) n (plain_started
      (started_from 0 rest.threads n))) t shown rest
      (stepped.Over (fault.Full full)) shown (record rest { threads = ss })) (sym same)
      (over_goes (fault.Full full) (λ roots taken.
      let room : nat_lt (length (map plain_thread rest.threads)) 64 ≡ false =
      (let many' : 64 ≤ length (map plain_thread rest.threads) = omega (arith, many, plain_count) in search
      (rules, many')) in
      let none_left : threads_left (map plain_thread rest.threads) ≡ 0 = omega (arith, many, plain_count) in
      ap (λ o. starts_thread set (world_of roots shown rest) n (plain_started o)) none
      ∙ ap (λ b. if b then Does (op.Start n (length (map plain_thread rest.threads))) reply.Done
      else IsOver (fault.Full (record {
        which = ThreadsFull.which;
        need = 1;
        left = threads_left (map
            plain_thread rest.threads);
      }))) room
      ∙ ap (λ l. IsOver (fault.Full (record { which = ThreadsFull.which; need = 1; left = l }))) none_left
      ∙ ap (λ f. IsOver (fault.Full f)) (sym is)) known)

-- a start that fails exactly at 64 threads has succeeded
pub room_left : (n : ℕ) → (false ≡ true) ↔ (64 ≤ n) → n < 64
room_left n full = elim (cases_lt n 64) [
  | inl less ↦ less
  | inr more ↦ absurd (false≢true (full.1 more))
]

pub none_of : {X : Type 0} (o : Option X) → is_some o ≡ false → o ≡ None
none_of None e = refl
none_of (Some x) e = absurd (false≢true (sym e))

pub awaited_goes : {p : List Root → ℕ → Step} (t : ℕ) (shown : Shown) (rest : Rest) (n u : ℕ) (b : Bool)
    → KnowsMonitors shown rest
    → ((roots : List Root) (taken : ℕ) → p roots taken ≡ (if b then Does (op.Join n) reply.Done else Waits
    (on.Join u)))
    → Goes p t shown rest (awaited n u b) shown rest
awaited_goes t shown rest n u true known is = did_goes (op.Join n) reply.Done (λ roots. is roots 1) tt refl tt
    (λ roots. refl) known
awaited_goes t shown rest n u false known is = waits_goes (on.Join u) is known
