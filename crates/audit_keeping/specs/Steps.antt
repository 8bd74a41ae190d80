-- The decision of a whole act by what code keeps.
use Rattle.std.specs.Prelude.{◌≡◌, ◌↔◌, ◌≤◌, ℕ, Bool, true, false, List, [], length, Option}
use Rattle.run_history.specs.declared.act.Op.{Op}
use Rattle.run_history.specs.declared.act.Op.TheVariants as op
use Rattle.run_history.specs.Recorded.{Recorded}
use Rattle.run_history.specs.Worlds.{depth_of, fits}
use Rattle.run_history.specs.Knowing.{Knowledge, known_after, owes_fence}
use Rattle.run_history.specs.Wanted.{NoWish, WantsAfter, IsClosed}
use Rattle.plain_model.specs.Facts.{SetFacts}
use Rattle.plain_model.specs.Requests.{PlainRequest}
use Rattle.plain_model.specs.Codes.{is_persistent}
use Rattle.plain_model.specs.Runs.{op_given, IsAbout, MayAct}
use Rattle.audit_keeping.specs.declared.keeping.Keeping.{Keeping}
use Rattle.audit_rules.specs.Closing.{AreThere}
use Rattle.audit_keeping.specs.Wishing.{AreWishes}
use Rattle.audit_keeping.specs.Keeping.{Keeps, lists_of, IsOther, act_test_in, join_test_in}

-- what is kept stands for what is known and wanted after these acts, all of which keep what is durable closed
pub record IsStanding (first : Knowledge) (acts : List Recorded) (k : Keeping) : Type 0 where
  pub keeps : Keeps (known_after first acts) (lists_of k)
  pub wishes : AreWishes (known_after first acts) (WantsAfter first NoWish acts) k.asked.items
  pub closed : IsClosed (known_after first acts)
  pub there : AreThere (known_after first acts)
  pub long : length k.durable.items ≡ length (known_after first acts).world.heap.objects

-- An act that isn't Joined passes the test of what is kept exactly where it may come next.
abbrev pub ActsAreDecided : Type 0
ActsAreDecided = (set : SetFacts) (first : Knowledge) (acts : List Recorded) (request : Option PlainRequest) (k : Keeping) (about : Bool) (t at : ℕ) (o : Op)
    → let known = known_after first acts in IsStanding first acts k
    → (is_persistent o ≡ false → (about ≡ true) ↔ IsAbout set known request t o)
    → (is_persistent o ≡ false → about ≡ true → fits known.world.heap o ≡ true)
    → IsOther o → known.at ≤ at
    → (act_test_in k (op_given set known.world t 1 request) about t (depth_of known.world t) o ≡ true)
    ↔ MayAct set known (WantsAfter first NoWish acts) request (record { act = record { thread = t; at = at; op = o }; named = [] })

-- So does a Joined act, of a thread that owes no fence.
abbrev pub JoinedIsDecided : Type 0
JoinedIsDecided = (set : SetFacts) (first : Knowledge) (acts : List Recorded) (request : Option PlainRequest) (k : Keeping) (t at : ℕ) (named : List ℕ)
    → let known = known_after first acts in IsStanding first acts k → owes_fence known.unfenced t ≡ false → known.at ≤ at
    → (join_test_in known.world.heap k named ≡ true)
    ↔ MayAct set known (WantsAfter first NoWish acts) request (record { act = record { thread = t; at = at; op = op.Joined }; named = named })
