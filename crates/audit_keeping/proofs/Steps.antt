-- The decision of a whole act by what code keeps.
use Rattle.std.proofs.Common.{◌≡◌, ◌↔◌, ◌≤◌, ℕ, Bool, true, false, not, List, [], Option, sym, subst, arith}
use Rattle.std.specs.Prelude.{nat_lt}
use Rattle.run_history.specs.declared.act.Op.{Op}
use Rattle.run_history.specs.declared.act.Op.TheVariants as op
use Rattle.run_history.specs.Recorded.{Recorded}
use Rattle.run_history.specs.Worlds.{depth_of, fits}
use Rattle.run_history.specs.Knowing.{Knowledge, known_after, owes_fence}
use Rattle.run_history.specs.Wanted.{NoWish, WantsAfter}
use Rattle.plain_model.specs.Facts.{SetFacts}
use Rattle.plain_model.specs.Requests.{PlainRequest}
use Rattle.plain_model.specs.Codes.{is_persistent}
use Rattle.plain_model.specs.Runs.{op_given, IsAbout, MayAct}
use Rattle.audit_keeping.specs.declared.keeping.Keeping.{Keeping}
use Rattle.audit_rules.specs.Rules.{act_test}
use Rattle.audit_keeping.specs.Keeping.{wanted_in, IsOther, act_test_in, join_test_in}
use Rattle.audit_keeping.specs.Steps.{IsStanding}
use Rattle.audit_rules.proofs.Acts.{acts-exact}
use Rattle.audit_keeping.proofs.Kept.{acts-tested, joined-tested}
use Rattle.audit_keeping.proofs.Wanting.{are-wanted}

module _ (set : SetFacts) (first : Knowledge) (acts : List Recorded) (request : Option PlainRequest) (k : Keeping) where
  abbrev known : Knowledge
  known = known_after first acts

  abbrev MayBe : Recorded → Type 0
  MayBe a = MayAct set known (WantsAfter first NoWish acts) request a

  pub acts-decided : (about : Bool) (t at : ℕ) (o : Op) → IsStanding first acts k
      → (is_persistent o ≡ false → (about ≡ true) ↔ IsAbout set known request t o)
      → (is_persistent o ≡ false → about ≡ true → fits known.world.heap o ≡ true)
      → IsOther o → known.at ≤ at
      → (act_test_in k (op_given set known.world t 1 request) about t (depth_of known.world t) o ≡ true)
      ↔ MayBe (record { act = record { thread = t; at = at; op = o }; named = [] })
  acts-decided about t at o s told fitting other later =
      let a : Recorded = record { act = record { thread = t; at = at; op = o }; named = [] } in
      subst (λ b. (b ≡ true) ↔ MayBe a) (sym (acts-tested known k s.keeps (op_given set known.world t 1 request) about t at o other later))
      (acts-exact set known request (wanted_in k.asked.items) (WantsAfter first NoWish acts) about a (are-wanted first acts k s) s.closed s.there told fitting)

  not-before : (at : ℕ) → known.at ≤ at → not (nat_lt at known.at) ≡ true
  not-before at later = grind (arith, later)

  pub joined-decided : (t at : ℕ) (named : List ℕ) → IsStanding first acts k → owes_fence known.unfenced t ≡ false → known.at ≤ at
      → (join_test_in known.world.heap k named ≡ true) ↔ MayBe (record { act = record { thread = t; at = at; op = op.Joined }; named = named })
  joined-decided t at named s owes later =
      let a : Recorded = record { act = record { thread = t; at = at; op = op.Joined }; named = named } in
      let ahead = op_given set known.world t 1 request in
      let test : act_test known ahead (wanted_in k.asked.items) false a ≡ join_test_in known.world.heap k named =
      rw (not-before at later, owes) (sym (joined-tested known k named s.keeps)) in
      subst (λ b. (b ≡ true) ↔ MayBe a) test
      (acts-exact set known request (wanted_in k.asked.items) (WantsAfter first NoWish acts) false a (are-wanted first acts k s) s.closed s.there
      (λ e. absurd (let none : true ≡ false = e in cc)) (λ e. absurd (let none : true ≡ false = e in cc)))
