use Rattle.std.proofs.Common.{◌≡◌, [], ◌∷◌, length, inl, inr}
use Rattle.std.specs.Prelude.{None, Some}
use Rattle.run_history.specs.Knowing.{known_after, next_known}
use Rattle.run_history.specs.Wanted.{NoWish, WantsAfter}
use Rattle.plain_model.specs.First.{first_known}
use Rattle.plain_model.specs.Runs.{first_frames}
use Rattle.plain_model.proofs.Appended.{known_after-append, wants_after-push}
use Rattle.plain_model.proofs.Durable.{below_from_has_number}
use Rattle.plain_model.proofs.Wanted.{durable_was_wanted, wants_now}
use Rattle.plain_model.proofs.Pending.{pending_was_asked}
use Rattle.plain_model.proofs.laws.only_what_was_wanted_becomes_durable.Goals as goal

pub returns-clause-durable : goal.returns-clause-durable
returns-clause-durable g c set main opening code acts n run durable =
    elim (durable_was_wanted set main opening code (first_known set opening) (first_frames set main opening code) NoWish acts n run durable) [
      | inl node ↦ inl (below_from_has_number (length opening.nodes) n node)
      | inr (front, rest, u, is_front, wanted) ↦ inr (record { front = front; rest = rest; is_front = is_front; thread = u; wanted = wanted })
    ]

pub returns-clause-wanted : goal.returns-clause-wanted
returns-clause-wanted g c set main opening code acts a u n wants =
    rw (known_after-append (first_known set opening) acts (a ∷ []))
    (wants_now (next_known (known_after (first_known set opening) acts) a) (WantsAfter (first_known set opening) NoWish acts) u n
    ((wants_after-push (first_known set opening) NoWish acts a u n).0 wants))

pub returns-clause-pending : goal.returns-clause-pending
returns-clause-pending g c set main opening code acts u p is = elim (pending_was_asked (first_known set opening) acts u p is) [
  | inl (first, none) ↦ absurd (let no : None ≡ Some p = first in cc)
  | inr was ↦ was
]
