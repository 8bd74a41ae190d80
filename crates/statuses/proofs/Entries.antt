-- No entry stands past the end of a pool.
use Rattle.std.proofs.Common.{◌≡◌, ℕ, ◌≤◌, [], Option, Some, None, length, ap}
use Rattle.std.proofs.lemmas.List.{get_or_past}
use Rattle.run_types.specs.declared.fault.LinkKind.{LinkKind}
use Rattle.run_types.specs.declared.fault.LinkKind.TheVariants.{MissingClass, MissingField, MissingMethod, StaticMismatch}
use Rattle.run_types.specs.declared.fault.LinkKind.TheVariants.{NoCode, InitFailed}
use Rattle.const_pool.specs.declared.entry.Entry.{Entry}
use Rattle.const_pool.specs.Pool.{Slots, entry_at, class_name_of, member_of}
use Rattle.class_set.specs.ArrayTypes.{class_of_member}
use Rattle.statuses.specs.Names.{entry_text, member_text}

no_member : (pool : Slots) (index : ℕ) → length pool ≤ index → member_text pool (member_of (entry_at pool index)) ≡ []
no_member pool index past = ap (λ (o : Option Entry). member_text pool (member_of o)) (get_or_past pool index None past)

pub none_named : (kind : LinkKind) (pool : Slots) (index : ℕ) → length pool ≤ index → entry_text kind pool index ≡ []
none_named MissingClass pool index past =
    ap (λ (o : Option Entry). elim (class_name_of pool o) [ None ↦ class_of_member pool (member_of o) | Some name ↦ name ])
    (get_or_past pool index None past)
none_named MissingField pool index past = no_member pool index past
none_named MissingMethod pool index past = no_member pool index past
none_named StaticMismatch pool index past = no_member pool index past
none_named NoCode pool index past = no_member pool index past
none_named InitFailed pool index past = no_member pool index past
