-- A list in which one entry comes before some others, each of which moves up by one in turn.
use Rattle.std.proofs.Common.{◌≡◌, ℕ, ◌<◌, ◌+◌, ◌∙◌, ap, Some, List, [], ◌∷◌, ◌++◌, length, take, drop, append_assoc, arith}
use Rattle.std.proofs.Common.{length-set, slice_get, slice_set, insert}
use Rattle.std.proofs.lemmas.List.{take_more_set, drop-set-lt, drop_more}
use Rattle.std.proofs.lemmas.Option.{get_or_from_slice_get}

-- the entries before i are as they will be, and the carried one comes before the others
pub record Carries {T : Type 0} (old now : List T) (at i : ℕ) (value carried : T) : Type 0 where
  pub long : length now ≡ length old
  pub rest : insert old at value ≡ take i now ++ carried ∷ drop i now

pub carries-more : {T : Type 0} → (old now : List T) (at i : ℕ) (value carried next : T) →
    Carries old now at i value carried → i < length now → slice_get now i ≡ Some next →
    Carries old (slice_set now i carried) at (i + 1) value next
carries-more old now at i value carried next c lt h =
    let t : take (i + 1) (slice_set now i carried) ≡ take i now ++ carried ∷ [] =
    take_more_set now i carried lt in
    let d : drop (i + 1) (slice_set now i carried) ≡ drop (i + 1) now =
    drop-set-lt (i + 1) now i carried (omega arith) in
    let e : drop i now ≡ next ∷ drop (i + 1) now =
    drop_more now i next lt ∙ ap (λ x. x ∷ drop (i + 1) now) (get_or_from_slice_get now i next next h) in
    let moved : take i now ++ carried ∷ next ∷ drop (i + 1) now
    ≡ take (i + 1) (slice_set now i carried) ++ next ∷ drop (i + 1) (slice_set now i carried) =
    simp (t, d, append_assoc) in
    record {
      long = length-set now i carried ∙ c.long;
      rest = c.rest ∙ ap (λ x. take i now ++ carried ∷ x) e ∙ moved;
    }
