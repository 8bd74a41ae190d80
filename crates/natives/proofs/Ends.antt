-- Where nothing is left: no chars, no bytes of a piece, no full piece.
use Rattle.std.proofs.Common.{◌≡◌, refl, ℕ, ◌+◌, ◌<◌, ◌≤◌, max, Bool, true, false, List, [], ◌∷◌, length, drop, ℤ, pos, ◌+ℤ◌}
use Rattle.std.proofs.Common.{int_lt, Option, Some, None, if◌then◌else◌, ap, sym, ◌∙◌, arith}
use Rattle.std.proofs.lemmas.List.{drop_all}
use Rattle.ap_base.specs.declared.reference.Ref.{Ref}
use Rattle.natives.specs.declared.utf8.Poured.{Poured}
use Rattle.natives.specs.declared.positions.Stream.{Stream}
use Rattle.natives.specs.declared.positions.Copying.{Copying}
use Rattle.natives.specs.declared.positions.Reading.{Reading}
use Rattle.natives.specs.declared.positions.Moved.{Moved}
use Rattle.natives.specs.Values.{Values}
use Rattle.natives.specs.Coded.{next_index}
use Rattle.natives.specs.Positions.{pour, copied_to, copies_from, reads_on, with_held, gathers, prints_poured}
use Rattle.natives.proofs.Wholes.{by_bool}

pub copies_end : {R V : Type 0} (x : Values R V) (c : Copying R) → next_index c.at c.end ≡ None
    → copies_from x (record c { at = c.at +ℤ pos 1 }) ≡ copied_to x c.target c.end c.after
copies_end x c none = by_bool (int_lt (c.at +ℤ pos 1) c.end)
    (λ is. let some : Some (c.at +ℤ pos 1) ≡ None = rw is at none in cc)
    (λ is. rw is)

pub all_printed : (m n : ℕ) (piece : List ℕ) → m ≡ max n 1 → (m < length piece → false ≡ true)
    → drop (max 1 n) piece ≡ []
all_printed m n piece e more =
    let no : m < length piece → ⊥ = λ less. (let same : false ≡ true = more less in cc) in
    drop_all (max 1 n) piece (omega arith)

pub poured_none : {R V : Type 0} (x : Values R V) (to : Stream R) (reading : Reading R) (c : ℕ)
    (piece : Option (List ℕ)) (cs : List (List ℕ)) (p : Poured) → p ≡ pour piece cs → p.full ≡ None
    → reads_on x to (with_held x reading c) p.rest ≡ gathers x to (with_held x reading c) piece cs
poured_none x to reading c piece cs p e none = rw (← e) (rw none refl)
