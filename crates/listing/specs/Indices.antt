-- The index of each entry of a constant pool, as a map from its bytes.
use Rattle.std.specs.Prelude.{◌≡◌, ℕ, List, Vec}
use Rattle.std.specs.declared.alloc.Global.{Global}
use Rattle.std.specs.HashMap.{HashMap, get_by}
use Rattle.std.specs.Str.{bytes_eq}
use Rattle.listing.specs.Pool.{Entries, index_from}

abbrev pub Map : Type 0 → Type 0
Map S = HashMap (Vec ℕ Global) ℕ S

-- of the entries, and of no others
abbrev pub AreIndices : {S : Type 0} → Entries → Map S → Type 0
AreIndices entries indices = (text : List ℕ)
    → get_by (λ k. bytes_eq text k.items) indices ≡ index_from 1 entries text
