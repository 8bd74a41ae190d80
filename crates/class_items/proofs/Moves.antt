-- How far an index leads on, and a field and a number.
use Rattle.std.proofs.Common.{◌≡◌, ℕ, ◌+◌, cond, List, Ok, Err, sym, ap, ◌∙◌}
use Rattle.parsing.specs.Places as places
use Rattle.parsing.specs.Places.{Place}
use Rattle.parsing.proofs.Steps.{bind_ok, where_ok, placed_ok}
use Rattle.parsing.proofs.Fields as fields
use Rattle.const_pool.specs.declared.entry.Tag.{Tag}
use Rattle.const_pool.specs.Pool.{Slots, entry_at, is_tagged}
use Rattle.class_items.specs.declared.refusal.ItemRefusal.TheVariants.{BadIndex}
use Rattle.class_items.specs.Items.{of_cut, field_at, number_at, index_at}

pub field_moves : (n : ℕ) (file : Place) (x : List ℕ × Place) → field_at n file ≡ Ok x → x.1.0 ≡ file.0 + n
field_moves n file x e = fields.field_moves n file x (placed_ok of_cut (places.field_at n file) x e)

pub number_moves : (n : ℕ) (file : Place) (x : ℕ × Place) → number_at n file ≡ Ok x → x.1.0 ≡ file.0 + n
number_moves n file x e = fields.number_moves n file x (placed_ok of_cut (places.number_at n file) x e)

pub index_moves : (pool : Slots) (tag : Tag) (file : Place) (x : ℕ × Place) → index_at pool tag file ≡ Ok x
    → x.1.0 ≡ file.0 + 2
unfolding index_at
index_moves pool tag file x e =
    let a = bind_ok (number_at 2 file) (λ index. cond (is_tagged (entry_at pool index.0) tag) (Ok index) (Err (BadIndex file.0 index.0))) x e in
    let g = where_ok (is_tagged (entry_at pool a.0.0) tag) (BadIndex file.0 a.0.0) a.0 x a.2 in
    ap (λ (y : ℕ × Place). y.1.0) (sym g.1) ∙ number_moves 2 file a.0 a.1
