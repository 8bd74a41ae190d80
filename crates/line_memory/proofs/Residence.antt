-- The law for proofs of the crates above that falls when fewer lines are resident than the image has: the cache has
-- room for the whole image.
use Rattle.std.proofs.Common.{ℕ, ◌<◌}
use Rattle.line_memory.specs.Memory.{Memory, IsResident}

pub every_line_is_resident : (m : Memory) (l : ℕ) → l < m.size → IsResident m l
unfolding IsResident
every_line_is_resident m l within = within
