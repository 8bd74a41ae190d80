-- Queues as chains of entries: each entry names the next one of its chain. Entries of no queue are in a chain of their own.
use Rattle.std.specs.Prelude.{◌≡◌, ℕ, zero, suc, ◌+◌, ◌<◌, ◌≤◌, ◌^◌, nat_eq, List, [], ◌∷◌, length, sum_by, get_or}
use Rattle.std.specs.Prelude.{slice_set as set, if◌then◌else◌}
use Rattle.convert_queue.specs.declared.queue_lists.Entry.{Entry}
use Rattle.convert_queue.specs.declared.queue_lists.Chain.{Chain}

abbrev pub no_entry : Entry
no_entry = record { object = 0; line = 0; next = 0 }

abbrev pub next_in : List Entry → ℕ → ℕ
next_in entries i = (get_or entries i no_entry).next

abbrev pub queued_in : List Entry → ℕ → ℕ × ℕ
queued_in entries i = ((get_or entries i no_entry).object, (get_or entries i no_entry).line)

-- the entry n steps behind one
abbrev pub nth_from : (ℕ → ℕ) → ℕ → ℕ → ℕ
nth_from next zero i = i
nth_from next (suc n) i = nth_from next n (next i)

-- what n entries hold, from one on
abbrev pub walk : List Entry → ℕ → ℕ → List (ℕ × ℕ)
walk entries zero i = []
walk entries (suc n) i = queued_in entries i ∷ walk entries n (next_in entries i)

abbrev pub queue_from : List Entry → Chain → List (ℕ × ℕ)
queue_from entries chain = walk entries chain.count chain.first

-- what the queues are, and how many objects they can hold in all
pub record Lists : Type 0 where
  pub queues : List (List (ℕ × ℕ))
  pub size : ℕ

-- the chain of a thread; that of the free entries is number 64
abbrev pub chain_at : List Chain → Chain → ℕ → Chain
chain_at chains free c = get_or chains c free

-- the n-th entry of a chain
abbrev pub entry_of : (ℕ → ℕ) → (ℕ → Chain) → ℕ → ℕ → ℕ
entry_of next chain c n = nth_from next n (chain c).first

-- No entry stands twice. Each chain knows its last entry, and the one at its place.
pub record AreChains (next : ℕ → ℕ) (chain : ℕ → Chain) (size : ℕ) : Type 0 where
  pub within : (c n : ℕ) → c ≤ 64 → n < (chain c).count → entry_of next chain c n < size
  pub apart : (c d n m : ℕ) → c ≤ 64 → d ≤ 64 → n < (chain c).count → m < (chain d).count
      → entry_of next chain c n ≡ entry_of next chain d m → (c ≡ d) × (n ≡ m)
  pub ends : (c n : ℕ) → c < 64 → (chain c).count ≡ suc n → (chain c).last ≡ entry_of next chain c n
  pub stands : (c : ℕ) → c < 64 → (chain c).at < (chain c).count
      → (chain c).cursor ≡ entry_of next chain c (chain c).at

pub record AreLists (entries : List Entry) (chains : List Chain) (free : Chain) : Type 0 where
  pub threads : length chains ≡ 64
  pub few : length entries < 2 ^ 32
  pub total : sum_by (λ (chain : Chain). chain.count) chains + free.count ≡ length entries
  pub apart : AreChains (next_in entries) (chain_at chains free) (length entries)

-- a chain with one entry more, and one without its first entry
abbrev pub longer : Chain → ℕ → Chain
longer chain entry = record {
  first = if nat_eq chain.count 0 then entry else chain.first;
  last = entry;
  count = chain.count + 1;
  at = chain.at;
  cursor = if nat_eq chain.at chain.count then entry else chain.cursor;
}

-- the last entry of a chain that isn't empty has another next one
abbrev pub linked : List Entry → Chain → ℕ → List Entry
linked entries chain next =
    if nat_eq chain.count 0 then entries
    else set entries chain.last (record (get_or entries chain.last no_entry) { next = next })
