-- The index of monitors, and the search in it.
use Rattle.std.proofs.Common.{◌≡◌, ◌≢◌, ℕ, suc, ◌<◌, ◌≤◌, false, List, [], ◌∷◌, ◌++◌, length, get_or, replicate, ap, ◌∙◌, sym}
use Rattle.std.proofs.Common.{arith, subst, inl, inr}
use Rattle.std.proofs.lemmas.Bool.{cases_eq, cases_lt, false_from_ne_true}
use Rattle.std.proofs.lemmas.List.{get_or_default, get_or_append_left, get_or_read, get_or-replicate, length-replicate}
use Rattle.monitors.specs.declared.monitor.Monitor.{Monitor}
use Rattle.monitors.specs.Keys.{RefKey, is_key, bucket_of}
use Rattle.monitors.specs.Indexed.{IsIndex, nobody, bucket_at, last_in}
use Rattle.monitors.proofs.Equal.{key_same}
use Rattle.monitors.proofs.Lasts.{last_le, last_is, none_behind, last_same}

pub index_same : (ms ns : List Monitor) (latest earlier : List ℕ) (n : ℕ) → ((i : ℕ) → i < n → bucket_at ms i ≡ bucket_at ns i)
    → IsIndex ms latest earlier n → IsIndex ns latest earlier n
index_same ms ns latest earlier n same x = record {
  buckets = x.buckets;
  places = x.places;
  latest_is = λ b l. x.latest_is b l ∙ last_same (bucket_at ms) (bucket_at ns) b n same;
  earlier_is = λ i l. x.earlier_is i l
      ∙ last_same (bucket_at ms) (bucket_at ns) (bucket_at ms i) i (λ k below. same k (omega (arith, below, l)))
      ∙ ap (λ b. last_in (bucket_at ns) b i) (same i l);
}

pub index_pushed : (ms : List Monitor) (m : Monitor) (latest earlier : List ℕ) → IsIndex ms latest earlier (length ms)
    → IsIndex (ms ++ m ∷ []) latest earlier (length ms)
index_pushed ms m latest earlier x = index_same ms (ms ++ m ∷ []) latest earlier (length ms)
    (λ i l. ap (λ (n : Monitor). bucket_of n.key) (sym (get_or_append_left ms (m ∷ []) nobody i l))) x

-- the search has come to a place: what it looks for isn't behind it
pub record IsSearched (ms : List Monitor) (key : RefKey) (at : ℕ) : Type 0 where
  pub few : at ≤ length ms
  pub none : (d : Monitor) (k : ℕ) → at ≤ k → k < length ms → is_key (get_or ms k d).key key ≡ false
  pub bucket : (p : ℕ) → at ≡ suc p → bucket_at ms p ≡ bucket_of key

not_in_bucket : (ms : List Monitor) (key : RefKey) (k : ℕ) (d : Monitor) → k < length ms → bucket_at ms k ≢ bucket_of key
    → is_key (get_or ms k d).key key ≡ false
not_in_bucket ms key k d l other = false_from_ne_true (is_key (get_or ms k d).key key) (λ e.
    other (ap (λ (m : Monitor). bucket_of m.key) (get_or_default ms k nobody d l) ∙ ap bucket_of (key_same (get_or ms k d).key key e)))

pub searched : (ms : List Monitor) (key : RefKey) (n at : ℕ) → at ≡ last_in (bucket_at ms) (bucket_of key) n → n ≤ length ms
    → ((d : Monitor) (k : ℕ) → n ≤ k → k < length ms → is_key (get_or ms k d).key key ≡ false) → IsSearched ms key at
searched ms key n at is few none =
    let low : at ≤ n = omega (arith, is, last_le (bucket_at ms) (bucket_of key) n) in record {
      few = omega (arith, low, few);
      none = λ d k from l. elim (cases_lt k n) [
        | inl below ↦ not_in_bucket ms key k d l (none_behind (bucket_at ms) (bucket_of key) n k (omega (arith, is, from)) below)
        | inr behind ↦ none d k behind l
      ];
      bucket = λ p e. last_is (bucket_at ms) (bucket_of key) n p (sym is ∙ e);
    }

pub search_begins : (ms : List Monitor) (key : RefKey) (latest earlier : List ℕ) (b at : ℕ) → IsIndex ms latest earlier (length ms)
    → b ≡ bucket_of key → b < 8192 → at ≡ get_or latest b at → IsSearched ms key at
search_begins ms key latest earlier b at x e l read =
    let inside : b < length latest = omega (arith, x.buckets, l) in
    let last : at ≡ last_in (bucket_at ms) b (length ms) = get_or_read latest b at inside read 0 ∙ x.latest_is b l in
    searched ms key (length ms) at (subst (λ b. at ≡ last_in (bucket_at ms) b (length ms)) e last) (omega arith)
    (λ d k from l. absurd (omega (arith, from, l)))

-- the next one of the bucket, where the one at this place has another key
pub search_next : (ms : List Monitor) (key : RefKey) (latest earlier : List ℕ) (at p next : ℕ) (m : Monitor)
    → IsIndex ms latest earlier (length ms) → length ms ≤ 4096 → IsSearched ms key at → at ≡ suc p
    → m ≡ get_or ms p m → is_key m.key key ≡ false → next ≡ get_or earlier p next → (IsSearched ms key next) × (next < at)
search_next ms key latest earlier at p next m x few so e here other read =
    let inside : p < length ms = omega (arith, so.few, e) in
    let place : p < length earlier = omega (arith, inside, few, x.places) in
    let last : next ≡ last_in (bucket_at ms) (bucket_at ms p) p = get_or_read earlier p next place read 0 ∙ x.earlier_is p inside in
    let in_bucket : next ≡ last_in (bucket_at ms) (bucket_of key) p = subst (λ b. next ≡ last_in (bucket_at ms) b p) (so.bucket p e) last in (
      searched ms key p next in_bucket (omega (arith, inside)) (λ d k from l. elim (cases_eq k p) [
        | inl same ↦ rw same (subst (λ (n : Monitor). is_key n.key key ≡ false) (get_or_read ms p m inside here d) other)
        | inr behind ↦ so.none d k (omega (arith, e, from, behind)) l
      ]),
      omega (arith, e, in_bucket, last_le (bucket_at ms) (bucket_of key) p),
    )

pub index_none : (latest earlier : List ℕ) → latest ≡ replicate 8192 0 → earlier ≡ replicate 4096 0 → IsIndex [] latest earlier 0
index_none latest earlier e f = record {
  buckets = ap length e ∙ length-replicate {A = ℕ} 8192 0;
  places = ap length f ∙ length-replicate {A = ℕ} 4096 0;
  latest_is = λ b l. ap (λ items. get_or items b 0) e ∙ get_or-replicate 8192 b 0 0 l;
  earlier_is = λ i l. absurd (omega (arith, l));
}
