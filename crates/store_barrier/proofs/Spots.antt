-- The word of a durable place, and how a store goes on by it.
use Rattle.std.proofs.Common.{◌≡◌, ◌≢◌, inl, inr, ℕ, ◌+◌, ◌<◌, Bool, true, false, List, Option, Some, None, refl, sym, ◌∙◌, ap}
use Rattle.std.proofs.Common.{subst, arith}
use Rattle.std.specs.Prelude.{IfSome, IsNone, is_none, is_some}
use Rattle.std.proofs.lemmas.Bool.{true≢false}
use Rattle.ap_base.specs.declared.place.Place.{Place}
use Rattle.ap_base.specs.declared.place.Spot.{Spot}
use Rattle.ap_base.specs.declared.reference.Ref.{Ref}
use Rattle.image_layout.specs.Places.{object_word}
use Rattle.object_steps.specs.declared.storing.Store.{Store}
use Rattle.object_steps.specs.declared.storing.Target.{Target}
use Rattle.object_steps.specs.declared.storing.Target.TheVariants as target
use Rattle.object_steps.specs.Stores.{place_of}
use Rattle.region_log.specs.declared.entry.Entry.{Entry}
use Rattle.region_log.specs.declared.entry.Underway.{Underway}
use Rattle.region_log.specs.declared.entry.Underway.TheVariants.{Nothing, Adding, Ending}
use Rattle.region_log.specs.Guarding.{IsAdded, IsGuarded, is_adding}
use Rattle.region_log.specs.Log.{Log, IsLogged, SameWord}
use Rattle.region_log.specs.Readers.{added_entry}
use Rattle.twin_forms.specs.Table.{Entry as Row, entry, HasCopied, InP, line_of}
use Rattle.machine_forms.specs.Passed.{Spaces}
use Rattle.store_barrier.specs.declared.barrier.Barrier.{Barrier}
use Rattle.store_barrier.specs.declared.barrier.Barrier.TheVariants as barrier
use Rattle.store_barrier.specs.Barriers.{IfConverts, IfFollows, IfLogs, IfNoRace, IfRaces, IfStores, IsSpotAt, IsSpotOf}
use Rattle.store_barrier.specs.Regions.{GoesFor, HasLogged, HasWord, IsLineLeft, IsOtherGuard, LacksWord, LogsFirst, Races}
use Rattle.store_barrier.specs.Regions.{log_in}
use Rattle.store_barrier.proofs.Holders.{Held}

-- ---- words

logged_moved : (entries : List Entry) (a b : Spot) → SameWord a b → IsLogged entries a → IsLogged entries b
logged_moved entries a b same (k, e, below, is, here) =
    (k, e, below, is, (here.0 ∙ same.0, here.1 ∙ same.1))

added_moved : (u : Underway) (a b : Spot) → SameWord a b → IsAdded u a → IsAdded u b
added_moved Nothing a b same is = is
added_moved (Adding e stage) a b same is = (is.0 ∙ same.0, is.1 ∙ same.1)
added_moved (Ending stage) a b same is = is

-- who has guarded a word has guarded it at each of its spots
pub moved : (log : Log) (a b : Spot) → SameWord a b → IsGuarded log a → IsGuarded log b
moved log a b same (inl logged) = inl (logged_moved log.entries a b same logged)
moved log a b same (inr added) = inr (added_moved log.underway a b same added)

-- ---- the word of a durable place

-- of a slot of a durable object, whose line has been copied
pub spot_durable : (s : Spaces) (store : Store) (es : List Row) (holder : Ref) (n i : ℕ) (line : Option ℕ)
    (spot : Option Spot) → store.target ≡ target.Slot holder n i → InP es n
    → IfSome line (λ l. HasCopied (entry es n) (line_of i) × (l ≡ (entry es n).line + line_of i))
    → (IsNone line → HasCopied (entry es n) (line_of i) → ⊥)
    → IfSome spot (λ x. (line ≡ Some x.line) × (x.word ≡ object_word i)) → (IsNone spot → IsNone line)
    → IsSpotOf s es (place_of store.target) spot
spot_durable s store es holder n i line None is durable copied none some nothing =
    absurd (none (nothing refl) (inl durable.1))
spot_durable s store es holder n i line (Some x) is durable copied none some nothing =
    subst (λ (y : Target). IsSpotOf s es (place_of y) (Some x)) (sym is) (record {
      some = record {
        durable = durable;
        line = (subst (λ (y : Option ℕ). IfSome y
            (λ l. HasCopied (entry es n) (line_of i) × (l ≡ (entry es n).line + line_of i))) some.0 copied).1;
        word = some.1;
      };
      none = λ no. absurd (true≢false no);
    })

pub spot_other : (s : Spaces) (store : Store) (es : List Row) (holder : Ref) (n i : ℕ)
    → store.target ≡ target.Slot holder n i → (InP es n → ⊥) → IsSpotOf s es (place_of store.target) None
spot_other s store es holder n i is outside =
    subst (λ (x : Target). IsSpotOf s es (place_of x) None) (sym is) (record {
      some = tt;
      none = λ no p. outside p;
    })

-- a copied line lies in the image
line_inside : (s : Spaces) (es : List Row) (holder : Ref) (n i line : ℕ) → Held s es holder n i
    → HasCopied (entry es n) (line_of i) → line ≡ (entry es n).line + line_of i → line < s.twin.memory.size
line_inside s es holder n i line h copied is =
    let placed : 0 < (entry es n).stage =
    elim copied [ inl m ↦ omega (arith, m) | inr p ↦ (let one = p.0 in omega (arith, one)) ] in
    let inside = (h.at.stands.lies.table.copy_in n h.at.below placed).1 in
    let slot = h.slot in
    omega (arith, inside, slot, is)

pub spot_inside : (s : Spaces) (es : List Row) (holder : Ref) (n i : ℕ) (line : Option ℕ) (spot : Option Spot)
    → Held s es holder n i
    → IfSome line (λ l. HasCopied (entry es n) (line_of i) × (l ≡ (entry es n).line + line_of i))
    → IfSome spot (λ x. (line ≡ Some x.line) × (x.word ≡ object_word i))
    → IfSome spot (λ x. x.line < s.twin.memory.size)
spot_inside s es holder n i line None h copied some = tt
spot_inside s es holder n i line (Some x) h copied some =
    let own = subst (λ (y : Option ℕ). IfSome y
    (λ l. HasCopied (entry es n) (line_of i) × (l ≡ (entry es n).line + line_of i))) some.0 copied in
    line_inside s es holder n i x.line h own.0 own.1

-- ---- answers by the word

module _ (s : Spaces) (es : List Row) (logs : List Log) (t : ℕ) (p : Place) where
  spot_at : (o : Option Spot) (x : Spot) → IsSpotOf s es p o → o ≡ Some x → IsSpotAt s es p x
  spot_at o x of is = subst (λ (y : Option Spot). IfSome y (IsSpotAt s es p)) is of.some

  one_word : (x y : Spot) → IsSpotAt s es p x → IsSpotAt s es p y → SameWord x y
  one_word x y a b = (a.line ∙ sym b.line, a.word ∙ sym b.word)

  pub races_for : (o : Option Spot) (other : ℕ) → IsSpotOf s es p o → IsOtherGuard logs t o other
      → Races s es logs t p other
  races_for o other of g = record {
    spot = g.word;
    place = spot_at o g.word of g.is;
    differs = g.differs;
    guards = g.guards;
  }

  pub apart_for : (o : Option Spot) (other : ℕ) → IsSpotOf s es p o → (IsOtherGuard logs t o other → ⊥)
      → Races s es logs t p other → ⊥
  apart_for None other of none r = of.none refl r.place.durable
  apart_for (Some y) other of none r = none (record {
    word = y;
    is = refl;
    differs = r.differs;
    guards = moved (log_in logs other) r.spot y (one_word r.spot y r.place of.some) r.guards;
  })

  pub logs_for : (o : Option Spot) (b : Barrier) → IsSpotOf s es p o → GoesFor logs t o b
      → IfLogs b (LogsFirst s es logs t p)
  logs_for o (barrier.Race other) of g = tt
  logs_for o (barrier.ConvertFirst object) of g = tt
  logs_for o (barrier.LogFirst word) of g =
      record { place = spot_at o word of g.0; is_open = g.1; lacks = g.2 }
  logs_for o (barrier.Store line) of g = tt

  pub whole_for : (o : Option Spot) (b : Barrier) → IsSpotOf s es p o → GoesFor logs t o b
      → IfStores b (λ _. HasLogged s es logs t p)
  whole_for o (barrier.Race other) of g = tt
  whole_for o (barrier.ConvertFirst object) of g = tt
  whole_for o (barrier.LogFirst word) of g = tt
  whole_for None (barrier.Store line) of g = λ spot at is_open. absurd (of.none refl at.durable)
  whole_for (Some y) (barrier.Store line) of g = λ spot at is_open.
      let has = g.1 is_open in record {
        guard = (has.guard.0, moved (log_in logs has.guard.0) y spot (one_word y spot of.some at) has.guard.1);
        whole = has.whole;
      }

  pub line_for : (o : Option Spot) (b : Barrier) → IsSpotOf s es p o → GoesFor logs t o b
      → IfStores b (IsLineLeft s es logs t p)
  line_for o (barrier.Race other) of g = tt
  line_for o (barrier.ConvertFirst object) of g = tt
  line_for o (barrier.LogFirst word) of g = tt
  line_for None (barrier.Store line) of g = record {
    outside = λ _. record { durable = λ d. absurd (of.none refl d); other = λ _. g.0 };
    inside = λ _. g.0;
  }
  line_for (Some y) (barrier.Store line) of g = record {
    outside = λ depth. record {
      durable = λ d. g.0.0 depth ∙ ap (λ l. Some l) of.some.line;
      other = λ no. absurd (no of.some.durable);
    };
    inside = λ is_open. g.0.1 is_open;
  }

-- ---- answers by the word

pub no_race : (logs : List Log) (t : ℕ) (o : Option Spot) (b : Barrier) (P : ℕ → Type 0) → GoesFor logs t o b
    → IfRaces b P
no_race logs t o (barrier.Race other) P g = absurd g
no_race logs t o (barrier.ConvertFirst object) P g = tt
no_race logs t o (barrier.LogFirst word) P g = tt
no_race logs t o (barrier.Store line) P g = tt

pub no_conversion : (logs : List Log) (t : ℕ) (o : Option Spot) (b : Barrier) (P : Ref → Type 0)
    → GoesFor logs t o b → IfConverts b P
no_conversion logs t o (barrier.Race other) P g = tt
no_conversion logs t o (barrier.ConvertFirst object) P g = absurd g
no_conversion logs t o (barrier.LogFirst word) P g = tt
no_conversion logs t o (barrier.Store line) P g = tt

pub if_no_race : (b : Barrier) (P : Type 0) → P → IfNoRace b P
if_no_race (barrier.Race other) P is = tt
if_no_race (barrier.ConvertFirst object) P is = is
if_no_race (barrier.LogFirst word) P is = is
if_no_race (barrier.Store line) P is = is

pub if_follows : (b : Barrier) (P : Type 0) → P → IfFollows b P
if_follows (barrier.Race other) P is = tt
if_follows (barrier.ConvertFirst object) P is = tt
if_follows (barrier.LogFirst word) P is = is
if_follows (barrier.Store line) P is = is

-- ---- who has guarded a word

pub no_word : (logs : List Log) (t other : ℕ) → IsOtherGuard logs t None other → ⊥
no_word logs t other g = let wrong = g.is in cc

same_word : (x y : Spot) → Some x ≡ Some y → x ≡ y
same_word x y e = cc

pub no_guard : (logs : List Log) (t other : ℕ) (spot : Spot) → ((u : ℕ) → IsGuarded (log_in logs u) spot → ⊥)
    → IsOtherGuard logs t (Some spot) other → ⊥
no_guard logs t other spot none g =
    none other (subst (IsGuarded (log_in logs other)) (sym (same_word spot g.word g.is)) g.guards)

pub own_guard : (logs : List Log) (t other : ℕ) (spot : Spot)
    → ((a b : ℕ) → IsGuarded (log_in logs a) spot → IsGuarded (log_in logs b) spot → a ≡ b)
    → IsGuarded (log_in logs t) spot → IsOtherGuard logs t (Some spot) other → ⊥
own_guard logs t other spot one mine g = g.differs (one other t
    (subst (IsGuarded (log_in logs other)) (sym (same_word spot g.word g.is)) g.guards) mine)

pub some_guard : (logs : List Log) (t other : ℕ) (spot : Spot) → other ≢ t → IsGuarded (log_in logs other) spot
    → IsOtherGuard logs t (Some spot) other
some_guard logs t other spot differs guards = record { word = spot; is = refl; differs = differs; guards = guards }

-- ---- whether it is logged

pub adds : (u : Underway) (e : Option Entry) → e ≡ added_entry u → is_adding u ≡ is_some e
adds Nothing e is = sym (ap is_some is)
adds (Adding x stage) e is = sym (ap is_some is)
adds (Ending stage) e is = sym (ap is_some is)

pub lacks_where : (logs : List Log) (t : ℕ) (spot : Spot) (none : Bool) (g : Option ℕ) → none ≡ is_none g
    → (IsNone g → (u : ℕ) → IsGuarded (log_in logs u) spot → ⊥) → none ≡ true → LacksWord logs t spot
lacks_where logs t spot none None told free is = inr (free refl)
lacks_where logs t spot none (Some u) told free is = absurd (true≢false (sym is ∙ told))

pub has_where : (logs : List Log) (t : ℕ) (spot : Spot) (none : Bool) (g : Option ℕ) → none ≡ is_none g
    → IfSome g (λ u. IsGuarded (log_in logs u) spot) → is_adding (log_in logs t).underway ≡ false → none ≡ false
    → HasWord logs t spot
has_where logs t spot none None told some idle is = absurd (true≢false (sym told ∙ is))
has_where logs t spot none (Some u) told some idle is = record { guard = (u, some); whole = idle }

-- ---- how a store goes on

pub goes_outside : (logs : List Log) (t : ℕ) (spot : Spot) → (log_in logs t).depth ≡ 0
    → GoesFor logs t (Some spot) (barrier.Store (Some spot.line))
goes_outside logs t spot depth =
    ((λ _. refl, λ is_open. absurd (omega (arith, depth, is_open))), λ is_open. absurd (omega (arith, depth, is_open)))

pub goes_inside : (logs : List Log) (t : ℕ) (spot : Spot) → (log_in logs t).depth ≢ 0 → HasWord logs t spot
    → GoesFor logs t (Some spot) (barrier.Store None)
goes_inside logs t spot is_open has = ((λ depth. absurd (is_open depth), λ _. refl), λ _. has)

pub goes_logging : (logs : List Log) (t : ℕ) (spot : Spot) → (log_in logs t).depth ≢ 0 → LacksWord logs t spot
    → GoesFor logs t (Some spot) (barrier.LogFirst spot)
goes_logging logs t spot is_open lacks = (refl, omega (arith, is_open), lacks)
