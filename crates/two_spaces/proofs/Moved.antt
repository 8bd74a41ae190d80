-- What a move leaves of what is shown.
use Rattle.std.proofs.Common.{◌≡◌, inl, inr, ℕ, ◌+◌, ◌*◌, ◌/◌, ◌%◌, ◌<◌, ◌≤◌, true, List, [], ◌∷◌, length, map, refl, sym, ◌∙◌}
use Rattle.std.proofs.Common.{ap, subst, arith, length-set}
use Rattle.std.specs.Prelude.{slice_index, slice_index_or, slice_set}
use Rattle.std.specs.List.{AllByRecursion}
use Rattle.ap_base.specs.References.{reference_word}
use Rattle.ap_base.specs.declared.reference.Ref.{Ref}
use Rattle.ap_base.specs.declared.reference.Ref.TheVariants.{Null as NoRef, Persistent, Volatile}
use Rattle.ap_base.specs.declared.reference.Item.{Item}
use Rattle.ap_base.specs.declared.reference.Item.TheVariants.{Int as IntItem, Long as LongItem, Ref as RefItem}
use Rattle.run_types.specs.declared.key.Key.{Key}
use Rattle.run_types.specs.declared.key.Key.TheVariants as key
use Rattle.graph_model.specs.declared.types.Root.{Root}
use Rattle.run_history.specs.declared.act.PlainKey.TheVariants.{Object as PlainObject}
use Rattle.monitors.specs.declared.monitor.Monitor.{Monitor}
use Rattle.one_space.proofs.Laid.{some_is}
use Rattle.shared_objects.specs.declared.rest.Rest.{Rest}
use Rattle.shared_objects.specs.Shown.{Shown, Keeps}
use Rattle.shared_objects.specs.Worlds.{IsHeldKey, KnowsMonitors, number_or, plain_key, plain_monitor, plain_thread, world_of}
use Rattle.line_memory.specs.Memory.{shown}
use Rattle.twin_forms.specs.Sights.{Twin, view_of}
use Rattle.twin_forms.specs.Table.{Entry, View, entry, Names, IsRef}
use Rattle.twin_forms.specs.Moves.{Moved, forwarded}
use Rattle.twin_forms.proofs.Led.{same_or_not}
use Rattle.twin_forms.proofs.Elsewhere.{entry_here, entry_other}
use Rattle.two_spaces.specs.declared.spaces.Static.{Static}
use Rattle.two_spaces.specs.declared.spaces.Static.TheVariants.{Beside, Root as RootSlot}
use Rattle.two_spaces.specs.Seen.{Spaces, shown_of, current_word, number_in, is_key_in, root_word}
use Rattle.two_spaces.specs.Whole.{Stands, IsStatic, IsItem, IsNamed, no_static}
use Rattle.two_spaces.specs.Moving.{IsMove, SparesRoots, LinesBehindSpareRoots, OneLineSparesRoots, MovesFollow, ShowsSame}
use Rattle.two_spaces.specs.Moving.{MovesKey, MonitorsStayKnown, SameCurrent}
use Rattle.two_spaces.proofs.Numbering.{is_some, key_named, key_number, keeps_numbers, named_key, named_number, names_current}
use Rattle.two_spaces.proofs.Numbering.{number_named, word_copy, word_old}
use Rattle.two_spaces.proofs.Shifting.{keys_same, objects_moved}
use Rattle.two_spaces.proofs.Keeping.{SameRoots, all_same, classes_on, kinds_same}

-- ---- the heap stays whole

spared : (t t' : Twin) → SparesRoots t t' → SameRoots t t'
unfolding SameRoots
spared t t' same = same

pub lines_behind : LinesBehindSpareRoots
lines_behind t t' same slot lt = same ((8 + slot) / 8) ((8 + slot) % 8) (omega (arith, lt))

pub one_line : OneLineSparesRoots
one_line t t' (inl is) slot lt = ap (λ m. shown m ((8 + slot) / 8) ((8 + slot) % 8)) is
one_line t t' (inr x) slot lt =
    let far = x.1 in
    x.2.others ((8 + slot) / 8) ((8 + slot) % 8) (λ eq. absurd (omega (arith, eq, far, lt)))

-- a table of as many objects, whose references stay
pub record Leads (es es' : List Entry) : Type 0 where
  pub long : length es' ≡ length es
  pub led : (n w : ℕ) → n < length es → Names (entry es n) w → Names (entry es' n) w

named_moved : (es es' : List Entry) (w : ℕ) → Leads es es' → IsNamed es w → IsNamed es' w
named_moved es es' w leads named =
    let long = leads.long in
    (named.0, omega (arith, named.1, long), leads.led named.0 w named.1 named.2)

ref_moved : (es es' : List Entry) (w : ℕ) → Leads es es' → IsRef es w → IsRef es' w
ref_moved es es' w leads (inl z) = inl z
ref_moved es es' w leads (inr named) = inr (named_moved es es' w leads named)

item_moved : (es es' : List Entry) (item : Item) → Leads es es' → IsItem es item → IsItem es' item
item_moved es es' (IntItem i) leads to = tt
item_moved es es' (LongItem i) leads to = tt
item_moved es es' (RefItem NoRef) leads to = tt
item_moved es es' (RefItem (Persistent line)) leads to = named_moved es es' (reference_word (Persistent line)) leads to
item_moved es es' (RefItem (Volatile at)) leads to = named_moved es es' (reference_word (Volatile at)) leads to

static_moved : (s : Spaces) (t' : Twin) (es es' : List Entry) (st : Static) → Leads es es' → SameRoots s.twin t'
    → IsStatic s es st → IsStatic (record s { twin = t' }) es' st
unfolding SameRoots
static_moved s t' es es' (Beside item) leads same is = item_moved es es' item leads is
static_moved s t' es es' (RootSlot slot) leads same is = (
  is.0,
  subst (λ w. w % 2 ≡ 0) (sym (same slot is.0)) is.1,
  subst (IsRef es') (sym (same slot is.0)) (ref_moved es es' (root_word (view_of s.twin) slot) leads is.2),
)

module _ (s : Spaces) (t' : Twin) (es es' : List Entry) (m : IsMove s t' es es') where
  leads_on : Leads es es'
  leads_on = record { long = m.moved.same.long; led = m.moved.same.led }

  roots_on : SameRoots s.twin t'
  roots_on = spared s.twin t' m.spares

  pub whole : Stands (record s { twin = t' }) es'
  whole = record {
    lies = m.moved.lies;
    behind = m.behind;
    classes = classes_on s.shapes s.twin.marks.kinds t'.marks.kinds s.classes s.numbers m.kinds m.stands.classes;
    classed = λ n ln.
        (let long = m.moved.same.long in
        let before : n < length es = omega (arith, ln, long) in
        subst (λ k. slice_index s.classes k < length s.shapes) (sym (m.moved.same.shapes n before))
        (m.stands.classed n before));
    statics = λ f lf. static_moved s t' es es' (slice_index_or s.statics f no_static) leads_on roots_on
        (m.stands.statics f lf);
    alone = m.stands.alone;
  }

  few : length es ≤ length es'
  few = let long = m.moved.same.long in omega (arith, long)

  keeps_on : Keeps (number_in (view_of s.twin)) (number_in (view_of t'))
  keeps_on = keeps_numbers (view_of s.twin) (view_of t') es es' m.stands.lies m.moved.lies few m.moved.same.led

  pub shows : ShowsSame (shown_of s) (shown_of (record s { twin = t' }))
  shows = record {
    shapes = refl;
    objects = objects_moved s.classes (view_of s.twin) (view_of t') es es' m.stands.lies m.moved.lies
        (kinds_same s.twin t' m.kinds) m.moved.same;
    statics = all_same s t' es m.stands roots_on keeps_on;
    keeps = keeps_on;
    left = m.left;
  }

  pub keys : SameCurrent es es' → (r : Ref) → is_key_in (view_of s.twin) r ≡ true → is_key_in (view_of t') r ≡ true
  keys same = keys_same (view_of s.twin) (view_of t') es es' m.stands.lies m.moved.lies few same

-- ---- a move after a move

moved_twice : (v v' v'' : View) (es es' es'' : List Entry) → Moved v es v' es' → Moved v' es' v'' es''
    → Moved v es v'' es''
moved_twice v v' v'' es es' es'' m m' =
    let long = m.same.long in
    let on : (n : ℕ) → n < length es → n < length es' = λ n ln. omega (arith, ln, long) in
    record {
      lies = m'.lies;
      same = record {
        long = m'.same.long ∙ m.same.long;
        shapes = λ n ln. m'.same.shapes n (on n ln) ∙ m.same.shapes n ln;
        slots = λ n ln. m'.same.slots n (on n ln) ∙ m.same.slots n ln;
        led = λ n w ln names. m'.same.led n w (on n ln) (m.same.led n w ln names);
        same = λ n k ln lk. m'.same.same n k (on n ln) (subst (λ c. k < c) (sym (m.same.slots n ln)) lk) ∙ m.same.same n k ln lk;
        kept = m'.same.kept ∙ m.same.kept;
      };
    }

pub moves_follow : MovesFollow
moves_follow s t' es es' m t'' es'' m' = record {
  stands = m.stands;
  moved = moved_twice (view_of s.twin) (view_of t') (view_of t'') es es' es'' m.moved m'.moved;
  kinds = m'.kinds ∙ m.kinds;
  left = m'.left ∙ m.left;
  spares = λ slot lt. m'.spares slot lt ∙ m.spares slot lt;
  behind = m'.behind;
}

-- ---- a forward

-- the reference with a word of the space
volatile_is : (r : Ref) (at : ℕ) → reference_word r ≡ 2 * at + 1 → r ≡ Volatile at
volatile_is NoRef at e = absurd (omega (arith, e))
volatile_is (Persistent line) at e = absurd (omega (arith, e))
volatile_is (Volatile i) at e = let same : i ≡ at = omega (arith, e) in ap Volatile same

module _ (s : Spaces) (t' : Twin) (es : List Entry) (n : ℕ) (ln : n < length es) (young : (entry es n).stage ≡ 1)
    (m : IsMove s t' es (slice_set es n (forwarded (entry es n)))) where
  here : entry (slice_set es n (forwarded (entry es n))) n ≡ forwarded (entry es n)
  here = entry_here es n (forwarded (entry es n)) ln

  there : n < length (slice_set es n (forwarded (entry es n)))
  there = let long = length-set es n (forwarded (entry es n)) in omega (arith, ln, long)

  word_after : current_word (entry (slice_set es n (forwarded (entry es n))) n) ≡ 2 * (entry es n).line
  word_after = ap current_word here ∙ word_copy (forwarded (entry es n)) (omega arith)

  word_before : current_word (entry es n) ≡ 2 * (entry es n).at + 1
  word_before = word_old (entry es n) (omega (arith, young))

  other_key : (r : Ref) → (r ≡ Volatile (entry es n).at → ⊥) → is_key_in (view_of s.twin) r ≡ true
      → is_key_in (view_of t') r ≡ true
  other_key r apart key =
      let k = key_number (view_of s.twin) r key in
      let named = number_named (view_of s.twin) es k.0 r m.stands.lies k.1 in
      let word = key_named (view_of s.twin) es k.0 r m.stands.lies key k.1 in
      let long = length-set es n (forwarded (entry es n)) in
      elim (same_or_not k.0 n) [
        | inl e ↦ absurd (apart (volatile_is r (entry es n).at
            (word ∙ ap (λ j. current_word (entry es j)) e ∙ word_before)))
        | inr ne ↦ named_key (view_of t') (slice_set es n (forwarded (entry es n))) k.0 r m.moved.lies
            (omega (arith, named.0, long))
            (word ∙ ap current_word (sym (entry_other es n k.0 (forwarded (entry es n)) ne)))
      ]

  pub moves_key : MovesKey (shown_of s) (shown_of (record s { twin = t' })) n (entry es n).at (entry es n).line
  moves_key = record {
    was = named_key (view_of s.twin) es n (Volatile (entry es n).at) m.stands.lies ln (sym word_before);
    is = named_key (view_of t') (slice_set es n (forwarded (entry es n))) n (Persistent (entry es n).line) m.moved.lies
        there (sym word_after);
    number = named_number (view_of t') (slice_set es n (forwarded (entry es n))) n (Persistent (entry es n).line)
        m.moved.lies there (subst (Names (entry (slice_set es n (forwarded (entry es n))) n)) word_after
        (names_current (view_of t') (slice_set es n (forwarded (entry es n))) n m.moved.lies there));
    others = λ r apart key. other_key r apart key;
  }

-- ---- worlds

pub key_kept : (before now : Shown) (k : Key Ref) → Keeps before.number now.number → IsHeldKey before k
    → plain_key now.number k ≡ plain_key before.number k
key_kept before now (key.Class n) keeps held = refl
key_kept before now (key.Object r) keeps held =
    let some = some_is (before.number r) held.0 in
    ap (λ o. PlainObject (number_or o)) (keeps r some.0 some.1 ∙ sym some.1)

held_on : (before now : Shown) (k : Key Ref) → Keeps before.number now.number
    → ((r : Ref) → before.is_key r ≡ true → now.is_key r ≡ true) → IsHeldKey before k → IsHeldKey now k
held_on before now (key.Class n) keeps keys held = tt
held_on before now (key.Object r) keeps keys held =
    let some = some_is (before.number r) held.0 in
    (is_some (now.number r) some.0 (keeps r some.0 some.1), keys r held.1)

pub monitors_kept : (before now : Shown) (ms : List Monitor) → Keeps before.number now.number
    → AllByRecursion (λ (m : Monitor). IsHeldKey before m.key) ms
    → map (plain_monitor now.number) ms ≡ map (plain_monitor before.number) ms
monitors_kept before now [] keeps all = refl
monitors_kept before now (m ∷ ms) keeps all =
    let first = key_kept before now m.key keeps all.0 in
    let others = monitors_kept before now ms keeps all.1 in
    λ i. record { key = first i; owner = m.owner; count = m.count } ∷ others i

pub stay_known : (before now : Shown) (ms : List Monitor) → Keeps before.number now.number
    → ((r : Ref) → before.is_key r ≡ true → now.is_key r ≡ true)
    → AllByRecursion (λ (m : Monitor). IsHeldKey before m.key) ms
    → AllByRecursion (λ (m : Monitor). IsHeldKey now m.key) ms
stay_known before now [] keeps keys all = tt
stay_known before now (m ∷ ms) keeps keys all =
    (held_on before now m.key keeps keys all.0, stay_known before now ms keeps keys all.1)

pub monitors_stay : MonitorsStayKnown
monitors_stay before now rest keeps keys known = stay_known before now rest.monitors keeps keys known

pub same_world : (before now : Shown) (rest : Rest) (roots : List Root) → ShowsSame before now
    → KnowsMonitors before rest → world_of roots now rest ≡ world_of roots before rest
same_world before now rest roots same known =
    let shapes = same.shapes in
    let objects = same.objects in
    let statics = same.statics in
    let monitors = monitors_kept before now rest.monitors same.keeps known in
    λ i. record {
      heap = record { shapes = shapes i; objects = objects i; statics = statics i; roots = roots };
      monitors = monitors i;
      classes = rest.classes.items;
      threads = map plain_thread rest.threads;
    }
