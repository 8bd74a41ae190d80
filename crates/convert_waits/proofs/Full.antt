-- In a full row nobody waits for a conversion.
use Rattle.std.proofs.Common.{◌≡◌, inl, inr, ℕ, Bool, List, refl, ap, subst}
use Rattle.std.specs.Prelude.{Option, Some, None}
use Rattle.run_types.specs.declared.wait.On.{On}
use Rattle.run_types.specs.declared.wait.On.TheVariants as on
use Rattle.twin_forms.specs.Table.{Entry, IsClaimed}
use Rattle.twin_forms.specs.Sights.{view_of}
use Rattle.convert_words.specs.Scenes.{Scene}
use Rattle.convert_words.proofs.Basics.{few_threads}
use Rattle.convert_waits.specs.Waiting.{Holds, AllHold}
use Rattle.convert_waits.proofs.Waiting.{conversions_never_stick}
use Rattle.convert_waits.specs.Rows.{Why, HoldsStill, InRow, on_of}
use Rattle.convert_waits.specs.Rows.Why.{Plain, Lacking, Member}
use Rattle.convert_waits.specs.Stuck.{HoldsWait, IsPlain, IsFull, RowsHold, FullRowsWaitPlainly, FullRowsAreStuck}

plain-wait : (plain : ℕ → Option On) (s : Scene) (es : List Entry) (t : ℕ) (o : On) → IsPlain o → plain t ≡ Some o
    → HoldsWait plain s es t o
plain-wait plain s es t (on.Conversion u) is waits = absurd is
plain-wait plain s es t o is waits = waits

still-waits : (plain : ℕ → Option On) (s : Scene) (es : List Entry) (t : ℕ) (why : Why)
    → ((u : ℕ) (on : On) → plain u ≡ Some on → IsPlain on) → HoldsStill plain s es t why → HoldsWait plain s es t (on_of why)
still-waits plain s es t (Plain o) are holds = plain-wait plain s es t o (are t o holds.0) holds.0
still-waits plain s es t (Lacking u) are holds = inr holds
still-waits plain s es t (Member u) are holds = inl holds.1

pub rows_hold : RowsHold
rows_hold plain s es waited t why are row is = still-waits plain s es t why are (row.holds t why is)

-- ---- full rows

-- whose conversion a thread waits for
abbrev for_whom : Option Why → Option ℕ
for_whom None = None
for_whom (Some (Plain on)) = None
for_whom (Some (Lacking u)) = Some u
for_whom (Some (Member u)) = Some u

module _ (plain : ℕ → Option On) (lives : ℕ → Bool) (s : Scene) (es : List Entry) (waited : ℕ → Option Why)
    (row : InRow plain s es waited) (full : IsFull lives es waited) where
  abbrev waits-for : ℕ → Option ℕ
  waits-for t = for_whom (waited t)

  each-holds : (t u : ℕ) (at : Option Why) → waited t ≡ at → for_whom at ≡ Some u → Holds s es t u
  each-holds t u None is for = absurd (let no : ◌≡◌ {A = Option ℕ} None (Some u) = for in cc)
  each-holds t u (Some (Plain on)) is for = absurd (let no : ◌≡◌ {A = Option ℕ} None (Some u) = for in cc)
  each-holds t u (Some (Lacking v)) is for =
      let same : v ≡ u = (let e : ◌≡◌ {A = Option ℕ} (Some v) (Some u) = for in cc) in
      let lacks = row.holds t (Lacking v) is in
      subst (Holds s es t) same (record {
        below = few_threads (view_of s.heap) es v lacks.m row.agrees.lies lacks.claimed;
        why = inr (record { object = lacks.m; claimed = lacks.claimed; behind = lacks.behind });
        forwarded = row.forwarded t (Lacking v) is;
      })
  each-holds t u (Some (Member v)) is for =
      let same : v ≡ u = (let e : ◌≡◌ {A = Option ℕ} (Some v) (Some u) = for in cc) in
      let holds = row.holds t (Member v) is in
      subst (Holds s es t) same (record { below = holds.0; why = inl holds.1; forwarded = row.forwarded t (Member v) is })

  claimer-waits : (t n : ℕ) → IsClaimed es t n → (why : Why) → waited t ≡ Some why → (u : ℕ) × (waits-for t ≡ Some u)
  claimer-waits t n claimed (Plain on) is = absurd ((row.holds t (Plain on) is).1 n claimed)
  claimer-waits t n claimed (Lacking u) is = (u, ap for_whom is)
  claimer-waits t n claimed (Member u) is = (u, ap for_whom is)

  all-hold : AllHold s es waits-for
  all-hold = record {
    each = λ t u for. each-holds t u (waited t) refl for;
    claimers = λ t n claimed. (let w = full.all t (full.claimers t n claimed) in claimer-waits t n claimed w.0 w.1);
  }

  none : (t u : ℕ) → waits-for t ≡ Some u → ⊥
  none = conversions_never_stick s es waits-for row.agrees all-hold

  plainly : (t : ℕ) (why : Why) → waited t ≡ Some why → (on : On) × (waited t ≡ Some (Plain on)) × (plain t ≡ Some on)
  plainly t (Plain on) is = (on, is, (row.holds t (Plain on) is).0)
  plainly t (Lacking u) is = absurd (none t u (ap for_whom is))
  plainly t (Member u) is = absurd (none t u (ap for_whom is))

pub full_rows_wait_plainly : FullRowsWaitPlainly
full_rows_wait_plainly plain lives s es waited row full t alive =
    let w = full.all t alive in plainly plain lives s es waited row full t w.0 w.1

recorded : (at : Option Why) (why : Why) → at ≡ Some why → (elim at [ None ↦ None | Some w ↦ Some (on_of w) ]) ≡ Some (on_of why)
recorded at why is = rw is refl

pub full_rows_are_stuck : FullRowsAreStuck
full_rows_are_stuck plain lives s es waited are row full t alive =
    let w = full.all t alive in
    (on_of w.0, recorded (waited t) w.0 w.1, rows_hold plain s es waited t w.0 are row w.1)
