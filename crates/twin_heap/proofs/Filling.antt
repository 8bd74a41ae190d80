-- A line of the image that is filled, word by word.
use Rattle.std.proofs.Common.{◌≡◌, inl, inr, ℕ, ◌+◌, ◌*◌, ◌/◌, ◌%◌, ◌<◌, ◌≤◌, refl, sym, ◌∙◌, ap, subst, arith}
use Rattle.line_memory.specs.Memory.{Memory, shown}
use Rattle.twin_forms.specs.Moves.{ChangesLine, Filled}
use Rattle.twin_forms.proofs.Led.{same_or_not}
use Rattle.twin_heap.specs.Here.{StoresAt, IsFilled}

pub unchanged : (line : ℕ) (m : Memory) → ChangesLine line m m
unchanged line m = record {
  others = λ l w ne. refl;
  leaves = λ l w x ne h. h;
  size = refl;
  same = record { calls = refl; image = refl; faults = refl };
  resident = record { kept = λ l h. h; none_more = λ l h. h };
}

pub changes_twice : (line : ℕ) (m m' m'' : Memory) → ChangesLine line m m' → ChangesLine line m' m'' → ChangesLine line m m''
changes_twice line m m' m'' a b = record {
  others = λ l w ne. b.others l w ne ∙ a.others l w ne;
  leaves = λ l w x ne h. a.leaves l w x ne (b.leaves l w x ne h);
  size = b.size ∙ a.size;
  same = record { calls = b.same.calls ∙ a.same.calls; image = b.same.image ∙ a.same.image; faults = b.same.faults ∙ a.same.faults };
  resident = record { kept = λ l h. b.resident.kept l (a.resident.kept l h); none_more = λ l h. a.resident.none_more l (b.resident.none_more l h) };
}

pub none_filled : (line low high : ℕ) (P : ℕ → ℕ) (m : Memory) → high ≤ low → IsFilled line low high P m m
none_filled line low high P m le = record { inside = λ w a b. absurd (omega arith); outside = λ w o. refl; changes = unchanged line m }

pub one_filled : (line low high next x : ℕ) (P : ℕ → ℕ) (m m' m'' : Memory) → low ≤ high → next ≡ high + 1 → x ≡ P high →
    IsFilled line low high P m m' → StoresAt line high x m' m'' → IsFilled line low next P m m''
one_filled line low high next x P m m' m'' le eq is f s = record {
  inside = λ w a b. elim (same_or_not w high) [
    | inl e ↦ subst (λ y. shown m'' line y ≡ P y) (sym e) (s.here ∙ is)
    | inr ne ↦ s.others line w (λ _ e. ne e) ∙ f.inside w a (omega (arith, b, eq, ne))
  ];
  outside = λ w o. s.others line w (λ _ e. elim o [ inl y ↦ omega (arith, y, e, le) | inr y ↦ omega (arith, y, e, eq) ])
      ∙ f.outside w (elim o [ inl y ↦ inl y | inr y ↦ inr (omega (arith, y, eq)) ]);
  changes = changes_twice line m m' m'' f.changes s.changes;
}

-- the same of words by their numbers in the image
pub fills : (m m' : Memory) (line low high lo hi : ℕ) (P Q : ℕ → ℕ) → IsFilled line low high P m m' → high ≤ 8 → lo ≡ 8 * line + low → hi ≡ 8 * line + high →
    ((w : ℕ) → low ≤ w → w < high → P w ≡ Q (8 * line + w)) → Filled lo hi Q (λ q. shown m (q / 8) (q % 8)) (λ q. shown m' (q / 8) (q % 8))
fills m m' line low high lo hi P Q f few a b is = record {
  outside = λ q o. elim (same_or_not (q / 8) line) [
    | inr ne ↦ f.changes.others (q / 8) (q % 8) ne
    | inl e ↦ subst (λ l. shown m' l (q % 8) ≡ shown m l (q % 8)) (sym e) (f.outside (q % 8) (elim o [ inl y ↦ inl (omega (arith, y, a, e)) | inr y ↦ inr (omega (arith, y, b, e)) ]))
  ];
  inside = λ q x y.
      let l : q / 8 ≡ line = omega (arith, x, y, a, b, few) in
      let at : 8 * line + q % 8 ≡ q = omega (arith, l) in
      let u : low ≤ q % 8 = omega (arith, l, x, a) in
      let t : q % 8 < high = omega (arith, l, y, b) in
      ap (λ l. shown m' l (q % 8)) l ∙ f.inside (q % 8) u t ∙ is (q % 8) u t ∙ ap Q at;
}
