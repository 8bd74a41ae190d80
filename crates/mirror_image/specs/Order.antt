-- What a mirror tells is in order.
use Rattle.std.specs.Prelude.{◌≡◌, ◌≤◌, ◌-◌, ℕ, List, Option, Some, None, All, length, take}
use Rattle.std.proofs.Common.{arith, ◌∙◌, sym, subst}
use Rattle.std.proofs.lemmas.List.{get_or-take, length-take}
use Rattle.line_image.specs.Trace.{Trace}
use Rattle.line_image.specs.Told.{Told, IsCounted, InOrder}
use Rattle.line_image.specs.declared.effect.Effect.{Effect}
use Rattle.mirror_image.specs.declared.halves.Left.{Left}
use Rattle.mirror_image.specs.Joint.{told_by, told_from, ahead_by, calls_by, joint}
use Rattle.mirror_image.specs.Sound.{done_in}

pub first_lines : (lines : List (List ℕ)) (size : ℕ) → length lines ≡ size → length (take (size - 1) lines) ≡ size - 1
first_lines lines size is = length-take (size - 1) lines ∙ omega (arith, is)

pub in_order_from : (ahead : ℕ) (a b : Told) (left : Left) (less extra : ℕ) → IsCounted a
    → All (λ (effect : Effect). effect.at ≤ calls_by ahead a.calls less extra) (done_in (told_from ahead a b left less extra).trace)
    → IsCounted (told_from ahead a b left less extra)
in_order_from ahead a b left less extra counted so_far = record {
  fits = omega arith;
  order = order a.trace b.trace counted.order so_far;
}
  where
    order : (o p : Option Trace) → InOrder a.size a.calls o
        → All (λ (effect : Effect). effect.at ≤ calls_by ahead a.calls less extra) (done_in (joint ahead (a.size - 1) left a.calls o p))
        → InOrder (a.size - 1) (calls_by ahead a.calls less extra) (joint ahead (a.size - 1) left a.calls o p)
    order None p counted so_far = tt
    order (Some h) None counted so_far = tt
    order (Some h) (Some k) counted so_far = record {
      lines = first_lines h.first a.size counted.lines;
      eights = λ l d lt. subst (λ (line : List ℕ). length line ≡ 8) (sym (get_or-take (a.size - 1) h.first l d (omega (arith, lt, first_lines h.first a.size counted.lines)))) (counted.eights l d (omega (arith, lt, counted.lines, first_lines h.first a.size counted.lines)));
      so_far = so_far;
    }

pub in_order_by : (a b : Told) (left : Left) (less extra : ℕ) → IsCounted a
    → All (λ (effect : Effect). effect.at ≤ (told_by a b left less extra).calls) (done_in (told_by a b left less extra).trace)
    → IsCounted (told_by a b left less extra)
in_order_by a b left less extra = in_order_from (ahead_by (a.size - 1) left b.trace) a b left less extra
