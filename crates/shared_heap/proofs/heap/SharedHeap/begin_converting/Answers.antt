use Rattle.std.proofs.Common.{inl, refl}
use Rattle.ap_base.specs.References.{reference_word}
use Rattle.converter.specs.Stepping.{keys_of}
use Rattle.shared_heap.proofs.Converting.{begins_all, begins_once}
use Rattle.shared_heap.proofs.heap.SharedHeap.begin_converting.Goals as goal

pub returns : goal.returns
returns g c = record {
  begins = begins_all c.args.t c.begin_conversion.result (reference_word c.args.value) _ c.args.self.now _ c.self.view_is
      (λ es n before empty asked.
      let b = c.begin_conversion.ensures.begins (keys_of c.self.inside.rest.monitors) es n before.agrees asked in
      begins_once c.args.t n c.begin_conversion.result _ _ es before empty record {
        after = b.0;
        begins = b.1;
        same = refl;
        rest = refl;
        lines = c.begin_conversion.ensures.lines;
        within = c.begin_conversion.ensures.within;
        known = λ l lt. inl (c.every_line_is_resident.ensures c.begin_conversion.new.heap.memory l lt);
        history = refl;
        notes = refl;
      })
      c.requires.empty;
}
