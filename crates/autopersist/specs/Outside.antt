-- What the outside tells at one moment: source, image, sink and watcher, each as far as it tells.
use Rattle.std.specs.Prelude.{ℕ, List, Option}
use Rattle.ap_base.specs.declared.source.NamedBytes.{NamedBytes}
use Rattle.line_image.specs.Told.{Told}
use Rattle.run_history.specs.Recorded.{Recorded}

pub record Outside : Type 0 where
  -- the files that the source has left
  pub left : Option (List NamedBytes)
  -- how often the source failed
  pub source_faults : ℕ
  pub image : Told
  -- how often the image failed
  pub image_faults : ℕ
  -- the bytes that the sink took
  pub taken : Option (List ℕ)
  -- how many bytes of a piece it takes, once it took so many more
  pub takes : ℕ → ℕ → Option ℕ
  -- how often the sink failed
  pub sink_faults : ℕ
  -- the acts that the watcher saw
  pub seen : Option (List Recorded)

abbrev pub outside : Option (List NamedBytes) → ℕ → Told → ℕ → Option (List ℕ) → (ℕ → ℕ → Option ℕ) → ℕ → Option (List Recorded) → Outside
outside left source_faults image image_faults taken takes sink_faults seen = record {
  left = left;
  source_faults = source_faults;
  image = image;
  image_faults = image_faults;
  taken = taken;
  takes = takes;
  sink_faults = sink_faults;
  seen = seen;
}
