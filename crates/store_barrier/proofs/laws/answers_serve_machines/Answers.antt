use Rattle.store_barrier.proofs.Guarded.{guards_agree, logged, may_be_guarded, outside, stored_kept}
use Rattle.store_barrier.proofs.Machines.{asked, durable_lines, durable_places, durable_words, stores_keep}
use Rattle.store_barrier.proofs.laws.answers_serve_machines.Goals as goal

pub returns : goal.returns
returns c = record {
  places = durable_places;
  lines = durable_lines;
  words = durable_words;
  kept = stored_kept;
  guards = guards_agree;
  asked = asked;
  durable = stores_keep;
  outside = outside;
  logged = logged;
  may = may_be_guarded;
}
