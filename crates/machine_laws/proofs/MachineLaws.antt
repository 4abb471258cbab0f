-- All laws of a machine, together.
use Rattle.machine_laws.specs.Laws.{MachineLaws}
use Rattle.machine_laws.proofs.{Keeping.keeps_records, Keeping.keeps_attachment, Counting.counts_queries, Counting.counts_replies, Sending.sends_distance, Sending.goes_on_or_asks, Sending.tells_all, Debts.keeps_debt, Choosing.rises_at_completion, Choosing.keeps_or_chooses, Soundness.stays_sound}

-- all that a network of machines rests on
pub machine_laws : MachineLaws
machine_laws = record {
  sends_distance = sends_distance;
  rises_at_completion = rises_at_completion;
  keeps_or_chooses = keeps_or_chooses;
  counts_queries = counts_queries;
  counts_replies = counts_replies;
  goes_on_or_asks = goes_on_or_asks;
  keeps_debt = keeps_debt;
  tells_all = tells_all;
  keeps_records = keeps_records;
  keeps_attachment = keeps_attachment;
  stays_sound = stays_sound;
}
