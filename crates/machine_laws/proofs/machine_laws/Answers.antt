use Rattle.machine_laws.proofs.{MachineLaws.machine_laws, Opened.opened_sound}
use Rattle.machine_laws.proofs.machine_laws.Goals as goal

pub returns : goal.returns
returns c = record {
  sends_distance = machine_laws.sends_distance;
  rises_at_completion = machine_laws.rises_at_completion;
  keeps_or_chooses = machine_laws.keeps_or_chooses;
  counts_queries = machine_laws.counts_queries;
  counts_replies = machine_laws.counts_replies;
  goes_on_or_asks = machine_laws.goes_on_or_asks;
  keeps_debt = machine_laws.keeps_debt;
  tells_all = machine_laws.tells_all;
  keeps_records = machine_laws.keeps_records;
  keeps_attachment = machine_laws.keeps_attachment;
  opens_sound = opened_sound;
  stays_sound = machine_laws.stays_sound;
}
