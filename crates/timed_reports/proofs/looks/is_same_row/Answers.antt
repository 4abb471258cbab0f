use Rattle.std.proofs.Common.{◌∙◌, Some, ap, sym}
use Rattle.network_model.proofs.EntryLaws.{entry_from_eq}
use Rattle.timed_reports.proofs.looks.is_same_row.Goals as goal

pub returns-in-Some-Some : goal.returns-in-Some-Some
returns-in-Some-Some c = λ same. c.in-Some-Some.is-0 ∙ ap Some (entry_from_eq c.in-Some-Some.one c.in-Some-Some.other (sym c.is_same_entry.ensures ∙ same)) ∙ sym c.in-Some-Some.is-1
