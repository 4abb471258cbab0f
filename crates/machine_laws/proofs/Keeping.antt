-- Every reaction leaves the records as the event left them, and the attachment.
use Rattle.machine_laws.specs.Laws.{KeepsRecords, KeepsAttachment}
use Rattle.network_model.proofs.RecordsLaws.{reaction-keeps}

-- the records are those after the event
pub keeps_records : KeepsRecords
keeps_records m e = (reaction-keeps m e).ports

-- the attachment is as it was told last
pub keeps_attachment : KeepsAttachment
keeps_attachment m e = (reaction-keeps m e).attachment
