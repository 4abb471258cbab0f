use Rattle.std.proofs.Common.{◌≡◌, false, length, string_bytes, arith}
use Rattle.coming_to_rest.specs.Worlds.{is_own}
use Rattle.script.proofs.Common.{length-map, texts}
use Rattle.timed_simulation.specs.declared.events.Change.{Change}
use Rattle.timing.specs.Lines.{SaysChange}
use Rattle.timing.proofs.Reading.{all_said, zip_length}
use Rattle.timing.proofs.times.read_times.Goals as goal

pub returns-clause-changes : goal.returns-clause-changes
returns-clause-changes c =
    all_said (SaysChange c.args.names.now c.links.result.now c.attachments.result.now) (λ (x : Change). is_own x.step ≡ false) (texts c.deref-3.result.now) c.read_changes.new.changes.items (λ line x says. says.given) c.in_ok-read_changes.ensures.says

pub returns-clause-few : goal.returns-clause-few
returns-clause-few c =
    let read : length c.read_changes.new.changes.items ≡ length (texts c.deref-3.result.now) = zip_length (SaysChange c.args.names.now c.links.result.now c.attachments.result.now) (texts c.deref-3.result.now) c.read_changes.new.changes.items c.in_ok-read_changes.ensures.says in
    let lines : length (texts c.deref-3.result.now) ≡ length c.deref-3.result.now = length-map c.deref-3.result.now string_bytes in
    omega (arith, read, lines, c.deref-3.ensures.len, c.len.ensures, c.if-len-gt-MOST_CHANGES.false)
