use Rattle.timing.proofs.times.read_times_text.Goals as goal

pub returns-in-Err-clause-fault : goal.returns-in-Err-clause-fault
returns-in-Err-clause-fault g c =
    let unread = c.in-Err.ensures.fault in
    (unread.0, unread.1, (c.in-Err.kind, unread.2, c.unread_times.ensures))
