use Rattle.std.proofs.Common.{arith, slice_get, List, Some, None}
use Rattle.network_model.specs.{declared.item.Notice.Notice, World.Attachments}
use Rattle.network_calls.specs.Shown.{notice_shown}
use Rattle.network_calls.proofs.Items.{counted_there, ended_of, full_of, more_of, none_of, read_there}
use Rattle.network_calls.proofs.gate.write_notices.Goals as goal

abbrev waiting : Attachments → List Notice
waiting a = a.notices

pub loop-at-init : goal.loop-at-init
loop-at-init c = none_of waiting notice_shown c.args.notices.now (slice_get (c.args.world.now).attachments c.args.router)

pub loop-at-preserved : goal.loop-at-preserved
loop-at-preserved c =
    let own = slice_get (c.args.world.now).attachments c.args.router in
    more_of waiting notice_shown c.args.notices.now own c.loop-at.notices c.loop-at.at c.in-Some.notice c.of.result (read_there waiting own c.loop-at.at (Some c.in-Some.notice) c.in-Some.ensures) c.of.ensures (omega arith) c.loop-at.invariant

pub returns-in-None : goal.returns-in-None
returns-in-None c =
    let own = slice_get (c.args.world.now).attachments c.args.router in
    ended_of waiting notice_shown c.args.notices.now own c.loop-at.notices c.loop-at.at (read_there waiting own c.loop-at.at None c.in-None.ensures) (omega arith) c.loop-at.invariant

pub returns : goal.returns
returns c =
    let own = slice_get (c.args.world.now).attachments c.args.router in
    full_of waiting notice_shown c.args.notices.now own c.loop-at.notices c.loop-at.at c.notices.result (counted_there waiting own c.notices.result c.notices.ensures) (omega arith) c.loop-at.invariant
