use Rattle.network_calls.specs.Parts.{attachment_parts_fault, link_fault, network_failure}
use Rattle.network_calls.proofs.Lists.{lacks_memory, no_fault}
use Rattle.network_calls.proofs.opening.read_network.Goals as goal

pub read_links-requires : goal.read_links-requires
read_links-requires c = no_fault link_fault 0 c.args.links.now c.in_default.ensures.ok

pub read_attachments-requires : goal.read_attachments-requires
read_attachments-requires c = no_fault attachment_parts_fault 0 c.args.attachments.now c.in_default-check_attachments.ensures.ok

pub returns-in_default-read_links-clause-err : goal.returns-in_default-read_links-clause-err
returns-in_default-read_links-clause-err c =
    lacks_memory c.args.links.now c.args.attachments.now (network_failure c.args.limits c.args.routers c.args.links.now c.args.attachments.now) c.in_default.ensures.ok c.in_default-check_attachments.ensures.ok

pub returns-in_default-read_attachments-clause-err : goal.returns-in_default-read_attachments-clause-err
returns-in_default-read_attachments-clause-err c =
    lacks_memory c.args.links.now c.args.attachments.now (network_failure c.args.limits c.args.routers c.args.links.now c.args.attachments.now) c.in_default.ensures.ok c.in_default-check_attachments.ensures.ok
