use Rattle.std.proofs.Common.{rules, ◌≡◌, unwrap_or, is_some}
use Rattle.single_router.specs.States.{awaited_flags, flag, owed_port, row_among}
use Rattle.single_router.proofs.state.State.of.Goals as goal

-- src/state.rt: field by field
pub returns : goal.returns
returns c =
    let m = (c.args.machine.now).machine in let t = (c.args.table.now).table in let p = c.args.prefix in
    let rd : c.value.result ≡ m.rd = search rules in
    let fd : c.value-2.result ≡ m.fd = search rules in
    let attached : c.attached_cost.result ≡ unwrap_or m.attachment 0 = search rules in
    let chosen : c.row_at.result ≡ row_among t.control p = search rules in
    let published : c.row_at-2.result ≡ row_among t.published p = search rules in
    let active : c.from.result ≡ flag (is_some m.computation) = search rules in
    let owed : c.owed_to.result ≡ owed_port m.computation = search rules in
    let awaited : c.awaited_ports.result ≡ awaited_flags m.computation = search rules in
    λ i. record { rd = rd i; fd = fd i; attached = attached i; chosen = chosen i; published = published i; active = active i; owed = owed i; awaited = awaited i }
