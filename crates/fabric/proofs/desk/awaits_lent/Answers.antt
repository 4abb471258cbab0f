use Rattle.std.proofs.Common.{refl, sym, ap, inl, inr, ◌∙◌, arith, ◌≡◌, ◌≤◌, Some, false, is_some, length, slice_get}
use Rattle.no_packet_loops.proofs.Common.{slice_get_past, slice_get_read}
use Rattle.fabric.specs.{Desks.all_lent, Fabric.awaits_lent, Fabric.lent_at}
use Rattle.fabric.proofs.{WritersOut.awaits_at, WritersOut.lent_there, Seats.none_lent_at}
use Rattle.fabric.proofs.desk.awaits_lent.Goals as goal
use Rattle.fabric.proofs.desk.awaits_lent.Goals.{in-Deliver, in-Deliver-2}

pub returns-in-Some : goal.returns-in-Some
returns-in-Some g c =
    let read = c.in-Some.ensures.lookup in
    let desks = c.args.desks.now in
    let i = c.in-Deliver-1.router in
    let there : slice_get desks i ≡ Some c.in-Some.desk.now =
    ap (slice_get desks) (sym c.from.ensures) ∙ slice_get_read desks (length desks) c.from.result c.in-Some.desk.now refl read.3.0 read.1 in
    let out : c.is_out.result ≡ is_some (lent_at (all_lent desks) i) = c.is_out.ensures ∙ ap is_some (sym (lent_there desks i c.in-Some.desk.now there)) in
    out ∙ elim c.in-Deliver-1.branch [
      | in-Deliver w ↦ awaits_at (all_lent desks) c.args.step.now i w.in-Deliver.router w.router-is w.in-Deliver.is
      | in-Deliver-2 w ↦ awaits_at (all_lent desks) c.args.step.now i w.in-Deliver.router w.router-is w.in-Deliver.is
    ]

pub returns-in-None : goal.returns-in-None
returns-in-None g c =
    let desks = c.args.desks.now in
    let i = c.in-Deliver-1.router in
    let past : length desks ≤ i = omega (arith, c.in-None.ensures.lookup, c.from.ensures) in
    let out : false ≡ is_some (lent_at (all_lent desks) i) = ap is_some (sym (none_lent_at desks i (slice_get_past desks i past))) in
    out ∙ elim c.in-Deliver-1.branch [
      | in-Deliver w ↦ awaits_at (all_lent desks) c.args.step.now i w.in-Deliver.router w.router-is w.in-Deliver.is
      | in-Deliver-2 w ↦ awaits_at (all_lent desks) c.args.step.now i w.in-Deliver.router w.router-is w.in-Deliver.is
    ]

pub returns-in-LinkUp : goal.returns-in-LinkUp
returns-in-LinkUp g c =
    let lent = all_lent c.args.desks.now in
    elim c.in-LinkUp.is [
      | inl w ↦ sym (ap (awaits_lent lent) w.1)
      | inr a ↦ elim a [
        | inl w ↦ sym (ap (awaits_lent lent) w.1)
        | inr b ↦ elim b [
          | inl w ↦ sym (ap (awaits_lent lent) w.3)
          | inr d ↦ elim d [
            | inl w ↦ sym (ap (awaits_lent lent) w.1)
            | inr e ↦ elim e [
              | inl w ↦ sym (ap (awaits_lent lent) w.3)
              | inr w ↦ sym (ap (awaits_lent lent) w.2)
            ]
          ]
        ]
      ]
    ]
