use Rattle.std.proofs.Common.{sym, ap, ◌∙◌, append_assoc, arith, ◌≡◌, ◌++◌, ◌∷◌, [], map, length, append-nil}
use Rattle.no_packet_loops.proofs.Common.{into_iter_items, nil_from_length}
use Rattle.fabric.specs.Desks.{desk_in}
use Rattle.fabric.proofs.desk.seat_all.Goals as goal

pub loop-writer-preserved : goal.loop-writer-preserved
loop-writer-preserved g c =
    let rest = into_iter_items c.next.new.self in
    let seated = c.loop-writer.desks.items in
    let next = c.in-Some.ensures.items in
    let pushed = c.push_reserved.ensures in
    let kept = c.loop-writer.invariant in
    let fewer = ap length next in
    let within = kept.1 in
    let longer = pushed.len in
    let same = pushed.capacity in (
      ap (λ ds. ds ++ map desk_in rest) (pushed.items ∙ ap (λ d. seated ++ d ∷ []) c.new.ensures)
          ∙ append_assoc seated (desk_in c.in-Some.writer ∷ []) (map desk_in rest)
          ∙ ap (λ ws. seated ++ map desk_in ws) (sym next)
          ∙ kept.0,
      omega (arith, fewer, within, longer, same),
    )

pub returns : goal.returns
returns g c =
    let seated = c.loop-writer.desks.items in
    let none : into_iter_items c.loop-writer.writers ≡ [] = nil_from_length (into_iter_items c.loop-writer.writers) (sym c.loop-writer.writers.rest.ok.0 ∙ c.in_default-next.ensures.cases.0) in
    sym (append-nil seated) ∙ ap (λ ws. seated ++ map desk_in ws) (sym none) ∙ c.loop-writer.invariant.0
