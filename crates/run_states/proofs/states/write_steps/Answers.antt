use Rattle.std.proofs.Common.{◌-◌, ◌+◌, ◌∙◌, ◌≡◌, Some, ap, length, option_map, refl, slice_get, string_bytes, subst, sym, arith}
use Rattle.no_packet_loops.proofs.Common.{Appends, slice_get_read}
use Rattle.serde_json.specs.Written.{compact_text}
use Rattle.journal.specs.Steps.{step_text}
use Rattle.run_states.specs.{Recorders.IsCurrent, Recorders.IsRecorderOf, Told.IsStateLine, Told.moment_told, Told.step_told, Values.value_line, Values.state_data}
use Rattle.run_states.proofs.Rooms.{room_after, room_at_opening, shown_current}
use Rattle.run_states.proofs.Telling.{Telling, ran_on, said, telling_all, telling_less, telling_more, telling_none}
use Rattle.run_states.proofs.states.write_steps.Goals as goal
use Rattle.run_states.proofs.states.write_steps.Goals.{then-is_told+in_ok-text+in_ok-write_state, else-is_told}

pub loop-before-init : goal.loop-before-init
loop-before-init g c = record {
  room = room_at_opening c.args.world.now c.args.network.now (length c.args.steps.now - 0) c.requires.opens (omega arith);
  runs = sym c.requires.opens;
  of = c.requires.of;
  current = shown_current _ _ c.requires.shows;
  told = telling_none c.args.network.now c.args.directory.now c.args.steps.now c.args.moments.now c.args.every c.args.recorder.now (g.W.Write.contents c.args.out.now);
}

pub loop-before-preserved : goal.loop-before-preserved
loop-before-preserved g c =
    let out = g.W.Write.contents in
    let n = c.args.network.now in
    let d = c.args.directory.now in
    let steps = c.args.steps.now in
    let moments = c.args.moments.now in
    let k = c.loop-before.before in
    let s = c.index-steps-before.result in
    let w = c.loop-before.world in
    let v = c.step.new.world in
    let done = c.in_default.ensures.ok in
    let at : slice_get steps k ≡ Some s = slice_get_read steps (length steps) k s refl (omega (arith, c.loop-before-test.true)) c.index-steps-before.is in
    let room = room_after w v s (length steps) k (omega (arith, c.loop-before-test.true)) done.1 c.loop-before.invariant.room in
    let runs = ran_on n steps k s w v at c.loop-before.invariant.runs done.0 done.1 in
    elim c.if-is_told.branch [
      | then-is_told+in_ok-text+in_ok-write_state x ↦
          let next = x.write_state.new.recorder in
          let told = x.in_ok-write_state.ensures.told in
          let said_is : option_map string_bytes (Some x.in_ok-text.text) ≡ step_told d n.links steps (k + 1)
          = ap Some (x.in_ok-text.ensures ∙ ap (λ links. step_text d links s) c.links-links.ensures.links) ∙ sym (said d n.links steps k s at) in
          let line = compact_text (state_data v (next.prefixes).items (k + 1) (step_told d n.links steps (k + 1)) (moment_told moments (k + 1)) told.0) in
          let at_moment = subst (λ m. Appends (out c.loop-before.out) (out x.write_state.new.out) (value_line (state_data v (next.prefixes).items (k + 1) (option_map string_bytes (Some x.in_ok-text.text)) m told.0))) x.moment_of-moment.ensures told.2 in
          let more = subst (λ said. Appends (out c.loop-before.out) (out x.write_state.new.out) (value_line (state_data v (next.prefixes).items (k + 1) said (moment_told moments (k + 1)) told.0))) said_is at_moment in
          let is_line : IsStateLine n d steps moments (k + 1) c.step.new.self next line
          = record { world = v; runs = runs; changes = told.0; follows = told.1; shows = x.in_ok-write_state.ensures.shows; text = refl } in
          record {
            room = room;
            runs = runs;
            of = subst (IsRecorderOf v) (sym x.recorder-is) x.in_ok-write_state.ensures.of;
            current = subst (IsCurrent v) (sym x.recorder-is) (shown_current _ _ x.in_ok-write_state.ensures.shows);
            told = subst (λ r. Telling n d steps moments c.args.every (k + 1) c.args.recorder.now r (out c.args.out.now) (out c.if-is_told.out)) (sym x.recorder-is)
                (subst (λ o. Telling n d steps moments c.args.every (k + 1) c.args.recorder.now next (out c.args.out.now) (out o)) (sym x.out-is)
                (telling_more n d steps moments c.args.every k c.args.recorder.now c.loop-before.recorder c.step.new.self next line (out c.args.out.now) (out c.loop-before.out) (out x.write_state.new.out)
                (omega (arith, c.loop-before-test.true)) (sym c.is_told.ensures ∙ x.if-is_told.true) c.in_default.ensures.shows is_line more c.loop-before.invariant.told));
          }
      | else-is_told x ↦ record {
        room = room;
        runs = runs;
        of = subst (IsRecorderOf v) (sym x.recorder-is) c.in_default.ensures.of;
        current = subst (IsCurrent v) (sym x.recorder-is) c.in_default.ensures.current;
        told = subst (λ r. Telling n d steps moments c.args.every (k + 1) c.args.recorder.now r (out c.args.out.now) (out c.if-is_told.out)) (sym x.recorder-is)
            (subst (λ o. Telling n d steps moments c.args.every (k + 1) c.args.recorder.now c.step.new.self (out c.args.out.now) (out o)) (sym x.out-is)
            (telling_less n d steps moments c.args.every k c.args.recorder.now c.loop-before.recorder c.step.new.self (out c.args.out.now) (out c.loop-before.out)
            (omega (arith, c.loop-before-test.true)) (sym c.is_told.ensures ∙ x.if-is_told.false) c.in_default.ensures.shows c.loop-before.invariant.told));
      }
    ]

pub returns : goal.returns
returns g c = telling_all c.args.network.now c.args.directory.now c.args.steps.now c.args.moments.now c.args.every c.loop-before.before c.args.recorder.now c.loop-before.recorder (g.W.Write.contents c.args.out.now) (g.W.Write.contents c.loop-before.out)
    (omega arith) c.loop-before.invariant.told
