use Rattle.std.proofs.Common.{◌∙◌, ◌++◌, [], ◌∷◌, None, OnOk, ap, length, refl, subst, sym}
use Rattle.no_packet_loops.proofs.Common.{Appends, on_ok_weaker}
use Rattle.serde_json.specs.Written.{compact_text, has_float}
use Rattle.serde_json.proofs.Views.{view-Object}
use Rattle.texts.specs.{Lines.lines_text, Words.Text}
use Rattle.std.proofs.KnownBytes.{Appends-trans}
use Rattle.run_states.specs.{Recorders.IsCurrent, Told.IsStateLine, Told.IsStatesText, Values.value_line, Values.opening_data, Values.state_data}
use Rattle.run_states.proofs.{Plain.opening_plain, Telling.states_text}
use Rattle.run_states.proofs.states.write_states.Goals as goal

pub write_value-requires : goal.write_value-requires
write_value-requires g c = ap has_float (view-Object c.put_opening.new.members ∙ c.in_ok-put_opening.ensures) ∙ opening_plain c.args.network.now c.args.directory.now c.deref.result.now (length c.args.steps.now) c.stride-told.result

pub write_state-requires-clause-current : goal.write_state-requires-clause-current
write_state-requires-clause-current g c = subst (λ w. IsCurrent w c.in_ok-recorder.recorder) (sym c.in_ok-world.ensures) c.in_ok-recorder.ensures.current

pub returns : goal.returns
returns g c =
    let out = g.W.Write.contents in
    let n = c.args.network.now in
    let d = c.args.directory.now in
    let steps = c.args.steps.now in
    let moments = c.args.moments.now in
    let blank = c.in_ok-recorder.recorder in
    let after = c.write_state.new.recorder in
    let told = c.in_ok-write_state.ensures.told in
    let opening = opening_data n d (blank.prefixes).items (length steps) c.stride-told.result in
    let line : Text = compact_text (state_data c.in_ok-world.world (after.prefixes).items 0 None None told.0) in
    let is_line : IsStateLine n d steps moments 0 blank after line
    = record { world = c.in_ok-world.world; runs = sym c.in_ok-world.ensures; changes = told.0; follows = told.1; shows = c.in_ok-write_state.ensures.shows; text = refl } in
    let opening_is = view-Object c.put_opening.new.members ∙ c.in_ok-put_opening.ensures ∙ ap (λ ps. opening_data n d ps (length steps) c.stride-told.result) c.deref.ensures.value in
    let first = subst (λ x. Appends (out c.args.out.now) (out c.write_value.new.out) (value_line x)) opening_is c.in_ok-write_value.ensures in
    subst (λ e. OnOk c.write_steps.result ((text : Text) × IsStatesText n d steps moments e text × Appends (out c.args.out.now) (out c.write_steps.new.out) text)) c.stride-told.ensures.exact
    (on_ok_weaker c.write_steps.result
    (λ rest. (
      lines_text (λ (t : Text). t) (compact_text opening ∷ line ∷ rest.0),
      states_text n d steps moments c.stride-told.result blank after line rest.0 c.stride-told.ensures.positive c.in_ok-recorder.ensures.blank c.in_ok-recorder.ensures.of c.in_ok-recorder.ensures.prefixes is_line rest.1,
      Appends-trans (out c.args.out.now) (out c.write_value.new.out) (out c.write_steps.new.out) (value_line opening) ((line ++ 10 ∷ []) ++ lines_text (λ (t : Text). t) rest.0) first
          (Appends-trans (out c.write_value.new.out) (out c.write_state.new.out) (out c.write_steps.new.out) (line ++ 10 ∷ []) (lines_text (λ (t : Text). t) rest.0) told.2 rest.2),
    ))
    c.write_steps.ensures)
