use Rattle.std.proofs.Common.{◌∙◌, List, ap, option_map, string_bytes, subst}
use Rattle.std.specs.Io.KnownBytes.{Appends}
use Rattle.std.proofs.lemmas.Result.{on_ok_weaker}
use Rattle.ipv4_prefix.specs.Prefix.{Prefix}
use Rattle.serde_json.specs.Written.{has_float}
use Rattle.serde_json.proofs.Views.{view-Object}
use Rattle.run_states.specs.Values.{value_line, state_data}
use Rattle.run_states.proofs.Plain.{state_plain}
use Rattle.run_states.proofs.states.write_state.Goals as goal

pub write_value-requires : goal.write_value-requires
write_value-requires g c = ap has_float (view-Object c.put_state.new.members ∙ c.in_ok-put_state.ensures) ∙ state_plain c.args.world.now c.deref.result.now c.args.number (option_map string_bytes c.args.step) c.args.moment c.in_ok-changes.changes

pub returns-clause-told : goal.returns-clause-told
returns-clause-told g c =
    let out = g.W.Write.contents in
    let state_of = λ (ps : List Prefix). state_data c.args.world.now ps c.args.number (option_map string_bytes c.args.step) c.args.moment c.in_ok-changes.changes in
    on_ok_weaker c.write_value.result
    (λ more. (c.in_ok-changes.changes, c.in_ok-changes.ensures.follows, subst (Appends (out c.args.out.now) (out c.write_value.new.out)) (ap value_line (view-Object c.put_state.new.members ∙ c.in_ok-put_state.ensures ∙ ap state_of c.deref.ensures.value)) more))
    c.write_value.ensures
