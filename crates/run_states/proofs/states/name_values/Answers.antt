use Rattle.std.proofs.Common.{◌∙◌, ℕ, Some, ap}
use Rattle.serde_json.specs.View.{view}
use Rattle.script.specs.Directories.{name_text}
use Rattle.run_states.specs.Values.{word}
use Rattle.run_states.proofs.Made.{numbered_next}
use Rattle.run_states.proofs.states.name_values.Goals as goal

pub loop-router-preserved : goal.loop-router-preserved
loop-router-preserved c =
    let named = λ (i : ℕ). word (name_text c.args.directory.now (Some i)) in
    numbered_next view named c.loop-router.router (c.loop-router.values).items (c.push.new.self).items c.in_ok-try_from_str.field-0 c.in_ok-push.ensures.items
    (c.in_ok-try_from_str.ensures ∙ ap word c.name.ensures) c.loop-router.invariant
