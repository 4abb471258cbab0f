use Rattle.std.proofs.Common.{◌≡◌, ◌++◌, [], ◌∷◌, None, map, string_bytes, length, min, inl, inr, sym, ap, ◌∙◌, true≢false}
use Rattle.script.proofs.Common.{map_push, router_number, no_router}
use Rattle.script.proofs.NameNumbers.{given_before, not_given, not_among, FindsNames-push}
use Rattle.script.proofs.names.Names.add.Goals as goal
use Rattle.script.proofs.names.Names.add.Goals.{then-not-is_name-via-then-not-is_name, then-not-is_name-via-else-not-is_name+then-is_some}

pub returns-then-not-is_name-clause-bad_name : goal.returns-then-not-is_name-clause-bad_name
returns-then-not-is_name-clause-bad_name c _ =
    elim c.then-not-is_name.branch [
      | then-not-is_name-via-then-not-is_name w ↦ inl (λ is. true≢false (sym (c.is_name.ensures.1 is) ∙ w.if-not-is_name.true))
      | then-not-is_name-via-else-not-is_name+then-is_some w ↦ inr (given_before c.args.self.now c.args.name.now w.number.result w.number.ensures.value (sym w.is_some.ensures ∙ w.if-is_some.true))
    ]

new_names : (c : goal.After-unwrap) → map string_bytes c.push.new.self.items ≡ map string_bytes c.self.inside.names.items ++ c.args.name.now ∷ []
new_names c =
    let pushed = rw c.unwrap.ensures at c.push.ensures.items in
    ap (map string_bytes) (pushed ∙ ap (λ xs. xs ++ c.in_ok-name.name ∷ []) c.reserve.ensures.items)
    ∙ map_push string_bytes c.self.inside.names.items c.in_ok-name.name
    ∙ ap (λ t. map string_bytes c.self.inside.names.items ++ t ∷ []) c.in_ok-name.ensures.ok

absent : (c : goal.After-unwrap) → router_number c.args.self.now c.args.name.now ≡ None
absent c = not_given c.args.self.now c.args.name.now c.number.result c.number.ensures.value (sym c.is_some.ensures ∙ c.if-is_some.false)

pub invariant_of-self-2 : goal.invariant_of-self-2
invariant_of-self-2 c =
    rw (new_names c) (FindsNames-push (map string_bytes c.self.inside.names.items) c.args.name.now c.in_ok-key.key c.self.inside.numbers c.insert.new.self c.count-count.result
    c.self.invariant (c.is_name.ensures.0 c.if-not-is_name.false) (ap (λ ns. router_number ns c.args.name.now) c.self.view_is ∙ absent c) c.in_ok-key.ensures.ok
    (c.count-count.ensures ∙ ap (λ ns. min no_router (length ns)) (sym c.self.view_is)) c.in_ok-insert.ensures.updates)

pub returns-clause-ok : goal.returns-clause-ok
returns-clause-ok c =
    (new_names c ∙ ap (λ ns. ns ++ c.args.name.now ∷ []) c.self.view_is, c.is_name.ensures.0 c.if-not-is_name.false, not_among _ _ (absent c))
