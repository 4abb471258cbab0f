use Rattle.std.proofs.Common.{◌≡◌, ◌∙◌, ℕ, [], ◌∷◌, Some, ap, map, codes}
use Rattle.std.specs.List.{range_with_len}
use Rattle.network_model.specs.declared.network.LinkSpec.{LinkSpec}
use Rattle.serde_json.specs.Data.{Data, Members, no_members, object, put}
use Rattle.texts.specs.Words.{Text}
use Rattle.script.specs.Directories.{name_text}
use Rattle.run_states.specs.Values.{count_value, list, word}
use Rattle.run_states.proofs.states.put_opening.Goals as goal

put_on : (k : Text) (v d : Data) (before after ms : Members) → after ≡ put k v before → v ≡ d → before ≡ ms → after ≡ put k d ms
put_on k v d before after ms more is same = more ∙ ap (λ x. put k x before) is ∙ ap (put k d) same

pub returns : goal.returns
returns c =
    let named : ℕ → Data = λ i. word (name_text c.args.directory.now (Some i)) in
    let ends : LinkSpec → Data = λ k. list (count_value k.a ∷ count_value k.b ∷ []) in
    let kind = put_on (codes "kind") _ (word (codes "opening")) _ _ no_members c.in_ok-put.ensures.ok c.in_ok-kind.ensures c.requires in
    let format = put_on (codes "format") _ (count_value 1) _ _ _ c.in_ok-put-2.ensures.ok c.from.ensures kind in
    let steps = put_on (codes "steps") _ (count_value c.args.steps) _ _ _ c.in_ok-put-3.ensures.ok c.from-2.ensures format in
    let every = put_on (codes "every") _ (count_value c.args.every) _ _ _ c.in_ok-put-4.ensures.ok c.from-3.ensures steps in
    let routers = put_on (codes "routers") _ (list (map named (range_with_len 0 (c.args.network.now).routers))) _ _ _ c.in_ok-put_array.ensures
    (ap list (c.in_ok-routers.ensures ∙ ap (λ n. map named (range_with_len 0 n)) c.routers.ensures.number)) every in
    let links = put_on (codes "links") _ (list (map ends (c.args.network.now).links)) _ _ _ c.in_ok-put_array-2.ensures (ap list (c.in_ok-links.ensures ∙ ap (map ends) c.links.ensures.links)) routers in
    ap object (put_on (codes "prefixes") _ _ _ _ _ c.in_ok-put_array-3.ensures (ap list c.in_ok-prefixes.ensures) links)
