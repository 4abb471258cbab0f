use Rattle.std.proofs.Common.{◌≢◌, [], ◌∷◌, codes, refl, sym, subst, ◌∙◌}
use Rattle.script.proofs.{Common.IsCost, Common.words_of, Common.word-full, KnownPrefixes.known_by_test, KnownPrefixes.strange}
use Rattle.script.proofs.StepTexts.{IsStrange, no_attachment, names_parts, parts_unique}
use Rattle.script.proofs.step.read_attach.Goals as goal

pub returns-then-not-is_known-clause-err : goal.returns-then-not-is_known-clause-err
returns-then-not-is_known-clause-err c =
    let words = rw c.in_ok-name.ensures.ok_part at c.three_words.ensures.some in
    let spells = rw c.in_ok-number.ensures.ok_part at c.read_number.ensures.read in
    let has_text : c.in_ok-name.text.now ≢ [] = word-full _ c.is_empty.result c.is_empty.ensures c.if-is_empty.false in
    let parts = names_parts c.args.names.now (codes "attach") c.in_ok-name.name.now c.in_ok-name.text.now c.in_ok-name.number.now (words_of c.args.operands.now) c.in_ok-router.router c.in_ok-number.number
    words spells has_text c.in_ok-router.ensures.ok.0 in
    let fails = sym c.is_known.ensures ∙ c.if-not-is_known.true in
    let none = strange c.args.attachments.now c.in_ok-prefix.prefix c.in_ok-name.text.now c.parse.result c.in_ok-prefix.was c.parse.ensures.every_prefix c.parse.ensures.every_fault fails in
    no_attachment c.args.names.now c.args.attachments.now (codes "attach" ∷ words_of c.args.operands.now) (λ router number text h.
    let same = parts_unique c.args.names.now (codes "attach") _ c.in_ok-router.router router c.in_ok-name.text.now text c.in_ok-number.number number parts h in
    (subst (IsStrange c.args.attachments.now) same.0 none, subst IsCost same.1 (c.in_ok-cost.ensures.exactly.0 refl)))

pub returns-clause-ok : goal.returns-clause-ok
returns-clause-ok c =
    let words = rw c.in_ok-name.ensures.ok_part at c.three_words.ensures.some in
    let spells = rw c.in_ok-number.ensures.ok_part at c.read_number.ensures.read in
    let has_text : c.in_ok-name.text.now ≢ [] = word-full _ c.is_empty.result c.is_empty.ensures c.if-is_empty.false in
    rw c.in_ok-cost.ensures.ok (
      c.in_ok-name.text.now,
      names_parts c.args.names.now (codes "attach") c.in_ok-name.name.now c.in_ok-name.text.now c.in_ok-name.number.now (words_of c.args.operands.now) c.in_ok-router.router c.in_ok-number.number
          words spells has_text c.in_ok-router.ensures.ok.0,
      c.in_ok-prefix.ensures.read,
      c.in_ok-cost.ensures.exactly.0 refl,
      known_by_test c.args.attachments.now c.in_ok-prefix.prefix (sym c.is_known.ensures ∙ c.if-not-is_known.false),
    )
