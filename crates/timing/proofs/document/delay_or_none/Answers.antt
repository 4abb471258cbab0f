use Rattle.std.proofs.Common.{◌≡◌, ◌∙◌, Some, ap, refl, sym, SFits}
use Rattle.std.specs.{Int.w64, Option.option_map_or}
use Rattle.std.proofs.Math.Facts.{to_z-of_z}
use Rattle.toml.specs.{Data.Data, Data.Members, Data.get_member, View.table_view, View.view}
use Rattle.texts.specs.Words.{Text}
use Rattle.toml.proofs.Views.{table_get}
use Rattle.timing.specs.Document.{delay_at, delay_of, natural}
use Rattle.timing.proofs.Documents.{delay_is, delay_none, fits_by_size}
use Rattle.timing.proofs.document.delay_or_none.Goals as goal

-- the key is left out
pub returns-in_default-clause-ok : goal.returns-in_default-clause-ok
returns-in_default-clause-ok c =
    let found = table_get c.get.result c.args.key.now c.args.table.now.entries c.get.ensures.value in
    ap (λ o. option_map_or delay_of o (Some 0)) (sym (rw c.in_default.is at found))

-- the key has something
at_key : (t : Members) (key : Text) (d : Data) → Some d ≡ get_member key t → delay_at key t ≡ delay_of d
at_key t key d found = ap (λ o. option_map_or delay_of o (Some 0)) (sym found)

pub returns-in_default-as_integer-clause-bad_key : goal.returns-in_default-as_integer-clause-bad_key
returns-in_default-as_integer-clause-bad_key c =
    let found = table_get c.get.result c.args.key.now c.args.table.now.entries c.get.ensures.value in
    (refl, at_key (table_view c.args.table.now) c.args.key.now (view c.in-Some.value.now) (rw c.in-Some.is at found) ∙ delay_none (view c.in-Some.value.now) (sym c.as_integer.ensures ∙ c.in_default-as_integer.is))

pub returns-in-Some-natural-clause-ok : goal.returns-in-Some-natural-clause-ok
returns-in-Some-natural-clause-ok c =
    let fits : SFits w64 c.in-Some-as_integer.number = fits_by_size c.in-Some-as_integer.number (rw c.in-Some-as_integer.is at c.as_integer.type_inv).1.1.1.1.0.1 in
    let found = table_get c.get.result c.args.key.now c.args.table.now.entries c.get.ensures.value in
    at_key (table_view c.args.table.now) c.args.key.now (view c.in-Some.value.now) (rw c.in-Some.is at found)
    ∙ delay_is (view c.in-Some.value.now) c.in-Some-as_integer.number (sym c.as_integer.ensures ∙ c.in-Some-as_integer.is) ∙ ap natural (sym (to_z-of_z fits)) ∙ sym c.natural.ensures ∙ c.in-Some-natural.is

pub returns-in-None-clause-bad_key : goal.returns-in-None-clause-bad_key
returns-in-None-clause-bad_key c =
    let fits : SFits w64 c.in-Some-as_integer.number = fits_by_size c.in-Some-as_integer.number (rw c.in-Some-as_integer.is at c.as_integer.type_inv).1.1.1.1.0.1 in
    let found = table_get c.get.result c.args.key.now c.args.table.now.entries c.get.ensures.value in (
      refl,
      at_key (table_view c.args.table.now) c.args.key.now (view c.in-Some.value.now) (rw c.in-Some.is at found)
          ∙ delay_is (view c.in-Some.value.now) c.in-Some-as_integer.number (sym c.as_integer.ensures ∙ c.in-Some-as_integer.is) ∙ ap natural (sym (to_z-of_z fits)) ∙ sym c.natural.ensures ∙ c.in-None.is,
    )
