use Rattle.std.proofs.Common.{◌≡◌, ◌∙◌, map, ap, subst, sym, rules}
use Rattle.image_patch.specs.Patches.{patched}
use Rattle.publication.specs.Lists.{Begins, bundle_of, followed, image_of, patch_of, with_publication}
use Rattle.publication.proofs.{Beginnings.begins_more, Ruling.goes_on, Tables.image-covered}
use Rattle.publication.proofs.press.turn.Goals as goal

pub show_as-requires : goal.show_as-requires
show_as-requires g c =
    let openings = g.B.FabricName.openings in
    let press = c.args.press in
    let patch = c.args.work.1 in
    let list = press.writer.desk.shown.value.told in
    let bundle = bundle_of press.waiting.items patch in
    let desk = c.open-open.result.0 in
    let shown : desk.shown.value ≡ press.writer.desk.shown.value = ap (λ p. p.value) c.open-open.ensures.values.0 in
    let told : c.announce.result ≡ with_publication desk.shown.value.told bundle = c.announce.ensures ∙ ap (λ e. with_publication e.told bundle) c.get.ensures in
    let hidden : c.deref_mut.result.now.image ≡ press.writer.desk.spare.value.image = ap (λ e. e.image) (c.deref_mut.ensures.value ∙ c.open-open.ensures.values.1) in
    let next : patched patch.generation patch.rows.items (followed press.last c.deref_mut.result.now.image) ≡ patched patch.generation patch.rows.items (image_of openings list) =
    ap (patched patch.generation patch.rows.items) (ap (followed press.last) hidden ∙ (press.hidden ∙ press.image)) in
    let list_after : with_publication list bundle ≡ c.announce.result = ap (λ e. with_publication e.told bundle) (sym shown) ∙ sym told in
    let covered : patched patch.generation patch.rows.items (image_of openings list) ≡ image_of openings c.announce.result =
    sym (image-covered openings list (map patch_of press.waiting.items) (patch_of patch) c.requires.covers) ∙ ap (image_of openings) list_after in
    let image : c.deref_mut-2.result.now.image ≡ image_of openings c.announce.result = ap (λ e. e.image) c.deref_mut-2.ensures.value ∙ (c.in_default.ensures ∙ (next ∙ covered)) in
    goes_on openings desk.place.id desk.place.me.0.client desk.shown.value.image c.deref_mut-2.result.now.image desk.shown.value.told c.announce.result
    (subst (Begins desk.shown.value.told) (sym told) (begins_more desk.shown.value.told bundle)) image

pub returns-in-Err : goal.returns-in-Err
returns-in-Err g c = search rules

pub returns : goal.returns
returns g c = search rules
