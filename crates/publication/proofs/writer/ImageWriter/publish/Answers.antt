use Rattle.std.proofs.Common.{rules, ◌≡◌, ◌++◌, ◌∷◌, [], List, length, map, ap, subst, sym, ◌∙◌}
use Rattle.image_patch.specs.declared.Patch.{Patch as PatchFields}
use Rattle.publication.specs.declared.known.Known.{Known}
use Rattle.publication.specs.Lists.{Writing, bundle_of, generation_of, image_of, patch_of, patched_prefixes, with_publication}
use Rattle.publication.proofs.{Tables.image-covered, Tables.numbered-more, Waiting.waits_too}
use Rattle.publication.proofs.writer.ImageWriter.publish.Goals as goal

pub invariant_of-self-in_err-publish : goal.invariant_of-self-in_err-publish
invariant_of-self-in_err-publish g c =
    let old = c.self.inside in
    let patch = c.args.patch in
    let waiting : c.publish.new.self.waiting.items ≡ old.press.waiting.items ++ patch ∷ [] = c.in_err-publish.ensures.waiting ∙ ap (λ l. l ++ patch ∷ []) c.reserve-2.ensures.waiting in
    let told : old.press.writer.desk.shown.value.told ≡ c.publish.new.self.writer.desk.shown.value.told = sym (c.in_err-publish.ensures.same ∙ c.reserve-2.ensures.shown) in (
      c.note_prefixes.ensures ∙ (ap (λ l. l ++ map (λ r. r.0) patch.rows.items) c.in_ok-reserve.ensures.items
          ∙ (waits_too old.press.waiting.items patch old.prefixes.items c.self.invariant.0 ∙ ap (λ l. patched_prefixes (map patch_of l)) (sym waiting))),
      subst (λ (k : Known). length k.publications ≡ generation_of k) told c.self.invariant.1,
    )

list_more : {A : Type 0} (told between old : Known) (waiting waited : List (PatchFields A)) (patch : PatchFields A) (w : Writing) → told ≡ with_publication between (bundle_of waiting patch) → between ≡ old → waiting ≡ waited
    → record { published = old; waiting = map patch_of waited } ≡ w → told ≡ with_publication w.published (w.waiting ++ patch_of patch ∷ [])
list_more told between old waiting waited patch w done same kept is =
    done ∙ (ap (λ l. with_publication l (bundle_of waiting patch)) same
    ∙ (ap (λ l. with_publication old (bundle_of l patch)) kept
    ∙ ap (λ (v : Writing). with_publication v.published (v.waiting ++ patch_of patch ∷ [])) is))

pub invariant_of-self-2 : goal.invariant_of-self-2
invariant_of-self-2 g c =
    let writing = c.args.self.now in
    let list = list_more _ _ _ _ _ c.args.patch writing c.in_ok-publish.ensures.shown c.reserve-2.ensures.shown c.reserve-2.ensures.waiting c.self.view_is in
    let counted : length writing.published.publications ≡ generation_of writing.published = subst (λ (w : Writing). length w.published.publications ≡ generation_of w.published) c.self.view_is c.self.invariant.1 in (
      search rules,
      subst (λ (k : Known). length k.publications ≡ generation_of k) (sym list) (numbered-more writing.published writing.waiting (patch_of c.args.patch) counted c.requires.number),
    )

pub returns-clause-image : goal.returns-clause-image
returns-clause-image g c =
    let writing = c.args.self.now in
    let list = list_more _ _ _ _ _ c.args.patch writing c.in_ok-publish.ensures.shown c.reserve-2.ensures.shown c.reserve-2.ensures.waiting c.self.view_is in
    ap (image_of g.B.FabricName.openings) list ∙ image-covered g.B.FabricName.openings writing.published writing.waiting (patch_of c.args.patch) c.requires.covers
