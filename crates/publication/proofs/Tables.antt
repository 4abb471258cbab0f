-- The images of lists of patches.
use Rattle.std.proofs.Common.{◌≡◌, ◌∙◌, ◌||◌, ℕ, ◌+◌, true, List, [], ◌∷◌, ◌++◌, length, map, refl, ap, sym, append_assoc, length-append, append-nil}
use Rattle.std.specs.List.{list_any}
use Rattle.std.proofs.{lemmas.List.Folds.list_any-append, Math.Bool.or-true}
use Rattle.ipv4_prefix.specs.Prefix.{Prefix, prefix_eq}
use Rattle.network_model.specs.declared.route.Entry.{Entry}
use Rattle.network_model.specs.Publication.{Patch, with_rows, published_generation, published_table}
use Rattle.image_patch.specs.Patches.{patched}
use Rattle.publication.specs.declared.known.Known.{Known}
use Rattle.publication.specs.Lists.{Covers, generation_of, image_of, is_named, opening_of, patches_of, patched_prefixes, with_publication}
use Rattle.publication.proofs.RowsAgain.{has_row, rows_again}

-- the last patch makes the generation
pub generation-last : (g : ℕ) (ps : List Patch) (p : Patch) → published_generation g (ps ++ p ∷ []) ≡ p.generation
generation-last g [] p = refl
generation-last g (q ∷ ps) p = generation-last q.generation ps p

table-append : (table : List (Prefix × Entry)) (ps qs : List Patch) → published_table table (ps ++ qs) ≡ published_table (published_table table ps) qs
table-append table [] qs = refl
table-append table (p ∷ ps) qs = table-append (with_rows p.rows table) ps qs

-- publications with one more have its patches behind theirs
pub patches-more : (publications : List (List Patch)) (ps : List Patch) → patches_of (publications ++ ps ∷ []) ≡ patches_of publications ++ ps
patches-more [] ps = append-nil ps
patches-more (qs ∷ rest) ps = ap (λ l. qs ++ l) (patches-more rest ps) ∙ sym (append_assoc qs (patches_of rest) ps)

-- patches whose prefixes are all set again are lost
patches_again : (waiting : List Patch) (rows table : List (Prefix × Entry)) → ((q : Prefix) → is_named waiting q ≡ true → has_row rows q ≡ true) → with_rows rows (published_table table waiting) ≡ with_rows rows table
patches_again [] rows table covered = refl
patches_again (p ∷ ps) rows table covered =
    let split : (q : Prefix) → is_named (p ∷ ps) q ≡ (has_row p.rows q || is_named ps q) = λ q. list_any-append (λ k. prefix_eq k q) (map (λ (r : Prefix × Entry). r.0) p.rows) (patched_prefixes ps) in
    patches_again ps rows (with_rows p.rows table) (λ q h. covered q (split q ∙ (ap (λ b. has_row p.rows q || b) h ∙ or-true (has_row p.rows q))))
    ∙ rows_again p.rows rows table (λ q h. covered q (split q ∙ ap (λ b. b || is_named ps q) h))

-- the patch that was handed in makes the generation
pub generation-more : (publications : List (List Patch)) (waiting : List Patch) (p : Patch) → published_generation 0 (patches_of (publications ++ (waiting ++ p ∷ []) ∷ [])) ≡ p.generation
generation-more publications waiting p = let all = patches_of publications in ap (published_generation 0) (patches-more publications (waiting ++ p ∷ []) ∙ sym (append_assoc all waiting (p ∷ []))) ∙ generation-last 0 (all ++ waiting) p

-- a list whose generation is the number of its publications stays so with one more, of the next generation
pub numbered-more : (list : Known) (waiting : List Patch) (p : Patch) → length list.publications ≡ generation_of list → p.generation ≡ generation_of list + 1
    → length (with_publication list (waiting ++ p ∷ [])).publications ≡ generation_of (with_publication list (waiting ++ p ∷ []))
numbered-more list waiting p counted next = length-append list.publications ((waiting ++ p ∷ []) ∷ []) ∙ ap (λ n. n + 1) counted ∙ sym next ∙ sym (generation-more list.publications waiting p)

-- what waits is set again by a patch that covers it
pub image-covered : (openings : List (List (Prefix × Entry))) (list : Known) (waiting : List Patch) (p : Patch) → Covers p waiting
    → image_of openings (with_publication list (waiting ++ p ∷ [])) ≡ patched p.generation p.rows (image_of openings list)
image-covered openings list waiting p covers =
    let all = patches_of list.publications in
    let table = opening_of openings list.router in
    let now = published_table table all in
    let rows : published_table table (patches_of (list.publications ++ (waiting ++ p ∷ []) ∷ [])) ≡ with_rows p.rows now = ap (published_table table) (patches-more list.publications (waiting ++ p ∷ []))
    ∙ table-append table all (waiting ++ p ∷ []) ∙ table-append now waiting (p ∷ [])
    ∙ patches_again waiting p.rows now (λ q h. ap (list_any (λ k. prefix_eq k q)) (sym (append-nil (map (λ (r : Prefix × Entry). r.0) p.rows))) ∙ covers q h) in
    λ i. record { generation = generation-more list.publications waiting p i; rows = rows i }
