-- The prefixes that waiting patches name.
use Rattle.std.proofs.Common.{◌≡◌, List, [], ◌∷◌, ◌++◌, map, ap, sym, ◌∙◌, append_assoc, append-nil}
use Rattle.ipv4_prefix.specs.Prefix.{Prefix}
use Rattle.network_model.specs.{declared.route.Entry.Entry, Publication.Patch}
use Rattle.image_patch.specs.declared.Patch.{Patch as PatchFields}
use Rattle.publication.specs.Lists.{patch_of, patched_prefixes}

pub prefixes-append : (ps : List Patch) (p : Patch) → patched_prefixes (ps ++ p ∷ []) ≡ patched_prefixes ps ++ map (λ (r : Prefix × Entry). r.0) p.rows
prefixes-append [] p = append-nil (map (λ (r : Prefix × Entry). r.0) p.rows)
prefixes-append (q ∷ ps) p = let m = map (λ (r : Prefix × Entry). r.0) q.rows in ap (λ ks. m ++ ks) (prefixes-append ps p) ∙ sym (append_assoc m (patched_prefixes ps) (map (λ (r : Prefix × Entry). r.0) p.rows))

pub patches-last : {A : Type 0} (ps : List (PatchFields A)) (p : PatchFields A) → map patch_of (ps ++ p ∷ []) ≡ map patch_of ps ++ patch_of p ∷ []
patches-last [] p = λ _. patch_of p ∷ []
patches-last (q ∷ ps) p = ap (λ l. patch_of q ∷ l) (patches-last ps p)

-- a patch that waits too names its prefixes too
pub waits_too : {A : Type 0} (ps : List (PatchFields A)) (p : PatchFields A) (ks : List Prefix) → ks ≡ patched_prefixes (map patch_of ps) → ks ++ map (λ (r : Prefix × Entry). r.0) p.rows.items ≡ patched_prefixes (map patch_of (ps ++ p ∷ []))
waits_too ps p ks is = ap (λ l. l ++ map (λ (r : Prefix × Entry). r.0) p.rows.items) is ∙ sym (ap patched_prefixes (patches-last ps p) ∙ prefixes-append (map patch_of ps) (patch_of p))
