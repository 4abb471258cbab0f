-- Which router an entry leads to over a link that is there.
use Rattle.std.proofs.Common.{◌≡◌, ◌∙◌, ℕ, false, Some, None, slice_get, option_map, option_and_then, if◌then◌else◌, ap}
use Rattle.no_packet_loops.proofs.Common.{option_map_or, Place, Link, Side, World, place_at, side, other, is_up_in, Entry, entry_leads}

pub leads_over : (w : World) (i q session : ℕ) (p : Place) → place_at w i q ≡ Some p → (k : Link) → slice_get w.links p.link ≡ Some k
    → entry_leads w i (Entry.Via q session) ≡ (if is_up_in session k then Some (side (other p.end) k).router else None)
leads_over w i q session p there k link =
    ap (λ o. if option_map_or (is_up_in session) (option_and_then (λ (x : Place). slice_get w.links x.link) o) false then option_map (λ (s : Side). s.router) (option_and_then (λ (x : Place). option_map (side (other x.end)) (slice_get w.links x.link)) o) else None) there
    ∙ ap (λ o. if option_map_or (is_up_in session) o false then option_map (λ (s : Side). s.router) (option_map (side (other p.end)) o) else None) link
