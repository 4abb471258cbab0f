-- Nothing is on its way where no link is.
use Rattle.std.proofs.Common.{refl, sym, ap, subst, ◌∙◌, ◌≡◌, Bool, true, false, ◌&&◌, if◌then◌else◌, [], ◌∷◌, ◌++◌, drop}
use Rattle.no_packet_loops.proofs.Common.{Held, Topology, LinkEnd, at_port}
use Rattle.network_model.proofs.Common.{both_ways}
use Rattle.daemon_laws.specs.{Processes.Processes, Packets.is_in_session}
use Rattle.daemon_laws.specs.Happenings.{Happening, Takes, Loses, Releases, is_same_end, with_coming, after_happening}
use Rattle.daemon_laws.proofs.{Cases.by_take, Cases.by_release, Releasing.as_carried, Invariant.Placed, Steps.coming_away}

module _ (t : Topology) (w : Processes) (placed : Placed t w) where
  -- nothing, without its first
  none_off : (e d : LinkEnd) → t.valid d ≡ false → with_coming e (drop 1) w.coming d ≡ []
  none_off e d out = go (is_same_end d e)
    where
      go : (b : Bool) → (if b then drop 1 (w.coming d) else w.coming d) ≡ []
      go true = ap (drop 1) (placed d out)
      go false = placed d out

  pub placed_next : (h : Happening) → (d : LinkEnd) → t.valid d ≡ false → (after_happening t w h).coming d ≡ []
  placed_next (Takes e) d out = by_take t w (λ v. v.coming d ≡ []) (placed d out) e (λ c at le. none_off e d out)
  placed_next (Loses e) d out = none_off e d out
  placed_next (Releases i) d out = by_release t w (λ v. v.coming d ≡ []) (placed d out) i (λ h at. by_test h (t.valid (at_port i h.port)) (is_in_session w (at_port i h.port) h.session) refl)
    where
      by_test : (h : Held) (b c : Bool) → t.valid (at_port i h.port) ≡ b → (if b && c then with_coming (t.far (at_port i h.port)) (λ cs. cs ++ as_carried h ∷ []) w.coming else w.coming) d ≡ []
      by_test h true true v =
          coming_away (t.far (at_port i h.port)) (λ cs. cs ++ as_carried h ∷ []) w.coming d
          (λ is. both_ways (t.valid d) out (subst (λ z. t.valid z ≡ true) (sym is) (t.far_valid (at_port i h.port) v)))
          ∙ placed d out
      by_test h _ _ v = placed d out
  placed_next _ d out = placed d out
