-- Every moment comes to rest.
use Rattle.std.proofs.Common.{refl, subst, ◌≡◌, List}
use Rattle.no_packet_loops.proofs.Common.{Prefix, Topology}
use Rattle.coming_to_rest.specs.Rest.{IsFinite}
use Rattle.coming_to_rest.proofs.{Order.every, Measure.top}
use Rattle.daemon_laws.specs.{Processes.Processes, Happenings.Happening, Happenings.after_happening}
use Rattle.daemons_come_to_rest.specs.Rest.{HappensAlone, ProcessesComeToRest, rests, ProcessesAlwaysComeToRest, AlwaysHasBound}
use Rattle.daemons_come_to_rest.proofs.{Gathered.KnownIn, Gathered.prefixes_in, Gathered.all_known, Kept.Kept, Kept.kept_next, Kept.kept_reached, Bounds.alone_can, Bounds.has_bound}
use Rattle.daemons_come_to_rest.proofs.Falling.{all_places, all_loads, all_dues, ProcessesFall, goes_alone}

module _ (t : Topology) (F : IsFinite t) (ps : List Prefix) where
  -- something that still happens leads from the one to the other
  record Leads (w v : Processes) : Type 0 where
    happening : Happening
    alone : HappensAlone F.routers w happening
    to : after_happening t w happening ≡ v

  -- what is kept at every moment, and all prefixes are these
  record Good (w : Processes) : Type 0 where
    kept : Kept t w
    known : KnownIn t F.routers ps w

  -- it is kept
  keeps : (w v : Processes) → Good w → Leads w v → Good v
  keeps w v G L = subst Good L.to (record { kept = kept_next t w L.happening G.kept (alone_can F.routers w L.happening L.alone); known = (goes_alone t F ps w G.kept G.known L.happening L.alone).known })

  -- and the measure falls
  falls : (w v : Processes) → Good w → Leads w v → ProcessesFall t F ps w v
  falls w v G L = subst (ProcessesFall t F ps w) L.to (goes_alone t F ps w G.kept G.known L.happening L.alone).falls

  -- so all that is good comes to rest
  good_rests : (w : Processes) → Good w → ProcessesComeToRest t F.routers w
  good_rests = every Leads Good (ProcessesComeToRest t F.routers) (all_places t F ps) (all_loads t F ps) (all_dues t F ps) top
      (λ w close. rests w (λ h alone. close (after_happening t w h) (record { happening = h; alone = alone; to = refl }))) keeps falls

pub kept_rests : (t : Topology) (F : IsFinite t) (w : Processes) → Kept t w → ProcessesComeToRest t F.routers w
kept_rests t F w K = good_rests t F (prefixes_in t F w) w (record { kept = K; known = all_known t F w })

-- every moment comes to rest
pub always_rests : ProcessesAlwaysComeToRest
always_rests t w M F = kept_rests t F w (kept_reached t w M)

pub always_bounded : AlwaysHasBound
always_bounded t w M F = let K = kept_reached t w M in has_bound t F w K (kept_rests t F w K)
