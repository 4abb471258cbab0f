-- What a trace that has passed some routers is, where it goes, and what it is by definition.
use Rattle.std.proofs.Common.{refl, sym, ap, subst, ◌∙◌, ◌≡◌, ◌≢◌, ℕ, suc, ◌<◌, Bool, true, false, if◌then◌else◌, List, [], ◌∷◌, ◌++◌, length, Option, Some, None, IsSome, is_some, slice_get, option_and_then, append_assoc, zero}
use Rattle.no_packet_loops.proofs.Common.{slice_get_within, Prefix, longest_match, Entry, Ending, Router, World, image_answer, Onward, Ends, Goes, Trace, row_for, entry_leads, is_crossed, by_entry, by_row, onward, traced_by, trace, trace_from, IsPacketWalk, None_not_Some, Some_injective, element_there, meets_twice, hop, trace_of}
use Rattle.no_packet_loops.proofs.Traces.{by_entry-goes, trace_walk}
use Rattle.network_model.specs.declared.trace.Trace.{Trace as Traced}
use Rattle.fabric.specs.Fabric.{Fabric, ForwardsAsPublished}
use Rattle.fabric.specs.Headline.{image_row, image_hop, none_published, IsImageWalk, IsImageWay}
use Rattle.no_packet_loops.specs.Packets.{TracesEnd}
use Rattle.all_packets.specs.{Packets.IsWay, Through.through_from, Through.ThroughEnds, Through.through as trace_through}
use Rattle.all_packets.proofs.Improving.{way_by}
use Rattle.tracer.specs.Following.{FollowsEnd, followed_way, followed_from, kept_prefix}
use Rattle.course.specs.Links.{LeadsToRouters}

-- a trace with these routers passed before it
abbrev pub behind : List ℕ → Trace → Trace
behind before t = record { path = before ++ t.path; end = t.end }

module _ (through : Bool) (w : World) (addr n : ℕ) (first : Option Prefix) (i : ℕ) (before : List ℕ) where
  -- what such a trace is where the router does this
  abbrev done : Onward → Trace
  done o = behind before (traced_by (λ p k. followed_from through n w addr (kept_prefix through p) k) i o)

  -- where it ends at the router
  pub ends_here : (end : Ending) → onward w addr first i ≡ Ends end → behind before (followed_from through (suc n) w addr first i) ≡ record { path = before ++ i ∷ []; end = Some end }
  ends_here end is = ap done is

  -- where it goes on from the router
  pub goes_on : (p : Prefix) (k : ℕ) → onward w addr first i ≡ Goes p k → behind before (followed_from through (suc n) w addr first i) ≡ behind (before ++ i ∷ []) (followed_from through n w addr (kept_prefix through p) k)
  goes_on p k is =
      let rest : Trace = followed_from through n w addr (kept_prefix through p) k in
      ap done is ∙ ap (λ (xs : List ℕ). record { path = xs; end = rest.end }) (sym (append_assoc before (i ∷ []) rest.path))

-- ---- what a trace is by definition

-- a trace with a router before it
abbrev after_router : ℕ → Trace → Trace
after_router i t = record { path = i ∷ t.path; end = t.end }

-- by one prefix it is a trace
is_trace_from : (n : ℕ) (w : World) (addr : ℕ) (first : Option Prefix) (i : ℕ) → followed_from false n w addr first i ≡ trace_from n w addr first i
is_trace_from zero w addr first i = refl
is_trace_from (suc n) w addr first i = by_onward (onward w addr first i) (is_trace_from n w addr)
  where
    by_onward : (o : Onward) → ((first : Option Prefix) (k : ℕ) → followed_from false n w addr first k ≡ trace_from n w addr first k) → traced_by (λ p k. followed_from false n w addr (Some p) k) i o ≡ traced_by (λ p k. trace_from n w addr (Some p) k) i o
    by_onward (Ends end) rest = refl
    by_onward (Goes p k) rest = ap (after_router i) (rest (Some p) k)

pub is_trace : (w : World) (i addr : ℕ) → followed_way false w i addr ≡ trace w i addr
is_trace w i addr = is_trace_from (length w.routers) w addr None i

-- and through, it is a trace through
is_through_from : (n : ℕ) (w : World) (addr i : ℕ) → followed_from true n w addr None i ≡ through_from n w addr i
is_through_from zero w addr i = refl
is_through_from (suc n) w addr i = by_onward (onward w addr None i) (is_through_from n w addr)
  where
    by_onward : (o : Onward) → ((k : ℕ) → followed_from true n w addr None k ≡ through_from n w addr k) → traced_by (λ p k. followed_from true n w addr None k) i o ≡ traced_by (λ p k. through_from n w addr k) i o
    by_onward (Ends end) rest = refl
    by_onward (Goes p k) rest = ap (after_router i) (rest k)

pub is_through : (w : World) (i addr : ℕ) → followed_way true w i addr ≡ trace_through w i addr
is_through w i addr = is_through_from (length w.routers) w addr i

-- either ends, from a router of the world
pub follows_end : (w : World) → TracesEnd w → ThroughEnds w → FollowsEnd w
follows_end w traces through = record { ends = ends }
  where
    ends : (b : Bool) (i addr : ℕ) → i < length w.routers → IsSome (followed_way b w i addr).end
    ends false i addr known = subst (λ (t : Trace). IsSome t.end) (sym (is_trace w i addr)) (traces.ends i addr known)
    ends true i addr known = ap is_some (ap (λ (t : Trace). t.end) (is_through w i addr) ∙ (through.ends i addr known).is)

-- ---- where a trace goes on, it goes to a router

-- by a row to a router to which some entry leads
by_row-goes : (w : World) (i : ℕ) (first : Option Prefix) (row : Option (Prefix × Entry)) (q : Prefix) (k : ℕ) → by_row w i first row ≡ Goes q k → (e : Entry) × (entry_leads w i e ≡ Some k)
by_row-goes w i first None q k h = absurd (let f : ⊥ = cc in f)
by_row-goes w i first (Some r) q k h = by_cross (is_crossed first r.0) h
  where
    by_cross : (b : Bool) → (if b then Ends Ending.Crossed else by_entry w i r.0 r.1) ≡ Goes q k → (e : Entry) × (entry_leads w i e ≡ Some k)
    by_cross true g = absurd (let f : ⊥ = cc in f)
    by_cross false g = (r.1, (by_entry-goes w i r.0 r.1 q k g).1)

-- a trace that goes on goes to a router of the world
pub goes_known : (w : World) → LeadsToRouters w → (addr : ℕ) (first : Option Prefix) (i : ℕ) (p : Prefix) (k : ℕ) → onward w addr first i ≡ Goes p k → k < length w.routers
goes_known w known addr first i p k is =
    let G = by_row-goes w i first (row_for w i addr) p k is in
    known i G.0 k G.1

-- ---- along the images in force

module _ (f : Fabric) (forwards : ForwardsAsPublished f) (addr : ℕ) where
  -- what a router published, its image in force gives
  row_in_force : (i : ℕ) (row : Prefix × Entry) → row_for f.world i addr ≡ Some row → image_row f none_published i addr ≡ Some row
  row_in_force i row h = by_router (slice_get f.world.routers i) refl h
    where
      by_router : (o : Option Router) → slice_get f.world.routers i ≡ o → option_and_then (λ r. longest_match addr (r.table).published) o ≡ Some row → image_row f none_published i addr ≡ Some row
      by_router None at g = absurd (None_not_Some g)
      by_router (Some r) at g =
          let within : i < length f.images = subst (λ n. i < n) (sym forwards.every_router) (slice_get_within f.world.routers i r at) in
          let E = element_there f.images i within in
          ap (option_and_then (λ image. image_answer image addr)) E.1 ∙ forwards.longest i r E.0 at E.1 addr ∙ g

  -- so where a packet of one prefix goes on, it does along the images in force
  pub walk_in_force : (p : Prefix) (walk : List ℕ) → IsPacketWalk f.world addr p walk → IsImageWalk f none_published addr p walk
  walk_in_force p (i ∷ k ∷ ks) w = (((w.0).0, row_in_force i (p, (w.0).0) (w.0).1, (w.0).2), walk_in_force p (k ∷ ks) w.1)
  walk_in_force p _ w = tt

  -- and a packet of any prefixes
  hop_in_force : (i k : ℕ) → hop f.world addr i ≡ Some k → image_hop f none_published addr i ≡ Some k
  hop_in_force i k h = by_row (row_for f.world i addr) refl h
    where
      by_row : (o : Option (Prefix × Entry)) → row_for f.world i addr ≡ o → option_and_then (λ r. entry_leads f.world i r.1) o ≡ Some k → image_hop f none_published addr i ≡ Some k
      by_row None is g = absurd (None_not_Some g)
      by_row (Some row) is g = ap (option_and_then (λ (r : Prefix × Entry). entry_leads f.world i r.1)) (row_in_force i row is) ∙ g

  pub way_in_force : (way : List ℕ) → IsWay f.world addr way → IsImageWay f none_published addr way
  way_in_force = way_by (λ i k. hop f.world addr i ≡ Some k) (λ i k. image_hop f none_published addr i ≡ Some k) hop_in_force

-- ---- what a trace that was answered is

module _ (w : World) (i addr : ℕ) where
  -- by one prefix: a way of a packet, and no router twice
  pub traces_walk : (t : Traced) → trace_of t ≡ followed_way false w i addr → (p : Prefix) × IsPacketWalk w addr p t.path.items
  traces_walk t is =
      let W = trace_walk w addr (length w.routers) i in
      (W.0, subst (λ (x : Trace). IsPacketWalk w addr W.0 x.path) (sym (is ∙ is_trace w i addr)) W.1)

  pub trace_twice : TracesEnd w → (t : Traced) → trace_of t ≡ followed_way false w i addr → meets_twice t.path.items ≡ false
  trace_twice traces t is = ap (λ (x : Trace). meets_twice x.path) (is ∙ is_trace w i addr) ∙ traces.none_twice i addr

  module _ (laws : ThroughEnds w) (t : Traced) (is : trace_of t ≡ followed_way true w i addr) where
    -- through: a way of a packet, no router twice, and a real end
    pub through_way : IsWay w addr t.path.items
    through_way = subst (λ (x : Trace). IsWay w addr x.path) (sym (is ∙ is_through w i addr)) (laws.ways i addr)

    pub through_twice : meets_twice t.path.items ≡ false
    through_twice = ap (λ (x : Trace). meets_twice x.path) (is ∙ is_through w i addr) ∙ laws.none_twice i addr

    pub through_ended : i < length w.routers → t.end ≢ Ending.Crossed
    through_ended known =
        let E = laws.ends i addr known in
        let same : t.end ≡ E.ending = Some_injective (ap (λ (x : Trace). x.end) (is ∙ is_through w i addr) ∙ E.is) in
        λ crossed. E.not_crossed (sym same ∙ crossed)
