-- What a step may change, and the marks of it.
use Rattle.std.specs.Prelude.{◌≡◌, ◌≢◌, ◌||◌, ℕ, Bool, true, false, is_some, List, Option, Some, None, map, slice_get, vec_len}
use Rattle.std.specs.{FinMap.find as row_of, Option.option_map_or}
use Rattle.ipv4_prefix.specs.Prefix.{Prefix, prefix_cmp}
use Rattle.network_model.specs.{declared.item.Item.Item, declared.step.Step.Step, declared.step.Step.TheVariants.LinkDown, declared.step.Step.TheVariants.Deliver, declared.step.Step.TheVariants.Publish, World.World, Step.changed_rows, Step.front_at}
use Rattle.world.specs.Touched.{touched_by}
use Rattle.run_states.specs.{declared.link_book.LinkBook.LinkBook, declared.router_book.RouterBook.RouterBook, declared.recorder.Recorder.Recorder, Recorders.IsRecorderOf, Recorders.ShowSame}
use Rattle.run_states.specs.Books.{MachinesMarked, matches_prefix, link_shows, router_shows}

-- the link that a step may change
abbrev pub touched_link : World → Step → Option ℕ
touched_link w s = (touched_by s w).link

-- the first, if there is one, or else the second
abbrev pub either_of : Option ℕ → Option ℕ → Option ℕ
either_of (Some i) o = Some i
either_of None o = o

-- the router that a step may change, or of which it may change the attachments
abbrev pub touched_router : World → Step → Option ℕ
touched_router w s = either_of (touched_by s w).router (touched_by s w).attachments

-- the prefix of an item that is a message
abbrev pub message_prefix : Option Item → Option Prefix
message_prefix (Some (Item.Message m)) = Some m.prefix
message_prefix _ = None

-- whether a step may change the machine of that router for a prefix, or one of its rows: a message is for one prefix, all else that is
-- delivered may be for each, and a publication puts the rows in force that changed
abbrev pub may_touch : World → Step → Prefix → Bool
may_touch w (Deliver i q) p = matches_prefix (message_prefix (front_at w i q)) p
may_touch w (Publish i) p = option_map_or (λ r. is_some (row_of prefix_cmp p (changed_rows r.table))) (slice_get w.routers i) false
may_touch w _ p = false

-- whether a step takes from a link the messages that stood on it: only one that brings the link down
abbrev pub cuts : Step → Bool
cuts (LinkDown l) = true
cuts _ = false

-- the book of this link is cut now exactly if it was cut before or the link goes down. Each other book keeps its flag
pub record AreCut (link : Option ℕ) (goes_down : Bool) (before after : List LinkBook) : Type 0 where
  pub this : (l : ℕ) (old new : LinkBook) → link ≡ Some l → slice_get before l ≡ Some old → slice_get after l ≡ Some new → new.is_cut ≡ (old.is_cut || goes_down)
  pub others : (l : ℕ) (old new : LinkBook) → link ≢ Some l → slice_get before l ≡ Some old → slice_get after l ≡ Some new → new.is_cut ≡ old.is_cut

-- this link's book is marked, where there is one, and cut, if the link goes down. All else of the recorder stays: those that are not marked
-- now were not changed, and are of others
pub record LinkMarked (link : Option ℕ) (goes_down : Bool) (before after : Recorder) : Type 0 where
  pub prefixes : after.prefixes ≡ before.prefixes
  pub routers : after.routers ≡ before.routers
  pub shows : map link_shows (after.links).items ≡ map link_shows (before.links).items
  pub many : vec_len after.links ≡ vec_len before.links
  pub books : (l : ℕ) (b : LinkBook) → slice_get (after.links).items l ≡ Some b → b.is_marked ≡ false
      → (slice_get (before.links).items l ≡ Some b) × (link ≢ Some l)
  pub cut : AreCut link goes_down (before.links).items (after.links).items

-- this router's book is marked, where there is one, with all of its machines but for prefixes of which this is so; all else of the
-- recorder stays
pub record RouterMarked (router : ℕ) (Spared : Prefix → Type 0) (before after : Recorder) : Type 0 where
  pub prefixes : after.prefixes ≡ before.prefixes
  pub links : after.links ≡ before.links
  pub shows : map router_shows (after.routers).items ≡ map router_shows (before.routers).items
  pub many : vec_len after.routers ≡ vec_len before.routers
  pub others : (i : ℕ) → i ≢ router → slice_get (after.routers).items i ≡ slice_get (before.routers).items i
  pub book : (b : RouterBook) → slice_get (after.routers).items router ≡ Some b
      → (old : RouterBook) × (slice_get (before.routers).items router ≡ Some old) × MachinesMarked Spared (before.prefixes).items old b

-- of the routers that is marked which a step may change, with the machines that it may change
pub record StepMarked (w : World) (s : Step) (before after : Recorder) : Type 0 where
  pub none : touched_router w s ≡ None → after ≡ before
  pub one : (i : ℕ) → touched_router w s ≡ Some i → RouterMarked i (λ p. may_touch w s p ≡ false) before after

-- all that a step may change is marked, and all else of the recorder stays: what was shown is shown. The book of a link that the step brings
-- down is cut
pub record MarksTouched (w : World) (s : Step) (before after : Recorder) : Type 0 where
  pub prefixes : after.prefixes ≡ before.prefixes
  pub shows : ShowSame before after
  pub links : (l : ℕ) (b : LinkBook) → slice_get (after.links).items l ≡ Some b → b.is_marked ≡ false
      → (slice_get (before.links).items l ≡ Some b) × (touched_link w s ≢ Some l)
  pub cut : AreCut (touched_link w s) (cuts s) (before.links).items (after.links).items
  pub others : (i : ℕ) → touched_router w s ≢ Some i → slice_get (after.routers).items i ≡ slice_get (before.routers).items i
  pub book : (i : ℕ) (b : RouterBook) → touched_router w s ≡ Some i → slice_get (after.routers).items i ≡ Some b
      → (old : RouterBook) × (slice_get (before.routers).items i ≡ Some old) × MachinesMarked (λ p. may_touch w s p ≡ false) (before.prefixes).items old b
  pub of : (v : World) → IsRecorderOf v before → IsRecorderOf v after
