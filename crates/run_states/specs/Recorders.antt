-- When a recorder shows a world as it is, and what becomes of it.
use Rattle.std.specs.Prelude.{◌≡◌, ◌≤◌, ℕ, List, [], ◌∷◌, Bool, false, true, is_some, None, Some, All, length, map, slice_get, slice_set, vec_len}
use Rattle.std.specs.{FinMap.find as row_of, FinMap.is_sorted, List.list_any}
use Rattle.ipv4_prefix.specs.Prefix.{Prefix, prefix_cmp, prefix_eq}
use Rattle.network_model.specs.Network.{most_links, most_routers}
use Rattle.network_model.specs.World.{Attachments, Link, Router, World}
use Rattle.run_states.specs.{declared.link_book.LinkBook.LinkBook, declared.link_book.LinkChange.LinkChange, declared.router_book.RouterBook.RouterBook, declared.router_book.RouterChange.RouterChange, declared.recorder.Changes.Changes, declared.recorder.Recorder.Recorder}
use Rattle.run_states.specs.Books.{HasPlaces, IsBlankRouter, LinkFollows, RouterFollows, ShowsLink, ShowsRouter, ShowsUnmarked, link_shows, router_shows}

-- a recorder has a book for each link and for each router, no more than a network has, and in those of routers a place for each
-- prefix
pub record IsRecorderOf (w : World) (r : Recorder) : Type 0 where
  pub links : vec_len r.links ≡ length w.links
  pub routers : vec_len r.routers ≡ length w.routers
  pub few_links : vec_len r.links ≤ most_links
  pub few_routers : vec_len r.routers ≤ most_routers
  pub places : All (HasPlaces (vec_len r.prefixes)) (r.routers).items

-- these are the prefixes to which some router is attached, in their order, each once: the keys of a map that has them and no others
pub record ArePrefixesOf (attachments : List (Prefix × ℕ × ℕ)) (prefixes : List Prefix) : Type 0 where
  pub rows : List (Prefix × Unit {0})
  pub are_keys : prefixes ≡ map (λ r. r.0) rows
  pub in_order : is_sorted prefix_cmp rows ≡ true
  pub have : (p : Prefix) → is_some (row_of prefix_cmp p rows) ≡ list_any (λ a. prefix_eq p a.0) attachments

-- ---- what is shown

-- the links whose books have this of their mark are shown as they are
abbrev pub LinksShownWhere : (Bool → Type 0) → World → Recorder → Type 0
LinksShownWhere P w r = (l : ℕ) (k : Link) (b : LinkBook) → slice_get w.links l ≡ Some k → slice_get (r.links).items l ≡ Some b → P b.is_marked → ShowsLink k b

-- this holds of each router of a world with the number of its notices and its book
abbrev pub EachRouter : (Router → ℕ → RouterBook → Type 0) → World → Recorder → Type 0
EachRouter P w r = (i : ℕ) (x : Router) (a : Attachments) (b : RouterBook) → slice_get w.routers i ≡ Some x → slice_get w.attachments i ≡ Some a
    → slice_get (r.routers).items i ≡ Some b → P x (length a.notices) b

-- of a router what is not marked is shown as it is
pub record IsRouterCurrent (prefixes : List Prefix) (x : Router) (notices : ℕ) (b : RouterBook) : Type 0 where
  pub router : b.is_marked ≡ false → ShowsRouter prefixes x notices b
  pub machines : ShowsUnmarked x prefixes (b.marks).items (b.machines).items

-- what is not marked is shown as it is
abbrev pub AreLinksCurrent : World → Recorder → Type 0
AreLinksCurrent = LinksShownWhere (λ marked. marked ≡ false)

-- of each router what is not marked is shown as it is
abbrev pub AreRoutersCurrent : World → Recorder → Type 0
AreRoutersCurrent w r = EachRouter (IsRouterCurrent (r.prefixes).items) w r

-- a recorder shows of the whole world all that is not marked, so that what is marked is all that may have changed
pub record IsCurrent (w : World) (r : Recorder) : Type 0 where
  pub links : AreLinksCurrent w r
  pub routers : AreRoutersCurrent w r

-- all is shown as it is
abbrev pub ShowsLinks : World → Recorder → Type 0
ShowsLinks = LinksShownWhere (λ _. Unit {0})

-- each router is shown as it is
abbrev pub ShowsRouters : World → Recorder → Type 0
ShowsRouters w r = EachRouter (ShowsRouter (r.prefixes).items) w r

-- the whole world is shown as it is
pub record ShowsWorld (w : World) (r : Recorder) : Type 0 where
  pub links : ShowsLinks w r
  pub routers : ShowsRouters w r

-- nothing was shown
pub record IsBlank (r : Recorder) : Type 0 where
  pub links : All (λ b. link_shows b ≡ (None, [], [])) (r.links).items
  pub routers : All IsBlankRouter (r.routers).items

-- two recorders show the same, whatever they mark
pub record ShowSame (before after : Recorder) : Type 0 where
  pub prefixes : after.prefixes ≡ before.prefixes
  pub links : map link_shows (after.links).items ≡ map link_shows (before.links).items
  pub routers : map router_shows (after.routers).items ≡ map router_shows (before.routers).items

-- ---- what has changed

-- the books become these by the changes, one after another, each of the book at its number
abbrev pub BooksFollow : {C B : Type 0} → (C → B → B → Type 0) → List (ℕ × C) → List B → List B → Type 0
BooksFollow Becomes [] before after = after ≡ before
BooksFollow {B = B} Becomes (c ∷ cs) before after = (old : B) × (new : B) × (slice_get before c.0 ≡ Some old) × Becomes c.1 old new
    × BooksFollow Becomes cs (slice_set before c.0 new) after

-- the books of links after these changes, one after another
abbrev pub LinksFollow : List (ℕ × LinkChange) → List LinkBook → List LinkBook → Type 0
LinksFollow = BooksFollow LinkFollows

-- the books of routers after these changes, one after another
abbrev pub RoutersFollow : List (ℕ × RouterChange) → List RouterBook → List RouterBook → Type 0
RoutersFollow = BooksFollow RouterFollows

-- one recorder follows from another by these changes
pub record RecorderFollows (c : Changes) (before after : Recorder) : Type 0 where
  pub prefixes : after.prefixes ≡ before.prefixes
  pub links : LinksFollow (c.links).items (before.links).items (after.links).items
  pub routers : RoutersFollow (c.routers).items (before.routers).items (after.routers).items
