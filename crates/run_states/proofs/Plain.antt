-- Values without floats: all that is written of a run.
use Rattle.std.proofs.Common.{◌≡◌, ℕ, refl, ap, ◌∙◌, Bool, true, false, List, [], ◌∷◌, ◌++◌, Option, Some, None, map, length, nat_cmp, Ordering, Less, Equal, Greater, ◌||◌, ◌==◌, nat_lt, if◌then◌else◌, filter, codes, vec_len}
use Rattle.std.proofs.lemmas.Bool.{or_parts}
use Rattle.std.specs.{Option.option_map_or, List.flat_map, List.range_with_len, Cmp.Lexicographic.slice_cmp, Ordering.match_ordering}
use Rattle.std.specs.FinSet as set
use Rattle.ipv4_prefix.specs.{Prefix.Prefix, Texts.prefix_text}
use Rattle.metric.specs.Distance.{infinity}
use Rattle.network_model.specs.{declared.item.Item.Item, declared.network.End.End, declared.network.LinkSpec.LinkSpec, declared.network.Place.Place, declared.route.Entry.Entry, declared.route.Entry.TheVariants.Via, World.Network, World.World, World.place_at}
use Rattle.serde_json.specs.Data.{Data, null, boolean, object, Members, no_members, member, put}
use Rattle.serde_json.specs.{View.items_of, Written.has_float, Written.items_have_float, Written.members_have_float}
use Rattle.texts.specs.Words.{Text}
use Rattle.script.specs.Directories.{Directory, name_text}
use Rattle.run_states.specs.{declared.link_book.LinkChange.LinkChange, declared.queue.QueueChange.QueueChange, declared.recorder.Changes.Changes, declared.router_book.RouterChange.RouterChange, declared.shown.MachineShown.MachineShown, Queues.is_nothing}
use Rattle.run_states.specs.Values.{count_value, distance_data, entry_data, item_data, items_data, link_data, links_data, list, listed, machine_data, machine_members, machines_data, number_of_end, opening_data, port_data, ports_data, put_if, put_list, put_moment, put_step, queue_data, queue_listed, queues_data, router_data, routers_data, state_data, word}

-- ---- tests

or_false : {a b : Bool} → a ≡ false → b ≡ false → (a || b) ≡ false
or_false {b = b} first second = ap (λ x. x || b) first ∙ second

if_plain : (b : Bool) (x y : Data) → has_float x ≡ false → has_float y ≡ false → has_float (if b then x else y) ≡ false
if_plain true x y one other = one
if_plain false x y one other = other

-- ---- lists and members

module _ {A : Type 0} where
  map_plain : (f : A → Data) (xs : List A) → ((x : A) → has_float (f x) ≡ false) → items_have_float (items_of (map f xs)) ≡ false
  map_plain f [] each = refl
  map_plain f (x ∷ xs) each = or_false (each x) (map_plain f xs each)

  listed_plain : (f : A → Data) (o : Option A) → ((x : A) → has_float (f x) ≡ false) → items_have_float (items_of (listed f o)) ≡ false
  listed_plain f None each = refl
  listed_plain f (Some x) each = or_false (each x) refl

append_plain : (xs ys : List Data) → items_have_float (items_of xs) ≡ false → items_have_float (items_of ys) ≡ false → items_have_float (items_of (xs ++ ys)) ≡ false
append_plain [] ys first second = second
append_plain (x ∷ xs) ys first second = or_false (or_parts (has_float x) _ first).0 (append_plain xs ys (or_parts (has_float x) _ first).1 second)

flat_map_plain : {A : Type 0} (f : A → List Data) (xs : List A) → ((x : A) → items_have_float (items_of (f x)) ≡ false) → items_have_float (items_of (flat_map f xs)) ≡ false
flat_map_plain f [] each = refl
flat_map_plain f (x ∷ xs) each = append_plain (f x) (flat_map f xs) (each x) (flat_map_plain f xs each)

put_plain : (k : Text) (d : Data) (ms : Members) → has_float d ≡ false → members_have_float ms ≡ false → members_have_float (put k d ms) ≡ false
put_plain k d no_members plain all = or_false plain refl
put_plain k d (member l e ms) plain all = by_order (slice_cmp nat_cmp k l) (put_plain k d ms plain (or_parts (has_float e) _ all).1)
  where
    by_order : (o : Ordering) → members_have_float (put k d ms) ≡ false → members_have_float (match_ordering o (member k d (member l e ms)) (member l d ms) (member l e (put k d ms))) ≡ false
    by_order Less later = or_false plain all
    by_order Equal later = or_false plain (or_parts (has_float e) _ all).1
    by_order Greater later = or_false (or_parts (has_float e) _ all).0 later

put_if_plain : (b : Bool) (k : Text) (d : Data) (ms : Members) → has_float d ≡ false → members_have_float ms ≡ false → members_have_float (put_if b k d ms) ≡ false
put_if_plain true k d ms plain all = put_plain k d ms plain all
put_if_plain false k d ms plain all = all

put_list_plain : (k : Text) (ds : List Data) (ms : Members) → items_have_float (items_of ds) ≡ false → members_have_float ms ≡ false → members_have_float (put_list k ds ms) ≡ false
put_list_plain k ds ms plain all = put_if_plain (nat_lt 0 (length ds)) k (list ds) ms plain all

put_step_plain : (step : Option Text) (ms : Members) → members_have_float ms ≡ false → members_have_float (put_step step ms) ≡ false
put_step_plain None ms all = all
put_step_plain (Some text) ms all = put_plain (codes "step") (word text) ms refl all

-- ---- parts of a state

distance_plain : (d : ℕ) → has_float (distance_data d) ≡ false
distance_plain d = if_plain (d == infinity) null (count_value d) refl refl

port_plain : (w : World) (i q : ℕ) → has_float (port_data w i q) ≡ false
port_plain w i q = of_place (place_at w i q)
  where
    of_place : (o : Option Place) → has_float (option_map_or (λ p. count_value p.link) o null) ≡ false
    of_place None = refl
    of_place (Some p) = refl

entry_plain : (w : World) (i : ℕ) (e : Option Entry) → has_float (entry_data w i e) ≡ false
entry_plain w i (Some (Via q session)) = or_false (port_plain w i q) refl
entry_plain w i _ = refl

machine_plain : (w : World) (i p : ℕ) (m : MachineShown) → has_float (machine_data w i p m) ≡ false
machine_plain w i p m = by_origin (m.at).origin
  where
    rest : members_have_float (machine_members w i p m) ≡ false
    rest = or_false (entry_plain w i m.chosen) (or_false (distance_plain (m.at).fd) (or_false (entry_plain w i m.published) (or_false (distance_plain (m.at).rd) refl)))

    by_origin : (o : Option ℕ) → has_float (object (option_map_or (λ origin. member (codes "active") (count_value origin) (member (codes "awaits") (ports_data w i m.awaited) (machine_members w i p m))) o (machine_members w i p m))) ≡ false
    by_origin None = rest
    by_origin (Some origin) = or_false (map_plain (port_data w i) (filter (set.contains m.awaited) (range_with_len 0 32)) (port_plain w i)) rest

item_plain : (ps : List Prefix) (item : Item) → has_float (item_data ps item) ≡ false
item_plain ps (Item.Message m) = or_false (distance_plain m.value) refl
item_plain ps _ = refl

queue_plain : (ps : List Prefix) (l : ℕ) (e : End) (c : QueueChange) → has_float (queue_data ps l e c) ≡ false
queue_plain ps l e c =
    let ends : Members = put (codes "end") (count_value (number_of_end e)) (put (codes "link") (count_value l) no_members) in
    let taken : Members = put_if (nat_lt 0 c.take) (codes "take") (count_value c.take) ends in
    let lost : Members = put_if c.lose (codes "lose") (boolean true) taken in
    put_if_plain (nat_lt 0 (vec_len c.put)) (codes "put") (items_data ps (c.put).items) lost (map_plain (item_data ps) (c.put).items (item_plain ps))
    (put_if_plain c.lose (codes "lose") (boolean true) taken refl
    (put_if_plain (nat_lt 0 c.take) (codes "take") (count_value c.take) ends refl
    (put_plain (codes "end") (count_value (number_of_end e)) (put (codes "link") (count_value l) no_members) refl refl)))

queue_listed_plain : (ps : List Prefix) (l : ℕ) (e : End) (c : QueueChange) → items_have_float (items_of (queue_listed ps l e c)) ≡ false
queue_listed_plain ps l e c = by_test (is_nothing c)
  where
    by_test : (b : Bool) → items_have_float (items_of (if b then [] else queue_data ps l e c ∷ [])) ≡ false
    by_test true = refl
    by_test false = or_false (queue_plain ps l e c) refl

-- ---- lines

put_moment_plain : (moment : Option ℕ) (ms : Members) → members_have_float ms ≡ false → members_have_float (put_moment moment ms) ≡ false
put_moment_plain None ms all = all
put_moment_plain (Some moment) ms all = put_plain (codes "moment") (count_value moment) ms refl all

pub state_plain : (w : World) (ps : List Prefix) (k : ℕ) (step : Option Text) (moment : Option ℕ) (c : Changes) → has_float (state_data w ps k step moment c) ≡ false
state_plain w ps k step moment c =
    let numbered : Members = put (codes "number") (count_value k) (put (codes "kind") (word (codes "state")) no_members) in
    let said : Members = put_step step numbered in
    let stepped : Members = put_moment moment said in
    let linked : Members = put_list (codes "links") (links_data (c.links).items) stepped in
    let routed : Members = put_list (codes "routers") (routers_data (c.routers).items) linked in
    let machined : Members = put_list (codes "machines") (machines_data w (c.routers).items) routed in
    put_list_plain (codes "queues") (queues_data ps (c.links).items) machined
    (flat_map_plain (λ (x : ℕ × LinkChange). queue_listed ps x.0 End.A (x.1).to_a ++ queue_listed ps x.0 End.B (x.1).to_b) (c.links).items
    (λ x. append_plain (queue_listed ps x.0 End.A (x.1).to_a) (queue_listed ps x.0 End.B (x.1).to_b) (queue_listed_plain ps x.0 End.A (x.1).to_a) (queue_listed_plain ps x.0 End.B (x.1).to_b)))
    (put_list_plain (codes "machines") (machines_data w (c.routers).items) routed
    (flat_map_plain (λ (x : ℕ × RouterChange). map (λ m. machine_data w x.0 m.0 m.1) ((x.1).machines).items) (c.routers).items
    (λ x. map_plain (λ (m : ℕ × MachineShown). machine_data w x.0 m.0 m.1) ((x.1).machines).items (λ m. machine_plain w x.0 m.0 m.1)))
    (put_list_plain (codes "routers") (routers_data (c.routers).items) linked
    (flat_map_plain (λ (x : ℕ × RouterChange). listed (router_data x.0) (x.1).shown) (c.routers).items (λ x. listed_plain (router_data x.0) (x.1).shown (λ r. refl)))
    (put_list_plain (codes "links") (links_data (c.links).items) stepped
    (flat_map_plain (λ (x : ℕ × LinkChange). listed (link_data x.0) (x.1).shown) (c.links).items (λ x. listed_plain (link_data x.0) (x.1).shown (λ k. refl)))
    (put_moment_plain moment said
    (put_step_plain step numbered
    (put_plain (codes "number") (count_value k) (put (codes "kind") (word (codes "state")) no_members) refl refl))))))

pub opening_plain : (n : Network) (d : Directory) (ps : List Prefix) (steps every : ℕ) → has_float (opening_data n d ps steps every) ≡ false
opening_plain n d ps steps every =
    let formed : Members = put (codes "format") (count_value 1) (put (codes "kind") (word (codes "opening")) no_members) in
    let counted : Members = put (codes "steps") (count_value steps) formed in
    let paced : Members = put (codes "every") (count_value every) counted in
    let named : Members = put (codes "routers") (list (map (λ (i : ℕ). word (name_text d (Some i))) (range_with_len 0 n.routers))) paced in
    let linked : Members = put (codes "links") (list (map (λ (k : LinkSpec). list (count_value k.a ∷ count_value k.b ∷ [])) n.links)) named in
    put_plain (codes "prefixes") (list (map (λ (p : Prefix). word (prefix_text p)) ps)) linked (map_plain (λ (p : Prefix). word (prefix_text p)) ps (λ p. refl))
    (put_plain (codes "links") (list (map (λ (k : LinkSpec). list (count_value k.a ∷ count_value k.b ∷ [])) n.links)) named (map_plain (λ (k : LinkSpec). list (count_value k.a ∷ count_value k.b ∷ [])) n.links (λ k. refl))
    (put_plain (codes "routers") (list (map (λ (i : ℕ). word (name_text d (Some i))) (range_with_len 0 n.routers))) paced (map_plain (λ (i : ℕ). word (name_text d (Some i))) (range_with_len 0 n.routers) (λ i. refl))
    (put_plain (codes "every") (count_value every) counted refl
    (put_plain (codes "steps") (count_value steps) formed refl refl))))
