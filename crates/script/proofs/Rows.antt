-- Worked examples: each definition computes what it is to say.
use Rattle.std.proofs.Common.{◌≡◌, ℕ, inl, inr, List, [], ◌∷◌, Some, None, codes, refl, ap, arith}
use Rattle.script.proofs.Common.{Prefix, LinkSpec, LinkUp, SetCost, Deliver, Publish, Attach, Detach, Text, words_of, router_number, router_named, IsLink, IsAttachment, link_between, IsPortOn, IsCommand, IsCommandFault, Directory, neighbours_of, directory_of, source_at}
use Rattle.script.specs.{declared.command.Command.Command, declared.fault.LineFault.TheVariants.BadCost}
use Rattle.std.specs.Fmt.{digits}
use Rattle.script.proofs.StepTexts.{clash}

four_words : words_of (codes "a b 1 20") ≡ codes "a" ∷ codes "b" ∷ codes "1" ∷ codes "20" ∷ []
four_words = refl

-- two spaces in a row have an empty word between them
empty_word : words_of (codes "a  b") ≡ codes "a" ∷ [] ∷ codes "b" ∷ []
empty_word = refl

abbrev names : List Text
names = codes "a" ∷ codes "b" ∷ codes "c" ∷ []

second_name : router_number names (codes "b") ≡ Some 1
second_name = refl

no_name : router_named names (codes "d") ≡ 65535
no_name = refl

-- a to b, b to c, a to c
abbrev links : List LinkSpec
links = record { a = 0; b = 1; from_a = 1; from_b = 1 } ∷ record { a = 1; b = 2; from_a = 1; from_b = 1 } ∷ record { a = 0; b = 2; from_a = 1; from_b = 1 } ∷ []

either_order : link_between 2 1 links ≡ Some 1
either_order = refl

not_joined : link_between 1 1 links ≡ None
not_joined = refl

-- the second link of c is its port 1
second_port : IsPortOn links 2 2 1
second_port = refl

across : neighbours_of links 0 ≡ 1 ∷ 2 ∷ []
across = refl

-- c is attached to 10.0.0.0/8 at the cost 3
abbrev attachments : List (Prefix × ℕ × ℕ)
attachments = (record { addr = 167772160; len = 8 }, 2, 3) ∷ []

-- ---- lines

asks_up : IsCommand names links attachments (codes "up c b") (Command.Step (LinkUp 1))
asks_up = (2, record { name = codes "c"; neighbour = codes "b"; spelled = refl; way = record { far = 1; known = refl; far_known = refl; joined = refl } })

-- c takes from its port to a, which is its second
asks_deliver : IsCommand names links attachments (codes "deliver c a") (Command.Step (Deliver 2 1))
asks_deliver = (
  inl (2, record { name = codes "c"; neighbour = codes "a"; spelled = refl; way = record { far = 0; known = refl; far_known = refl; joined = refl } }, λ e. clash (codes "c") (codes "a") [] [] refl (ap (λ t. t ∷ []) e), refl),
  omega arith,
)

-- c takes a notice of its own attachments: past its two ports
asks_deliver_home : IsCommand names links attachments (codes "deliver c c") (Command.Step (Deliver 2 2))
asks_deliver_home = (inr (record { name = codes "c"; spelled = refl; known = refl }, refl), omega arith)

asks_attach : IsCommand names links attachments (codes "attach a 10.0.0.0/8 7") (Command.Step (Attach 0 (record { addr = 167772160; len = 8 }) 7))
unfolding digits
asks_attach = (
  codes "10.0.0.0/8",
  record { name = codes "a"; spelled = refl; has_text = λ e. cc; known = refl; small = omega arith },
  (record { short = omega arith; fits = omega arith; no_host_bits = refl }, refl),
  record { positive = omega arith; small = omega arith },
  (2, 3, (0, omega arith, refl)),
)

asks_detach : IsCommand names links attachments (codes "try detach c 10.0.0.0/8") (Command.Try (Detach 2 (record { addr = 167772160; len = 8 })))
unfolding digits
asks_detach = (
  words_of (codes "detach c 10.0.0.0/8"),
  refl,
  (
    codes "10.0.0.0/8",
    record { name = codes "c"; spelled = refl; has_text = λ e. cc; known = refl },
    (record { short = omega arith; fits = omega arith; no_host_bits = refl }, refl),
    (2, 3, (0, omega arith, refl)),
  ),
)

-- b sets the cost at its port to a, which is its first
asks_cost : IsCommand names links attachments (codes "cost b a 7") (Command.Step (SetCost 1 0 7))
unfolding digits
asks_cost = (
  (0, record { name = codes "b"; neighbour = codes "a"; spelled = refl; way = record { far = 0; known = refl; far_known = refl; joined = refl }; small = omega arith }, refl, omega arith),
  record { positive = omega arith; small = omega arith },
)

-- a link that is there, and a number that is no cost
no_cost : IsCommandFault names links attachments (codes "try cost b a 0") BadCost
unfolding digits
no_cost = inr (inl (
  words_of (codes "cost b a 0"),
  refl,
  inl (
    1,
    0,
    0,
    (0, record { name = codes "b"; neighbour = codes "a"; spelled = refl; way = record { far = 0; known = refl; far_known = refl; joined = refl }; small = omega arith }, refl, omega arith),
    λ is. omega (arith, is.positive),
  ),
))

asks_try : IsCommand names links attachments (codes "try publish b") (Command.Try (Publish 1))
asks_try = (words_of (codes "publish b"), refl, record { name = codes "b"; spelled = refl; known = refl })

asks_state : IsCommand names links attachments (codes "state a 10.0.0.0/8") (Command.State 0 (record { addr = 167772160; len = 8 }))
unfolding digits
asks_state = (
  codes "10.0.0.0/8",
  record { name = codes "a"; spelled = refl; has_text = λ e. cc; known = refl },
  (record { short = omega arith; fits = omega arith; no_host_bits = refl }, refl),
  (2, 3, (0, omega arith, refl)),
)

asks_through : IsCommand names links attachments (codes "trace c 10.0.0.1 --through") (Command.TraceThrough 2 167772161)
unfolding digits
asks_through = (
  codes "10.0.0.1",
  record { name = codes "c"; spelled = refl; has_text = λ e. cc; known = refl },
  (omega arith, refl),
)

asks_lookup : IsCommand names links attachments (codes "lookup b 10.0.0.1") (Command.Lookup 1 167772161)
unfolding digits
asks_lookup = (
  codes "10.0.0.1",
  record { name = codes "b"; spelled = refl; has_text = λ e. cc; known = refl },
  (omega arith, refl),
)

asks_inject : IsCommand names links attachments (codes "inject b 10.0.0.1") (Command.Inject 1 167772161)
unfolding digits
asks_inject = (
  codes "10.0.0.1",
  record { name = codes "b"; spelled = refl; has_text = λ e. cc; known = refl },
  (omega arith, refl),
)

asks_trace : IsCommand names links attachments (codes "trace c 10.0.0.1") (Command.Trace 2 167772161)
unfolding digits
asks_trace = (
  codes "10.0.0.1",
  record { name = codes "c"; spelled = refl; has_text = λ e. cc; known = refl },
  (omega arith, refl),
)

asks_drain : IsCommand names links attachments (codes "drain") Command.Drain
asks_drain = refl

-- an end that is not known is no router
is_link : IsLink names (codes "b z 1 20") (record { a = 1; b = 65535; from_a = 1; from_b = 20 })
unfolding digits
is_link = (
  record { a = codes "b"; b = codes "z"; from_a = 1; from_b = 20; words = refl; has_a = λ e. cc; has_b = λ e. cc; small_a = omega arith; small_b = omega arith },
  (record { positive = omega arith; small = omega arith }, record { positive = omega arith; small = omega arith }),
  refl,
)

-- c at the cost 20, and b at the cost 1, which the line does not say
is_attachment : IsAttachment names (codes "10.0.0.0/8 c 20") (record { addr = 167772160; len = 8 }, 2, 20)
unfolding digits
is_attachment = (
  record { prefix = codes "10.0.0.0/8"; name = codes "c"; router = 2; cost = 20; words = inl refl; has_prefix = λ e. cc; known = refl; small = omega arith },
  (record { short = omega arith; fits = omega arith; no_host_bits = refl }, refl),
  refl,
  refl,
  record { positive = omega arith; small = omega arith },
)

is_least_attachment : IsAttachment names (codes "10.0.0.0/8 b") (record { addr = 167772160; len = 8 }, 1, 1)
unfolding digits
is_least_attachment = (
  record { prefix = codes "10.0.0.0/8"; name = codes "b"; router = 1; cost = 1; words = inr (refl, refl); has_prefix = λ e. cc; known = refl; small = omega arith },
  (record { short = omega arith; fits = omega arith; no_host_bits = refl }, refl),
  refl,
  refl,
  record { positive = omega arith; small = omega arith },
)

-- ---- ports

abbrev directory : Directory
directory = directory_of names links

-- from b's port to a, and past both its ports from its own attachments
across_named : source_at directory 1 0 ≡ Some 0
across_named = refl

itself_named : source_at directory 1 2 ≡ Some 1
itself_named = refl
