-- The lines of the script.
use Rattle.std.specs.Prelude.{◌≡◌, ◌≢◌, ℕ, ◌^◌, ◌<◌, ◌⊎◌, List, [], ◌∷◌, Option, Some, option_map, slice_get, position, take, Contains, codes, decimal}
use Rattle.ipv4_prefix.specs.Faults.{SpellsAddress, IsAddressText, SpellsPrefix, IsFirstFault}
use Rattle.ipv4_prefix.specs.{Prefix.Prefix, declared.fault.PrefixFault.PrefixFault, declared.fault.PrefixFault.TheVariants.BadAddress}
use Rattle.metric.specs.Distance.{IsCost}
use Rattle.network_model.specs.{declared.network.LinkSpec.LinkSpec, declared.step.Step.Step, Network.program_limits, Network.degree, Network.joins, World.places_from}
use Rattle.network_model.specs.declared.step.Step.TheVariants.{LinkUp, LinkDown, SetCost, Deliver, Publish, Release, Attach, Detach}
use Rattle.script.specs.{declared.command.Command.Command, declared.fault.LineFault.LineFault, declared.fault.LineFault.TheVariants.BadCommand, declared.fault.LineFault.TheVariants.BadCost, declared.fault.LineFault.TheVariants.Prefix as OfPrefix, Routers.router_number}
use Rattle.texts.specs.Words.{Text, words_of}

-- ---- links and ports

-- the link of two routers: the first that joins them, of as many as a network can have
abbrev pub link_between : ℕ → ℕ → List LinkSpec → Option ℕ
link_between a b links = position (joins a b) (take program_limits.links links)

-- the router's port lies on the link, in a network of these links
abbrev pub IsPortOn : List LinkSpec → ℕ → ℕ → ℕ → Type 0
IsPortOn links router link port = option_map (λ p. p.link) (slice_get (places_from 0 router links) port) ≡ Some link

-- the same as a number: as many earlier links touch the router
abbrev pub port_on : ℕ → ℕ → List LinkSpec → ℕ
port_on router link links = degree router (take link links)

-- ---- what words name

-- the words name a router after the verb
pub record NamesRouter (names : List Text) (verb : Text) (words : List Text) (router : ℕ) : Type 0 where
  pub name : Text
  pub spelled : words ≡ verb ∷ name ∷ []
  pub known : router_number names name ≡ Some router

-- the two names are those of a router and of another, and the link is theirs
pub record NamesWay (names : List Text) (links : List LinkSpec) (name neighbour : Text) (router link : ℕ) : Type 0 where
  pub far : ℕ
  pub known : router_number names name ≡ Some router
  pub far_known : router_number names neighbour ≡ Some far
  pub joined : link_between router far links ≡ Some link

-- the words name two routers after the verb, and the link is theirs
pub record NamesLink (names : List Text) (links : List LinkSpec) (verb : Text) (words : List Text) (router link : ℕ) : Type 0 where
  pub name : Text
  pub neighbour : Text
  pub spelled : words ≡ verb ∷ name ∷ neighbour ∷ []
  pub way : NamesWay names links name neighbour router link

-- the words name two routers after the verb, the link is theirs, and then comes the decimal text of a number of 32 bits
pub record NamesNumber (names : List Text) (links : List LinkSpec) (verb : Text) (words : List Text) (router link number : ℕ) : Type 0 where
  pub name : Text
  pub neighbour : Text
  pub spelled : words ≡ verb ∷ name ∷ neighbour ∷ decimal number ∷ []
  pub way : NamesWay names links name neighbour router link
  pub small : number < 2 ^ 32

-- the words name a router, and then a text that is not empty, after the verb
pub record NamesText (names : List Text) (verb : Text) (words : List Text) (router : ℕ) (text : Text) : Type 0 where
  pub name : Text
  pub spelled : words ≡ verb ∷ name ∷ text ∷ []
  pub has_text : text ≢ []
  pub known : router_number names name ≡ Some router

-- the words name a router twice after the verb
pub record NamesTwice (names : List Text) (verb : Text) (words : List Text) (router : ℕ) : Type 0 where
  pub name : Text
  pub spelled : words ≡ verb ∷ name ∷ name ∷ []
  pub known : router_number names name ≡ Some router

-- the words name a router, then a text that is not empty, and then the decimal text of a number of 32 bits, after the verb
pub record NamesTextAndNumber (names : List Text) (verb : Text) (words : List Text) (router : ℕ) (text : Text) (number : ℕ) : Type 0 where
  pub name : Text
  pub spelled : words ≡ verb ∷ name ∷ text ∷ decimal number ∷ []
  pub has_text : text ≢ []
  pub known : router_number names name ≡ Some router
  pub small : number < 2 ^ 32

-- the prefix is one of the network's: some router is attached to it at the opening
abbrev pub IsKnownPrefix : List (Prefix × ℕ × ℕ) → Prefix → Type 0
IsKnownPrefix attachments prefix = (router cost : ℕ) × Contains attachments (prefix, router, cost)

-- the words name a router, and then a prefix of the network, after the verb
abbrev pub NamesPrefix : List Text → List (Prefix × ℕ × ℕ) → Text → List Text → ℕ → Prefix → Type 0
NamesPrefix names attachments verb words router prefix =
    (text : Text) × NamesText names verb words router text × SpellsPrefix text prefix × IsKnownPrefix attachments prefix

-- the words name a router after the verb, and the text that follows has the fault of a prefix
abbrev pub NamesBadPrefix : List Text → Text → List Text → PrefixFault → Type 0
NamesBadPrefix names verb words fault = (router : ℕ) × (text : Text) × NamesText names verb words router text × IsFirstFault text fault

-- why the words name no router and prefix after the verb: the fault of the prefix's text, or else that there is neither
abbrev pub NamesNoPrefix : List Text → List (Prefix × ℕ × ℕ) → Text → List Text → LineFault → Type 0
NamesNoPrefix names attachments verb words BadCommand =
    ((router : ℕ) (prefix : Prefix) → ¬ (NamesPrefix names attachments verb words router prefix))
    × ((fault : PrefixFault) → ¬ (NamesBadPrefix names verb words fault))
NamesNoPrefix names attachments verb words (OfPrefix fault) = NamesBadPrefix names verb words fault
NamesNoPrefix names attachments verb words _ = ⊥

-- the words name a router, and then an address, after the verb
abbrev pub NamesAddress : List Text → Text → List Text → ℕ → ℕ → Type 0
NamesAddress names verb words router addr = (text : Text) × NamesText names verb words router text × SpellsAddress text addr

-- the words name a router after the verb, but what follows is no address
abbrev pub NamesBadAddress : List Text → Text → List Text → Type 0
NamesBadAddress names verb words = (router : ℕ) × (text : Text) × NamesText names verb words router text × ¬ (IsAddressText text)

-- the words name a router, then a text that is not empty, and then `--through`, after `trace`
pub record NamesThrough (names : List Text) (words : List Text) (router : ℕ) (text : Text) : Type 0 where
  pub name : Text
  pub spelled : words ≡ codes "trace" ∷ name ∷ text ∷ codes "--through" ∷ []
  pub has_text : text ≢ []
  pub known : router_number names name ≡ Some router

-- the words name a router and an address to trace through
abbrev pub AsksThrough : List Text → List Text → ℕ → ℕ → Type 0
AsksThrough names words router addr = (text : Text) × NamesThrough names words router text × SpellsAddress text addr

-- the words name a router to trace from through, but what follows is no address
abbrev pub AsksBadThrough : List Text → List Text → Type 0
AsksBadThrough names words = (router : ℕ) × (text : Text) × NamesThrough names words router text × ¬ (IsAddressText text)

-- why the words name no router and address after the verb
abbrev pub NamesNoAddress : List Text → Text → List Text → LineFault → Type 0
NamesNoAddress names verb words BadCommand = (router : ℕ) (text : Text) → ¬ (NamesText names verb words router text)
NamesNoAddress names verb words (OfPrefix fault) = (fault ≡ BadAddress) × NamesBadAddress names verb words
NamesNoAddress names verb words _ = ⊥

-- why words ask for no trace
abbrev pub AsksNoTrace : List Text → List Text → LineFault → Type 0
AsksNoTrace names words BadCommand =
    ((router : ℕ) (text : Text) → ¬ (NamesText names (codes "trace") words router text)) × ((router : ℕ) (text : Text) → ¬ (NamesThrough names words router text))
AsksNoTrace names words (OfPrefix fault) = (fault ≡ BadAddress) × (NamesBadAddress names (codes "trace") words ⊎ AsksBadThrough names words)
AsksNoTrace names words _ = ⊥

-- the words are `try`, and then words that ask for something
abbrev pub Tries : (List Text → Type 0) → List Text → Type 0
Tries AskFor words = (after : List Text) × (words ≡ codes "try" ∷ after) × AskFor after

-- ---- steps

-- the words ask to set the cost at a router's port to a number, which need not be a cost
abbrev pub AsksCost : List Text → List LinkSpec → List Text → ℕ → ℕ → ℕ → Type 0
AsksCost names links words router port number =
    (link : ℕ) × NamesNumber names links (codes "cost") words router link number × IsPortOn links router link port × (port < 256)

-- the words ask to set a number that is no cost
abbrev pub AsksBadCost : List Text → List LinkSpec → List Text → Type 0
AsksBadCost names links words = (router port number : ℕ) × AsksCost names links words router port number × ¬ (IsCost number)

-- why words ask to set no cost
abbrev pub AsksNoCost : List Text → List LinkSpec → List Text → LineFault → Type 0
AsksNoCost names links words BadCommand = (router port number : ℕ) → ¬ (AsksCost names links words router port number)
AsksNoCost names links words BadCost = AsksBadCost names links words
AsksNoCost names links words _ = ⊥

-- the words ask to take from a router's port on its link to another
abbrev pub TakesFromLink : List Text → List LinkSpec → List Text → ℕ → ℕ → Type 0
TakesFromLink names links words router port =
    (link : ℕ) × (n : NamesLink names links (codes "deliver") words router link) × (n.name ≢ n.neighbour) × IsPortOn links router link port

-- the words ask to take from the port of a router's own attachments, which its degree numbers
abbrev pub TakesAtHome : List Text → List LinkSpec → List Text → ℕ → ℕ → Type 0
TakesAtHome names links words router port = NamesTwice names (codes "deliver") words router × (port ≡ degree router links)

-- the words ask to take from a router's port
abbrev pub AsksDelivery : List Text → List LinkSpec → List Text → ℕ → ℕ → Type 0
AsksDelivery names links words router port = (TakesFromLink names links words router port ⊎ TakesAtHome names links words router port) × (port < 256)

-- the words ask to attach a router to a prefix of the network at a cost
abbrev pub AsksAttachment : List Text → List (Prefix × ℕ × ℕ) → List Text → ℕ → Prefix → ℕ → Type 0
AsksAttachment names attachments words router prefix cost =
    (text : Text) × NamesTextAndNumber names (codes "attach") words router text cost × SpellsPrefix text prefix × IsCost cost × IsKnownPrefix attachments prefix

-- the words ask to attach a router, but the text of the prefix has a fault, or, where it has none, the number is no cost
abbrev pub AsksBadAttachment : List Text → List Text → LineFault → Type 0
AsksBadAttachment names words (OfPrefix fault) =
    (router number : ℕ) × (text : Text) × NamesTextAndNumber names (codes "attach") words router text number × IsFirstFault text fault
AsksBadAttachment names words BadCost =
    (router number : ℕ) × (text : Text) × (prefix : Prefix) × NamesTextAndNumber names (codes "attach") words router text number × SpellsPrefix text prefix × ¬ (IsCost number)
AsksBadAttachment names words _ = ⊥

-- why words ask to attach no router: the fault of a value, or else that there is neither
abbrev pub AsksNoAttachment : List Text → List (Prefix × ℕ × ℕ) → List Text → LineFault → Type 0
AsksNoAttachment names attachments words BadCommand =
    ((router : ℕ) (prefix : Prefix) (cost : ℕ) → ¬ (AsksAttachment names attachments words router prefix cost))
    × ((fault : LineFault) → ¬ (AsksBadAttachment names words fault))
AsksNoAttachment names attachments words fault = AsksBadAttachment names words fault

-- the words ask for the step
abbrev pub AsksStep : List Text → List LinkSpec → List (Prefix × ℕ × ℕ) → List Text → Step → Type 0
AsksStep names links attachments words (LinkUp link) = (router : ℕ) × NamesLink names links (codes "up") words router link
AsksStep names links attachments words (LinkDown link) = (router : ℕ) × NamesLink names links (codes "down") words router link
AsksStep names links attachments words (SetCost router port cost) = AsksCost names links words router port cost × IsCost cost
AsksStep names links attachments words (Deliver router port) = AsksDelivery names links words router port
AsksStep names links attachments words (Publish router) = NamesRouter names (codes "publish") words router
AsksStep names links attachments words (Release router) = NamesRouter names (codes "release") words router
AsksStep names links attachments words (Attach router prefix cost) = AsksAttachment names attachments words router prefix cost
AsksStep names links attachments words (Detach router prefix) = NamesPrefix names attachments (codes "detach") words router prefix

-- the words ask for a step, but the cost or the prefix in it is none
abbrev pub AsksBadStep : List Text → List LinkSpec → List Text → LineFault → Type 0
AsksBadStep names links words BadCost = AsksBadCost names links words ⊎ AsksBadAttachment names words BadCost
AsksBadStep names links words (OfPrefix fault) = NamesBadPrefix names (codes "detach") words fault ⊎ AsksBadAttachment names words (OfPrefix fault)
AsksBadStep names links words _ = ⊥

-- why words ask for no step: the fault of a value, or else that there is neither a step nor such a fault
abbrev pub AsksNoStep : List Text → List LinkSpec → List (Prefix × ℕ × ℕ) → List Text → LineFault → Type 0
AsksNoStep names links attachments words BadCommand =
    ((step : Step) → ¬ (AsksStep names links attachments words step)) × ((fault : LineFault) → ¬ (AsksBadStep names links words fault))
AsksNoStep names links attachments words fault = AsksBadStep names links words fault

-- ---- commands

-- the words are `queue`, and then those by which `deliver` takes from the router's port
abbrev pub AsksQueue : List Text → List LinkSpec → List Text → ℕ → ℕ → Type 0
AsksQueue names links words router port = (after : List Text) × (words ≡ codes "queue" ∷ after) × AsksDelivery names links (codes "deliver" ∷ after) router port

-- the words are `settle`, `--seed`, and the decimal text of a number of 32 bits
pub record AsksDrawn (words : List Text) (seed : ℕ) : Type 0 where
  pub spelled : words ≡ codes "settle" ∷ codes "--seed" ∷ decimal seed ∷ []
  pub small : seed < 2 ^ 32

-- the words ask for the command
abbrev pub Asks : List Text → List LinkSpec → List (Prefix × ℕ × ℕ) → List Text → Command → Type 0
Asks names links attachments words (Command.Step step) = AsksStep names links attachments words step
Asks names links attachments words (Command.Try step) = Tries (λ after. AsksStep names links attachments after step) words
Asks names links attachments words (Command.RouterUp router) = NamesRouter names (codes "up") words router
Asks names links attachments words (Command.RouterDown router) = NamesRouter names (codes "down") words router
Asks names links attachments words Command.Settle = words ≡ codes "settle" ∷ []
Asks names links attachments words (Command.SettleDrawn seed) = AsksDrawn words seed
Asks names links attachments words Command.Count = words ≡ codes "count" ∷ []
Asks names links attachments words Command.Save = words ≡ codes "save" ∷ []
Asks names links attachments words Command.Restore = words ≡ codes "restore" ∷ []
Asks names links attachments words (Command.State router prefix) = NamesPrefix names attachments (codes "state") words router prefix
Asks names links attachments words (Command.Table router) = NamesRouter names (codes "table") words router
Asks names links attachments words (Command.Next router) = NamesRouter names (codes "next") words router
Asks names links attachments words (Command.Queue router port) = AsksQueue names links words router port
Asks names links attachments words (Command.Held router) = NamesRouter names (codes "held") words router
Asks names links attachments words (Command.Lookup router addr) = NamesAddress names (codes "lookup") words router addr
Asks names links attachments words (Command.Inject router addr) = NamesAddress names (codes "inject") words router addr
Asks names links attachments words (Command.Trace router addr) = NamesAddress names (codes "trace") words router addr
Asks names links attachments words (Command.TraceThrough router addr) = AsksThrough names words router addr
Asks names links attachments words Command.Drain = words ≡ codes "drain" ∷ []
Asks names links attachments words Command.Report = words ≡ codes "report" ∷ []

-- the words ask for a trace
abbrev pub AsksTrace : List Text → List Text → Command → Type 0
AsksTrace names words (Command.Trace router addr) = NamesAddress names (codes "trace") words router addr
AsksTrace names words (Command.TraceThrough router addr) = AsksThrough names words router addr
AsksTrace names words _ = ⊥

-- the command that a line says
abbrev pub IsCommand : List Text → List LinkSpec → List (Prefix × ℕ × ℕ) → Text → Command → Type 0
IsCommand names links attachments line command = Asks names links attachments (words_of line) command

-- the verbs of the commands that name a router and an address
abbrev pub address_verbs : List Text
address_verbs = codes "lookup" ∷ codes "inject" ∷ codes "trace" ∷ []

-- the words ask for a command that names an address, but what stands in its place is none
abbrev pub AsksBadAddress : List Text → List Text → Type 0
AsksBadAddress names words = ((verb : Text) × Contains address_verbs verb × NamesBadAddress names verb words) ⊎ AsksBadThrough names words

-- the words ask for a machine's state, or for a command that names an address, but the prefix or the address in it is none
abbrev pub AsksBadQuestion : List Text → List Text → LineFault → Type 0
AsksBadQuestion names words (OfPrefix fault) =
    NamesBadPrefix names (codes "state") words fault ⊎ ((fault ≡ BadAddress) × AsksBadAddress names words)
AsksBadQuestion names words _ = ⊥

-- the words ask for a command, but the cost, the prefix or the address in it is none
abbrev pub HasBadValue : List Text → List LinkSpec → List Text → LineFault → Type 0
HasBadValue names links words fault =
    AsksBadStep names links words fault ⊎ Tries (λ after. AsksBadStep names links after fault) words ⊎ AsksBadQuestion names words fault

-- why words ask for no command: the fault of a value, or else that there is neither a command nor such a fault
abbrev pub AsksNothing : List Text → List LinkSpec → List (Prefix × ℕ × ℕ) → List Text → LineFault → Type 0
AsksNothing names links attachments words BadCommand =
    ((command : Command) → ¬ (Asks names links attachments words command)) × ((fault : LineFault) → ¬ (HasBadValue names links words fault))
AsksNothing names links attachments words fault = HasBadValue names links words fault

-- why a line says no command
abbrev pub IsCommandFault : List Text → List LinkSpec → List (Prefix × ℕ × ℕ) → Text → LineFault → Type 0
IsCommandFault names links attachments line fault = AsksNothing names links attachments (words_of line) fault
