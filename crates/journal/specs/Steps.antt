-- The steps of a journal as lines.
use Rattle.std.specs.Prelude.{ℕ, List, ◌++◌, Option, Some, option_map, slice_get, codes, decimal}
use Rattle.ipv4_prefix.specs.{Prefix.Prefix, Texts.prefix_text}
use Rattle.network_model.specs.{declared.network.LinkSpec.LinkSpec, declared.step.Step.Step}
use Rattle.network_model.specs.declared.step.Step.TheVariants.{LinkUp, LinkDown, SetCost, Deliver, Publish, Release, Attach, Detach}
use Rattle.texts.specs.{Words.Text, Words.words_of, Lines.lines_text}
use Rattle.script.specs.Commands.{AsksStep}
use Rattle.script.specs.Directories.{Directory, name_text, neighbour_at, source_at}

-- the routers at the ends of a link
abbrev pub end_a : List LinkSpec → ℕ → Option ℕ
end_a links link = option_map (λ s. s.a) (slice_get links link)

-- likewise the router at its end B
abbrev pub end_b : List LinkSpec → ℕ → Option ℕ
end_b links link = option_map (λ s. s.b) (slice_get links link)

-- the names of the routers at the ends of a link
abbrev pub ends_text : Directory → List LinkSpec → ℕ → Text
ends_text d links link = name_text d (end_a links link) ++ codes " " ++ name_text d (end_b links link)

-- the names of a router and of the one across its port
abbrev pub port_text : Directory → ℕ → ℕ → Text
port_text d router port = name_text d (Some router) ++ codes " " ++ name_text d (neighbour_at d router port)

-- the names of a router and of the one from which it takes at its port
abbrev pub delivery_text : Directory → ℕ → ℕ → Text
delivery_text d router port = name_text d (Some router) ++ codes " " ++ name_text d (source_at d router port)

-- the name of a router, and a prefix
abbrev pub home_text : Directory → ℕ → Prefix → Text
home_text d router prefix = name_text d (Some router) ++ codes " " ++ prefix_text prefix

-- a step as a line: the verb, the names of its routers, its prefix, and its cost
abbrev pub step_text : Directory → List LinkSpec → Step → Text
step_text d links (LinkUp link) = codes "up " ++ ends_text d links link
step_text d links (LinkDown link) = codes "down " ++ ends_text d links link
step_text d links (SetCost router port cost) = codes "cost " ++ port_text d router port ++ codes " " ++ decimal cost
step_text d links (Deliver router port) = codes "deliver " ++ delivery_text d router port
step_text d links (Publish router) = codes "publish " ++ name_text d (Some router)
step_text d links (Release router) = codes "release " ++ name_text d (Some router)
step_text d links (Attach router prefix cost) = codes "attach " ++ home_text d router prefix ++ codes " " ++ decimal cost
step_text d links (Detach router prefix) = codes "detach " ++ home_text d router prefix

-- steps, a line each
abbrev pub steps_text : Directory → List LinkSpec → List Step → Text
steps_text d links steps = lines_text (step_text d links) steps

-- a line says a step
abbrev pub SaysStep : List Text → List LinkSpec → List (Prefix × ℕ × ℕ) → Text → Step → Type 0
SaysStep names links attachments line s = AsksStep names links attachments (words_of line) s
