-- The lines of prefixes, and of the routers that are attached to them.
use Rattle.std.specs.Prelude.{◌≡◌, ◌≢◌, ℕ, ◌^◌, ◌<◌, ◌⊎◌, List, [], ◌∷◌, Some, decimal}
use Rattle.ipv4_prefix.specs.{Prefix.Prefix, Faults.SpellsPrefix, Faults.IsFirstFault}
use Rattle.metric.specs.Distance.{IsCost}
use Rattle.script.specs.{declared.fault.LineFault.LineFault, declared.fault.LineFault.TheVariants.BadLine, declared.fault.LineFault.TheVariants.BadCost, declared.fault.LineFault.TheVariants.Prefix as OfPrefix, Routers.router_number}
use Rattle.texts.specs.Words.{Text, words_of}

-- the words of a line: a prefix, a router's name, and the cost of its attachment, which is 1 where the line does not say it
abbrev pub AreWords : Text → Text → Text → ℕ → Type 0
AreWords line prefix name cost =
    (words_of line ≡ prefix ∷ name ∷ decimal cost ∷ []) ⊎ ((words_of line ≡ prefix ∷ name ∷ []) × (cost ≡ 1))

-- a line of a prefix that is not empty, the name of a router, and a number of 32 bits
pub record AttachmentLine (names : List Text) (line : Text) : Type 0 where
  pub prefix : Text
  pub name : Text
  pub router : ℕ
  pub cost : ℕ
  pub words : AreWords line prefix name cost
  pub has_prefix : prefix ≢ []
  pub known : router_number names name ≡ Some router
  pub small : cost < 2 ^ 32

-- the attachment that a line says: a prefix, its router, and its cost
abbrev pub IsAttachment : List Text → Text → Prefix × ℕ × ℕ → Type 0
IsAttachment names line a = (l : AttachmentLine names line) × SpellsPrefix l.prefix a.0 × (a.1 ≡ l.router) × (a.2 ≡ l.cost) × IsCost l.cost

-- why a line says no attachment: its words, or else its prefix, or else its cost
abbrev pub IsAttachmentFault : List Text → Text → LineFault → Type 0
IsAttachmentFault names line BadLine = ¬ (AttachmentLine names line)
IsAttachmentFault names line (OfPrefix fault) = (l : AttachmentLine names line) × IsFirstFault l.prefix fault
IsAttachmentFault names line BadCost = (l : AttachmentLine names line) × (prefix : Prefix) × SpellsPrefix l.prefix prefix × ¬ (IsCost l.cost)
IsAttachmentFault names line _ = ⊥
