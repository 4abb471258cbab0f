-- The origin state of a computation: how it began, and what has happened since.
use Rattle.std.specs.Prelude.{ℕ, Bool, true, false}
use Rattle.diffusing_replies.specs.declared.origin.Origin.{Origin}
use Rattle.diffusing_replies.specs.declared.origin.Origin.TheVariants.{OwnDisturbed, Own, OwingDisturbed, Owing}

-- the number of a state
abbrev pub origin_number : Origin → ℕ
origin_number OwnDisturbed = 0
origin_number Own = 1
origin_number OwingDisturbed = 2
origin_number Owing = 3

-- whether a reply is owed
abbrev pub owes_reply : Origin → Bool
owes_reply OwnDisturbed = false
owes_reply Own = false
owes_reply OwingDisturbed = true
owes_reply Owing = true

-- ---- the table, a column each

-- the distance by way of the successor is above the one with which the computation began
abbrev pub rose : Origin → Origin
rose OwnDisturbed = OwnDisturbed
rose Own = OwnDisturbed
rose OwingDisturbed = OwingDisturbed
rose Owing = OwingDisturbed

-- a query came from the successor
abbrev pub queried : Origin → Origin
queried o = OwingDisturbed

-- the successor's link is lost, and with it what was owed there
abbrev pub lost : Origin → Origin
lost o = OwnDisturbed

-- ---- the end of a computation

-- whether the source node condition may fail then, and has to be tested
abbrev pub needs_test : Origin → Bool
needs_test OwnDisturbed = true
needs_test Own = false
needs_test OwingDisturbed = true
needs_test Owing = false

-- the state of the computation that begins where it fails: a reply owed is owed still
abbrev pub restart : Origin → Origin
restart OwnDisturbed = Own
restart Own = Own
restart OwingDisturbed = Owing
restart Owing = Owing
