-- Messages as C has them.
use Rattle.std.specs.Prelude.{ℕ}
use Rattle.metric.specs.{declared.kind.Kind.Kind, declared.kind.Kind.TheVariants.Update, declared.kind.Kind.TheVariants.Query, declared.kind.Kind.TheVariants.Reply}
use Rattle.network_model.specs.declared.item.Held.{Held}
use Rattle.single_router.specs.declared.frame.Frame.{Frame}

-- the number by which C knows a kind
abbrev pub message_kind_number : Kind → ℕ
message_kind_number Update = 0
message_kind_number Query = 1
message_kind_number Reply = 2

-- the frame of a message that a router holds
abbrev pub frame_of : Held → Frame
frame_of h = record {
  addr = ((h.message).prefix).addr;
  value = (h.message).value;
  session = h.session;
  len = ((h.message).prefix).len;
  kind = message_kind_number (h.message).kind;
  port = h.port;
}
