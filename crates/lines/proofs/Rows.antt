-- Worked examples: lines for people and as objects of JSON.
use Rattle.std.proofs.Common.{◌≡◌, true, false, [], ◌∷◌, Some, None, codes, refl}
use Rattle.std.specs.Fmt.{digits}
use Rattle.network_model.specs.{declared.route.Entry.TheVariants.Local, declared.route.Entry.TheVariants.Via, declared.trace.Ending.Ending}
use Rattle.script.specs.Directories.{Directory}
use Rattle.lines.specs.{Texts.asked_text, Texts.trace_text, Objects.asked_json, Objects.trace_json, declared.answers.Asked.TheVariants.Lookup, declared.answers.Asked.TheVariants.Packet}

-- a to b, b to c, a to c
abbrev directory : Directory
directory = record { names = codes "a" ∷ codes "b" ∷ codes "c" ∷ []; neighbours = (1 ∷ 2 ∷ []) ∷ (0 ∷ 2 ∷ []) ∷ (1 ∷ 0 ∷ []) ∷ [] }

lookup_found : asked_text directory (Lookup (record { router = 2; addr = 167772161; found = Some (record { addr = 167772160; len = 8 }, Local) })) ≡ codes "lookup c 10.0.0.1: 10.0.0.0/8 local"
unfolding digits
lookup_found = refl

-- b has a across its port 0
packet_found : asked_text directory (Packet 7 (record { router = 1; addr = 167772161; found = Some (record { addr = 167772160; len = 8 }, Via 0 1) })) ≡ codes "packet 7 b 10.0.0.1: 10.0.0.0/8 via a 1"
unfolding digits
packet_found = refl

packet_missed : asked_text directory (Packet 12 (record { router = 0; addr = 0; found = None })) ≡ codes "packet 12 a 0.0.0.0: none"
unfolding digits
packet_missed = refl

packet_object : asked_json directory (Packet 7 (record { router = 1; addr = 167772161; found = Some (record { addr = 167772160; len = 8 }, Via 0 1) }))
    ≡ codes "{\"kind\":\"packet\",\"job\":7,\"router\":\"b\",\"address\":\"10.0.0.1\",\"prefix\":\"10.0.0.0/8\",\"entry\":\"via\",\"neighbour\":\"a\",\"session\":1}"
unfolding digits
packet_object = refl

trace_lost : trace_text directory 2 167772161 false (2 ∷ 1 ∷ []) Ending.DeadLink ≡ codes "trace c 10.0.0.1: c b dead link"
unfolding digits
trace_lost = refl

trace_missed : trace_text directory 0 0 false (0 ∷ []) Ending.NoRoute ≡ codes "trace a 0.0.0.0: a no route"
unfolding digits
trace_missed = refl

trace_through : trace_text directory 2 167772161 true (2 ∷ 1 ∷ []) Ending.Delivered ≡ codes "trace c 10.0.0.1 --through: c b delivered"
unfolding digits
trace_through = refl

trace_object : trace_json directory 0 0 true (0 ∷ 1 ∷ []) Ending.NoRoute
    ≡ codes "{\"kind\":\"trace\",\"router\":\"a\",\"address\":\"0.0.0.0\",\"through\":true,\"path\":[\"a\",\"b\"],\"end\":\"no route\"}"
unfolding digits
trace_object = refl
