-- Elements of lists that are read.
use Rattle.std.proofs.Common.{sym, ap, ◌∙◌, ◌≡◌, ℕ, ◌<◌, List, length, Some, slice_get, get_or}
use Rattle.no_packet_loops.proofs.Common.{slice_get-get_or}

-- an element that is read at its place
pub read_at : {A : Type 0} (xs : List A) (i k : ℕ) (x : A) → k < length xs → x ≡ get_or xs k x → k ≡ i → slice_get xs i ≡ Some x
read_at xs i k x within read place = ap (slice_get xs) (sym place) ∙ slice_get-get_or xs k x within ∙ ap Some (sym read)
