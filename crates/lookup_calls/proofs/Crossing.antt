-- Images, writers and readers go to other threads.
use denote.Param.Send.{IsSend, IsSync, sendable}
use Rattle.std.proofs.Crossing.{frees, crosses}
use Rattle.std_alloc.proofs.arc.Arc.TheSendSync as arc
use Rattle.std_alloc.proofs.vec.Vec.TheSendSync as vec
use Rattle.std_heap.proofs.Global.TheSendSync as heap
use Rattle.array_bitmap.proofs.image.Image.TheSendSync as tree
use Rattle.row_words.proofs.image.WordImage.TheSendSync as words
use Rattle.logbook.proofs.word.Word.TheSendSync as word
use Rattle.counted_slot.proofs.Counted.TheSendSync as counted
use Rattle.receipts.proofs.receipt.Receipt.TheSendSync as receipt
use Rattle.lookup_calls.specs.contracts.change.Change as Change
use Rattle.lookup_calls.specs.contracts.kept.Kept as Kept
use Rattle.lookup_calls.specs.contracts.shared.Shared as Shared
use Rattle.lookup_calls.specs.contracts.board.Page as Page
use Rattle.lookup_calls.specs.contracts.board.Place as Place
use Rattle.lookup_calls.specs.contracts.board.Board as Board
use Rattle.lookup_calls.specs.contracts.writer.ImageWriter as Writer
use Rattle.lookup_calls.specs.contracts.reader.ImageReader as Reader

kept_send : IsSend Kept.the_row
kept_send = search (sendable, crosses, tree.the_send, words.the_send, heap.the_send, frees) depth 40

kept_sync : IsSync Kept.the_row
kept_sync = search (sendable, crosses, tree.the_sync, words.the_sync, heap.the_sync) depth 40

pub shared_send : IsSend Shared.the_row
shared_send = search (sendable, crosses, arc.the_send, kept_send, kept_sync, frees) depth 40

shared_sync : IsSync Shared.the_row
shared_sync = search (sendable, crosses, arc.the_sync, kept_send, kept_sync, frees) depth 40

page_send : IsSend Page.the_row
page_send = search (sendable, crosses, receipt.the_send, shared_send) depth 40

page_sync : IsSync Page.the_row
page_sync = search (sendable, crosses, receipt.the_sync, shared_sync) depth 40

place_send : IsSend Place.the_row
place_send = search (sendable, crosses, counted.the_send, page_send) depth 40

place_sync : IsSync Place.the_row
place_sync = search (sendable, crosses, counted.the_sync, page_send, page_sync) depth 40

board_send : IsSend Board.the_row
board_send = search (sendable, crosses, vec.the_send, place_send, frees) depth 40

board_sync : IsSync Board.the_row
board_sync = search (sendable, crosses, vec.the_sync, place_sync) depth 40

change_send : IsSend Change.the_row
change_send = search (sendable, crosses, vec.the_send, frees) depth 40

pub writer_sends : IsSend Writer.the_row
writer_sends = search (sendable, crosses, arc.the_send, word.the_send, board_send, board_sync, shared_send, receipt.the_send, change_send, frees) depth 40

pub reader_sends : IsSend Reader.the_row
reader_sends = search (sendable, crosses, arc.the_send, board_send, board_sync, receipt.the_send, frees) depth 40
