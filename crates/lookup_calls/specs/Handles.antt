-- What handles hold.
use Rattle.std.specs.Prelude.{Option}
use Rattle.row_words.specs.Rows.{WordTable}
use Rattle.c_interface.specs.Handles.{held}
use Rattle.lookup_calls.specs.Histories.{Published}
use Rattle.lookup_calls.specs.{declared.handle.ImageHandle.ImageHandle, declared.reader_handle.ReaderHandle.ReaderHandle, declared.writer_handle.WriterHandle.WriterHandle}

-- the image that a handle holds, if any
abbrev pub handle_image : ImageHandle → Option WordTable
handle_image h = held h.holds h.value

-- the images that the writer of a handle has published, if it holds one
abbrev pub handle_writer : WriterHandle → Option Published
handle_writer h = held h.holds h.value

-- the images that had been published when the one was that the reader of a handle saw last, if it holds one
abbrev pub handle_reader : ReaderHandle → Option Published
handle_reader h = held h.holds h.value
