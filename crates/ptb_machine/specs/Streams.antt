-- This file passes on what contracts see of a reader and of a writer over a call.
-- Main definitions: `Reads` and `Writes`.
--     Reads, Writes           what is known of a reader and of a writer over a call
--     reads_of, writes_of     the same, of a reader and a writer of the code
pub use Rattle.ptb_text.specs.Streams.{Reads, Writes, reads_of, writes_of}
