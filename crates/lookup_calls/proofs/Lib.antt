pub mod Listing
pub mod Beginnings
pub mod Crossing
pub mod AnswerRows
pub mod Wordless
pub mod Words
pub mod ReaderWords
pub mod WriterWords
