pub mod AtomReader
