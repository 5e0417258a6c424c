-- What the daemon knows about pools.
pub mod KnownKept
pub mod KnownLines
pub mod KnownJudged
pub mod Known
pub mod KnownOpen
pub mod KnownBuilt
