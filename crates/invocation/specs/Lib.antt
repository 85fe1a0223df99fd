-- What an order asks of standard input and of standard output, and the version.
pub mod Files
pub mod Version
