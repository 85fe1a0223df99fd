-- What is asked for at a terminal.
pub mod Requests
