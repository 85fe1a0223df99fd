-- What the words of a command line ask for, and what is done.
pub mod Lists
pub mod Told
pub mod Runs
pub mod Judged
