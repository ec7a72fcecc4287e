pub mod Records
pub mod Sets
pub mod Differences
pub mod Version1
pub mod Answers
pub mod Numbers
pub mod Asked
pub mod Lazy
