pub mod VerdictLine
