-- what a reader must believe: chains of C's calls, and what their numbers say
pub mod InNumbers
