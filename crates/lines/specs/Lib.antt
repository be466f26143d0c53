-- what a reader must believe: the words, the lines, what is put of an answer
pub mod Words
pub mod Lines
pub mod Told
